use Rattle.std.proofs.Common.{◌≡◌, ◌+◌, ◌-◌, length, take, drop, ap, ◌∙◌, arith, length-drop, take_all}
use lib.Seq.{paste}
use Rattle.std.proofs.lemmas.List.Edits.{take-paste}
use Rattle.bay_book.proofs.row.move_up.Goals as goal

pub returns : goal.returns
returns c =
    let all = c.args.asks.now.items in
    let start = c.args.start in
    let left = c.len-len.result - start in
    let same : left ≡ 0 + left = omega arith in
    let rest : length (drop start all) ≡ left = omega (arith, length-drop start all, c.len-len.ensures) in
    c.truncate.ensures.items ∙ (ap (take left) c.copy_within.ensures.items
    ∙ (ap (λ k. take k (paste all 0 (drop start all) left)) same ∙ (take-paste all 0 (drop start all) left (omega (arith, rest)) (omega arith)
    ∙ take_all left (drop start all) (omega (arith, rest)))))
