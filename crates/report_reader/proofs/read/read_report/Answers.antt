use Rattle.std.proofs.Common.{◌≡◌, ℕ, ◌-◌, List, [], ◌∷◌, ◌++◌, length, take, get_or, sym, ap, ◌∙◌, arith}
use Rattle.std.specs.Borrow.{Bor}
use Rattle.std.specs.Prelude.{map}
use Rattle.report_reader.specs.Report.{text_lines}
use Rattle.report_reader.proofs.ReadingText.{but_last, answered}
use Rattle.report_reader.proofs.read.read_report.Goals as goal

abbrev now : List (Bor (List ℕ)) → List (List ℕ)
now parts = map (λ (p : Bor (List ℕ)). p.now) parts

pub returns : goal.returns
returns g c =
    let items = c.in-Ok.parts.items in
    let n = c.len-last.result in
    let last = c.index.result.now in
    let len : n ≡ length items = grind arith in
    let split : text_lines c.args.text.now ≡ now (take (n - 1) c.deref.result.now) ++ last.now ∷ [] =
    sym c.in-Ok.ensures.parts ∙ but_last items last c.in-Ok.ensures.some
    ∙ (λ i. now (take (sym len i - 1) (sym c.deref.ensures.value i)) ++ (get_or items (sym len i - 1) last).now ∷ [])
    ∙ ap (λ (x : Bor (List ℕ)). now (take (n - 1) c.deref.result.now) ++ x.now ∷ []) (sym c.index.ensures) in
    answered c.args.text.now (now (take (n - 1) c.deref.result.now)) last.now c.read_parts.result split c.read_parts.ensures
