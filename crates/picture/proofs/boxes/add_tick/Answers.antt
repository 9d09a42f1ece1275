use Rattle.std.proofs.Common.{ℕ, ◌≡◌, List, ◌++◌, codes, decimal}
use Rattle.picture.proofs.Adding.{more}
use Rattle.picture.proofs.boxes.add_tick.Goals as goal

pub returns-clause-text : goal.returns-clause-text
returns-clause-text c =
    let old = c.args.line.now in
    let p1 : List ℕ = codes "<path d=\"M" in
    let e1 : c.text.new.self ≡ old ++ p1 = c.text.ensures.text in
    let p2 : List ℕ = decimal c.args.x in
    let q2 = p1 ++ p2 in
    let e2 : c.count.new.self ≡ old ++ q2 = more old c.text.new.self c.count.new.self p1 p2 e1 c.count.ensures.text in
    let p3 : List ℕ = codes " 35v27\" stroke=\"#222\"/>" in
    more old c.count.new.self c.text-2.new.self q2 p3 e2 c.text-2.ensures.text
