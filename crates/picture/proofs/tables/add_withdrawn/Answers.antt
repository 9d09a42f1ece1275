use Rattle.std.proofs.Common.{ℕ, ◌≡◌, List, ◌++◌, codes, decimal, Some, sym, subst}
use Rattle.picture.specs.Tables.{withdrawn_text}
use Rattle.picture.proofs.Adding.{more}
use Rattle.picture.proofs.tables.add_withdrawn.Goals as goal

pub returns-in-Some-clause-text : goal.returns-in-Some-clause-text
returns-in-Some-clause-text c =
    let old = c.args.line.now in
    let p1 : List ℕ = codes "<text x=\"340\" y=\"10\">withdrawn " in
    let e1 : c.text.new.self ≡ old ++ p1 = c.text.ensures.text in
    let p2 : List ℕ = decimal c.in-Some.withdrawn in
    let q2 = p1 ++ p2 in
    let e2 : c.number.new.self ≡ old ++ q2 = more old c.text.new.self c.number.new.self p1 p2 e1 c.number.ensures.text in
    let p3 : List ℕ = codes "</text>" in
    let told : c.text-in-Some.new.self ≡ old ++ withdrawn_text (Some c.in-Some.withdrawn) =
    more old c.number.new.self c.text-in-Some.new.self q2 p3 e2 c.text-in-Some.ensures.text in
    subst (λ o. c.text-in-Some.new.self ≡ old ++ withdrawn_text o) (sym c.in-Some.is) told
