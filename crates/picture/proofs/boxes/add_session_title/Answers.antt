use Rattle.std.proofs.Common.{ℕ, ◌≡◌, List, ◌++◌, codes, decimal}
use Rattle.picture.specs.Looks.{name_text}
use Rattle.picture.proofs.Adding.{more}
use Rattle.picture.proofs.boxes.add_session_title.Goals as goal

pub returns-clause-text : goal.returns-clause-text
returns-clause-text c =
    let old = c.args.line.now in
    let p1 : List ℕ = codes "<g><title>" in
    let e1 : c.text.new.self ≡ old ++ p1 = c.text.ensures.text in
    let p2 : List ℕ = name_text c.args.entry.now.job.now in
    let q2 = p1 ++ p2 in
    let e2 : c.add_name.new.line ≡ old ++ q2 = more old c.text.new.self c.add_name.new.line p1 p2 e1 c.add_name.ensures.text in
    let p3 : List ℕ = codes " session " in
    let q3 = q2 ++ p3 in
    let e3 : c.text-2.new.self ≡ old ++ q3 = more old c.add_name.new.line c.text-2.new.self q2 p3 e2 c.text-2.ensures.text in
    let p4 : List ℕ = decimal c.args.entry.now.session in
    let q4 = q3 ++ p4 in
    let e4 : c.number.new.self ≡ old ++ q4 = more old c.text-2.new.self c.number.new.self q3 p4 e3 c.number.ensures.text in
    let p5 : List ℕ = codes "</title>" in
    more old c.number.new.self c.text-3.new.self q4 p5 e4 c.text-3.ensures.text
