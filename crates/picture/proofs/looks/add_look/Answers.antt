use Rattle.std.proofs.Common.{ℕ, ◌≡◌, List, ◌++◌, codes, ◌%◌, ◌/◌}
use Rattle.picture.specs.Looks.{colour, dashes}
use Rattle.picture.proofs.Adding.{more}
use Rattle.picture.proofs.looks.add_look.Goals as goal

pub returns-clause-text : goal.returns-clause-text
returns-clause-text c =
    let old = c.args.line.now in
    let p1 : List ℕ = codes "\" fill=\"" in
    let e1 : c.text.new.self ≡ old ++ p1 = c.text.ensures.text in
    let p2 : List ℕ = colour (c.args.job % 8) in
    let q2 = p1 ++ p2 in
    let e2 : c.add_colour.new.line ≡ old ++ q2 = more old c.text.new.self c.add_colour.new.line p1 p2 e1 c.add_colour.ensures.text in
    let p3 : List ℕ = codes "\" fill-opacity=\"0.5\" stroke=\"#222\"" in
    let q3 = q2 ++ p3 in
    let e3 : c.text-2.new.self ≡ old ++ q3 = more old c.add_colour.new.line c.text-2.new.self q2 p3 e2 c.text-2.ensures.text in
    let p4 : List ℕ = dashes (c.args.job / 8) in
    let q4 = q3 ++ p4 in
    let e4 : c.add_dashes.new.line ≡ old ++ q4 = more old c.text-2.new.self c.add_dashes.new.line q3 p4 e3 c.add_dashes.ensures.text in
    let p5 : List ℕ = codes "/>" in
    more old c.add_dashes.new.line c.text-3.new.self q4 p5 e4 c.text-3.ensures.text
