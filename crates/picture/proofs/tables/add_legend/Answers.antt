use Rattle.std.proofs.Common.{ℕ, ◌≡◌, List, ◌++◌, codes, decimal, ◌+◌, ◌*◌}
use Rattle.picture.specs.Looks.{name_text, look}
use Rattle.picture.proofs.Adding.{more}
use Rattle.picture.proofs.tables.add_legend.Goals as goal

pub returns-clause-text : goal.returns-clause-text
returns-clause-text c =
    let old = c.args.line.now in
    let p1 : List ℕ = codes "<g transform=\"translate(10 " in
    let e1 : c.text.new.self ≡ old ++ p1 = c.text.ensures.text in
    let p2 : List ℕ = decimal (50 + 70 * c.args.instruments + 20 * c.args.number) in
    let q2 = p1 ++ p2 in
    let e2 : c.count.new.self ≡ old ++ q2 = more old c.text.new.self c.count.new.self p1 p2 e1 c.count.ensures.text in
    let p3 : List ℕ = codes ")\"><path d=\"M0 0h24v12H0z" in
    let q3 = q2 ++ p3 in
    let e3 : c.text-2.new.self ≡ old ++ q3 = more old c.count.new.self c.text-2.new.self q2 p3 e2 c.text-2.ensures.text in
    let p4 : List ℕ = look c.args.number in
    let q4 = q3 ++ p4 in
    let e4 : c.add_look.new.line ≡ old ++ q4 = more old c.text-2.new.self c.add_look.new.line q3 p4 e3 c.add_look.ensures.text in
    let p5 : List ℕ = codes "<text x=\"34\" y=\"10\">" in
    let q5 = q4 ++ p5 in
    let e5 : c.text-3.new.self ≡ old ++ q5 = more old c.add_look.new.line c.text-3.new.self q4 p5 e4 c.text-3.ensures.text in
    let p6 : List ℕ = name_text c.args.job.now.name.now in
    let q6 = q5 ++ p6 in
    let e6 : c.add_name.new.line ≡ old ++ q6 = more old c.text-3.new.self c.add_name.new.line q5 p6 e5 c.add_name.ensures.text in
    let p7 : List ℕ = codes "</text>" in
    more old c.add_name.new.line c.text-4.new.self q6 p7 e6 c.text-4.ensures.text
