use Rattle.std.proofs.Common.{ℕ, ◌≡◌, List, ◌++◌, codes, decimal}
use Rattle.report_reader.specs.Line.{state_word}
use Rattle.picture.proofs.Adding.{more, by_equal}
use Rattle.picture.proofs.tables.add_meals.Goals as goal

pub returns-clause-text : goal.returns-clause-text
returns-clause-text c =
    let old = c.args.line.now in
    let p1 : List ℕ = codes "<text x=\"460\" y=\"10\">meals " in
    let e1 : c.text.new.self ≡ old ++ p1 = c.text.ensures.text in
    let p2 : List ℕ = decimal c.args.job.now.meals in
    let q2 = p1 ++ p2 in
    let e2 : c.number.new.self ≡ old ++ q2 = more old c.text.new.self c.number.new.self p1 p2 e1 c.number.ensures.text in
    let p3 : List ℕ = codes "</text><text x=\"590\" y=\"10\">" in
    let q3 = q2 ++ p3 in
    let e3 : c.text-2.new.self ≡ old ++ q3 = more old c.number.new.self c.text-2.new.self q2 p3 e2 c.text-2.ensures.text in
    let p4 : List ℕ = state_word c.args.job.now.is_retired in
    let told : c.text-3.new.self ≡ c.text-2.new.self
    ++ p4 = by_equal c.text-2.new.self c.text-3.new.self c.state_word.result.now p4 c.text-3.ensures.text c.state_word.ensures.text in
    let q4 = q3 ++ p4 in
    let e4 : c.text-3.new.self ≡ old ++ q4 = more old c.text-2.new.self c.text-3.new.self q3 p4 e3 told in
    let p5 : List ℕ = codes "</text></g>\n" in
    more old c.text-3.new.self c.text-4.new.self q4 p5 e4 c.text-4.ensures.text
