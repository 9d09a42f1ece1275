use Rattle.std.proofs.Common.{◌≡◌, ℕ, List, ◌++◌, codes}
use Rattle.std.proofs.lemmas.Result.{IfOk-weaker}
use Rattle.round_picture.proofs.Pieces.{two}
use Rattle.round_picture.specs.Gantt.{legend}
use Rattle.round_picture.proofs.gantt.add_legend.Goals as goal

pub returns : goal.returns
unfolding legend
returns g c =
    let old : List ℕ = c.args.out.now.items in
    let q1 : List ℕ = codes "<title>A run by rounds</title>\n<rect width=\"100%\" height=\"100%\" fill=\"#fff\"/>\n<g transform=\"translate(10 10)\">" in
    let e1 : c.add_text.new.out.items ≡ old ++ q1 = c.in_ok-add_text.ensures in
    let t2 : List ℕ = codes "<rect width=\"30\" height=\"16\" fill=\"#fff4d9\" stroke=\"#c77f00\" stroke-dasharray=\"3 2\"/><text x=\"36\" y=\"12\">thirsty</text>" in
    let q2 : List ℕ = q1 ++ t2 in
    let e2 : c.add_text-2.new.out.items ≡ old ++ q2 = two old c.add_text.new.out.items c.add_text-2.new.out.items q1 t2 e1 c.in_ok-add_text-2.ensures in
    let t3 : List ℕ = codes "<rect x=\"100\" width=\"30\" height=\"16\" fill=\"#56b4e9\" stroke=\"#222\"/><text x=\"136\" y=\"12\">session S holds its instruments</text><text x=\"103\" y=\"12\">S</text>" in
    let q3 : List ℕ = q2 ++ t3 in
    let e3 : c.add_text-3.new.out.items ≡ old ++ q3 = two old c.add_text-2.new.out.items c.add_text-3.new.out.items q2 t3 e2 c.in_ok-add_text-3.ensures in
    let t4 : List ℕ = codes "<path d=\"M350 8m-5-5l10 10m0-10l-10 10\" fill=\"none\" stroke=\"#d00000\" stroke-width=\"2\"/><text x=\"362\" y=\"12\">given up</text>" in
    let q4 : List ℕ = q3 ++ t4 in
    let e4 : c.add_text-4.new.out.items ≡ old ++ q4 = two old c.add_text-3.new.out.items c.add_text-4.new.out.items q3 t4 e3 c.in_ok-add_text-4.ensures in
    let t5 : List ℕ = codes "<path d=\"M440 8h30\" stroke=\"#777\" stroke-width=\"2\" stroke-dasharray=\"2 3\"/><text x=\"476\" y=\"12\">hungry</text>" in
    let q5 : List ℕ = q4 ++ t5 in
    let e5 : c.add_text-5.new.out.items ≡ old ++ q5 = two old c.add_text-4.new.out.items c.add_text-5.new.out.items q4 t5 e4 c.in_ok-add_text-5.ensures in
    let t6 : List ℕ = codes "<path d=\"M540 8h30\" stroke=\"#222\" stroke-width=\"5\"/><text x=\"576\" y=\"12\">eats</text></g>\n" in
    let q6 : List ℕ = q5 ++ t6 in
    let e6 : c.add_text-6.new.out.items ≡ old ++ q6 = two old c.add_text-5.new.out.items c.add_text-6.new.out.items q5 t6 e5 c.in_ok-add_text-6.ensures in
    let t : List ℕ = codes "<text x=\"10\" y=\"36\" fill=\"#555\">thirsty: waits for its instruments; hungry: waits for its forks, which settle who gives way; eats: has all of them</text>\n<text x=\"10\" y=\"84\" fill=\"#555\">round</text>\n" in
    let end : List ℕ = c.add_text-7.new.out.items in
    IfOk-weaker c.add_text-7.result (λ _. end ≡ c.add_text-6.new.out.items ++ t) (λ _. end ≡ old ++ legend) (λ _ last. two old c.add_text-6.new.out.items end q6 t e6 last) c.add_text-7.ensures
