use Rattle.std.proofs.Common.{◌≡◌, ℕ, List, ◌++◌, codes, decimal, refl}
use Rattle.std.proofs.lemmas.Result.{IfOk-weaker}
use Rattle.round_picture.proofs.Pieces.{two, first, more}
use Rattle.round_picture.specs.Scale.{place}
use Rattle.round_picture.specs.Gantt.{row_head}
use Rattle.round_picture.proofs.gantt.add_row_head.Goals as goal

pub returns : goal.returns
unfolding row_head
returns g c =
    let old : List ℕ = c.args.out.now.items in
    let q1 : List ℕ = codes "<g transform=\"translate(0 " ++ decimal c.args.top in
    let e1 : c.add_place.new.out.items ≡ old ++ q1 = first old c.add_place.new.out.items (codes "<g transform=\"translate(0 ") c.args.top c.args.top c.in_ok-add_place.ensures refl in
    let q2 : List ℕ = q1 ++ codes ")\"><path d=\"M-140 38H" ++ decimal (place c.args.last c.args.last) in
    let e2 : c.add_place-2.new.out.items ≡ old ++ q2 = more old c.add_place.new.out.items c.add_place-2.new.out.items q1 (codes ")\"><path d=\"M-140 38H") c.place.result (place c.args.last c.args.last) e1 c.in_ok-add_place-2.ensures c.place.ensures.value in
    let t3 : List ℕ = codes "\" stroke=\"#bbb\"/><text x=\"-140\" y=\"18\" font-size=\"12\">" in
    let q3 : List ℕ = q2 ++ t3 in
    let e3 : c.add_text.new.out.items ≡ old ++ q3 = two old c.add_place-2.new.out.items c.add_text.new.out.items q2 t3 e2 c.in_ok-add_text.ensures in
    let t4 : List ℕ = c.args.name.now in
    let q4 : List ℕ = q3 ++ t4 in
    let e4 : c.add_text-2.new.out.items ≡ old ++ q4 = two old c.add_text.new.out.items c.add_text-2.new.out.items q3 t4 e3 c.in_ok-add_text-2.ensures in
    let t : List ℕ = codes "</text>\n" in
    let end : List ℕ = c.add_text-3.new.out.items in
    IfOk-weaker c.add_text-3.result (λ _. end ≡ c.add_text-2.new.out.items ++ t) (λ _. end ≡ old ++ row_head c.args.last c.args.name.now c.args.top) (λ _ last. two old c.add_text-2.new.out.items end q4 t e4 last) c.add_text-3.ensures
