use Rattle.std.proofs.Common.{◌≡◌, ℕ, List, ◌++◌, codes, decimal, refl}
use Rattle.std.proofs.lemmas.Result.{IfOk-weaker}
use Rattle.round_picture.proofs.Pieces.{two, first, more}
use Rattle.round_picture.specs.Gantt.{tick}
use Rattle.round_picture.proofs.gantt.add_tick.Goals as goal

pub returns : goal.returns
unfolding tick
returns g c =
    let old : List ℕ = c.args.out.now.items in
    let q1 : List ℕ = codes "<path d=\"M" ++ decimal c.args.x in
    let e1 : c.add_place.new.out.items ≡ old ++ q1 = first old c.add_place.new.out.items (codes "<path d=\"M") c.args.x c.args.x c.in_ok-add_place.ensures refl in
    let q2 : List ℕ = q1 ++ codes " 0V" ++ decimal c.args.bottom in
    let e2 : c.add_place-2.new.out.items ≡ old ++ q2 = more old c.add_place.new.out.items c.add_place-2.new.out.items q1 (codes " 0V") c.args.bottom c.args.bottom e1 c.in_ok-add_place-2.ensures refl in
    let q3 : List ℕ = q2 ++ codes "\" stroke=\"#ddd\"/><text x=\"" ++ decimal c.args.x in
    let e3 : c.add_place-3.new.out.items ≡ old ++ q3 = more old c.add_place-2.new.out.items c.add_place-3.new.out.items q2 (codes "\" stroke=\"#ddd\"/><text x=\"") c.args.x c.args.x e2 c.in_ok-add_place-3.ensures refl in
    let q4 : List ℕ = q3 ++ codes "\" y=\"-6\" text-anchor=\"middle\" fill=\"#555\">" ++ decimal c.args.round in
    let e4 : c.add_place-4.new.out.items ≡ old ++ q4 = more old c.add_place-3.new.out.items c.add_place-4.new.out.items q3 (codes "\" y=\"-6\" text-anchor=\"middle\" fill=\"#555\">") c.args.round c.args.round e3 c.in_ok-add_place-4.ensures refl in
    let t : List ℕ = codes "</text>\n" in
    let end : List ℕ = c.add_text.new.out.items in
    IfOk-weaker c.add_text.result (λ _. end ≡ c.add_place-4.new.out.items ++ t) (λ _. end ≡ old ++ tick c.args.x c.args.bottom c.args.round) (λ _ last. two old c.add_place-4.new.out.items end q4 t e4 last) c.add_text.ensures
