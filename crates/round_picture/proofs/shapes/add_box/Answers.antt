use Rattle.std.proofs.Common.{◌≡◌, ℕ, List, ◌++◌, codes, decimal}
use Rattle.std.proofs.lemmas.Result.{IfOk-weaker}
use Rattle.round_picture.proofs.Pieces.{two, first, more}
use Rattle.round_picture.specs.Scale.{place, width}
use Rattle.round_picture.specs.Shapes.{box_of}
use Rattle.round_picture.proofs.shapes.add_box.Goals as goal

pub returns : goal.returns
unfolding box_of
returns g c =
    let old : List ℕ = c.args.out.now.items in
    let q1 : List ℕ = codes "<rect x=\"" ++ decimal (place c.args.last c.args.from) in
    let e1 : c.add_place.new.out.items ≡ old ++ q1 = first old c.add_place.new.out.items (codes "<rect x=\"") c.place.result (place c.args.last c.args.from) c.in_ok-add_place.ensures c.place.ensures.value in
    let q2 : List ℕ = q1 ++ codes "\" y=\"4\" width=\"" ++ decimal (width c.args.last c.args.from c.args.to) in
    let e2 : c.add_place-2.new.out.items ≡ old ++ q2 = more old c.add_place.new.out.items c.add_place-2.new.out.items q1 (codes "\" y=\"4\" width=\"") c.width.result (width c.args.last c.args.from c.args.to) e1 c.in_ok-add_place-2.ensures c.width.ensures in
    let t : List ℕ = codes "\" height=\"16\"" in
    let end : List ℕ = c.add_text.new.out.items in
    IfOk-weaker c.add_text.result (λ _. end ≡ c.add_place-2.new.out.items ++ t) (λ _. end ≡ old ++ box_of c.args.last c.args.from c.args.to) (λ _ last. two old c.add_place-2.new.out.items end q2 t e2 last) c.add_text.ensures
