use Rattle.std.proofs.Common.{◌≡◌, ℕ, List, ◌++◌, codes, decimal}
use Rattle.std.proofs.lemmas.Result.{IfOk-weaker}
use Rattle.round_picture.proofs.Pieces.{two, first}
use Rattle.round_picture.specs.Scale.{place}
use Rattle.round_picture.specs.Shapes.{cross}
use Rattle.round_picture.proofs.shapes.add_cross.Goals as goal

pub returns : goal.returns
unfolding cross
returns g c =
    let old : List ℕ = c.args.out.now.items in
    let q1 : List ℕ = codes "<path d=\"M" ++ decimal (place c.args.last c.args.round) in
    let e1 : c.add_place.new.out.items ≡ old ++ q1 = first old c.add_place.new.out.items (codes "<path d=\"M") c.place.result (place c.args.last c.args.round) c.in_ok-add_place.ensures c.place.ensures.value in
    let t : List ℕ = codes " 12m-5-5l10 10m0-10l-10 10\" fill=\"none\" stroke=\"#d00000\" stroke-width=\"2\"/>" in
    let end : List ℕ = c.add_text.new.out.items in
    IfOk-weaker c.add_text.result (λ _. end ≡ c.add_place.new.out.items ++ t) (λ _. end ≡ old ++ cross c.args.last c.args.round) (λ _ last. two old c.add_place.new.out.items end q1 t e1 last) c.add_text.ensures
