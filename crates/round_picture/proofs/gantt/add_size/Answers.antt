use Rattle.std.proofs.Common.{◌≡◌, ℕ, List, ◌++◌, codes, decimal, refl}
use Rattle.std.proofs.lemmas.Result.{IfOk-weaker}
use Rattle.round_picture.proofs.Pieces.{two, first, more}
use Rattle.round_picture.specs.Gantt.{size_text}
use Rattle.round_picture.proofs.gantt.add_size.Goals as goal

pub returns : goal.returns
unfolding size_text
returns g c =
    let old : List ℕ = c.args.out.now.items in
    let q1 : List ℕ = codes "<?xml version=\"1.0\" encoding=\"UTF-8\"?>\n<svg xmlns=\"http://www.w3.org/2000/svg\" version=\"1.1\" width=\"" ++ decimal c.args.width in
    let e1 : c.add_place.new.out.items ≡ old ++ q1 = first old c.add_place.new.out.items (codes "<?xml version=\"1.0\" encoding=\"UTF-8\"?>\n<svg xmlns=\"http://www.w3.org/2000/svg\" version=\"1.1\" width=\"") c.args.width c.args.width c.in_ok-add_place.ensures refl in
    let q2 : List ℕ = q1 ++ codes "\" height=\"" ++ decimal c.args.height in
    let e2 : c.add_place-2.new.out.items ≡ old ++ q2 = more old c.add_place.new.out.items c.add_place-2.new.out.items q1 (codes "\" height=\"") c.args.height c.args.height e1 c.in_ok-add_place-2.ensures refl in
    let q3 : List ℕ = q2 ++ codes "\" viewBox=\"0 0 " ++ decimal c.args.width in
    let e3 : c.add_place-3.new.out.items ≡ old ++ q3 = more old c.add_place-2.new.out.items c.add_place-3.new.out.items q2 (codes "\" viewBox=\"0 0 ") c.args.width c.args.width e2 c.in_ok-add_place-3.ensures refl in
    let q4 : List ℕ = q3 ++ codes " " ++ decimal c.args.height in
    let e4 : c.add_place-4.new.out.items ≡ old ++ q4 = more old c.add_place-3.new.out.items c.add_place-4.new.out.items q3 (codes " ") c.args.height c.args.height e3 c.in_ok-add_place-4.ensures refl in
    let t : List ℕ = codes "\" font-family=\"monospace\" font-size=\"10\">\n" in
    let end : List ℕ = c.add_text.new.out.items in
    IfOk-weaker c.add_text.result (λ _. end ≡ c.add_place-4.new.out.items ++ t) (λ _. end ≡ old ++ size_text c.args.width c.args.height) (λ _ last. two old c.add_place-4.new.out.items end q4 t e4 last) c.add_text.ensures
