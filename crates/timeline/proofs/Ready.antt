-- What is left and isn't marked as behind is behind no other that is left.
use Rattle.std.proofs.Common.{◌≡◌, ℕ, Bool, List, Option, None, Some, sym, subst}
use Rattle.std.specs.Prelude.{IfSome}
use Rattle.std.proofs.lemmas.List.Elements.{at_from_Contains}
use Rattle.timeline.specs.Orders.{IsOpen, IsBehind, AreBehind}

marked_behind : (pairs : List (ℕ × ℕ)) (marks behind : List Bool) (y : ℕ) → AreBehind pairs marks behind → IsBehind pairs marks y → IsOpen behind y
marked_behind pairs marks behind y are is =
    let at = at_from_Contains pairs (is.x, y) is.pair in
    are.all at.0 is.x y at.1 (at.2 (0, 0)) is.first is.marked

pub some_ready : (pairs : List (ℕ × ℕ)) (marks seen behind : List Bool) (found : Option ℕ) → seen ≡ behind → AreBehind pairs marks behind
    → IfSome found (λ y. IsOpen marks y × ¬ IsOpen seen y) → IfSome found (λ y. IsOpen marks y × ¬ IsBehind pairs marks y)
some_ready pairs marks seen behind None same are ready = tt
some_ready pairs marks seen behind (Some y) same are ready =
    (ready.0, λ is. ready.1 (subst (λ b. IsOpen b y) (sym same) (marked_behind pairs marks behind y are is)))
