-- What both walks use. Assumes nothing.
use Rattle.std.proofs.Common.{◌≡◌, List, [], ◌∷◌, refl}
use lib.Dec.{T}
use mir.Syntax.{Ty}
use mir.Val.{Val, has_ty, WT}
use denote.Laws.{Typed}

-- values of one type are one value of it
pub single : (τ : Ty) (vs : List Val) → Typed (τ ∷ []) vs → (v : Val) × ((vs ≡ v ∷ []) × (T (has_ty τ v) × WT v))
single τ [] none = absurd none
single τ (v ∷ []) typed = (v, (refl, typed.0))
single τ (v ∷ w ∷ vs) typed = absurd typed.1
