-- The members of a set of bottles.
use Rattle.std.proofs.Common.{rules, ◌≡◌, ℕ, Bool, true, false, refl, sym}
use Rattle.std.specs.Prelude.{◌==◌, ◌↔◌, IsTrue}
use Rattle.std.specs.Int.{bit_at}
use Rattle.std.proofs.lemmas.Bool.Decides.{Decides-eqb}
use Rattle.std.proofs.lemmas.Bool.{false_from_ne_true}
use Rattle.legal_steps.specs.State.{Has}

-- to have a bottle is to have its bit
pub member : (x : Bool) (set k : ℕ) → (IsTrue x ↔ Has set k) → x ≡ (bit_at set k == 1)
unfolding Has
member true set k h = sym ((Decides-eqb (bit_at set k) 1).1 (h.0 refl))
member false set k h = sym (false_from_ne_true (bit_at set k == 1) (λ e. search (rules, h.1 ((Decides-eqb (bit_at set k) 1).0 e))))
