-- Desks before and after, one by one.
use Rattle.std.proofs.Common.{◌≡◌, suc, List, [], ◌∷◌, ◌++◌, length, sym, ap, subst}
use Rattle.turns.specs.Lists.{Each}
use Rattle.edge_rule.specs.DeskView.{DeskView}
use Rattle.workers.specs.Pairs.{Pairs}

module _ (R : DeskView → DeskView → Type 0) where
  pub pairs_length : (old new : List DeskView) → Pairs R old new → length new ≡ length old
  pairs_length [] new is = ap length is
  pairs_length (d ∷ old) [] never = absurd never
  pairs_length (d ∷ old) (e ∷ new) t = ap suc (pairs_length old new t.1)

  pub pairs-append : (a a' b b' : List DeskView) → Pairs R a a' → Pairs R b b' → Pairs R (a ++ b) (a' ++ b')
  pairs-append [] a' b b' is t = subst (λ (z : List DeskView). Pairs R b (z ++ b')) (sym is) t
  pairs-append (x ∷ a) [] b b' never t = absurd never
  pairs-append (x ∷ a) (y ∷ a') b b' s t = (s.0, pairs-append a a' b b' s.1 t)

  pub pairs_map : (S : DeskView → DeskView → Type 0) → ((d e : DeskView) → R d e → S d e) → (old new : List DeskView) → Pairs R old new → Pairs S old new
  pairs_map S f [] new is = is
  pairs_map S f (d ∷ old) [] never = absurd never
  pairs_map S f (d ∷ old) (e ∷ new) t = (f d e t.0, pairs_map S f old new t.1)

  pub pairs_then : (S T : DeskView → DeskView → Type 0) → ((d m e : DeskView) → R d m → S m e → T d e)
      → (old mid new : List DeskView) → Pairs R old mid → Pairs S mid new → Pairs T old new
  pairs_then S T f [] mid new is t = let P : List DeskView → Type 0 = λ z. Pairs S z new in subst P is t
  pairs_then S T f (d ∷ old) [] new never t = absurd never
  pairs_then S T f (d ∷ old) (m ∷ mid) [] s never = absurd never
  pairs_then S T f (d ∷ old) (m ∷ mid) (e ∷ new) s t = (f d m e s.0 t.0, pairs_then S T f old mid new s.1 t.1)

  pub pairs_each : (P Q : DeskView → Type 0) → ((d e : DeskView) → R d e → P d → Q e) → (old new : List DeskView) → Pairs R old new → Each P old → Each Q new
  pairs_each P Q f [] new is all = subst (Each Q) (sym is) tt
  pairs_each P Q f (d ∷ old) [] never all = absurd never
  pairs_each P Q f (d ∷ old) (e ∷ new) t all = (f d e t.0 all.0, pairs_each P Q f old new t.1 all.1)
