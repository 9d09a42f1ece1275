-- Desks of which the first have been changed.
use Rattle.std.proofs.Common.{◌≡◌, ℕ, zero, suc, ◌+◌, ◌<◌, List, [], ◌∷◌, length, get_or, set, sym, ap, ◌∙◌, subst, arith, add-one}
use Rattle.turns.specs.Lists.{Each}
use Rattle.edge_rule.specs.DeskView.{DeskView}
use Rattle.workers.specs.Pairs.{Pairs}

module _ (R : DeskView → DeskView → Type 0) where
  -- the first k are changed, and the others as they were
  abbrev pub Ahead : ℕ → List DeskView → List DeskView → Type 0
  Ahead zero old new = new ≡ old
  Ahead (suc k) [] new = new ≡ []
  Ahead (suc k) (d ∷ old) [] = ⊥
  Ahead (suc k) (d ∷ old) (e ∷ new) = R d e × Ahead k old new

  ahead_next : (k : ℕ) (old new : List DeskView) (x y : DeskView) → k < length new
      → x ≡ get_or new k x → R x y → Ahead k old new → Ahead (suc k) old (set new k y)
  ahead_next k old [] x y inside is r a = absurd (omega arith)
  ahead_next zero [] (e ∷ new) x y inside is r a = absurd (cc)
  ahead_next zero (d ∷ old) (e ∷ new) x y inside is r a =
      let h : e ≡ d = ap (λ l. get_or l 0 e) a in
      let t : new ≡ old = cc in
      (subst (λ z. R z y) (is ∙ h) r, t)
  ahead_next (suc k) [] (e ∷ new) x y inside is r a = absurd (cc)
  ahead_next (suc k) (d ∷ old) (e ∷ new) x y inside is r a = (a.0, ahead_next k old new x y (omega arith) is r a.1)

  pub ahead_more : (k : ℕ) (old new : List DeskView) (x y : DeskView) → k < length new
      → x ≡ get_or new k x → R x y → Ahead k old new → Ahead (k + 1) old (set new k y)
  ahead_more k old new x y inside is r a = subst (λ n. Ahead n old (set new k y)) (sym (add-one k)) (ahead_next k old new x y inside is r a)

  pub ahead_all : (k : ℕ) (old new : List DeskView) → k ≡ length old → Ahead k old new → Pairs R old new
  ahead_all zero [] new is a = a
  ahead_all zero (d ∷ old) new is a = absurd (omega arith)
  ahead_all (suc k) [] new is a = absurd (omega arith)
  ahead_all (suc k) (d ∷ old) [] is a = absurd a
  ahead_all (suc k) (d ∷ old) (e ∷ new) is a = (a.0, ahead_all k old new (omega arith) a.1)

  -- a desk that isn't there yet is as it was
  pub ahead_at : (P : DeskView → Type 0) (k : ℕ) (old new : List DeskView) (x : DeskView)
      → k < length new → x ≡ get_or new k x → Each P old → Ahead k old new → P x
  ahead_at P zero old [] x inside is all a = absurd (omega arith)
  ahead_at P zero [] (e ∷ new) x inside is all a = absurd (cc)
  ahead_at P zero (d ∷ old) (e ∷ new) x inside is all a = let h : e ≡ d = ap (λ l. get_or l 0 e) a in subst P (sym (is ∙ h)) all.0
  ahead_at P (suc k) [] new x inside is all a = let n : length new ≡ 0 = ap length a in absurd (omega arith)
  ahead_at P (suc k) (d ∷ old) [] x inside is all a = absurd (omega arith)
  ahead_at P (suc k) (d ∷ old) (e ∷ new) x inside is all a = ahead_at P k old new x (omega arith) is all.1 a.1
