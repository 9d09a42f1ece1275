-- What holds of a list in every order.
use Rattle.std.proofs.Common.{◌≡◌, ◌==◌, ℕ, zero, suc, ◌<◌, cond, inl, inr, List, [], ◌∷◌, length, get_or, set, refl, sym, subst, arith}
use Rattle.std.specs.List.{swap}
use Rattle.std.specs.List.Sorted.{IsPermutation}
use Rattle.std.proofs.lemmas.List.Sorted.{IsPermutation-keeps, IsPermutation-sym, sum_by-IsPermutation}
use Rattle.turns.specs.Lists.{Each}
use Rattle.turns.proofs.Runs.{each_map}
use Rattle.edge_rule.specs.Company.{Distinct}
use Rattle.edge_rule.specs.Ending.{Any}
use Rattle.edge_rule.proofs.Rosters.{seldom, apart}
use Rattle.rounds.proofs.Lists.{each_but}

module _ {A : Type 0} where
  each_get : (P : A → Type 0) (l : List A) (k : ℕ) (x : A) → k < length l → Each P l → P (get_or l k x)
  each_get P [] k x h e = absurd (omega arith)
  each_get P (y ∷ l) zero x h e = e.0
  each_get P (y ∷ l) (suc k) x h e = each_get P l k x (omega arith) e.1

  each_swap : (P : A → Type 0) (l : List A) (i j : ℕ) → i < length l → j < length l → Each P l → Each P (swap l i j)
  each_swap P [] i j h k e = e
  each_swap P (y ∷ l) i j h k e =
      each_but P (set (y ∷ l) i (get_or (y ∷ l) j y)) j (get_or (y ∷ l) i y)
      (each_but P (y ∷ l) i (get_or (y ∷ l) j y) e (each_get P (y ∷ l) j y k e)) (each_get P (y ∷ l) i y h e)

  pub each_perm : (P : A → Type 0) (xs ys : List A) → IsPermutation xs ys → Each P xs → Each P ys
  each_perm P xs ys perm all = IsPermutation-keeps xs (Each P) all (λ l i j h k e. each_swap P l i j h k e) ys perm

  in_itself : (l : List A) → Each (λ (x : A). Any (λ (y : A). y ≡ x) l) l
  in_itself [] = tt
  in_itself (x ∷ l) = (inl refl, each_map (λ (z : A). Any (λ (y : A). y ≡ z) l) (λ (z : A). Any (λ (y : A). y ≡ z) (x ∷ l)) (λ z h. inr h) l (in_itself l))

  -- each is one of the others
  pub each_in : (xs ys : List A) → IsPermutation xs ys → Each (λ (x : A). Any (λ (y : A). y ≡ x) xs) ys
  each_in xs ys perm = each_perm (λ (x : A). Any (λ (y : A). y ≡ x) xs) xs ys perm (in_itself xs)

  -- what some element has, some element has of a list in which all of them are
  pub any_among : (P : A → Type 0) (l m : List A) → Each (λ (x : A). Any (λ (y : A). y ≡ x) m) l → Any P l → Any P m
  any_among P [] m e any = absurd any
  any_among P (x ∷ l) m e (inl h) = at m e.0 where
    at : (m : List A) → Any (λ (y : A). y ≡ x) m → Any P m
    at [] any = absurd any
    at (y ∷ m) (inl is) = inl (subst P (sym is) h)
    at (y ∷ m) (inr more) = inr (at m more)
  any_among P (x ∷ l) m e (inr h) = any_among P l m e.1 h

  pub any_perm : (P : A → Type 0) (xs ys : List A) → IsPermutation xs ys → Any P xs → Any P ys
  any_perm P xs ys perm any = any_among P xs ys (each_in ys xs (IsPermutation-sym xs ys perm)) any

  pub each_index : (P : A → Type 0) (l : List A) (x : A) → ((k : ℕ) → k < length l → P (get_or l k x)) → Each P l
  each_index P [] x f = tt
  each_index P (y ∷ l) x f = (f 0 (omega arith), each_index P l x (λ k h. f (suc k) (omega arith)))

all_of : (P : ℕ → Type 0) (xs : List ℕ) → ((k : ℕ) → P k) → Each P xs
all_of P [] h = tt
all_of P (x ∷ xs) h = (h x, all_of P xs h)

-- no number stands there twice
pub distinct_perm : (js ks : List ℕ) → IsPermutation js ks → Distinct js → Distinct ks
distinct_perm js ks perm d = apart ks (all_of _ ks
    (λ m. let same = sum_by-IsPermutation (λ k. cond (k == m) 1 0) js ks perm in let once = seldom m js d in omega (arith, same, once)))
