-- Who is in a line that was changed.
use Rattle.std.proofs.Common.{◌≡◌, ◌≢◌, ℕ, ◌<◌, Bool, true, false, not, nat_eq, if◌then◌else◌, List, [], ◌∷◌, map, Option, refl, sym, ap, ◌∙◌, subst, inl, inr}
use Rattle.std.proofs.lemmas.Bool.{eq-eqb, ne_eqb, false≢true}
use Rattle.bay_line.specs.declared.wish.Wish.{Wish}
use Rattle.bay_line.specs.Wishes.{counts, passed_by, passed_most}
use Rattle.bay_line.specs.Turns.{pass_all, others}
use Rattle.bay_line.specs.Lines.{Below, wishes_of}
use Rattle.bay.specs.Members.{Has}
use Rattle.bay.proofs.Members.{filter_cases, filter_has}

-- both are of one ask, and want the same
pub record SameWish (v w : Wish) : Type 0 where
  pub ask : v.ask ≡ w.ask
  pub needs : v.needs ≡ w.needs
  pub classes : v.classes ≡ w.classes
  pub deadline : v.deadline ≡ w.deadline

same_if : (b : Bool) (w v : Wish) → SameWish w v → SameWish w (if b then v else w)
same_if true w v h = h
same_if false w v h = record { ask = refl; needs = refl; classes = refl; deadline = refl }

same_passed : (most free needs : ℕ) (w : Wish) → SameWish w (passed_by most free needs w)
same_passed most free needs w = same_if (counts most free needs w) w _ (record { ask = refl; needs = refl; classes = refl; deadline = refl })

pub passed_cases : (most free needs : ℕ) (ws : List Wish) (w : Wish) → Has (pass_all most free needs ws) w → (v : Wish) × Has ws v × SameWish v w
passed_cases most free needs [] w h = absurd h
passed_cases most free needs (v ∷ ws) w (inl is) = (v, inl refl, subst (SameWish v) is (same_passed most free needs v))
passed_cases most free needs (v ∷ ws) w (inr h) = let r = passed_cases most free needs ws w h in (r.0, inr r.1, r.2)

pub passed_has : (most free needs : ℕ) (ws : List Wish) (v : Wish) → Has ws v → (w : Wish) × Has (pass_all most free needs ws) w × SameWish v w
passed_has most free needs [] v h = absurd h
passed_has most free needs (u ∷ ws) v (inl is) =
    (passed_by most free needs u, inl refl, subst (λ (x : Wish). SameWish x (passed_by most free needs u)) is (same_passed most free needs u))
passed_has most free needs (u ∷ ws) v (inr h) = let r = passed_has most free needs ws v h in (r.0, inr r.1, r.2)

pub most_cases : (most : ℕ) (ws : List Wish) (w : Wish) → Has (map (passed_most most) ws) w → (v : Wish) × Has ws v × SameWish v w
most_cases most [] w h = absurd h
most_cases most (v ∷ ws) w (inl is) = (v, inl refl, subst (SameWish v) is (record { ask = refl; needs = refl; classes = refl; deadline = refl }))
most_cases most (v ∷ ws) w (inr h) = let r = most_cases most ws w h in (r.0, inr r.1, r.2)

pub most_has : (most : ℕ) (ws : List Wish) (v : Wish) → Has ws v → (w : Wish) × Has (map (passed_most most) ws) w × SameWish v w
most_has most [] v h = absurd h
most_has most (u ∷ ws) v (inl is) =
    (passed_most most u, inl refl, subst (λ (x : Wish). SameWish x (passed_most most u)) is (record { ask = refl; needs = refl; classes = refl; deadline = refl }))
most_has most (u ∷ ws) v (inr h) = let r = most_has most ws v h in (r.0, inr r.1, r.2)

test_other : (a b : ℕ) → not (nat_eq a b) ≡ true → a ≢ b
test_other a b h e = false≢true (sym (ap not (eq-eqb a b e)) ∙ h)

pub others_cases : (ask : ℕ) (ws : List Wish) (w : Wish) → Has (others ask ws) w → Has ws w × (w.ask ≢ ask)
others_cases ask ws w h = let r = filter_cases (λ (v : Wish). not (nat_eq v.ask ask)) ws w h in (r.0, test_other w.ask ask r.1)

pub others_has : (ask : ℕ) (ws : List Wish) (w : Wish) → Has ws w → w.ask ≢ ask → Has (others ask ws) w
others_has ask ws w h ne = filter_has (λ (v : Wish). not (nat_eq v.ask ask)) ws w h (ap not (ne_eqb w.ask ask ne))

-- a wish of one that asks
pub record IsWishOf (ask : ℕ) (sets : List ℕ) (classes : ℕ) (deadline : Option ℕ) (w : Wish) : Type 0 where
  pub ask_is : w.ask ≡ ask
  pub classes_are : w.classes ≡ classes
  pub deadline_is : w.deadline ≡ deadline
  pub its : Has sets w.needs

pub wishes_cases : (ask : ℕ) (sets : List ℕ) (classes : ℕ) (deadline : Option ℕ) (w : Wish) → Has (wishes_of ask sets classes deadline) w
    → IsWishOf ask sets classes deadline w
wishes_cases ask [] classes deadline w h = absurd h
wishes_cases ask (s ∷ sets) classes deadline w (inl is) =
    subst (IsWishOf ask (s ∷ sets) classes deadline) is (record { ask_is = refl; classes_are = refl; deadline_is = refl; its = inl refl })
wishes_cases ask (s ∷ sets) classes deadline w (inr h) =
    let r = wishes_cases ask sets classes deadline w h in
    record { ask_is = r.ask_is; classes_are = r.classes_are; deadline_is = r.deadline_is; its = inr r.its }

-- ---- numbers

pub below_of : (n : ℕ) (ws : List Wish) → ((w : Wish) → Has ws w → w.ask < n) → Below n ws
below_of n [] h = tt
below_of n (w ∷ ws) h = (h w (inl refl), below_of n ws (λ v there. h v (inr there)))
