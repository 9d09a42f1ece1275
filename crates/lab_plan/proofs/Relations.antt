-- Related lists, element by element.
use Rattle.std.proofs.Common.{◌≡◌, ℕ, ◌+◌, ◌<◌, ◌≤◌, List, [], ◌∷◌, ◌++◌, length, take, slice_index_or, arith, sym, ◌∙◌, subst, inl, inr}
use Rattle.std.proofs.lemmas.Bool.{cases_eq}
use Rattle.std.proofs.lemmas.List.{get_or-take, length-take, get_or_push, get_or_append_left, length_push, take_all}
use Rattle.lab_plan.specs.SessionTables.{Related}

pub related_more : {X Y : Type 0} (R : X → Y → Type 0) (no_x : X) (no_y : Y) (xs : List X) (ys : List Y) (k : ℕ) (y : Y) → k < length xs
    → R (slice_index_or xs k no_x) y → Related R no_x no_y (take k xs) ys → Related R no_x no_y (take (k + 1) xs) (ys ++ y ∷ [])
related_more R no_x no_y xs ys k y within one before =
    let long : length ys ≡ k = omega (arith, before.0, length-take k xs, within) in
    let more : length (ys ++ y ∷ []) ≡ length (take (k + 1) xs) = omega (arith, length_push ys y, length-take (k + 1) xs, within, long) in (
      more,
      λ m m_within. let m_below : m < k + 1 = omega (arith, m_within, length-take (k + 1) xs) in
          let there : slice_index_or (take (k + 1) xs) m no_x ≡ slice_index_or xs m no_x = get_or-take (k + 1) xs m no_x m_below in
          elim (cases_eq k m) [
            | inl h ↦
                subst (λ j. R (slice_index_or (take (k + 1) xs) j no_x) (slice_index_or (ys ++ y ∷ []) j no_y)) h
                (subst (λ a. R a (slice_index_or (ys ++ y ∷ []) k no_y)) (sym (get_or-take (k + 1) xs k no_x (omega arith)))
                (subst (λ b. R (slice_index_or xs k no_x) b) (sym (get_or_push ys y no_y k long)) one))
            | inr h ↦
                let early : m < k = omega (arith, m_below, h) in
                let old = before.1 m (omega (arith, early, within, length-take k xs)) in
                subst (λ a. R a (slice_index_or (ys ++ y ∷ []) m no_y)) (get_or-take k xs m no_x early ∙ sym there)
                (subst (λ b. R (slice_index_or (take k xs) m no_x) b) (sym (get_or_append_left ys (y ∷ []) no_y m (omega (arith, early, long)))) old)
          ],
    )

pub related_all : {X Y : Type 0} (R : X → Y → Type 0) (no_x : X) (no_y : Y) (xs : List X) (ys : List Y) (k : ℕ)
    → length xs ≤ k → Related R no_x no_y (take k xs) ys → Related R no_x no_y xs ys
related_all R no_x no_y xs ys k long all = subst (λ zs. Related R no_x no_y zs ys) (take_all k xs long) all
