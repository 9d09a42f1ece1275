-- All in line count as passed by as often as may be.
use Rattle.std.proofs.Common.{◌≡◌, ℕ, zero, suc, List, [], ◌∷◌, ◌++◌, map, length, set, refl, ap, ◌∙◌, subst, arith}
use Rattle.std.proofs.lemmas.List.{length-map, map-append}
use Rattle.bay_line.specs.declared.wish.Wish.{Wish}
use Rattle.bay_line.specs.Wishes.{wish_at, passed_most}
use Rattle.bay_line.specs.Lines.{LineView, Above, Rises, Seldom, NotMore, IsFair, IsInOrder, kept_in_order}
use Rattle.bay_line.specs.Bounds.{Stands}

-- ---- one after another

-- so are the first n
abbrev pub most_to : ℕ → ℕ → List Wish → List Wish
most_to most zero wishes = wishes
most_to most (suc n) [] = []
most_to most (suc n) (w ∷ wishes) = passed_most most w ∷ most_to most n wishes

pub one_more : (most k : ℕ) (wishes : List Wish)
    → set (most_to most k wishes) k (passed_most most (wish_at (most_to most k wishes) k)) ≡ most_to most (suc k) wishes
one_more most zero [] = refl
one_more most zero (w ∷ wishes) = refl
one_more most (suc k) [] = refl
one_more most (suc k) (w ∷ wishes) = ap (λ (l : List Wish). passed_most most w ∷ l) (one_more most k wishes)

pub all_of : (most : ℕ) (wishes : List Wish) → most_to most (length wishes) wishes ≡ map (passed_most most) wishes
all_of most [] = refl
all_of most (w ∷ wishes) = ap (λ (l : List Wish). passed_most most w ∷ l) (all_of most wishes)

-- ---- the line is in order

above_most : (n most : ℕ) (ws : List Wish) → Above n ws → Above n (map (passed_most most) ws)
above_most n most [] h = tt
above_most n most (w ∷ ws) h = (h.0, above_most n most ws h.1)

rises_most : (most : ℕ) (ws : List Wish) → Rises ws → Rises (map (passed_most most) ws)
rises_most most [] h = tt
rises_most most (w ∷ ws) h = (above_most w.ask most ws h.0, rises_most most ws h.1)

seldom_most : (most : ℕ) (ws : List Wish) → Seldom most (map (passed_most most) ws)
seldom_most most [] = tt
seldom_most most (w ∷ ws) = (omega arith, seldom_most most ws)

notmore_most : (most : ℕ) (w : Wish) (ws : List Wish) → NotMore (passed_most most w) (map (passed_most most) ws)
notmore_most most w [] = tt
notmore_most most w (v ∷ ws) = ((λ n s. omega arith), notmore_most most w ws)

fair_most : (most : ℕ) (ws : List Wish) → IsFair (map (passed_most most) ws)
fair_most most [] = tt
fair_most most (w ∷ ws) = (notmore_most most w ws, fair_most most ws)

pub in_order_kept : (x : LineView) → IsInOrder x → IsInOrder (kept_in_order x)
in_order_kept x h =
    let many : length (map (passed_most x.most) x.wishes) ≡ length x.wishes = length-map x.wishes (passed_most x.most) in let few = h.few in
    record {
      rises = rises_most x.most x.wishes h.rises;
      seldom = seldom_most x.most x.wishes;
      fair = fair_most x.most x.wishes;
      few = omega (arith, many, few);
    }

-- ---- where a wish stands

pub stands_kept : (most : ℕ) (w : Wish) (place : ℕ) (ws : List Wish) → Stands w place ws → Stands (passed_most most w) place (map (passed_most most) ws)
stands_kept most w place ws st =
    let many : length (map (passed_most most) st.before) ≡ length st.before = length-map st.before (passed_most most) in let at = st.place_is in
    record {
      before = map (passed_most most) st.before;
      behind = map (passed_most most) st.behind;
      is = ap (map (passed_most most)) st.is ∙ map-append (passed_most most) st.before (w ∷ st.behind);
      place_is = omega (arith, many, at);
    }

-- each counts so many
abbrev All_most : ℕ → List Wish → Type 0
All_most most [] = Unit {0}
All_most most (w ∷ ws) = (w.passed ≡ most) × All_most most ws

all_most : (most : ℕ) (ws : List Wish) → All_most most (map (passed_most most) ws)
all_most most [] = tt
all_most most (w ∷ ws) = (refl, all_most most ws)

most_at : (most : ℕ) (xs : List Wish) (w : Wish) (ys : List Wish) → All_most most (xs ++ w ∷ ys) → w.passed ≡ most
most_at most [] w ys h = h.0
most_at most (x ∷ xs) w ys h = most_at most xs w ys h.1

pub counts_most : (most : ℕ) (w : Wish) (place : ℕ) (ws : List Wish) → Stands w place (map (passed_most most) ws) → w.passed ≡ most
counts_most most w place ws st = most_at most st.before w st.behind (subst (All_most most) st.is (all_most most ws))
