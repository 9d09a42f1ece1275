-- The parts of a session, command by command.
use Rattle.std.proofs.Common.{◌≡◌, ℕ, ◌+◌, ◌<◌, List, [], ◌∷◌, ◌++◌, nat_eq, length, map, take, slice_index_or, slice_set, append_assoc, arith, sym, ap, ◌∙◌, inl, inr, get_or-set_same, get_or-set_other}
use Rattle.std.proofs.lemmas.Bool.{cases_eq, eq-eqb, ne_eqb}
use Rattle.std.specs.List.{range_with_len}
use Rattle.std.proofs.lemmas.List.FromFn.{map-range_with_len_more}
use Rattle.std.proofs.lemmas.List.Sums.{count_by_more_yes, count_by_more_no}
use Rattle.lab_plan.specs.declared.verb.Verb.{Verb}
use Rattle.lab_plan.specs.declared.verb.Verb.TheVariants.{Read}
use Rattle.lab_plan.specs.declared.place.Place.{Place}
use Rattle.lab_plan.specs.LabPlan.{count_on, place_in}
use Rattle.lab_plan.specs.SessionTables.{place_of}

abbrev placed : ℕ → ℕ → Place
placed place length = record { place = place; length = length }

-- the parts of the first commands
abbrev pub AreParts : List (ℕ × Verb) → ℕ → List ℕ → Type 0
AreParts commands k parts = (i : ℕ) → i < 56 → slice_index_or parts i 0 ≡ count_on i (take k commands)

pub parts_more : (commands : List (ℕ × Verb)) (parts : List ℕ) (k n new : ℕ)
    → k < length commands → (slice_index_or commands k (0, Read)).0 ≡ n → n < 56 → length parts ≡ 56
    → AreParts commands k parts → new ≡ slice_index_or parts n 0 + 1 → AreParts commands (k + 1) (slice_set parts n new)
parts_more commands parts k n new within is below long before one i i_below = elim (cases_eq n i) [
  | inl h ↦
      let set : slice_index_or (slice_set parts n new) i 0 ≡ new =
      ap (λ m. slice_index_or (slice_set parts n new) m 0) (sym h) ∙ get_or-set_same parts n new 0 (omega (arith, long, below)) in
      let count = count_by_more_yes (λ (command : ℕ × Verb). nat_eq command.0 i) commands k (0, Read) within (eq-eqb _ _ (is ∙ h)) in
      let old = before n below in
      let same : count_on n (take k commands) ≡ count_on i (take k commands) = ap (λ m. count_on m (take k commands)) h in
      set ∙ one ∙ ap (λ m. m + 1) (old ∙ same) ∙ sym count
  | inr h ↦
      let count = count_by_more_no (λ (command : ℕ × Verb). nat_eq command.0 i) commands k (0, Read) within (ne_eqb _ _ (λ e. h (sym is ∙ e))) in
      get_or-set_other parts n i new 0 (λ e. h (sym e)) ∙ before i i_below ∙ sym count
]

-- the place of the next command
pub place_next : (commands : List (ℕ × Verb)) (parts lengths : List ℕ) (k n : ℕ) → (slice_index_or commands k (0, Read)).0 ≡ n → n < 56
    → AreParts commands k parts → ((i : ℕ) → i < 56 → slice_index_or lengths i 0 ≡ count_on i commands)
    → placed (slice_index_or parts n 0 + 1) (slice_index_or lengths n 0) ≡ place_of commands k
place_next commands parts lengths k n is below parts_are lengths_are =
    let first : slice_index_or parts n 0 + 1 ≡ place_in commands k = ap (λ c. c + 1) (parts_are n below ∙ ap (λ j. count_on j (take k commands)) (sym is)) in
    let second : slice_index_or lengths n 0 ≡ count_on (slice_index_or commands k (0, Read)).0 commands = lengths_are n below ∙ ap (λ j. count_on j commands) (sym is) in
    ap (λ a. placed a (slice_index_or lengths n 0)) first ∙ ap (placed (place_in commands k)) second

-- one more place behind those that were there
pub places_more : (commands : List (ℕ × Verb)) (old now : List Place) (k : ℕ) (place : Place) → place ≡ place_of commands k
    → now ≡ old ++ map (place_of commands) (range_with_len 0 k) → now ++ place ∷ [] ≡ old ++ map (place_of commands) (range_with_len 0 (k + 1))
places_more commands old now k place is before =
    let first = map (place_of commands) (range_with_len 0 k) in
    ap (λ l. l ++ place ∷ []) before ∙ append_assoc old first (place ∷ []) ∙ ap (λ x. old ++ (first ++ x ∷ [])) is
    ∙ ap (λ l. old ++ l) (sym (map-range_with_len_more (place_of commands) 0 k k (omega arith)))
