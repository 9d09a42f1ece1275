-- Two jobs that name one instrument share an edge with its bottle.
use Rattle.std.proofs.Common.{◌≡◌, ◌⊎◌, ℕ, zero, suc, ◌+◌, ◌-◌, ◌<◌, ◌≤◌, List, [], ◌∷◌, ◌++◌, Bool, true, false, cond, ◌||◌, ◌==◌, length, map, slice_index_or, arith, refl, sym, ap, ◌∙◌, subst, inl, inr}
use Rattle.std.specs.List.{flat_map, range_with_len, filter, list_any}
use Rattle.std.proofs.Math.Bool.{or-true}
use Rattle.std.proofs.lemmas.Bool.{cases_Bool, cases_eq, cases_lt, false≢true}
use Rattle.std.proofs.lemmas.Bool.Decides.{nat_tests}
use Rattle.std.proofs.lemmas.List.{get_or_past}
use Rattle.lab_plan.specs.declared.verb.Verb.{Verb}
use Rattle.lab_plan.specs.declared.verb.Verb.TheVariants.{Read}
use Rattle.lab_plan.specs.LabPlan.{LabPlan, edges, ends, pairs, common, bottles, both_name, names, sessions, session_at, commands, session_names, instrument_numbers, no_session, no_job}
use Rattle.lab_plan.specs.IsPlan.{IsNamed}

-- x is in the list
abbrev pub In : {X : Type 0} → X → List X → Type 0
In x [] = ⊥
In x (y ∷ ys) = (y ≡ x) ⊎ In x ys

pub at_place : {X : Type 0} (x : X) (xs : List X) → In x xs → (k : ℕ) × (k < length xs) × ((d : X) → slice_index_or xs k d ≡ x)
at_place x [] h = absurd h
at_place x (y ∷ ys) h = elim h [ inl is ↦ (zero, omega arith, λ d. is) | inr later ↦ let w = at_place x ys later in (suc w.0, omega (arith, w.1), w.2) ]

in_place : {X : Type 0} (xs : List X) (k : ℕ) (d : X) → k < length xs → In (slice_index_or xs k d) xs
in_place [] k d h = absurd (omega (arith, h))
in_place (y ∷ ys) zero d h = inl refl
in_place (y ∷ ys) (suc k) d h = inr (in_place ys k d (omega (arith, h)))

in_left : {X : Type 0} (x : X) (xs ys : List X) → In x xs → In x (xs ++ ys)
in_left x [] ys h = absurd h
in_left x (y ∷ xs) ys h = elim h [ inl is ↦ inl is | inr later ↦ inr (in_left x xs ys later) ]

in_right : {X : Type 0} (x : X) (xs ys : List X) → In x ys → In x (xs ++ ys)
in_right x [] ys h = h
in_right x (y ∷ xs) ys h = inr (in_right x xs ys h)

in_map : {X Y : Type 0} (f : X → Y) (x : X) (xs : List X) → In x xs → In (f x) (map f xs)
in_map f x [] h = absurd h
in_map f x (y ∷ ys) h = elim h [ inl is ↦ inl (ap f is) | inr later ↦ inr (in_map f x ys later) ]

in_flat : {X Y : Type 0} (f : X → List Y) (x : X) (y : Y) (xs : List X) → In x xs → In y (f x) → In y (flat_map f xs)
in_flat f x y [] h g = absurd h
in_flat f x y (z ∷ xs) h g = elim h [
  | inl is ↦ in_left y (f z) (flat_map f xs) (subst (λ w. In y (f w)) (sym is) g)
  | inr later ↦ in_right y (f z) (flat_map f xs) (in_flat f x y xs later g)
]

in_range : (a n k : ℕ) → a ≤ k → k < a + n → In k (range_with_len a n)
in_range a zero k low high = absurd (omega (arith, low, high))
in_range a (suc n) k low high = elim (cases_eq a k) [
  | inl is ↦ inl is
  | inr other ↦ inr (in_range (a + 1) n k (omega (arith, low, other)) (omega (arith, high)))
]

in_filter : {X : Type 0} (p : X → Bool) (x : X) (xs : List X) → In x xs → p x ≡ true → In x (filter p xs)
in_filter p x [] h t = absurd h
in_filter p x (y ∷ ys) h t = elim h [
  | inl is ↦ rw (ap p is ∙ t) (inl is)
  | inr later ↦ skip x (filter p ys) (p y) y (in_filter p x ys later t)
]
  where
    skip : {X : Type 0} (x : X) (zs : List X) (b : Bool) (y : X) → In x zs → In x (cond b (y ∷ zs) zs)
    skip x zs true y h = inr h
    skip x zs false y h = h

pub any_from_in : {X : Type 0} (p : X → Bool) (x : X) (xs : List X) → In x xs → p x ≡ true → list_any p xs ≡ true
any_from_in p x [] h t = absurd h
any_from_in p x (y ∷ ys) h t = elim h [ inl is ↦ rw (ap p is ∙ t) refl | inr later ↦ rw (any_from_in p x ys later t) (or-true (p y)) ]

-- the edge of two jobs that both name the instrument, and the place of its bottle
pub shared : (plan : LabPlan) (a b i : ℕ) → a < b → b < length plan.jobs → i < length plan.instruments → names plan a i ≡ true → names plan b i ≡ true
    → (e : ℕ) × (e < length (edges plan)) × (ends plan e ≡ (a, b)) × (k : ℕ) × (k < length (bottles plan e)) × (slice_index_or (bottles plan e) k 0 ≡ i)
unfolding edges common
shared plan a b i below job inside na nb =
    let both : both_name plan (a, b) i ≡ true = rw (na, nb) refl in
    let number : In i (instrument_numbers plan) = in_range 0 (length plan.instruments) i (omega arith) (omega (arith, inside)) in
    let pair : In (a, b) (pairs (length plan.jobs)) =
    in_flat (λ low. map (λ high. (low, high)) (range_with_len (low + 1) (length plan.jobs - (low + 1)))) a (a, b)
    (range_with_len 0 (length plan.jobs)) (in_range 0 (length plan.jobs) a (omega arith) (omega (arith, below, job)))
    (in_map (λ high. (a, high)) b (range_with_len (a + 1) (length plan.jobs - (a + 1)))
    (in_range (a + 1) (length plan.jobs - (a + 1)) b (omega (arith, below)) (omega (arith, below, job)))) in
    let edge =
    at_place (a, b) (edges plan) (in_filter (λ p. list_any (both_name plan p) (instrument_numbers plan)) (a, b)
    (pairs (length plan.jobs)) pair (any_from_in (both_name plan (a, b)) i (instrument_numbers plan) number both)) in
    let is : ends plan edge.0 ≡ (a, b) = edge.2 (0, 0) in
    let place = at_place i (common plan (a, b)) (in_filter (both_name plan (a, b)) i (instrument_numbers plan) number both) in (
      edge.0,
      edge.1,
      is,
      place.0,
      subst (λ p. place.0 < length (common plan p)) (sym is) place.1,
      subst (λ p. slice_index_or (common plan p) place.0 0 ≡ i) (sym is) (place.2 0),
    )

pub any_place : {X : Type 0} (p : X → Bool) (xs : List X) (d : X) → list_any p xs ≡ true → (k : ℕ) × (k < length xs) × (p (slice_index_or xs k d) ≡ true)
any_place p [] d h = absurd (false≢true h)
any_place p (y ∷ ys) d h = elim (cases_Bool (p y)) [
  | inl is ↦ (zero, omega arith, is)
  | inr is ↦ let w = any_place p ys d (ap (λ b. b || list_any p ys) (sym is) ∙ h) in (suc w.0, omega (arith, w.1), w.2)
]

-- what a session names, its job names
session-names : (plan : LabPlan) (j s i : ℕ) → session_names plan j s i ≡ true → names plan j i ≡ true
session-names plan j s i h = elim (cases_lt (s - 1) (length (sessions plan j))) [
  | inl inside ↦ any_from_in (λ session. list_any (λ command. command.0 == i) session.commands)
      (session_at plan j s) (sessions plan j) (in_place (sessions plan j) (s - 1) no_session inside) h
  | inr out ↦ absurd (false≢true
      (sym (ap (λ session. list_any (λ command. command.0 == i) session.commands) (get_or_past (sessions plan j) (s - 1) no_session out)) ∙ h))
]

names-job : (plan : LabPlan) (j i : ℕ) → names plan j i ≡ true → j < length plan.jobs
names-job plan j i h = elim (cases_lt j (length plan.jobs)) [
  | inl inside ↦ inside
  | inr out ↦ absurd (false≢true
      (sym (ap (λ job. list_any (λ session. list_any (λ command. command.0 == i) session.commands) job.sessions) (get_or_past plan.jobs j no_job out)) ∙ h))
]

pub session-instrument : (plan : LabPlan) (j s i : ℕ) → IsNamed plan → session_names plan j s i ≡ true → i < length plan.instruments
session-instrument plan j s i named h =
    let d : ℕ × Verb = (i, Read) in
    let w = any_place (λ command. command.0 == i) (commands plan j s) d h in
    let below = named j s w.0 d w.1 in
    let is : (slice_index_or (commands plan j s) w.0 d).0 ≡ i = let t = w.2 in grind (arith, nat_tests, t) in
    omega (arith, below, is)

-- two sessions that name one instrument share an edge and its bottle
pub session_shared : (plan : LabPlan) (a b sa sb i : ℕ) → IsNamed plan → a < b → session_names plan a sa i ≡ true → session_names plan b sb i ≡ true
    → (e : ℕ) × (e < length (edges plan)) × (ends plan e ≡ (a, b)) × (k : ℕ) × (k < length (bottles plan e)) × (slice_index_or (bottles plan e) k 0 ≡ i)
session_shared plan a b sa sb i named below ha hb =
    let nb = session-names plan b sb i hb in
    shared plan a b i below (names-job plan b i nb) (session-instrument plan a sa i named ha) (session-names plan a sa i ha) nb
