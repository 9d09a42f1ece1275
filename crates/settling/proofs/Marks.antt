-- Marks of jobs that are due, and notes of ends, as they are set and cleared.
use Rattle.std.proofs.Common.{◌≡◌, ◌≢◌, ◌⊎◌, ℕ, ◌+◌, zero, suc, ◌<◌, Bool, true, false, ◌==◌, if◌then◌else◌, List, [], ◌∷◌, length, replicate, set, get_or, slice_index_or, get_or-set_same, get_or-set_other, length-set, refl, sym, ap, ◌∙◌, subst, inl, inr, arith}
use Rattle.std.proofs.lemmas.Bool.{false≢true, cases_eq, eq-eqb, ne_eqb}
use Rattle.lab_plan.specs.LabPlan.{LabPlan, ends}
use Rattle.legal_steps.specs.declared.end.End.{End}
use Rattle.legal_steps.specs.declared.end.End.TheVariants.{Lower, Higher}
use Rattle.legal_steps.specs.State.{State, IsOwn, end_of}
use Rattle.settling.specs.Left.{DueView, IsDueOf, AreMarked, is_due, is_noted, only_at}
use Rattle.settling.specs.Attending.{with_note, with_due, woken_at, place, place_of, placed}

-- ---- lists of flags

-- one that still reads so isn't the one that was written over
unset : (xs : List Bool) (a k : ℕ) (b : Bool) → get_or (set xs a b) k b ≢ b → (k ≢ a) × (get_or xs k b ≢ b)
unset xs a k b h = elim (cases_eq k a) [
  | inl is ↦ absurd (h (subst (λ n. get_or (set xs a b) n b ≡ b) (sym is) (written xs a b)))
  | inr other ↦ (other, λ z. h (get_or-set_other xs a k b b other ∙ z))
] where
  written : (xs : List Bool) (a : ℕ) (b : Bool) → get_or (set xs a b) a b ≡ b
  written [] a b = refl
  written (x ∷ xs) zero b = refl
  written (x ∷ xs) (suc a) b = written xs a b

true_or : (b : Bool) → b ≢ false → b ≡ true
true_or true h = refl
true_or false h = absurd (h refl)

false_or : (b : Bool) → b ≢ true → b ≡ false
false_or true h = absurd (h refl)
false_or false h = refl

pub out_before : (xs : List Bool) (a k : ℕ) → slice_index_or (set xs a true) k true ≡ false → (k ≢ a) × (slice_index_or xs k true ≡ false)
out_before xs a k h = let u = unset xs a k true (λ z. false≢true (sym h ∙ z)) in (u.0, false_or _ u.1)

pub noted_before : (xs : List Bool) (a k : ℕ) → slice_index_or (set xs a false) k false ≡ true → (k ≢ a) × (slice_index_or xs k false ≡ true)
noted_before xs a k h = let u = unset xs a k false (λ z. false≢true (sym z ∙ h)) in (u.0, true_or _ u.1)

-- ---- the one edge

read_written : (xs : List ℕ) (a v x : ℕ) → slice_index_or (set xs a v) a 0 ≡ x + 1 → v ≡ x + 1
read_written [] a v x h = absurd (omega (arith, h))
read_written (y ∷ xs) zero v x h = h
read_written (y ∷ xs) (suc a) v x h = read_written xs a v x h

equal : (a b : ℕ) → (a == b) ≡ true → a ≡ b
equal a b h = elim (cases_eq a b) [ inl is ↦ is | inr other ↦ absurd (false≢true (sym (ne_eqb a b other) ∙ h)) ]

place_is : (due here : Bool) (e x : ℕ) → place due here e ≡ x + 1 → (x ≡ e) × ((here ≡ true) ⊎ (due ≡ false))
place_is false here e x h = (omega (arith, h), inr refl)
place_is true true e x h = (omega (arith, h), inl refl)
place_is true false e x h = absurd (omega (arith, h))

-- where a job may have something to do alone: where it could before, or at the edge, if it wasn't due
pub placed_only : (due : DueView) (j e k x : ℕ) → only_at (placed due j e) k ≡ x + 1 →
    ((only_at due k ≡ x + 1) ⊎ ((x ≡ e) × (is_due due k ≡ false))) × (k ≡ j → x ≡ e)
placed_only due j e k x h = elim (cases_eq k j) [
  | inl is ↦
      let v : place_of due j e ≡ x + 1 = read_written due.only j (place_of due j e) x (subst (λ m. only_at (placed due j e) m ≡ x + 1) is h) in
      let p = place_is (is_due due j) (only_at due j == e + 1) e x v in (
        elim p.1 [
          | inl same ↦ inl (ap (only_at due) is ∙ (equal (only_at due j) (e + 1) same ∙ ap (λ m. m + 1) (sym p.0)))
          | inr out ↦ inr (p.0, ap (is_due due) is ∙ out)
        ],
        λ same. p.0,
      )
  | inr other ↦ (inl (sym (get_or-set_other due.only j k (place_of due j e) 0 other) ∙ h), λ same. absurd (other same))
]

-- ---- at the start

all_out : (n k : ℕ) → slice_index_or (replicate n true) k true ≡ false → ⊥
all_out zero k h = false≢true (sym h)
all_out (suc n) zero h = false≢true (sym h)
all_out (suc n) (suc k) h = all_out n k h

none_noted : (n k : ℕ) → slice_index_or (replicate n false) k false ≡ true → ⊥
none_noted zero k h = false≢true h
none_noted (suc n) zero h = false≢true h
none_noted (suc n) (suc k) h = none_noted n k h

none_only : (n k x : ℕ) → slice_index_or (replicate n 0) k 0 ≡ x + 1 → ⊥
none_only zero k x h = omega (arith, h)
none_only (suc n) zero x h = omega (arith, h)
none_only (suc n) (suc k) x h = none_only n k x h

pub fresh : (plan : LabPlan) (s : State) (n p m : ℕ) (due : DueView) → IsDueOf plan due → due.jobs ≡ replicate n true → due.only ≡ replicate p 0 →
    due.lower ≡ replicate m false → due.higher ≡ replicate m false → AreMarked plan s due
fresh plan s n p m due fits jobs only lower higher = record {
  of_plan = fits;
  others = λ k job out. absurd (all_out n k (sym (ap (λ (l : List Bool). slice_index_or l k true) jobs) ∙ out));
  only = λ k e x own is other. absurd (none_only p k x (sym (ap (λ (l : List ℕ). slice_index_or l k 0) only) ∙ is));
  noted = λ k e own noted. absurd (at (end_of plan k e) e noted);
} where
  at : (end : End) (e : ℕ) → is_noted due end e ≡ true → ⊥
  at Lower e h = none_noted m e (sym (ap (λ (l : List Bool). slice_index_or l e false) lower) ∙ h)
  at Higher e h = none_noted m e (sym (ap (λ (l : List Bool). slice_index_or l e false) higher) ∙ h)

written_there : (xs : List ℕ) (a v e : ℕ) → slice_index_or xs a 0 ≡ e + 1 → slice_index_or (set xs a v) a 0 ≡ v
written_there [] a v e h = absurd (omega (arith, h))
written_there (y ∷ xs) zero v e h = refl
written_there (y ∷ xs) (suc a) v e h = written_there xs a v e h

place_there : (due : Bool) (e : ℕ) → place due true e ≡ e + 1
place_there false e = refl
place_there true e = refl

placed_stays : (due : DueView) (j e k : ℕ) → only_at due k ≡ e + 1 → only_at (placed due j e) k ≡ e + 1
placed_stays due j e k h = elim (cases_eq k j) [
  | inr other ↦ get_or-set_other due.only j k (place_of due j e) 0 other ∙ h
  | inl is ↦
      let there : only_at due j ≡ e + 1 = ap (only_at due) (sym is) ∙ h in
      let v : place_of due j e ≡ e + 1 = ap (λ b. place (is_due due j) b e) (eq-eqb (only_at due j) (e + 1) there) ∙ place_there (is_due due j) e in
      ap (only_at (placed due j e)) is ∙ (written_there due.only j (place_of due j e) e there ∙ v)
]

-- ---- jobs that are due

pub still_due : (due : DueView) (j k : ℕ) → is_due due k ≡ true → is_due (with_due due j) k ≡ true
still_due due j k h = true_or _ (λ z. false≢true (sym (out_before due.jobs j k z).1 ∙ h))

-- ---- notes

-- one that is there after another was taken away was there before, and isn't that one
pub forgotten : (due : DueView) (here end : End) (e f : ℕ) → is_noted (with_note due here e false) end f ≡ true →
    (is_noted due end f ≡ true) × ¬ ((end ≡ here) × (f ≡ e))
forgotten due Lower Lower e f h = let b = noted_before due.lower e f h in (b.1, λ z. b.0 z.1)
forgotten due Higher Higher e f h = let b = noted_before due.higher e f h in (b.1, λ z. b.0 z.1)
forgotten due Lower Higher e f h = (h, λ z. absurd (cc))
forgotten due Higher Lower e f h = (h, λ z. absurd (cc))

-- one that is there after another was added is that one, or was there before
pub added : (due : DueView) (here end : End) (e f : ℕ) → is_noted (with_note due here e true) end f ≡ true →
    ((end ≡ here) × (f ≡ e)) ⊎ (is_noted due end f ≡ true)
added due Lower Lower e f h = elim (cases_eq f e) [ inl is ↦ inl (refl, is) | inr other ↦ inr (sym (get_or-set_other due.lower e f true false other) ∙ h) ]
added due Higher Higher e f h = elim (cases_eq f e) [ inl is ↦ inl (refl, is) | inr other ↦ inr (sym (get_or-set_other due.higher e f true false other) ∙ h) ]
added due Lower Higher e f h = inr h
added due Higher Lower e f h = inr h

kept_in : (xs : List Bool) (e f : ℕ) → slice_index_or xs f false ≡ true → slice_index_or (set xs e true) f false ≡ true
kept_in [] e f h = h
kept_in (x ∷ xs) zero zero h = refl
kept_in (x ∷ xs) zero (suc f) h = h
kept_in (x ∷ xs) (suc e) zero h = h
kept_in (x ∷ xs) (suc e) (suc f) h = kept_in xs e f h

pub noted_still : (due : DueView) (here end : End) (e f : ℕ) → is_noted due end f ≡ true → is_noted (with_note due here e true) end f ≡ true
noted_still due Lower Lower e f h = kept_in due.lower e f h
noted_still due Higher Higher e f h = kept_in due.higher e f h
noted_still due Lower Higher e f h = h
noted_still due Higher Lower e f h = h

pub noted_now : (due : DueView) (here : End) (e : ℕ) → e < length due.lower → e < length due.higher → is_noted (with_note due here e true) here e ≡ true
noted_now due Lower e lower higher = get_or-set_same due.lower e true false lower
noted_now due Higher e lower higher = get_or-set_same due.higher e true false higher

pub note_jobs : (due : DueView) (here : End) (e : ℕ) (b : Bool) → (with_note due here e b).jobs ≡ due.jobs
note_jobs due Lower e b = refl
note_jobs due Higher e b = refl

pub note_only : (due : DueView) (here : End) (e : ℕ) (b : Bool) (k : ℕ) → only_at (with_note due here e b) k ≡ only_at due k
note_only due Lower e b k = refl
note_only due Higher e b k = refl

-- ---- the same plan

pub note_fits : (plan : LabPlan) (due : DueView) (here : End) (e : ℕ) (b : Bool) → IsDueOf plan due → IsDueOf plan (with_note due here e b)
note_fits plan due Lower e b fits = record { jobs_there = fits.jobs_there; only_there = fits.only_there; lower_there = length-set due.lower e b ∙ fits.lower_there; higher_there = fits.higher_there }
note_fits plan due Higher e b fits = record { jobs_there = fits.jobs_there; only_there = fits.only_there; lower_there = fits.lower_there; higher_there = length-set due.higher e b ∙ fits.higher_there }

pub due_fits : (plan : LabPlan) (due : DueView) (j : ℕ) → IsDueOf plan due → IsDueOf plan (with_due due j)
due_fits plan due j fits = record { jobs_there = length-set due.jobs j true ∙ fits.jobs_there; only_there = fits.only_there; lower_there = fits.lower_there; higher_there = fits.higher_there }

pub placed_fits : (plan : LabPlan) (due : DueView) (j e : ℕ) → IsDueOf plan due → IsDueOf plan (placed due j e)
placed_fits plan due j e fits = record {
  jobs_there = fits.jobs_there;
  only_there = length-set due.only j (place_of due j e) ∙ fits.only_there;
  lower_there = fits.lower_there;
  higher_there = fits.higher_there;
}

-- ---- an edge at which something was moved

module _ (plan : LabPlan) (due : DueView) (e : ℕ) where
  abbrev lower : ℕ
  lower = (ends plan e).0

  abbrev higher : ℕ
  higher = (ends plan e).1

  abbrev told : DueView
  told = placed (placed due lower e) higher e

  abbrev both : DueView
  both = with_due (with_due told lower) higher

  pub woken_fits : IsDueOf plan due → IsDueOf plan (woken_at plan due e)
  woken_fits fits = note_fits plan (with_note both Lower e false) Higher e false (note_fits plan both Lower e false
      (due_fits plan (with_due told lower) higher (due_fits plan told lower (placed_fits plan (placed due lower e) higher e (placed_fits plan due lower e fits)))))

  -- whoever isn't due now wasn't before, and the edge isn't its own
  pub woken_out : (k : ℕ) → is_due (woken_at plan due e) k ≡ false → (is_due due k ≡ false) × ¬ IsOwn plan k e
  woken_out k h =
      let b = out_before (with_due told lower).jobs higher k h in
      let a = out_before due.jobs lower k b.1 in
      (a.1, λ own. elim own.at_end [ inl is ↦ a.0 (sym is) | inr is ↦ b.0 (sym is) ])

  pub woken_due : (k : ℕ) → is_due due k ≡ true → is_due (woken_at plan due e) k ≡ true
  woken_due k h = still_due (with_due told lower) higher k (still_due told lower k h)

  -- where a job may have something to do alone: where it could before, or at the edge; and the edge is that, if it is its own
  pub woken_only : (k x : ℕ) → only_at (woken_at plan due e) k ≡ x + 1 → ((only_at due k ≡ x + 1) ⊎ ((x ≡ e) × (is_due due k ≡ false))) × (IsOwn plan k e → x ≡ e)
  woken_only k x h = let b = placed_only (placed due lower e) higher e k x h in elim b.0 [
    | inr z ↦ (inr z, λ own. z.0)
    | inl before ↦ let a = placed_only due lower e k x before in
        (a.0, λ own. elim own.at_end [ inl is ↦ a.1 (sym is) | inr is ↦ b.1 (sym is) ])
  ]

  pub woken_stays : (k : ℕ) → only_at due k ≡ e + 1 → only_at (woken_at plan due e) k ≡ e + 1
  woken_stays k h = placed_stays (placed due lower e) higher e k (placed_stays due lower e k h)

  pub woken_kept : (end : End) (f : ℕ) → f ≢ e → is_noted due end f ≡ true → is_noted (woken_at plan due e) end f ≡ true
  woken_kept Lower f other h = get_or-set_other due.lower e f false false other ∙ h
  woken_kept Higher f other h = get_or-set_other due.higher e f false false other ∙ h

  -- what is noted now was before, of another edge
  pub woken_notes : (end : End) (f : ℕ) → is_noted (woken_at plan due e) end f ≡ true → (is_noted due end f ≡ true) × (f ≢ e)
  woken_notes Lower f h =
      let b = forgotten (with_note both Lower e false) Higher Lower e f h in
      let a = forgotten both Lower Lower e f b.0 in
      (a.0, λ is. a.1 (refl, is))
  woken_notes Higher f h =
      let b = forgotten (with_note both Lower e false) Higher Higher e f h in
      let a = forgotten both Lower Higher e f b.0 in
      (a.0, λ is. b.1 (refl, is))

-- ---- two jobs at one end

ends_apart : Lower ≡ Higher → ⊥
ends_apart h = absurd (cc)

lower_end : (a j : ℕ) → (if a == j then Lower else Higher) ≡ Lower → a ≡ j
lower_end a j h = elim (cases_eq a j) [
  | inl is ↦ is
  | inr other ↦ absurd (ends_apart (sym h ∙ ap (λ (b : Bool). if b then Lower else Higher) (ne_eqb a j other)))
]

higher_end : (a j : ℕ) → (if a == j then Lower else Higher) ≡ Higher → a ≢ j
higher_end a j h is = ends_apart (sym (ap (λ (b : Bool). if b then Lower else Higher) (eq-eqb a j is)) ∙ h)

pub same_job : (plan : LabPlan) (j k e : ℕ) → IsOwn plan j e → IsOwn plan k e → end_of plan k e ≡ end_of plan j e → k ≡ j
same_job plan j k e own other is = at (end_of plan j e) refl where
  at : (end : End) → end_of plan j e ≡ end → k ≡ j
  at Lower h = sym (lower_end (ends plan e).0 k (is ∙ h)) ∙ lower_end (ends plan e).0 j h
  at Higher h = let a = higher_end (ends plan e).0 j h in let b = higher_end (ends plan e).0 k (is ∙ h) in elim own.at_end [
    | inl low ↦ absurd (a low)
    | inr high ↦ elim other.at_end [ inl low ↦ absurd (b low) | inr high' ↦ sym high' ∙ high ]
  ]
