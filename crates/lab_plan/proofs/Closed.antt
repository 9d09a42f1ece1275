-- Every session but the last has a command, so that a draft whose last session has one is a plan.
use Rattle.std.proofs.Common.{◌≡◌, ℕ, zero, suc, ◌+◌, ◌-◌, ◌<◌, ◌≤◌, false, ◌&&◌, ◌==◌, List, [], ◌∷◌, length, get_or, refl, sym, ap, ◌∙◌, subst, arith, inl, inr}
use Rattle.std.specs.Prelude.{Option, nat_lt}
use Rattle.std.proofs.lemmas.Bool.{cases_lt, cases_eq}
use Rattle.std.proofs.lemmas.Bool.Decides.{nat_tests}
use Rattle.std.proofs.lemmas.List.{length_push, get_or_append_left, get_or_past, get_or_push}
use Rattle.lab_plan.specs.declared.verb.Verb.{Verb}
use Rattle.lab_plan.specs.LabPlan.{SessionPlan, JobPlan, LabPlan, no_session, no_job, job_at, sessions, commands, edges, common, bottles}
use Rattle.lab_plan.specs.IsPlan.{IsDraft, IsPlan}
use Rattle.lab_plan.specs.Building.{AreClosed, empty_plan, on_last, with_job, and_session, with_session, and_command, in_last_session, with_command, instrument_number, is_bare, has_too_many_in_common}
use Rattle.lab_plan.proofs.Drafts.{none_at, same_length}

on_last_at : {X : Type 0} (change : X → X) (xs : List X) (k : ℕ) (d : X) → k + 1 ≡ length xs → get_or (on_last change xs) k d ≡ change (get_or xs k d)
on_last_at change [] k d h = absurd (omega (arith, h))
on_last_at change (x ∷ []) zero d h = refl
on_last_at change (x ∷ []) (suc k) d h = absurd (omega (arith, h))
on_last_at change (x ∷ y ∷ xs) zero d h = absurd (omega (arith, h))
on_last_at change (x ∷ y ∷ xs) (suc k) d h = on_last_at change (y ∷ xs) k d (omega (arith, h))

on_last_other : {X : Type 0} (change : X → X) (xs : List X) (k : ℕ) (d : X) → (k + 1 ≡ length xs → ⊥) → get_or (on_last change xs) k d ≡ get_or xs k d
on_last_other change [] k d h = refl
on_last_other change (x ∷ []) zero d h = absurd (h (omega arith))
on_last_other change (x ∷ []) (suc k) d h = refl
on_last_other change (x ∷ y ∷ xs) zero d h = refl
on_last_other change (x ∷ y ∷ xs) (suc k) d h = on_last_other change (y ∷ xs) k d (λ e. h (omega (arith, e)))

-- no session is empty
abbrev NotEmpty : LabPlan → Type 0
NotEmpty plan = (j s : ℕ) → 1 ≤ s → s ≤ length (sessions plan j) → 0 < length (commands plan j s)

full : (plan : LabPlan) → AreClosed plan → is_bare plan ≡ false → NotEmpty plan
full plan closed bare j s low high = elim (closed j s low high) [
  | inl some ↦ some
  | inr last ↦
      let job : j ≡ length plan.jobs - 1 = omega (arith, last.0) in
      let session : s - 1 ≡ length (sessions plan j) - 1 = omega (arith, last.1) in
      let some : 0 < length (sessions plan j) = omega (arith, low, high) in
      let at : (n : ℕ) (m : ℕ) → (nat_lt 0 (length (sessions plan n)) && (length (get_or (sessions plan n) m no_session).commands == 0)) ≡ false
      → 0 < length (sessions plan n) → 0 < length (get_or (sessions plan n) m no_session).commands
      = λ n m e begun. grind (arith, nat_tests, e, begun) in
      let bare_at : (nat_lt 0 (length (sessions plan j)) && (length (get_or (sessions plan j) (length (sessions plan j) - 1) no_session).commands == 0)) ≡ false
      =
      subst (λ n. (nat_lt 0 (length (sessions plan n)) && (length (get_or (sessions plan n) (length (sessions plan n) - 1) no_session).commands == 0))
      ≡ false) (sym job) bare in
      subst (λ m. 0 < length (get_or (sessions plan j) m no_session).commands) (sym session) (at j (length (sessions plan j) - 1) bare_at some)
]

pub closed_empty : (version : ℕ) → AreClosed (empty_plan version)
closed_empty version j s low high = absurd (omega (arith, low, high))

pub closed_with_job : (name : List ℕ) (plan : LabPlan) → AreClosed plan → is_bare plan ≡ false → AreClosed (with_job name plan)
closed_with_job name plan closed bare j s low high = elim (cases_lt j (length plan.jobs)) [
  | inl inside ↦
      let same : job_at (with_job name plan) j ≡ job_at plan j = get_or_append_left plan.jobs (new ∷ []) no_job j inside in
      inl (subst (λ (job : JobPlan). 0 < length (get_or job.sessions (s - 1) no_session).commands) (sym same)
      (full plan closed bare j s low (subst (λ (job : JobPlan). s ≤ length job.sessions) same high)))
  | inr outside ↦ absurd (let none = nothing j outside in omega (arith, low, high, none))
]
  where
    new : JobPlan
    new = record { name = name; sessions = [] }

    nothing : (j : ℕ) → length plan.jobs ≤ j → length (sessions (with_job name plan) j) ≡ 0
    nothing j outside = elim (cases_eq (length plan.jobs) j) [
      | inl is ↦ ap (λ (job : JobPlan). length job.sessions) (get_or_push plan.jobs (record { name = name; sessions = [] }) no_job j is)
      | inr other ↦ ap (λ (job : JobPlan). length job.sessions)
          (get_or_past (with_job name plan).jobs j no_job (omega (arith, other, outside, length_push plan.jobs (record { name = name; sessions = [] }))))
    ]

pub closed_with_session : (patience : Option ℕ) (plan : LabPlan) → AreClosed plan → is_bare plan ≡ false → AreClosed (with_session patience plan)
closed_with_session patience plan closed bare j s low high = elim (cases_eq (j + 1) (length plan.jobs)) [
  | inl last ↦
      let same : job_at (with_session patience plan) j ≡ and_session patience (job_at plan j) = on_last_at (and_session patience) plan.jobs j no_job last in
      let many : length (sessions (with_session patience plan) j) ≡ length (sessions plan j) + 1 =
      ap (λ (job : JobPlan). length job.sessions) same ∙ length_push (sessions plan j) _ in
      elim (cases_lt (length (sessions plan j)) s) [
        | inl new ↦ inr (omega (arith, last, same_length (and_session patience) plan.jobs), omega (arith, new, high, many))
        | inr old ↦
            let kept : get_or (sessions (with_session patience plan) j) (s - 1) no_session ≡ get_or (sessions plan j) (s - 1) no_session
            = ap (λ (job : JobPlan). get_or job.sessions (s - 1) no_session) same
            ∙ get_or_append_left (sessions plan j) _ no_session (s - 1) (omega (arith, low, old)) in
            inl (subst (λ (session : SessionPlan). 0 < length session.commands) (sym kept) (full plan closed bare j s low old))
      ]
  | inr other ↦
      let same : job_at (with_session patience plan) j ≡ job_at plan j = on_last_other (and_session patience) plan.jobs j no_job other in
      inl (subst (λ (job : JobPlan). 0 < length (get_or job.sessions (s - 1) no_session).commands) (sym same)
      (full plan closed bare j s low (subst (λ (job : JobPlan). s ≤ length job.sessions) same high)))
]

pub closed_with_command : (name : List ℕ) (verb : Verb) (plan : LabPlan) → AreClosed plan → AreClosed (with_command name verb plan)
closed_with_command name verb plan closed j s low high =
    elim (cases_eq (j + 1) (length plan.jobs)) [
      | inl last ↦
          let same : job_at (with_command name verb plan) j ≡ in_last_session (instrument_number name plan) verb (job_at plan j) =
          on_last_at (in_last_session (instrument_number name plan) verb) plan.jobs j no_job last in
          let there : s ≤ length (sessions plan j) =
          omega (
            arith,
            high,
            ap (λ (job : JobPlan). length job.sessions) same,
            same_length (and_command (instrument_number name plan) verb) (sessions plan j),
          ) in
          elim (cases_eq (s - 1 + 1) (length (sessions plan j))) [
            | inl ending ↦
                let grown : get_or (sessions (with_command name verb plan) j) (s - 1) no_session
                ≡ and_command (instrument_number name plan) verb (get_or (sessions plan j) (s - 1) no_session)
                = ap (λ (job : JobPlan). get_or job.sessions (s - 1) no_session) same
                ∙ on_last_at (and_command (instrument_number name plan) verb) (sessions plan j) (s - 1) no_session ending in
                inl (subst (λ (session : SessionPlan). 0 < length session.commands) (sym grown)
                (omega (arith, length_push (commands plan j s) (instrument_number name plan, verb))))
            | inr before ↦
                let kept : get_or (sessions (with_command name verb plan) j) (s - 1) no_session ≡ get_or (sessions plan j) (s - 1) no_session
                = ap (λ (job : JobPlan). get_or job.sessions (s - 1) no_session) same
                ∙ on_last_other (and_command (instrument_number name plan) verb) (sessions plan j) (s - 1) no_session before in
                let some : 0 < length (commands plan j s) =
                elim (closed j s low there) [ inl some ↦ some | inr is ↦ absurd (before (omega (arith, low, is.1))) ] in
                inl (subst (λ (session : SessionPlan). 0 < length session.commands) (sym kept) some)
          ]
      | inr other ↦
          let same : job_at (with_command name verb plan) j ≡ job_at plan j =
          on_last_other (in_last_session (instrument_number name plan) verb) plan.jobs j no_job other in
          let some : 0 < length (commands plan j s) =
          elim (closed j s low (subst (λ (job : JobPlan). s ≤ length job.sessions) same high)) [ inl some ↦ some | inr is ↦ absurd (other is.0) ] in
          inl (subst (λ (job : JobPlan). 0 < length (get_or job.sessions (s - 1) no_session).commands) (sym same) some)
    ]

-- what finishing asks is all that a draft lacks
pub finished : (plan : LabPlan) → IsDraft plan → AreClosed plan → is_bare plan ≡ false → has_too_many_in_common plan ≡ false → IsPlan plan
finished plan draft closed bare few = record {
  draft = draft;
  not_empty = full plan closed bare;
  few_bottles = λ e inside. at_most (length (bottles plan e)) (none_at (λ pair. nat_lt 28 (length (common plan pair))) (edges plan) few e (0, 0) inside);
}
  where
    at_most : (n : ℕ) → nat_lt 28 n ≡ false → n ≤ 28
    at_most n h = grind (arith, nat_tests, h)
