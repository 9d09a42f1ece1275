-- What the laws of logs read of a state: how far each job is in its sessions, and each log.
use Rattle.std.proofs.Common.{◌≡◌, ◌≢◌, ◌⊎◌, ℕ, Bool, true, false, ◌&&◌, ◌==◌, if◌then◌else◌, List, sym, ap, subst, inl, inr, refl}
use Rattle.std.proofs.lemmas.Bool.{eq-eqb, ne_eqb, and_parts, cases_eq}
use Rattle.lab_plan.specs.LabPlan.{LabPlan, session_names}
use Rattle.instrument_log.specs.declared.entry.Entry.{Entry}
use Rattle.legal_steps.specs.declared.phase.Drinking.{Drinking}
use Rattle.legal_steps.specs.declared.phase.Drinking.TheVariants.{Tranquil, Thirsty, Drinking as Drinks, Reaching, Retired}
use Rattle.legal_steps.specs.declared.phase.JobState.{JobState}
use Rattle.legal_steps.specs.State.{State, phase, log, IsDrinking}
use Rattle.legal_steps.specs.Holding.{IsExclusive}

-- how far a job is in its sessions
pub record Stage : Type 0 where
  pub drinking : Drinking
  pub session : ℕ
  pub position : ℕ

-- the stage of each job, and each log
pub record Books : Type 0 where
  pub stages : ℕ → Stage
  pub logs : ℕ → List Entry

abbrev pub stage_of : JobState → Stage
stage_of x = record { drinking = x.drinking; session = x.session; position = x.position }

abbrev pub books : State → Books
books s = record { stages = λ j. stage_of (phase s j); logs = λ i. log s i }

-- the function with another value at one number
abbrev pub put : {A : Type 0} → (ℕ → A) → ℕ → A → ℕ → A
put f j x k = if k == j then x else f k

pub put-same : {A : Type 0} (f : ℕ → A) (j : ℕ) (x : A) → put f j x j ≡ x
put-same f j x = ap (λ b. if b then x else f j) (eq-eqb j j (λ i. j))

pub put-other : {A : Type 0} (f : ℕ → A) (j : ℕ) (x : A) (k : ℕ) → k ≢ j → put f j x k ≡ f k
put-other f j x k other = ap (λ b. if b then x else f k) (ne_eqb k j other)

-- ---- who holds an instrument

abbrev pub is_in_session : Drinking → Bool
is_in_session Tranquil = false
is_in_session Thirsty = true
is_in_session Drinks = true
is_in_session Reaching = true
is_in_session Retired = false

abbrev pub is_drinking : Drinking → Bool
is_drinking Tranquil = false
is_drinking Thirsty = false
is_drinking Drinks = true
is_drinking Reaching = true
is_drinking Retired = false

-- whether a job at this stage holds the instrument
abbrev pub holds_at : LabPlan → ℕ → Stage → ℕ → Bool
holds_at plan j x i = is_drinking x.drinking && session_names plan j x.session i

abbrev pub holds : LabPlan → Books → ℕ → ℕ → Bool
holds plan b j i = holds_at plan j (b.stages j) i

-- no two jobs hold one instrument
abbrev pub HasOneHolder : LabPlan → Books → Type 0
HasOneHolder plan b = (j k i : ℕ) → holds plan b j i ≡ true → holds plan b k i ≡ true → j ≡ k

pub drinks_from : (x : JobState) → is_drinking x.drinking ≡ true → IsDrinking x
drinks_from x h = from x.drinking h
  where
    from : (d : Drinking) → is_drinking d ≡ true → (d ≡ Drinks) ⊎ (d ≡ Reaching)
    from Tranquil e = absurd (cc)
    from Thirsty e = absurd (cc)
    from Drinks e = inl refl
    from Reaching e = inr refl
    from Retired e = absurd (cc)

pub one_holder_from : (plan : LabPlan) (s : State) → IsExclusive plan s → HasOneHolder plan (books s)
one_holder_from plan s exclusive j k i hj hk =
    let a = and_parts _ _ hj in
    let b = and_parts _ _ hk in
    exclusive j k i (record { drinks = drinks_from (phase s j) a.0; named = a.1 }) (record { drinks = drinks_from (phase s k) b.0; named = b.1 })

-- what holds of the new value, and of the old ones at other numbers, holds of each
pub put-cases : {A : Type 0} (P : ℕ → A → Type 0) (f : ℕ → A) (j : ℕ) (x : A) (k : ℕ) → (k ≡ j → P j x) → (k ≢ j → P k (f k)) → P k (put f j x k)
put-cases P f j x k new old = elim (cases_eq k j) [
  | inl here ↦ subst (λ n. P n (put f j x n)) (sym here) (subst (P j) (sym (put-same f j x)) (new here))
  | inr other ↦ subst (P k) (sym (put-other f j x k other)) (old other)
]
