-- The sessions that ended: those of each job ascend, and all are past.
use Rattle.std.proofs.Common.{◌≡◌, ℕ, ◌<◌, ◌≤◌, true, false, true≢false, length, List, [], ◌∷◌, ◌++◌, sym, ap, subst, ◌∙◌, refl, arith, All}
use Rattle.std.proofs.lemmas.List.{append-nil}
use Rattle.std.proofs.lemmas.List.Elements.{All-weaker, All-push}
use Rattle.std.proofs.lemmas.List.Quantifiers.{all_pairs_push}
use Rattle.lab_plan.specs.LabPlan.{LabPlan, sessions}
use Rattle.legal_steps.specs.declared.phase.Drinking.TheVariants.{Thirsty}
use Rattle.legal_steps.specs.declared.event.Event.{Event}
use Rattle.legal_steps.specs.declared.event.Event.TheVariants.{Thirst, Drink, Reach, Act, Quit, Retire, Withdraw}
use Rattle.legal_steps.specs.State.{State}
use Rattle.legal_steps.specs.WholeLogs.{IsSessionOf, IsBefore, IsAscending, ended_by}
use Rattle.legal_steps.proofs.LogBooks.{Stage, Books, books, put-same, put-cases, is_in_session}
use Rattle.legal_steps.proofs.LogMoves.{Can, booked, with_stage}

-- a thirsty job has done none of its session's commands
abbrev pub IsFresh : Books → Type 0
IsFresh b = (j : ℕ) → (b.stages j).drinking ≡ Thirsty → (b.stages j).position ≡ 0

fresh_move : (b : Books) (j : ℕ) (x : Stage) → (x.drinking ≡ Thirsty → x.position ≡ 0) → IsFresh b → IsFresh (with_stage b j x)
fresh_move b j x new h k = put-cases (λ n y. y.drinking ≡ Thirsty → y.position ≡ 0) b.stages j x k (λ here. new) (λ other. h k)

pub IsFresh-after : (plan : LabPlan) (b : Books) (event : Event) → IsFresh b → IsFresh (booked plan b event)
IsFresh-after plan b (Thirst j) h = fresh_move b j _ (λ e. refl) h
IsFresh-after plan b (Drink j) h = fresh_move b j _ (λ e. absurd (cc)) h
IsFresh-after plan b (Reach j) h = fresh_move b j _ (λ e. absurd (cc)) h
IsFresh-after plan b (Act j) h = fresh_move b j _ (λ e. absurd (cc)) h
IsFresh-after plan b (Quit j) h = fresh_move b j _ (λ e. refl) h
IsFresh-after plan b (Retire j) h = fresh_move b j _ (λ e. absurd (cc)) h
IsFresh-after plan b (Withdraw j) h = fresh_move b j _ (λ e. refl) h
IsFresh-after plan b _ h = h

-- a session (job, number) is past for a job at this stage: it began, and is not the one that the job is in
pub record IsPastAt (own : ℕ × ℕ) (x : Stage) : Type 0 where
  pub began : own.1 ≤ x.session
  pub before : is_in_session x.drinking ≡ true → own.1 < x.session

abbrev pub IsPast : Books → ℕ × ℕ → Type 0
IsPast b own = IsPastAt own (b.stages own.0)

past_move : (b : Books) (j : ℕ) (x : Stage) (own : ℕ × ℕ) → (IsPastAt own (b.stages j) → IsPastAt own x) → IsPast b own → IsPast (with_stage b j x) own
past_move b j x own new h =
    put-cases (λ n y. IsPastAt own y) b.stages j x own.0 (λ here. new (subst (λ n. IsPastAt own (b.stages n)) here h)) (λ other. h)

-- the job stays in its session
stays_in : (own : ℕ × ℕ) (x y : Stage) → y.session ≡ x.session → is_in_session x.drinking ≡ true → IsPastAt own x → IsPastAt own y
stays_in own x y same inside h = record { began = omega (arith, h.began, same); before = λ e. omega (arith, h.before inside, same) }

-- the job is in no session
goes_out : (own : ℕ × ℕ) (x y : Stage) → y.session ≡ x.session → is_in_session y.drinking ≡ false → IsPastAt own x → IsPastAt own y
goes_out own x y same outside h = record { began = omega (arith, h.began, same); before = λ e. absurd (true≢false (sym e ∙ outside)) }

pub IsPast-after : (plan : LabPlan) (b : Books) (event : Event) (own : ℕ × ℕ) → Can plan b event → IsPast b own → IsPast (booked plan b event) own
IsPast-after plan b (Thirst j) own can h = past_move b j _ own (λ v. record { began = omega (arith, v.began); before = λ e. omega (arith, v.began) }) h
IsPast-after plan b (Drink j) own can h = past_move b j _ own (stays_in own _ _ refl (ap is_in_session can.1)) h
IsPast-after plan b (Reach j) own can h = past_move b j _ own (stays_in own _ _ refl (ap is_in_session can.1)) h
IsPast-after plan b (Act j) own can h = past_move b j _ own (stays_in own _ _ refl (ap is_in_session can.1)) h
IsPast-after plan b (Quit j) own can h = past_move b j _ own (goes_out own _ _ refl refl) h
IsPast-after plan b (Retire j) own can h = past_move b j _ own (goes_out own _ _ refl refl) h
IsPast-after plan b (Withdraw j) own can h = past_move b j _ own (goes_out own _ _ refl refl) h
IsPast-after plan b _ own can h = h

-- a past session of a job that is in a session comes before that one
pub past_before : (b : Books) (j : ℕ) → is_in_session (b.stages j).drinking ≡ true → (own : ℕ × ℕ) → IsPast b own → IsBefore own (j, (b.stages j).session)
past_before b j inside own h same =
    let here : IsPastAt own (b.stages j) = subst (λ n. IsPastAt own (b.stages n)) same h in here.before inside

-- a stage fits a job: it has begun no more sessions than the plan gives it, and one where it is in one
pub record IsStageOf (plan : LabPlan) (j : ℕ) (x : Stage) : Type 0 where
  pub session_there : x.session ≤ length (sessions plan j)
  pub begun : is_in_session x.drinking ≡ true → 1 ≤ x.session

-- the stages of the plan's jobs fit
abbrev pub AreStages : LabPlan → Books → Type 0
AreStages plan b = (j : ℕ) → j < length plan.jobs → IsStageOf plan j (b.stages j)

-- the sessions that an event ends
abbrev pub ended_on : Books → Event → List (ℕ × ℕ)
ended_on b (Quit j) = (j, (b.stages j).session) ∷ []
ended_on b _ = []

pub ended_on_is : (s : State) (event : Event) → ended_on (books s) event ≡ ended_by s event
ended_on_is s (Quit j) = refl
ended_on_is s _ = refl

-- the sessions that ended so far
pub record HasEnded (plan : LabPlan) (b : Books) (ended : List (ℕ × ℕ)) : Type 0 where
  pub of_plan : All (IsSessionOf plan) ended
  pub ascending : IsAscending ended
  pub past : All (IsPast b) ended

ended_quit : (plan : LabPlan) (b : Books) (ended : List (ℕ × ℕ)) (j : ℕ) → AreStages plan b → Can plan b (Quit j)
    → HasEnded plan b ended → HasEnded plan (booked plan b (Quit j)) (ended ++ (j, (b.stages j).session) ∷ [])
ended_quit plan b ended j fit can h =
    let own : ℕ × ℕ = (j, (b.stages j).session) in
    let r : Books = booked plan b (Quit j) in
    let earlier : All (λ other. IsBefore other own) ended =
    All-weaker (IsPast b) (λ other. IsBefore other own) (past_before b j (ap is_in_session can.1)) ended h.past in
    let still : All (IsPast r) ended = All-weaker (IsPast b) (IsPast r) (λ other. IsPast-after plan b (Quit j) other can) ended h.past in
    let new : IsPast r own = subst (IsPastAt own) (sym (put-same b.stages j _)) (record { began = omega arith; before = λ e. absurd (true≢false (sym e)) }) in
    let in_plan : IsSessionOf plan own =
    record { job_there = can.0; from_one = (fit j can.0).begun (ap is_in_session can.1); session_there = (fit j can.0).session_there } in
    record {
      of_plan = All-push (IsSessionOf plan) ended own h.of_plan in_plan;
      ascending = all_pairs_push IsBefore ended own h.ascending earlier;
      past = All-push (IsPast r) ended own still new;
    }

ended_other : (plan : LabPlan) (b : Books) (ended : List (ℕ × ℕ)) (event : Event)
    → Can plan b event → HasEnded plan b ended → HasEnded plan (booked plan b event) (ended ++ [])
ended_other plan b ended event can h =
    let r : Books = booked plan b event in
    subst (HasEnded plan r) (sym (append-nil ended))
    (record {
      of_plan = h.of_plan;
      ascending = h.ascending;
      past = All-weaker (IsPast b) (IsPast r) (λ other. IsPast-after plan b event other can) ended h.past;
    })

pub HasEnded-after : (plan : LabPlan) (b : Books) (ended : List (ℕ × ℕ)) (event : Event) → AreStages plan b
    → Can plan b event → HasEnded plan b ended → HasEnded plan (booked plan b event) (ended ++ ended_on b event)
HasEnded-after plan b ended (Quit j) fit can h = ended_quit plan b ended j fit can h
HasEnded-after plan b ended event fit can h = ended_other plan b ended event can h
