-- For readers: what the calls do that are steps of one job.
use Rattle.std.specs.Prelude.{◌≡◌, ◌⊎◌, ℕ, ◌+◌, ◌<◌, ◌≤◌, Bool, true, false, List, [], ◌∷◌, length}
use Rattle.std.specs.Prelude.{Option, None, Some, IsSome, slice_set}
use Rattle.lab_plan.specs.LabPlan.{LabPlan, sessions, patience}
use Rattle.instrument_log.specs.declared.entry.Entry.{Entry}
use Rattle.legal_steps.specs.declared.event.Event.{Event}
use Rattle.legal_steps.specs.declared.event.Event.TheVariants.{Thirst, Reach, Act, Withdraw}
use Rattle.legal_steps.specs.State.{State, phase, drinking, session}
use Rattle.legal_steps.specs.Legal.{May, IsJob, next_entry}
use Rattle.interleaving.specs.World.{LeadsTo}
use Rattle.turns.specs.Patience.{is_waiting}
use Rattle.turns.specs.Turn.{Visit, is_done, is_lost, count, once, IsTurnBy}
use Rattle.session_layer.specs.declared.turning.Turned.{Turned}
use Rattle.session_layer.specs.Turn.{Says}
use Rattle.live_lab.specs.Clocks.{after_turn}
use Rattle.late_thirst.specs.declared.asker.Asker.{Asker}
use Rattle.late_thirst.specs.Lines.{with_place}
use Rattle.live_lab.specs.Labs.{LabView, with_line, clock_at, waited}
use Rattle.live_lab.specs.Admitting.{IsLeftOutside}

-- the job did so; or there is no such job, and nothing changed
abbrev pub AtJob : {R : Type 0} → (ℕ → LabView → R → LabView → Type 0) → ℕ → LabView → Option R → LabView → Type 0
AtJob Did job old (Some r) new = IsJob old.world.plan job × Did job old r new
AtJob Did job old None new = (length old.world.plan.jobs ≤ job) × (new ≡ old)

-- these legal events were done one after another, and no turn was counted
pub record Does (old : LabView) (events : List Event) (new : LabView) : Type 0 where
  pub leads : LeadsTo old.world events new.world
  pub clocks : new.clocks ≡ old.clocks
  pub line : new.line ≡ old.line

-- One turn of the job: each of its edges in ascending order was visited, then came the phase act that was due by the count at the turn's start, and the
-- turn was counted
pub record TakesTurn (j : ℕ) (old : LabView) (r : Turned) (new : LabView) : Type 0 where
  pub visits : List Visit
  pub acts : List Event
  pub events : List Event
  pub turn : IsTurnBy old.world.plan j (waited old j) old.world.state visits acts events
  pub none_lost : count is_lost visits ≡ 0
  pub says : Says r (count is_done visits + once acts) 0
  pub leads : LeadsTo old.world events new.world
  pub clocks : new.clocks ≡ slice_set old.clocks j (after_turn (is_waiting (drinking old.world.state j)) (phase new.world.state j) (clock_at old j))
  pub line : new.line ≡ old.line

-- ---- single steps

-- a job that waited outside doesn't any more, or the session that it waited for was given up; or neither could be, and nothing changed
abbrev pub Withdraws : ℕ → LabView → Bool → LabView → Type 0
Withdraws j old true new =
    ((a : Asker) × IsLeftOutside old j a × (new ≡ with_line old (with_place old.line j None)))
    ⊎ (((a : Asker) → ¬ IsLeftOutside old j a) × May old.world.plan old.world.state (Withdraw j) × Does old (Withdraw j ∷ []) new)
Withdraws j old false new = ((a : Asker) → ¬ IsLeftOutside old j a) × (May old.world.plan old.world.state (Withdraw j) → ⊥) × (new ≡ old)

-- the job has a session left, and the next one has a patience
abbrev pub IsNextPatient : LabPlan → State → ℕ → Type 0
IsNextPatient plan s j = (session s j < length (sessions plan j)) × IsSome (patience plan j (session s j + 1))

-- the job may begin its next session, and that can be given up
abbrev pub MaySkip : LabPlan → State → ℕ → Type 0
MaySkip plan s j = May plan s (Thirst j) × IsSome (patience plan j (session s j + 1))

-- It began and was given up at once: nothing was done in between, so that it held nothing. If the job waited outside it doesn't any more
pub record SkipsNext (j : ℕ) (old new : LabView) : Type 0 where
  pub may : MaySkip old.world.plan old.world.state j
  pub leads : LeadsTo old.world (Thirst j ∷ Withdraw j ∷ []) new.world
  pub clocks : new.clocks ≡ old.clocks
  pub line : new.line ≡ with_place old.line j None

-- so it was; or it couldn't be, and nothing changed
abbrev pub Skips : ℕ → LabView → Bool → LabView → Type 0
Skips j old true new = SkipsNext j old new
Skips j old false new = (MaySkip old.world.plan old.world.state j → ⊥) × (new ≡ old)

-- the job's next command was done, and this is its entry; or the job doesn't hold, or has none left, and nothing changed
abbrev pub Commands : ℕ → LabView → Option Entry → LabView → Type 0
Commands j old (Some entry) new =
    May old.world.plan old.world.state (Reach j) × (entry ≡ next_entry old.world.plan old.world.state j) × Does old (Reach j ∷ Act j ∷ []) new
Commands j old None new = (May old.world.plan old.world.state (Reach j) → ⊥) × (new ≡ old)
