-- For readers: what a settle does, and what holds after it.
use Rattle.std.specs.Prelude.{◌≡◌, ◌⊎◌, ℕ, ◌≤◌, ◌||◌, List, ◌++◌, length, slice_index_or, if◌then◌else◌}
use Rattle.std.specs.List.{count_by}
use Rattle.lab_plan.specs.LabPlan.{LabPlan, sessions}
use Rattle.lab_plan.specs.InstrumentSets.{holds}
use Rattle.legal_steps.specs.declared.event.Event.{Event}
use Rattle.legal_steps.specs.declared.event.Event.TheVariants.{Thirst, Withdraw}
use Rattle.legal_steps.specs.State.{State, Has, IsDrinking, IsInSession, phase, drinking, session}
use Rattle.legal_steps.specs.Legal.{May, IsJob}
use Rattle.interleaving.specs.World.{WorldView, LeadsTo}
use Rattle.turns.specs.Patience.{is_waiting, waited_in}
use Rattle.turns.specs.Acts.{IsUsedUp}
use Rattle.reasons.specs.Deeds.{is_deed}
use Rattle.live_lab.specs.declared.settle.Came.{Came}
use Rattle.live_lab.specs.declared.clock.Clock.{Clock}
use Rattle.live_lab.specs.Clocks.{no_clock, waits, after_turn}
use Rattle.live_lab.specs.Labs.{LabView, clock_at}
use Rattle.late_thirst.specs.Outside.{LineView}
use Rattle.live_lab.specs.Sets.{AreJobs}
use Rattle.live_lab.specs.Rests.{IsAtRest, ComesToRest, DoAndRest}
use Rattle.live_lab.specs.Told.{EachIsTold}
use Rattle.live_lab.specs.Admitting.{MayAsk, Asks, NobodyIsOutside, AdmitsAll, WasFree, EachStandsOutside}

-- the job is in no session, and has none left
abbrev pub IsThrough : LabPlan → State → ℕ → Type 0
IsThrough plan s j = (IsInSession (drinking s j) → ⊥) × (length (sessions plan j) ≤ session s j)

-- the job is thirsty, and the patience of its session is used up by the turns that were counted before the call
abbrev pub IsOutOfPatience : List Clock → WorldView → ℕ → Type 0
IsOutOfPatience clocks w j =
    May w.plan w.state (Withdraw j) × IsUsedUp w.plan w.state j (waited_in (waits (slice_index_or clocks j no_clock)) (session w.state j))

-- a turn was counted of each job that is waited for, or that was thirsty at the start; of no other
pub record AreCounted (waiting : ℕ) (old new : LabView) : Type 0 where
  pub as_many : length new.clocks ≡ length old.clocks
  pub each : (j : ℕ) → IsJob old.world.plan j
      → clock_at new j ≡ (if holds waiting j || is_waiting (drinking old.world.state j)
      then after_turn (is_waiting (drinking old.world.state j)) (phase new.world.state j) (clock_at old j) else clock_at old j)

-- What a settle does where nobody has to wait outside, in this order
pub record SettlesAtOnce (waiting : ℕ) (old : LabView) (came : Came) (new : WorldView) : Type 0 where
  -- all was done that was due
  pub rested : WorldView
  pub first : List Event
  pub rests : ComesToRest old.world first rested
  -- each job of `waiting` that might begin its next session began it, and no other; and all was done that this made due
  pub begun : ℕ
  pub begins : AreJobs rested.plan begun (MayAsk waiting rested)
  pub joined : WorldView
  pub second : List Event
  pub joins : DoAndRest (λ j. Thirst j) begun rested second joined
  -- each job that is still thirsty and out of patience gave its session up, and no other; and all was done that this made due
  pub gives_up : AreJobs joined.plan came.given_up (IsOutOfPatience old.clocks joined)
  pub third : List Event
  pub leaves : DoAndRest (λ j. Withdraw j) came.given_up joined third new
  -- all these are legal events one after another, and it is told how many they are, looks aside
  pub leads : LeadsTo old.world (first ++ second ++ third) new
  pub deeds : came.deeds ≡ count_by is_deed (first ++ second ++ third)

-- What a settle does, in this order
pub record Settles (waiting : ℕ) (old : LabView) (came : Came) (new : LabView) : Type 0 where
  -- all was done that was due
  pub rested : WorldView
  pub first : List Event
  pub rests : ComesToRest old.world first rested
  -- each job of `waiting` that may begin its next session asks, if it hasn't
  pub asking : LineView
  pub asks : Asks waiting rested old.line asking
  -- those who are due are let in, and all was done that this made due
  pub joined : WorldView
  pub left_out : LineView
  pub second : List Event
  pub joins : AdmitsAll waiting rested asking second joined left_out
  -- each job that is still thirsty and out of patience gave its session up, and no other; and all was done that this made due
  pub gives_up : AreJobs joined.plan came.given_up (IsOutOfPatience old.clocks joined)
  pub left : WorldView
  pub third : List Event
  pub leaves : DoAndRest (λ j. Withdraw j) came.given_up joined third left
  -- those who are due by that are let in, as above
  pub fourth : List Event
  pub rejoins : AdmitsAll waiting left left_out fourth new.world new.line
  -- whoever was let in because its instruments were free holds now
  pub free_hold : (k : ℕ) → IsJob new.world.plan k
      → WasFree waiting joins.times rested asking second joined left_out joins.one_by_one k
      ⊎ WasFree waiting rejoins.times left left_out fourth new.world new.line rejoins.one_by_one k → IsDrinking (phase new.world.state k)
  -- whoever is left outside, though it is waited for and may begin, was passed by fewer than `most` times, and a job in a session needs one of its
  -- instruments
  pub outside : EachStandsOutside waiting new.world new.line
  -- all these are legal events one after another, and it is told how many they are, looks aside
  pub leads : LeadsTo old.world (first ++ second ++ third ++ fourth) new.world
  pub deeds : came.deeds ≡ count_by is_deed (first ++ second ++ third ++ fourth)
  -- if nobody has to wait outside, all that may begin do so at once
  pub at_once : old.line.most ≡ 0 → NobodyIsOutside old.line → SettlesAtOnce waiting old came new.world × NobodyIsOutside new.line
  -- it is told who holds now, and who of `waiting` is in no session and has none left
  pub holds : AreJobs new.world.plan came.holds (λ j. IsDrinking (phase new.world.state j))
  pub none_left : AreJobs new.world.plan came.none_left (λ j. Has waiting j × IsThrough new.world.plan new.world.state j)
  -- nothing is left to do, and each that waits has a reason
  pub at_rest : IsAtRest new.world
  -- so whoever is waited for is told that it holds, that its session was given up, or that it has none left; or it waits for a job that holds
  pub each_told : EachIsTold waiting came new
  -- a turn was counted of each job that is waited for, or that was thirsty at the start
  pub counted : AreCounted waiting old new
