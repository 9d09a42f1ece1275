-- What is done in a world: acts and turns of one job, and words of owners.
use Rattle.std.specs.Prelude.{◌≡◌, ℕ, ◌+◌, ◌≤◌, Bool, true, ◌↔◌, List, [], ◌++◌, length}
use Rattle.std.specs.List.{count_by}
use Rattle.legal_steps.specs.declared.event.Event.{Event}
use Rattle.legal_steps.specs.declared.event.Event.TheVariants.{Thirst, Withdraw}
use Rattle.legal_steps.specs.declared.phase.Drinking.TheVariants.{Drinking as Drinks}
use Rattle.legal_steps.specs.State.{IsDrinking, phase, drinking}
use Rattle.legal_steps.specs.Legal.{May, IsJob}
use Rattle.interleaving.specs.World.{WorldView, LeadsTo}
use Rattle.edge_word.specs.Moves.{on}
use Rattle.turns.specs.Acts.{AreActs}
use Rattle.turns.specs.Turn.{Visit, count, once, is_done, is_lost, visits_events, IsTurnBy}
use Rattle.reasons.specs.Deeds.{is_deed}
use Rattle.live_lab.specs.declared.words.Word.{Word}
use Rattle.live_lab.specs.declared.words.Word.TheVariants.{Begins, GivesUp}
use Rattle.late_thirst.specs.Outside.{LineView}
use Rattle.live_lab.specs.Labs.{IsLineOf}
use Rattle.live_lab.specs.Rests.{IsAtRest, ComesToRest, DoAndRest}
use Rattle.live_lab.specs.Admitting.{AdmitsAll, AreAskers}
use Rattle.live_lab.specs.Ends.{in_hand, rest_of_session}

-- the phase act was done that was due, and it is said whether there was one
pub record ActsIn (old : WorldView) (j waited n : ℕ) (new : WorldView) : Type 0 where
  pub acts : List Event
  pub due : AreActs old.plan old.state j waited acts
  pub says : n ≡ once acts
  pub leads : LeadsTo old acts new

-- a turn was taken, in which so many things were done
pub record TurnsIn (old : WorldView) (j waited n : ℕ) (new : WorldView) : Type 0 where
  pub visits : List Visit
  pub acts : List Event
  pub turn : IsTurnBy old.plan j waited old.state visits acts (visits_events j visits ++ acts)
  pub none_lost : count is_lost visits ≡ 0
  pub says : n ≡ count is_done visits + once acts
  pub leads : LeadsTo old (visits_events j visits ++ acts) new

-- the event was done if it is legal
pub record TriesIn (old : WorldView) (event : Event) (did : Bool) (new : WorldView) : Type 0 where
  pub legal : (did ≡ true) ↔ May old.plan old.state event
  pub leads : LeadsTo old (on did event []) new

-- the command in hand was done, if one was: so many deeds. Then the job drinks
pub record TakesFromHand (old : WorldView) (j n : ℕ) (new : WorldView) : Type 0 where
  pub leads : LeadsTo old (in_hand (drinking old.state j) j) new
  pub deeds : n ≡ count_by is_deed (in_hand (drinking old.state j) j)
  pub one : n ≤ 1
  pub drinks : drinking new.state j ≡ Drinks

-- the commands that were left of the session were done, and it was ended: so many deeds
pub record LetsGo (old : WorldView) (j n : ℕ) (new : WorldView) : Type 0 where
  pub left : ℕ
  pub leads : LeadsTo old (rest_of_session (drinking old.state j) j left) new
  pub deeds : n ≡ count_by is_deed (rest_of_session (drinking old.state j) j left)

-- what an owner says: its job begins its next session, or gives one up
abbrev pub said : Word → ℕ → Event
said Begins j = Thirst j
said GivesUp j = Withdraw j

-- all was done that was due of itself: so many deeds
pub record RestsIn (old : WorldView) (n : ℕ) (new : WorldView) : Type 0 where
  pub events : List Event
  pub rests : ComesToRest old events new
  pub deeds : n ≡ count_by is_deed events

-- each job of the set did so, and then all was done that this made due: so many deeds
pub record DoesAndRests (word : Word) (set : ℕ) (old : WorldView) (n : ℕ) (new : WorldView) : Type 0 where
  pub events : List Event
  pub does : DoAndRest (said word) set old events new
  pub seats : length old.state.seats ≡ length old.plan.jobs
  pub leads : LeadsTo old events new
  pub deeds : n ≡ count_by is_deed events

-- those who were due were let in, until nobody was any more: so many deeds
pub record AdmitsIn (waiting : ℕ) (old : WorldView) (line : LineView) (n : ℕ) (new : WorldView) (line' : LineView) : Type 0 where
  pub events : List Event
  pub admits : AdmitsAll waiting old line events new line'
  pub leads : LeadsTo old events new
  pub at_rest : IsAtRest old → IsAtRest new
  pub line_of : IsLineOf new line'
  pub askers : AreAskers new line'
  pub stay : (k : ℕ) → IsJob old.plan k → IsDrinking (phase old.state k) → IsDrinking (phase new.state k)
  pub deeds : n ≡ count_by is_deed events

-- the jobs of the set gave their sessions up, and then those who were due by that were let in: so many deeds
pub record GivesUpIn (waiting set : ℕ) (old : WorldView) (line : LineView) (n : ℕ) (new : WorldView) (line' : LineView) : Type 0 where
  pub left : WorldView
  pub many : ℕ
  pub more : ℕ
  pub does : DoesAndRests GivesUp set old many left
  pub admits : AdmitsIn waiting left line more new line'
  pub says : n ≡ many + more
