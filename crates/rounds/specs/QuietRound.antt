-- For readers: the quiet round: each job's last turn was idle, and the two ends of every edge saw the same word last.
use Rattle.std.specs.Prelude.{◌≡◌, ◌≢◌, ◌↔◌, ℕ, ◌<◌, List, ◌++◌, length, Some}
use Rattle.lab_plan.specs.LabPlan.{LabPlan, edges, ends}
use Rattle.legal_steps.specs.declared.event.Event.{Event}
use Rattle.legal_steps.specs.declared.phase.Drinking.TheVariants.{Reaching}
use Rattle.legal_steps.specs.State.{IsOwn, edge, drinking}
use Rattle.legal_steps.specs.Legal.{IsJob}
use Rattle.turns.specs.AtTheEnd.{AllRetired, BothKnow}
use Rattle.turns.specs.History.{events_by, IsHistory, state_after, known_by}
use Rattle.turns.specs.Turn.{IsIdleTurn}
use Rattle.turns.specs.Turns.{but_glances}
use Rattle.rounds.specs.LastLooks.{last_seen}

-- the events of job j in the history, its Glances left out, end with an idle turn, by whatever count of its turns
pub record EndsIdle (plan : LabPlan) (h : List Event) (j : ℕ) : Type 0 where
  pub before : List Event
  pub idle : List Event
  pub waited : ℕ
  pub events : but_glances (events_by j h) ≡ before ++ idle
  pub turn : IsIdleTurn plan j waited (known_by plan before) idle

-- both ends of every edge saw the same word last
abbrev pub BothSaw : LabPlan → List Event → Type 0
BothSaw plan h = (e : ℕ) → e < length (edges plan) → last_seen e (events_by (ends plan e).0 h) ≡ last_seen e (events_by (ends plan e).1 h)

-- the history ends with an idle turn of each job, nobody is reaching, and both ends of every edge know the same of it
pub record IsQuietRound (plan : LabPlan) (h : List Event) : Type 0 where
  pub legal : IsHistory plan h
  pub idle : (j : ℕ) → IsJob plan j → EndsIdle plan h j
  pub none_reaches : (j : ℕ) → IsJob plan j → drinking (state_after plan h) j ≢ Reaching
  pub both_know : BothKnow plan h

-- after an idle turn, what a job knows of an edge of its own is what its last look saw
abbrev pub IdleJobKnowsWhatItSaw : Type 0
IdleJobKnowsWhatItSaw = (plan : LabPlan) (h : List Event) (j e : ℕ) → IsHistory plan h → EndsIdle plan h j
    → IsOwn plan j e → last_seen e (events_by j h) ≡ Some (edge (known_by plan (events_by j h)) e)

-- so if each job's last turn was idle, it is the same to know the same of an edge and to have seen the same word last
abbrev pub BothSawIsBothKnow : Type 0
BothSawIsBothKnow = (plan : LabPlan) (h : List Event) → IsHistory plan h → ((j : ℕ) → IsJob plan j → EndsIdle plan h j) → BothSaw plan h ↔ BothKnow plan h

-- in a quiet round all jobs are retired
abbrev pub QuietRoundIsRetired : Type 0
QuietRoundIsRetired = (plan : LabPlan) (h : List Event) → IsQuietRound plan h → AllRetired plan h
