-- For readers: what was written of a lab that keeps its journal.
use Rattle.std.specs.Prelude.{◌≡◌, ℕ, zero, suc, ◌+◌, ◌<◌, true, List, [], ◌∷◌, ◌++◌, length, codes, Ok}
use Rattle.lab_plan.specs.LabPlan.{LabPlan, SessionPlan, sessions}
use Rattle.legal_steps.specs.declared.event.Event.{Event}
use Rattle.legal_steps.specs.Opening.{the_opening}
use Rattle.interleaving.specs.World.{WorldView, IsReachedBy, LeadsTo}
use Rattle.interleaving.specs.Adding.{WorldAdds}
use Rattle.live_lab.specs.Labs.{LabView}
use Rattle.live_lab.specs.Adding.{AddsText}
use Rattle.written_steps.specs.StepLists.{script_head}
use Rattle.journal_texts.specs.Texts.{journal_text, summed}
use Rattle.journal_texts.specs.More.{more_text}
use Rattle.journal_texts.specs.Parts.{Mark, Part, Came, Said, Noted, plan_after, events_in, said, ArePlain, marks_text, AreMarks, parts_text, IsHistory}
use Rattle.lab_journal.specs.Taking.{IsOpenedKept, without_kept}
use Rattle.lab_journal.specs.Room.{HasMoreRoom}
use Rattle.lab_journal.specs.Laws.{ComesBackCut}
use Rattle.lab_journal.specs.Resumed.{IsResumed}

-- These parts were written of a lab of this script's plan, which is in this world: they are a lab's, the lab has just the sessions that came in them, and
-- what it did is what they have and what is kept
pub record IsWritten (plan : LabPlan) (parts : List Part) (w : WorldView) : Type 0 where
  pub history : IsHistory plan (the_opening plan) parts
  pub same_plan : w.plan ≡ plan_after plan parts
  pub opening : w.opening ≡ the_opening plan
  pub past : w.past ≡ events_in parts ++ w.kept.events

-- sessions of job j that came one behind the other
abbrev pub all_came : ℕ → List SessionPlan → List Part
all_came j [] = []
all_came j (session ∷ further) = Came j session true ∷ all_came j further

-- what is told of this many sessions of job j, from session s on
abbrev pub more_texts : LabPlan → ℕ → ℕ → ℕ → List ℕ
more_texts plan j s zero = []
more_texts plan j s (suc n) = more_text plan j s ++ more_texts plan j (s + 1) n

-- where a world is, as of every world
abbrev pub IsThere : WorldView → Type 0
IsThere w = IsReachedBy w.plan w.opening w.past w.state w.counts

-- Whatever is done to a lab that was opened kept, what is written of it stays such parts
pub record StaysWritten : Type 0 where
  -- of a lab that was just opened there are none
  pub opened : (x : LabView) → IsOpenedKept x → IsWritten x.world.plan [] x.world
  -- events that a call does change none, unless one is left out for want of room
  pub done : (plan : LabPlan) (parts : List Part) (v w : WorldView) (events : List Event) → IsWritten plan parts v → LeadsTo v events w → w.kept.whole ≡ true
      → IsWritten plan parts w
  -- nor does room that is made for more
  pub roomier : (plan : LabPlan) (parts : List Part) (text : List ℕ) (x y : LabView) → IsWritten plan parts x.world → HasMoreRoom text x y
      → IsWritten plan parts y.world
  -- a session that is added is one part more, with the text of `lab_more`
  pub added : (plan : LabPlan) (parts : List Part) (v w : WorldView) (j : ℕ) (session : SessionPlan) → IsWritten plan parts v → IsThere v
      → j < length v.plan.jobs → WorldAdds v j session (Ok tt) w
      → IsWritten plan (parts ++ Came j session true ∷ []) w
      × (parts_text plan (parts ++ Came j session true ∷ []) ≡ parts_text plan parts ++ more_text w.plan j (length (sessions v.plan j) + 1))
  -- so is each session of a text, with its text by the plan that has them all
  pub added_text : (plan : LabPlan) (parts : List Part) (x y : LabView) (text : List ℕ) (j : ℕ) → IsWritten plan parts x.world → IsThere x.world
      → j < length x.world.plan.jobs → AddsText text j x (Ok tt) y
      → (further : List SessionPlan) × IsWritten plan (parts ++ all_came j further) y.world
      × (parts_text plan (parts ++ all_came j further)
      ≡ parts_text plan parts ++ more_texts y.world.plan j (length (sessions x.world.plan j) + 1) (length further))
  -- so is a comment
  pub commented : (plan : LabPlan) (parts : List Part) (w : WorldView) (words : List ℕ) → IsWritten plan parts w → ArePlain words
      → IsWritten plan (parts ++ Said words ∷ []) w
      × (parts_text plan (parts ++ Said words ∷ []) ≡ parts_text plan parts ++ (said words ++ codes "\n"))
  -- so are lines of whoever keeps the lab, in a text of their own
  pub noted : (plan : LabPlan) (parts : List Part) (w : WorldView) (marks : List Mark) → IsWritten plan parts w → AreMarks marks
      → IsWritten plan (parts ++ Noted marks true ∷ []) w
      × (parts_text plan (parts ++ Noted marks true ∷ []) ≡ parts_text plan parts ++ summed (marks_text marks))
  -- what is taken is one part more, with the text of `lab_journal`, if anything is
  pub took : (plan : LabPlan) (parts : List Part) (x : LabView) → IsWritten plan parts x.world → IsThere x.world
      → (more : List Part) × IsWritten plan more (without_kept x).world
      × (parts_text plan more ≡ parts_text plan parts ++ journal_text x.world.plan x.world.kept.events)
  -- of a lab that is resumed from a file that was cut there are those that are left of it
  pub resumed : (plan : LabPlan) (script : List ℕ) (parts : List Part) (text : List ℕ) (cut : ComesBackCut plan script parts text) (n : ℕ) (x : LabView)
      → IsResumed (script_head script ++ text) n x → IsWritten plan cut.first x.world
