-- For readers: sessions that come while the lab is open.
use Rattle.std.specs.Prelude.{◌≡◌, ◌≢◌, ℕ, ◌<◌, List, [], ◌∷◌, length, take, Result, Ok, Err}
use Rattle.lab_plan.specs.LabPlan.{LabPlan, SessionPlan}
use Rattle.lab_plan.specs.Longer.{with_one_more}
use Rattle.legal_steps.specs.declared.phase.Drinking.TheVariants.{Retired as IsRetired}
use Rattle.legal_steps.specs.State.{drinking}
use Rattle.script_reader.specs.More.{AnswersMore}
use Rattle.interleaving.specs.declared.add_refusal.AddRefusal.{AddRefusal}
use Rattle.interleaving.specs.Adding.{WorldAdds}
use Rattle.live_lab.specs.declared.additions.NotAdded.{NotAdded}
use Rattle.live_lab.specs.declared.additions.NotAdded.TheVariants.{HasRetired, Fault, NoMemory}
use Rattle.live_lab.specs.Labs.{LabView}

-- it is added to the lab's world, or that is refused; all else stays
abbrev pub LabAdds : SessionPlan → ℕ → LabView → Result (Unit {0}) AddRefusal → LabView → Type 0
LabAdds session j old answer new = WorldAdds old.world j session answer new.world × (new.clocks ≡ old.clocks) × (new.line ≡ old.line)

-- the plan with these sessions of job j, one behind the other
abbrev pub with_all : LabPlan → ℕ → List SessionPlan → LabPlan
with_all plan j [] = plan
with_all plan j (session ∷ further) = with_all (with_one_more plan j session) j further

-- the lab with these: whatever was done in it was done by the longer plan too
abbrev pub longer_by : LabView → ℕ → List SessionPlan → LabView
longer_by x j further = record x { world = record x.world { plan = with_all x.world.plan j further } }

-- all were added, or so many, until one wasn't
abbrev pub AddsRead : List SessionPlan → ℕ → LabView → Result (Unit {0}) ℕ → LabView → Type 0
AddsRead further j old (Ok _) new = new ≡ longer_by old j further
AddsRead further j old (Err added) new = (added < length further) × (new ≡ longer_by old j (take added further))

-- The job hasn't retired, and the sessions that the text has for it were added. Or nothing was: it has retired, or the text has a fault. Or it hasn't, but
-- there was no memory, and then so many of them were
abbrev pub AddsText : List ℕ → ℕ → LabView → Result (Unit {0}) NotAdded → LabView → Type 0
AddsText text j old (Ok _) new =
    (further : List SessionPlan) × (drinking old.world.state j ≢ IsRetired) × AnswersMore old.world.plan j text (Ok further) × (new ≡ longer_by old j further)
AddsText text j old (Err HasRetired) new = (drinking old.world.state j ≡ IsRetired) × (new ≡ old)
AddsText text j old (Err (Fault fault)) new = AnswersMore old.world.plan j text (Err fault) × (new ≡ old)
AddsText text j old (Err (NoMemory added)) new =
    (further : List SessionPlan) × (drinking old.world.state j ≢ IsRetired) × AnswersMore old.world.plan j text (Ok further) × (added < length further)
    × (new ≡ longer_by old j (take added further))
