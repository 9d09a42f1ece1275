-- A lab goes on: it began in the plan's initial state, and it is marked who may have something to do.
use Rattle.std.proofs.Common.{◌≡◌, Bool, false, List, [], ◌++◌, length, sym, ap, ◌∙◌, subst}
use Rattle.lab_plan.specs.LabPlan.{LabPlan}
use Rattle.legal_steps.specs.declared.event.Event.{Event}
use Rattle.legal_steps.specs.State.{State}
use Rattle.legal_steps.specs.Opening.{the_opening}
use Rattle.legal_steps.specs.Run.{after_all}
use Rattle.interleaving.specs.World.{WorldView, LeadsTo}
use Rattle.edge_word.specs.Moves.{on}
use Rattle.turns.specs.Lists.{Each}
use Rattle.settling.specs.Left.{DueView, AreMarked, KeepsMarks}
use Rattle.settling.proofs.Worlds.{leads_both}
use Rattle.settling.proofs.Waking.{marked_on}
use Rattle.live_lab.specs.declared.clock.Clock.{Clock}
use Rattle.late_thirst.specs.Outside.{LineView}
use Rattle.live_lab.specs.Labs.{IsLab, IsLineOf}

-- some legal events lead from one world to the other
abbrev pub GoesOn : WorldView → WorldView → Type 0
GoesOn old new = (events : List Event) × LeadsTo old events new

pub lab_on : (old : WorldView) (clocks clocks' : List Clock) (new : WorldView) → GoesOn old new → length clocks' ≡ length clocks
    → IsLab old clocks → IsLab new clocks'
lab_on old clocks clocks' new go as_many is =
    let same : new.plan ≡ old.plan = go.1.same_plan in
    record {
      opening = go.1.goes_on.same_opening ∙ (is.opening ∙ ap the_opening (sym same));
      one_each = as_many ∙ (is.one_each ∙ ap (λ (p : LabPlan). length p.jobs) (sym same));
    }

pub both_on : (old mid new : WorldView) → GoesOn old mid → GoesOn mid new → GoesOn old new
both_on old mid new a b = (a.0 ++ b.0, leads_both old mid new a.0 b.0 a.1 b.1)

pub line_on : (old new : WorldView) (line : LineView) → GoesOn old new → IsLineOf old line → IsLineOf new line
line_on old new line go is = is ∙ ap (λ (p : LabPlan). length p.jobs) (sym go.1.same_plan)

-- whatever legal events of a kind were done, if the notes are kept over events of that kind
pub in_lab : (old new : WorldView) (clocks clocks' : List Clock) (line : LineView) (events : List Event) (Kind : Event → Type 0) (p : LabPlan) (due due' : DueView)
    → LeadsTo old events new → Each Kind events → KeepsMarks p Kind due due' → p ≡ new.plan → length clocks' ≡ length clocks
    → IsLab old clocks × AreMarked old.plan old.state due × IsLineOf old line
    → IsLab new clocks' × AreMarked new.plan new.state due' × IsLineOf new line
in_lab old new clocks clocks' line events Kind p due due' leads kind keeps same as_many is = (
  lab_on old clocks clocks' new (events, leads) as_many is.0,
  marked_on old new events Kind due due' leads kind (subst (λ (q : LabPlan). KeepsMarks q Kind due due') same keeps) is.1,
  line_on old new line (events, leads) is.2,
)

-- an event that isn't done leaves the notes as they are
pub not_done : (old new : WorldView) (did : Bool) (event : Event) (due : DueView) → did ≡ false → LeadsTo old (on did event []) new → AreMarked old.plan old.state due
    → AreMarked new.plan new.state due
not_done old new did event due out l marked =
    let same : new.state ≡ old.state = l.run.leads ∙ ap (λ (b : Bool). after_all old.plan old.state (on b event [])) out in
    subst (λ (z : LabPlan × State). AreMarked z.0 z.1 due) (λ i. (sym l.same_plan i, sym same i)) marked
