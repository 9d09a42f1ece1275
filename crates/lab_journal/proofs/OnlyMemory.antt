-- A journal that is read, and whose steps are legal, is refused for want of memory alone.
use Rattle.std.proofs.Common.{◌≡◌, ◌⊎◌, ℕ, zero, suc, ◌<◌, List, [], ◌∷◌, length, take, refl, sym, ap, ◌∙◌, subst, inl, inr, ⊎_elim, arith}
use Rattle.std.specs.Prelude.{Result, Ok, Err, Some, slice_get}
use Rattle.lab_plan.specs.LabPlan.{LabPlan}
use Rattle.legal_steps.specs.declared.event.Event.{Event}
use Rattle.legal_steps.specs.declared.event.StepLine.{StepLine}
use Rattle.legal_steps.specs.State.{State}
use Rattle.legal_steps.specs.Legal.{May, after}
use Rattle.legal_steps.specs.Opening.{the_opening}
use Rattle.legal_steps.specs.Run.{IsLegalFrom, StopsAt, after_all}
use Rattle.script_reader.specs.declared.fault.ScriptFault.{ScriptFault}
use Rattle.script_reader.specs.declared.fault.ScriptCause.TheVariants as causes
use Rattle.script_reader.specs.Laws.{HasOneList, HasListOrFault}
use Rattle.script_reader.specs.Steps.{StepsMean, StepsRefuse}
use Rattle.explaining.specs.Explanations.{events_from_opening}
use Rattle.lab_program.specs.declared.faults.RunFault.{RunFault}
use Rattle.lab_program.specs.declared.faults.RunFault.TheVariants as faults
use Rattle.journal_texts.specs.Lines.{AreWholeLines}
use Rattle.journal_texts.specs.Additions.{additions}
use Rattle.lab_journal.specs.Meaning.{with_additions}
use Rattle.lab_journal.specs.Resumed.{IsRefused, IsNotResumed}
use Rattle.lab_journal.specs.Laws.{IsReadAs, IsForMemory}
use Rattle.lab_journal.proofs.ComesBack.{lines_once, plan_or}

refused_for_memory : HasListOrFault → (text : List ℕ) (plan : LabPlan) (steps : List StepLine) (fault : ScriptFault) → StepsMean text plan steps
    → StepsRefuse text fault → fault.cause ≡ causes.NoMemory
refused_for_memory either text plan steps fault means (inl script) =
    ⊎_elim (λ memory. memory.0) (λ is. absurd (either text plan steps fault.line fault.cause means (inl is))) script
refused_for_memory either text plan steps fault means (inr more) =
    ⊎_elim (λ memory. memory.0) (λ is. absurd (either text plan steps fault.line fault.cause means (inr (more.0, more.1, is)))) more.2

-- the event at a place of a legal list
record IsLegalAt (plan : LabPlan) (s : State) (events : List Event) (place : ℕ) : Type 0 where
  event : Event
  there : slice_get events place ≡ Some event
  may : May plan (after_all plan s (take place events)) event

legal_at : (plan : LabPlan) (s : State) (events : List Event) (place : ℕ) → IsLegalFrom plan s events → place < length events → IsLegalAt plan s events place
legal_at plan s [] place legal inside = absurd (omega (arith, inside))
legal_at plan s (x ∷ events) zero legal inside = record { event = x; there = refl; may = legal.0 }
legal_at plan s (x ∷ events) (suc place) legal inside =
    let more = legal_at plan (after plan s x) events place legal.1 (omega (arith, inside)) in record { event = more.event; there = more.there; may = more.may }

never_stops : (plan : LabPlan) (s : State) (events : List Event) (place : ℕ) (t : State) → IsLegalFrom plan s events → StopsAt plan s events place t → ⊥
never_stops plan s events place t legal stops =
    let at = legal_at plan s events place legal stops.inside in
    stops.not_legal at.event at.there (subst (λ (z : State). May plan z at.event) (sym stops.before.leads) at.may)

never_both : (plan : LabPlan) (fault : ScriptFault) (r : Result LabPlan ScriptFault) → r ≡ Ok plan → r ≡ Err fault → ⊥
never_both plan fault r a b = let e : Ok plan ≡ Err fault = sym a ∙ b in cc

pub only_memory : HasOneList → HasListOrFault → (plan : LabPlan) (file whole : List ℕ) (events : List Event) → AreWholeLines file (length whole)
    → take (length whole) file ≡ whole → IsReadAs plan whole events → IsLegalFrom plan (the_opening plan) events
    → (fault : RunFault) → IsNotResumed file fault → IsForMemory fault
only_memory one either plan file whole events lines cut read legal fault is =
    let here : take is.0 file ≡ whole = ap (λ k. take k file) (lines_once file is.0 (length whole) is.1 lines) ∙ cut in
    by fault (subst (λ (l : List ℕ). IsRefused l fault) here is.2)
  where
    by : (fault : RunFault) → IsRefused whole fault → IsForMemory fault
    by (faults.Script fault) (inl refuse) = refused_for_memory either whole read.means.script read.steps fault read.means.means refuse
    by (faults.Script fault) (inr (inl bad)) =
        ⊎_elim (λ memory. memory)
        (λ wrong. let both = one whole bad.script read.means.script bad.steps read.steps bad.means read.means.means in
        absurd (never_both plan fault (with_additions bad.script (additions whole)) (ap (λ (p : LabPlan). with_additions p (additions whole)) both.0 ∙ read.means.came) wrong))
        bad.is_bad
    by (faults.Script fault) (inr (inr wrong)) = absurd (let both = sym read.sums ∙ wrong.1 in cc)
    by (faults.Step line) bad =
        let both = one whole bad.means.script read.means.script bad.steps read.steps bad.means.means read.means.means in
        let same : bad.plan ≡ plan = ap (plan_or plan)
        (sym bad.means.came ∙ (ap (λ (p : LabPlan). with_additions p (additions whole)) both.0 ∙ read.means.came)) in
        let told : events_from_opening bad.plan bad.steps ≡ events = (λ i. events_from_opening (same i) (both.1 i)) ∙ read.events_are in
        absurd (never_stops plan (the_opening plan) events bad.place bad.state legal
        (subst (λ (z : LabPlan × State × List Event). StopsAt z.0 z.1 z.2 bad.place bad.state) (λ i. (same i, ap the_opening same i, told i)) bad.stops))
    by faults.Read bad = absurd bad
    by faults.TooLong bad = absurd bad
    by faults.Write bad = absurd bad
    by faults.NoMemory bad = tt
