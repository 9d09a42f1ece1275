-- Each entry that a legal list of events wrote is within the limits, and of a job of the plan.
use Rattle.std.proofs.Common.{◌≡◌, ℕ, ◌<◌, List, [], ◌∷◌, ◌++◌, length, replicate, slice_index_or, sym, ap, ◌∙◌, subst, inl, inr, arith}
use Rattle.std.specs.List.{AllByRecursion}
use Rattle.std.proofs.lemmas.Bool.{cases_lt}
use Rattle.std.proofs.lemmas.List.{get_or-replicate, get_or_past, length-replicate}
use Rattle.lab_plan.specs.LabPlan.{LabPlan}
use Rattle.lab_plan.specs.IsPlan.{IsPlan}
use Rattle.instrument_log.specs.declared.entry.Entry.{Entry}
use Rattle.instrument_log.specs.Entries.{IsWithinLimits}
use Rattle.legal_steps.specs.declared.event.Event.{Event}
use Rattle.legal_steps.specs.declared.event.Event.TheVariants.{Act}
use Rattle.legal_steps.specs.State.{State, log}
use Rattle.legal_steps.specs.Legal.{May, after}
use Rattle.legal_steps.specs.Run.{IsLegalFrom, after_all}
use Rattle.legal_steps.specs.Opening.{IsOpening}
use Rattle.legal_steps.specs.WholeLogs.{ended_by}
use Rattle.legal_steps.proofs.AppendLaw.{within_limits_logged}
use Rattle.legal_steps.proofs.LogBooks.{Books, books, put-cases}
use Rattle.legal_steps.proofs.LogMoves.{booked, next_of, entry_of, books_after}
use Rattle.legal_steps.proofs.LogRun.{IsLogged, logged_after, opening_logged}
use Rattle.legal_steps.specs.Legal.{next_entry}

-- an entry that a job of the plan wrote
pub record IsWritten (plan : LabPlan) (entry : Entry) : Type 0 where
  pub job : entry.job < length plan.jobs
  pub within : IsWithinLimits entry

-- each log has such entries alone
abbrev pub AreWritten : LabPlan → Books → Type 0
AreWritten plan b = (i : ℕ) → AllByRecursion (IsWritten plan) (b.logs i)

push : (plan : LabPlan) (entries : List Entry) (entry : Entry) → AllByRecursion (IsWritten plan) entries → IsWritten plan entry
    → AllByRecursion (IsWritten plan) (entries ++ entry ∷ [])
push plan [] entry all new = (new, tt)
push plan (e ∷ entries) entry all new = (all.0, push plan entries entry all.1 new)

next_written : (plan : LabPlan) (s : State) (ended : List (ℕ × ℕ)) (j : ℕ) → IsPlan plan → IsLogged plan s ended → May plan s (Act j)
    → IsWritten plan (entry_of plan (books s) j)
unfolding next_entry
next_written plan s ended j is_plan logged may = record { job = may.0; within = within_limits_logged plan s ended j is_plan logged may.0 may.1 }

written_booked : (plan : LabPlan) (s : State) (ended : List (ℕ × ℕ)) (event : Event) → IsPlan plan → IsLogged plan s ended → May plan s event
    → AreWritten plan (books s) → AreWritten plan (booked plan (books s) event)
written_booked plan s ended (Act j) is_plan logged may h i =
    let b = books s in
    let at = (next_of plan b j).0 in
    put-cases (λ n entries. AllByRecursion (IsWritten plan) entries) b.logs at (b.logs at ++ entry_of plan b j ∷ []) i
    (λ here. push plan (b.logs at) (entry_of plan b j) (h at) (next_written plan s ended j is_plan logged may))
    (λ other. h i)
written_booked plan s ended _ is_plan logged may h i = h i

written_run : (plan : LabPlan) (s : State) (ended : List (ℕ × ℕ)) (events : List Event) → IsPlan plan → IsLegalFrom plan s events → IsLogged plan s ended
    → AreWritten plan (books s) → AreWritten plan (books (after_all plan s events))
written_run plan s ended [] is_plan legal logged h = h
written_run plan s ended (event ∷ events) is_plan legal logged h =
    let same = books_after plan s event is_plan.draft.named logged.fits legal.0 in
    written_run plan (after plan s event) (ended ++ ended_by s event) events is_plan legal.1 (logged_after plan s ended event is_plan legal.0 logged)
    (subst (AreWritten plan) (sym same) (written_booked plan s ended event is_plan logged legal.0 h))

opening_log : (plan : LabPlan) (s : State) (i : ℕ) → IsOpening plan s → log s i ≡ []
opening_log plan s i h = ap (λ logs. slice_index_or logs i []) h.logs_empty ∙ elim (cases_lt i (length plan.instruments)) [
  | inl inside ↦ get_or-replicate (length plan.instruments) i [] [] inside
  | inr past ↦ get_or_past (replicate (length plan.instruments) []) i [] (omega (arith, past, length-replicate {A = List Entry} (length plan.instruments) []))
]

pub logs_written : (plan : LabPlan) (opening : State) (events : List Event) → IsPlan plan → IsOpening plan opening → IsLegalFrom plan opening events
    → (i : ℕ) → AllByRecursion (IsWritten plan) (log (after_all plan opening events) i)
logs_written plan opening events is_plan opens legal =
    written_run plan opening [] events is_plan legal (opening_logged plan opening opens)
    (λ i. subst (AllByRecursion (IsWritten plan)) (sym (opening_log plan opening i opens)) tt)
