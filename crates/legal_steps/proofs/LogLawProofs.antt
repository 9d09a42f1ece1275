-- The laws of logs, room and counts, each as it is stated.
use Rattle.std.proofs.Common.{◌≡◌, ℕ, List, length, take, arith, ap, inl, inr, true, false, true≢false, ◌∙◌, sym}
use Rattle.std.proofs.lemmas.Bool.{cases_lt, and_parts}
use Rattle.std.proofs.lemmas.List.{get_or_past}
use Rattle.lab_plan.specs.LabPlan.{LabPlan}
use Rattle.lab_plan.specs.IsPlan.{IsPlan}
use Rattle.legal_steps.specs.declared.event.Event.{Event}
use Rattle.legal_steps.specs.State.{State, Seat, phase, no_seat}
use Rattle.legal_steps.specs.Fitting.{Fits}
use Rattle.legal_steps.specs.Opening.{IsOpening}
use Rattle.legal_steps.specs.Run.{IsLegalFrom, after_all}
use Rattle.legal_steps.specs.WholeLogs.{ended_sessions}
use Rattle.legal_steps.specs.LogLaws.{HasWholeLogs, HasValuesOfDials, EndsInOrder, HasEndedSessions, HasNothingElse, FitsItsRoom, TakesNextEntry, HasFewSessions, HasFewMeals, CountsSessions}
use Rattle.legal_steps.proofs.RunLemmas.{legal_take}
use Rattle.legal_steps.proofs.LogBooks.{books, is_drinking, drinks_from}
use Rattle.legal_steps.proofs.LogRun.{IsLogged, logged, stages_fit}
use Rattle.legal_steps.proofs.WholeLaw.{IsHeldByJobs, drinking_inside, whole_from, begins_with_parts}
use Rattle.legal_steps.proofs.AppendLaw.{room_enough, act_appends_logged, within_limits_logged}
use Rattle.legal_steps.proofs.CountLaw.{sessions_counted, sessions_few}
use Rattle.legal_steps.proofs.MealLaw.{meals_bounded}

logged_always : (plan : LabPlan) (opening : State) (events : List Event) (n : ℕ) → IsPlan plan → IsOpening plan opening → IsLegalFrom plan opening events →
    IsLogged plan (after_all plan opening (take n events)) (ended_sessions plan opening (take n events))
logged_always plan opening events n is_plan opens legal = logged plan opening (take n events) is_plan opens (legal_take plan opening events n legal)

-- a job past the plan's holds nothing, since it is idle
held_by_jobs : (plan : LabPlan) (s : State) → Fits plan s → IsHeldByJobs plan (books s)
held_by_jobs plan s fit j i holder =
    let drinks : is_drinking (phase s j).drinking ≡ true = (and_parts _ _ holder).0 in
    elim (cases_lt j (length plan.jobs)) [
      | inl job ↦
          let here = stages_fit plan s fit j job in
          record { job_there = job; from_one = here.begun (drinking_inside (phase s j).drinking drinks); session_there = here.session_there }
      | inr past ↦
          let idle : is_drinking (phase s j).drinking ≡ false =
          ap (λ (x : Seat). is_drinking x.phase.drinking) (get_or_past s.seats j no_seat (omega (arith, past, fit.seats_there))) in
          absurd (true≢false (sym drinks ∙ idle))
    ]

pub has_whole_logs : HasWholeLogs
has_whole_logs plan opening events n is_plan opens legal i =
    let h = logged_always plan opening events n is_plan opens legal in
    whole_from plan (books (after_all plan opening (take n events))) (ended_sessions plan opening (take n events)) i
    (held_by_jobs plan (after_all plan opening (take n events)) h.fits) h.books_kept.ended_so (h.books_kept.kept i)

pub has_values_of_dials : HasValuesOfDials
has_values_of_dials plan opening events n is_plan opens legal = (logged_always plan opening events n is_plan opens legal).books_kept.dialled

pub ends_in_order : EndsInOrder
ends_in_order plan opening events n is_plan opens legal =
    let so = (logged_always plan opening events n is_plan opens legal).books_kept.ended_so in
    (so.of_plan, so.ascending)

pub has_ended_sessions : HasEndedSessions
has_ended_sessions plan opening events n is_plan opens legal i =
    begins_with_parts plan (books (after_all plan opening (take n events))) (ended_sessions plan opening (take n events)) i
    ((logged_always plan opening events n is_plan opens legal).books_kept.kept i)

pub has_nothing_else : HasNothingElse
has_nothing_else plan opening events n is_plan opens legal i free =
    elim ((logged_always plan opening events n is_plan opens legal).books_kept.kept i) [
      | inl a ↦
          let parts = and_parts _ _ a.1 in
          absurd (free a.0 (record { drinks = drinks_from (phase (after_all plan opening (take n events)) a.0) parts.0; named = parts.1 }))
      | inr a ↦ a.1
    ]

pub fits_its_room : FitsItsRoom
fits_its_room plan opening events n is_plan opens legal i =
    room_enough plan (after_all plan opening (take n events)) (ended_sessions plan opening (take n events)) i
    (logged_always plan opening events n is_plan opens legal)

pub takes_next_entry : TakesNextEntry
takes_next_entry plan opening events n is_plan opens legal j job reaching =
    let s : State = after_all plan opening (take n events) in
    let h = logged_always plan opening events n is_plan opens legal in
    (act_appends_logged plan s _ j is_plan h job reaching, within_limits_logged plan s _ j is_plan h job reaching)

pub has_few_sessions : HasFewSessions
has_few_sessions plan opening events n is_plan opens legal j = sessions_few plan _ j is_plan (logged_always plan opening events n is_plan opens legal).fits

pub has_few_meals : HasFewMeals
has_few_meals plan opening events n is_plan opens legal j = meals_bounded plan opening (take n events) j opens (legal_take plan opening events n legal)

pub counts_sessions : CountsSessions
counts_sessions plan opening events n is_plan opens legal j =
    let h = sessions_counted plan opening (take n events) j opens (legal_take plan opening events n legal) in
    (h.inside, h.outside)
