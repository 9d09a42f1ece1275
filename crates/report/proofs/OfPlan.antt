-- The entries of logs are of jobs of the plan, since the logs are made of parts of the plan's sessions.
use Rattle.std.proofs.Common.{◌≡◌, ℕ, ◌<◌, List, [], ◌∷◌, length, take, map, sym, subst, inl, inr}
use Rattle.std.proofs.lemmas.List.{length-map, get_or-map}
use Rattle.std.proofs.lemmas.List.Concat.{flat_map-cons}
use Rattle.std.proofs.lemmas.List.Elements.{All-nil, All-same, All-append, All-take, All-map, All-head, All-tail}
use Rattle.std.proofs.Math.Seq.{take-length}
use Rattle.std.specs.List.{All, enumerate_from}
use Rattle.lab_plan.specs.LabPlan.{LabPlan, commands}
use Rattle.lab_plan.specs.IsPlan.{IsPlan}
use Rattle.instrument_log.specs.declared.entry.Entry.{Entry}
use Rattle.legal_steps.specs.State.{State, log}
use Rattle.legal_steps.specs.declared.event.Event.{Event}
use Rattle.legal_steps.specs.Opening.{IsOpening}
use Rattle.legal_steps.specs.Run.{IsLegalFrom, after_all}
use Rattle.legal_steps.specs.Reached.{IsReached}
use Rattle.legal_steps.specs.WholeLogs.{LogLine, line_of, commands_on, part_of, parts_of, IsSessionOf, IsWholeButEnd}
use Rattle.legal_steps.specs.LogLaws.{HasWholeLogs}

-- the line is of a job of the plan
abbrev IsOfPlan : LabPlan → LogLine → Type 0
IsOfPlan plan line = line.0 < length plan.jobs

part_is : (plan : LabPlan) (i : ℕ) (own : ℕ × ℕ) → IsSessionOf plan own → All (IsOfPlan plan) (part_of plan i own)
part_is plan i own h =
    let there = commands_on i (commands plan own.0 own.1) in
    All-map (IsOfPlan plan) (λ numbered. (own.0, own.1, numbered.0, length there, numbered.1.1)) (enumerate_from 1 there) (λ k d inside. h.job_there)

parts_are : (plan : LabPlan) (i : ℕ) (owners : List (ℕ × ℕ)) → All (IsSessionOf plan) owners → All (IsOfPlan plan) (parts_of plan i owners)
parts_are plan i [] all = All-nil (IsOfPlan plan)
parts_are plan i (own ∷ owners) all =
    All-same (IsOfPlan plan) _ _ (flat_map-cons (part_of plan i) own owners)
    (All-append (IsOfPlan plan) _ _ (part_is plan i own (All-head (IsSessionOf plan) own owners all))
    (parts_are plan i owners (All-tail (IsSessionOf plan) own owners all)))

end_is : (plan : LabPlan) (i : ℕ) (entries : List Entry) (h : IsWholeButEnd plan i entries) → All (IsOfPlan plan) h.unfinished
end_is plan i entries h = elim h.end [
  | inl none ↦ All-same (IsOfPlan plan) h.unfinished [] none (All-nil (IsOfPlan plan))
  | inr begun ↦ All-same (IsOfPlan plan) h.unfinished _ begun.2.beginning
      (All-take (IsOfPlan plan) (length h.unfinished) (part_of plan i begun.0) (part_is plan i begun.0 begun.1))
]

-- each entry of a whole log is of a job of the plan
pub entries_are : (plan : LabPlan) (i : ℕ) (entries : List Entry) → IsWholeButEnd plan i entries → All (λ entry. entry.job < length plan.jobs) entries
entries_are plan i entries h k d inside =
    let lines : All (IsOfPlan plan) (map line_of entries) =
    All-same (IsOfPlan plan) _ _ h.joined (All-append (IsOfPlan plan) _ _ (parts_are plan i h.finished h.of_plan) (end_is plan i entries h)) in
    let there : k < length (map line_of entries) = subst (λ n. k < n) (sym (length-map entries line_of)) inside in
    subst (IsOfPlan plan) (get_or-map line_of entries k d (line_of d) inside) (lines k (line_of d) there)

-- after a list of events that is legal from an opening state
pub log_after_is_of_plan : HasWholeLogs → (plan : LabPlan) (opening : State) (events : List Event) → IsPlan plan → IsOpening plan opening
    → IsLegalFrom plan opening events → (i : ℕ) → All (λ entry. entry.job < length plan.jobs) (log (after_all plan opening events) i)
log_after_is_of_plan whole plan opening events is_plan is_opening legal i =
    let all : take (length events) events ≡ events = take-length events in
    entries_are plan i _ (subst (λ done. IsWholeButEnd plan i (log (after_all plan opening done) i)) all
    (whole plan opening events (length events) is_plan is_opening legal i))

pub log_is_of_plan : HasWholeLogs → (plan : LabPlan) (s : State) → IsReached plan s → (i : ℕ) → All (λ entry. entry.job < length plan.jobs) (log s i)
log_is_of_plan whole plan s r i =
    subst (λ x. All (λ entry. entry.job < length plan.jobs) (log x i)) (sym r.run.leads)
    (log_after_is_of_plan whole plan r.opening r.events r.is_plan r.is_opening r.run.legal i)
