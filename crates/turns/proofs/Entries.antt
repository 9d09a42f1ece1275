-- One entry for each Act on an instrument.
use Rattle.std.proofs.Common.{◌≡◌, ℕ, ◌+◌, ◌<◌, ◌==◌, if◌then◌else◌, Bool, true, false, List, [], ◌∷◌, ◌++◌, length, Some, sym, ap, ◌∙◌, subst, arith, inl, inr, length-append, get_or-set_other}
use Rattle.std.proofs.lemmas.Bool.{cases_eq, eq-eqb, ne_eqb}
use Rattle.std.proofs.lemmas.List.{length-replicate, get_or-replicate}
use Rattle.lab_plan.specs.LabPlan.{LabPlan}
use Rattle.instrument_log.specs.declared.entry.Entry.{Entry}
use Rattle.legal_steps.specs.declared.event.Event.{Event}
use Rattle.legal_steps.specs.declared.event.Event.TheVariants.{Act}
use Rattle.legal_steps.specs.State.{State, log}
use Rattle.legal_steps.specs.Legal.{after, next_command, next_entry}
use Rattle.legal_steps.specs.Run.{after_all}
use Rattle.legal_steps.specs.Opening.{the_opening}
use Rattle.turns.specs.Exchanges.{is_act_on, acts_on}
use Rattle.turns.specs.Locality.{HasOneEntryEach}
use Rattle.turns.proofs.Changed.{as_many_logs, log_here}

module _ (plan : LabPlan) (i : ℕ) where
  one_more : (s : State) (event : Event) → i < length s.logs
      → length (log (after plan s event) i) ≡ length (log s i) + (if is_act_on plan i s event then 1 else 0)
  one_more s (Act j) inside = elim (cases_eq (next_command plan s j).0 i) [
    | inl is ↦
        let yes : ((next_command plan s j).0 == i) ≡ true = eq-eqb (next_command plan s j).0 i is in
        let grown : length (log (after plan s (Act j)) i) ≡ length (log s i ++ next_entry plan s j ∷ []) =
        ap (λ (l : List Entry). length l) (log_here plan s (Act j) i inside (ap Some is)) in
        let one : length (log s i ++ next_entry plan s j ∷ []) ≡ length (log s i) + 1 = length-append (log s i) (next_entry plan s j ∷ []) in
        (grown ∙ one) ∙ ap (λ (b : Bool). length (log s i) + (if b then 1 else 0)) (sym yes)
    | inr ne ↦
        let no : ((next_command plan s j).0 == i) ≡ false = ne_eqb (next_command plan s j).0 i ne in
        let same : log (after plan s (Act j)) i ≡ log s i = get_or-set_other s.logs (next_command plan s j).0 i _ [] (λ e. ne (sym e)) in
        (ap (λ (l : List Entry). length l) same ∙ omega arith) ∙ ap (λ (b : Bool). length (log s i) + (if b then 1 else 0)) (sym no)
  ]
  one_more s _ inside = omega arith

  entries_from : (s : State) (h : List Event) → i < length s.logs → length (log (after_all plan s h) i) ≡ length (log s i) + acts_on plan i s h
  entries_from s [] inside = omega arith
  entries_from s (x ∷ h) inside =
      let later = entries_from (after plan s x) h (subst (λ n. i < n) (sym (as_many_logs plan s x)) inside) in
      let now = one_more s x inside in
      omega (arith, later, now)

pub has_one_entry_each : HasOneEntryEach
has_one_entry_each plan h i inside =
    let there : length (the_opening plan).logs ≡ length plan.instruments = length-replicate {A = List Entry} (length plan.instruments) [] in
    let none : length (log (the_opening plan) i) ≡ 0 = ap (λ (l : List Entry). length l) (get_or-replicate (length plan.instruments) i [] [] inside) in
    let all = entries_from plan i (the_opening plan) h (subst (λ n. i < n) (sym there) inside) in
    omega (arith, none, all)
