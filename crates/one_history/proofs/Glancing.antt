-- A look at another job's phase.
use Rattle.std.proofs.Common.{◌≡◌, ◌≢◌, ℕ, ◌-◌, ◌/◌, ◌<◌, List, [], ◌∷◌, length, set, refl, sym, ap, subst, arith}
use mathlib.Core.Option.{none}
use lib.Seq.{set-get_or}
use Rattle.atomic_table.specs.Table.{step, keeps, Allows}
use Rattle.lab_plan.specs.LabPlan.{LabPlan, edges}
use Rattle.instrument_log.specs.InstrumentLog.{LogView}
use Rattle.legal_steps.specs.declared.phase.JobState.{JobState}
use Rattle.legal_steps.specs.declared.event.Event.{Event}
use Rattle.legal_steps.specs.declared.event.Event.TheVariants.{Glance}
use Rattle.legal_steps.specs.State.{State, phase}
use Rattle.legal_steps.specs.Run.{IsLegalFrom}
use Rattle.one_history.specs.declared.board.View.{View}
use Rattle.turns.specs.History.{state_after}
use Rattle.one_history.specs.Rule.{phase_place, HasOneHistory}
use Rattle.one_history.specs.Grow.{hand_in, IsLed, Does, glanced}
use Rattle.turns.proofs.Few.{phase_fits}
use Rattle.one_history.proofs.Keeps.{grown, held_in, appends, tells}
use Rattle.turns.proofs.Histories.{history_fits}

module _ (p : LabPlan) (slots id : ℕ) (v : View) (c : List (ℕ × LogView)) (led : IsLed v) (job : (hand_in v).job < length p.jobs) where
  abbrev j : ℕ
  j = (hand_in v).job

  pub glances : (k : ℕ) → k ≢ j → k < length p.jobs
      → Allows (HasOneHistory p) slots id (v, c) (phase_place p k) (λ n. n) (glanced (step slots (phase_place p k) 0 0 none) (v, c))
  glances k apart inside s r _ at _ =
      let w : State = state_after p r.history in
      let x : JobState = phase w k in
      let event : Event = Glance j k x in
      let g : List Event = event ∷ [] in
      let legal : IsLegalFrom p w g = ((job, inside, apart, refl), tt) in
      let held = held_in p r.history r.owner id v led (r.seats id v at) in
      let back : phase_place p k / 16 - length (edges (hand_in v).plan) ≡ k =
      let same : length (edges (hand_in v).plan) ≡ length (edges p) = ap (λ (z : LabPlan). length (edges z)) held.0 in
      omega arith in (
        grown p v r.history g,
        keeps,
        tt,
        subst (λ ws. HasOneHistory p record { words = ws; homes = s.homes; views = set s.views id (grown p v r.history g) })
            (sym (set-get_or s.words (phase_place p k) 0))
            (appends p s r id v at led g (refl, tt) legal s.words r.words s.homes r.homes),
        (
          x,
          r.words.phase_words k inside,
          phase_fits p w k r.is_plan (history_fits p r.history r.legal) inside,
          subst (λ z. Does v (Glance j z x) (grown p v r.history g)) (sym back) (tells p s r id v at led g (refl, tt) legal),
          refl,
        ),
      )
