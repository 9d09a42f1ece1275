-- A look at an edge.
use Rattle.std.proofs.Common.{◌≡◌, ℕ, ◌/◌, ◌<◌, List, [], ◌∷◌, length, set, refl, sym, ap, ◌∙◌, subst, inl, inr, arith}
use Rattle.std.proofs.lemmas.Bool.{cases_eq}
use mathlib.Core.Option.{none}
use lib.Seq.{set-get_or}
use Rattle.atomic_table.specs.Table.{step, keeps, Allows}
use Rattle.lab_plan.specs.LabPlan.{LabPlan, bottles}
use Rattle.instrument_log.specs.InstrumentLog.{LogView}
use Rattle.legal_steps.specs.declared.edge_state.EdgeState.{EdgeState}
use Rattle.legal_steps.specs.declared.event.Event.{Event}
use Rattle.legal_steps.specs.declared.event.Event.TheVariants.{Look}
use Rattle.legal_steps.specs.State.{Seat, State, IsOwn, edge, seat, phase}
use Rattle.legal_steps.specs.Legal.{after}
use Rattle.legal_steps.specs.Run.{IsLegalFrom, actor}
use Rattle.legal_steps.specs.Opening.{the_opening}
use Rattle.edge_word.specs.Words.{IsOfBottles}
use Rattle.one_history.specs.declared.board.View.{View}
use Rattle.turns.specs.History.{state_after}
use Rattle.one_history.specs.Rule.{edge_place, HasOneHistory}
use Rattle.one_history.specs.Grow.{hand_in, IsLed, Does, looked}
use Rattle.turns.proofs.Frame.{own_seat, other_seat}
use Rattle.turns.specs.Changes.{seat_after}
use Rattle.turns.proofs.Runs.{all_seats, opening_seats}
use Rattle.one_history.proofs.Keeps.{grown, held_in, appends, tells, spelled_still, homed_still}
use Rattle.turns.proofs.Histories.{history_fits, edge_fits, reaching_still}

-- an event that leaves the phase of its seat leaves all phases
pub phases_still : (plan : LabPlan) (s : State) (event : Event) → actor event < length s.seats
    → (seat_after plan (seat s (actor event)) event).phase ≡ (seat s (actor event)).phase → (k : ℕ) → phase (after plan s event) k ≡ phase s k
phases_still plan s event inside same k = elim (cases_eq k (actor event)) [
  | inl is ↦ subst (λ i. phase (after plan s event) i ≡ phase s i) (sym is) (ap (λ (x : Seat). x.phase) (own_seat plan s event inside) ∙ same)
  | inr ne ↦ ap (λ (x : Seat). x.phase) (other_seat plan s event k ne)
]

pub jobs_there : (plan : LabPlan) (h : List Event) (j : ℕ) → j < length plan.jobs → j < length (state_after plan h).seats
jobs_there plan h j job = let n = opening_seats plan in let m = all_seats plan (the_opening plan) h in omega (arith, job, n, m)

pub place_edge : (e : ℕ) → edge_place e / 16 ≡ e
place_edge e = omega arith

module _ (p : LabPlan) (slots id : ℕ) (v : View) (c : List (ℕ × LogView)) (led : IsLed v) (job : (hand_in v).job < length p.jobs) where
  abbrev j : ℕ
  j = (hand_in v).job

  pub looks : (e : ℕ) → IsOwn p j e → Allows (HasOneHistory p) slots id (v, c) (edge_place e) (λ n. n) (looked (step slots (edge_place e) 0 0 none) (v, c))
  looks e own s k _ at _ =
      let w : State = state_after p k.history in
      let x : EdgeState = edge w e in
      let event : Event = Look j e x in
      let g : List Event = event ∷ [] in
      let held = held_in p k.history k.owner id v led (k.seats id v at) in
      let phases = phases_still p w event (jobs_there p k.history j job) refl in
      let legal : IsLegalFrom p w g = ((own, refl), tt) in
      let fits : IsOfBottles (length (bottles p e)) x = edge_fits p w e (history_fits p k.history k.legal) own.is_edge in (
        grown p v k.history g,
        keeps,
        tt,
        subst (λ ws. HasOneHistory p record { words = ws; homes = s.homes; views = set s.views id (grown p v k.history g) }) (sym (set-get_or s.words (edge_place e) 0))
            (appends p s k id v at led g (refl, tt) legal s.words (spelled_still p w (after p w event) s.words (λ _. refl) phases k.words) s.homes
            (homed_still p w (after p w event) s.homes (λ _. refl) (λ i l. reaching_still p w (after p w event) i l (phases i)) k.homes)),
        (
          x,
          k.words.edge_words e own.is_edge,
          subst (λ (z : LabPlan × ℕ). IsOfBottles (length (bottles z.0 z.1)) x) (λ i. (sym held.0 i, sym (place_edge e) i)) fits,
          subst (λ z. Does v (Look j z x) (grown p v k.history g)) (sym (place_edge e)) (tells p s k id v at led g (refl, tt) legal),
          refl,
        ),
      )
