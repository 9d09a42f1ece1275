-- A move that is listed is legal behind what leads to the state, and its text is read back.
use Rattle.std.proofs.Common.{◌≡◌, ℕ, zero, suc, ◌<◌, List, [], ◌∷◌, length, slice_index_or, refl, subst, arith, ⊎_elim}
use Rattle.std.specs.List.{Contains}
use Rattle.lab_plan.specs.LabPlan.{LabPlan}
use Rattle.lab_plan.specs.IsPlan.{IsPlan}
use Rattle.legal_steps.specs.declared.event.Event.{Event}
use Rattle.legal_steps.specs.declared.event.Step.{Step}
use Rattle.legal_steps.specs.State.{State}
use Rattle.legal_steps.specs.Legal.{after}
use Rattle.legal_steps.specs.Steps.{event_of}
use Rattle.legal_steps.specs.Opening.{the_opening}
use Rattle.legal_steps.proofs.RunLemmas.{runs_push}
use Rattle.legal_steps.specs.Run.{Runs}
use Rattle.legal_moves.specs.Moves.{Keeps, IsLegalNow, AreLegalMoves, all_moves}
use Rattle.written_steps.specs.Added.{CanBeAdded, AreLegalAtEnd, AreLegalInPlace}
use Rattle.written_steps.proofs.StepTexts.{legal_read_back}

-- what is kept passes the test
kept_passes : (P : Step → Type 0) (all kept : List Step) (x : Step) → Keeps P all kept → Contains kept x → P x
kept_passes P [] kept x h there = let none = subst (λ l. Contains l x) h there in absurd (no_element none.0 none.1)
  where
    no_element : (k : ℕ) → k < 0 → ⊥
    no_element k less = omega (arith, less)
kept_passes P (y ∷ all) kept x h there =
    ⊎_elim
    (λ first.
    let whole = subst (λ l. Contains l x) first.1.1 there in
    here first.1.0 first.0 (λ k inside is. kept_passes P all first.1.0 x first.1.2 (k, inside, is)) whole.0 whole.1 whole.2)
    (λ later. kept_passes P all kept x later.1 there)
    h
  where
    here : (rest : List Step) → P y → ((k : ℕ) → k < length rest → slice_index_or rest k x ≡ x → P x)
        → (k : ℕ) → k < length (y ∷ rest) → slice_index_or (y ∷ rest) k x ≡ x → P x
    here rest own more zero inside is = subst P is own
    here rest own more (suc k) inside is = more k (omega (arith, inside)) is

added : (plan : LabPlan) (events : List Event) (s : State) (moves : List Step) (move : Step) → IsPlan plan
    → Runs plan (the_opening plan) events s → AreLegalMoves plan s moves → Contains moves move → CanBeAdded plan events s move
added plan events s moves move is run legal there =
    let may = kept_passes (IsLegalNow plan s) (all_moves plan) moves move legal there in
    record {
      read = legal_read_back plan s move is may;
      runs = runs_push plan (the_opening plan) s (after plan s (event_of s move)) events (event_of s move) run (record { may = may; leads = refl });
    }

pub legal_at_end : AreLegalAtEnd
legal_at_end plan lines text is t move there = added plan _ t.state t.tells.moves move is t.runs t.tells.legal there

pub legal_in_place : AreLegalInPlace
legal_in_place plan lines number text is t move there = added plan _ t.state t.tells.moves move is t.stops.before t.tells.legal there
