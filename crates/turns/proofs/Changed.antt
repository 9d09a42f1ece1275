-- What an event changes: one seat, one edge and one log at most.
use Rattle.std.proofs.Common.{◌≡◌, ◌≢◌, ℕ, ◌<◌, [], ◌∷◌, ◌++◌, length, Option, Some, None, refl, sym, ap, subst, length-set, get_or-set_same, get_or-set_other}
use Rattle.lab_plan.specs.LabPlan.{LabPlan}
use Rattle.legal_steps.specs.declared.event.Event.{Event}
use Rattle.legal_steps.specs.declared.event.Event.TheVariants.{AskFork, GiveFork, Soil, AskBottles, GiveBottles, Act}
use Rattle.legal_steps.specs.State.{State, edge, log}
use Rattle.legal_steps.specs.Legal.{after, next_command, next_entry, fork_asked, fork_given, fork_soiled, bottles_asked, bottles_given}
use Rattle.legal_steps.proofs.FitsWrites.{edge_same, edge_other}
use Rattle.legal_steps.specs.Run.{actor}
use Rattle.turns.specs.Exchanges.{changed_edge, edge_after, written_log}
use Rattle.turns.specs.Locality.{KeepsAll, ChangesOneSeat, ChangesOneEdge, ChangesOneLog}
use Rattle.turns.proofs.Frame.{as_many_seats, as_many_edges, own_seat, other_seat}

unwrap : (d : ℕ) → Option ℕ → ℕ
unwrap d (Some e) = e
unwrap d None = d

same_number : (a b : ℕ) → Some a ≡ Some b → a ≡ b
unfolding unwrap
same_number a b is = ap (unwrap 0) is

module _ (plan : LabPlan) (s : State) where
  pub as_many_logs : (event : Event) → length (after plan s event).logs ≡ length s.logs
  as_many_logs (Act j) = length-set s.logs (next_command plan s j).0 _
  as_many_logs _ = refl

  -- ---- edges

  pub edge_here : (event : Event) (e : ℕ) → e < length s.edges → changed_edge event ≡ Some e → edge (after plan s event) e ≡ edge_after (edge s e) event
  edge_here (AskFork j f) e inside is =
      subst (λ k. k < length s.edges → edge (after plan s (AskFork j f)) k ≡ fork_asked (edge s k)) (same_number f e is) (λ h. edge_same s f _ h) inside
  edge_here (GiveFork j f) e inside is =
      subst (λ k. k < length s.edges → edge (after plan s (GiveFork j f)) k ≡ fork_given (edge s k)) (same_number f e is) (λ h. edge_same s f _ h) inside
  edge_here (Soil j f) e inside is =
      subst (λ k. k < length s.edges → edge (after plan s (Soil j f)) k ≡ fork_soiled (edge s k)) (same_number f e is) (λ h. edge_same s f _ h) inside
  edge_here (AskBottles j f set) e inside is =
      subst (λ k. k < length s.edges → edge (after plan s (AskBottles j f set)) k ≡ bottles_asked set (edge s k))
      (same_number f e is) (λ h. edge_same s f _ h) inside
  edge_here (GiveBottles j f set) e inside is =
      subst (λ k. k < length s.edges → edge (after plan s (GiveBottles j f set)) k ≡ bottles_given set (edge s k))
      (same_number f e is) (λ h. edge_same s f _ h) inside
  edge_here _ e inside is = refl

  apart : (f e : ℕ) → Some f ≢ Some e → e ≢ f
  apart f e other same = other (ap Some (sym same))

  pub edge_else : (event : Event) (e : ℕ) → changed_edge event ≢ Some e → edge (after plan s event) e ≡ edge s e
  edge_else (AskFork j f) e other = edge_other s f _ e (apart f e other)
  edge_else (GiveFork j f) e other = edge_other s f _ e (apart f e other)
  edge_else (Soil j f) e other = edge_other s f _ e (apart f e other)
  edge_else (AskBottles j f set) e other = edge_other s f _ e (apart f e other)
  edge_else (GiveBottles j f set) e other = edge_other s f _ e (apart f e other)
  edge_else _ e other = refl

  -- ---- logs

  pub log_here : (event : Event) (i : ℕ) → i < length s.logs → written_log plan s event ≡ Some i
      → log (after plan s event) i ≡ log s i ++ next_entry plan s (actor event) ∷ []
  log_here (Act j) i inside is =
      subst (λ k. k < length s.logs → log (after plan s (Act j)) k ≡ log s k ++ next_entry plan s j ∷ [])
      (same_number (next_command plan s j).0 i is) (λ h. get_or-set_same s.logs (next_command plan s j).0 _ [] h) inside
  log_here _ i inside is = absurd (cc)

  pub log_others : (event : Event) (i : ℕ) → written_log plan s event ≢ Some i → log (after plan s event) i ≡ log s i
  log_others (Act j) i other = get_or-set_other s.logs (next_command plan s j).0 i _ [] (apart (next_command plan s j).0 i other)
  log_others _ i other = refl

pub keeps_all : KeepsAll
keeps_all plan s event = record { seats = as_many_seats plan s event; edges = as_many_edges plan s event; logs = as_many_logs plan s event }

pub changes_one_seat : ChangesOneSeat
changes_one_seat plan s event = record { own = own_seat plan s event; others = other_seat plan s event }

pub changes_one_edge : ChangesOneEdge
changes_one_edge plan s event = record { here = edge_here plan s event; others = edge_else plan s event }

pub changes_one_log : ChangesOneLog
changes_one_log plan s event = record { here = log_here plan s event; others = log_others plan s event }
