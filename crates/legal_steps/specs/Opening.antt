-- For readers: opening states.
use Rattle.std.specs.Prelude.{◌≡◌, ℕ, ◌<◌, true, false, List, [], length, map, replicate, bit_xor, slice_index_or}
use Rattle.std.specs.List.{enumerate_from}
use Rattle.lab_plan.specs.LabPlan.{LabPlan, edges, bottles}
use Rattle.legal_steps.specs.declared.end.End.TheVariants.{Lower}
use Rattle.legal_steps.specs.declared.edge_state.EdgeState.{EdgeState}
use Rattle.legal_steps.specs.declared.edge_state.EndChoice.{EndChoice}
use Rattle.legal_steps.specs.State.{State, Seat, IsOfEdge, all_bottles, edge, opposite, bottle_end, idle_phase}

-- the seat of a job before its first event: idle, without marks
abbrev pub idle_seat : LabPlan → Seat
idle_seat plan = record { phase = idle_phase; fork_marks = replicate (length (edges plan)) false; bottle_marks = replicate (length (edges plan)) 0 }

-- an opening state: every fork dirty, each token opposite to its fork or bottle, every job idle, every log empty
pub record IsOpening (plan : LabPlan) (s : State) : Type 0 where
  pub edges_there : length s.edges ≡ length (edges plan)
  pub dirty : (e : ℕ) → e < length (edges plan) → (edge s e).dirty ≡ true
  pub token_opposite : (e : ℕ) → e < length (edges plan) → (edge s e).token ≡ opposite (edge s e).fork
  pub bottles_fit : (e : ℕ) → e < length (edges plan) → IsOfEdge plan e (edge s e).bottles
  pub tokens_fit : (e : ℕ) → e < length (edges plan) → IsOfEdge plan e (edge s e).bottle_tokens
  pub bottle_tokens_opposite : (e k : ℕ) → e < length (edges plan) → k < length (bottles plan e)
      → bottle_end (edge s e).bottle_tokens k ≡ opposite (bottle_end (edge s e).bottles k)
  pub idle : s.seats ≡ replicate (length plan.jobs) (idle_seat plan)
  pub logs_empty : s.logs ≡ replicate (length plan.instruments) []

-- ---- the opening that a choice of ends gives

-- one choice for each edge, which names bottles of that edge alone
pub record AreChoices (plan : LabPlan) (choices : List EndChoice) : Type 0 where
  pub one_each : length choices ≡ length (edges plan)
  pub of_edge : (e : ℕ) (d : EndChoice) → e < length (edges plan) → IsOfEdge plan e (slice_index_or choices e d).bottles

-- an edge as it is chosen: the fork dirty, every token at the opposite end
abbrev pub chosen_edge : LabPlan → ℕ → EndChoice → EdgeState
chosen_edge plan e choice = record {
  fork = choice.fork;
  dirty = true;
  token = opposite choice.fork;
  bottles = choice.bottles;
  bottle_tokens = bit_xor (all_bottles plan e) choice.bottles;
}

abbrev pub opening_of : LabPlan → List EndChoice → State
opening_of plan choices = record {
  edges = map (λ numbered. chosen_edge plan numbered.0 numbered.1) (enumerate_from 0 choices);
  seats = replicate (length plan.jobs) (idle_seat plan);
  logs = replicate (length plan.instruments) [];
}

-- the initial state: every fork and every bottle at the job with the lower number
abbrev pub the_opening : LabPlan → State
the_opening plan = opening_of plan (replicate (length (edges plan)) (record { fork = Lower; bottles = 0 }))
