-- The tables of an opening state.
use Rattle.std.proofs.Common.{◌≡◌, ℕ, ◌+◌, ◌<◌, List, [], ◌∷◌, ◌++◌, length, map, replicate, take, slice_index_or, arith, sym, ap, ◌∙◌, subst}
use Rattle.std.specs.List.{range_with_len, enumerate_from}
use Rattle.std.proofs.lemmas.List.{take_more, take_all, length-map, length-replicate, get_or-replicate}
use Rattle.std.proofs.lemmas.List.FromFn.{length-enumerate_from}
use Rattle.lab_plan.specs.LabPlan.{LabPlan, edges}
use Rattle.lab_plan.specs.IsPlan.{IsPlan}
use Rattle.instrument_log.specs.declared.entry.Entry.{Entry}
use Rattle.instrument_log.specs.InstrumentLog.{LogView, empty_log}
use Rattle.legal_steps.specs.declared.edge_state.EdgeState.{EdgeState}
use Rattle.legal_steps.specs.declared.edge_state.EndChoice.{EndChoice}
use Rattle.legal_steps.specs.State.{State, Seat, Setting, no_edge}
use Rattle.legal_steps.specs.declared.counts.Counts.{Counts}
use Rattle.interleaving.specs.Start.{at_start}
use Rattle.legal_steps.specs.Fitting.{Fits}
use Rattle.legal_steps.specs.WholeLogs.{room_of}
use Rattle.legal_steps.specs.Opening.{AreChoices, chosen_edge, opening_of, idle_seat, IsOpening}
use Rattle.legal_steps.specs.Precedence.{IsAcyclic}
use Rattle.legal_steps.proofs.OpeningChoices.{opening_edge, opening_of_choices}
use Rattle.legal_steps.proofs.OpeningLemmas.{fits_opening}
use Rattle.legal_steps.proofs.ReachedLemmas.{reached_opening}
use Rattle.legal_steps.specs.declared.event.Event.{Event}
use Rattle.legal_steps.specs.Counting.{no_counts, counts_of}
use Rattle.interleaving.specs.Kept.{TapeView, no_kept, IsKept}
use Rattle.interleaving.specs.World.{IsReachedBy}
use Rattle.interleaving.proofs.GoingOn.{kept_none}
use Rattle.interleaving.proofs.LogLemmas.{shown, are_empty}

chosen_length : (plan : LabPlan) (choices : List EndChoice) → length (opening_of plan choices).edges ≡ length choices
chosen_length plan choices = length-map (enumerate_from 0 choices) _ ∙ length-enumerate_from 0 choices

-- one more of the chosen edges
pub chosen_more : (plan : LabPlan) (choices : List EndChoice) (n : ℕ) (d : EndChoice) → n < length choices
    → take (n + 1) (opening_of plan choices).edges ≡ take n (opening_of plan choices).edges ++ chosen_edge plan n (slice_index_or choices n d) ∷ []
chosen_more plan choices n d inside =
    let all = (opening_of plan choices).edges in
    let there : n < length all = omega (arith, inside, chosen_length plan choices) in
    take_more all n no_edge there ∙ ap (λ (x : EdgeState). take n all ++ x ∷ []) (opening_edge plan choices n d inside)

pub chosen_all : (plan : LabPlan) (choices : List EndChoice) (n : ℕ) → n ≡ length choices
    → take n (opening_of plan choices).edges ≡ (opening_of plan choices).edges
chosen_all plan choices n all = take_all n (opening_of plan choices).edges (omega (arith, all, chosen_length plan choices))

-- the state that the parts show
pub opening_shown : (plan : LabPlan) (choices : List EndChoice) (edges : List EdgeState) (seats : List Seat) (logs : List LogView)
    → edges ≡ (opening_of plan choices).edges → seats ≡ replicate (length plan.jobs) (idle_seat plan)
    → logs ≡ map (λ i. empty_log (room_of plan i)) (range_with_len 0 (length plan.instruments)) → shown edges seats logs ≡ opening_of plan choices
opening_shown plan choices edges seats logs is_edges is_seats is_logs =
    let make : List EdgeState → List Seat → List (List Entry) → State = λ e s l. record { edges = e; seats = s; logs = l } in
    ap (λ e. make e seats (map (λ (l : LogView). l.entries) logs)) is_edges
    ∙ (ap (λ s. make (opening_of plan choices).edges s (map (λ (l : LogView). l.entries) logs)) is_seats
    ∙ ap (λ l. make (opening_of plan choices).edges (replicate (length plan.jobs) (idle_seat plan)) l) (ap (map (λ (l : LogView). l.entries)) is_logs
    ∙ are_empty plan 0 (length plan.instruments)))

pub opening_fits : (plan : LabPlan) (choices : List EndChoice) → AreChoices plan choices → Fits plan (opening_of plan choices)
opening_fits plan choices are = fits_opening plan (opening_of plan choices) (opening_of_choices plan choices are)

-- ---- a world at its start

none_counted : (n k : ℕ) → k < n → slice_index_or (replicate n no_counts) k no_counts ≡ counts_of k []
none_counted n k below = get_or-replicate n k no_counts no_counts below

pub reached_at_start : (plan : LabPlan) (s : State) → IsPlan plan → IsOpening plan s
    → IsAcyclic plan s → IsReachedBy plan s [] s (replicate (length plan.jobs) no_counts)
reached_at_start plan s is_plan opens acyclic = record {
  is_plan = is_plan;
  is_opening = opens;
  acyclic = acyclic;
  run = (reached_opening plan s is_plan opens acyclic).run;
  counted = record { one_each = length-replicate (length plan.jobs) no_counts; counted = λ k below. none_counted (length plan.jobs) k below };
}

-- tables that show the opening of a plan that is the same
pub opened_of : (t : Setting) (kept plan : LabPlan) (choices : List EndChoice) → t ≡ record { plan = kept; state = opening_of kept choices }
    → kept ≡ plan → t ≡ record { plan = plan; state = opening_of plan choices }
opened_of t kept plan choices shows same = let make : LabPlan → Setting = λ p. record { plan = p; state = opening_of p choices } in shows ∙ ap make same

-- tables in an opening state, with a tally of no counts, no past and nothing kept
pub reached_opened : (t : Setting) (tally : List Counts) (n : ℕ) → n ≡ length t.plan.jobs → tally ≡ replicate n no_counts
    → IsPlan t.plan → IsOpening t.plan t.state → IsAcyclic t.plan t.state → (start : Setting) (past : List Event) → start ≡ t → past ≡ []
    → IsReachedBy t.plan start.state past t.state tally
reached_opened t tally n all none is_plan opens acyclic start past began empty =
    let counts : tally ≡ replicate (length t.plan.jobs) no_counts = none ∙ ap (λ k. replicate k no_counts) all in
    subst (λ (z : Setting × List Event × List Counts). IsReachedBy t.plan z.0.state z.1 t.state z.2) (λ i. (sym began i, sym empty i, sym counts i))
    (reached_at_start t.plan t.state is_plan opens acyclic)

pub kept_opened : (past : List Event) (kept : TapeView) → kept ≡ no_kept → IsKept past kept
kept_opened past kept none = subst (IsKept past) (sym none) (kept_none past 0)

pub is_at_start : (t : Setting) (tally : List Counts) (n : ℕ) → n ≡ length t.plan.jobs → tally ≡ replicate n no_counts
    → (start : Setting) (past : List Event) (kept : TapeView) → start ≡ t → past ≡ [] → kept ≡ no_kept
    → record { plan = t.plan; state = t.state; counts = tally; opening = start.state; past = past; kept = kept } ≡ at_start t.plan t.state
is_at_start t tally n all none start past kept began empty untold =
    let counts : tally ≡ replicate (length t.plan.jobs) no_counts = none ∙ ap (λ k. replicate k no_counts) all in
    λ i. record {
      plan = t.plan;
      state = t.state;
      counts = counts i;
      opening = (began i).state;
      past = empty i;
      kept = untold i;
    }
