-- A chain of precedence in the initial state goes down in colours.
use Rattle.std.proofs.Common.{◌≡◌, ℕ, ◌+◌, ◌<◌, ◌≤◌, List, [], ◌∷◌, length, slice_index, arith, ap, ◌∙◌, inl, inr}
use Rattle.std.specs.Prelude.{replicate}
use Rattle.std.specs.List.Sorted.{IsNonDecreasing}
use Rattle.std.proofs.lemmas.List.{length-replicate, get_or-replicate}
use Rattle.lab_plan.specs.LabPlan.{LabPlan, edges, ends}
use Rattle.lab_plan.proofs.Edges.{ends_are_pair}
use Rattle.legal_steps.specs.declared.end.End.TheVariants.{Lower}
use Rattle.legal_steps.specs.declared.edge_state.EdgeState.{EdgeState}
use Rattle.legal_steps.specs.declared.edge_state.EndChoice.{EndChoice}
use Rattle.legal_steps.specs.State.{edge, opposite, job_at_end}
use Rattle.legal_steps.specs.Opening.{chosen_edge, the_opening}
use Rattle.legal_steps.specs.Precedence.{Precedes}
use Rattle.legal_steps.proofs.OpeningChoices.{opening_edge}
use Rattle.arranging.specs.Colours.{IsColouring}
use Rattle.arranging.specs.Chains.{EachPrecedes, ChainsAreShort}

abbrev lower_choice : EndChoice
lower_choice = record { fork = Lower; bottles = 0 }

the_edge : (plan : LabPlan) (e : ℕ) → e < length (edges plan) → edge (the_opening plan) e ≡ chosen_edge plan e lower_choice
the_edge plan e here =
    let choices = replicate (length (edges plan)) lower_choice in
    let inside : e < length choices = omega (arith, here, length-replicate (length (edges plan)) lower_choice) in
    opening_edge plan choices e lower_choice inside ∙ ap (chosen_edge plan e) (get_or-replicate (length (edges plan)) e lower_choice lower_choice here)

-- two jobs of the plan, the second of a lower colour
record GoesDown (plan : LabPlan) (colours : List ℕ) (a b : ℕ) : Type 0 where
  job : a < length plan.jobs
  down : slice_index colours b < slice_index colours a

-- the two ends of an edge, the higher first
ends_go_down : (plan : LabPlan) (colours : List ℕ) (count e a b : ℕ) → IsColouring plan colours count → IsNonDecreasing colours → e < length (edges plan)
    → a ≡ (ends plan e).1 → b ≡ (ends plan e).0 → GoesDown plan colours a b
ends_go_down plan colours count e a b is climbs here a_is b_is =
    let pair = ends_are_pair plan e here in
    let inside : (ends plan e).1 < length colours = omega (arith, pair, is.one_each) in
    let up : slice_index colours (ends plan e).0 ≤ slice_index colours (ends plan e).1 =
    climbs (ends plan e).0 (ends plan e).1 0 (omega (arith, pair)) inside in
    let other = is.differ e here in
    let low : slice_index colours b ≡ slice_index colours (ends plan e).0 = ap (slice_index colours) b_is in
    let high : slice_index colours a ≡ slice_index colours (ends plan e).1 = ap (slice_index colours) a_is in
    record { job = omega (arith, pair, a_is); down = omega (arith, up, other, low, high) }

goes_down : (plan : LabPlan) (colours : List ℕ) (count a b : ℕ) → IsColouring plan colours count → IsNonDecreasing colours
    → Precedes plan (the_opening plan) a b → GoesDown plan colours a b
goes_down plan colours count a b is climbs p =
    let opened = the_edge plan p.0 p.1.is_edge in
    elim p.1.order [
      | inl w ↦ ends_go_down plan colours count p.0 a b is climbs p.1.is_edge
          (w.1 ∙ ap (λ (y : EdgeState). job_at_end plan p.0 (opposite y.fork)) opened)
          (w.2 ∙ ap (λ (y : EdgeState). job_at_end plan p.0 y.fork) opened)
      | inr w ↦ absurd (w.0 (inr (ap (λ (y : EdgeState). y.dirty) opened)))
    ]

-- a chain has no more jobs than there are colours up to that of its first
few_from : (plan : LabPlan) (colours : List ℕ) (count first : ℕ) (jobs : List ℕ) → IsColouring plan colours count → IsNonDecreasing colours
    → EachPrecedes plan (the_opening plan) (first ∷ jobs) → length (first ∷ jobs) ≤ slice_index colours first + 1
few_from plan colours count first [] is climbs each = omega arith
few_from plan colours count first (next ∷ jobs) is climbs each =
    let down = (goes_down plan colours count first next is climbs each.0).down in
    let rest = few_from plan colours count next jobs is climbs each.1 in
    omega (arith, down, rest)

pub chains_are_short : ChainsAreShort
chains_are_short plan colours count is climbs [] chain = omega arith
chains_are_short plan colours count is climbs (first ∷ jobs) chain =
    let job : first < length plan.jobs = chain.of_plan 0 0 (omega arith) in
    let few : slice_index colours first < count = is.few first 0 (omega (arith, job, is.one_each)) in
    omega (arith, few, few_from plan colours count first jobs is climbs chain.each)
