-- All moves are steps of the plan.
use Rattle.std.proofs.Common.{◌≡◌, ℕ, ◌<◌, List, [], ◌∷◌, length, slice_index_or, arith, sym, subst}
use Rattle.std.specs.List.{flat_map, range_with_len, All}
use Rattle.std.proofs.lemmas.List.Elements.{All-nil, All-head, All-tail, All-append, All-from_recursion}
use Rattle.std.proofs.lemmas.List.FromFn.{get_or-range_with_len, length-range_with_len}
use Rattle.lab_plan.specs.LabPlan.{LabPlan, edges, edges_of, bottles}
use Rattle.legal_steps.specs.declared.event.Step.{Step}
use Rattle.legal_steps.specs.State.{IsOwn}
use Rattle.legal_steps.specs.Steps.{IsStepOf}
use Rattle.legal_steps.proofs.FitsLaw.{own_is_job}
use Rattle.legal_steps.proofs.OwnEdges.{own_edges}
use Rattle.legal_moves.specs.Moves.{own_moves, fork_moves, bottle_moves, edge_moves, moves_of, all_moves}

-- what holds of each element's list holds of all
pub all_flat : {X Y : Type 0} (P : Y → Type 0) (Q : X → Type 0) (f : X → List Y) (xs : List X)
    → All Q xs → ((x : X) → Q x → All P (f x)) → All P (flat_map f xs)
all_flat P Q f [] all h = All-nil P
all_flat P Q f (x ∷ xs) all h = All-append P (f x) (flat_map f xs) (h x (All-head Q x xs all)) (all_flat P Q f xs (All-tail Q x xs all) h)

pub numbers_below : (n : ℕ) → All (λ e. e < n) (range_with_len 0 n)
numbers_below n k d inside =
    rw (get_or-range_with_len 0 n k d (omega (arith, inside, length-range_with_len 0 n))) (omega (arith, inside, length-range_with_len 0 n))

own_of_plan : (plan : LabPlan) (j : ℕ) → j < length plan.jobs → All (IsStepOf plan) (own_moves j)
own_of_plan plan j job = All-from_recursion (IsStepOf plan) (own_moves j) (job, (job, (job, (job, (job, (job, (job, (job, (job, (job, tt))))))))))

bottle_of_plan : (plan : LabPlan) (j e k : ℕ) → IsOwn plan j e → All (IsStepOf plan) (bottle_moves j e k)
bottle_of_plan plan j e k own =
    let here : (j < length plan.jobs) × (e < length (edges plan)) = (own_is_job plan j e own, own.is_edge) in
    All-from_recursion (IsStepOf plan) (bottle_moves j e k) (here, (here, tt))

edge_of_plan : (plan : LabPlan) (j e : ℕ) → IsOwn plan j e → All (IsStepOf plan) (edge_moves plan j e)
edge_of_plan plan j e own =
    let n = length (bottles plan e) in
    let here : (j < length plan.jobs) × (e < length (edges plan)) = (own_is_job plan j e own, own.is_edge) in
    All-append (IsStepOf plan) (fork_moves j e) _ (All-from_recursion (IsStepOf plan) (fork_moves j e) (here, (here, (here, tt))))
    (all_flat (IsStepOf plan) (λ k. k < n) (bottle_moves j e) (range_with_len 0 n) (numbers_below n) (λ k below. bottle_of_plan plan j e k own))

job_of_plan : (plan : LabPlan) (j : ℕ) → j < length plan.jobs → All (IsStepOf plan) (moves_of plan j)
job_of_plan plan j job =
    All-append (IsStepOf plan) (own_moves j) _ (own_of_plan plan j job)
    (all_flat (IsStepOf plan) (IsOwn plan j) (edge_moves plan j) (edges_of plan j) (own_edges plan j) (edge_of_plan plan j))

pub all_of_plan : (plan : LabPlan) → All (IsStepOf plan) (all_moves plan)
all_of_plan plan =
    let n = length plan.jobs in
    all_flat (IsStepOf plan) (λ j. j < n) (moves_of plan) (range_with_len 0 n) (numbers_below n) (job_of_plan plan)

-- each of them
pub of_plan_at : (plan : LabPlan) (steps : List Step) (k : ℕ) (step : Step) → steps ≡ all_moves plan
    → k < length steps → step ≡ slice_index_or steps k step → IsStepOf plan step
of_plan_at plan steps k step same inside is =
    let all : All (IsStepOf plan) steps = subst (All (IsStepOf plan)) (sym same) (all_of_plan plan) in
    subst (IsStepOf plan) (sym is) (all k step inside)
