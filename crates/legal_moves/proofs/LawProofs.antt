-- What the list of moves leaves out.
use Rattle.std.proofs.Common.{ℕ, ◌^◌, ◌<◌, List, [], ◌∷◌, length, arith, refl, sym, ◌∙◌, subst, inl, inr}
use Rattle.std.specs.List.{flat_map, range_with_len, Contains}
use Rattle.std.proofs.lemmas.Nat.Bits.{bit_at-pow_same}
use Rattle.std.proofs.lemmas.List.Elements.{Contains-append_left, Contains-append_right, Contains-append_cases, Contains-push_cases}
use Rattle.std.proofs.lemmas.List.FromFn.{get_or-range_with_len, length-range_with_len}
use Rattle.lab_plan.specs.LabPlan.{LabPlan, edges_of, bottles}
use Rattle.legal_steps.specs.declared.event.Step.{Step}
use Rattle.legal_steps.specs.declared.event.Step.TheVariants.{Look, AskFork, GiveFork, Soil, AskBottles, GiveBottles, Thirst, Hunger, Sit, Leave, Drink, Reach, Act, Quit, Retire, Glance, Withdraw}
use Rattle.legal_steps.specs.State.{Has, IsOwn}
use Rattle.legal_steps.specs.Legal.{IsBottleSet, MayAskBottle, MayGiveBottle}
use Rattle.legal_steps.proofs.FitsLaw.{own_is_job}
use Rattle.legal_steps.proofs.OwnEdges.{own_edge_listed}
use Rattle.legal_steps.proofs.BottleSets.{member_below, one_bottle, only_one, some_bottle}
use Rattle.legal_moves.specs.Moves.{own_moves, fork_moves, bottle_moves, edge_moves, moves_of, all_moves}
use Rattle.legal_moves.specs.Laws.{IsAlwaysLegal, AreBottlesAlone, IsEveryStep}

pub always_legal : IsAlwaysLegal
always_legal plan s = record { look = λ j e own. (own, refl); glance = λ j other job is_job apart. (job, is_job, apart, refl) }

-- ---- bottles

itself : (k : ℕ) → Has (2 ^ k) k
unfolding Has
itself k = bit_at-pow_same k

below : (plan : LabPlan) (e set k : ℕ) → IsBottleSet plan e set → Has set k → k < length (bottles plan e)
below plan e set k h has = member_below set (length (bottles plan e)) k h.of_edge has

pub bottles_alone : AreBottlesAlone
bottles_alone plan s j e set own h =
    let some = some_bottle plan e set h in
    record {
      ask = (
        λ may k has. (
          own,
          may.1,
          one_bottle plan e k (below plan e set k h has),
          λ i is. subst (MayAskBottle plan s j e) (sym (only_one k i is)) (may.3 k has),
        ),
        λ each. (own, (each some.0 some.2).1, h, λ k has. (each k has).3 k (itself k)),
      );
      give = (
        λ may k has. (own, one_bottle plan e k (below plan e set k h has), λ i is. subst (MayGiveBottle plan s j e) (sym (only_one k i is)) (may.2 k has)),
        λ each. (own, h, λ k has. (each k has).2 k (itself k)),
      );
    }

-- ---- each step is listed

contains_flat : {X Y : Type 0} (f : X → List Y) (xs : List X) (x : X) (y : Y) → Contains xs x → Contains (f x) y → Contains (flat_map f xs) y
contains_flat f [] x y w h = absurd (omega (arith, w.1))
contains_flat f (z ∷ xs) x y w h = elim (Contains-append_cases (z ∷ []) xs x w) [
  | inr later ↦ Contains-append_right (f z) (flat_map f xs) y (contains_flat f xs x y later h)
  | inl first ↦ elim (Contains-push_cases [] z x first) [
    | inl none ↦ absurd (omega (arith, none.1))
    | inr is ↦ Contains-append_left (f z) (flat_map f xs) y (subst (λ v. Contains (f v) y) (sym is) h)
  ]
]

in_numbers : (n k : ℕ) → k < n → Contains (range_with_len 0 n) k
in_numbers n k small = (k, omega (arith, small, length-range_with_len 0 n), get_or-range_with_len 0 n k k small ∙ omega arith)

in_all : (plan : LabPlan) (j : ℕ) (step : Step) → j < length plan.jobs → Contains (moves_of plan j) step → Contains (all_moves plan) step
in_all plan j step job w = contains_flat (moves_of plan) (range_with_len 0 (length plan.jobs)) j step (in_numbers (length plan.jobs) j job) w

in_own : (plan : LabPlan) (j : ℕ) (step : Step) → j < length plan.jobs → Contains (own_moves j) step → Contains (all_moves plan) step
in_own plan j step job w = in_all plan j step job (Contains-append_left (own_moves j) _ step w)

in_edge : (plan : LabPlan) (j e : ℕ) (step : Step) → IsOwn plan j e → Contains (edge_moves plan j e) step → Contains (all_moves plan) step
in_edge plan j e step own w =
    in_all plan j step (own_is_job plan j e own)
    (Contains-append_right (own_moves j) _ step (contains_flat (edge_moves plan j) (edges_of plan j) e step (own_edge_listed plan j e own) w))

in_fork : (plan : LabPlan) (j e : ℕ) (step : Step) → IsOwn plan j e → Contains (fork_moves j e) step → Contains (all_moves plan) step
in_fork plan j e step own w = in_edge plan j e step own (Contains-append_left (fork_moves j e) _ step w)

in_bottle : (plan : LabPlan) (j e k : ℕ) (step : Step) → IsOwn plan j e
    → k < length (bottles plan e) → Contains (bottle_moves j e k) step → Contains (all_moves plan) step
in_bottle plan j e k step own small w =
    let n = length (bottles plan e) in
    in_edge plan j e step own
    (Contains-append_right (fork_moves j e) _ step (contains_flat (bottle_moves j e) (range_with_len 0 n) k step (in_numbers n k small) w))

pub every_step : IsEveryStep
every_step plan s (Look j e) may = tt
every_step plan s (Glance j other) may = tt
every_step plan s (AskFork j e) may = in_fork plan j e _ may.0 (0, omega arith, refl)
every_step plan s (GiveFork j e) may = in_fork plan j e _ may.0 (1, omega arith, refl)
every_step plan s (Soil j e) may = in_fork plan j e _ may.0 (2, omega arith, refl)
every_step plan s (AskBottles j e set) may = λ k has. in_bottle plan j e k _ may.0 (below plan e set k may.2 has) (0, omega arith, refl)
every_step plan s (GiveBottles j e set) may = λ k has. in_bottle plan j e k _ may.0 (below plan e set k may.1 has) (1, omega arith, refl)
every_step plan s (Thirst j) may = in_own plan j _ may.0 (0, omega arith, refl)
every_step plan s (Hunger j) may = in_own plan j _ may.0 (1, omega arith, refl)
every_step plan s (Sit j) may = in_own plan j _ may.0 (2, omega arith, refl)
every_step plan s (Leave j) may = in_own plan j _ may.0 (3, omega arith, refl)
every_step plan s (Drink j) may = in_own plan j _ may.0 (4, omega arith, refl)
every_step plan s (Reach j) may = in_own plan j _ may.0 (5, omega arith, refl)
every_step plan s (Act j) may = in_own plan j _ may.0 (6, omega arith, refl)
every_step plan s (Quit j) may = in_own plan j _ may.0 (7, omega arith, refl)
every_step plan s (Retire j) may = in_own plan j _ may.0 (8, omega arith, refl)
every_step plan s (Withdraw j) may = in_own plan j _ may.0 (9, omega arith, refl)
