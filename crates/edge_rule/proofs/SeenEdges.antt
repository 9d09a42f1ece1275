-- What the load of an edge's word owes and tells, at a seat that rests.
use Rattle.std.proofs.Common.{◌≡◌, ℕ, ◌/◌, ◌<◌, ◌≤◌, length, sym, ap, ◌∙◌, subst, arith}
use mathlib.Core.Option.{none}
use Rattle.atomic_table.specs.Table.{step, Allows}
use Rattle.atomic_table.specs.declared.shared.Seat.{Seat as TableSeat}
use Rattle.lab_plan.specs.LabPlan.{LabPlan, edges, bottles}
use Rattle.instrument_log.specs.InstrumentLog.{LogView}
use Rattle.legal_steps.specs.declared.edge_state.EdgeState.{EdgeState}
use Rattle.legal_steps.specs.declared.event.Event.TheVariants.{Look}
use Rattle.legal_steps.specs.State.{IsOwn}
use Rattle.edge_word.specs.Words.{word_of, IsOfBottles}
use Rattle.edge_word.proofs.WordBits.{no_two_edges}
use Rattle.edge_word.proofs.WordLemmas.{IsOfBottles-28}
use Rattle.one_history.specs.declared.board.View.{View}
use Rattle.one_history.specs.Rule.{edge_place, HasOneHistory}
use Rattle.one_history.specs.Grow.{hand_in, Does, looked}
use Rattle.one_history.proofs.Looking.{looks}
use Rattle.edge_rule.specs.DeskView.{BenchView}
use Rattle.edge_rule.specs.DeskInside.{AtRest}
use Rattle.edge_rule.specs.BenchInside.{bench_of, IsBench}
use Rattle.edge_rule.specs.declared.bench.Bench.TheInside as bench_fields
use Rattle.edge_rule.proofs.DeskSteps.{led}

module _ {A : Type 0} (b : bench_fields.Inside A) (x : BenchView) (view : bench_of b ≡ x) (is_bench : IsBench b) (s : TableSeat LogView View)
    (rest : AtRest s.me.0) (table : s.table_id ≡ x.table) (plan : (hand_in s.me.0).plan ≡ x.plan)
    (e : ℕ) (own : IsOwn x.plan (hand_in s.me.0).job e) (n : ℕ) (at : n ≡ edge_place e) where
  abbrev p : LabPlan
  p = (hand_in s.me.0).plan

  same_table : s.table_id ≡ b.table.shared.table_id
  same_table = table ∙ ap (λ (z : BenchView). z.table) (sym view)

  same_plan : p ≡ b.table.shared.key.plan.value
  same_plan = plan ∙ ap (λ (z : BenchView). z.plan) (sym view)

  own_here : IsOwn p (hand_in s.me.0).job e
  own_here = subst (λ (z : LabPlan). IsOwn z (hand_in s.me.0).job e) (sym plan) own

  abbrev pub Sees : Type 0
  Sees = (s.table_id ≡ b.table.shared.table_id) × (n < b.table.shared.table_id.words)
      × Allows (HasOneHistory b.table.shared.key.plan.value) b.table.shared.table_id.slots s.id s.me n (λ k. k)
      (looked (step b.table.shared.table_id.slots n 0 0 none) s.me)

  pub see_requires : Sees
  see_requires = (
    same_table,
    (let words = is_bench.words in
        let inside : e < length (edges b.table.shared.key.plan.value) = subst (λ (z : LabPlan). e < length (edges z)) same_plan own_here.is_edge in
        omega arith),
    subst (λ (z : LabPlan × ℕ). Allows (HasOneHistory z.0) b.table.shared.table_id.slots s.id s.me z.1 (λ k. k)
        (looked (step b.table.shared.table_id.slots z.1 0 0 none) s.me)) (λ i. (same_plan i, sym at i))
        (looks p b.table.shared.table_id.slots s.id s.me.0 s.me.1 (led s.me.0 rest.mine) rest.inside e own_here),
  )

  -- the plan that the bench has beside its table
  pub bottles_known : (y : EdgeState) → IsOfBottles (length (bottles b.plan.now e)) y → IsOfBottles (length (bottles x.plan e)) y
  bottles_known y fits = subst (λ (z : LabPlan). IsOfBottles (length (bottles z e)) y)
      (sym is_bench.plan ∙ ap (λ (z : BenchView). z.plan) view) fits

  pub edge_there : e < length (edges b.plan.now)
  edge_there = subst (λ (z : LabPlan). e < length (edges z)) (same_plan ∙ is_bench.plan) own_here.is_edge

  few : length (bottles p e) ≤ 28
  few = subst (λ (z : LabPlan). length (bottles z e) ≤ 28) (sym same_plan)
      (is_bench.is_plan.few_bottles e (subst (λ (z : LabPlan). e < length (edges z)) same_plan own_here.is_edge))

  -- the word was spelled, as it is unpacked
  pub spelled_there : (s' : TableSeat LogView View) (m : ℕ) → looked (step b.table.shared.table_id.slots n 0 0 none) s.me m s'.me
      → (y : EdgeState) × (m ≡ word_of y) × IsOfBottles (length (bottles b.plan.now e)) y
  spelled_there s' m t = let here : n / 16 ≡ e = omega arith in (
    t.0,
    t.1,
    subst (λ (z : LabPlan × ℕ). IsOfBottles (length (bottles z.0 z.1)) t.0) (λ i. ((same_plan ∙ is_bench.plan) i, here i)) t.2,
  )

  pub see_told : (s' : TableSeat LogView View) (m : ℕ) (y : EdgeState) → looked (step b.table.shared.table_id.slots n 0 0 none) s.me m s'.me
      → word_of y ≡ m → IsOfBottles (length (bottles b.plan.now e)) y → Does s.me.0 (Look (hand_in s.me.0).job e y) s'.me.0
  see_told s' m y t word fits =
      let here : n / 16 ≡ e = omega arith in
      let same : t.0 ≡ y = no_two_edges t.0 y (IsOfBottles-28 _ t.0 few (subst (λ z. IsOfBottles (length (bottles p z)) t.0) here t.2))
      (IsOfBottles-28 _ y few (subst (λ (z : LabPlan). IsOfBottles (length (bottles z e)) y) (sym (same_plan ∙ is_bench.plan)) fits)) (sym t.1 ∙ sym word) in
      subst (λ (z : ℕ × EdgeState). Does s.me.0 (Look (hand_in s.me.0).job z.0 z.1) s'.me.0) (λ i. (here i, same i)) t.3
