-- What is read of a bench that was closed.
use Rattle.std.proofs.Common.{◌≡◌, ℕ, ◌<◌, length, get_or, false, sym, ap, ◌∙◌, subst, arith}
use mathlib.Core.Option.{some}
use lib.ListN.{get_elem?}
use Rattle.std.specs.Bool.{IsTrue}
use Rattle.std.specs.Mem.Slots.{slots_items, slots_len, slots_filled}
use Rattle.lab_plan.specs.LabPlan.{LabPlan, edges, bottles}
use Rattle.instrument_log.specs.InstrumentLog.{LogView, empty_log}
use Rattle.legal_steps.specs.declared.edge_state.EdgeState.{EdgeState}
use Rattle.legal_steps.specs.declared.phase.JobState.{JobState}
use Rattle.edge_word.specs.Words.{state_of, word_of, IsOfBottles}
use Rattle.edge_word.specs.Phases.{phase_of, phase_word_of, FitsPhaseWord}
use Rattle.edge_word.proofs.WordLemmas.{state_of-word_of, IsOfBottles-28}
use Rattle.edge_word.proofs.PhaseLemmas.{phase_of-phase_word_of}
use Rattle.one_history.specs.Rule.{edge_place, phase_place}
use Rattle.edge_rule.specs.declared.closed.Closed.TheInside.{Inside}
use Rattle.legal_steps.specs.declared.counts.Counts.{Counts}
use Rattle.legal_steps.specs.Counting.{no_counts}
use Rattle.edge_rule.specs.ClosedView.{ClosedView, edge_in, phase_in, log_in, counts_in}
use Rattle.edge_rule.specs.ClosedInside.{view_of, IsClosed}
use Rattle.edge_rule.proofs.DeskSteps.{got}
use Rattle.edge_rule.proofs.Endings.{gets}

module _ {A : Type 0} (c : Inside A) (y : ClosedView) (is : view_of c ≡ y) (ok : IsClosed c) where
  pub plan_is : c.plan.now ≡ y.plan
  plan_is = ap (λ (z : ClosedView). z.plan) is

  pub edge_inside : (e : ℕ) → e < length (edges y.plan) → e < length (edges c.plan.now)
  edge_inside e inside = subst (λ (z : LabPlan). e < length (edges z)) (sym plan_is) inside

  job_inside : (j : ℕ) → j < length y.plan.jobs → j < length c.plan.now.jobs
  job_inside j inside = subst (λ (z : LabPlan). j < length z.jobs) (sym plan_is) inside

  -- ---- the words

  pub edge_word_there : (e n : ℕ) → n ≡ edge_place e → e < length (edges y.plan) → n < slots_len c.left.words
  edge_word_there e n at inside = let l = edge_inside e inside in let wide = ok.words.wide in let long = c.left.words.ok.0 in omega arith

  pub edge_spelled : (e n w : ℕ) → n ≡ edge_place e → e < length (edges y.plan) → get_elem? (slots_items c.left.words) n ≡ some w
      → (x : EdgeState) × (w ≡ word_of x) × IsOfBottles (length (bottles c.plan.now e)) x
  edge_spelled e n w at inside read = let spelled = ok.words.edges_fit e (edge_inside e inside) in
      (spelled.0, sym (gets (slots_items c.left.words) n w 0 read) ∙ (ap (λ k. get_or (slots_items c.left.words) k 0) at ∙ spelled.1), spelled.2)

  pub edge_read : (e n w : ℕ) (x : EdgeState) → n ≡ edge_place e → e < length (edges y.plan) → get_elem? (slots_items c.left.words) n ≡ some w
      → word_of x ≡ w → IsOfBottles (length (bottles c.plan.now e)) x → x ≡ edge_in y e
  edge_read e n w x at inside read spells fits =
      let few = IsOfBottles-28 (length (bottles c.plan.now e)) x (ok.is_plan.few_bottles e (edge_inside e inside)) fits in
      sym (state_of-word_of x few.bottles_fit) ∙ ap state_of (spells ∙ (sym (gets (slots_items c.left.words) n w 0 read)
      ∙ (ap (λ k. get_or (slots_items c.left.words) k 0) at ∙ ap (λ (z : ClosedView). get_or z.words (edge_place e) 0) is)))

  pub edge_fits_there : (e : ℕ) (x : EdgeState) → IsOfBottles (length (bottles c.plan.now e)) x → IsOfBottles (length (bottles y.plan e)) x
  edge_fits_there e x fits = subst (λ (z : LabPlan). IsOfBottles (length (bottles z e)) x) plan_is fits

  pub phase_word_there : (j n : ℕ) → n ≡ phase_place c.plan.now j → j < length y.plan.jobs → n < slots_len c.left.words
  phase_word_there j n at inside = let l = job_inside j inside in let wide = ok.words.wide in let long = c.left.words.ok.0 in omega arith

  pub phase_spelled : (j n w : ℕ) → n ≡ phase_place c.plan.now j → j < length y.plan.jobs
      → get_elem? (slots_items c.left.words) n ≡ some w → (x : JobState) × (w ≡ phase_word_of x) × FitsPhaseWord x
  phase_spelled j n w at inside read = let spelled = ok.words.phases_fit j (job_inside j inside) in
      (spelled.0, sym (gets (slots_items c.left.words) n w 0 read) ∙ (ap (λ k. get_or (slots_items c.left.words) k 0) at ∙ spelled.1), spelled.2)

  pub phase_read : (j n w : ℕ) (x : JobState) → n ≡ phase_place c.plan.now j
      → get_elem? (slots_items c.left.words) n ≡ some w → phase_word_of x ≡ w → FitsPhaseWord x → x ≡ phase_in y j
  phase_read j n w x at read spells fits =
      sym (phase_of-phase_word_of x fits) ∙ ap phase_of (spells ∙ (sym (gets (slots_items c.left.words) n w 0 read)
      ∙ (ap (λ k. get_or (slots_items c.left.words) k 0) at ∙ ap (λ (z : ClosedView). get_or z.words (phase_place z.plan j) 0) is)))

  -- ---- the logs and the counts

  pub log_there : (i n : ℕ) → n ≡ i → i < length y.plan.instruments → (n < slots_len c.left.slots) × IsTrue (get_or (slots_filled c.left.slots) n false)
  log_there i n at inside =
      let l : i < length c.plan.now.instruments = subst (λ (z : LabPlan). i < length z.instruments) (sym plan_is) inside in
      let deep = ok.logs_there in
      let long = c.left.slots.ok.0 in
      let there : n < slots_len c.left.slots = omega arith in (there, ok.full.1 n (omega arith) there)

  pub log_read : (i n : ℕ) (x : LogView) → n ≡ i → i < length y.plan.instruments → x ≡ get_or (slots_items c.left.slots) n x → x ≡ log_in y i
  log_read i n x at inside read =
      let l : i < length c.plan.now.instruments = subst (λ (z : LabPlan). i < length z.instruments) (sym plan_is) inside in
      let deep = ok.logs_there in
      got (slots_items c.left.slots) n x (empty_log 0) (omega arith) read
      ∙ (ap (λ k. get_or (slots_items c.left.slots) k (empty_log 0)) at ∙ ap (λ (z : ClosedView). get_or z.logs i (empty_log 0)) is)

  pub counts_inside : (j n : ℕ) → n ≡ j → j < length y.plan.jobs → n < length c.counts.items
  counts_inside j n at inside = let l = job_inside j inside in let all = ok.counts_there in omega arith

  pub counts_read : (j n : ℕ) (x : Counts) → n ≡ j → j < length y.plan.jobs → x ≡ get_or c.counts.items n x → x ≡ counts_in y j
  counts_read j n x at inside read =
      got c.counts.items n x no_counts (counts_inside j n at inside) read
      ∙ (ap (λ k. get_or c.counts.items k no_counts) at ∙ ap (λ (z : ClosedView). get_or z.counts j no_counts) is)
