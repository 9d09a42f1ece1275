-- The words, the logs and the desks of a bench that stands in the state after a past.
use Rattle.std.proofs.Common.{◌≡◌, ℕ, zero, suc, ◌+◌, ◌^◌, ◌<◌, List, [], ◌∷◌, length, map, get_or, set, refl, sym, ap, ◌∙◌, subst, inl, inr, arith, length-set, get_or-set_same, get_or-set_other}
use Rattle.std.specs.Prelude.{slice_get, Some}
use Rattle.std.proofs.lemmas.Bool.{cases_eq}
use Rattle.std.proofs.lemmas.Option.{slice_get-get_or}
use mathlib.Core.Option.{some}
use lib.ListN.{get_elem?}
use Rattle.lab_plan.specs.LabPlan.{LabPlan, edges}
use Rattle.lab_plan.specs.IsPlan.{IsPlan}
use Rattle.instrument_log.specs.InstrumentLog.{LogView, empty_log}
use Rattle.legal_steps.specs.declared.edge_state.EdgeState.{EdgeState}
use Rattle.legal_steps.specs.declared.phase.JobState.{JobState}
use Rattle.legal_steps.specs.declared.event.Event.{Event}
use Rattle.legal_steps.specs.State.{Seat, phase, no_edge}
use Rattle.edge_word.specs.Words.{word_of}
use Rattle.edge_word.specs.Phases.{phase_word_of}
use Rattle.turns.specs.History.{state_after}
use Rattle.turns.proofs.Runs.{own_known}
use Rattle.turns.proofs.Few.{phase_fits}
use Rattle.turns.proofs.Histories.{history_fits}
use Rattle.one_history.specs.Rule.{edge_place, phase_place, Spelled, Homed}
use Rattle.one_history.proofs.Seats.{all_homed}
use Rattle.edge_rule.specs.declared.job_knowledge.JobKnowledge.{JobKnowledge}
use Rattle.edge_rule.specs.Standing.{AreEdgeWords, AreWordsOf, IsKnownAfter, IsSameKnowledge, StandsAfter}

-- ---- one more word

pub edge_word_more : (plan : LabPlan) (there : List EdgeState) (n place w : ℕ) (words : List ℕ) → n < length (edges plan)
    → place ≡ edge_place n → w ≡ word_of (get_or there n no_edge) → AreEdgeWords plan there n words → AreEdgeWords plan there (n + 1) (set words place w)
edge_word_more plan there n place w words inside at is t = let wide = t.wide in record {
  wide = length-set words place w ∙ wide;
  written = λ e l. elim (cases_eq e n) [
    | inl here ↦ ap (λ (z : ℕ). get_or (set words place w) z 0) (ap edge_place here ∙ sym at)
        ∙ (get_or-set_same words place w 0 (omega arith) ∙ (is ∙ ap (λ (z : ℕ). word_of (get_or there z no_edge)) (sym here)))
    | inr other ↦ get_or-set_other words place (edge_place e) w 0 (λ same. omega arith) ∙ t.written e (omega arith)
  ];
}

-- what is read at a place of a list
pub read_at : {X : Type 0} (l : List X) (n : ℕ) (x : X) → n < length l → x ≡ get_or l n x → slice_get l n ≡ Some x
read_at l n x inside is = slice_get-get_or l n x inside ∙ ap (λ z. Some z) (sym is)

elem_at : (l : List LogView) (i : ℕ) → i < length l → get_elem? l i ≡ some (get_or l i (empty_log 0))
elem_at [] i h = absurd (omega arith)
elem_at (x ∷ l) zero h = refl
elem_at (x ∷ l) (suc i) h = elem_at l i (omega arith)

module _ {A : Type 0} where
  same_some : (a b : JobKnowledge A) → Some a ≡ Some b → a ≡ b
  same_some a b h = cc

  pub phase_word_more : (plan : LabPlan) (there : List EdgeState) (known : List (JobKnowledge A)) (n place w : ℕ) (k : JobKnowledge A) (words : List ℕ)
      → n < length plan.jobs → place ≡ phase_place plan n → slice_get known n ≡ Some k → w ≡ phase_word_of k.phase
      → AreWordsOf plan there known n words → AreWordsOf plan there known (n + 1) (set words place w)
  phase_word_more plan there known n place w k words inside at got is t = let wide = t.edges_written.wide in record {
    edges_written = record {
      wide = length-set words place w ∙ wide;
      written = λ e l. get_or-set_other words place (edge_place e) w 0 (λ same. omega arith) ∙ t.edges_written.written e l;
    };
    phases_written = λ j x l found. elim (cases_eq j n) [
      | inl here ↦
          let same : k ≡ x = same_some k x (sym got ∙ (ap (slice_get known) (sym here) ∙ found)) in
          ap (λ (z : ℕ). get_or (set words place w) z 0) (ap (phase_place plan) here ∙ sym at)
          ∙ (get_or-set_same words place w 0 (omega arith) ∙ (is ∙ ap (λ (z : JobKnowledge A). phase_word_of z.phase) same))
      | inr other ↦ get_or-set_other words place (phase_place plan j) w 0 (λ same. omega arith) ∙ t.phases_written j x (omega arith) found
    ];
  }

  -- the same as it is read from the list
  pub few_at : (l : List (JobKnowledge A)) (n : ℕ) (k : JobKnowledge A) → k ≡ get_or l n k → k.phase.session < 2 ^ 24 → (get_or l n k).phase.session < 2 ^ 24
  few_at l n k is few = subst (λ (z : JobKnowledge A). z.phase.session < 2 ^ 24) is few

  pub word_at : (l : List (JobKnowledge A)) (n w : ℕ) (k : JobKnowledge A) → k ≡ get_or l n k → w ≡ phase_word_of (get_or l n k).phase → w ≡ phase_word_of k.phase
  word_at l n w k is e = e ∙ ap (λ (z : JobKnowledge A). phase_word_of z.phase) (sym is)

  known_phase : (plan : LabPlan) (past : List Event) (j : ℕ) (k : JobKnowledge A) → j < length plan.jobs → IsKnownAfter plan past j k
      → phase (state_after plan past) j ≡ k.phase
  known_phase plan past j k job is = ap (λ (x : Seat). x.phase) (own_known plan j past job ∙ is.own)

  session_few : (plan : LabPlan) (past : List Event) (there : List EdgeState) (known : List (JobKnowledge A)) (logs : List LogView) → IsPlan plan
      → StandsAfter plan past there known logs → (j : ℕ) (k : JobKnowledge A) → slice_get known j ≡ Some k → j < length plan.jobs → k.phase.session < 2 ^ 24
  session_few plan past there known logs is_plan s j k got job =
      let fits = phase_fits plan (state_after plan past) j is_plan (history_fits plan past s.legal) job in
      subst (λ (x : JobState). x.session < 2 ^ 24) (known_phase plan past j k job (s.known_there j k got)) fits.session_fits

  found_within : (l : List (JobKnowledge A)) (j : ℕ) (k : JobKnowledge A) → slice_get l j ≡ Some k → j < length l
  found_within [] j k h = absurd (cc)
  found_within (x ∷ l) zero k h = omega arith
  found_within (x ∷ l) (suc j) k h = let below = found_within l j k h in omega arith

  pub sessions_few : (plan : LabPlan) (past : List Event) (there : List EdgeState) (known : List (JobKnowledge A)) (logs : List LogView) → IsPlan plan
      → StandsAfter plan past there known logs → (j : ℕ) (k : JobKnowledge A) → slice_get known j ≡ Some k → k.phase.session < 2 ^ 24
  sessions_few plan past there known logs is_plan s j k got =
      let below = found_within known j k got in
      let n = s.one_each in
      session_few plan past there known logs is_plan s j k got (omega arith)

  pub stood_wide : (plan : LabPlan) (past : List Event) (there : List EdgeState) (known : List (JobKnowledge A)) (logs : List LogView)
      → StandsAfter plan past there known logs → length there ≡ length (edges plan)
  stood_wide plan past there known logs s = ap (λ (l : List EdgeState). length l) (sym s.edges_there) ∙ (history_fits plan past s.legal).edges_there

  -- ---- all words, all logs

  pub stood_spelled : (plan : LabPlan) (past : List Event) (there : List EdgeState) (known : List (JobKnowledge A)) (logs : List LogView) (words : List ℕ)
      → StandsAfter plan past there known logs → AreWordsOf plan there known (length plan.jobs) words → Spelled plan (state_after plan past) words
  stood_spelled plan past there known logs words s t = record {
    wide = t.edges_written.wide;
    edge_words = λ e l. t.edges_written.written e l ∙ ap (λ (z : List EdgeState). word_of (get_or z e no_edge)) (sym s.edges_there);
    phase_words = λ j l. at j l (known_at j (let n = s.one_each in omega arith));
  } where
    some_there : (l : List (JobKnowledge A)) (j : ℕ) → j < length l → (k : JobKnowledge A) × (slice_get l j ≡ Some k)
    some_there [] j h = absurd (omega arith)
    some_there (x ∷ l) zero h = (x, refl)
    some_there (x ∷ l) (suc j) h = some_there l j (omega arith)

    known_at : (j : ℕ) → j < length known → (k : JobKnowledge A) × (slice_get known j ≡ Some k)
    known_at j l = some_there known j l

    at : (j : ℕ) → j < length plan.jobs → (k : JobKnowledge A) × (slice_get known j ≡ Some k)
        → get_or words (phase_place plan j) 0 ≡ phase_word_of (phase (state_after plan past) j)
    at j l k = t.phases_written j k.0 l k.1 ∙ ap phase_word_of (sym (known_phase plan past j k.0 l (s.known_there j k.0 k.1)))

  pub stood_homed : (plan : LabPlan) (past : List Event) (there : List EdgeState) (known : List (JobKnowledge A)) (logs : List LogView)
      → StandsAfter plan past there known logs → Homed plan (state_after plan past) (map some logs)
  stood_homed plan past there known logs s = all_homed plan (state_after plan past) logs s.logs_there
      (λ i l. elem_at logs i (let n = s.logs_there in omega arith) ∙ ap (λ (x : LogView). some x) (s.logs_are i l))

  -- a copy knows the same
  pub same_knowledge : (plan : LabPlan) (past : List Event) (j : ℕ) (k copy : JobKnowledge A) → IsKnownAfter plan past j k
      → IsSameKnowledge k copy → IsKnownAfter plan past j copy
  same_knowledge plan past j k copy is same = record {
    own = is.own ∙ sym same.own;
    seen = is.seen ∙ sym same.seen;
    counts = is.counts ∙ sym same.counts;
    rests = λ e. is.rests (ap (λ (x : Seat). x.phase.drinking) (sym same.own) ∙ e);
  }
