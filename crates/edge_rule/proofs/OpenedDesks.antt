-- A bench as it opens, and its desks.
use Rattle.std.proofs.Common.{◌≡◌, ◌≢◌, ℕ, zero, suc, ◌+◌, ◌<◌, ◌≤◌, List, [], ◌∷◌, ◌++◌, length, map, get_or, false, replicate, refl, sym, ap, ◌∙◌, subst, inl, inr, arith, length-append}
use Rattle.std.specs.List.{range_with_len}
use Rattle.std.proofs.lemmas.Bool.{cases_lt}
use Rattle.std.proofs.lemmas.List.{ext_get_or, get_or_append_left, get_or-append-add, get_or-replicate}
use mathlib.Core.Option.{some}
use lib.ListN.{get_elem?}
use Rattle.lab_plan.specs.LabPlan.{LabPlan, edges, bottles}
use Rattle.instrument_log.specs.InstrumentLog.{LogView, empty_log}
use Rattle.legal_steps.specs.declared.edge_state.EdgeState.{EdgeState}
use Rattle.legal_steps.specs.declared.phase.Drinking.TheVariants.{Reaching}
use Rattle.legal_steps.specs.State.{Seat, IsOwn, seat, fork_mark, no_edge, no_seat, idle_phase}
use Rattle.legal_steps.specs.Opening.{the_opening, idle_seat}
use Rattle.legal_steps.specs.WholeLogs.{room_of}
use Rattle.edge_word.specs.Words.{word_of, opening_edge}
use Rattle.edge_word.specs.Phases.{phase_word_of}
use Rattle.edge_word.proofs.OpeningWords.{opens_as_the_opening}
use Rattle.one_history.specs.declared.board.View.{View}
use Rattle.edge_rule.specs.declared.desk.Desk.TheInside.{Inside}
use Rattle.one_history.specs.Rule.{hand_after, phase_place, Spelled}
use Rattle.one_history.proofs.Groups.{all_one_by_one, one_by_one_stand}
use Rattle.legal_steps.specs.declared.event.Event.{Event}
use Rattle.turns.specs.History.{IsHistory, events_by}
use Rattle.edge_rule.specs.declared.job_knowledge.JobKnowledge.{JobKnowledge}
use Rattle.edge_rule.specs.NeededBottles.{AreNeeded}
use Rattle.edge_rule.specs.Standing.{seat_known, IsKnownAfter}
use Rattle.edge_rule.proofs.Pasts.{known_of_plan, known_unmarked}
use Rattle.one_history.specs.Grow.{hand_in, mine}
use Rattle.edge_rule.specs.Openings.{opening_edges, AreWritten}
use Rattle.legal_steps.specs.Counting.{counts_of}
use Rattle.edge_rule.specs.CalmEdges.{no_word}
use Rattle.edge_rule.proofs.StillEdges.{none_still, all_same}
use Rattle.std.proofs.lemmas.Bool.{false≢true}
use Rattle.edge_rule.specs.DeskInside.{kept, AreOfPlan, AtRest, IsDesk}
use Rattle.turns.proofs.Runs.{opening_edges as opening_wide}

-- ---- the words

idle_word : phase_word_of idle_phase ≡ 0
unfolding phase_word_of
idle_word = refl

pub opening_seat : (plan : LabPlan) (j : ℕ) → j < length plan.jobs → seat (the_opening plan) j ≡ idle_seat plan
opening_seat plan j job = get_or-replicate (length plan.jobs) j (idle_seat plan) no_seat job

pub written_spelled : (plan : LabPlan) (n : ℕ) (words : List ℕ) → length (edges plan) ≤ n
    → n ≤ length (edges plan) → AreWritten plan n words → Spelled plan (the_opening plan) words
written_spelled plan n words low high t = record {
  wide = t.wide;
  edge_words = λ e l. t.written e (omega arith) ∙ ap word_of (sym (opens_as_the_opening plan e l));
  phase_words = λ j l. t.zeros (phase_place plan j) (omega arith) ∙ (sym idle_word ∙ ap (λ (x : Seat). phase_word_of x.phase) (sym (opening_seat plan j l)));
}

-- ---- the edges

edges_count : (plan : LabPlan) (n : ℕ) → length (opening_edges plan n) ≡ n
edges_count plan zero = refl
edges_count plan (suc n) = let e = edges_count plan n in omega (arith, length-append (opening_edges plan n) (opening_edge (length (bottles plan n)) ∷ []))

edges_at : (plan : LabPlan) (n e : ℕ) → e < n → get_or (opening_edges plan n) e no_edge ≡ opening_edge (length (bottles plan e))
edges_at plan zero e l = absurd (omega arith)
edges_at plan (suc n) e l =
    let count = edges_count plan n in
    let last : List EdgeState = opening_edge (length (bottles plan n)) ∷ [] in
    elim (cases_lt e n) [
      | inl before ↦ get_or_append_left (opening_edges plan n) last no_edge e (omega arith) ∙ edges_at plan n e before
      | inr after ↦
          let is : e ≡ length (opening_edges plan n) + 0 = omega arith in
          let here : n ≡ e = omega arith in
          ap (λ k. get_or (opening_edges plan n ++ last) k no_edge) is
          ∙ (get_or-append-add (opening_edges plan n) last 0 no_edge ∙ ap (λ k. opening_edge (length (bottles plan k))) here)
    ]

pub opening_is : (plan : LabPlan) → (the_opening plan).edges ≡ opening_edges plan (length (edges plan))
opening_is plan =
    let n = length (edges plan) in
    let wide = opening_wide plan in
    ext_get_or no_edge (the_opening plan).edges (opening_edges plan n) (wide ∙ sym (edges_count plan n)) (λ e l. opens_as_the_opening plan e (omega arith)
    ∙ sym (edges_at plan n e (omega arith)))

-- ---- a desk

abbrev pub view_after : LabPlan → List Event → ℕ → View
view_after plan past j = record { hands = hand_after plan past j ∷ []; front = past; told = [] }

rests_after : (plan : LabPlan) (past : List Event) (j : ℕ) → j < length plan.jobs → IsHistory plan past → AtRest (view_after plan past j)
rests_after plan past j job legal = record {
  mine = refl;
  inside = job;
  none_told = refl;
  legal = legal;
  whole = refl;
  groups = (all_one_by_one (events_by j past), one_by_one_stand j past);
}

opening_unmarked : (plan : LabPlan) (j : ℕ) → j < length plan.jobs → (e : ℕ) → fork_mark (the_opening plan) j e ≡ false
opening_unmarked plan j job e = ap (λ (x : Seat). get_or x.fork_marks e false) (opening_seat plan j job) ∙ all_same (length (edges plan)) e false

pub known_is_desk : {A : Type 0} (d : Inside A) (k : JobKnowledge A) (plan : LabPlan) (past : List Event) (j : ℕ) → d.seat.me ≡ (view_after plan past j, [])
    → j < length plan.jobs → IsHistory plan past → IsKnownAfter plan past j k → d.job ≡ j → d.counts ≡ k.counts → kept d ≡ seat_known k
    → d.seen.items ≡ k.seen.items → d.calm.items ≡ replicate (length (edges plan)) no_word → d.settled ≡ false
    → AreNeeded plan j d.phase d.needed.items → IsDesk d
known_is_desk d k plan past j me job legal known is_job counts own seen calm unsettled needed =
    let v : d.seat.me.0 ≡ view_after plan past j = ap (λ m. m.0) me in
    record {
      at_rest = subst AtRest (sym v) (rests_after plan past j job legal);
      empty = ap (λ m. m.1) me;
      job = ap (λ (z : View). (hand_in z).job) v ∙ sym is_job;
      counts = ap (λ (z : View). counts_of (hand_in z).job (hand_in z).deeds) v ∙ (known.counts ∙ sym counts);
      own = ap (λ (z : View). seat (mine z) (hand_in z).job) v ∙ (known.own ∙ sym own);
      seen = ap (λ (z : View). (mine z).edges) v ∙ (known.seen ∙ sym seen);
      of_plan = subst (λ (z : View). AreOfPlan (hand_in z).plan d.seen.items) (sym v)
          (subst (AreOfPlan plan) (known.seen ∙ sym seen) (known_of_plan plan j past legal));
      calm = none_still (hand_in d.seat.me.0).plan (mine d.seat.me.0) (hand_in d.seat.me.0).job
          (length (edges plan)) d.calm.items calm (ap (λ (z : View). length (edges (hand_in z).plan)) (sym v))
          (λ e others. ap (λ (z : View). fork_mark (mine z) (hand_in z).job e) v
          ∙ known_unmarked plan j past legal job (λ f away. opening_unmarked plan j job f) e
          (subst (λ (z : View). ¬ IsOwn (hand_in z).plan (hand_in z).job e) v others));
      settled = λ is. absurd (false≢true (sym unsettled ∙ is));
      needed = subst (λ (z : View). AreNeeded (hand_in z).plan (hand_in z).job d.phase d.needed.items) (sym v) needed;
      rests = subst (λ (x : Seat). x.phase.drinking ≢ Reaching) (sym own) known.rests;
    }

-- ---- the logs

empty_at : (plan : LabPlan) (a n i : ℕ) → i < n
    → get_elem? (map (λ k. empty_log (room_of plan k)) (range_with_len a n)) i ≡ some (empty_log (room_of plan (a + i)))
empty_at plan a zero i l = absurd (omega arith)
empty_at plan a (suc n) zero l = let e : a ≡ a + 0 = omega arith in ap (λ k. some (empty_log (room_of plan k))) e
empty_at plan a (suc n) (suc i) l =
    let e : (a + 1) + i ≡ a + suc i = omega arith in
    empty_at plan (a + 1) n i (omega arith) ∙ ap (λ k. some (empty_log (room_of plan k))) e

empty_count : (plan : LabPlan) (a n : ℕ) → length (map (λ k. empty_log (room_of plan k)) (range_with_len a n)) ≡ n
empty_count plan a zero = refl
empty_count plan a (suc n) = ap suc (empty_count plan (a + 1) n)

pub logs_there : (plan : LabPlan) (logs : List LogView)
    → logs ≡ map (λ k. empty_log (room_of plan k)) (range_with_len 0 (length plan.instruments)) → length logs ≡ length plan.instruments
logs_there plan logs is = ap length is ∙ empty_count plan 0 (length plan.instruments)

pub logs_at : (plan : LabPlan) (logs : List LogView) → logs ≡ map (λ k. empty_log (room_of plan k)) (range_with_len 0 (length plan.instruments))
    → (i : ℕ) → i < length plan.instruments → get_elem? logs i ≡ some (empty_log (room_of plan i))
logs_at plan logs is i l =
    let e : 0 + i ≡ i = omega arith in
    ap (λ z. get_elem? z i) is ∙ (empty_at plan 0 (length plan.instruments) i l ∙ ap (λ k. some (empty_log (room_of plan k))) e)
