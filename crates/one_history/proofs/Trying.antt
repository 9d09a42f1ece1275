-- A group of moves on an edge, in one compare-exchange.
use Rattle.std.proofs.Common.{◌≡◌, ℕ, ◌<◌, eqb, List, [], ◌++◌, length, get_or, set, refl, sym, ap, ◌∙◌, subst, inl, inr, arith, append-nil}
use Rattle.std.proofs.lemmas.Bool.{cases_eq, eq-eqb, ne_eqb}
use mathlib.Core.Option.{none, some}
use lib.ListN.{get_elem?}
use lib.Seq.{set-get_or}
use prog.Atomic.{either}
use Rattle.atomic_table.specs.Table.{State as TableState, step, keeps, stepped, Allows}
use Rattle.lab_plan.specs.LabPlan.{LabPlan, edges, bottles}
use Rattle.instrument_log.specs.declared.entry.Entry.{Entry}
use Rattle.instrument_log.specs.InstrumentLog.{LogView}
use Rattle.legal_steps.specs.declared.event.Event.{Event}
use Rattle.legal_steps.specs.State.{Seat, State, IsOwn, edge, phase}
use Rattle.legal_steps.specs.Run.{IsLegalFrom, after_all, actor}
use Rattle.legal_steps.specs.Opening.{the_opening}
use Rattle.edge_word.specs.declared.moves.EdgeMoves.{EdgeMoves}
use Rattle.edge_word.specs.Words.{word_of, IsOfBottles}
use Rattle.edge_word.specs.Moves.{events_of, after_moves, moves_of_words, ChangesOnly}
use Rattle.edge_word.proofs.WordBits.{no_two_edges}
use Rattle.edge_word.proofs.WordLemmas.{IsOfBottles-28}
use Rattle.edge_word.proofs.MoveLaws.{moves_lead, read_back}
use Rattle.edge_word.proofs.MoveFrame.{moves_change_only_their_edge}
use Rattle.one_history.specs.declared.board.View.{View}
use Rattle.turns.specs.History.{state_after}
use Rattle.one_history.specs.Rule.{edge_place, Spelled, HasOneHistory}
use Rattle.turns.specs.Lists.{Each}
use Rattle.one_history.specs.Grow.{no_plan, hand_in, IsLed, mine, Grows, tried}
use Rattle.turns.proofs.Runs.{learned_all_seats, learned_all_edges, opening_seats, opening_edges}
use Rattle.turns.proofs.Local.{Alike, each_move, moves_alike}
use Rattle.one_history.proofs.Keeps.{grown, held_in, appends, tells, known, spelled_edge, homed_still}
use Rattle.turns.proofs.Histories.{history_fits, edge_fits, reaching_still}
use Rattle.one_history.proofs.Looking.{jobs_there, place_edge}

-- all moves are by the job
pub moves_by : (j e : ℕ) (m : EdgeMoves) → Each (λ (x : Event). actor x ≡ j) (events_of m j e)
moves_by j e m = each_move no_plan j e (λ (x : Event). actor x ≡ j) m refl refl refl refl refl

-- a group changes no phase
pub phases_only : (j e : ℕ) (s t : State) → ChangesOnly j e s t → (k : ℕ) → phase t k ≡ phase s k
phases_only j e s t c k = elim (cases_eq k j) [
  | inl is ↦ subst (λ i. phase t i ≡ phase s i) (sym is) c.own_phase
  | inr ne ↦ ap (λ (x : Seat). x.phase) (c.other_seats k ne)
]

module _ (p : LabPlan) (slots id : ℕ) (v : View) (c : List (ℕ × LogView)) (led : IsLed v) (job : (hand_in v).job < length p.jobs) where
  abbrev j : ℕ
  j = (hand_in v).job

  -- the state and what the job knows are alike at the job and at an edge that is as last seen
  alike : (s : TableState LogView View) (k : HasOneHistory p s) → get_elem? s.views id ≡ some v → (e : ℕ) → e < length (edges p)
      → edge (state_after p k.history) e ≡ edge (mine v) e → Alike j e (mine v) (state_after p k.history)
  alike s k at e inside same =
      let fit = history_fits p k.history k.legal in
      let held = held_in p k.history k.owner id v led (k.seats id v at) in
      let there = fit.edges_there in
      let seats = learned_all_seats (hand_in v).plan (the_opening (hand_in v).plan) (hand_in v).deeds in
      let wide = learned_all_edges (hand_in v).plan (the_opening (hand_in v).plan) (hand_in v).deeds in
      let as_many : length (the_opening (hand_in v).plan).edges ≡ length (edges p) =
      ap (λ (q : LabPlan). length (the_opening q).edges) held.0 ∙ opening_edges p in
      let jobs : length (the_opening (hand_in v).plan).seats ≡ length p.jobs = ap (λ (q : LabPlan). length (the_opening q).seats) held.0 ∙ opening_seats p in
      record {
        job_s = omega arith;
        job_t = jobs_there p k.history j job;
        edge_s = omega arith;
        edge_t = omega arith;
        own = sym (known p s k id v at led job);
        here = sym same;
      }

  -- what is expected is what the job last saw, and the moves are legal by that
  pub tries : (e : ℕ) (m : EdgeMoves) (old new : ℕ) → IsOwn p j e
      → IsLegalFrom p (mine v) (events_of m j e) → IsOfBottles (length (bottles p e)) (edge (mine v) e)
      → old ≡ word_of (edge (mine v) e) → new ≡ word_of (after_moves m (edge (mine v) e))
      → Allows (HasOneHistory p) slots id (v, c) (edge_place e) (λ n. either (eqb n old) new n) (tried (step slots (edge_place e) old new none) (v, c))
  tries e m old new own may fits_mine is_old is_new s k _ at _ =
      let w : State = state_after p k.history in
      let n : ℕ = get_or s.words (edge_place e) 0 in
      let g : List Event = events_of m j e in
      let f = k.seats id v at in
      let held = held_in p k.history k.owner id v led f in
      let found : n ≡ word_of (edge w e) = k.words.edge_words e own.is_edge in
      let few = k.is_plan.few_bottles e own.is_edge in
      let fits : IsOfBottles (length (bottles p e)) (edge w e) = edge_fits p w e (history_fits p k.history k.legal) own.is_edge in
      elim (cases_eq n old) [
        | inl hit ↦
            let same : edge w e ≡ edge (mine v) e =
            no_two_edges (edge w e) (edge (mine v) e) (IsOfBottles-28 _ _ few fits) (IsOfBottles-28 _ _ few fits_mine) (sym found ∙ (hit ∙ is_old)) in
            let alike_now : Alike j e (mine v) w = alike s k at e own.is_edge same in
            let legal : IsLegalFrom p w g = (moves_alike p j e m (mine v) w alike_now may).0 in
            let only : ChangesOnly j e w (after_all p w g) = moves_change_only_their_edge p w j e m (jobs_there p k.history j job) in
            let phases = phases_only j e w (after_all p w g) only in
            let leads : edge (after_all p w g) e ≡ after_moves m (edge (mine v) e) = moves_lead m (edge (mine v) e) p w j e alike_now.edge_t same in
            let written : Spelled p (after_all p w g) (set s.words (edge_place e) new) =
            subst (λ z. Spelled p (after_all p w g) (set s.words (edge_place e) z)) (sym is_new)
            (spelled_edge p w (after_all p w g) s.words e (after_moves m (edge (mine v) e)) own.is_edge leads only.other_edges phases k.words) in
            let back : moves_of_words old new ≡ m = (λ i. moves_of_words (is_old i) (is_new i))
            ∙ ((λ i. moves_of_words (word_of (sym same i)) (word_of (after_moves m (sym same i)))) ∙ read_back p w j e m alike_now.edge_t few fits legal) in (
              grown p v k.history g,
              keeps,
              tt,
              subst (λ b. HasOneHistory p (stepped s (edge_place e) (either b new n) id c (grown p v k.history g) keeps)) (sym (eq-eqb n old hit))
                  (appends p s k id v at led g (moves_by j e m) legal (set s.words (edge_place e) new) written s.homes
                  (homed_still p w (after_all p w g) s.homes (λ i. ap (λ (logs : List (List Entry)). get_or logs i []) only.logs)
                  (λ i l. reaching_still p w (after_all p w g) i l (phases i)) k.homes)),
              (
                (λ _. subst (λ (z : EdgeMoves × ℕ). Grows v (events_of z.0 j z.1) (grown p v k.history g))
                    (λ i. (sym back i, sym (place_edge e) i)) (tells p s k id v at led g (moves_by j e m) legal)),
                (λ miss. absurd (miss hit)),
                refl,
              ),
            )
        | inr miss ↦ (
          grown p v k.history [],
          keeps,
          tt,
          subst (λ b. HasOneHistory p (stepped s (edge_place e) (either b new n) id c (grown p v k.history []) keeps)) (sym (ne_eqb n old miss))
              (subst (λ ws. HasOneHistory p record { words = ws; homes = s.homes; views = set s.views id (grown p v k.history []) })
              (sym (set-get_or s.words (edge_place e) 0))
              (appends p s k id v at led [] tt tt s.words k.words s.homes k.homes)),
          (
            (λ hit. absurd (miss hit)),
            (λ _. let now : w ≡ state_after (hand_in v).plan (k.history ++ []) = λ i. state_after (sym held.0 i) (sym (append-nil k.history) i) in (
              tells p s k id v at led [] tt tt,
              found ∙ (λ i. word_of (edge (now i) (sym (place_edge e) i))),
              subst (λ (z : LabPlan × State × ℕ). IsOfBottles (length (bottles z.0 z.2)) (edge z.1 z.2))
                  (λ i. (sym held.0 i, now i, sym (place_edge e) i)) fits,
            )),
            refl,
          ),
        )
      ]
