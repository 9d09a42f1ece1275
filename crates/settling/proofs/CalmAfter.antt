-- After the moves that were due at an edge, none is.
use Rattle.std.proofs.Common.{◌≡◌, ◌≢◌, ◌↔◌, ◌⊎◌, ℕ, ◌<◌, Bool, true, false, bit_and, bit_xor, length, slice_index_or, get_or-set_same, refl, sym, ap, ◌∙◌, subst, inl, inr, arith}
use Rattle.std.proofs.lemmas.Bool.{false≢true}
use Rattle.std.proofs.lemmas.Nat.{and_comm}
use Rattle.std.specs.Int.Bits.{xor_assoc}
use Rattle.lab_plan.specs.LabPlan.{LabPlan, bottles, session_names}
use Rattle.lab_plan.proofs.Bits.{bit_cases}
use Rattle.legal_steps.specs.declared.end.End.{End}
use Rattle.legal_steps.specs.declared.end.End.TheVariants.{Lower, Higher}
use Rattle.legal_steps.specs.declared.phase.Drinking.TheVariants.{Thirsty}
use Rattle.legal_steps.specs.declared.phase.Dining.TheVariants.{Hungry, Eating}
use Rattle.legal_steps.specs.declared.phase.JobState.{JobState}
use Rattle.legal_steps.specs.declared.edge_state.EdgeState.{EdgeState}
use Rattle.legal_steps.specs.State.{State, Seat, Has, IsOwn, IsDrinking, IsInSession, opposite, edge, seat, phase, dining, drinking, fork_mark, bottle_marks, end_of, bottle_end, bottles_at, all_bottles}
use Rattle.legal_steps.specs.Legal.{MayGiveBottle, MayAskBottle, Needs, instrument_of, fork_given, fork_asked, fork_mark_seen}
use Rattle.legal_steps.specs.Run.{after_all}
use Rattle.legal_steps.proofs.BottleSets.{subset, member_below, bottle_end_flips, bottle_end_stays, some_bottle, at_end}
use Rattle.edge_word.specs.declared.moves.EdgeMoves.{EdgeMoves}
use Rattle.edge_word.specs.Moves.{events_of, when, end_moved, fork_mark_after}
use Rattle.edge_word.proofs.MoveLaws.{at_once, dirty_after}
use Rattle.edge_word.proofs.MoveLemmas.{after_all-moves}
use Rattle.edge_word.proofs.MoveFrame.{moves_change_only_their_edge}
use Rattle.turns.specs.Due.{AreDue, IsCalm, fork_gone, fork_asked_for}
use Rattle.turns.proofs.ForkGuards.{GiveAt, AskAt, SoilAt, ask_at, soil_at}
use Rattle.turns.proofs.Groups.{groups_change_one_seat_and_edge}
use Rattle.turns.proofs.Stages.{stage_one, stage_three}
use Rattle.settling.specs.Left.{HasNothingAt}
use Rattle.settling.proofs.Seen.{seen_after}

turned : (x : End) → opposite x ≡ x → ⊥
turned Lower h = cc
turned Higher h = cc

-- what has gone over isn't here any more
gone : (x here : End) → x ≡ here → opposite x ≡ here → ⊥
gone x here is h = turned x (h ∙ sym is)

member_or_not : (set k : ℕ) → Has set k ⊎ ¬ Has set k
unfolding Has
member_or_not set k = elim (bit_cases set k) [ inl no_bit ↦ inr (λ h. absurd (omega (arith, no_bit, h))) | inr one ↦ inl one ]

-- ---- the fork

module _ (plan : LabPlan) (j e : ℕ) (x : EdgeState) (ph : JobState) where
  abbrev left : Bool → EdgeState
  left given = when given fork_given x

  no_give : (given asked soil : Bool) → (given ≡ true) ↔ GiveAt plan j e x ph → (asked ≡ true) ↔ AskAt plan j e (left given) ph →
      (soil ≡ true) ↔ SoilAt plan j e (left given) ph → IsOwn plan j e → ph.dining ≢ Eating →
      end_moved given x.fork ≡ end_of plan j e → dirty_after given soil x.dirty ≡ true → end_moved asked x.token ≡ end_of plan j e → ⊥
  no_give true asked soil g a so own calm fork dirty token = gone x.fork (end_of plan j e) (g.0 refl).2 fork
  no_give false asked true g a so own calm fork dirty token = calm (so.0 refl).1
  no_give false true false g a so own calm fork dirty token = (a.0 refl).2 fork
  no_give false false false g a so own calm fork dirty token = false≢true (g.1 (own, calm, fork, dirty, token))

  no_ask : (given asked : Bool) → (asked ≡ true) ↔ AskAt plan j e (left given) ph → IsOwn plan j e → ph.dining ≡ Hungry →
      end_moved given x.fork ≢ end_of plan j e → end_moved asked x.token ≡ end_of plan j e → ⊥
  no_ask true true a own hungry fork token = gone x.token (end_of plan j e) (a.0 refl).3 token
  no_ask false true a own hungry fork token = gone x.token (end_of plan j e) (a.0 refl).3 token
  no_ask true false a own hungry fork token = false≢true (a.1 (own, hungry, fork, token))
  no_ask false false a own hungry fork token = false≢true (a.1 (own, hungry, fork, token))

  no_soil : (given soil : Bool) → (soil ≡ true) ↔ SoilAt plan j e (left given) ph → IsOwn plan j e → ph.dining ≡ Eating →
      end_moved given x.fork ≡ end_of plan j e → dirty_after given soil x.dirty ≡ false → ⊥
  no_soil given true so own eating fork dirty = clean given dirty where
    clean : (given : Bool) → dirty_after given true x.dirty ≡ false → ⊥
    clean true h = false≢true (sym h)
    clean false h = false≢true (sym h)
  no_soil true false so own eating fork dirty = false≢true (so.1 (own, eating, fork, refl))
  no_soil false false so own eating fork dirty = false≢true (so.1 (own, eating, fork, dirty))

-- ---- the sets of bottles

needs_as : (plan : LabPlan) (s t : State) (j i : ℕ) → phase t j ≡ phase s j → Needs plan s j i → Needs plan t j i
needs_as plan s t j i same n = record {
  in_session = subst (λ (x : JobState). IsInSession x.drinking) (sym same) n.in_session;
  named = subst (λ (x : JobState). session_names plan j x.session i ≡ true) (sym same) n.named;
}

-- bottles that are given were here: so their marks are just the bottles that stay
without_part : (a b : ℕ) → ((k : ℕ) → Has b k → Has a k) → bit_xor a (bit_and a b) ≡ bit_xor a b
without_part a b within = ap (bit_xor a) (and_comm a b ∙ (subset b a).1 within)

sent_from : (plan : LabPlan) (e : ℕ) (here : End) (x : EdgeState) (y : EdgeState) (sent : ℕ) → y.bottles ≡ bit_xor x.bottles sent →
    bit_xor (bottles_at plan e here x) sent ≡ bottles_at plan e here y
unfolding bottles_at
sent_from plan e Higher x y sent is = sym is
sent_from plan e Lower x y sent is = xor_assoc (all_bottles plan e) x.bottles sent ∙ ap (bit_xor (all_bottles plan e)) (sym is)

module _ (plan : LabPlan) (s : State) (j e : ℕ) (m : EdgeMoves) (he : e < length s.edges) (hj : j < length s.seats) (own : IsOwn plan j e)
    (due : AreDue plan s j e m) where
  abbrev t : State
  t = after_all plan s (events_of m j e)

  abbrev x : EdgeState
  x = edge s e

  abbrev ph : JobState
  ph = phase s j

  abbrev here : End
  here = end_of plan j e

  abbrev y : EdgeState
  y = record {
    fork = end_moved m.give_fork x.fork;
    dirty = dirty_after m.give_fork m.soil x.dirty;
    token = end_moved m.ask_fork x.token;
    bottles = bit_xor x.bottles m.give_bottles;
    bottle_tokens = bit_xor x.bottle_tokens m.ask_bottles;
  }

  edge_is : edge t e ≡ y
  edge_is = after_all-moves plan s j e m he ∙ at_once m.give_fork m.ask_fork m.soil m.give_bottles m.ask_bottles x

  phase_is : phase t j ≡ ph
  phase_is = (moves_change_only_their_edge plan s j e m hj).own_phase

  gives : (m.give_fork ≡ true) ↔ GiveAt plan j e x ph
  gives = due.forks.give_fork

  asks : (m.ask_fork ≡ true) ↔ AskAt plan j e (when m.give_fork fork_given x) ph
  asks = let a = ask_at plan j e s m he hj in (λ h. a.0 (due.forks.ask_fork.0 h), λ h. due.forks.ask_fork.1 (a.1 h))

  soils : (m.soil ≡ true) ↔ SoilAt plan j e (when m.give_fork fork_given x) ph
  soils = let a = soil_at plan j e s m he hj in (λ h. a.0 (due.forks.soil.0 h), λ h. due.forks.soil.1 (a.1 h))

  -- the states before bottles are given, and before they are asked for
  abbrev u : State
  u = fork_gone plan s j e m

  abbrev v : State
  v = fork_asked_for plan s j e m

  before_gifts : ((edge u e).bottles ≡ x.bottles) × ((edge u e).bottle_tokens ≡ x.bottle_tokens) × ((edge u e).fork ≡ y.fork)
  before_gifts = let a = (stage_one plan s j e m he hj).edge_is in let b = of m.give_fork in (
    ap (λ (q : EdgeState). q.bottles) a ∙ b.0,
    ap (λ (q : EdgeState). q.bottle_tokens) a ∙ b.1,
    ap (λ (q : EdgeState). q.fork) a ∙ b.2,
  ) where
    of : (b : Bool) → ((when b fork_given x).bottles ≡ x.bottles) × ((when b fork_given x).bottle_tokens ≡ x.bottle_tokens) × ((when b fork_given x).fork ≡ end_moved b x.fork)
    of true = (refl, refl, refl)
    of false = (refl, refl, refl)

  before_wishes : ((edge v e).bottles ≡ y.bottles) × ((edge v e).bottle_tokens ≡ x.bottle_tokens)
  before_wishes = let a = (stage_three plan s j e m he hj).edge_is in let b = of m.give_fork m.ask_fork in (
    ap (λ (q : EdgeState). q.bottles) a ∙ b.0,
    ap (λ (q : EdgeState). q.bottle_tokens) a ∙ b.1,
  ) where
    of : (b c : Bool) → ((when c fork_asked (record (when b fork_given x) { bottles = bit_xor (when b fork_given x).bottles m.give_bottles })).bottles ≡ y.bottles)
        × ((when c fork_asked (record (when b fork_given x) { bottles = bit_xor (when b fork_given x).bottles m.give_bottles })).bottle_tokens ≡ x.bottle_tokens)
    of true true = (refl, refl)
    of true false = (refl, refl)
    of false true = (refl, refl)
    of false false = (refl, refl)

  u_phase : phase u j ≡ phase t j
  u_phase = (stage_one plan s j e m he hj).phase_is ∙ sym phase_is

  v_phase : phase v j ≡ phase t j
  v_phase = (stage_three plan s j e m he hj).phase_is ∙ sym phase_is

  -- bottles that were given were here
  given_here : (k : ℕ) → k < length (bottles plan e) → Has m.give_bottles k → bottle_end x.bottles k ≡ here
  given_here k l member = sym (ap (λ set. bottle_end set k) before_gifts.0) ∙ ((due.bottles.give_bottles.just k l).0 member).bottle_here

  no_gift : (k : ℕ) → k < length (bottles plan e) → ¬ MayGiveBottle plan t j e k
  no_gift k l may = elim (member_or_not m.give_bottles k) [
    | inl member ↦ gone (bottle_end x.bottles k) here (given_here k l member)
        (sym (bottle_end_flips x.bottles m.give_bottles k member) ∙ bottle_now)
    | inr stayed ↦ elim (member_or_not m.ask_bottles k) [
      | inl asked ↦ ((due.bottles.ask_bottles.just k l).0 asked).1.bottle_there (ap (λ set. bottle_end set k) before_wishes.0 ∙ bottle_now)
      | inr other ↦ stayed ((due.bottles.give_bottles.just k l).1 (record {
        bottle_here = ap (λ set. bottle_end set k) before_gifts.0 ∙ (sym (bottle_end_stays x.bottles m.give_bottles k stayed) ∙ bottle_now);
        token_here = ap (λ set. bottle_end set k) before_gifts.1 ∙ (sym (bottle_end_stays x.bottle_tokens m.ask_bottles k other) ∙ token_now);
        not_kept = λ kept. may.not_kept (
          needs_as plan u t j (instrument_of plan e k) (sym u_phase) kept.0,
          elim kept.1 [ inl drinks ↦ inl (subst IsDrinking u_phase drinks) | inr fork ↦ inr (ap (λ (q : EdgeState). q.fork) edge_is ∙ (sym before_gifts.2 ∙ fork)) ],
        );
      }))
    ]
  ] where
    bottle_now : bottle_end y.bottles k ≡ here
    bottle_now = sym (ap (λ (q : EdgeState). bottle_end q.bottles k) edge_is) ∙ may.bottle_here

    token_now : bottle_end y.bottle_tokens k ≡ here
    token_now = sym (ap (λ (q : EdgeState). bottle_end q.bottle_tokens k) edge_is) ∙ may.token_here

  no_wish : (k : ℕ) → k < length (bottles plan e) → drinking s j ≡ Thirsty → ¬ MayAskBottle plan t j e k
  no_wish k l thirsty may = elim (member_or_not m.ask_bottles k) [
    | inl member ↦ gone (bottle_end x.bottle_tokens k) here
        (sym (ap (λ set. bottle_end set k) before_wishes.1) ∙ ((due.bottles.ask_bottles.just k l).0 member).1.token_here)
        (sym (bottle_end_flips x.bottle_tokens m.ask_bottles k member) ∙ token_now)
    | inr other ↦ other ((due.bottles.ask_bottles.just k l).1 (
      thirsty,
      record {
        needed = needs_as plan t v j (instrument_of plan e k) v_phase may.needed;
        bottle_there = λ h. may.bottle_there (ap (λ (q : EdgeState). bottle_end q.bottles k) edge_is ∙ (sym (ap (λ set. bottle_end set k) before_wishes.0) ∙ h));
        token_here = ap (λ set. bottle_end set k) before_wishes.1 ∙ (sym (bottle_end_stays x.bottle_tokens m.ask_bottles k other) ∙ token_now);
      },
    ))
  ] where
    token_now : bottle_end y.bottle_tokens k ≡ here
    token_now = sym (ap (λ (q : EdgeState). bottle_end q.bottle_tokens k) edge_is) ∙ may.token_here

  calm_now : IsCalm plan t j e
  calm_now = record {
    no_give = λ may. let h = subst (λ (q : EdgeState × JobState). GiveAt plan j e q.0 q.1) (λ i. (edge_is i, phase_is i)) may in
        no_give plan j e x ph m.give_fork m.ask_fork m.soil gives asks soils own h.1 h.2 h.3 h.4;
    no_ask = λ may. let h = subst (λ (q : EdgeState × JobState). AskAt plan j e q.0 q.1) (λ i. (edge_is i, phase_is i)) may in
        no_ask plan j e x ph m.give_fork m.ask_fork asks own h.1 h.2 h.3;
    no_soil = λ may. let h = subst (λ (q : EdgeState × JobState). SoilAt plan j e q.0 q.1) (λ i. (edge_is i, phase_is i)) may in
        no_soil plan j e x ph m.give_fork m.soil soils own h.1 h.2 h.3;
    no_bottles_given = λ set may. let k = some_bottle plan e set may.1 in no_gift k.0 k.1 (may.2 k.0 k.2);
    no_bottles_asked = λ set may. let k = some_bottle plan e set may.2 in
        no_wish k.0 k.1 (sym (ap (λ (q : JobState). q.drinking) phase_is) ∙ may.1) (may.3 k.0 k.2);
  }

  -- the job knows which bottles it has there, if it knew before
  knows_now : e < length (seat s j).bottle_marks → bottle_marks s j e ≡ bottles_at plan e here x → bottle_marks t j e ≡ bottles_at plan e here (edge t e)
  knows_now there knew =
      let seat_is = (groups_change_one_seat_and_edge plan s j e m).0 hj in
      let a : bottle_marks t j e ≡ bit_xor (bottle_marks s j e) (bit_and (bottle_marks s j e) m.give_bottles) =
      ap (λ (z : Seat). slice_index_or z.bottle_marks e 0) seat_is ∙ get_or-set_same (seat s j).bottle_marks e _ 0 there in
      let within : (k : ℕ) → Has m.give_bottles k → Has (bottle_marks s j e) k = λ k member.
      let l = member_below m.give_bottles (length (bottles plan e)) k due.bottles.give_bottles.of_edge member in
      subst (λ z. Has z k) (sym knew) ((at_end plan e here x k l).1 (given_here k l member)) in
      a ∙ (without_part (bottle_marks s j e) m.give_bottles within ∙ (ap (λ z. bit_xor z m.give_bottles) knew
      ∙ sent_from plan e here x (edge t e) m.give_bottles (ap (λ (q : EdgeState). q.bottles) edge_is)))

  -- and its fork mark is as a look would set it, if it was so before
  looked_now : e < length (seat s j).fork_marks → fork_mark s j e ≡ fork_mark_seen ph.dining here x → fork_mark t j e ≡ fork_mark_seen (dining t j) here (edge t e)
  looked_now there knew =
      let seat_is = (groups_change_one_seat_and_edge plan s j e m).0 hj in
      let a : fork_mark t j e ≡ fork_mark_after m (fork_mark s j e) =
      ap (λ (z : Seat). slice_index_or z.fork_marks e false) seat_is ∙ get_or-set_same (seat s j).fork_marks e _ false there in
      a ∙ (seen_after plan j e x (edge t e) ph m.give_fork m.ask_fork m.soil (fork_mark s j e) gives asks soils (ap (λ (q : EdgeState). q.fork) edge_is)
      (ap (λ (q : EdgeState). q.dirty) edge_is) (ap (λ (q : EdgeState). q.token) edge_is) knew
      ∙ ap (λ (q : JobState). fork_mark_seen q.dining here (edge t e)) (sym phase_is))

  pub nothing_after : e < length (seat s j).fork_marks → fork_mark s j e ≡ fork_mark_seen ph.dining here x →
      e < length (seat s j).bottle_marks → bottle_marks s j e ≡ bottles_at plan e here x → HasNothingAt plan t j e
  nothing_after marks looked there knew = record { calm = calm_now; looked = looked_now marks looked; knows = knows_now there knew }
