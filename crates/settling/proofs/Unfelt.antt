-- What a neighbour doesn't feel.
use Rattle.std.proofs.Common.{◌≡◌, ◌≢◌, ◌⊎◌, ◌==◌, ◌&&◌, ◌<◌, ◌≤◌, ℕ, Bool, true, false, not, bit_xor, [], length, arith, slice_index_or, refl, sym, ap, ◌∙◌, subst, inl, inr}
use Rattle.std.proofs.lemmas.Bool.{false≢true}
use Rattle.std.specs.Int.Bits.{xor_zero_r}
use Rattle.lab_plan.specs.LabPlan.{LabPlan, session_names}
use Rattle.legal_steps.specs.declared.end.End.{End}
use Rattle.legal_steps.specs.declared.end.End.TheVariants.{Lower, Higher}
use Rattle.legal_steps.specs.declared.edge_state.EdgeState.{EdgeState}
use Rattle.legal_steps.specs.declared.phase.Dining.{Dining}
use Rattle.legal_steps.specs.State.{State, Seat, IsOwn, IsDrinking, IsInSession, edge, seat, end_of, bottle_end, bottles_at, all_bottles}
use Rattle.legal_steps.specs.Legal.{Needs, MayGiveBottle, MayAskBottle, instrument_of, fork_mark_seen, is_at}
use Rattle.legal_steps.specs.Run.{after_all}
use Rattle.edge_word.specs.declared.moves.EdgeMoves.{EdgeMoves}
use Rattle.edge_word.specs.Moves.{on, events_of, end_moved, when}
use Rattle.edge_word.proofs.MoveLaws.{at_once, dirty_after}
use Rattle.edge_word.proofs.MoveLemmas.{after_all-moves}
use Rattle.legal_steps.specs.Legal.{fork_given}
use Rattle.turns.specs.Due.{AreDue}
use Rattle.turns.proofs.ForkGuards.{both, untrue, soil_at}
use Rattle.settling.specs.Left.{HasNothingAt}
use Rattle.settling.specs.Visiting.{are_unfelt}
use Rattle.legal_steps.specs.declared.event.Event.{Event}
use Rattle.legal_steps.specs.declared.event.Event.TheVariants.{AskFork, GiveFork, Soil, AskBottles, GiveBottles}
use Rattle.std.proofs.lemmas.Bool.Decides.{nat_tests}
use Rattle.settling.proofs.Marks.{same_job}
use Rattle.settling.proofs.Seen.{seen_gone, seen_alike}

-- two edges are alike for the job at this end: all things are at the same ends, and a fork that is here is as dirty
pub record AreAlike (here : End) (x y : EdgeState) : Type 0 where
  pub fork : y.fork ≡ x.fork
  pub token : y.token ≡ x.token
  pub bottles : y.bottles ≡ x.bottles
  pub tokens : y.bottle_tokens ≡ x.bottle_tokens
  pub dirt : y.fork ≡ here → y.dirty ≡ x.dirty

at_or : (here thing : End) → (thing ≡ here) ⊎ (is_at here thing ≡ false)
at_or Lower Lower = inl refl
at_or Higher Higher = inl refl
at_or Lower Higher = inr refl
at_or Higher Lower = inr refl

-- a look sets the fork's mark alike
mark_alike : (d : Dining) (here : End) (x y : EdgeState) → AreAlike here x y → fork_mark_seen d here x ≡ fork_mark_seen d here y
mark_alike d here x y alike = elim (at_or here y.fork) [
  | inl mine ↦ seen_alike d here x y alike.fork (alike.dirt mine) alike.token
  | inr out ↦ seen_gone d here x (ap (is_at here) (sym alike.fork) ∙ out) ∙ sym (seen_gone d here y out)
]

bottles_alike : (plan : LabPlan) (e : ℕ) (here : End) (x y : EdgeState) → y.bottles ≡ x.bottles → bottles_at plan e here x ≡ bottles_at plan e here y
unfolding bottles_at
bottles_alike plan e Higher x y is = sym is
bottles_alike plan e Lower x y is = ap (bit_xor (all_bottles plan e)) (sym is)

module _ (plan : LabPlan) (s t : State) (k e : ℕ) (same : seat t k ≡ seat s k) (alike : AreAlike (end_of plan k e) (edge s e) (edge t e)) where
  needs_then : (i : ℕ) → Needs plan s k i → Needs plan t k i
  needs_then i n = record {
    in_session = subst (λ (x : Seat). IsInSession x.phase.drinking) (sym same) n.in_session;
    named = subst (λ (x : Seat). session_names plan k x.phase.session i ≡ true) (sym same) n.named;
  }

  needs_before : (i : ℕ) → Needs plan t k i → Needs plan s k i
  needs_before i n = record {
    in_session = subst (λ (x : Seat). IsInSession x.phase.drinking) same n.in_session;
    named = subst (λ (x : Seat). session_names plan k x.phase.session i ≡ true) same n.named;
  }

  give_before : (b : ℕ) → MayGiveBottle plan t k e b → MayGiveBottle plan s k e b
  give_before b g = record {
    bottle_here = sym (ap (λ set. bottle_end set b) alike.bottles) ∙ g.bottle_here;
    token_here = sym (ap (λ set. bottle_end set b) alike.tokens) ∙ g.token_here;
    not_kept = λ q. g.not_kept (
      needs_then (instrument_of plan e b) q.0,
      elim q.1 [ inl d ↦ inl (subst (λ (x : Seat). IsDrinking x.phase) (sym same) d) | inr f ↦ inr (alike.fork ∙ f) ],
    );
  }

  ask_before : (b : ℕ) → MayAskBottle plan t k e b → MayAskBottle plan s k e b
  ask_before b a = record {
    needed = needs_before (instrument_of plan e b) a.needed;
    bottle_there = λ h. a.bottle_there (ap (λ set. bottle_end set b) alike.bottles ∙ h);
    token_here = sym (ap (λ set. bottle_end set b) alike.tokens) ∙ a.token_here;
  }

  pub alike_nothing : HasNothingAt plan s k e → HasNothingAt plan t k e
  alike_nothing h = record {
    calm = record {
      no_give = λ may. h.calm.no_give (
        may.0,
        (λ z. may.1 (ap (λ (x : Seat). x.phase.dining) same ∙ z)),
        sym alike.fork ∙ may.2,
        sym (alike.dirt may.2) ∙ may.3,
        sym alike.token ∙ may.4,
      );
      no_ask = λ may. h.calm.no_ask (may.0, sym (ap (λ (x : Seat). x.phase.dining) same) ∙ may.1, (λ z. may.2 (alike.fork ∙ z)), sym alike.token ∙ may.3);
      no_soil = λ may. h.calm.no_soil (may.0, sym (ap (λ (x : Seat). x.phase.dining) same) ∙ may.1, sym alike.fork ∙ may.2, sym (alike.dirt may.2) ∙ may.3);
      no_bottles_given = λ set may. h.calm.no_bottles_given set (may.0, may.1, λ b member. give_before b (may.2 b member));
      no_bottles_asked = λ set may. h.calm.no_bottles_asked set
          (may.0, sym (ap (λ (x : Seat). x.phase.drinking) same) ∙ may.1, may.2, λ b member. ask_before b (may.3 b member));
    };
    looked = ap (λ (x : Seat). slice_index_or x.fork_marks e false) same ∙ (h.looked ∙ (mark_alike (seat s k).phase.dining (end_of plan k e) (edge s e) (edge t e) alike
        ∙ ap (λ (x : Seat). fork_mark_seen x.phase.dining (end_of plan k e) (edge t e)) (sym same)));
    knows = ap (λ (x : Seat). slice_index_or x.bottle_marks e 0) same ∙ (h.knows ∙ bottles_alike plan e (end_of plan k e) (edge s e) (edge t e) alike.bottles);
  }

-- ---- a fork that is soiled, at most

none : (n : ℕ) → (n == 0) ≡ true → n ≡ 0
none n h = grind (arith, nat_tests)

pub record AreUnfelt (m : EdgeMoves) : Type 0 where
  pub no_fork : m.give_fork ≡ false
  pub no_bottles : m.give_bottles ≡ 0
  pub no_wish : m.ask_fork ≡ false
  pub no_wishes : m.ask_bottles ≡ 0

pub unfelt_of : (m : EdgeMoves) → are_unfelt m ≡ true → AreUnfelt m
unfelt_of m h = let a = both _ _ h in let b = both _ _ a.0 in let c = both _ _ b.0 in record {
  no_fork = untrue m.give_fork c.0;
  no_bottles = none m.give_bottles c.1;
  no_wish = untrue m.ask_fork b.1;
  no_wishes = none m.ask_bottles a.1;
}

-- whatever else is felt is a move
felt_on : (a b c d f : Bool) (u v w x y : Event) → (not a && b && not c && d) ≡ false → 1 ≤ length (on a u (on (not b) v (on c w (on (not d) x (on f y [])))))
felt_on true b c d f u v w x y h = omega arith
felt_on false false c d f u v w x y h = omega arith
felt_on false true true d f u v w x y h = omega arith
felt_on false true false false f u v w x y h = omega arith
felt_on false true false true f u v w x y h = absurd (false≢true (sym h))

pub felt_some : (m : EdgeMoves) (j e : ℕ) → are_unfelt m ≡ false → 1 ≤ length (events_of m j e)
felt_some m j e h = felt_on m.give_fork (m.give_bottles == 0) m.ask_fork (m.ask_bottles == 0) m.soil (GiveFork j e) (GiveBottles j e m.give_bottles)
    (AskFork j e) (AskBottles j e m.ask_bottles) (Soil j e) h

-- after such moves of the job at one end, the edge is alike for the job at the other
pub unfelt_alike : (plan : LabPlan) (s : State) (j k e : ℕ) (m : EdgeMoves) → e < length s.edges → j < length s.seats → IsOwn plan j e → IsOwn plan k e → k ≢ j →
    AreDue plan s j e m → AreUnfelt m → AreAlike (end_of plan k e) (edge s e) (edge (after_all plan s (events_of m j e)) e)
unfelt_alike plan s j k e m he hj own other apart due u =
    let x : EdgeState = edge s e in
    let is = after_all-moves plan s j e m he ∙ at_once m.give_fork m.ask_fork m.soil m.give_bottles m.ask_bottles x in
    let fork : (edge (after_all plan s (events_of m j e)) e).fork ≡ x.fork = ap (λ (q : EdgeState). q.fork) is ∙ ap (λ b. end_moved b x.fork) u.no_fork in
    record {
      fork = fork;
      token = ap (λ (q : EdgeState). q.token) is ∙ ap (λ b. end_moved b x.token) u.no_wish;
      bottles = ap (λ (q : EdgeState). q.bottles) is ∙ (ap (bit_xor x.bottles) u.no_bottles ∙ xor_zero_r x.bottles);
      tokens = ap (λ (q : EdgeState). q.bottle_tokens) is ∙ (ap (bit_xor x.bottle_tokens) u.no_wishes ∙ xor_zero_r x.bottle_tokens);
      dirt = λ here. ap (λ (q : EdgeState). q.dirty) is ∙ (ap (λ b. dirty_after b m.soil x.dirty) u.no_fork ∙ clean m.soil refl (sym fork ∙ here));
    }
  where
    saw : EdgeState
    saw = edge s e

    -- the fork was at the end of the job that soiled it
    clean : (b : Bool) → m.soil ≡ b → saw.fork ≡ end_of plan k e → dirty_after false m.soil saw.dirty ≡ saw.dirty
    clean false no_soil here = ap (λ b. dirty_after false b saw.dirty) no_soil
    clean true soils here =
        let at = (soil_at plan j e s m he hj).0 (due.forks.soil.0 soils) in
        let mine : saw.fork ≡ end_of plan j e = subst (λ b. (when b fork_given saw).fork ≡ end_of plan j e) u.no_fork at.2 in
        absurd (apart (same_job plan j k e own other (sym here ∙ mine)))
