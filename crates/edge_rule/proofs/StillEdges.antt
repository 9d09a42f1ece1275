-- What is noted stays true: of a calm edge where neither the edge nor its marks change, nor how the job dines and drinks; of phase acts where the job's seat
-- doesn't.
use Rattle.std.proofs.Common.{◌≡◌, ◌≢◌, ℕ, zero, suc, false, List, length, get_or, set, replicate, refl, sym, ap, ◌∙◌, subst, inl, inr, arith, length-set, get_or-set_same, get_or-set_other}
use Rattle.std.proofs.lemmas.List.{length-replicate}
use Rattle.std.proofs.lemmas.Bool.{cases_eq}
use Rattle.lab_plan.specs.LabPlan.{LabPlan, edges}
use Rattle.legal_steps.specs.declared.edge_state.EdgeState.{EdgeState}
use Rattle.legal_steps.specs.State.{Seat, State, IsOwn, seat, edge, phase, fork_mark, bottle_marks, no_edge, end_of, bottles_at}
use Rattle.legal_steps.specs.Legal.{fork_mark_seen}
use Rattle.turns.specs.Due.{but_position}
use Rattle.turns.specs.Acts.{IsSettled}
use Rattle.turns.proofs.Calm.{stays_calm}
use Rattle.turns.proofs.Reading.{may_same}
use Rattle.legal_steps.specs.declared.event.Event.TheVariants.{Thirst, Hunger, Sit, Leave, Drink, Reach, Quit, Retire}
use Rattle.edge_word.specs.Words.{word_of}
use Rattle.edge_rule.specs.CalmEdges.{no_word, IsStill, AreStill}

-- what a note rests on is the same in both states
pub record IsSameAt (s t : State) (j e : ℕ) : Type 0 where
  pub edge_is : edge t e ≡ edge s e
  pub phase_is : but_position (phase t j) ≡ but_position (phase s j)
  pub fork_is : fork_mark t j e ≡ fork_mark s j e
  pub bottles_are : bottle_marks t j e ≡ bottle_marks s j e

stays_still : (plan : LabPlan) (s t : State) (j e : ℕ) → IsSameAt s t j e → IsStill plan s j e → IsStill plan t j e
stays_still plan s t j e same still = record {
  calm = stays_calm plan s t j e same.edge_is same.phase_is still.calm;
  fork = same.fork_is ∙ (still.fork ∙ (λ i. fork_mark_seen (sym same.phase_is i).dining (end_of plan j e) (sym same.edge_is i)));
  bottles = same.bottles_are ∙ (still.bottles ∙ (λ i. bottles_at plan e (end_of plan j e) (sym same.edge_is i)));
}

-- of a seat and edges that are as these
pub same_at : (s t : State) (j e : ℕ) (x y : Seat) (l m : List EdgeState) → seat s j ≡ x → seat t j ≡ y
    → s.edges ≡ l → t.edges ≡ m → get_or m e no_edge ≡ get_or l e no_edge → but_position y.phase ≡ but_position x.phase
    → get_or y.fork_marks e false ≡ get_or x.fork_marks e false → get_or y.bottle_marks e 0 ≡ get_or x.bottle_marks e 0 → IsSameAt s t j e
same_at s t j e x y l m was is lwas mis edges phases forks bottles = record {
  edge_is = ap (λ (z : List EdgeState). get_or z e no_edge) mis ∙ (edges ∙ sym (ap (λ (z : List EdgeState). get_or z e no_edge) lwas));
  phase_is = ap (λ (z : Seat). but_position z.phase) is ∙ (phases ∙ sym (ap (λ (z : Seat). but_position z.phase) was));
  fork_is = ap (λ (z : Seat). get_or z.fork_marks e false) is ∙ (forks ∙ sym (ap (λ (z : Seat). get_or z.fork_marks e false) was));
  bottles_are = ap (λ (z : Seat). get_or z.bottle_marks e 0) is ∙ (bottles ∙ sym (ap (λ (z : Seat). get_or z.bottle_marks e 0) was));
}

-- no phase act is legal where none was and the seat is the same
pub stays_settled : (plan : LabPlan) (s t : State) (j : ℕ) → seat t j ≡ seat s j → IsSettled plan s j → IsSettled plan t j
stays_settled plan s t j same none = record {
  no_quit = λ may. none.no_quit (may_same plan t s (Quit j) same may);
  no_reach = λ may. none.no_reach (may_same plan t s (Reach j) same may);
  no_drink = λ may. none.no_drink (may_same plan t s (Drink j) same may);
  no_leave = λ may. none.no_leave (may_same plan t s (Leave j) same may);
  no_sit = λ may. none.no_sit (may_same plan t s (Sit j) same may);
  no_thirst = λ may. none.no_thirst (may_same plan t s (Thirst j) same may);
  no_hunger = λ may. none.no_hunger (may_same plan t s (Hunger j) same may);
  no_retire = λ may. none.no_retire (may_same plan t s (Retire j) same may);
}

-- a note stays
stays_noted : (plan : LabPlan) (s t : State) (j e w : ℕ) → IsSameAt s t j e
    → (w ≡ word_of (edge s e)) × IsStill plan s j e → (w ≡ word_of (edge t e)) × IsStill plan t j e
stays_noted plan s t j e w same noted = (noted.0 ∙ ap word_of (sym same.edge_is), stays_still plan s t j e same noted.1)

-- all notes stay
pub stay_still : (plan : LabPlan) (s t : State) (j : ℕ) (noted : List ℕ) → ((e : ℕ) → IsSameAt s t j e) → AreStill plan s j noted → AreStill plan t j noted
stay_still plan s t j noted same all = record {
  wide = all.wide;
  each = λ e is. stays_noted plan s t j e _ (same e) (all.each e is);
  unnoted = all.unnoted;
  unmarked = λ e other. (same e).fork_is ∙ all.unmarked e other;
}

-- all but one stay, which goes
pub but_one : (plan : LabPlan) (s t : State) (j e : ℕ) (noted : List ℕ) → IsOwn plan j e
    → ((f : ℕ) → f ≢ e → IsSameAt s t j f) → AreStill plan s j noted → AreStill plan t j (set noted e no_word)
but_one plan s t j e noted own same all = record {
  wide = length-set noted e no_word ∙ all.wide;
  each = λ f is. elim (cases_eq f e) [
    | inl here ↦ let n = all.wide in let inside = own.is_edge in
        absurd (is (ap (λ k. get_or (set noted e no_word) k no_word) here ∙ get_or-set_same noted e no_word no_word (omega arith)))
    | inr other ↦ let kept = get_or-set_other noted e f no_word no_word other in
        subst (λ w. (w ≡ word_of (edge t f)) × IsStill plan t j f) (sym kept)
        (stays_noted plan s t j f _ (same f other) (all.each f (λ none. is (kept ∙ none))))
  ];
  unnoted = λ f others. let other : f ≢ e = λ is. others (subst (IsOwn plan j) (sym is) own) in
      get_or-set_other noted e f no_word no_word other ∙ all.unnoted f others;
  unmarked = λ f others. (same f (λ is. others (subst (IsOwn plan j) (sym is) own))).fork_is ∙ all.unmarked f others;
}

-- one more is noted
pub one_more : (plan : LabPlan) (s : State) (j e n w : ℕ) (noted : List ℕ) → n ≡ e → IsOwn plan j e
    → w ≡ word_of (edge s e) → IsStill plan s j e → AreStill plan s j noted → AreStill plan s j (set noted n w)
one_more plan s j e n w noted at own word still all = record {
  wide = length-set noted n w ∙ all.wide;
  each = λ f is. elim (cases_eq f e) [
    | inl here ↦ let wide = all.wide in let inside = own.is_edge in
        let there : get_or (set noted n w) f no_word ≡ w =
        ap (λ k. get_or (set noted n w) k no_word) (here ∙ sym at) ∙ get_or-set_same noted n w no_word (omega (arith, wide)) in
        (there ∙ (word ∙ ap (λ k. word_of (edge s k)) (sym here)), subst (IsStill plan s j) (sym here) still)
    | inr other ↦
        let kept : get_or (set noted n w) f no_word ≡ get_or noted f no_word =
        ap (λ k. get_or (set noted k w) f no_word) at ∙ get_or-set_other noted e f w no_word other in
        subst (λ x. (x ≡ word_of (edge s f)) × IsStill plan s j f) (sym kept) (all.each f (λ none. is (kept ∙ none)))
  ];
  unnoted = λ f others. let other : f ≢ e = λ is. others (subst (IsOwn plan j) (sym is) own) in
      ap (λ k. get_or (set noted k w) f no_word) at ∙ (get_or-set_other noted e f w no_word other ∙ all.unnoted f others);
  unmarked = all.unmarked;
}

pub all_same : {X : Type 0} (n e : ℕ) (x : X) → get_or (replicate n x) e x ≡ x
all_same zero e x = refl
all_same (suc n) zero x = refl
all_same (suc n) (suc e) x = all_same n e x

-- where none is noted, nothing is claimed of calm
pub none_still : (plan : LabPlan) (s : State) (j n : ℕ) (noted : List ℕ) → noted ≡ replicate n no_word → n ≡ length (edges plan)
    → ((e : ℕ) → ¬ IsOwn plan j e → fork_mark s j e ≡ false) → AreStill plan s j noted
none_still plan s j n noted is wide unmarked = record {
  wide = ap length is ∙ (length-replicate n no_word ∙ wide);
  each = λ e some. absurd (some (ap (λ z. get_or z e no_word) is ∙ all_same n e no_word));
  unnoted = λ e others. ap (λ z. get_or z e no_word) is ∙ all_same n e no_word;
  unmarked = unmarked;
}
