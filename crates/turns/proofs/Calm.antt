-- Where nothing is due, nothing is legal.
use Rattle.std.proofs.Common.{◌≡◌, ◌↔◌, ℕ, ◌<◌, ◌^◌, inl, inr, Bool, true, false, not, ◌==◌, length, refl, sym, ap, ◌∙◌, subst, arith}
use Rattle.std.proofs.lemmas.Bool.{false≢true, cases_eq}
use Rattle.std.proofs.lemmas.Nat.{pow_pos}
use Rattle.std.proofs.lemmas.Nat.Bits.{bit_at-pow_other, same_from_bits_below}
use Rattle.std.proofs.Math.Pow.{pow-lt}
use Rattle.legal_steps.specs.declared.phase.Drinking.TheVariants.{Thirsty}
use Rattle.std.proofs.lemmas.Bool.Decides.{nat_tests}
use Rattle.lab_plan.specs.LabPlan.{LabPlan, bottles, session_names}
use Rattle.legal_steps.specs.declared.event.Event.TheVariants.{AskFork, GiveFork, Soil, AskBottles, GiveBottles}
use Rattle.legal_steps.specs.State.{State, Has, IsDrinking, IsInSession, drinking, edge, phase, bottle_end}
use Rattle.legal_steps.specs.declared.phase.JobState.{JobState}
use Rattle.legal_steps.specs.declared.edge_state.EdgeState.{EdgeState}
use Rattle.legal_steps.specs.Legal.{May, MayGiveBottle, MayAskBottle, IsBottleSet, Needs}
use Rattle.turns.specs.Due.{after_if, fork_gone, bottles_gone, fork_asked_for, all_asked_for, IsCalm, IsGreatest, but_position}
use Rattle.turns.specs.Laws.{NothingDueIsCalm, CalmHasNothingDue, OneGroupIsDue, StaysCalm}
use Rattle.lab_plan.proofs.Bits.{bit_cases}
use Rattle.legal_steps.proofs.BottleSets.{has_none, empty_set}
use Rattle.turns.proofs.ForkGuards.{both, untrue, GiveAt, AskAt, SoilAt}

none : (n : ℕ) → (n == 0) ≡ true → n ≡ 0
none n h = grind (arith, nat_tests)

pub nothing_due_is_calm : NothingDueIsCalm
nothing_due_is_calm = λ plan s j e m due h. let a = both _ _ h in let b = both _ _ a.0 in let c = both _ _ b.0 in let f = both _ _ c.0 in
    let gf : m.give_fork ≡ false = untrue m.give_fork f.0 in
    let gb : (m.give_bottles == 0) ≡ true = f.1 in
    let af : m.ask_fork ≡ false = untrue m.ask_fork c.1 in
    let ab : (m.ask_bottles == 0) ≡ true = b.1 in
    let so : m.soil ≡ false = untrue m.soil a.1 in
    let one : fork_gone plan s j e m ≡ s = λ i. after_if plan (gf i) (GiveFork j e) s in
    let two : bottles_gone plan s j e m ≡ s = (λ i. after_if plan (not (gb i)) (GiveBottles j e m.give_bottles) (fork_gone plan s j e m)) ∙ one in
    let three : fork_asked_for plan s j e m ≡ s = (λ i. after_if plan (af i) (AskFork j e) (bottles_gone plan s j e m)) ∙ two in
    let four : all_asked_for plan s j e m ≡ s = (λ i. after_if plan (not (ab i)) (AskBottles j e m.ask_bottles) (fork_asked_for plan s j e m)) ∙ three in
    let g = due.bottles.give_bottles in let w = due.bottles.ask_bottles in
    record {
      no_give = λ may. false≢true (sym gf ∙ due.forks.give_fork.1 may);
      no_ask = λ may. false≢true (sym af ∙ due.forks.ask_fork.1 (subst (λ (t : State). May plan t (AskFork j e)) (sym two) may));
      no_soil = λ may. false≢true (sym so ∙ due.forks.soil.1 (subst (λ (t : State). May plan t (Soil j e)) (sym four) may));
      no_bottles_given = λ set may. let moved = subst (λ (t : State). May plan t (GiveBottles j e set)) (sym one) may in
          moved.1.not_empty (empty_set (length (bottles plan e)) set moved.1.of_edge
          (λ k l member. has_none k (subst (λ z. Has z k) (none m.give_bottles gb) ((g.just k l).1 (moved.2 k member)))));
      no_bottles_asked = λ set may. let moved = subst (λ (t : State). May plan t (AskBottles j e set)) (sym three) may in
          moved.2.not_empty (empty_set (length (bottles plan e)) set moved.2.of_edge
          (λ k l member. has_none k (subst (λ z. Has z k) (none m.ask_bottles ab) ((w.just k l).1 (may.1, moved.3 k member)))));
    }

alone : (k i : ℕ) → Has (2 ^ k) i → i ≡ k
unfolding Has
alone k i h = elim (cases_eq i k) [ inl is ↦ is | inr other ↦ let z = bit_at-pow_other k i other in absurd (omega (arith, z, h)) ]

one_bottle : (plan : LabPlan) (e k : ℕ) → k < length (bottles plan e) → IsBottleSet plan e (2 ^ k)
one_bottle plan e k l = record { not_empty = (λ z. let p = pow_pos k in absurd (omega (arith, p, z))); of_edge = pow-lt l }

pub calm_has_nothing_due : CalmHasNothingDue
calm_has_nothing_due = λ plan s j e own calm. record {
  forks = record {
    give_fork = ((λ h. absurd (false≢true h)), (λ may. absurd (calm.no_give may)));
    ask_fork = ((λ h. absurd (false≢true h)), (λ may. absurd (calm.no_ask may)));
    soil = ((λ h. absurd (false≢true h)), (λ may. absurd (calm.no_soil may)));
  };
  bottles = record {
    give_bottles = record {
      of_edge = pow_pos (length (bottles plan e));
      just = λ k l. (
        (λ h. absurd (has_none k h)),
        (λ g. absurd (calm.no_bottles_given (2 ^ k)
            (own, one_bottle plan e k l, λ i member. subst (λ z. MayGiveBottle plan s j e z) (sym (alone k i member)) g))),
      );
    };
    ask_bottles = record {
      of_edge = pow_pos (length (bottles plan e));
      just = λ k l. (
        (λ h. absurd (has_none k h)),
        (λ g. absurd (calm.no_bottles_asked (2 ^ k)
            (own, g.0, one_bottle plan e k l, λ i member. subst (λ z. MayAskBottle plan s j e z) (sym (alone k i member)) g.1))),
      );
    };
  };
}

same_test : (a b : Bool) (M : Type 0) → (a ≡ true) ↔ M → (b ≡ true) ↔ M → a ≡ b
same_test true b M p q = sym (q.1 (p.0 refl))
same_test false true M p q = p.1 (q.0 refl)
same_test false false M p q = refl

same_set : (plan : LabPlan) (e a b : ℕ) (P : ℕ → Type 0) → IsGreatest plan e a P → IsGreatest plan e b P → a ≡ b
unfolding Has
same_set plan e a b P p q =
    same_from_bits_below (length (bottles plan e)) a b p.of_edge q.of_edge
    (λ k l. let x = p.just k l in let y = q.just k l in elim (bit_cases a k) [
      | inr a1 ↦ a1 ∙ sym (y.1 (x.0 a1))
      | inl a0 ↦ elim (bit_cases b k) [
        | inl b0 ↦ a0 ∙ sym b0
        | inr b1 ↦ let z = x.1 (y.0 b1) in absurd (omega (arith, z, a0))
      ]
    ])

pub one_group_is_due : OneGroupIsDue
one_group_is_due = λ plan s j e m r p q.
    let gf : m.give_fork ≡ r.give_fork = same_test m.give_fork r.give_fork (May plan s (GiveFork j e)) p.forks.give_fork q.forks.give_fork in
    let one : fork_gone plan s j e m ≡ fork_gone plan s j e r = λ i. after_if plan (gf i) (GiveFork j e) s in
    let gb : m.give_bottles ≡ r.give_bottles =
    same_set plan e m.give_bottles r.give_bottles (MayGiveBottle plan (fork_gone plan s j e r) j e)
    (subst (λ (t : State). IsGreatest plan e m.give_bottles (MayGiveBottle plan t j e)) one p.bottles.give_bottles) q.bottles.give_bottles in
    let two : bottles_gone plan s j e m ≡ bottles_gone plan s j e r = λ i. after_if plan (not (gb i == 0)) (GiveBottles j e (gb i)) (one i) in
    let af : m.ask_fork ≡ r.ask_fork =
    same_test m.ask_fork r.ask_fork (May plan (bottles_gone plan s j e r) (AskFork j e))
    (subst (λ (t : State). (m.ask_fork ≡ true) ↔ May plan t (AskFork j e)) two p.forks.ask_fork) q.forks.ask_fork in
    let three : fork_asked_for plan s j e m ≡ fork_asked_for plan s j e r = λ i. after_if plan (af i) (AskFork j e) (two i) in
    let ab : m.ask_bottles ≡ r.ask_bottles =
    same_set plan e m.ask_bottles r.ask_bottles (λ k. (drinking s j ≡ Thirsty) × MayAskBottle plan (fork_asked_for plan s j e r) j e k)
    (subst (λ (t : State). IsGreatest plan e m.ask_bottles (λ k. (drinking s j ≡ Thirsty) × MayAskBottle plan t j e k)) three p.bottles.ask_bottles)
    q.bottles.ask_bottles in
    let four : all_asked_for plan s j e m ≡ all_asked_for plan s j e r = λ i. after_if plan (not (ab i == 0)) (AskBottles j e (ab i)) (three i) in
    let so : m.soil ≡ r.soil =
    same_test m.soil r.soil (May plan (all_asked_for plan s j e r) (Soil j e))
    (subst (λ (t : State). (m.soil ≡ true) ↔ May plan t (Soil j e)) four p.forks.soil) q.forks.soil in
    λ i. record { give_fork = gf i; give_bottles = gb i; ask_fork = af i; ask_bottles = ab i; soil = so i }

module _ (plan : LabPlan) (s t : State) (j e : ℕ) (is : edge t e ≡ edge s e) (ph : but_position (phase t j) ≡ but_position (phase s j)) where
  needs_there : (i : ℕ) → Needs plan s j i → Needs plan t j i
  needs_there i n = record {
    in_session = subst (λ (x : JobState). IsInSession x.drinking) (sym ph) n.in_session;
    named = subst (λ (x : JobState). session_names plan j x.session i ≡ true) (sym ph) n.named;
  }

  needs_here : (i : ℕ) → Needs plan t j i → Needs plan s j i
  needs_here i n = record {
    in_session = subst (λ (x : JobState). IsInSession x.drinking) ph n.in_session;
    named = subst (λ (x : JobState). session_names plan j x.session i ≡ true) ph n.named;
  }

  give_here : (k : ℕ) → MayGiveBottle plan t j e k → MayGiveBottle plan s j e k
  give_here k g = record {
    bottle_here = sym (ap (λ (x : EdgeState). bottle_end x.bottles k) is) ∙ g.bottle_here;
    token_here = sym (ap (λ (x : EdgeState). bottle_end x.bottle_tokens k) is) ∙ g.token_here;
    not_kept = λ q. g.not_kept (
      needs_there _ q.0,
      elim q.1 [ inl d ↦ inl (subst IsDrinking (sym ph) d) | inr f ↦ inr (ap (λ (x : EdgeState). x.fork) is ∙ f) ],
    );
  }

  ask_here : (k : ℕ) → MayAskBottle plan t j e k → MayAskBottle plan s j e k
  ask_here k a = record {
    needed = needs_here _ a.needed;
    bottle_there = λ q. a.bottle_there (ap (λ (x : EdgeState). bottle_end x.bottles k) is ∙ q);
    token_here = sym (ap (λ (x : EdgeState). bottle_end x.bottle_tokens k) is) ∙ a.token_here;
  }

  stays : IsCalm plan s j e → IsCalm plan t j e
  stays calm = record {
    no_give = λ may. calm.no_give (subst (λ (q : EdgeState × JobState). GiveAt plan j e q.0 q.1) (λ i. (is i, ph i)) may);
    no_ask = λ may. calm.no_ask (subst (λ (q : EdgeState × JobState). AskAt plan j e q.0 q.1) (λ i. (is i, ph i)) may);
    no_soil = λ may. calm.no_soil (subst (λ (q : EdgeState × JobState). SoilAt plan j e q.0 q.1) (λ i. (is i, ph i)) may);
    no_bottles_given = λ set may. calm.no_bottles_given set (may.0, may.1, λ k member. give_here k (may.2 k member));
    no_bottles_asked =
        λ set may. calm.no_bottles_asked set (may.0, sym (ap (λ (x : JobState). x.drinking) ph) ∙ may.1, may.2, λ k member. ask_here k (may.3 k member));
  }

pub stays_calm : StaysCalm
stays_calm = stays
