-- The sets of bottles that are given and asked for are the greatest legal ones.
use Rattle.std.proofs.Common.{◌≡◌, ◌≢◌, ◌↔◌, ◌⊎◌, ℕ, ◌-◌, ◌^◌, ◌<◌, Bool, true, false, ◌||◌, bit_and, bit_xor, if◌then◌else◌, length, refl, sym, ap, ◌∙◌, subst, inl, inr}
use Rattle.std.proofs.lemmas.Bool.{false≢true}
use Rattle.std.specs.Int.Bits.{and_lt, xor_assoc}
use Rattle.std.proofs.lemmas.Nat.{pow_pos}
use Rattle.lab_plan.specs.LabPlan.{LabPlan, bottles}
use Rattle.legal_steps.specs.declared.end.End.{End}
use Rattle.legal_steps.specs.declared.end.End.TheVariants.{Lower, Higher}
use Rattle.legal_steps.specs.declared.phase.Drinking.{Drinking}
use Rattle.legal_steps.specs.declared.phase.Drinking.TheVariants.{Tranquil, Thirsty, Drinking as Drinks, Reaching, Retired}
use Rattle.legal_steps.specs.declared.phase.JobState.{JobState}
use Rattle.legal_steps.specs.declared.edge_state.EdgeState.{EdgeState}
use Rattle.legal_steps.specs.State.{State, Has, IsOfEdge, IsDrinking, edge, phase, drinking, end_of, without, bottle_end, bottles_at}
use Rattle.legal_steps.specs.Legal.{MayAskBottle, MayGiveBottle, Needs, instrument_of, is_at, fork_given, fork_asked}
use Rattle.edge_word.specs.declared.moves.EdgeMoves.{EdgeMoves}
use Rattle.edge_word.specs.Moves.{when}
use Rattle.turns.specs.Due.{fork_gone, fork_asked_for, IsGreatest}
use Rattle.edge_rule.specs.NeededBottles.{NeedsIn}
use Rattle.dining_layer.specs.Turned.{turned}
use Rattle.dining_layer.proofs.Turning.{fork_is_here}
use Rattle.drinking_layer.specs.Local.{has_instruments, is_thirsty, kept, gifts, wishes}
use Rattle.legal_steps.proofs.BottleSets.{has_and, has_without, has_none, at_end, at_end_fits, without_fits}
use Rattle.turns.proofs.ForkGuards.{at_here, here_at}
use Rattle.turns.proofs.Stages.{Stage, stage_one, stage_three, edge_one, edge_two, edge_three}

thirsts : (d : Drinking) → is_thirsty d ≡ true → d ≡ Thirsty
thirsts Thirsty h = refl
thirsts Tranquil h = absurd (false≢true h)
thirsts Drinks h = absurd (false≢true h)
thirsts Reaching h = absurd (false≢true h)
thirsts Retired h = absurd (false≢true h)

drinks : (x : JobState) → has_instruments x.drinking ≡ true → IsDrinking x
drinks x h = at x.drinking refl h where
  at : (d : Drinking) → x.drinking ≡ d → has_instruments d ≡ true → (x.drinking ≡ Drinks) ⊎ (x.drinking ≡ Reaching)
  at Drinks is h = inl is
  at Reaching is h = inr is
  at Tranquil is h = absurd (false≢true h)
  at Thirsty is h = absurd (false≢true h)
  at Retired is h = absurd (false≢true h)

drinks_not : (x : JobState) → has_instruments x.drinking ≡ false → ¬ IsDrinking x
drinks_not x h d = elim d [
  | inl is ↦ absurd (false≢true (sym h ∙ ap has_instruments is))
  | inr is ↦ absurd (false≢true (sym h ∙ ap has_instruments is))
]

either : (a b : Bool) → (a || b) ≡ true → (a ≡ true) ⊎ (b ≡ true)
either true b h = inl refl
either false b h = inr h

neither : (a b : Bool) → (a || b) ≡ false → (a ≡ false) × (b ≡ false)
neither true b h = absurd (false≢true (sym h))
neither false b h = (refl, h)

-- bottles that are sent away are sent away from either view
sent_from : (plan : LabPlan) (e : ℕ) (here : End) (x : EdgeState) (sent : ℕ)
    → bit_xor (bottles_at plan e here x) sent ≡ bottles_at plan e here (record x { bottles = bit_xor x.bottles sent })
unfolding bottles_at
sent_from plan e Higher x sent = refl
sent_from plan e Lower x sent = xor_assoc (2 ^ length (bottles plan e) - 1) x.bottles sent

module _ (plan : LabPlan) (s : State) (j e : ℕ) (he : e < length s.edges) (hj : j < length s.seats) where
  abbrev here : End
  here = end_of plan j e

  abbrev x : EdgeState
  x = edge s e

  abbrev mine : EdgeState
  mine = turned plan e here x

  abbrev ph : JobState
  ph = phase s j

  -- what a state with the same phase of its own needs
  needs_in : (t : State) (i : ℕ) → phase t j ≡ ph → Needs plan t j i ↔ NeedsIn plan j ph i
  needs_in t i is = (
    λ n. subst (λ (q : JobState). NeedsIn plan j q i) is (record { in_session = n.in_session; named = n.named }),
    λ n. let m : NeedsIn plan j (phase t j) i = subst (λ (q : JobState). NeedsIn plan j q i) (sym is) n in
        record { in_session = m.in_session; named = m.named },
  )

  module _ (needed : ℕ) (fits : IsOfEdge plan e needed) (own_bottles : IsOfEdge plan e x.bottles) (own_tokens : IsOfEdge plan e x.bottle_tokens)
      (just : (k : ℕ) → k < length (bottles plan e) → Has needed k ↔ NeedsIn plan j ph (instrument_of plan e k)) where
    module _ (m : EdgeMoves) where
      one : Stage s (fork_gone plan s j e m) j e (edge_one m x)
      one = stage_one plan s j e m he hj

      three : Stage s (fork_asked_for plan s j e m) j e (edge_three m x)
      three = stage_three plan s j e m he hj

      -- the bottles that are kept
      is_kept : (k : ℕ) → k < length (bottles plan e) → Has (kept ph needed mine m.give_fork) k
          ↔ (NeedsIn plan j ph (instrument_of plan e k) × (IsDrinking ph ⊎ ((edge_one m x).fork ≡ here)))
      is_kept k l = at (has_instruments ph.drinking || is_at Higher (edge_one m mine).fork) refl where
        at : (b : Bool) → (has_instruments ph.drinking || is_at Higher (edge_one m mine).fork) ≡ b
            → Has (if has_instruments ph.drinking || is_at Higher (edge_one m mine).fork then needed else 0) k
            ↔ (NeedsIn plan j ph (instrument_of plan e k) × (IsDrinking ph ⊎ ((edge_one m x).fork ≡ here)))
        at true is =
            let same : needed ≡ (if has_instruments ph.drinking || is_at Higher (edge_one m mine).fork then needed else 0) = λ i. if sym is i then needed else 0 in
            let n = just k l in (
              λ h. (
                n.0 (subst (λ z. Has z k) (sym same) h),
                elim (either _ _ is) [ inl d ↦ inl (drinks ph d) | inr f ↦ inr ((fork_is_here plan e here x m.give_fork).0 (at_here Higher (edge_one m mine).fork f)) ],
              ),
              λ q. subst (λ z. Has z k) same (n.1 q.0),
            )
        at false is =
            let same : 0 ≡ (if has_instruments ph.drinking || is_at Higher (edge_one m mine).fork then needed else 0) = λ i. if sym is i then needed else 0 in
            let f = neither _ _ is in (
              λ h. absurd (has_none k (subst (λ z. Has z k) (sym same) h)),
              λ q. elim q.1 [ inl d ↦ absurd (drinks_not ph f.0 d) | inr at_fork ↦ absurd (false≢true (sym f.1 ∙ here_at Higher (edge_one m mine).fork ((fork_is_here plan e here x m.give_fork).1 at_fork))) ],
            )

      -- a bottle that may be given
      abbrev GiveAt : ℕ → Type 0
      GiveAt k = (bottle_end x.bottles k ≡ here) × (bottle_end x.bottle_tokens k ≡ here)
          × ¬ (NeedsIn plan j ph (instrument_of plan e k) × (IsDrinking ph ⊎ ((edge_one m x).fork ≡ here)))

      bottles_one : ((edge_one m x).bottles ≡ x.bottles) × ((edge_one m x).bottle_tokens ≡ x.bottle_tokens)
      bottles_one = at m.give_fork where
        at : (b : Bool) → ((when b fork_given x).bottles ≡ x.bottles) × ((when b fork_given x).bottle_tokens ≡ x.bottle_tokens)
        at true = (refl, refl)
        at false = (refl, refl)

      give_at : (k : ℕ) → MayGiveBottle plan (fork_gone plan s j e m) j e k ↔ GiveAt k
      give_at k = let t : State = fork_gone plan s j e m in let i = instrument_of plan e k in let n = needs_in t i one.phase_is in
          let set_is : (edge t e).bottles ≡ x.bottles = ap (λ (q : EdgeState). q.bottles) one.edge_is ∙ bottles_one.0 in
          let tokens_is : (edge t e).bottle_tokens ≡ x.bottle_tokens = ap (λ (q : EdgeState). q.bottle_tokens) one.edge_is ∙ bottles_one.1 in
          let fork_is : (edge t e).fork ≡ (edge_one m x).fork = ap (λ (q : EdgeState). q.fork) one.edge_is in (
            λ g. (
              sym (ap (λ z. bottle_end z k) set_is) ∙ g.bottle_here,
              sym (ap (λ z. bottle_end z k) tokens_is) ∙ g.token_here,
              λ q. g.not_kept (n.1 q.0, elim q.1 [ inl d ↦ inl (subst IsDrinking (sym one.phase_is) d) | inr f ↦ inr (fork_is ∙ f) ]),
            ),
            λ g. record {
              bottle_here = ap (λ z. bottle_end z k) set_is ∙ g.0;
              token_here = ap (λ z. bottle_end z k) tokens_is ∙ g.1;
              not_kept = λ q. g.2 (n.0 q.0, elim q.1 [ inl d ↦ inl (subst IsDrinking one.phase_is d) | inr f ↦ inr (sym fork_is ∙ f) ]);
            },
          )

      pub gifts_greatest : m.give_bottles ≡ gifts ph needed mine m.give_fork
          → IsGreatest plan e m.give_bottles (MayGiveBottle plan (fork_gone plan s j e m) j e)
      gifts_greatest is = subst (λ z. IsGreatest plan e z (MayGiveBottle plan (fork_gone plan s j e m) j e)) (sym is) (record {
        of_edge =
            without_fits (length (bottles plan e)) _ _ (and_lt (length (bottles plan e)) _ _
            (at_end_fits plan e here x own_bottles) (at_end_fits plan e here (record x { bottles = x.bottle_tokens }) own_tokens));
        just = λ k l. let w = has_without (bit_and mine.bottles mine.bottle_tokens) (kept ph needed mine m.give_fork) k in
            let a = has_and mine.bottles mine.bottle_tokens k in
            let p = at_end plan e here x k l in
            let t = at_end plan e here (record x { bottles = x.bottle_tokens }) k l in
            let q = is_kept k l in
            let g = give_at k in (
              λ h. let b = w.0 h in let c = a.0 b.0 in g.1 (p.0 c.0, t.0 c.1, λ z. b.1 (q.1 z)),
              λ h. let b = g.0 h in w.1 (a.1 (p.1 b.0, t.1 b.1), λ z. b.2 (q.0 z)),
            );
      })

      bottles_three : ((edge_three m x).bottles ≡ bit_xor x.bottles m.give_bottles) × ((edge_three m x).bottle_tokens ≡ x.bottle_tokens)
      bottles_three = at m.ask_fork where
        at : (b : Bool) → ((when b fork_asked (edge_two m x)).bottles ≡ bit_xor x.bottles m.give_bottles)
            × ((when b fork_asked (edge_two m x)).bottle_tokens ≡ x.bottle_tokens)
        at true = (ap (λ z. bit_xor z m.give_bottles) bottles_one.0, bottles_one.1)
        at false = (ap (λ z. bit_xor z m.give_bottles) bottles_one.0, bottles_one.1)

      -- the bottles that are left here
      left_here : (k : ℕ) → k < length (bottles plan e) → Has (bit_xor mine.bottles m.give_bottles) k ↔ (bottle_end (bit_xor x.bottles m.give_bottles) k ≡ here)
      left_here k l = let p = at_end plan e here (record x { bottles = bit_xor x.bottles m.give_bottles }) k l in
          let same = sent_from plan e here x m.give_bottles in (λ h. p.0 (subst (λ z. Has z k) same h), λ q. subst (λ z. Has z k) (sym same) (p.1 q))

      abbrev AskAt : ℕ → Type 0
      AskAt k = NeedsIn plan j ph (instrument_of plan e k) × (bottle_end (bit_xor x.bottles m.give_bottles) k ≢ here) × (bottle_end x.bottle_tokens k ≡ here)

      ask_at : (k : ℕ) → MayAskBottle plan (fork_asked_for plan s j e m) j e k ↔ AskAt k
      ask_at k = let t : State = fork_asked_for plan s j e m in let i = instrument_of plan e k in let n = needs_in t i three.phase_is in
          let set_is : (edge t e).bottles ≡ bit_xor x.bottles m.give_bottles = ap (λ (q : EdgeState). q.bottles) three.edge_is ∙ bottles_three.0 in
          let tokens_is : (edge t e).bottle_tokens ≡ x.bottle_tokens = ap (λ (q : EdgeState). q.bottle_tokens) three.edge_is ∙ bottles_three.1 in (
            λ a. (n.0 a.needed, (λ q. a.bottle_there (ap (λ z. bottle_end z k) set_is ∙ q)), sym (ap (λ z. bottle_end z k) tokens_is) ∙ a.token_here),
            λ a. record {
              needed = n.1 a.0;
              bottle_there = λ q. a.1 (sym (ap (λ z. bottle_end z k) set_is) ∙ q);
              token_here = ap (λ z. bottle_end z k) tokens_is ∙ a.2;
            },
          )

      pub wishes_greatest : m.ask_bottles ≡ wishes ph needed mine m.give_bottles
          → IsGreatest plan e m.ask_bottles (λ k. (drinking s j ≡ Thirsty) × MayAskBottle plan (fork_asked_for plan s j e m) j e k)
      wishes_greatest is = subst (λ z. IsGreatest plan e z (λ k. (drinking s j ≡ Thirsty) × MayAskBottle plan (fork_asked_for plan s j e m) j e k))
          (sym is) (at (is_thirsty ph.drinking) refl) where
            wanted : ℕ
            wanted = without (bit_and needed mine.bottle_tokens) (bit_xor mine.bottles m.give_bottles)

            P : ℕ → Type 0
            P = λ k. (drinking s j ≡ Thirsty) × MayAskBottle plan (fork_asked_for plan s j e m) j e k

            at : (b : Bool) → is_thirsty ph.drinking ≡ b → IsGreatest plan e (if is_thirsty ph.drinking then wanted else 0) P
            at true thirsty = subst (λ b. IsGreatest plan e (if b then wanted else 0) P) (sym thirsty) (record {
              of_edge = without_fits (length (bottles plan e)) _ _
                  (and_lt (length (bottles plan e)) _ _ fits (at_end_fits plan e here (record x { bottles = x.bottle_tokens }) own_tokens));
              just = λ k l. let w = has_without (bit_and needed mine.bottle_tokens) (bit_xor mine.bottles m.give_bottles) k in
                  let a = has_and needed mine.bottle_tokens k in
                  let p = left_here k l in
                  let t = at_end plan e here (record x { bottles = x.bottle_tokens }) k l in
                  let q = just k l in
                  let g = ask_at k in (
                    λ h. let b = w.0 h in let c = a.0 b.0 in (thirsts ph.drinking thirsty, g.1 (q.0 c.0, (λ z. b.1 (p.1 z)), t.0 c.1)),
                    λ h. let b = g.0 h.1 in w.1 (a.1 (q.1 b.0, t.1 b.2), λ z. b.1 (p.0 z)),
                  );
            })
            at false other = subst (λ b. IsGreatest plan e (if b then wanted else 0) P) (sym other) (record {
              of_edge = pow_pos (length (bottles plan e));
              just = λ k l. (λ h. absurd (has_none k h), λ h. absurd (false≢true (sym other ∙ ap is_thirsty h.0)));
            })
