-- A group of moves is legal where its moves of the fork and its sets of bottles are, each after the moves before it.
use Rattle.std.proofs.Common.{◌≡◌, ◌≢◌, ◌↔◌, ℕ, ◌<◌, Bool, true, false, not, ◌==◌, IsTrue, nat_eq, bit_and, List, [], length, arith, refl, sym, ap, ◌∙◌, subst, inl, inr}
use Rattle.std.proofs.lemmas.Bool.{false≢true, cases_eq, eq-eqb}
use Rattle.std.proofs.lemmas.Bool.Decides.{nat_tests}
use Rattle.std.specs.Int.Bits.{and_zero_l}
use Rattle.lab_plan.specs.LabPlan.{LabPlan}
use Rattle.legal_steps.specs.declared.event.Event.{Event}
use Rattle.legal_steps.specs.declared.event.Event.TheVariants.{AskFork, GiveFork, Soil, AskBottles, GiveBottles}
use Rattle.legal_steps.specs.declared.phase.Drinking.{Drinking}
use Rattle.legal_steps.specs.declared.phase.Drinking.TheVariants.{Thirsty}
use Rattle.legal_steps.specs.State.{State, IsOwn, edge, dining, drinking, end_of}
use Rattle.legal_steps.specs.Legal.{May, MayGiveBottle, MayAskBottle}
use Rattle.legal_steps.specs.Run.{IsLegalFrom}
use Rattle.edge_word.specs.declared.moves.EdgeMoves.{EdgeMoves}
use Rattle.edge_word.specs.Moves.{on, events_of}
use Rattle.turns.specs.Due.{after_if, fork_gone, bottles_gone, fork_asked_for, all_asked_for, IsGreatest}
use Rattle.turns.proofs.ForkGuards.{ask_at, soil_at}
use Rattle.turns.proofs.Stages.{stage_three}
use Rattle.drinking_layer.specs.Exchanging.{MayMoveFork, MayMoveBottles, AreForkMovesLegal}
use Rattle.drinking_layer.proofs.Subsets.{may_give, may_ask}

legal_on : (plan : LabPlan) (b : Bool) (event : Event) (rest : List Event) (s : State)
    → IsLegalFrom plan s (on b event rest) ↔ ((b ≡ true → May plan s event) × IsLegalFrom plan (after_if plan b event s) rest)
legal_on plan true event rest s = (λ l. ((λ t. l.0), l.1), λ q. (q.0 refl, q.1))
legal_on plan false event rest s = (λ l. ((λ t. absurd (false≢true t)), l), λ q. q.1)

some_set : (set : ℕ) → not (set == 0) ≡ true → set ≢ 0
some_set set h none = false≢true (ap (λ z. not (z == 0)) (sym none) ∙ h)

set_some : (set : ℕ) → set ≢ 0 → not (set == 0) ≡ true
set_some set some = let f : (set == 0) ≡ false = grind (arith, nat_tests) in rw f refl

-- the empty set is part of every set
none_part : (set all : ℕ) → set ≡ 0 → IsTrue (nat_eq (bit_and set all) set)
none_part set all none = eq-eqb (bit_and set all) set (ap (λ z. bit_and z all) none ∙ (and_zero_l all ∙ sym none))

module _ (plan : LabPlan) (s : State) (j e : ℕ) (m : EdgeMoves) where
  -- the events from each move on
  abbrev five : List Event
  five = on m.soil (Soil j e) []

  abbrev four : List Event
  four = on (not (m.ask_bottles == 0)) (AskBottles j e m.ask_bottles) five

  abbrev three : List Event
  three = on m.ask_fork (AskFork j e) four

  abbrev two : List Event
  two = on (not (m.give_bottles == 0)) (GiveBottles j e m.give_bottles) three

  pub legal_moves : IsLegalFrom plan s (events_of m j e) ↔ (MayMoveFork plan s j e m × MayMoveBottles plan s j e m)
  legal_moves =
      let a = legal_on plan m.give_fork (GiveFork j e) two s in
      let b = legal_on plan (not (m.give_bottles == 0)) (GiveBottles j e m.give_bottles) three (fork_gone plan s j e m) in
      let c = legal_on plan m.ask_fork (AskFork j e) four (bottles_gone plan s j e m) in
      let d = legal_on plan (not (m.ask_bottles == 0)) (AskBottles j e m.ask_bottles) five (fork_asked_for plan s j e m) in
      let f = legal_on plan m.soil (Soil j e) [] (all_asked_for plan s j e m) in (
        λ l. let a1 = a.0 l in let b1 = b.0 a1.1 in let c1 = c.0 b1.1 in let d1 = d.0 c1.1 in let f1 = f.0 d1.1 in
            ((a1.0, c1.0, f1.0), (b1.0, d1.0)),
        λ q. a.1 (q.0.0, b.1 (q.1.0, c.1 (q.0.1, d.1 (q.1.1, f.1 (q.0.2, tt))))),
      )

  pub fork_moves : e < length s.edges → j < length s.seats → IsOwn plan j e
      → AreForkMovesLegal (dining s j) (end_of plan j e) (edge s e) m ↔ MayMoveFork plan s j e m
  fork_moves he hj own = let ask = ask_at plan j e s m he hj in let soil = soil_at plan j e s m he hj in (
    λ f. (
      λ t. let g = f.0 t in (own, g.0, g.1, g.2, g.3),
      λ t. let w = f.1 t in ask.1 (own, w.0, w.1, w.2),
      λ t. let w = f.2 t in soil.1 (own, w.0, w.1, w.2),
    ),
    λ may. (
      λ t. let g = may.0 t in (g.1, g.2, g.3, g.4),
      λ t. let w = ask.0 (may.1 t) in (w.1, w.2, w.3),
      λ t. let w = soil.0 (may.2 t) in (w.1, w.2, w.3),
    ),
  )

  module _ (all : ℕ) where
    gives : (t : State) (set : ℕ) → IsOwn plan j e → IsGreatest plan e all (MayGiveBottle plan t j e)
        → IsTrue (nat_eq (bit_and set all) set) ↔ (not (set == 0) ≡ true → May plan t (GiveBottles j e set))
    gives t set own g = (
      λ part some. (may_give plan t j e set all own g (some_set set some)).0 part,
      λ may. elim (cases_eq set 0) [
        | inl none ↦ none_part set all none
        | inr some ↦ (may_give plan t j e set all own g some).1 (may (set_some set some))
      ],
    )

    asks : (t : State) (set : ℕ) → IsOwn plan j e → IsGreatest plan e all (λ k. (drinking t j ≡ Thirsty) × MayAskBottle plan t j e k)
        → IsTrue (nat_eq (bit_and set all) set) ↔ (not (set == 0) ≡ true → May plan t (AskBottles j e set))
    asks t set own g = (
      λ part some. (may_ask plan t j e set all own g (some_set set some)).0 part,
      λ may. elim (cases_eq set 0) [
        | inl none ↦ none_part set all none
        | inr some ↦ (may_ask plan t j e set all own g some).1 (may (set_some set some))
      ],
    )

  pub gifts_part : (all : ℕ) → IsOwn plan j e → IsGreatest plan e all (MayGiveBottle plan (fork_gone plan s j e m) j e)
      → IsTrue (nat_eq (bit_and m.give_bottles all) m.give_bottles)
      ↔ (not (m.give_bottles == 0) ≡ true → May plan (fork_gone plan s j e m) (GiveBottles j e m.give_bottles))
  gifts_part all own g = gives all (fork_gone plan s j e m) m.give_bottles own g

  pub wishes_part : (all : ℕ) → e < length s.edges → j < length s.seats → IsOwn plan j e
      → IsGreatest plan e all (λ k. (drinking s j ≡ Thirsty) × MayAskBottle plan (fork_asked_for plan s j e m) j e k)
      → IsTrue (nat_eq (bit_and m.ask_bottles all) m.ask_bottles)
      ↔ (not (m.ask_bottles == 0) ≡ true → May plan (fork_asked_for plan s j e m) (AskBottles j e m.ask_bottles))
  wishes_part all he hj own g =
      let same : drinking s j ≡ drinking (fork_asked_for plan s j e m) j = sym (ap (λ z. z.drinking) (stage_three plan s j e m he hj).phase_is) in
      asks all (fork_asked_for plan s j e m) m.ask_bottles own
      (subst (λ (q : Drinking). IsGreatest plan e all (λ k. (q ≡ Thirsty) × MayAskBottle plan (fork_asked_for plan s j e m) j e k)) same g)
