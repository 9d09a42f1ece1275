-- Moves that are due are legal, one after another.
use Rattle.std.proofs.Common.{◌≡◌, ◌≢◌, ℕ, ◌<◌, Bool, true, false, not, ◌==◌, List, length, arith, refl, sym, ap, ◌∙◌}
use Rattle.std.proofs.lemmas.Bool.{false≢true}
use Rattle.std.proofs.lemmas.Bool.Decides.{nat_tests}
use Rattle.lab_plan.specs.LabPlan.{LabPlan, bottles}
use Rattle.legal_steps.specs.declared.event.Event.{Event}
use Rattle.legal_steps.specs.declared.event.Event.TheVariants.{AskFork, GiveFork, Soil, AskBottles, GiveBottles}
use Rattle.legal_steps.specs.declared.phase.Drinking.{Drinking}
use Rattle.legal_steps.specs.declared.phase.Drinking.TheVariants.{Tranquil, Thirsty, Drinking as Drinks, Reaching, Retired}
use Rattle.legal_steps.specs.declared.phase.JobState.{JobState}
use Rattle.legal_steps.specs.State.{State, IsOwn, drinking}
use Rattle.legal_steps.specs.Legal.{May}
use Rattle.legal_steps.specs.Run.{IsLegalFrom}
use Rattle.edge_word.specs.declared.moves.EdgeMoves.{EdgeMoves}
use Rattle.edge_word.specs.Moves.{on, events_of}
use Rattle.turns.specs.Due.{after_if, fork_gone, bottles_gone, fork_asked_for, all_asked_for, AreForkMoves, AreDue, WithBottles}
use Rattle.turns.specs.Laws.{DueIsLegal}
use Rattle.turns.specs.Patience.{is_waiting}
use Rattle.legal_steps.proofs.BottleSets.{member_below, empty_set}
use Rattle.turns.proofs.Stages.{stage_three}
use Rattle.turns.proofs.ForkGuards.{same_forks}

legal_on : (plan : LabPlan) (s : State) (b : Bool) (event : Event) (rest : List Event) → (b ≡ true → May plan s event)
    → IsLegalFrom plan (after_if plan b event s) rest → IsLegalFrom plan s (on b event rest)
legal_on plan s false event rest may h = h
legal_on plan s true event rest may h = (may refl, h)

some : (set : ℕ) → not (set == 0) ≡ true → set ≢ 0
some set h = grind (arith, nat_tests)

module _ (plan : LabPlan) (s : State) (j e : ℕ) (he : e < length s.edges) (hj : j < length s.seats) where
  pub due_all : (m r : EdgeMoves) → AreForkMoves plan s j e m → WithBottles plan s j e m r → AreDue plan s j e r
  due_all m r forks with_them = record {
    forks = same_forks plan j e s m r he hj with_them.give_fork with_them.ask_fork with_them.soil forks;
    bottles = with_them.bottles;
  }

  module _ (own : IsOwn plan j e) (m : EdgeMoves) (due : AreDue plan s j e m) where
    may_give : not (m.give_bottles == 0) ≡ true → May plan (fork_gone plan s j e m) (GiveBottles j e m.give_bottles)
    may_give h = let g = due.bottles.give_bottles in (
      own,
      record { not_empty = some m.give_bottles h; of_edge = g.of_edge },
      λ k member. (g.just k (member_below m.give_bottles (length (bottles plan e)) k g.of_edge member)).0 member,
    )

    thirsts : (b : Bool) → is_waiting (drinking s j) ≡ b → m.ask_bottles ≢ 0 → drinking s j ≡ Thirsty
    thirsts true is other = at (drinking s j) is where
      at : (d : Drinking) → is_waiting d ≡ true → d ≡ Thirsty
      at Thirsty h = refl
      at Tranquil h = absurd (false≢true h)
      at Drinks h = absurd (false≢true h)
      at Reaching h = absurd (false≢true h)
      at Retired h = absurd (false≢true h)
    thirsts false is other = let a = due.bottles.ask_bottles in
        absurd (other (empty_set (length (bottles plan e)) m.ask_bottles a.of_edge (λ k l member. false≢true (sym is
        ∙ ap is_waiting ((a.just k l).0 member).0))))

    may_ask : not (m.ask_bottles == 0) ≡ true → May plan (fork_asked_for plan s j e m) (AskBottles j e m.ask_bottles)
    may_ask h = let a = due.bottles.ask_bottles in let t = stage_three plan s j e m he hj in (
      own,
      ap (λ (x : JobState). x.drinking) t.phase_is ∙ thirsts (is_waiting (drinking s j)) refl (some m.ask_bottles h),
      record { not_empty = some m.ask_bottles h; of_edge = a.of_edge },
      λ k member. ((a.just k (member_below m.ask_bottles (length (bottles plan e)) k a.of_edge member)).0 member).1,
    )

    pub due_legal : IsLegalFrom plan s (events_of m j e)
    due_legal = legal_on plan s m.give_fork (GiveFork j e) _ due.forks.give_fork.0
        (legal_on plan (fork_gone plan s j e m) (not (m.give_bottles == 0)) (GiveBottles j e m.give_bottles) _ may_give
        (legal_on plan (bottles_gone plan s j e m) m.ask_fork (AskFork j e) _ due.forks.ask_fork.0
        (legal_on plan (fork_asked_for plan s j e m) (not (m.ask_bottles == 0)) (AskBottles j e m.ask_bottles) _ may_ask
        (legal_on plan (all_asked_for plan s j e m) m.soil (Soil j e) _ due.forks.soil.0 tt))))

pub due_is_legal : DueIsLegal
due_is_legal = λ plan s j e m he hj own due. due_legal plan s j e he hj own m due
