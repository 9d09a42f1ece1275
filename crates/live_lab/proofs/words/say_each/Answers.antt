use Rattle.std.proofs.Common.{◌≡◌, ℕ, ◌+◌, ◌≤◌, [], ◌∷◌, length, sym, ap, ◌∙◌, subst, arith}
use Rattle.std.specs.List.{count_by}
use Rattle.lab_plan.specs.LabPlan.{LabPlan}
use Rattle.legal_steps.specs.declared.event.Event.{Event}
use Rattle.legal_steps.specs.State.{Has}
use Rattle.legal_steps.specs.Legal.{IsJob, May}
use Rattle.interleaving.specs.World.{WorldView, LeadsTo}
use Rattle.settling.specs.Left.{DueView, AreMarked, IsBySelf, KeepsMarks}
use Rattle.settling.proofs.Waking.{marked_on}
use Rattle.reasons.specs.Deeds.{is_deed}
use Rattle.live_lab.specs.Sets.{events_below}
use Rattle.live_lab.specs.Doing.{said}
use Rattle.live_lab.proofs.Bits.{holds_has}
use Rattle.live_lab.proofs.Sayings.{said_self, still_may, one_said, one_deed, one_passed, no_deed}
use Rattle.live_lab.proofs.words.say_each.Goals as goal
use Rattle.live_lab.proofs.words.say_each.Goals.{then-has, else-has}

pub step-requires : goal.step-requires
step-requires g c =
    let l = c.loop-job in
    let job : IsJob c.args.world.now.plan l.job = omega (arith, c.loop-job-test.true, c.jobs-job-end.ensures.jobs, ap (λ (p : LabPlan). length p.jobs) c.plan.ensures.plan) in
    subst (May l.world.plan l.world.state) (sym c.said.ensures)
    (l.invariant.1 l.job (omega arith) job (holds_has c.args.set l.job (sym c.has.ensures ∙ c.if-has.true)))

pub loop-job-preserved : goal.loop-job-preserved
loop-job-preserved g c =
    let l = c.loop-job in let n = l.job in let old = c.args.world.now in let word = c.args.word in let set = c.args.set in
    elim c.if-has.branch [
      | then-has b ↦
          let new = b.step.new.world in let has = sym c.has.ensures ∙ b.if-has.true in
          let one : LeadsTo l.world (said word n ∷ []) new = subst (λ (x : Event). LeadsTo l.world (x ∷ []) new) b.said.ensures b.step.ensures in
          let keeps = b.wake_self.ensures.keeps in
          let marked : AreMarked new.plan new.state b.wake_self.new.due = marked_on l.world new (said word n ∷ []) (IsBySelf n) l.due b.wake_self.new.due one (said_self word n, tt)
          (subst (λ (p : LabPlan). KeepsMarks p (IsBySelf n) l.due b.wake_self.new.due) b.plan-then-has.ensures.plan keeps) l.invariant.2 in
          let done : (LeadsTo old (events_below (said word) set (n + 1)) new)
          × ((k : ℕ) → n + 1 ≤ k → IsJob old.plan k → Has set k → May new.plan new.state (said word k))
          × (l.many + 1 ≡ count_by is_deed (events_below (said word) set (n + 1))) = (
            one_said old l.world new word set n has l.invariant.0 one,
            λ k above job mem. still_may l.world new word n k (λ is. omega (arith, above, is)) one (l.invariant.1 k (omega (arith, above)) job mem),
            one_deed word set n l.many has l.invariant.3,
          ) in (
            subst (λ (w : WorldView). LeadsTo old (events_below (said word) set (n + 1)) w) (sym b.world-is) done.0,
            subst (λ (w : WorldView). (k : ℕ) → n + 1 ≤ k → IsJob old.plan k → Has set k → May w.plan w.state (said word k)) (sym b.world-is) done.1,
            subst (λ (z : WorldView × DueView). AreMarked z.0.plan z.0.state z.1) (λ i. (sym b.world-is i, sym b.due-is i)) marked,
            b.many-is ∙ done.2,
            omega (arith, b.many-is, l.invariant.4),
          )
      | else-has b ↦
          let out = sym c.has.ensures ∙ b.if-has.false in (
            subst (λ (w : WorldView). LeadsTo old (events_below (said word) set (n + 1)) w) (sym b.world-is) (one_passed old l.world word set n out l.invariant.0),
            subst (λ (w : WorldView). (k : ℕ) → n + 1 ≤ k → IsJob old.plan k → Has set k → May w.plan w.state (said word k)) (sym b.world-is)
                (λ k above job mem. l.invariant.1 k (omega (arith, above)) job mem),
            subst (λ (z : WorldView × DueView). AreMarked z.0.plan z.0.state z.1) (λ i. (sym b.world-is i, sym b.due-is i)) l.invariant.2,
            b.many-is ∙ no_deed word set n l.many out l.invariant.3,
            omega (arith, b.many-is, l.invariant.4),
          )
    ]
