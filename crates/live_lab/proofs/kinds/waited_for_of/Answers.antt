use Rattle.std.proofs.Common.{◌≡◌, ◌+◌, ◌<◌, ◌≤◌, ℕ, length, ap, ◌∙◌, sym, subst, arith}
use Rattle.std.proofs.lemmas.Bool.{false≢true}
use Rattle.lab_plan.specs.LabPlan.{LabPlan}
use Rattle.lab_plan.proofs.Gathered.{Gathered, gathered_in, gathered_out}
use Rattle.live_lab.specs.Kinds.{IsOf}
use Rattle.live_lab.proofs.Bits.{lacks}
use Rattle.live_lab.proofs.Passed.{still_gathered, none_gathered, as_jobs}
use Rattle.live_lab.proofs.kinds.waited_for_of.Goals as goal
use Rattle.live_lab.proofs.kinds.waited_for_of.Goals.{then-is_of, else-is_of}

pub loop-job-init : goal.loop-job-init
loop-job-init g c =
    let P : ℕ → Type 0 = λ k. IsOf c.args.kind c.args.waiting c.args.clocks.now c.args.world.now k in let next = c.next_of-job.ensures in
    (still_gathered 0 0 c.next_of-job.result P next.low (λ k low under p. lacks c.args.waiting k (next.passed k low under) (c.requires.only k p)) (none_gathered P), next.high)

pub loop-job-preserved : goal.loop-job-preserved
loop-job-preserved g c =
    let l = c.loop-job in let n = l.job in let next = c.next_of-job-in-loop-job.ensures in let m = c.next_of-job-in-loop-job.result in
    let P : ℕ → Type 0 = λ k. IsOf c.args.kind c.args.waiting c.args.clocks.now c.args.world.now k in
    let most : length c.plan.result.now.jobs ≤ 32 = c.jobs-jobs.ensures.plan.draft.few_jobs in
    let few : n < 32 = let a = c.jobs-jobs.ensures.jobs in let b = c.loop-job-test.true in omega (arith, most, a, b) in
    let on : (z : ℕ) → Gathered z (n + 1) P → Gathered z m P = λ z. still_gathered z (n + 1) m P next.low
    (λ k low under p. lacks c.args.waiting k (next.passed k low under) (c.requires.only k p)) in
    elim c.if-is_of.branch [
      | then-is_of b ↦ (subst (λ z. Gathered z m P) (sym b.set-is) (on _ (gathered_in l.set n P few l.invariant.0 (c.is_of.ensures.0 b.if-is_of.true))), next.high)
      | else-is_of b ↦ (
        subst (λ z. Gathered z m P) (sym b.set-is) (on _ (gathered_out l.set n P l.invariant.0
            (λ p. false≢true (sym b.if-is_of.false ∙ c.is_of.ensures.1 p)))),
        next.high,
      )
    ]

pub returns : goal.returns
returns g c =
    let l = c.loop-job in let P : ℕ → Type 0 = λ k. IsOf c.args.kind c.args.waiting c.args.clocks.now c.args.world.now k in
    let all : l.job ≡ length c.args.world.now.plan.jobs =
    let a = l.invariant.1 in let b = c.loop-job-test.false in let d = c.jobs-jobs.ensures.jobs in
    let e = ap (λ (p : LabPlan). length p.jobs) c.plan.ensures.plan in omega (arith, a, b, d, e) in
    let is : Gathered l.set (length c.args.world.now.plan.jobs) P = subst (λ n. Gathered l.set n P) all l.invariant.0 in
    as_jobs c.args.world.now.plan l.set P is
