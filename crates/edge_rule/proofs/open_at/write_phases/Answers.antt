use Rattle.std.proofs.Common.{◌≡◌, ℕ, length, subst, arith}
use Rattle.edge_rule.specs.Standing.{AreWordsOf}
use Rattle.edge_rule.proofs.StoodWords.{phase_word_more, read_at, few_at, word_at}
use Rattle.edge_rule.proofs.open_at.write_phases.Goals as goal

pub loop-job-init : goal.loop-job-init
loop-job-init g c = record { edges_written = c.requires.edges; phases_written = λ j k l. absurd (omega arith) }

pub packed_phase-requires : goal.packed_phase-requires
packed_phase-requires g c =
    few_at c.args.known.now c.loop-job.job c.index-known-job.result c.index-known-job.is
    (c.requires.few c.loop-job.job c.index-known-job.result
    (read_at c.args.known.now c.loop-job.job c.index-known-job.result
    (let n = c.jobs-job-end.ensures.jobs in let l = c.loop-job-test.true in let m = c.requires.one_each in omega arith) c.index-known-job.is))

pub loop-job-preserved : goal.loop-job-preserved
loop-job-preserved g c =
    let n = c.jobs-job-end.ensures.jobs in
    let l = c.loop-job-test.true in
    let m = c.requires.one_each in
    phase_word_more c.args.plan.now c.args.there.now c.args.known.now c.loop-job.job c.phase_place-place.result c.packed_phase.result c.index-known-job.result
    c.loop-job.words.items (omega arith) c.phase_place-place.ensures
    (read_at c.args.known.now c.loop-job.job c.index-known-job.result (omega arith) c.index-known-job.is)
    (word_at c.args.known.now c.loop-job.job c.packed_phase.result c.index-known-job.result c.index-known-job.is c.packed_phase.ensures) c.loop-job.invariant

pub returns : goal.returns
returns g c =
    let n = c.jobs-job-end.ensures.jobs in
    let a = c.loop-job.auto.job-end in
    let t = c.loop-job-test.false in
    let all : c.loop-job.job ≡ length c.args.plan.now.jobs = omega arith in
    subst (λ (z : ℕ). AreWordsOf c.args.plan.now c.args.there.now c.args.known.now z c.loop-job.words.items) all c.loop-job.invariant
