use Rattle.std.proofs.Common.{◌<◌, ℕ, length, List, [], ◌∷◌, false, sym, ◌∙◌, ap, subst, set}
use Rattle.std.specs.Prelude.{reverse}
use Rattle.std.proofs.lemmas.List.{reverse-append}
use Rattle.cycles.specs.Peeling.{IsLeft, IsSinkLeft, EachLeadsOn}
use Rattle.cycles.specs.Rankings.{IsRanking}
use Rattle.cycles.proofs.Ranked.{RanksOut, ranks_none, takes_out, ranks_every}
use Rattle.cycles.proofs.Fewer.{fewer_left}
use Rattle.cycles.proofs.ranks.ranking.Goals as goal

pub loop-job-init : goal.loop-job-init
loop-job-init g c = ranks_none c.args.jobs c.args.pairs.now c.in_ok-left.left.items c.new-order.result.items
    (c.in_ok-left.ensures.items_if_clones_equal (λ copy e. e)) c.new-order.ensures.items

pub loop-job-smaller : goal.loop-job-smaller
loop-job-smaller g c = fewer_left c.loop-job.left.items c.in-Some.job
    (subst (λ left. IsLeft left c.in-Some.job) c.deref.ensures.value c.in-Some.ensures.found.is_left)

pub loop-job-preserved : goal.loop-job-preserved
loop-job-preserved g c =
    let value = c.deref.ensures.value in
    let turned = ap (λ (jobs : List ℕ). reverse jobs) c.in_ok-push.ensures.items ∙ reverse-append c.loop-job.order.items (c.in-Some.job ∷ []) in
    subst (λ order. RanksOut c.args.jobs c.args.pairs.now (set c.loop-job.left.items c.in-Some.job false) order) (sym turned)
    (takes_out c.args.jobs c.args.pairs.now c.loop-job.left.items (reverse c.loop-job.order.items) c.in-Some.job
    (subst (λ left. c.in-Some.job < length left) value c.in-Some.ensures.within)
    (subst (λ left. IsSinkLeft c.args.pairs.now left c.in-Some.job) value c.in-Some.ensures.found) c.loop-job.invariant)

pub returns : goal.returns
returns g c =
    subst (λ order. IsRanking c.args.jobs c.args.pairs.now order) (sym c.reverse.ensures.items)
    (ranks_every c.args.jobs c.args.pairs.now c.loop-job.left.items (reverse c.loop-job.order.items) c.requires.acyclic
    (subst (λ left. EachLeadsOn c.args.pairs.now left) c.deref.ensures.value c.in_default.ensures.found) c.loop-job.invariant)
