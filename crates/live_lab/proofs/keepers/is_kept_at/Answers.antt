use Rattle.std.proofs.Common.{◌∙◌, sym}
use Rattle.std.proofs.lemmas.Bool.{false≢true}
use Rattle.live_lab.specs.Keepers.{IsKept}
use Rattle.live_lab.proofs.Tests.{none_more}
use Rattle.live_lab.proofs.keepers.is_kept_at.Goals as goal

pub loop-bottle-preserved : goal.loop-bottle-preserved
loop-bottle-preserved g c =
    let w = c.args.world.now in
    none_more (IsKept w.plan w.state c.args.job c.args.instrument c.args.other c.args.edge) c.loop-bottle.bottle c.loop-bottle.invariant
    (λ q. false≢true (sym c.if-is_kept.false ∙ c.is_kept.ensures.1 q))
