use Rattle.std.proofs.Common.{ℕ, List, take, sym, ap, subst, ◌∙◌, arith, Option}
use Rattle.bay_log.specs.declared.line.Entry.{Entry}
use Rattle.bay_log.specs.declared.line.Line.{Line}
use Rattle.bay_log.specs.declared.alive.Holder.{Holder}
use Rattle.bay_log.specs.Alive.{after, alive}
use Rattle.bay_log.specs.Holders.{AreHolders}
use Rattle.bay_log.proofs.Entries.{taken_holders, alive_more}
use Rattle.bay_log.proofs.alive.holders.Goals as goal

pub loop-line-preserved : goal.loop-line-preserved
loop-line-preserved c =
    let lines : List Line = c.args.lines.now in
    let line : Line = c.line-item.result in
    let more = alive_more lines c.loop-line.line-index line (omega arith) in
    subst (λ (h : ℕ → Option Entry). AreHolders c.take.new.holders.items h) (sym (more ∙ ap (after (alive (take c.loop-line.line-index lines))) (sym c.line-item.is)))
    (subst (λ (hs : List Holder). AreHolders hs (after (alive (take c.loop-line.line-index lines)) line)) (sym c.in_ok-take.ensures)
    (taken_holders c.loop-line.found.items (alive (take c.loop-line.line-index lines)) line c.loop-line.invariant))
