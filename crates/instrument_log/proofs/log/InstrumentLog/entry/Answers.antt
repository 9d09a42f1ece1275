use Rattle.std.proofs.Common.{◌<◌, ◌∙◌, ap, length, subst, sym}
use Rattle.std.proofs.Math.ListN.{get_or-map}
use Rattle.instrument_log.specs.Entries.{IsWithinLimits, entry_of}
use Rattle.instrument_log.specs.InstrumentLog.{LogView}
use Rattle.instrument_log.proofs.log.InstrumentLog.entry.Goals as goal

pub returns-clause-within_limits : goal.returns-clause-within_limits
returns-clause-within_limits g c =
    let k = c.args.index in
    let inside = subst (λ (log : LogView). k < length log.entries) (sym c.self.view_is) c.requires in
    let read = get_or-map entry_of c.self.inside.packed.items k c.index.result.now ∙ ap entry_of (sym c.index.ensures) in
    subst IsWithinLimits (read ∙ sym c.spelled_by.ensures) (c.self.invariant.0.is_log.within_limits k (entry_of c.index.result.now) inside)
