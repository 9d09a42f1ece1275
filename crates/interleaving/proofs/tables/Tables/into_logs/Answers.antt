use Rattle.std.proofs.Common.{◌∙◌, length, refl, ap, arith}
use Rattle.legal_steps.specs.State.{Setting}
use Rattle.interleaving.proofs.LogLemmas.{logs_wide, log_read}
use Rattle.interleaving.proofs.tables.Tables.into_logs.Goals as goal

pub returns-clause-there : goal.returns-clause-there
returns-clause-there g c =
    logs_wide c.self.inside.logs.items ∙ (c.self.invariant.fits.logs_there ∙ ap (λ (x : Setting). length x.plan.instruments) c.self.view_is)

pub returns-clause-logs : goal.returns-clause-logs
returns-clause-logs g c =
    λ i inside. log_read _ c.self.inside.plan c.self.inside.edges.items c.self.inside.seats.items c.self.inside.logs.items i i _
    c.self.view_is c.self.invariant.rooms
    (let n = logs_wide c.self.inside.logs.items in let m = c.self.invariant.fits.logs_there in
    let same = ap (λ (x : Setting). length x.plan.instruments) c.self.view_is in omega arith) refl refl
