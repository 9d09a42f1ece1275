use Rattle.std.proofs.Common.{◌≡◌, ℕ, ◌<◌, length, ap, ◌∙◌, subst}
use Rattle.legal_steps.specs.WholeLogs.{log_with_room}
use Rattle.interleaving.specs.Rooms.{log_at}
use Rattle.interleaving.specs.World.{WorldView}
use Rattle.interleaving.proofs.world.World.into_logs.Goals as goal

pub returns-clause-there : goal.returns-clause-there
returns-clause-there g c = c.into_logs.ensures.there ∙ ap (λ (w : WorldView). length w.plan.instruments) c.self.view_is

pub returns-clause-logs : goal.returns-clause-logs
returns-clause-logs g c =
    subst (λ (w : WorldView). (i : ℕ) → i < length w.plan.instruments → log_at c.into_logs.result.items i ≡ log_with_room w.plan w.state i)
    c.self.view_is c.into_logs.ensures.logs

pub returns-clause-past : goal.returns-clause-past
returns-clause-past g c = ap (λ (w : WorldView). w.past) c.self.view_is
