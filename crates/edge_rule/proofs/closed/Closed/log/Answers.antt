use Rattle.std.proofs.Common.{subst}
use Rattle.edge_rule.specs.ClosedView.{ClosedView}
use Rattle.edge_rule.specs.Ending.{HasLegalLogs}
use Rattle.edge_rule.proofs.ClosedWords.{log_there, log_read}
use Rattle.edge_rule.proofs.closed.Closed.log.Goals as goal

pub get-requires : goal.get-requires
get-requires g0 c = log_there c.self.inside _ c.self.view_is c.self.invariant c.args.instrument c.instrument.inside.0 c.instrument.view_is c.requires

pub returns-clause-log : goal.returns-clause-log
returns-clause-log g0 c = log_read c.self.inside _ c.self.view_is c.self.invariant c.args.instrument c.instrument.inside.0 _ c.instrument.view_is c.requires c.get.ensures

pub returns-clause-legal : goal.returns-clause-legal
returns-clause-legal g0 c = subst (λ (v : ClosedView). HasLegalLogs v.plan v) c.self.view_is c.self.invariant.legal_logs
