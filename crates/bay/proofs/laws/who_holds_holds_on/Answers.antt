use Rattle.bay.proofs.Calls.{who_holds}
use Rattle.bay.proofs.EveryCall.{every_call}
use Rattle.bay.proofs.laws.who_holds_holds_on.Goals as goal

pub returns-clause-others : goal.returns-clause-others
returns-clause-others c = who_holds

pub returns-clause-calls : goal.returns-clause-calls
returns-clause-calls c = every_call
