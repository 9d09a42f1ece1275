use Rattle.std.proofs.Common.{sym, subst}
use Rattle.bench_calls.specs.Openings.{IsWhyNotFor}
use Rattle.bench_calls.proofs.Whys.{why_not}
use Rattle.bench_calls.proofs.for_text.script.Goals as goal

pub returns-in-Err-clause-refused : goal.returns-in-Err-clause-refused
returns-in-Err-clause-refused c =
    subst (IsWhyNotFor c.args.text.now) (sym c.fault_of.ensures) (why_not c.args.text.now c.in-Err.why c.in-Err.ensures.fault)
