use Rattle.std.proofs.Common.{arith, sym, ◌∙◌}
use Rattle.lab_plan.specs.InstrumentSets.{both_in}
use Rattle.lab_plan.proofs.Ranges.{any_found}
use Rattle.lab_plan.proofs.instrument_set.InstrumentSet.meets.Goals as goal

pub returns-then-both_hold : goal.returns-then-both_hold
returns-then-both_hold c =
    any_found (both_in c.args.self c.args.other) c.args.instruments c.loop-i.i (omega arith) (sym c.both_hold.ensures ∙ c.if-both_hold.true)
