use Rattle.std.proofs.Common.{refl}
use Rattle.lab_program.specs.declared.faults.RunFault.TheVariants.{NoMemory}
use Rattle.bench_calls.proofs.journals.opened_kept.Goals as goal

pub returns-in-Ok-clause-refused : goal.returns-in-Ok-clause-refused
returns-in-Ok-clause-refused c = (NoMemory, (NoMemory, tt, refl), c.fail.ensures.status, c.fail.ensures.told)
