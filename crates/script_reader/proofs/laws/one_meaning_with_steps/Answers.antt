use Rattle.script_reader.proofs.OneList.{one_list, list_or_fault, one_step_fault}
use Rattle.script_reader.proofs.laws.one_meaning_with_steps.Goals as goal

pub returns : goal.returns
returns c = record { list = one_list; either = list_or_fault; fault = one_step_fault }
