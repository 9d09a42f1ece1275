use Rattle.std.proofs.Common.{ℕ, List, subst, ◌∙◌}
use Rattle.script_reader.specs.Script.{Refuses, text_lines}
use Rattle.bench_texts.proofs.script.lab_script.Goals as goal

pub returns-in-Err-read_plan-clause-fault : goal.returns-in-Err-read_plan-clause-fault
returns-in-Err-read_plan-clause-fault g c =
    let fault = c.in-Err-read_plan.fault in
    (fault, subst (λ (text : List ℕ). Refuses (text_lines text) fault) (c.deref.ensures.value ∙ c.in-Ok.ensures) c.in-Err-read_plan.ensures, c.at_origin.ensures)
