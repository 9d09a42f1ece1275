use Rattle.script_reader.specs.Script.{text_lines}
use Rattle.script_reader.proofs.OneMeaning.{plans, apart, one_fault}
use Rattle.script_reader.proofs.laws.one_meaning.Goals as goal

pub returns : goal.returns
returns c =
    record {
      plan = λ text p q. plans (text_lines text) p q;
      either = λ text p n cause. apart (text_lines text) p n cause;
      fault = λ text m n cause other. one_fault (text_lines text) m n cause other;
    }
