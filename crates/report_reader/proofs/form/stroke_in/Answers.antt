use Rattle.std.specs.Prelude.{◌==◌}
use Rattle.report_reader.proofs.Cuts.{position_is}
use Rattle.report_reader.proofs.form.stroke_in.Goals as goal

pub returns-clause-stroke : goal.returns-clause-stroke
returns-clause-stroke c = position_is (λ b. b == 47) c.args.word.now c.find_byte.result c.find_byte.ensures
