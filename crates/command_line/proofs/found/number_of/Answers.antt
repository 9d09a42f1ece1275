use Rattle.std.specs.Str.Parse.{ExplainsUnsignedError, HasUnsignedDigitsIfOk, ParsesUnsigned}
use Rattle.clap.specs.Words.{found_of}
use Rattle.command_line.proofs.Numbers.{number_is}
use Rattle.command_line.proofs.found.number_of.Goals as goal

pub returns : goal.returns
returns c =
    number_is _ (λ u r. ParsesUnsigned 32 10 u r × ExplainsUnsignedError 10 u r × HasUnsignedDigitsIfOk u r) (λ u x g. g.0)
    (found_of c.args.matches.now) c.args.id.now c.get_one.result c.get_one.ensures.none c.get_one.ensures.value
