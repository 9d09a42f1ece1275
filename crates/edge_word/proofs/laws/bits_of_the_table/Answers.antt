use Rattle.edge_word.proofs.TableLaw.{has_the_bits}
use Rattle.edge_word.proofs.laws.bits_of_the_table.Goals as goal

pub returns : goal.returns
returns c = has_the_bits
