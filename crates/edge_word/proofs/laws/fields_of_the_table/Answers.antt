use Rattle.edge_word.proofs.TableLaw.{has_the_fields}
use Rattle.edge_word.proofs.laws.fields_of_the_table.Goals as goal

pub returns : goal.returns
returns c = has_the_fields
