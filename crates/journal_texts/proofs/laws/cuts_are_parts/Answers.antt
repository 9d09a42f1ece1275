use Rattle.journal_texts.proofs.Cuts.{cuts_are_parts}
use Rattle.journal_texts.proofs.laws.cuts_are_parts.Goals as goal

pub returns : goal.returns
returns c = cuts_are_parts
