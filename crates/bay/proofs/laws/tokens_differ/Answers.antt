use Rattle.bay.proofs.Tokens.{have_tokens}
use Rattle.bay.proofs.laws.tokens_differ.Goals as goal

pub returns : goal.returns
returns c = have_tokens c.args.bay.now.room.book c.look.ensures.room.book
