use Rattle.bay.proofs.Tokens as tokens
use Rattle.bay.proofs.laws.tokens_rise.Goals as goal

pub returns : goal.returns
returns c = tokens.tokens_rise
