use Rattle.bay.proofs.Keepers.{no_ask_of, one_ask_of}
use Rattle.bay.proofs.keeper.ask_of.Goals as goal

pub returns-in-None : goal.returns-in-None
returns-in-None c = no_ask_of c.args.book.now.asks c.args.number c.in-None.ensures

pub returns-in-Some : goal.returns-in-Some
returns-in-Some c = one_ask_of c.args.book.now.asks c.args.number c.in-Some.place c.ask_at.result c.in-Some.ensures c.ask_at.ensures
