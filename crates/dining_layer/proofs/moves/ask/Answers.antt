use Rattle.std.proofs.Common.{true, false, refl, sym, ◌∙◌, subst}
use Rattle.std.proofs.lemmas.Bool.{false≢true}
use Rattle.legal_steps.specs.declared.event.Event.TheVariants.{AskFork}
use Rattle.dining_layer.specs.declared.answers.Tried.{Tried}
use Rattle.dining_layer.specs.Tries.{TriedTo}
use Rattle.dining_layer.proofs.Trying.{one_move}
use Rattle.dining_layer.proofs.moves.ask.Goals as goal

pub exchange-requires-clause-may : goal.exchange-requires-clause-may
exchange-requires-clause-may g c = (c.may_ask.ensures.0 c.if-not-may_ask.false, tt)

pub returns-then-not-may_ask : goal.returns-then-not-may_ask
returns-then-not-may_ask g c = ((λ may. false≢true (sym c.if-not-may_ask.true ∙ c.may_ask.ensures.1 may)), refl)

pub returns : goal.returns
returns g c =
    subst (λ (r : Tried). TriedTo c.args.desk.now (AskFork c.args.desk.now.job c.args.edge) c.args.edge r c.exchange.new.desk) (sym c.answered.ensures)
    (one_move c.args.desk.now (record { give_fork = false; give_bottles = 0; ask_fork = true; ask_bottles = 0; soil = false }) c.args.edge
    (AskFork c.args.desk.now.job c.args.edge) c.exchange.result c.exchange.new.desk refl (c.may_ask.ensures.0 c.if-not-may_ask.false) c.exchange.ensures)
