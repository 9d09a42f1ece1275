use Rattle.std.proofs.Common.{true, false, refl, sym, ◌∙◌, subst}
use Rattle.std.proofs.lemmas.Bool.{false≢true}
use Rattle.legal_steps.specs.declared.event.Event.TheVariants.{GiveFork}
use Rattle.dining_layer.specs.declared.answers.Tried.{Tried}
use Rattle.dining_layer.specs.Tries.{TriedTo}
use Rattle.dining_layer.proofs.Trying.{one_move}
use Rattle.dining_layer.proofs.moves.give.Goals as goal

pub exchange-requires-clause-may : goal.exchange-requires-clause-may
exchange-requires-clause-may g c = (c.may_give.ensures.0 c.if-not-may_give.false, tt)

pub returns-then-not-may_give : goal.returns-then-not-may_give
returns-then-not-may_give g c = ((λ may. false≢true (sym c.if-not-may_give.true ∙ c.may_give.ensures.1 may)), refl)

pub returns : goal.returns
returns g c =
    subst (λ (r : Tried). TriedTo c.args.desk.now (GiveFork c.args.desk.now.job c.args.edge) c.args.edge r c.exchange.new.desk) (sym c.answered.ensures)
    (one_move c.args.desk.now (record { give_fork = true; give_bottles = 0; ask_fork = false; ask_bottles = 0; soil = false })
    c.args.edge (GiveFork c.args.desk.now.job c.args.edge) c.exchange.result c.exchange.new.desk refl
    (c.may_give.ensures.0 c.if-not-may_give.false) c.exchange.ensures)
