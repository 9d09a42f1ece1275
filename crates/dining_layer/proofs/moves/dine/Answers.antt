use Rattle.std.proofs.Common.{sym, ◌∙◌, inl, inr}
use Rattle.std.proofs.lemmas.Bool.{false≢true}
use Rattle.legal_steps.specs.declared.event.Event.TheVariants.{Soil}
use Rattle.dining_layer.proofs.Trying.{last_try}
use Rattle.dining_layer.proofs.moves.dine.Goals as goal

pub returns-then-may_give : goal.returns-then-may_give
returns-then-may_give g c = record {
  saw = c.look.result;
  looked = c.look.new.desk;
  look = c.look.ensures;
  tries = inl (c.may_give.ensures.0 c.if-may_give.true, c.give.ensures);
}

pub returns-then-may_ask : goal.returns-then-may_ask
returns-then-may_ask g c = record {
  saw = c.look.result;
  looked = c.look.new.desk;
  look = c.look.ensures;
  tries = inr ((λ may. false≢true (sym c.if-may_give.false ∙ c.may_give.ensures.1 may)), inl (c.may_ask.ensures.0 c.if-may_ask.true, c.ask.ensures));
}

pub returns : goal.returns
returns g c = record {
  saw = c.look.result;
  looked = c.look.new.desk;
  look = c.look.ensures;
  tries = inr (
    (λ may. false≢true (sym c.if-may_give.false ∙ c.may_give.ensures.1 may)),
    inr (
      (λ may. false≢true (sym c.if-may_ask.false ∙ c.may_ask.ensures.1 may)),
      last_try c.look.new.desk (Soil c.look.new.desk.job c.args.edge) c.args.edge c.soil.result c.soil.new.desk c.soil.ensures,
    ),
  );
}
