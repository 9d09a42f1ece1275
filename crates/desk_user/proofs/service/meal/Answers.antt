use Rattle.std.proofs.Common.{[], ◌∷◌, refl, inl, inr, rules}
use Rattle.legal_steps.specs.declared.event.Event.TheVariants.{Leave, Sit}
use Rattle.desk_user.proofs.service.meal.Goals as goal

pub returns-then-may_leave : goal.returns-then-may_leave
returns-then-may_leave g c = record {
  events = Leave c.args.desk.now.job ∷ [];
  due = inl ((search rules), refl);
  does = (c.store_phase.new.desk, c.store_phase.ensures, refl);
  says = refl;
}

pub returns-then-may_sit : goal.returns-then-may_sit
returns-then-may_sit g c = record {
  events = Sit c.args.desk.now.job ∷ [];
  due = inr (inl ((search rules), (search rules), refl));
  does = (c.store_phase-then-may_sit.new.desk, c.store_phase-then-may_sit.ensures, refl);
  says = refl;
}
