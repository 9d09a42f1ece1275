use Rattle.std.proofs.Common.{refl}
use Rattle.interleaving.specs.World.{WorldView}
use Rattle.settling.proofs.Nothing.{leads_none}
use Rattle.live_lab.proofs.Admitted.{none_give_up}
use Rattle.live_lab.proofs.InLab.{line_on}
use Rattle.live_lab.proofs.Lawful.{askers_after}
use Rattle.live_lab.proofs.admission.give_up.Goals as goal

pub returns-then-set-eq0-clause-gives : goal.returns-then-set-eq0-clause-gives
returns-then-set-eq0-clause-gives g c =
    let w : WorldView = c.args.world.now in
    none_give_up c.args.waiting c.args.set w c.args.line.now c.if-set-eq0.true (leads_none w) c.plan.ensures.reached c.requires.over c.requires.at_rest c.requires.line
    c.requires.askers

pub admit-requires-clause-line : goal.admit-requires-clause-line
admit-requires-clause-line g c =
    let third = c.say_and_rest-said.ensures.does in
    line_on c.args.world.now c.say_and_rest-said.new.world c.args.line.now (third.events, third.leads) c.requires.line

pub admit-requires-clause-askers : goal.admit-requires-clause-askers
admit-requires-clause-askers g c =
    let third = c.say_and_rest-said.ensures.does in
    askers_after c.args.world.now c.args.line.now c.args.set third.events c.say_and_rest-said.new.world third.does
    (λ j job has. (c.requires.may j job has).1) c.requires.askers

pub returns-clause-gives : goal.returns-clause-gives
returns-clause-gives g c = record {
  left = c.say_and_rest-said.new.world;
  many = c.say_and_rest-said.result;
  more = c.admit.result;
  does = c.say_and_rest-said.ensures.does;
  admits = c.admit.ensures.admits;
  says = refl;
}
