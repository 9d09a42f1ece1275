use Rattle.std.proofs.Common.{sym, ◌∙◌, subst}
use Rattle.lab_plan.specs.LabPlan.{LabPlan}
use Rattle.legal_steps.specs.declared.edge_state.EdgeState.{EdgeState}
use Rattle.legal_steps.specs.declared.event.Event.TheVariants.{Look}
use Rattle.legal_steps.specs.State.{IsOwn}
use Rattle.round_trace.specs.Doing.{Tries}
use Rattle.round_trace.proofs.Visiting.{visited}
use Rattle.round_trace.proofs.edges.visit.Goals as goal

pub give_all-requires : goal.give_all-requires
give_all-requires g c =
    subst (λ (p : LabPlan). IsOwn p c.args.job c.args.edge) (sym (c.in_ok-_gave.ensures.same_plan ∙ c.in_ok-_looked.ensures.same_plan)) c.requires

pub ask_all-requires : goal.ask_all-requires
ask_all-requires g c =
    let three = c.in_ok-_asked.ensures.same_plan ∙ c.in_ok-_given.ensures.tries.same_plan ∙ c.in_ok-_gave.ensures.same_plan in
    subst (λ (p : LabPlan). IsOwn p c.args.job c.args.edge) (sym (three ∙ c.in_ok-_looked.ensures.same_plan)) c.requires

pub returns : goal.returns
returns g c =
    let w = c.args.world.now in let l = c.args.events.now.items in let j = c.args.job in let e = c.args.edge in
    let first = subst (λ (x : EdgeState). Tries w l
    (Look j e x) c.in_ok-_looked._looked c.attempt.new.world c.attempt.new.events.items) c.edge-seen.ensures c.in_ok-_looked.ensures in
    visited j e w c.attempt.new.world c.attempt-2.new.world c.give_all.new.world c.attempt-3.new.world c.ask_all.new.world c.attempt-4.new.world
    l c.attempt.new.events.items c.attempt-2.new.events.items c.give_all.new.events.items c.attempt-3.new.events.items c.ask_all.new.events.items
    c.attempt-4.new.events.items
    c.in_ok-_looked._looked c.in_ok-_gave._gave c.in_ok-_asked._asked c.in_ok-_soiled._soiled c.in_ok-_given._given c.in_ok-_wanted._wanted c.requires
    first c.in_ok-_gave.ensures c.in_ok-_given.ensures c.in_ok-_asked.ensures c.in_ok-_wanted.ensures c.in_ok-_soiled.ensures
