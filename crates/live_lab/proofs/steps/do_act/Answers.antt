use Rattle.std.proofs.Common.{[], ◌∷◌, sym, subst}
use Rattle.legal_steps.specs.declared.event.Event.{Event}
use Rattle.legal_steps.specs.declared.event.Event.TheVariants.{Reach, Act}
use Rattle.interleaving.specs.World.{WorldView, LeadsTo}
use Rattle.turns.specs.Acts.{whole_act}
use Rattle.settling.proofs.Worlds.{leads_both}
use Rattle.live_lab.proofs.steps.do_act.Goals as goal

pub returns-in-Reach : goal.returns-in-Reach
returns-in-Reach g c =
    let w : WorldView = c.args.world.now in
    let mid : WorldView = c.step.new.world in
    let new : WorldView = c.step-in-Reach.new.world in
    let j = c.in-Reach.job in
    let reached : LeadsTo w (Reach j ∷ []) mid = subst (λ (x : Event). LeadsTo w (x ∷ []) mid) c.in-Reach.is c.step.ensures in
    subst (λ (x : Event). LeadsTo w (whole_act x) new) (sym c.in-Reach.is) (leads_both w mid new (Reach j ∷ []) (Act j ∷ []) reached c.step-in-Reach.ensures)
