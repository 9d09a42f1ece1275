-- What the laws say of a world, whose state is reached.
use Rattle.std.proofs.Common.{ℕ, List, sym, subst}
use Rattle.lab_plan.specs.LabPlan.{LabPlan}
use Rattle.legal_steps.specs.declared.event.Event.{Event}
use Rattle.legal_steps.specs.declared.event.Event.TheVariants.{Look}
use Rattle.legal_steps.specs.State.{State, IsOwn, edge}
use Rattle.legal_steps.specs.Legal.{May}
use Rattle.legal_steps.specs.Precedence.{IsAcyclic}
use Rattle.legal_steps.proofs.ReachedInvariant.{sound_opening}
use Rattle.legal_steps.proofs.ReachedLemmas.{reached_sound, reached_fits, reached_acyclic}
use Rattle.legal_steps.specs.declared.counts.Counts.{Counts}
use Rattle.interleaving.specs.World.{IsReachedWith}
use Rattle.overtaking.specs.Stuck.{IsMove, IsWayOn, IsUpToDate, AllRetired}
use Rattle.overtaking.specs.Ways.{HasNoPhaseWays, HasNoForkWays, HasNoBottleWays}
use Rattle.overtaking.proofs.Wanted.{IsWanted, wanted_opening, wanted_after_all}
use Rattle.overtaking.proofs.Moves.{move_leads_on, look_leads_on}
use Rattle.overtaking.proofs.Quiet.{all_retired}
use Rattle.overtaking.proofs.Ways.{no_way_is_quiet}

pub world_move : (plan : LabPlan) (s : State) (counts : List Counts) (event : Event)
    → IsReachedWith plan s counts → IsMove event → May plan s event → IsWayOn plan s event
world_move plan s counts event h move may = move_leads_on plan s event (reached_fits plan s h.reached) move may

pub world_look : (plan : LabPlan) (s : State) (counts : List Counts) (j e : ℕ) → IsReachedWith plan s counts
    → IsOwn plan j e → ¬ IsUpToDate plan s j e → IsWayOn plan s (Look j e (edge s e))
world_look plan s counts j e h own stale = look_leads_on plan s j e (reached_fits plan s h.reached) own stale

-- where no way on is left all jobs are retired
pub world_at_end : (plan : LabPlan) (s : State) (counts : List Counts) → IsReachedWith plan s counts
    → HasNoPhaseWays plan s → HasNoForkWays plan s → HasNoBottleWays plan s → AllRetired plan s
world_at_end plan s counts h phases forks bottles =
    let r = h.reached in
    let opened = sound_opening plan r.opening r.is_opening in
    let wanted : IsWanted plan s =
    subst (IsWanted plan) (sym r.run.leads) (wanted_after_all plan r.opening r.events opened (wanted_opening plan r.opening r.is_opening) r.run.legal) in
    all_retired plan s (reached_sound plan s r) wanted (no_way_is_quiet plan s phases forks bottles) (reached_acyclic plan s r)

pub world_acyclic : (plan : LabPlan) (s : State) (counts : List Counts) → IsReachedWith plan s counts → IsAcyclic plan s
world_acyclic plan s counts h = reached_acyclic plan s h.reached
