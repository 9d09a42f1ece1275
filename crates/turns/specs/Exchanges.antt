-- For readers: what an event makes of the edge of its exchange, and to which log it writes. No other edge changes, and no other log.
use Rattle.std.specs.Prelude.{ℕ, ◌+◌, Bool, false, ◌==◌, if◌then◌else◌, List, [], ◌∷◌, Option, Some, None}
use Rattle.lab_plan.specs.LabPlan.{LabPlan}
use Rattle.legal_steps.specs.declared.edge_state.EdgeState.{EdgeState}
use Rattle.legal_steps.specs.declared.event.Event.{Event}
use Rattle.legal_steps.specs.declared.event.Event.TheVariants.{AskFork, GiveFork, Soil, AskBottles, GiveBottles, Act}
use Rattle.legal_steps.specs.State.{State}
use Rattle.legal_steps.specs.Legal.{after, next_command, fork_asked, fork_given, fork_soiled, bottles_asked, bottles_given}

-- the edge that an event changes
abbrev pub changed_edge : Event → Option ℕ
changed_edge (AskFork j e) = Some e
changed_edge (GiveFork j e) = Some e
changed_edge (Soil j e) = Some e
changed_edge (AskBottles j e set) = Some e
changed_edge (GiveBottles j e set) = Some e
changed_edge _ = None

-- and that edge after the event
abbrev pub edge_after : EdgeState → Event → EdgeState
edge_after x (AskFork j e) = fork_asked x
edge_after x (GiveFork j e) = fork_given x
edge_after x (Soil j e) = fork_soiled x
edge_after x (AskBottles j e set) = bottles_asked set x
edge_after x (GiveBottles j e set) = bottles_given set x
edge_after x _ = x

-- the instrument to whose log an event adds an entry
abbrev pub written_log : LabPlan → State → Event → Option ℕ
written_log plan s (Act j) = Some (next_command plan s j).0
written_log plan s _ = None

-- whether an event is an Act on instrument i
abbrev pub is_act_on : LabPlan → ℕ → State → Event → Bool
is_act_on plan i s (Act j) = (next_command plan s j).0 == i
is_act_on plan i s _ = false

-- how many Acts on instrument i a list has from s
abbrev pub acts_on : LabPlan → ℕ → State → List Event → ℕ
acts_on plan i s [] = 0
acts_on plan i s (event ∷ events) = (if is_act_on plan i s event then 1 else 0) + acts_on plan i (after plan s event) events
