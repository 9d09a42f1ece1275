-- For readers: what an event makes of the seat of the job that acts. No other seat changes.
use Rattle.std.specs.Prelude.{◌+◌, true, false, slice_index_or, bit_xor, bit_and}
use Rattle.lab_plan.specs.LabPlan.{LabPlan}
use Rattle.legal_steps.specs.declared.phase.Dining.TheVariants.{Thinking, Hungry, Eating}
use Rattle.legal_steps.specs.declared.phase.Drinking.TheVariants.{Tranquil, Thirsty, Drinking as Drinks, Reaching, Retired}
use Rattle.legal_steps.specs.declared.event.Event.{Event}
use Rattle.legal_steps.specs.declared.event.Event.TheVariants.{Look, AskFork, GiveFork, Soil, AskBottles, GiveBottles, Thirst, Hunger}
use Rattle.legal_steps.specs.declared.event.Event.TheVariants.{Sit, Leave, Drink, Reach, Act, Quit, Retire, Glance, Withdraw}
use Rattle.legal_steps.specs.State.{Seat, end_of, bottles_at}
use Rattle.legal_steps.specs.Legal.{with_fork_mark, with_bottle_marks, turned_to, fork_mark_seen}

-- the seat of the job that acts, after the event
abbrev pub seat_after : LabPlan → Seat → Event → Seat
seat_after plan x (Look j e seen) =
    with_bottle_marks (with_fork_mark x e (fork_mark_seen x.phase.dining (end_of plan j e) seen)) e (bottles_at plan e (end_of plan j e) seen)
seat_after plan x (AskFork j e) = x
seat_after plan x (GiveFork j e) = with_fork_mark x e false
seat_after plan x (Soil j e) = with_fork_mark x e true
seat_after plan x (AskBottles j e set) = x
seat_after plan x (GiveBottles j e set) = with_bottle_marks x e (bit_xor (slice_index_or x.bottle_marks e 0) (bit_and (slice_index_or x.bottle_marks e 0) set))
seat_after plan x (Thirst j) = record x { phase = record x.phase { drinking = Thirsty; session = x.phase.session + 1; position = 0 } }
seat_after plan x (Hunger j) = record x { phase = record x.phase { dining = Hungry } }
seat_after plan x (Sit j) = turned_to x Eating
seat_after plan x (Leave j) = turned_to x Thinking
seat_after plan x (Drink j) = record x { phase = record x.phase { drinking = Drinks } }
seat_after plan x (Reach j) = record x { phase = record x.phase { drinking = Reaching } }
seat_after plan x (Act j) = record x { phase = record x.phase { drinking = Drinks; position = x.phase.position + 1 } }
seat_after plan x (Quit j) = record x { phase = record x.phase { drinking = Tranquil; position = 0 } }
seat_after plan x (Retire j) = record x { phase = record x.phase { drinking = Retired } }
seat_after plan x (Glance j other seen) = x
seat_after plan x (Withdraw j) = record x { phase = record x.phase { drinking = Tranquil; position = 0 } }
