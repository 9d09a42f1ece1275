-- What an event changes: the seat of the job that acts, and nothing of the other seats.
use Rattle.std.proofs.Common.{◌≡◌, ◌≢◌, ℕ, ◌<◌, length, refl, length-set}
use Rattle.lab_plan.specs.LabPlan.{LabPlan}
use Rattle.legal_steps.specs.declared.event.Event.{Event}
use Rattle.legal_steps.specs.declared.event.Event.TheVariants.{Look, AskFork, GiveFork, Soil, AskBottles, GiveBottles, Thirst, Hunger, Sit, Leave, Drink, Reach, Act, Quit, Retire, Glance, Withdraw}
use Rattle.legal_steps.specs.State.{State, edge, seat}
use Rattle.legal_steps.specs.Legal.{after, with_edge, with_entry, next_command, next_entry, fork_given, fork_soiled, bottles_given}
use Rattle.legal_steps.proofs.FitsWrites.{seat_same, seat_other}
use Rattle.legal_steps.specs.Run.{actor}
use Rattle.turns.specs.History.{learned}
use Rattle.turns.specs.Changes.{seat_after}

-- ---- the lists stay as long

pub as_many_seats : (plan : LabPlan) (s : State) (event : Event) → length (after plan s event).seats ≡ length s.seats
as_many_seats plan s (Look j e seen) = length-set s.seats j _
as_many_seats plan s (AskFork j e) = refl
as_many_seats plan s (GiveFork j e) = length-set s.seats j _
as_many_seats plan s (Soil j e) = length-set s.seats j _
as_many_seats plan s (AskBottles j e set) = refl
as_many_seats plan s (GiveBottles j e set) = length-set s.seats j _
as_many_seats plan s (Thirst j) = length-set s.seats j _
as_many_seats plan s (Hunger j) = length-set s.seats j _
as_many_seats plan s (Sit j) = length-set s.seats j _
as_many_seats plan s (Leave j) = length-set s.seats j _
as_many_seats plan s (Drink j) = length-set s.seats j _
as_many_seats plan s (Reach j) = length-set s.seats j _
as_many_seats plan s (Act j) = length-set s.seats j _
as_many_seats plan s (Quit j) = length-set s.seats j _
as_many_seats plan s (Retire j) = length-set s.seats j _
as_many_seats plan s (Glance j other seen) = refl
as_many_seats plan s (Withdraw j) = length-set s.seats j _

pub as_many_edges : (plan : LabPlan) (s : State) (event : Event) → length (after plan s event).edges ≡ length s.edges
as_many_edges plan s (AskFork j e) = length-set s.edges e _
as_many_edges plan s (GiveFork j e) = length-set s.edges e _
as_many_edges plan s (Soil j e) = length-set s.edges e _
as_many_edges plan s (AskBottles j e set) = length-set s.edges e _
as_many_edges plan s (GiveBottles j e set) = length-set s.edges e _
as_many_edges plan s (Look j e seen) = refl
as_many_edges plan s (Thirst j) = refl
as_many_edges plan s (Hunger j) = refl
as_many_edges plan s (Sit j) = refl
as_many_edges plan s (Leave j) = refl
as_many_edges plan s (Drink j) = refl
as_many_edges plan s (Reach j) = refl
as_many_edges plan s (Act j) = refl
as_many_edges plan s (Quit j) = refl
as_many_edges plan s (Retire j) = refl
as_many_edges plan s (Glance j other seen) = refl
as_many_edges plan s (Withdraw j) = refl

-- ---- the job's seat

-- an event of a job leaves its seat as its seat and the event say
pub own_seat : (plan : LabPlan) (s : State) (event : Event) → actor event < length s.seats
    → seat (after plan s event) (actor event) ≡ seat_after plan (seat s (actor event)) event
own_seat plan s (Look j e seen) h = seat_same s j _ h
own_seat plan s (AskFork j e) h = refl
own_seat plan s (GiveFork j e) h = seat_same (with_edge s e (fork_given (edge s e))) j _ h
own_seat plan s (Soil j e) h = seat_same (with_edge s e (fork_soiled (edge s e))) j _ h
own_seat plan s (AskBottles j e set) h = refl
own_seat plan s (GiveBottles j e set) h = seat_same (with_edge s e (bottles_given set (edge s e))) j _ h
own_seat plan s (Thirst j) h = seat_same s j _ h
own_seat plan s (Hunger j) h = seat_same s j _ h
own_seat plan s (Sit j) h = seat_same s j _ h
own_seat plan s (Leave j) h = seat_same s j _ h
own_seat plan s (Drink j) h = seat_same s j _ h
own_seat plan s (Reach j) h = seat_same s j _ h
own_seat plan s (Act j) h = seat_same (with_entry s (next_command plan s j).0 (next_entry plan s j)) j _ h
own_seat plan s (Quit j) h = seat_same s j _ h
own_seat plan s (Retire j) h = seat_same s j _ h
own_seat plan s (Glance j other seen) h = refl
own_seat plan s (Withdraw j) h = seat_same s j _ h

-- and the other seats as they were
pub other_seat : (plan : LabPlan) (s : State) (event : Event) (k : ℕ) → k ≢ actor event → seat (after plan s event) k ≡ seat s k
other_seat plan s (Look j e seen) k n = seat_other s j _ k n
other_seat plan s (AskFork j e) k n = refl
other_seat plan s (GiveFork j e) k n = seat_other (with_edge s e (fork_given (edge s e))) j _ k n
other_seat plan s (Soil j e) k n = seat_other (with_edge s e (fork_soiled (edge s e))) j _ k n
other_seat plan s (AskBottles j e set) k n = refl
other_seat plan s (GiveBottles j e set) k n = seat_other (with_edge s e (bottles_given set (edge s e))) j _ k n
other_seat plan s (Thirst j) k n = seat_other s j _ k n
other_seat plan s (Hunger j) k n = seat_other s j _ k n
other_seat plan s (Sit j) k n = seat_other s j _ k n
other_seat plan s (Leave j) k n = seat_other s j _ k n
other_seat plan s (Drink j) k n = seat_other s j _ k n
other_seat plan s (Reach j) k n = seat_other s j _ k n
other_seat plan s (Act j) k n = seat_other (with_entry s (next_command plan s j).0 (next_entry plan s j)) j _ k n
other_seat plan s (Quit j) k n = seat_other s j _ k n
other_seat plan s (Retire j) k n = seat_other s j _ k n
other_seat plan s (Glance j other seen) k n = refl
other_seat plan s (Withdraw j) k n = seat_other s j _ k n

-- ---- what a job learns by its own event

pub learned_seats : (plan : LabPlan) (s : State) (event : Event) → length (learned plan s event).seats ≡ length s.seats
learned_seats plan s (Look j e seen) = as_many_seats plan (with_edge s e seen) (Look j e seen)
learned_seats plan s (AskFork j e) = as_many_seats plan s (AskFork j e)
learned_seats plan s (GiveFork j e) = as_many_seats plan s (GiveFork j e)
learned_seats plan s (Soil j e) = as_many_seats plan s (Soil j e)
learned_seats plan s (AskBottles j e set) = as_many_seats plan s (AskBottles j e set)
learned_seats plan s (GiveBottles j e set) = as_many_seats plan s (GiveBottles j e set)
learned_seats plan s (Thirst j) = as_many_seats plan s (Thirst j)
learned_seats plan s (Hunger j) = as_many_seats plan s (Hunger j)
learned_seats plan s (Sit j) = as_many_seats plan s (Sit j)
learned_seats plan s (Leave j) = as_many_seats plan s (Leave j)
learned_seats plan s (Drink j) = as_many_seats plan s (Drink j)
learned_seats plan s (Reach j) = as_many_seats plan s (Reach j)
learned_seats plan s (Act j) = as_many_seats plan s (Act j)
learned_seats plan s (Quit j) = as_many_seats plan s (Quit j)
learned_seats plan s (Retire j) = as_many_seats plan s (Retire j)
learned_seats plan s (Glance j other seen) = refl
learned_seats plan s (Withdraw j) = as_many_seats plan s (Withdraw j)

pub learned_edges : (plan : LabPlan) (s : State) (event : Event) → length (learned plan s event).edges ≡ length s.edges
learned_edges plan s (Look j e seen) = length-set s.edges e seen
learned_edges plan s (AskFork j e) = as_many_edges plan s (AskFork j e)
learned_edges plan s (GiveFork j e) = as_many_edges plan s (GiveFork j e)
learned_edges plan s (Soil j e) = as_many_edges plan s (Soil j e)
learned_edges plan s (AskBottles j e set) = as_many_edges plan s (AskBottles j e set)
learned_edges plan s (GiveBottles j e set) = as_many_edges plan s (GiveBottles j e set)
learned_edges plan s (Thirst j) = refl
learned_edges plan s (Hunger j) = refl
learned_edges plan s (Sit j) = refl
learned_edges plan s (Leave j) = refl
learned_edges plan s (Drink j) = refl
learned_edges plan s (Reach j) = refl
learned_edges plan s (Act j) = refl
learned_edges plan s (Quit j) = refl
learned_edges plan s (Retire j) = refl
learned_edges plan s (Glance j other seen) = refl
learned_edges plan s (Withdraw j) = refl

pub learned_seat : (plan : LabPlan) (s : State) (event : Event) → actor event < length s.seats
    → seat (learned plan s event) (actor event) ≡ seat_after plan (seat s (actor event)) event
learned_seat plan s (Look j e seen) h = own_seat plan (with_edge s e seen) (Look j e seen) h
learned_seat plan s (AskFork j e) h = own_seat plan s (AskFork j e) h
learned_seat plan s (GiveFork j e) h = own_seat plan s (GiveFork j e) h
learned_seat plan s (Soil j e) h = own_seat plan s (Soil j e) h
learned_seat plan s (AskBottles j e set) h = own_seat plan s (AskBottles j e set) h
learned_seat plan s (GiveBottles j e set) h = own_seat plan s (GiveBottles j e set) h
learned_seat plan s (Thirst j) h = own_seat plan s (Thirst j) h
learned_seat plan s (Hunger j) h = own_seat plan s (Hunger j) h
learned_seat plan s (Sit j) h = own_seat plan s (Sit j) h
learned_seat plan s (Leave j) h = own_seat plan s (Leave j) h
learned_seat plan s (Drink j) h = own_seat plan s (Drink j) h
learned_seat plan s (Reach j) h = own_seat plan s (Reach j) h
learned_seat plan s (Act j) h = own_seat plan s (Act j) h
learned_seat plan s (Quit j) h = own_seat plan s (Quit j) h
learned_seat plan s (Retire j) h = own_seat plan s (Retire j) h
learned_seat plan s (Glance j other seen) h = refl
learned_seat plan s (Withdraw j) h = own_seat plan s (Withdraw j) h
