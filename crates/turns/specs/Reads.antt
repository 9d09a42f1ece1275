-- For readers: what decides whether an event is legal.
use Rattle.std.specs.Prelude.{◌≡◌}
use Rattle.legal_steps.specs.declared.event.Event.{Event}
use Rattle.legal_steps.specs.declared.event.Event.TheVariants.{Look, AskFork, GiveFork, Soil, AskBottles, GiveBottles, Thirst, Hunger}
use Rattle.legal_steps.specs.declared.event.Event.TheVariants.{Sit, Leave, Drink, Reach, Act, Quit, Retire, Glance, Withdraw}
use Rattle.legal_steps.specs.State.{State, edge, seat, phase}

-- two states are alike in all that the event reads
abbrev pub AreAlikeFor : State → State → Event → Type 0
-- a look reads the edge that it sees
AreAlikeFor s t (Look j e seen) = edge s e ≡ edge t e
-- an exchange reads the seat of its job, and its edge
AreAlikeFor s t (AskFork j e) = (seat s j ≡ seat t j) × (edge s e ≡ edge t e)
AreAlikeFor s t (GiveFork j e) = (seat s j ≡ seat t j) × (edge s e ≡ edge t e)
AreAlikeFor s t (Soil j e) = (seat s j ≡ seat t j) × (edge s e ≡ edge t e)
AreAlikeFor s t (AskBottles j e set) = (seat s j ≡ seat t j) × (edge s e ≡ edge t e)
AreAlikeFor s t (GiveBottles j e set) = (seat s j ≡ seat t j) × (edge s e ≡ edge t e)
-- an event of the phase reads the seat of its job alone
AreAlikeFor s t (Thirst j) = seat s j ≡ seat t j
AreAlikeFor s t (Hunger j) = seat s j ≡ seat t j
AreAlikeFor s t (Sit j) = seat s j ≡ seat t j
AreAlikeFor s t (Leave j) = seat s j ≡ seat t j
AreAlikeFor s t (Drink j) = seat s j ≡ seat t j
AreAlikeFor s t (Reach j) = seat s j ≡ seat t j
AreAlikeFor s t (Act j) = seat s j ≡ seat t j
AreAlikeFor s t (Quit j) = seat s j ≡ seat t j
AreAlikeFor s t (Retire j) = seat s j ≡ seat t j
AreAlikeFor s t (Withdraw j) = seat s j ≡ seat t j
-- a glance reads how far the other job is
AreAlikeFor s t (Glance j other seen) = phase s other ≡ phase t other
