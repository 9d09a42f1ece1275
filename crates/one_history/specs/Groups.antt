-- The groups of a job's events: those of one step, which are done at once.
use Rattle.std.specs.Prelude.{◌≡◌, List, [], ◌∷◌, ◌++◌}
use Rattle.legal_steps.specs.declared.event.Event.{Event}

-- the groups with one more; of no event there is no group
abbrev pub with_group : List (List Event) → List Event → List (List Event)
with_group groups [] = groups
with_group groups (event ∷ events) = groups ++ (event ∷ events) ∷ []

-- each event a group of its own
abbrev pub one_by_one : List Event → List (List Event)
one_by_one [] = []
one_by_one (event ∷ events) = (event ∷ []) ∷ one_by_one events

-- the events of groups one after another
abbrev pub all_of : List (List Event) → List Event
all_of [] = []
all_of (group ∷ groups) = group ++ all_of groups

-- the groups stand in the history in this order, each of them unbroken, whatever stands between them
abbrev pub StandUnbroken : List (List Event) → List Event → Type 0
StandUnbroken [] h = Unit {0}
StandUnbroken (group ∷ groups) h = (before : List Event) × (after : List Event) × (h ≡ before ++ (group ++ after)) × StandUnbroken groups after
