-- For readers: what a job's last look at an edge saw.
use Rattle.std.specs.Prelude.{ℕ, ◌==◌, if◌then◌else◌, List, [], ◌∷◌, Option, Some, None}
use Rattle.legal_steps.specs.declared.edge_state.EdgeState.{EdgeState}
use Rattle.legal_steps.specs.declared.event.Event.{Event}
use Rattle.legal_steps.specs.declared.event.Event.TheVariants.{Look, AskFork, GiveFork, Soil, AskBottles, GiveBottles}

-- a look at the edge sees it anew; an exchange of the job's own makes what it saw out of date
abbrev pub seen_next : ℕ → Option EdgeState → Event → Option EdgeState
seen_next e seen (Look j f x) = if f == e then Some x else seen
seen_next e seen (AskFork j f) = if f == e then None else seen
seen_next e seen (GiveFork j f) = if f == e then None else seen
seen_next e seen (Soil j f) = if f == e then None else seen
seen_next e seen (AskBottles j f set) = if f == e then None else seen
seen_next e seen (GiveBottles j f set) = if f == e then None else seen
seen_next e seen _ = seen

abbrev pub seen_after : ℕ → Option EdgeState → List Event → Option EdgeState
seen_after e seen [] = seen
seen_after e seen (event ∷ events) = seen_after e (seen_next e seen event) events

-- the word that the last look at edge e saw, in the events of one job; none if it never looked, or changed the edge since
abbrev pub last_seen : ℕ → List Event → Option EdgeState
last_seen e deeds = seen_after e None deeds
