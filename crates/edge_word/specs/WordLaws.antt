-- What holds of all words.
use Rattle.std.specs.Prelude.{◌≡◌, ◌↔◌, ℕ, ◌<◌, ◌≤◌, false, length}
use Rattle.lab_plan.specs.Limits.{most_bottles}
use Rattle.lab_plan.specs.LabPlan.{LabPlan, edges, bottles}
use Rattle.legal_steps.specs.declared.edge_state.EdgeState.{EdgeState}
use Rattle.legal_steps.specs.declared.phase.JobState.{JobState}
use Rattle.legal_steps.specs.State.{State, edge, idle_phase}
use Rattle.legal_steps.specs.Run.{IsLegalFrom, after_all}
use Rattle.legal_steps.specs.Opening.{the_opening}
use Rattle.edge_word.specs.declared.moves.EdgeMoves.{EdgeMoves}
use Rattle.edge_word.specs.Words.{word_of, IsOfBottles, opening_edge}
use Rattle.edge_word.specs.Phases.{phase_word_of, FitsPhaseWord}
use Rattle.edge_word.specs.Table.{Spells, SpellsPhase}
use Rattle.edge_word.specs.Moves.{Lead, ChangesOnly, is_nothing, events_of, after_moves, moves_of_words, AreOfBottles}

-- the word of an edge is the one number that has the bits of the table
abbrev pub HasTheBitsOfTheTable : Type 0
HasTheBitsOfTheTable = (n w : ℕ) (x : EdgeState) → n ≤ most_bottles → IsOfBottles n x → (w ≡ word_of x) ↔ Spells n w x

-- the word of a phase is the one number that has the fields of the table
abbrev pub HasTheFieldsOfTheTable : Type 0
HasTheFieldsOfTheTable = (w : ℕ) (x : JobState) → FitsPhaseWord x → (w ≡ phase_word_of x) ↔ SpellsPhase w x

-- no two edges have one word, and no two phases
abbrev pub NoTwoEdgesShareAWord : Type 0
NoTwoEdgesShareAWord = (x y : EdgeState) → IsOfBottles most_bottles x → IsOfBottles most_bottles y → word_of x ≡ word_of y → x ≡ y

abbrev pub NoTwoPhasesShareAWord : Type 0
NoTwoPhasesShareAWord = (x y : JobState) → FitsPhaseWord x → FitsPhaseWord y → phase_word_of x ≡ phase_word_of y → x ≡ y

-- the word of a job before its first event is 0
abbrev pub OpensAtZero : Type 0
OpensAtZero = phase_word_of idle_phase ≡ 0

-- an edge of the initial state has the opening word of its number of bottles
abbrev pub OpensAsTheOpening : Type 0
OpensAsTheOpening = (plan : LabPlan) (e : ℕ) → e < length (edges plan) → edge (the_opening plan) e ≡ opening_edge (length (bottles plan e))

-- the events of a group lead to the edge after its moves
abbrev pub MovesAreEvents : Type 0
MovesAreEvents = (m : EdgeMoves) (x : EdgeState) → Lead (events_of m) x (after_moves m x)

-- and change nothing else but marks of the job that moves
abbrev pub MovesChangeOnlyTheirEdge : Type 0
MovesChangeOnlyTheirEdge = (plan : LabPlan) (s : State) (j e : ℕ) (m : EdgeMoves) → j < length s.seats → ChangesOnly j e s (after_all plan s (events_of m j e))

-- moves of an edge's own bottles name no other in its word
abbrev pub StaysOfItsBottles : Type 0
StaysOfItsBottles = (n : ℕ) (m : EdgeMoves) (x : EdgeState) → AreOfBottles n m → IsOfBottles n x → IsOfBottles n (after_moves m x)

-- a legal group of moves names bottles of its edge alone
abbrev pub LegalMovesAreOfTheEdge : Type 0
LegalMovesAreOfTheEdge = (plan : LabPlan) (s : State) (j e : ℕ) (m : EdgeMoves)
    → IsLegalFrom plan s (events_of m j e) → AreOfBottles (length (bottles plan e)) m

-- a legal group of moves, unless it is empty, has one to four events: none asks for a fork and soils one
abbrev pub LegalGroupsAreShort : Type 0
LegalGroupsAreShort = (plan : LabPlan) (s : State) (j e : ℕ) (m : EdgeMoves)
    → IsLegalFrom plan s (events_of m j e) → is_nothing m ≡ false → (1 ≤ length (events_of m j e)) × (length (events_of m j e) ≤ 4)

-- a legal group of moves is read back from the words before and after it
abbrev pub MovesAreReadBack : Type 0
MovesAreReadBack = (plan : LabPlan) (s : State) (j e : ℕ) (m : EdgeMoves) → e < length s.edges → length (bottles plan e) ≤ most_bottles
    → IsOfBottles (length (bottles plan e)) (edge s e) → IsLegalFrom plan s (events_of m j e)
    → moves_of_words (word_of (edge s e)) (word_of (after_moves m (edge s e))) ≡ m
