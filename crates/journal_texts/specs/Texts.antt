-- For readers: the text of a journal. A journal is a script, a line `steps`, and behind it what was taken, one text after another.
use Rattle.std.specs.Prelude.{ℕ, Bool, true, if◌then◌else◌, List, [], ◌∷◌, ◌++◌, map, take, codes}
use Rattle.std.specs.List.{flat_map}
use Rattle.sha2.specs.Sha256.{sha256}
use Rattle.hex.specs.Hex.{encode_lower}
use Rattle.lab_plan.specs.LabPlan.{LabPlan}
use Rattle.legal_steps.specs.declared.event.Event.{Event}
use Rattle.round_trace.specs.StepsOf.{step_of}
use Rattle.written_steps.specs.StepLists.{script_head, step_lines}

-- events as steps, one a line
abbrev pub lines_text : LabPlan → List Event → List ℕ
lines_text plan events = step_lines plan (map step_of events)

-- the line that comes behind these lines: the first 8 bytes of their SHA-256
unfoldable pub sum_line : List ℕ → List ℕ
sum_line text = codes "#sum " ++ encode_lower (take 8 (sha256 text))

abbrev pub end_text : LabPlan → List Event → List ℕ
end_text plan events = sum_line (lines_text plan events) ++ codes "\n"

-- a line `#steps`, some lines, and their sum
abbrev pub summed : List ℕ → List ℕ
summed lines = codes "#steps\n" ++ lines ++ (sum_line lines ++ codes "\n")

-- so are events told
abbrev pub batch_text : LabPlan → List Event → List ℕ
batch_text plan events = summed (lines_text plan events)

-- what is told of the events that are kept: of none, nothing
abbrev pub journal_text : LabPlan → List Event → List ℕ
journal_text plan [] = []
journal_text plan (event ∷ events) = batch_text plan (event ∷ events)

-- ---- journals

-- events of one text, which is there up to its end, or was cut behind a step, or behind the line `#steps`
pub record Piece : Type 0 where
  pub events : List Event
  pub ended : Bool

abbrev pub piece_text : LabPlan → Piece → List ℕ
piece_text plan piece = codes "#steps\n" ++ lines_text plan piece.events ++ (if piece.ended then end_text plan piece.events else [])

abbrev pub events_of : List Piece → List Event
events_of pieces = flat_map (λ (piece : Piece). piece.events) pieces

-- a file of a script and such texts
abbrev pub file_text : LabPlan → List ℕ → List Piece → List ℕ
file_text plan script pieces = script_head script ++ flat_map (piece_text plan) pieces

-- the texts of events that were taken one after another, as pieces
abbrev pub pieces_of : List (List Event) → List Piece
pieces_of [] = []
pieces_of ([] ∷ lists) = pieces_of lists
pieces_of ((event ∷ events) ∷ lists) = record { events = event ∷ events; ended = true } ∷ pieces_of lists
