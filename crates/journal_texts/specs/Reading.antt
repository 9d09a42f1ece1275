-- For readers: what a journal is read as.
use Rattle.std.specs.Prelude.{◌≡◌, ◌≢◌, ℕ, ◌-◌, ◌<◌, ◌≤◌, List, [], ◌∷◌, ◌++◌, length, take, slice_index, None, Ok}
use Rattle.std.specs.List.{flat_map}
use Rattle.lab_plan.specs.LabPlan.{LabPlan, SessionPlan, sessions}
use Rattle.lab_plan.specs.Upgrade.{session_text}
use Rattle.lab_plan.specs.Longer.{with_one_more, more_refusal}
use Rattle.lab_plan.specs.IsPlan.{IsPlan}
use Rattle.legal_steps.specs.declared.event.Event.{Event}
use Rattle.legal_steps.specs.declared.event.StepLine.{StepLine}
use Rattle.legal_steps.specs.Opening.{the_opening}
use Rattle.legal_steps.specs.Run.{IsLegalFrom}
use Rattle.script_reader.specs.Script.{ScriptMeans}
use Rattle.script_reader.specs.More.{sessions_in}
use Rattle.script_reader.specs.Steps.{StepsMean}
use Rattle.explaining.specs.Explanations.{events_from_opening}
use Rattle.written_steps.specs.StepLists.{script_head}
use Rattle.journal_texts.specs.Lines.{AreWholeLines}
use Rattle.journal_texts.specs.More.{more_text}
use Rattle.journal_texts.specs.Sums.{wrong_sum}
use Rattle.journal_texts.specs.Additions.{additions}
use Rattle.journal_texts.specs.Parts.{Part, parts_text, IsHistory, AreFirst}
use Rattle.journal_texts.specs.Texts.{Piece, events_of, journal_text, piece_text, pieces_of, file_text}

-- the file is read as the plan and as steps of exactly these events, no sum in it is wrong, and no session came
pub record IsRead (plan : LabPlan) (file : List ℕ) (events : List Event) : Type 0 where
  pub steps : List StepLine
  pub means : StepsMean file plan steps
  pub events_are : events_from_opening plan steps ≡ events
  pub sums : wrong_sum file ≡ None
  pub none_came : additions file ≡ []

-- a file of a script and texts that were taken one after another, each of them to its end or cut behind a line, is read as their events, if these are legal
-- one after another
abbrev pub FilesAreRead : Type 0
FilesAreRead =
    (plan : LabPlan) (script : List ℕ) (pieces : List Piece) → IsPlan plan → ScriptMeans script plan
    → IsLegalFrom plan (the_opening plan) (events_of pieces) → length (events_of pieces) ≤ 1000000
    → IsRead plan (file_text plan script pieces) (events_of pieces)

-- so is each beginning of it that is whole lines, as a beginning of these events
abbrev pub BeginningsAreRead : Type 0
BeginningsAreRead =
    (plan : LabPlan) (script : List ℕ) (pieces : List Piece) (front back : List ℕ) → IsPlan plan → ScriptMeans script plan
    → IsLegalFrom plan (the_opening plan) (events_of pieces) → length (events_of pieces) ≤ 1000000
    → front ++ back ≡ flat_map (piece_text plan) pieces → AreWholeLines front (length front)
    → (n : ℕ) × IsRead plan (script_head script ++ front) (take n (events_of pieces))

-- the text has the first of these parts, which are a lab's too, and a rest without a line end
pub record HasParts (plan : LabPlan) (parts : List Part) (front : List ℕ) : Type 0 where
  pub first : List Part
  pub are_first : AreFirst first parts
  pub history : IsHistory plan (the_opening plan) first
  pub rest : List ℕ
  pub text : front ≡ parts_text plan first ++ rest
  pub no_line : (k : ℕ) → k < length rest → slice_index rest k ≢ 10

-- the texts of a lab's parts, cut at any byte, are those of the first of them, and a rest without a line end
abbrev pub CutsAreParts : Type 0
CutsAreParts =
    (plan : LabPlan) (parts : List Part) (front back : List ℕ) → IsPlan plan → IsHistory plan (the_opening plan) parts → front ++ back ≡ parts_text plan parts
    → HasParts plan parts front

-- texts that were taken one after another are pieces, which have the same events
abbrev pub TextsArePieces : Type 0
TextsArePieces =
    (plan : LabPlan) (lists : List (List Event))
    → (flat_map (journal_text plan) lists ≡ flat_map (piece_text plan) (pieces_of lists)) × (events_of (pieces_of lists) ≡ flat_map (λ events. events) lists)

-- the lines of a session that a plan takes are read as that session
abbrev pub SessionsAreReadBack : Type 0
SessionsAreReadBack =
    (plan : LabPlan) (j : ℕ) (session : SessionPlan) → IsPlan plan → j < length plan.jobs → more_refusal plan j session ≡ None
    → sessions_in plan j (session_text plan session) ≡ Ok (session ∷ [])

-- what is told of a session stays the same when another one comes
abbrev pub TextsStay : Type 0
TextsStay =
    (plan : LabPlan) (j s k : ℕ) (session : SessionPlan) → k < length plan.jobs → more_refusal plan k session ≡ None → s - 1 < length (sessions plan j)
    → more_text (with_one_more plan k session) j s ≡ more_text plan j s
