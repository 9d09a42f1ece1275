-- For readers: what holds of journals.
use Rattle.std.specs.Prelude.{◌≡◌, ◌≢◌, ℕ, ◌≤◌, true, List, [], ◌++◌, length, take, None}
use Rattle.std.specs.List.{All, flat_map}
use Rattle.lab_plan.specs.LabPlan.{LabPlan}
use Rattle.lab_plan.specs.IsPlan.{IsPlan}
use Rattle.legal_steps.specs.declared.event.Event.{Event}
use Rattle.legal_steps.specs.declared.event.StepLine.{StepLine}
use Rattle.legal_steps.specs.declared.phase.Drinking.TheVariants.{Reaching}
use Rattle.legal_steps.specs.declared.counts.Counts.{Counts}
use Rattle.legal_steps.specs.State.{State, drinking}
use Rattle.legal_steps.specs.Legal.{IsJob}
use Rattle.legal_steps.specs.Opening.{the_opening}
use Rattle.legal_steps.specs.Run.{IsLegalFrom, after_all}
use Rattle.interleaving.specs.Kept.{IsKept}
use Rattle.interleaving.specs.World.{WorldView, IsReachedBy, LeadsTo}
use Rattle.script_reader.specs.declared.fault.ScriptCause.TheVariants as causes
use Rattle.script_reader.specs.Script.{ScriptMeans}
use Rattle.explaining.specs.Explanations.{events_from_opening}
use Rattle.lab_program.specs.declared.faults.RunFault.{RunFault}
use Rattle.lab_program.specs.declared.faults.RunFault.TheVariants.{Script, NoMemory}
use Rattle.live_lab.specs.Labs.{LabView}
use Rattle.written_steps.specs.StepLists.{script_head}
use Rattle.journal_texts.specs.Lines.{AreWholeLines}
use Rattle.journal_texts.specs.Texts.{Piece, events_of, piece_text, file_text}
use Rattle.journal_texts.specs.Sums.{wrong_sum}
use Rattle.journal_texts.specs.Parts.{Part, plan_after, events_in, parts_text, AreTaken, IsHistory, AreFirst}
use Rattle.journal_texts.specs.Reading.{IsRead}
use Rattle.lab_journal.specs.Taking.{taken}
use Rattle.lab_journal.specs.Meaning.{JournalMeans}
use Rattle.lab_journal.specs.Resumed.{IsAct, IsResumed, IsNotResumed}

-- ---- what was taken stays taken

-- whatever calls do, as long as no event is left out
abbrev pub JournalsFollow : Type 0
JournalsFollow = (x y : WorldView) (events : List Event) → LeadsTo x events y → IsKept x.past x.kept → y.kept.whole ≡ true → taken y ≡ taken x

-- ---- the way back

-- whatever lab is resumed from it has this state and these counts
abbrev pub ResumesAt : List ℕ → LabPlan → State → List Counts → Type 0
ResumesAt file plan s counts =
    (n : ℕ) (x : LabView) → IsResumed file n x → (n ≡ length file) × (x.world.plan ≡ plan) × (x.world.state ≡ s) × (x.world.counts ≡ counts)

-- A file of a script and texts that were taken one after another, each of them to its end or cut behind a line, comes back: it is read as their events, and if
-- these lead to a state in which no command is in hand, the lab that is resumed from it stands there
abbrev pub JournalComesBack : Type 0
JournalComesBack =
    (plan : LabPlan) (script : List ℕ) (pieces : List Piece) (s : State) (counts : List Counts) → ScriptMeans script plan
    → IsReachedBy plan (the_opening plan) (events_of pieces) s counts → length (events_of pieces) ≤ 1000000
    → IsRead plan (file_text plan script pieces) (events_of pieces)
    × (((j : ℕ) → IsJob plan j → drinking s j ≢ Reaching) → ResumesAt (file_text plan script pieces) plan s counts)

-- So does each beginning of it that is whole lines: it is read as a beginning of these events, and the lab that is resumed from it stands where those lead, if
-- no command is in hand there
abbrev pub BeginningsComeBack : Type 0
BeginningsComeBack =
    (plan : LabPlan) (script : List ℕ) (pieces : List Piece) (front back : List ℕ) → IsPlan plan → ScriptMeans script plan
    → IsLegalFrom plan (the_opening plan) (events_of pieces) → length (events_of pieces) ≤ 1000000
    → front ++ back ≡ flat_map (piece_text plan) pieces → AreWholeLines front (length front)
    → (n : ℕ) × IsRead plan (script_head script ++ front) (take n (events_of pieces))
    × ((s : State) (counts : List Counts) → IsReachedBy plan (the_opening plan) (take n (events_of pieces)) s counts
    → ((j : ℕ) → IsJob plan j → drinking s j ≢ Reaching) → ResumesAt (script_head script ++ front) plan s counts)

-- ---- sessions that came

-- the file is read as the plan of a script with sessions that came, and as steps of exactly these events, and no sum in it is wrong
pub record IsReadAs (plan : LabPlan) (file : List ℕ) (events : List Event) : Type 0 where
  pub steps : List StepLine
  pub means : JournalMeans file plan steps
  pub events_are : events_from_opening plan steps ≡ events
  pub sums : wrong_sum file ≡ None

-- A file of a script, texts of events and texts of sessions, in the order in which they were written, comes back too: it is read as the plan with all
-- these sessions, each of which the plan took when it came, and as these events; and the lab that is resumed from it has this plan, and stands where the
-- events lead by it, if no command is in hand there
abbrev pub SessionsComeBack : Type 0
SessionsComeBack =
    (plan : LabPlan) (script : List ℕ) (parts : List Part) (s : State) (counts : List Counts) → IsPlan plan → ScriptMeans script plan → AreTaken plan parts
    → (let longer = plan_after plan parts in
    IsReachedBy longer (the_opening longer) (events_in parts) s counts → length (events_in parts) ≤ 1000000
    → IsReadAs longer (script_head script ++ parts_text plan parts) (events_in parts)
    × (((j : ℕ) → IsJob longer j → drinking s j ≢ Reaching) → ResumesAt (script_head script ++ parts_text plan parts) longer s counts))

-- ---- a file that was cut

-- The world has this plan; from the initial state on these events were done in it, and behind them the commands that were in hand, and nothing else. These are
-- kept
pub record HasDone (plan : LabPlan) (events : List Event) (w : WorldView) : Type 0 where
  pub same_plan : w.plan ≡ plan
  pub opening : w.opening ≡ the_opening plan
  pub acts : List Event
  pub are_acts : All IsAct acts
  pub past : w.past ≡ events ++ acts
  pub reached : IsReachedBy plan (the_opening plan) (events ++ acts) w.state w.counts
  pub none_in_hand : (j : ℕ) → IsJob plan j → drinking w.state j ≢ Reaching
  pub none_left : ((j : ℕ) → IsJob plan j → drinking (after_all plan (the_opening plan) events) j ≢ Reaching) → acts ≡ []
  pub kept : w.kept.events ≡ acts
  pub whole : w.kept.whole ≡ true

-- whatever lab is resumed from the file takes n bytes of it, and has done these events
abbrev pub ComesBackAs : List ℕ → ℕ → LabPlan → List Event → Type 0
ComesBackAs file n plan events = (m : ℕ) (x : LabView) → IsResumed file m x → (m ≡ n) × HasDone plan events x.world

-- a fault that only says that there was no memory
abbrev pub IsForMemory : RunFault → Type 0
IsForMemory (Script fault) = fault.cause ≡ causes.NoMemory
IsForMemory NoMemory = Unit {0}
IsForMemory _ = ⊥

-- What is whole of a file of a script and this text is the script and the first of these parts, the last of them perhaps what is left of one. This much
-- is read as the script's plan with the sessions of these parts, and as their events; and whatever lab is resumed from the file has this plan and has done
-- these events; and only for want of memory there is none
pub record ComesBackCut (plan : LabPlan) (script : List ℕ) (parts : List Part) (text : List ℕ) : Type 0 where
  pub first : List Part
  pub are_first : AreFirst first parts
  pub history : IsHistory plan (the_opening plan) first
  pub rest : List ℕ
  pub text_is : text ≡ parts_text plan first ++ rest
  pub lines : AreWholeLines (script_head script ++ text) (length (script_head script ++ parts_text plan first))
  pub read : IsReadAs (plan_after plan first) (script_head script ++ parts_text plan first) (events_in first)
  pub resumed : ComesBackAs (script_head script ++ text) (length (script_head script ++ parts_text plan first)) (plan_after plan first) (events_in first)
  pub refused : (fault : RunFault) → IsNotResumed (script_head script ++ text) fault → IsForMemory fault

-- So does a file that was cut behind the parts that are safe, at any byte of the later ones: all that is safe is there, and what is left of the later ones
pub record ComesBackBehind (plan : LabPlan) (script : List ℕ) (safe later : List Part) (tail : List ℕ) : Type 0 where
  pub left : List Part
  pub are_first : AreFirst left later
  pub cut : ComesBackCut plan script (safe ++ later) (parts_text plan safe ++ tail)
  pub is : cut.first ≡ safe ++ left

abbrev pub CutsBehindComeBack : Type 0
CutsBehindComeBack =
    (plan : LabPlan) (script : List ℕ) (safe later : List Part) (tail back : List ℕ) → IsPlan plan → ScriptMeans script plan
    → IsHistory plan (the_opening plan) (safe ++ later) → length (events_in (safe ++ later)) ≤ 1000000
    → tail ++ back ≡ parts_text (plan_after plan safe) later → ComesBackBehind plan script safe later tail

-- So does a file of a script and a lab's parts that was cut at any byte behind its line `steps`
abbrev pub CutsComeBack : Type 0
CutsComeBack =
    (plan : LabPlan) (script : List ℕ) (parts : List Part) (front back : List ℕ) → IsPlan plan → ScriptMeans script plan
    → IsHistory plan (the_opening plan) parts → length (events_in parts) ≤ 1000000 → front ++ back ≡ parts_text plan parts
    → ComesBackCut plan script parts front
