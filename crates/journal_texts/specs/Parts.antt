-- For readers: a journal of a lab that sessions came to, as its parts were written.
use Rattle.std.specs.Prelude.{◌≡◌, ◌≢◌, ◌⊎◌, ℕ, ◌+◌, ◌<◌, Bool, true, not, ◌&&◌, ◌==◌, List, [], ◌∷◌, ◌++◌, length, take, codes, None}
use Rattle.std.specs.List.{list_all, AllByRecursion, flat_map}
use Rattle.lab_plan.specs.LabPlan.{LabPlan, SessionPlan, sessions, session_at}
use Rattle.lab_plan.specs.Longer.{with_one_more, more_refusal}
use Rattle.legal_steps.specs.declared.event.Event.{Event}
use Rattle.legal_steps.specs.declared.phase.Drinking.TheVariants.{Retired}
use Rattle.legal_steps.specs.State.{State, drinking}
use Rattle.legal_steps.specs.Run.{IsLegalFrom, after_all}
use Rattle.journal_texts.specs.Texts.{Piece, piece_text}
use Rattle.journal_texts.specs.More.{more_lines, begun, broken}

-- a line of whoever keeps the lab: who owns a session, and how a session ended. Its words are that layer's
pub data Mark : Type 0 where
  Own : (words : List ℕ) → Mark
  End : (words : List ℕ) → Mark

-- Events of one text. A session that came to a job: its text is there up to its end, or was cut behind its line `#+end`. Or a text of a session that was cut
-- before that line, and has this many of its lines: the session didn't come. Or a comment between two texts. Or lines of whoever keeps the lab, in a text
-- of their own
pub data Part : Type 0 where
  Took : (piece : Piece) → Part
  Came : (job : ℕ) → (session : SessionPlan) → (ended : Bool) → Part
  Broke : (job : ℕ) → (session : SessionPlan) → (many : ℕ) → Part
  Said : (words : List ℕ) → Part
  Noted : (marks : List Mark) → (ended : Bool) → Part

-- the plan with the sessions that came
abbrev pub plan_after : LabPlan → List Part → LabPlan
plan_after plan [] = plan
plan_after plan (Took piece ∷ parts) = plan_after plan parts
plan_after plan (Came j session ended ∷ parts) = plan_after (with_one_more plan j session) parts
plan_after plan (Broke j session many ∷ parts) = plan_after plan parts
plan_after plan (Said words ∷ parts) = plan_after plan parts
plan_after plan (Noted marks ended ∷ parts) = plan_after plan parts

-- all events, in order
abbrev pub events_in : List Part → List Event
events_in [] = []
events_in (Took piece ∷ parts) = piece.events ++ events_in parts
events_in (Came j session ended ∷ parts) = events_in parts
events_in (Broke j session many ∷ parts) = events_in parts
events_in (Said words ∷ parts) = events_in parts
events_in (Noted marks ended ∷ parts) = events_in parts

-- what is told of session s of job j, with its sum (`more_text`) or not yet
abbrev pub came_text : LabPlan → ℕ → ℕ → Bool → List ℕ
came_text plan j s ended = begun (more_lines plan j (session_at plan j s)) ended

-- a comment
abbrev pub said : List ℕ → List ℕ
said words = codes "# " ++ words

-- of one line, neither a line feed nor a carriage return in it
abbrev pub is_plain : ℕ → Bool
is_plain b = not (b == 10) && not (b == 13)

abbrev pub ArePlain : List ℕ → Type 0
ArePlain words = list_all is_plain words ≡ true

abbrev pub mark_line : Mark → List ℕ
mark_line (Own words) = codes "#own " ++ words
mark_line (End words) = codes "#end " ++ words

abbrev pub mark_words : Mark → List ℕ
mark_words (Own words) = words
mark_words (End words) = words

abbrev pub marks_text : List Mark → List ℕ
marks_text marks = flat_map (λ (m : Mark). mark_line m ++ codes "\n") marks

abbrev pub AreMarks : List Mark → Type 0
AreMarks marks = AllByRecursion (λ (m : Mark). ArePlain (mark_words m)) marks

-- the text of each, by the plan as it then was: of a session that came, by the plan that has it behind its job's others
abbrev pub parts_text : LabPlan → List Part → List ℕ
parts_text plan [] = []
parts_text plan (Took piece ∷ parts) = piece_text plan piece ++ parts_text plan parts
parts_text plan (Came j session ended ∷ parts) =
    came_text (with_one_more plan j session) j (length (sessions plan j) + 1) ended ++ parts_text (with_one_more plan j session) parts
parts_text plan (Broke j session many ∷ parts) = broken plan j session many ++ parts_text plan parts
parts_text plan (Said words ∷ parts) = (said words ++ codes "\n") ++ parts_text plan parts
parts_text plan (Noted marks ended ∷ parts) = begun (marks_text marks) ended ++ parts_text plan parts

-- each session is one that the plan took when it came, and each comment and each mark is one line
abbrev pub AreTaken : LabPlan → List Part → Type 0
AreTaken plan [] = Unit {0}
AreTaken plan (Took piece ∷ parts) = AreTaken plan parts
AreTaken plan (Came j session ended ∷ parts) = (j < length plan.jobs) × (more_refusal plan j session ≡ None) × AreTaken (with_one_more plan j session) parts
AreTaken plan (Broke j session many ∷ parts) = (j < length plan.jobs) × (more_refusal plan j session ≡ None) × AreTaken plan parts
AreTaken plan (Said words ∷ parts) = ArePlain words × AreTaken plan parts
AreTaken plan (Noted marks ended ∷ parts) = AreMarks marks × AreTaken plan parts

-- ---- as a lab writes them

-- The parts are a lab's, from this state on: the events are legal, one after another, by the plan as it then was; and each session is one that this plan took,
-- of a job that hadn't retired
abbrev pub IsHistory : LabPlan → State → List Part → Type 0
IsHistory plan s [] = Unit {0}
IsHistory plan s (Took piece ∷ parts) = IsLegalFrom plan s piece.events × IsHistory plan (after_all plan s piece.events) parts
IsHistory plan s (Came j session ended ∷ parts) =
    (j < length plan.jobs) × (more_refusal plan j session ≡ None) × (drinking s j ≢ Retired) × IsHistory (with_one_more plan j session) s parts
IsHistory plan s (Broke j session many ∷ parts) = (j < length plan.jobs) × (more_refusal plan j session ≡ None) × IsHistory plan s parts
IsHistory plan s (Said words ∷ parts) = ArePlain words × IsHistory plan s parts
IsHistory plan s (Noted marks ended ∷ parts) = AreMarks marks × IsHistory plan s parts

-- ---- as a file has them that was cut

-- What is left of a part: of events or marks the first ones, of a session that came all its lines, or not so many that it came
abbrev pub IsLeftOf : Part → Part → Type 0
IsLeftOf (Took left) (Took all) = (n : ℕ) × (left.events ≡ take n all.events)
IsLeftOf (Came j session ended) (Came k other whole) = (j ≡ k) × (session ≡ other)
IsLeftOf (Broke j session many) (Came k other whole) = (j ≡ k) × (session ≡ other)
IsLeftOf (Broke j session many) (Broke k other more) = (j ≡ k) × (session ≡ other)
IsLeftOf (Noted left ended) (Noted all whole) = (n : ℕ) × (left ≡ take n all)
IsLeftOf _ _ = ⊥

-- the first parts, of which the last may be what is left of one
abbrev pub AreFirst : List Part → List Part → Type 0
AreFirst [] parts = Unit {0}
AreFirst (part ∷ first) [] = ⊥
AreFirst (part ∷ first) (next ∷ parts) = ((part ≡ next) × AreFirst first parts) ⊎ ((first ≡ []) × IsLeftOf part next)
