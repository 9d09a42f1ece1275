-- Which session stands right behind which, and columns that are given to one session after another.
use Rattle.std.specs.Prelude.{ℕ, ◌≡◌, ◌≢◌, ◌⊎◌, ◌+◌, ◌*◌, ◌/◌, ◌<◌, ◌≤◌, Bool, true, false, Some, slice_index_or, List, length, slice_get}
use Rattle.std.specs.List.{Contains, count_by}
use Rattle.lab_plan.specs.Limits.{most_jobs, most_sessions, most_commands}
use Rattle.report_reader.specs.Line.{EntryText, JobText}
use Rattle.report_reader.specs.Report.{LogText}
use Rattle.timeline.specs.declared.span.Span.{Span}
use Rattle.timeline.specs.Spans.{slot_of}

-- the entries are of two sessions, which are kept in these slots
pub record AreOf (jobs : List JobText) (before entry : EntryText) (x y : ℕ) : Type 0 where
  pub of_first : slot_of jobs before ≡ Some x
  pub of_second : slot_of jobs entry ≡ Some y
  pub other : x ≢ y

-- in a log the session in one slot stands right before that in another
pub record StandsBefore (jobs : List JobText) (entries : List EntryText) (x y : ℕ) : Type 0 where
  pub place : ℕ
  pub before : EntryText
  pub entry : EntryText
  pub first : slice_get entries place ≡ Some before
  pub second : slice_get entries (place + 1) ≡ Some entry
  pub are : AreOf jobs before entry x y

-- in some log of the report it does
pub record Precedes (jobs : List JobText) (logs : List LogText) (x y : ℕ) : Type 0 where
  pub i : ℕ
  pub log : LogText
  pub stands : slice_get logs i ≡ Some log
  pub follows : StandsBefore jobs log.entries x y

-- the slot is marked
abbrev pub IsOpen : List Bool → ℕ → Type 0
IsOpen marks slot = slice_index_or marks slot false ≡ true

-- a log has an entry of the session in this slot
pub record IsIn (jobs : List JobText) (entries : List EntryText) (x : ℕ) : Type 0 where
  pub place : ℕ
  pub entry : EntryText
  pub there : slice_get entries place ≡ Some entry
  pub of : slot_of jobs entry ≡ Some x

-- in some log of the report it does
pub record IsUsed (jobs : List JobText) (logs : List LogText) (x : ℕ) : Type 0 where
  pub i : ℕ
  pub log : LogText
  pub stands : slice_get logs i ≡ Some log
  pub is_in : IsIn jobs log.entries x

-- besides those that were marked, the slots are of which the first entries of a log are
pub record MarksBelow (jobs : List JobText) (entries : List EntryText) (n : ℕ) (old new : List Bool) : Type 0 where
  pub long : length new ≡ length old
  pub kept : (x : ℕ) → IsOpen old x → IsOpen new x
  pub only : (x : ℕ) → IsOpen new x → IsOpen old x ⊎ IsIn jobs entries x
  pub all : (x : ℕ) (is : IsIn jobs entries x) → is.place < n → IsOpen new x

-- those of all entries of it
abbrev pub Marks : List JobText → List EntryText → List Bool → List Bool → Type 0
Marks jobs entries old new = MarksBelow jobs entries (length entries) old new

-- of all slots those are marked that logs have entries of
pub record AreUsed (jobs : List JobText) (logs : List LogText) (used : List Bool) : Type 0 where
  pub long : length used ≡ most_jobs * most_sessions
  pub only : (x : ℕ) → IsOpen used x → IsUsed jobs logs x
  pub all : (x : ℕ) → IsUsed jobs logs x → IsOpen used x

-- of the marked slots of one job the second is the next after the first
pub record IsNextOwn (used : List Bool) (x y : ℕ) : Type 0 where
  pub first : IsOpen used x
  pub second : IsOpen used y
  pub one_job : x / most_sessions ≡ y / most_sessions
  pub later : x < y
  pub none_between : (z : ℕ) → x < z → z < y → ¬ IsOpen used z

-- the pairs are of the sessions that logs have entries of, each with the next one of its job
pub record AreOwnPairs (jobs : List JobText) (logs : List LogText) (pairs : List (ℕ × ℕ)) : Type 0 where
  pub used : List Bool
  pub are_used : AreUsed jobs logs used
  pub only : (x y : ℕ) → Contains pairs (x, y) → IsNextOwn used x y
  pub all : (x y : ℕ) → IsNextOwn used x y → Contains pairs (x, y)

-- to a list the pairs were added of which the first entries of a log have the first session right before the second, and no others
pub record AddsBelow (jobs : List JobText) (entries : List EntryText) (n : ℕ) (old new : List (ℕ × ℕ)) : Type 0 where
  pub kept : (x y : ℕ) → Contains old (x, y) → Contains new (x, y)
  pub only : (x y : ℕ) → Contains new (x, y) → Contains old (x, y) ⊎ StandsBefore jobs entries x y
  pub all : (x y : ℕ) (s : StandsBefore jobs entries x y) → s.place < n → Contains new (x, y)

-- all entries of it
abbrev pub Adds : List JobText → List EntryText → List (ℕ × ℕ) → List (ℕ × ℕ) → Type 0
Adds jobs entries old new = AddsBelow jobs entries (length entries) old new

-- the pairs are each job's own, and those of the sessions of which a log has the first right before the second
pub record ArePairs (jobs : List JobText) (logs : List LogText) (pairs : List (ℕ × ℕ)) : Type 0 where
  pub own : List (ℕ × ℕ)
  pub are_own : AreOwnPairs jobs logs own
  pub only : (x y : ℕ) → Contains pairs (x, y) → Contains own (x, y) ⊎ Precedes jobs logs x y
  pub all_own : (x y : ℕ) → Contains own (x, y) → Contains pairs (x, y)
  pub all : (x y : ℕ) → Precedes jobs logs x y → Contains pairs (x, y)

-- the slot is marked, and a pair has it behind another that is
pub record IsBehind (pairs : List (ℕ × ℕ)) (marks : List Bool) (y : ℕ) : Type 0 where
  pub marked : IsOpen marks y
  pub x : ℕ
  pub first : IsOpen marks x
  pub pair : Contains pairs (x, y)

-- those are marked that one of the first pairs has behind another of some
pub record AreBehindBelow (pairs : List (ℕ × ℕ)) (marks : List Bool) (n : ℕ) (behind : List Bool) : Type 0 where
  pub long : length behind ≡ length marks
  pub only : (y : ℕ) → IsOpen behind y → IsBehind pairs marks y
  pub all : (k x y : ℕ) → k < n → slice_index_or pairs k (0, 0) ≡ (x, y) → IsOpen marks x → IsOpen marks y → IsOpen behind y

-- those that one of all of them has
abbrev pub AreBehind : List (ℕ × ℕ) → List Bool → List Bool → Type 0
AreBehind pairs marks behind = AreBehindBelow pairs marks (length pairs) behind

-- the session in the second slot has its columns right of that in the first
pub record IsRight (spans : List Span) (x y : ℕ) : Type 0 where
  pub left : Span
  pub right : Span
  pub of_first : slice_get spans x ≡ Some left
  pub of_second : slice_get spans y ≡ Some right
  pub before : left.start + left.width ≤ right.start

-- of each pair it has
abbrev pub AreRight : List Span → List (ℕ × ℕ) → Type 0
AreRight spans pairs = (x y : ℕ) → Contains pairs (x, y) → IsRight spans x y

-- as many columns as a session may have commands, within this many
pub record IsWide (spans : List Span) (columns : ℕ) (x : ℕ) : Type 0 where
  pub span : Span
  pub known : slice_get spans x ≡ Some span
  pub wide : span.width ≡ most_commands
  pub inside : span.start + span.width ≤ columns

-- each pair is of slots
abbrev pub AreSlots : List (ℕ × ℕ) → Type 0
AreSlots pairs = (x y : ℕ) → Contains pairs (x, y) → (x < most_jobs * most_sessions) × (y < most_jobs * most_sessions)

-- the sessions that are not left have columns, each right of those that pairs have before it
pub record Placed (pairs : List (ℕ × ℕ)) (left : List Bool) (spans : List Span) (columns : ℕ) : Type 0 where
  pub long : length left ≡ most_jobs * most_sessions
  pub long_spans : length spans ≡ most_jobs * most_sessions
  pub wide : (x : ℕ) → x < most_jobs * most_sessions → ¬ IsOpen left x → IsWide spans columns x
  pub right : (x y : ℕ) → Contains pairs (x, y) → ¬ IsOpen left y → (¬ IsOpen left x) × IsRight spans x y
  pub room : columns + most_commands * count_by (λ b. b) left ≤ most_commands * (most_jobs * most_sessions)

-- each session has columns, right of those that pairs have before it
pub record AreOrdered (pairs : List (ℕ × ℕ)) (spans : List Span) (columns : ℕ) : Type 0 where
  pub wide : (x : ℕ) → x < most_jobs * most_sessions → IsWide spans columns x
  pub right : (x y : ℕ) → Contains pairs (x, y) → IsRight spans x y

-- some sessions of which pairs have each right behind another
pub record AreStuck (pairs : List (ℕ × ℕ)) (marks : List Bool) : Type 0 where
  pub some : ℕ
  pub marked : IsOpen marks some
  pub behind : (y : ℕ) → IsOpen marks y → IsBehind pairs marks y
