-- For readers: what holds of the journal, wherever it is cut, and whatever line is changed.
use Rattle.std.specs.Prelude.{◌≡◌, ℕ, ◌+◌, ◌-◌, ◌<◌, ◌≤◌, true, false, if◌then◌else◌, List, [], ◌∷◌, ◌++◌, length, take, Some, count_by}
use Rattle.std.specs.List.{list_any}
use Rattle.hex.specs.Hex.{encode_lower}
use Rattle.bay_log.specs.declared.line.Entry.{Entry}
use Rattle.bay_log.specs.declared.line.Line.{Line}
use Rattle.bay_log.specs.declared.reading.Found.{Found}
use Rattle.bay_log.specs.Lines.{body, sum_of, line_words, text_after, last_sum, log_text, AreLines, AreLinesFrom, base_of}
use Rattle.bay_log.specs.Logs.{LogView, end_of, unsent_of, adding, sending, reaching, failing, IsStanding}
use Rattle.bay_log.specs.Reads.{IsOneLine, IsRead, IsFault}
use Rattle.bay_log.specs.Alive.{after, alive, begins}

-- one list begins with the other
abbrev pub BeginsWith : List Line → List Line → Type 0
BeginsWith lines front = (rest : List Line) × (lines ≡ front ++ rest)

-- ---- what is written is read again

pub record LinesAreRead : Type 0 where
  pub lines : (lines : List Line) (found : Found) → AreLines lines → IsRead (log_text lines) found → found.lines.items ≡ lines
  pub fault : (lines : List Line) (n : ℕ) → AreLines lines → IsFault (log_text lines) n → ⊥

-- ---- cut at any byte

-- Of a file that was cut the first lines are read; and no line is lost that stands whole in what is left.
pub record CutLinesAreRead : Type 0 where
  pub first :
      (lines : List Line) (front back : List ℕ) (found : Found) → AreLines lines → log_text lines ≡ front ++ back → IsRead front found
      → BeginsWith lines found.lines.items
  pub whole :
      (lines : List Line) (front back : List ℕ) (found : Found) → AreLines lines → log_text lines ≡ front ++ back → IsRead front found
      → (some : List Line) → BeginsWith lines some → length (log_text some) ≤ length front → BeginsWith found.lines.items some
  pub fault : (lines : List Line) (front back : List ℕ) (n : ℕ) → AreLines lines → log_text lines ≡ front ++ back → IsFault front n → ⊥

-- The lines that ended where the file is durable, or before, are read of every file that has what is durable and is a beginning of the one text.
abbrev pub DurableLinesAreRead : Type 0
DurableLinesAreRead =
    (log : LogView) (file back : List ℕ) (found : Found) → IsStanding log → log_text log.lines ≡ file ++ back
    → log.durable ≤ base_of log.lines + length file → IsRead file found
    → (some : List Line) → BeginsWith log.lines some → base_of log.lines + length (log_text some) ≤ log.durable → BeginsWith found.lines.items some

-- ---- a line is changed

-- behind a line whose sum is a, where it was b: the first line has the same sum behind both
abbrev pub Agrees : List ℕ → List ℕ → List Line → Type 0
Agrees a b [] = Unit {0}
Agrees a b (line ∷ lines) = encode_lower (sum_of a (body line)) ≡ encode_lower (sum_of b (body line))

-- a file in which other words stand in the place of a line
abbrev pub changed : List Line → Line → List Line → List ℕ → List ℕ
changed before line behind words = log_text before ++ words ++ 10 ∷ text_after (sum_of (last_sum before) (body line)) behind

-- A changed line is refused, or a later one is, unless what stands there is another line that has its own sum, and the line behind it has the same
-- sum behind both.
pub record ChangedLineIsRefused : Type 0 where
  pub fault :
      (before behind : List Line) (line : Line) (words : List ℕ) (n : ℕ) → AreLines (before ++ line ∷ behind)
      → IsFault (changed before line behind words) n → length before < n
  pub read :
      (before behind : List Line) (line : Line) (words : List ℕ) (found : Found) → AreLines (before ++ line ∷ behind) → IsOneLine words
      → IsRead (changed before line behind words) found
      → (other : Line) × (line_words (last_sum before) other ≡ words)
      × Agrees (sum_of (last_sum before) (body other)) (sum_of (last_sum before) (body line)) behind
  -- lines that were written behind another sum: one is left out before them, or they were moved
  pub moved :
      (before behind : List Line) (sum : List ℕ) (found : Found) → AreLines before → AreLinesFrom false behind
      → IsRead (log_text before ++ text_after sum behind) found → Agrees (last_sum before) sum behind
  -- a line whose sum stayed as it was
  pub sum :
      (before : List ℕ) (line other : Line) → take 17 (line_words before other) ≡ take 17 (line_words before line)
      → encode_lower (sum_of before (body other)) ≡ encode_lower (sum_of before (body line))

-- ---- the file is at all times a beginning of the one text

-- what was handed out so far, and what of it is durable
abbrev pub handed_of : LogView → List ℕ
handed_of log = take (log.sent - base_of log.lines) (log_text log.lines)

abbrev pub durable_of : LogView → List ℕ
durable_of log = take (log.durable - base_of log.lines) (log_text log.lines)

pub record FileIsABeginning (log : LogView) : Type 0 where
  pub all : log_text log.lines ≡ handed_of log ++ unsent_of log
  pub added : (line : Line) → handed_of (adding log line) ≡ handed_of log
  pub sent : handed_of (sending log) ≡ handed_of log ++ unsent_of log
  pub reached : (position : ℕ) → handed_of (reaching log position) ≡ handed_of log
  pub failed : handed_of (failing log) ≡ durable_of log
  pub durable : (rest : List ℕ) × (handed_of log ≡ durable_of log ++ rest)

abbrev pub FilesAreBeginnings : Type 0
FilesAreBeginnings = (log : LogView) → IsStanding log → FileIsABeginning log

-- ---- who holds

-- Whoever holds after all lines held after each beginning of them in which it began to hold, if no number begins to hold twice.
pub record HoldsAtTheCut : Type 0 where
  pub behind :
      (n : ℕ) (entry : Entry) (front back : List Line) → alive (front ++ back) n ≡ Some entry → list_any (begins n) back ≡ false
      → alive front n ≡ Some entry
  pub once :
      (n : ℕ) (entry : Entry) (front back : List Line) → alive (front ++ back) n ≡ Some entry → count_by (begins n) (front ++ back) ≤ 1
      → list_any (begins n) front ≡ true → alive front n ≡ Some entry

-- what a line more changes
pub record GrowsBy (log : LogView) (line : Line) : Type 0 where
  pub held : (n : ℕ) → alive (adding log line).lines n ≡ after (alive log.lines) line n
  pub counted : (n : ℕ) → count_by (begins n) (adding log line).lines ≡ count_by (begins n) log.lines + (if begins n line then 1 else 0)
  pub later : end_of log < end_of (adding log line)

abbrev pub GrowsByALine : Type 0
GrowsByALine = (log : LogView) (line : Line) → IsStanding log → GrowsBy log line

-- An ask that holds, and whose beginning ended where the file is durable, or before, holds by the lines that are read of every file that has what is
-- durable and is a beginning of the one text.
abbrev pub DurableHoldsAreRead : Type 0
DurableHoldsAreRead =
    (log : LogView) (file back : List ℕ) (found : Found) → IsStanding log → log_text log.lines ≡ file ++ back
    → log.durable ≤ base_of log.lines + length file → IsRead file found
    → (some : List Line) → BeginsWith log.lines some → base_of log.lines + length (log_text some) ≤ log.durable
    → (n : ℕ) (entry : Entry) → list_any (begins n) some ≡ true → count_by (begins n) log.lines ≤ 1 → alive log.lines n ≡ Some entry
    → alive found.lines.items n ≡ Some entry
