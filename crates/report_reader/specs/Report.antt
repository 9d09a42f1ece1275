-- For readers: a report, its lines, and the texts that are a report's.
use Rattle.std.specs.Prelude.{ℕ, ◌≡◌, ◌==◌, Bool, List, [], ◌∷◌, ◌++◌, length, map}
use Rattle.std.specs.List.{flat_map, slice_split}
use Rattle.report_reader.specs.Line.{Line, Header, Instrument, Entry, Job, Last, EntryText, JobText, words_of}

-- an instrument with its log
pub record LogText : Type 0 where
  pub name : List ℕ
  pub entries : List EntryText

pub record ReportText : Type 0 where
  pub version : ℕ
  pub logs : List LogText
  pub jobs : List JobText
  pub is_finished : Bool

-- the lines of a log: its instrument's, which tells how many entries it has, and one for each
abbrev pub log_lines : LogText → List Line
log_lines log = Instrument log.name (length log.entries) ∷ map (λ entry. Entry entry) log.entries

-- the lines of a report
abbrev pub lines_of : ReportText → List Line
lines_of report = Header report.version ∷ (flat_map log_lines report.logs ++ (map (λ job. Job job) report.jobs ++ Last report.is_finished ∷ []))

-- the parts of a text between line feeds, and those of a line between spaces
abbrev pub text_lines : List ℕ → List (List ℕ)
text_lines text = slice_split (λ b. b == 10) text

abbrev pub words : List ℕ → List (List ℕ)
words line = slice_split (λ b. b == 32) line

-- the text is the report's lines, each ended by one line feed: behind the last one nothing stands
abbrev pub IsTextOf : ReportText → List ℕ → Type 0
IsTextOf report text = map words (text_lines text) ≡ map words_of (lines_of report) ++ ([] ∷ []) ∷ []
