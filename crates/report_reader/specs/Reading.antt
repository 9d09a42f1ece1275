-- For readers: what a reader answers on a text.
use Rattle.std.specs.Prelude.{ℕ, ◌≡◌, ◌+◌, List, [], ◌∷◌, ◌++◌, Option, None, Some, Result, Ok, Err, length, map, ◌⊎◌}
use Rattle.report_reader.specs.declared.fault.ReportCause.{ReportCause}
use Rattle.report_reader.specs.declared.fault.ReportCause.TheVariants.{UnknownLine, NotWhole, NoMemory}
use Rattle.report_reader.specs.declared.fault.ReportFault.{ReportFault}
use Rattle.report_reader.specs.Line.{Line}
use Rattle.report_reader.specs.Report.{ReportText, text_lines, words, lines_of, IsTextOf}
use Rattle.report_reader.specs.Line.{words_of}
use Rattle.report_reader.specs.Read.{line_of}
use Rattle.report_reader.specs.State.{State, opening, cause_in, after, Ends}

-- the line that a part of the text is, if it is one
abbrev pub line_in : List ℕ → Option Line
line_in part = line_of (words part)

-- each of these lines may stand where it does, and they lead from one state to another
abbrev pub Leads : State → List Line → State → Type 0
Leads s [] t = s ≡ t
Leads s (line ∷ lines) t = (cause_in s line ≡ None) × Leads (after s line) lines t

-- parts of a text are lines of a report, each where it may stand, and this is known behind them
abbrev pub Known : List (List ℕ) → State → Type 0
Known parts s = (lines : List Line) × (map line_in parts ≡ map (λ line. Some line) lines) × Leads opening lines s

-- the next part is no line, or one that meets a cause
abbrev pub Meets : State → Option Line → ReportCause → Type 0
Meets s None cause = cause ≡ UnknownLine
Meets s (Some line) cause = cause_in s line ≡ Some cause

-- the part with this number is the first that isn't a line where it may stand
abbrev pub IsFaultAtLine : List (List ℕ) → ℕ → ReportCause → Type 0
IsFaultAtLine parts number cause =
    (front : List (List ℕ)) × (part : List ℕ) × (back : List (List ℕ)) × (s : State)
    × (parts ≡ front ++ part ∷ back) × (number ≡ 1 + length front) × Known front s × Meets s (line_in part) cause

-- each part except the last is a line where it may stand, and no report ends so: something is left behind the last line feed, or the last line is missing
abbrev pub IsCutOff : List (List ℕ) → List ℕ → ℕ → ReportCause → Type 0
IsCutOff parts tail number cause =
    (s : State) × Known parts s × (number ≡ 1 + length parts) × (cause ≡ NotWhole) × (((tail ≡ []) → ⊥) ⊎ Ends s (Err NotWhole))

-- why parts, each ended by a line feed, with what is left behind the last, are no report
abbrev pub Refuses : List (List ℕ) → List ℕ → ReportFault → Type 0
Refuses parts tail fault = IsFaultAtLine parts fault.line fault.cause ⊎ IsCutOff parts tail fault.line fault.cause

abbrev pub AnswersParts : List (List ℕ) → List ℕ → Result ReportText ReportFault → Type 0
AnswersParts parts tail (Ok report) = (map words parts ≡ map words_of (lines_of report)) × (tail ≡ [])
AnswersParts parts tail (Err fault) = (fault.cause ≡ NoMemory) ⊎ Refuses parts tail fault

-- what a reader answers on a text: the report whose text it is; else its fault, or that memory ran out
abbrev pub Answers : List ℕ → Result ReportText ReportFault → Type 0
Answers text (Ok report) = IsTextOf report text
Answers text (Err fault) = (fault.cause ≡ NoMemory)
    ⊎ ((parts : List (List ℕ)) × (tail : List ℕ) × (text_lines text ≡ parts ++ tail ∷ []) × Refuses parts tail fault)
