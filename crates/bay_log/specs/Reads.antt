-- For readers: what is read of the bytes of a file.
use Rattle.std.specs.Prelude.{◌≡◌, ℕ, ◌+◌, ◌==◌, true, not, List, ◌∷◌, ◌++◌, length, take, drop}
use Rattle.std.specs.List.{list_all}
use Rattle.bay_log.specs.declared.line.Line.{Line}
use Rattle.bay_log.specs.declared.reading.Found.{Found}
use Rattle.bay_log.specs.declared.reading.Fault.{Fault}
use Rattle.bay_log.specs.declared.reading.Fault.TheVariants.{Memory, Wrong}
use Rattle.bay_log.specs.Lines.{line_words, log_text, last_sum, Fits, AreLines, is_head, is_none}

-- no line feed is among the bytes
abbrev pub IsOneLine : List ℕ → Type 0
IsOneLine bytes = list_all (λ (b : ℕ). not (b == 10)) bytes ≡ true

-- the lines fit, and the numbers beside them are theirs
pub record IsSound (found : Found) : Type 0 where
  pub lines : AreLines found.lines.items
  pub used : found.used ≡ length (log_text found.lines.items)
  pub sum : found.sum ≡ last_sum found.lines.items

-- These lines stand whole in the bytes, and behind them there is no whole line.
pub record IsRead (bytes : List ℕ) (found : Found) : Type 0 where
  pub sound : IsSound found
  pub whole : take found.used bytes ≡ log_text found.lines.items
  pub torn : IsOneLine (drop found.used bytes)

-- Behind some lines there stands one that is none: line n, counted from 1.
pub record IsFault (bytes : List ℕ) (n : ℕ) : Type 0 where
  pub lines : List Line
  pub words : List ℕ
  pub rest : List ℕ
  pub sound : AreLines lines
  pub whole : bytes ≡ log_text lines ++ words ++ 10 ∷ rest
  pub one : IsOneLine words
  pub number : n ≡ length lines + 1
  pub none : (line : Line) → Fits line → is_head line ≡ is_none lines → line_words (last_sum lines) line ≡ words → ⊥

abbrev pub IsWhyNotRead : List ℕ → Fault → Type 0
IsWhyNotRead bytes Memory = Unit {0}
IsWhyNotRead bytes (Wrong n) = IsFault bytes n
