-- What a log keeps.
use Rattle.std.specs.Prelude.{◌≡◌, ℕ, ◌+◌, ◌-◌, ◌≤◌, ◌<◌, ◌^◌, false, List, length, drop}
use Rattle.bay_log.specs.declared.line.Line.{Line}
use Rattle.bay_log.specs.declared.log.Log.TheInside.{Inside}
use Rattle.bay_log.specs.Lines.{AreLines, log_text, last_sum, base_of, bay_of, is_none}

-- of these lines: the text that is kept is the end of the text of all lines
pub record Keeps (all : List Line) (kept : List ℕ) (from handed : ℕ) (last : List ℕ) : Type 0 where
  pub lines : AreLines all
  pub begun : is_none all ≡ false
  pub base : base_of all ≤ from
  pub within : from ≤ base_of all + length (log_text all)
  pub room : base_of all + length (log_text all) < 2 ^ 64
  pub text : kept ≡ drop (from - base_of all) (log_text all)
  pub sent : handed ≤ length kept
  pub sum : last ≡ last_sum all

-- and it is the log of this bay
pub record IsLog (l : Inside) : Type 0 where
  pub keeps : Keeps l.past.lines l.text.items l.base l.sent l.sum
  pub bay : bay_of l.past.lines ≡ l.bay
