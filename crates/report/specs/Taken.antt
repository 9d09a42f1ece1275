-- What a call put into a sink, of which not all need be known.
use Rattle.std.specs.Prelude.{◌≡◌, ℕ, ◌+◌, ◌≤◌, List, length, take}
use Rattle.std.specs.declared.option.Option.{Option}
use Rattle.std.specs.declared.result.Result.{Result}
use Rattle.std.specs.declared.result.Result.TheVariants.{Ok, Err}
use Rattle.std.specs.Io.KnownBytes.{Appends}
use Rattle.report.specs.declared.outlet.WriteFault.{WriteFault}

-- what went out is a prefix of the text
pub record AppendsPrefix (old new : Option (List ℕ)) (text : List ℕ) : Type 0 where
  pub count : ℕ
  pub within : count ≤ length text
  pub taken : Appends old new (take count text)

-- done: exactly the text went out and nothing failed; else the sink failed once, and a prefix of the text went out
abbrev pub Writes : Option (List ℕ) → Option (List ℕ) → ℕ → ℕ → List ℕ → Result (Unit {0}) WriteFault → Type 0
Writes old new before after text (Ok done) = Appends old new text × (after ≡ before)
Writes old new before after text (Err fault) = AppendsPrefix old new text × (after ≡ before + 1)

-- a call sent a text to a sink: what it had taken, and its number of failures, before and after
abbrev pub Sends : {S : Type 0} → (S → Option (List ℕ)) → (S → ℕ) → S → S → List ℕ → Result (Unit {0}) WriteFault → Type 0
Sends taken failures old new text result = Writes (taken old) (taken new) (failures old) (failures new) text result
