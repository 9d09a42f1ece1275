-- What is made of that which clap found.
use Rattle.std.specs.Prelude.{◌≡◌, ◌^◌, ◌&&◌, ℕ, List, Option, None, Some, nat_lt, option_and_then, if◌then◌else◌}
use Rattle.std.specs.Str.Parse.{digits_value, without_leading_plus}
use Rattle.clap.specs.ValueTests.{is_numeral}
use Rattle.clap.specs.Words.{Row, Text, one_of}
use Rattle.clap.specs.declared.error.kind.ErrorKind.{ErrorKind}
use Rattle.clap.specs.declared.error.kind.ErrorKind.TheVariants as kind
use Rattle.command_line.specs.declared.words.NoTask.{NoTask}
use Rattle.command_line.specs.declared.words.NoTask.TheVariants.{Help, Refused, NoMemory}

-- the number that a text is read as
abbrev pub number_read : Text → Option ℕ
number_read text =
    if is_numeral (without_leading_plus text) && nat_lt (digits_value 10 (without_leading_plus text)) (2 ^ 32)
    then Some (digits_value 10 (without_leading_plus text)) else None

-- the number under a name
abbrev pub number_found : Text → List Row → Option ℕ
number_found id rows = option_and_then number_read (one_of id rows)

-- why there is no task, by the kind of clap's error; its text may find no memory
abbrev pub IsReason : ErrorKind → NoTask → Type 0
IsReason k (Help text) = k ≡ kind.DisplayHelp
IsReason k NoMemory = Unit
IsReason k (Refused why) = (k ≡ kind.OutOfMemory → ⊥) × (k ≡ kind.DisplayHelp → ⊥)

-- words are refused, or there is no memory for the reason
abbrev pub IsRefusal : NoTask → Type 0
IsRefusal (Help text) = ⊥
IsRefusal (Refused why) = Unit
IsRefusal NoMemory = Unit
