-- For readers: which lines a report may have.
use Rattle.std.specs.Prelude.{ℕ, ◌≡◌, ◌^◌, ◌<◌, Option, None, Some, ◌⊎◌}
use Rattle.lab_plan.specs.declared.verb.Verb.{Verb}
use Rattle.lab_plan.specs.declared.verb.Verb.TheVariants.{Set, Add, Read}
use Rattle.lab_plan.specs.Names.{IsName}
use Rattle.report_reader.specs.Line.{Line, Header, Instrument, Entry, Job, Last}

-- numbers of 32 bits
abbrev pub IsSmall : ℕ → Type 0
IsSmall n = n < 2 ^ 32

abbrev pub HasSmall : Option ℕ → Type 0
HasSmall None = Unit {0}
HasSmall (Some n) = IsSmall n

abbrev pub VerbFits : Verb → Type 0
VerbFits (Set n) = IsSmall n
VerbFits (Add n) = IsSmall n
VerbFits Read = Unit {0}

-- the version is 1 or 2, names are names, and numbers are small
abbrev pub LineFits : Line → Type 0
LineFits (Header version) = (version ≡ 1) ⊎ (version ≡ 2)
LineFits (Instrument name entries) = IsName name × IsSmall entries
LineFits (Entry e) = IsName e.job × IsSmall e.session × IsSmall e.place × IsSmall e.length × VerbFits e.verb × IsSmall e.value
LineFits (Job j) = IsName j.name × IsSmall j.done × IsSmall j.sessions × HasSmall j.withdrawn × IsSmall j.meals
LineFits (Last is_finished) = Unit {0}
