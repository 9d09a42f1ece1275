-- A program's command line as clap is told of it.
use Rattle.std.specs.Prelude.{ℕ, List, [], Some, true, codes}
use Rattle.clap.specs.Words.{App, Rule, new_app, new_rule, with_rule}
use Rattle.clap.specs.declared.builder.value_parser.ValueParser.TheVariants as vp

-- a program without its words; it has no word `help`
abbrev pub program_app : List ℕ → App
program_app name = record { top = record (new_app name).top { disable_help_subcommand = true }; subs = [] }

-- a number within a range, which has to be there
abbrev pub number_rule : List ℕ → ℕ → ℕ → Rule
number_rule id least most = record (new_rule id) { required = true; parser = Some (vp.Unsigned least most) }

-- a number within a range, which may be there
abbrev pub optional_rule : List ℕ → ℕ → ℕ → Rule
optional_rule id least most = record (new_rule id) { parser = Some (vp.Unsigned least most) }

-- a word without values
abbrev pub word_app : List ℕ → App
word_app name = new_app name

-- a word with a number `N`
abbrev pub word_of_number : List ℕ → ℕ → ℕ → App
word_of_number name least most = with_rule (word_app name) (number_rule (codes "N") least most)

-- a word that may have a number `N`
abbrev pub word_of_optional_number : List ℕ → ℕ → ℕ → App
word_of_optional_number name least most = with_rule (word_app name) (optional_rule (codes "N") least most)

-- a word with a number `W` and a number `N`
abbrev pub word_of_numbers : List ℕ → ℕ → ℕ → ℕ → ℕ → App
word_of_numbers name few many least most = with_rule (with_rule (word_app name) (number_rule (codes "W") few many)) (number_rule (codes "N") least most)
