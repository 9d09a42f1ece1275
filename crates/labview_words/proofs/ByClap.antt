-- What clap makes of the words.
use Rattle.std.proofs.Common.{◌≡◌, ◌∙◌, Bool, true, false, List, [], ◌∷◌, Option, Some, None, ℕ, option_map, refl, sym, ap, inl, inr, codes, arith}
use Rattle.clap.specs.Words.{Text, is_simple, is_simple_and_free, subcommand_of}
use Rattle.clap.specs.Simple.{built, names_of}
use Rattle.clap.specs.Walk.{idle, nothing_held, rows_after, subcommand_met}
use Rattle.clap.proofs.OnLiterals.{clap_on_literals}
use Rattle.command_line.specs.Command.{word_of_optional_number}
use Rattle.command_line.specs.Grammar.{number_within, values_given}
use Rattle.command_line.specs.Reading.{number_found}
use Rattle.command_line.proofs.Leaves.{MayFind, fault_at, leaf, told_number, word_with_optional_number, word_with_optional_number_passes, word_without_number_passes}
use Rattle.command_line.proofs.Programs.{AreOther, HasNumber, IsAlone, IsComplete, IsProgram, IsRight, IsWord, by_values, by_word, other_word, with_one, without_values}
use Rattle.command_line.proofs.Tops.{end_of_top}
use Rattle.labview_words.specs.Command.{arrange_found, labview_app, task_found}
use Rattle.labview_words.specs.Words.{alone_or_over, shown_over, task_of, task_with}
use Rattle.labview_words.specs.declared.words.Task.{Task}
use Rattle.labview_words.specs.declared.words.Task.TheVariants.{Show, Script, Steps}
use Rattle.labview_words.specs.declared.words.View.TheVariants.{Explain, Picture, Table, Arrange, ArrangeMeasured, Trace, Waits, Blocks, Gantt}

pub simple : is_simple labview_app ≡ true
unfolding clap_on_literals
simple = refl

pub free : is_simple_and_free labview_app ≡ true
unfolding clap_on_literals
free = refl

ends : (has : Bool) → end_of_top (built labview_app).top nothing_held has ≡ []
unfolding clap_on_literals
ends true = refl
ends false = refl

pub program : IsProgram labview_app
unfolding clap_on_literals
program = record {
  top = record {
    flags = record { long = λ n. refl; short = λ x. refl; single = λ i a h. cc };
    places = λ i. refl;
    no_help = refl;
    ends = ends;
  };
  fault = λ p rest. refl;
  finds = λ p rest. refl;
  long_help = λ p rest. refl;
  short_help = λ p rest. refl;
}

explain : IsAlone labview_app task_found task_of (codes "explain") (Show Explain)
unfolding clap_on_literals task_with
explain = record { met = refl; fault = λ rest. refl; is_found = λ rest. refl; is_asked = λ p rest. refl }

picture : IsAlone labview_app task_found task_of (codes "picture") (Show Picture)
unfolding clap_on_literals task_with
picture = record { met = refl; fault = λ rest. refl; is_found = λ rest. refl; is_asked = λ p rest. refl }

table : IsAlone labview_app task_found task_of (codes "table") (Show Table)
unfolding clap_on_literals task_with
table = record { met = refl; fault = λ rest. refl; is_found = λ rest. refl; is_asked = λ p rest. refl }

script : IsAlone labview_app task_found task_of (codes "script") Script
unfolding clap_on_literals task_with
script = record { met = refl; fault = λ rest. refl; is_found = λ rest. refl; is_asked = λ p rest. refl }

steps : IsAlone labview_app task_found task_of (codes "steps") Steps
unfolding clap_on_literals task_with
steps = record { met = refl; fault = λ rest. refl; is_found = λ rest. refl; is_asked = λ p rest. refl }

arrange : IsWord labview_app task_found task_of (codes "arrange") (word_of_optional_number (codes "arrange") 0 1000000000)
    (λ rows. Some (Show (arrange_found (number_found (codes "N") rows)))) (alone_or_over (Show Arrange) (shown_over ArrangeMeasured))
unfolding clap_on_literals task_with
arrange = record { met = refl; fault = λ rest. refl; is_found = λ rest. refl; is_asked = λ p rest. refl }

arrange_is : (rest : List Text) → MayFind (codes "arrange") 0 1000000000 rest
    → Some (Show (arrange_found (number_found (codes "N") (rows_after (leaf (word_of_optional_number (codes "arrange") 0 1000000000)).rules [] rest))))
    ≡ alone_or_over (Show Arrange) (shown_over ArrangeMeasured) (values_given rest)
arrange_is rest (inl w) = ap (λ n. Some (Show (arrange_found n))) w.1 ∙ sym (ap (alone_or_over (Show Arrange) (shown_over ArrangeMeasured)) w.0)
arrange_is rest (inr w) =
    ap (λ n. Some (Show (arrange_found n))) w.3
    ∙ sym (ap (alone_or_over (Show Arrange) (shown_over ArrangeMeasured)) w.2 ∙ ap (option_map (shown_over ArrangeMeasured)) w.4)

optional_fine : (name : Text) (task : Task) (measured : ℕ → Task) (rest vs : List Text) (t : Task) → values_given rest ≡ vs → alone_or_over task measured vs ≡ Some t
    → fault_at (leaf (word_of_optional_number name 0 1000000000)) rest ≡ []
optional_fine name task measured rest [] t e h = word_without_number_passes name 0 1000000000 rest e
optional_fine name task measured rest (v ∷ w ∷ vs) t e h = cc
optional_fine name task measured rest (v ∷ []) t e h = go (number_within 0 1000000000 v) refl h
  where
    go : (o : Option ℕ) → number_within 0 1000000000 v ≡ o → option_map measured o ≡ Some t → fault_at (leaf (word_of_optional_number name 0 1000000000)) rest ≡ []
    go None d h = cc
    go (Some k) d h = word_with_optional_number_passes name 0 1000000000 rest v e (told_number 0 1000000000 k v d)

trace : HasNumber labview_app task_found task_of (codes "trace") (shown_over Trace) 0 1000000000
unfolding clap_on_literals task_with
trace = record { met = refl; fault = λ rest. refl; is_found = λ rest. refl; is_asked = λ p rest. refl }

waits : HasNumber labview_app task_found task_of (codes "waits") (shown_over Waits) 0 1000000000
unfolding clap_on_literals task_with
waits = record { met = refl; fault = λ rest. refl; is_found = λ rest. refl; is_asked = λ p rest. refl }

blocks : HasNumber labview_app task_found task_of (codes "blocks") (shown_over Blocks) 0 1000000000
unfolding clap_on_literals task_with
blocks = record { met = refl; fault = λ rest. refl; is_found = λ rest. refl; is_asked = λ p rest. refl }

gantt : HasNumber labview_app task_found task_of (codes "gantt") (shown_over Gantt) 0 1000000000
unfolding clap_on_literals task_with
gantt = record { met = refl; fault = λ rest. refl; is_found = λ rest. refl; is_asked = λ p rest. refl }

abbrev names : List Text
names =
    codes "explain" ∷ codes "picture" ∷ codes "table" ∷ codes "script" ∷ codes "steps" ∷ codes "arrange" ∷ codes "trace" ∷ codes "waits" ∷ codes "blocks"
    ∷ codes "gantt" ∷ []

unmet : (word : Text) → AreOther names word → subcommand_met (names_of (built labview_app)) idle word ≡ None
unfolding clap_on_literals
unmet word o =
    rw (
      o.0.1,
      o.1.0.1,
      o.1.1.0.1,
      o.1.1.1.0.1,
      o.1.1.1.1.0.1,
      o.1.1.1.1.1.0.1,
      o.1.1.1.1.1.1.0.1,
      o.1.1.1.1.1.1.1.0.1,
      o.1.1.1.1.1.1.1.1.0.1,
      o.1.1.1.1.1.1.1.1.1.0.1,
    ) refl

none_found : (p : Text) → task_found (subcommand_of labview_app (p ∷ codes "--" ∷ [])) ≡ task_of (p ∷ codes "--" ∷ [])
unfolding clap_on_literals task_with values_given
none_found p = refl

other_taken : (p word : Text) (rest : List Text) → AreOther names word → IsComplete labview_app task_of (p ∷ word ∷ rest)
unfolding task_with
other_taken p word rest o t h =
    let bad : None ≡ Some t = rw (
      o.0.0,
      o.1.0.0,
      o.1.1.0.0,
      o.1.1.1.0.0,
      o.1.1.1.1.0.0,
      o.1.1.1.1.1.0.0,
      o.1.1.1.1.1.1.0.0,
      o.1.1.1.1.1.1.1.0.0,
      o.1.1.1.1.1.1.1.1.0.0,
      o.1.1.1.1.1.1.1.1.1.0.0,
    ) at h in cc

no_words : IsRight labview_app task_found task_of []
unfolding clap_on_literals
no_words = (λ h. refl, λ t h. cc)

own_name : (p : Text) → IsRight labview_app task_found task_of (p ∷ [])
unfolding clap_on_literals
own_name p = (λ h. refl, λ t h. cc)

pub right : (words : List Text) → IsRight labview_app task_found task_of words
right [] = no_words
right (p ∷ []) = own_name p
right (p ∷ word ∷ rest) =
    by_word (λ w. IsRight labview_app task_found task_of (p ∷ w ∷ rest)) names word (
      without_values program explain p rest,
      (
        without_values program picture p rest,
        (
          without_values program table p rest,
          (
            without_values program script p rest,
            (
              without_values program steps p rest,
              (
                by_values program arrange
                    (λ rest h. arrange_is rest (word_with_optional_number (codes "arrange") 0 1000000000 rest (omega arith) h))
                    (λ rest t h. optional_fine (codes "arrange") (Show Arrange) (shown_over ArrangeMeasured) rest (values_given rest) t refl h) p rest,
                (
                  with_one program trace (omega arith) p rest,
                  (
                    with_one program waits (omega arith) p rest,
                    (
                      with_one program blocks (omega arith) p rest,
                      (
                        with_one program gantt (omega arith) p rest,
                        tt,
                      ),
                    ),
                  ),
                ),
              ),
            ),
          ),
        ),
      ),
    ) (λ o. (other_word task_found task_of program p word rest (unmet word o) (none_found p), other_taken p word rest o))
