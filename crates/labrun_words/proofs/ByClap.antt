-- What clap makes of the words.
use Rattle.std.proofs.Common.{◌≡◌, Bool, true, false, List, [], ◌∷◌, Some, None, refl, sym, subst, codes, arith}
use Rattle.std.specs.Str.{bytes_eq}
use Rattle.std.proofs.lemmas.Slice.Eq.{bytes_eq-Decides}
use Rattle.clap.specs.Words.{Text, fault_of, is_simple, is_simple_and_free, subcommand_of}
use Rattle.clap.specs.Simple.{built, names_of}
use Rattle.clap.specs.Walk.{idle, nothing_held, subcommand_met}
use Rattle.clap.proofs.OnLiterals.{clap_on_literals}
use Rattle.command_line.proofs.Programs.{AreOther, HasNumber, HasNumbers, IsAlone, IsComplete, IsProgram, IsRight, by_word, other_word, with_one, with_two, without_values}
use Rattle.command_line.proofs.Tops.{end_of_top}
use Rattle.labrun_words.specs.Command.{labrun_app, task_found}
use Rattle.labrun_words.specs.Words.{task_of, task_with}
use Rattle.labrun_words.specs.declared.words.Task.TheVariants.{Rounds, Threads, Replay, Check, Upgrade}

pub simple : is_simple labrun_app ≡ true
unfolding clap_on_literals
simple = refl

pub free : is_simple_and_free labrun_app ≡ true
unfolding clap_on_literals
free = refl

ends : (has : Bool) → end_of_top (built labrun_app).top nothing_held has ≡ []
unfolding clap_on_literals
ends true = refl
ends false = refl

pub program : IsProgram labrun_app
unfolding clap_on_literals
program = record {
  top = record {
    flags = record { long = λ n. refl; short = λ x. refl; single = λ i a h. cc };
    places = λ i. refl;
    no_help = refl;
    ends = ends;
  };
  fault = λ p rest. refl;
  finds = λ p rest. refl;
  long_help = λ p rest. refl;
  short_help = λ p rest. refl;
}

rounds : HasNumber labrun_app task_found task_of (codes "rounds") Rounds 0 1000000000
unfolding clap_on_literals task_with
rounds = record { met = refl; fault = λ rest. refl; is_found = λ rest. refl; is_asked = λ p rest. refl }

threads : HasNumbers labrun_app task_found task_of (codes "threads") Threads 1 32 0 1000000000
unfolding clap_on_literals task_with
threads = record { met = refl; fault = λ rest. refl; is_found = λ rest. refl; is_asked = λ p rest. refl }

replay : IsAlone labrun_app task_found task_of (codes "replay") Replay
unfolding clap_on_literals task_with
replay = record { met = refl; fault = λ rest. refl; is_found = λ rest. refl; is_asked = λ p rest. refl }

check : IsAlone labrun_app task_found task_of (codes "check") Check
unfolding clap_on_literals task_with
check = record { met = refl; fault = λ rest. refl; is_found = λ rest. refl; is_asked = λ p rest. refl }

upgrade : IsAlone labrun_app task_found task_of (codes "upgrade") Upgrade
unfolding clap_on_literals task_with
upgrade = record { met = refl; fault = λ rest. refl; is_found = λ rest. refl; is_asked = λ p rest. refl }

abbrev names : List Text
names = codes "rounds" ∷ codes "threads" ∷ codes "replay" ∷ codes "check" ∷ codes "upgrade" ∷ []

unmet : (word : Text) → AreOther names word → subcommand_met (names_of (built labrun_app)) idle word ≡ None
unfolding clap_on_literals
unmet word o = rw (o.0.1, o.1.0.1, o.1.1.0.1, o.1.1.1.0.1, o.1.1.1.1.0.1) refl

none_found : (p : Text) → task_found (subcommand_of labrun_app (p ∷ codes "--" ∷ [])) ≡ task_of (p ∷ codes "--" ∷ [])
unfolding clap_on_literals
none_found p = refl

none_fine : (p : Text) → fault_of labrun_app (p ∷ codes "--" ∷ []) ≡ []
unfolding clap_on_literals
none_fine p = refl

other_taken : (p word : Text) (rest : List Text) → AreOther names word → IsComplete labrun_app task_of (p ∷ word ∷ rest)
unfolding task_with
other_taken p word rest o t h = go (bytes_eq word (codes "--")) refl rest h
  where
    go : (b : Bool) → bytes_eq word (codes "--") ≡ b → (rest : List Text) → task_of (p ∷ word ∷ rest) ≡ Some t → fault_of labrun_app (p ∷ word ∷ rest) ≡ []
    go true e [] h = subst (λ w. fault_of labrun_app (p ∷ w ∷ []) ≡ []) (sym ((bytes_eq-Decides word (codes "--")).0 e)) (none_fine p)
    go true e (v ∷ vs) h = let bad : None ≡ Some t = rw e at h in cc
    go false e rest h = let bad : None ≡ Some t = rw (e, o.0.0, o.1.0.0, o.1.1.0.0, o.1.1.1.0.0, o.1.1.1.1.0.0) at h in cc

no_words : IsRight labrun_app task_found task_of []
unfolding clap_on_literals
no_words = (λ h. refl, λ t h. refl)

own_name : (p : Text) → IsRight labrun_app task_found task_of (p ∷ [])
unfolding clap_on_literals
own_name p = (λ h. refl, λ t h. refl)

pub right : (words : List Text) → IsRight labrun_app task_found task_of words
right [] = no_words
right (p ∷ []) = own_name p
right (p ∷ word ∷ rest) =
    by_word (λ w. IsRight labrun_app task_found task_of (p ∷ w ∷ rest)) names word (
      with_one program rounds (omega arith) p rest,
      (
        with_two program threads (omega arith) (omega arith) p rest,
        (
          without_values program replay p rest,
          (
            without_values program check p rest,
            (
              without_values program upgrade p rest,
              tt,
            ),
          ),
        ),
      ),
    ) (λ o. (other_word task_found task_of program p word rest (unmet word o) (none_found p), other_taken p word rest o))
