-- The task that words ask for may be run.
use Rattle.std.proofs.Common.{◌≡◌, Bool, true, false, List, [], ◌∷◌, ℕ, Option, Some, None, option_map, refl, codes, if◌then◌else◌}
use Rattle.std.specs.Prelude.{IfSome}
use Rattle.std.specs.Str.{bytes_eq}
use Rattle.clap.specs.Words.{Text}
use Rattle.command_line.specs.Grammar.{alone, both_given, number_within, values_given, with_number, with_numbers}
use Rattle.command_line.proofs.Leaves.{number_bounds}
use Rattle.labrun_words.specs.Words.{MayRun, task_of, task_with}
use Rattle.labrun_words.specs.declared.words.Task.{Task}
use Rattle.labrun_words.specs.declared.words.Task.TheVariants.{Rounds, Threads, Replay, Check, Upgrade}

by_test : (b : Bool) (x y : Option Task) → IfSome x MayRun → IfSome y MayRun → IfSome (if b then x else y) MayRun
by_test true x y h g = h
by_test false x y h g = g

alone_may : (t : Task) (vs : List Text) → MayRun t → IfSome (alone t vs) MayRun
alone_may t [] h = h
alone_may t (v ∷ vs) h = tt

rounds_may : (vs : List Text) → IfSome (with_number Rounds 0 1000000000 vs) MayRun
rounds_may [] = tt
rounds_may (v ∷ w ∷ vs) = tt
rounds_may (v ∷ []) = go (number_within 0 1000000000 v)
  where
    go : (o : Option ℕ) → IfSome (option_map Rounds o) MayRun
    go None = tt
    go (Some k) = tt

threads_may : (vs : List Text) → IfSome (with_numbers Threads 1 32 0 1000000000 vs) MayRun
threads_may [] = tt
threads_may (v ∷ []) = tt
threads_may (v ∷ w ∷ x ∷ vs) = tt
threads_may (v ∷ w ∷ []) = go (number_within 1 32 v) (number_within 0 1000000000 w) refl
  where
    go : (o q : Option ℕ) → number_within 1 32 v ≡ o → IfSome (both_given Threads o q) MayRun
    go None q e = tt
    go (Some j) None e = tt
    go (Some j) (Some k) e = number_bounds 1 32 j v e

pub may_run : (words : List Text) → IfSome (task_of words) MayRun
unfolding task_with
may_run [] = tt
may_run (p ∷ []) = tt
may_run (p ∷ word ∷ rest) =
    by_test (bytes_eq word (codes "--")) _ _ (alone_may (Rounds 10000) rest tt)
    (by_test (bytes_eq word (codes "rounds")) _ _ (rounds_may (values_given rest))
    (by_test (bytes_eq word (codes "threads")) _ _ (threads_may (values_given rest))
    (by_test (bytes_eq word (codes "replay")) _ _ (alone_may Replay (values_given rest) tt)
    (by_test (bytes_eq word (codes "check")) _ _ (alone_may Check (values_given rest) tt)
    (by_test (bytes_eq word (codes "upgrade")) _ _ (alone_may Upgrade (values_given rest) tt) tt)))))
