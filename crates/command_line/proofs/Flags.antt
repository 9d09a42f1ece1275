-- A word that is no refused flag goes to a value.
use Rattle.std.proofs.Common.{◌≡◌, ℕ, Bool, true, false, List, [], ◌∷◌, Option, Some, None, refl, if◌then◌else◌, length}
use Rattle.std.specs.Prelude.{slice_get}
use Rattle.std.specs.Option.{option_map_or}
use Rattle.std.specs.Str.{chars}
use Rattle.clap.specs.Lexer.{long_of, short_of}
use Rattle.clap.specs.Kinds.{Kinds, or_else}
use Rattle.clap.specs.Simple.{filled, help_rule, with_index}
use Rattle.clap.specs.Walk.{Held, Row, Rule, Text, after_flag, arg_by_index, arg_by_long, arg_by_short, bundle_met, bundle_step, idle, is_multiple, long_or_other, plain, short_or_plain, value}
use Rattle.clap.specs.Faults.{bundle_fault, bundle_step_fault, flag_word_fault, flags_fault, long_fault, short_fault}
use Rattle.clap.specs.declared.error.kind.ErrorKind.{ErrorKind}

-- the flag of the help, in a built command
abbrev pub help_flag : Rule
help_flag = with_index 1 (filled help_rule)

-- the rules have no flag but the help's, and each place takes one value
pub record IsPlainRules (c : List Rule) : Type 0 where
  pub long : (name : Text) → arg_by_long c name ≡ arg_by_long (help_flag ∷ []) name
  pub short : (x : ℕ) → arg_by_short c x ≡ arg_by_short (help_flag ∷ []) x
  pub single : (i : ℕ) (a : Rule) → arg_by_index c i ≡ Some a → (is_multiple a ≡ false) × (a.trailing_var_arg ≡ false)

abbrev pub held : List Row → Option (Text × List Text) → Held
held r p = record { rows = r; pending = p; skip = 0 }

pub first_nil : (a b : Kinds) → or_else a b ≡ [] → a ≡ []
first_nil [] b h = refl
first_nil (k ∷ ks) b h = cc

pub second_nil : (a b : Kinds) → or_else a b ≡ [] → b ≡ []
second_nil [] b h = h
second_nil (k ∷ ks) b h = cc

stands : (a : Kinds) (k : ErrorKind) (ks : Kinds) → or_else a (k ∷ ks) ≡ [] → ⊥
stands [] k ks h = cc
stands (x ∷ xs) k ks h = cc

long_refused : (c : List Rule) → IsPlainRules c → (again : Bool) (name : Text) (v : Option Text) (h : Held)
    → long_fault c again (arg_by_long c name) v h ≡ [] → ⊥
long_refused c k again name v h e = go _ v (rw (k.long name) at e)
  where
    go : (b : Bool) (v : Option Text) → long_fault c again (if b then Some help_flag else None) v h ≡ [] → ⊥
    go true (Some x) e = cc
    go true None e = stands _ _ [] e
    go false v e = cc

short_refused : (c : List Rule) → IsPlainRules c → (again : Bool) (x : ℕ) (rest : Text) (h : Held) (next : Held → Kinds)
    → short_fault c again (arg_by_short c x) rest h next ≡ [] → ⊥
short_refused c k again x rest h next e = go _ (rw (k.short x) at e)
  where
    go : (b : Bool) → short_fault c again (if b then Some help_flag else None) rest h next ≡ [] → ⊥
    go true e = stands _ _ [] (first_nil _ _ e)
    go false e = cc

bundle_stays : (c : List Rule) → IsPlainRules c → (again : Bool) (r : List Row) (p : Option (Text × List Text)) (v flags : Text)
    → bundle_fault c again flags (held r p) ≡ [] → short_or_plain c idle v (Some flags) (held r p) ≡ (held r p, value)
unfolding flags_fault bundle_met
bundle_stays c k again r p v [] e = refl
bundle_stays c k again r p v (x ∷ xs) e = go (slice_get (chars (x ∷ xs)) 0) e
  where
    go : (o : Option ℕ) → bundle_step_fault c again o (x ∷ xs) 0 (held r p) (flags_fault c again (length xs)) ≡ []
        → after_flag c idle v (bundle_step c o (x ∷ xs) 0 plain (held r p) (bundle_met c (length xs))).0
        (bundle_step c o (x ∷ xs) 0 plain (held r p) (bundle_met c (length xs))).1 ≡ (held r p, value)
    go None e = refl
    go (Some y) e = absurd (short_refused c k again y _ (held r p) _ e)

-- a word that isn't refused as a flag is a value
pub stays : (c : List Rule) → IsPlainRules c → (again : Bool) (r : List Row) (p : Option (Text × List Text)) (v : Text)
    → flag_word_fault c again (long_of v) v (held r p) ≡ [] → long_or_other c idle v (long_of v) (held r p) ≡ (held r p, value)
stays c k again r p v e = by_long (long_of v) e
  where
    by_short : (o : Option Text) → option_map_or (λ flags. bundle_fault c again flags (held r p)) o [] ≡ []
        → short_or_plain c idle v o (held r p) ≡ (held r p, value)
    by_short None e = refl
    by_short (Some flags) e = bundle_stays c k again r p v flags e

    by_long : (o : Option (Text × Option Text)) → flag_word_fault c again o v (held r p) ≡ [] → long_or_other c idle v o (held r p) ≡ (held r p, value)
    by_long (Some q) e = absurd (long_refused c k again q.0 q.1 (held r p) e)
    by_long None e = by_short (short_of v) e
