-- The walk over the values of a word: as if all stood behind `--`, which is left out.
use Rattle.std.proofs.Common.{◌≡◌, ◌∙◌, ℕ, Bool, true, false, ◌&&◌, List, [], ◌∷◌, Option, Some, None, refl, sym, ap, subst, if◌then◌else◌, fold}
use Rattle.std.specs.Str.{bytes_eq}
use Rattle.clap.specs.Lexer.{long_of, short_of}
use Rattle.clap.specs.Kinds.{Kinds, or_else}
use Rattle.clap.specs.Simple.{Shape}
use Rattle.clap.specs.Walk.{Held, Row, Rule, Step, Text, Walk, after_step, arg_by_index, idle, is_multiple, is_pending, long_or_other, next_position, settled_rows, takes_several, to_positional, value, walked}
use Rattle.clap.specs.Faults.{flag_word_fault, step_fault, walk_fault}
use Rattle.clap.specs.declared.error.kind.ErrorKind.TheVariants as kind
use Rattle.command_line.specs.Grammar.{values_given}
use Rattle.command_line.proofs.Flags.{IsPlainRules, first_nil, held, second_nil, stays}

abbrev pub between : List Row → Option (Text × List Text) → ℕ → Bool → Walk
between r p i t = record { held = held r p; waiting = idle; position = i; is_trailing = t; stopped = None }

and_false : (a : Bool) → (a && false) ≡ false
and_false true = refl
and_false false = refl

no_several : (a : Rule) → is_multiple a ≡ false → takes_several a ≡ false
no_several a h = go (takes_several a) refl
  where
    go : (b : Bool) → takes_several a ≡ b → takes_several a ≡ false
    go false e = e
    go true e = let bad : true ≡ false = rw e at h in cc

-- a value goes to its place
taken : (s : Shape) → IsPlainRules s.rules → (r : List Row) (p : Option (Text × List Text)) (i : ℕ) (t : Bool) (v : Text) (a : Rule)
    → arg_by_index s.rules i ≡ Some a
    → to_positional s.rules (Some a) v (between r p i t) (held r p) ≡ between (settled_rows s.rules p r) (Some (a.id, v ∷ [])) (next_position a i) t
taken s k r p i t v a e =
    let one = k.single i a e in
    let not_several = no_several a one.0 in
    go (is_pending a p) t one.0 one.1 not_several
  where
    go : (b t : Bool) → is_multiple a ≡ false → a.trailing_var_arg ≡ false → takes_several a ≡ false
        → to_positional s.rules (Some a) v (between r p i t) (held r p) ≡ between (settled_rows s.rules p r) (Some (a.id, v ∷ [])) (next_position a i) t
    go b true m l n = rw (m, l, n, and_false (is_pending a p)) refl
    go b false m l n = rw (m, l, n, and_false (is_pending a p)) refl

abbrev pub Same : Shape → List Row → Option (Text × List Text) → ℕ → List Text → List Text → Type 0
Same s r p i rest values = (walk_fault s [] (between r p i true) values ≡ [])
    × ((fold (walked s.rules []) (between r p i false) rest).held ≡ (fold (walked s.rules []) (between r p i true) values).held)

-- a value without a place is refused
pub no_place : (s : Shape) (i : ℕ) (h : Held) → step_fault s i h value ≡ [] → arg_by_index s.rules i ≡ None → ⊥
no_place s i h e none = go s.is_leaf (rw none at e)
  where
    go : (b : Bool) → (if b then kind.UnknownArgument ∷ [] else kind.UnknownArgument ∷ kind.InvalidSubcommand ∷ []) ≡ [] → ⊥
    go true e = cc
    go false e = cc

abbrev met_as : Shape → List Row → Option (Text × List Text) → Text → Held × Step
met_as s r p v = long_or_other s.rules idle v (long_of v) (held r p)

abbrev flag_of : Shape → List Row → Option (Text × List Text) → Text → Kinds
flag_of s r p v = flag_word_fault s.rules s.args_override_self (long_of v) v (held r p)

abbrev turn_of : Shape → List Row → Option (Text × List Text) → ℕ → Text → Kinds
turn_of s r p i v = or_else (flag_of s r p v) (step_fault s i (met_as s r p v).0 (met_as s r p v).1)

abbrev rest_of : Shape → List Row → Option (Text × List Text) → ℕ → Text → List Text → Kinds
rest_of s r p i v vs = walk_fault s [] (after_step s.rules v (between r p i false) (met_as s r p v).0 (met_as s r p v).1) vs

abbrev Later : Shape → List Text → Type 0
Later s vs = (r : List Row) (p : Option (Text × List Text)) (i : ℕ) → walk_fault s [] (between r p i false) vs ≡ [] → Same s r p i vs (values_given vs)

-- the walk, and the walk behind `--`
pub without : (s : Shape) → IsPlainRules s.rules → (r : List Row) (p : Option (Text × List Text)) (i : ℕ) (rest : List Text)
    → walk_fault s [] (between r p i false) rest ≡ [] → Same s r p i rest (values_given rest)
unfolding walk_fault walked values_given
without s k r p i [] h = (refl, refl)
without s k r p i (v ∷ vs) h = go (bytes_eq v (45 ∷ 45 ∷ [])) refl (λ r2 p2 j tail. without s k r2 p2 j vs tail)
  where
    placed : (o : Option Rule) → arg_by_index s.rules i ≡ o → step_fault s i (held r p) value ≡ []
        → long_or_other s.rules idle v (long_of v) (held r p) ≡ (held r p, value) → bytes_eq v (45 ∷ 45 ∷ []) ≡ false → Later s vs
        → Same s r p i (v ∷ vs) (values_given (v ∷ vs))
    placed None at step met e later = absurd (no_place s i (held r p) step at)
    placed (Some a) at step met e later =
        let r2 = settled_rows s.rules p r in
        let p2 : Option (Text × List Text) = Some (a.id, v ∷ []) in
        let false_next = taken s k r p i false v a at in
        let true_next = taken s k r p i true v a at in
        let whole : or_else (turn_of s r p i v) (rest_of s r p i v vs) ≡ [] = rw e at h in
        let after : rest_of s r p i v vs ≡ [] = second_nil _ _ whole in
        let tail : walk_fault s [] (between r2 p2 (next_position a i) false) vs ≡ [] = rw (met, at, false_next) at after in
        let more = later r2 p2 (next_position a i) tail in
        let c = s.rules in
        let w_false : walked c [] (between r p i false) v ≡ between r2 p2 (next_position a i) false = rw (e, met, at) false_next in
        let w_true : walked c [] (between r p i true) v ≡ between r2 p2 (next_position a i) true = rw at true_next in
        let first : or_else (or_else [] (step_fault s i (held r p) value)) (walk_fault s [] (walked c [] (between r p i true) v) (values_given vs)) ≡ [] =
        ap (λ x. or_else x (walk_fault s [] (walked c [] (between r p i true) v) (values_given vs))) step
        ∙ ap (λ w. walk_fault s [] w (values_given vs)) w_true ∙ more.0 in
        let second : (fold (walked c []) (walked c [] (between r p i false) v) vs).held ≡ (fold (walked c []) (walked c [] (between r p i true) v) (values_given vs)).held =
        ap (λ w. (fold (walked c []) w vs).held) w_false ∙ more.1 ∙ sym (ap (λ w. (fold (walked c []) w (values_given vs)).held) w_true) in
        let same : values_given (v ∷ vs) ≡ v ∷ values_given vs = rw e refl in
        subst (Same s r p i (v ∷ vs)) (sym same) (first, second)

    go : (b : Bool) → bytes_eq v (45 ∷ 45 ∷ []) ≡ b → Later s vs → Same s r p i (v ∷ vs) (values_given (v ∷ vs))
    go true e later =
        let h2 : walk_fault s [] (between r p i true) vs ≡ [] = rw e at h in
        let w_false : walked s.rules [] (between r p i false) v ≡ between r p i true = rw e refl in
        let same : values_given (v ∷ vs) ≡ vs = rw e refl in
        subst (Same s r p i (v ∷ vs)) (sym same) (h2, ap (λ w. (fold (walked s.rules []) w vs).held) w_false)
    go false e later =
        let whole : or_else (turn_of s r p i v) (rest_of s r p i v vs) ≡ [] = rw e at h in
        let turn : turn_of s r p i v ≡ [] = first_nil _ _ whole in
        let met = stays s.rules k s.args_override_self r p v (first_nil _ _ turn) in
        let raw : step_fault s i (met_as s r p v).0 (met_as s r p v).1 ≡ [] = second_nil _ _ turn in
        let step : step_fault s i (held r p) value ≡ [] = ap (λ (q : Held × Step). step_fault s i q.0 q.1) (sym met) ∙ raw in
        placed (arg_by_index s.rules i) refl step met e later

pub both_nil : (a b : Kinds) → a ≡ [] → b ≡ [] → or_else a b ≡ []
both_nil a b x y = rw x y

both_of : (a b : Kinds) → or_else (or_else [] a) b ≡ [] → (a ≡ []) × (b ≡ [])
both_of [] b h = (refl, h)
both_of (k ∷ ks) b h = cc

-- the words are no flags
abbrev pub AreValues : List Text → Type 0
AreValues [] = Unit
AreValues (v ∷ vs) = (long_of v ≡ None) × (short_of v ≡ None) × AreValues vs

abbrev Passing : Shape → List Text → Type 0
Passing s vs = (r : List Row) (p : Option (Text × List Text)) (i : ℕ) → AreValues (values_given vs)
    → walk_fault s [] (between r p i true) (values_given vs) ≡ [] → walk_fault s [] (between r p i false) vs ≡ []

-- values that pass behind `--` pass
pub within : (s : Shape) → IsPlainRules s.rules → (r : List Row) (p : Option (Text × List Text)) (i : ℕ) (rest : List Text)
    → AreValues (values_given rest) → walk_fault s [] (between r p i true) (values_given rest) ≡ [] → walk_fault s [] (between r p i false) rest ≡ []
unfolding walk_fault walked values_given
within s k r p i [] all h = refl
within s k r p i (v ∷ vs) all h = go (bytes_eq v (45 ∷ 45 ∷ [])) refl (λ r2 p2 j some tail. within s k r2 p2 j vs some tail)
  where
    placed : (o : Option Rule) → arg_by_index s.rules i ≡ o → AreValues (v ∷ values_given vs)
        → or_else (or_else [] (step_fault s i (held r p) value)) (walk_fault s [] (walked s.rules [] (between r p i true) v) (values_given vs)) ≡ []
        → bytes_eq v (45 ∷ 45 ∷ []) ≡ false → Passing s vs → walk_fault s [] (between r p i false) (v ∷ vs) ≡ []
    placed None at some h e later = absurd (no_place s i (held r p) (both_of (step_fault s i (held r p) value) (walk_fault s [] (walked s.rules [] (between r p i true) v) (values_given vs)) h).0 at)
    placed (Some a) at some h e later =
        let c = s.rules in
        let r2 = settled_rows s.rules p r in
        let p2 : Option (Text × List Text) = Some (a.id, v ∷ []) in
        let false_next = taken s k r p i false v a at in
        let true_next = taken s k r p i true v a at in
        let parts = both_of (step_fault s i (held r p) value) (walk_fault s [] (walked s.rules [] (between r p i true) v) (values_given vs)) h in
        let step : step_fault s i (held r p) value ≡ [] = parts.0 in
        let flag : flag_of s r p v ≡ [] = rw (some.0, some.1) refl in
        let met = stays s.rules k s.args_override_self r p v flag in
        let w_true : walked c [] (between r p i true) v ≡ between r2 p2 (next_position a i) true = rw at true_next in
        let tail : walk_fault s [] (between r2 p2 (next_position a i) true) (values_given vs) ≡ [] =
        ap (λ w. walk_fault s [] w (values_given vs)) (sym w_true) ∙ parts.1 in
        let more = later r2 p2 (next_position a i) some.2 tail in
        let w_false : after_step c v (between r p i false) (met_as s r p v).0 (met_as s r p v).1 ≡ between r2 p2 (next_position a i) false =
        rw (met, at) false_next in
        let turn : turn_of s r p i v ≡ [] = both_nil (flag_of s r p v) (step_fault s i (met_as s r p v).0 (met_as s r p v).1) flag (ap (λ (q : Held × Step). step_fault s i q.0 q.1) met ∙ step) in
        let after : rest_of s r p i v vs ≡ [] = ap (λ w. walk_fault s [] w vs) w_false ∙ more in
        let whole : or_else (turn_of s r p i v) (rest_of s r p i v vs) ≡ [] = both_nil (turn_of s r p i v) (rest_of s r p i v vs) turn after in
        rw e whole

    go : (b : Bool) → bytes_eq v (45 ∷ 45 ∷ []) ≡ b → Passing s vs → walk_fault s [] (between r p i false) (v ∷ vs) ≡ []
    go true e later =
        let same : values_given (v ∷ vs) ≡ vs = rw e refl in
        let h2 : walk_fault s [] (between r p i true) vs ≡ [] = subst (λ l. walk_fault s [] (between r p i true) l ≡ []) same h in
        rw e h2
    go false e later =
        let same : values_given (v ∷ vs) ≡ v ∷ values_given vs = rw e refl in
        placed (arg_by_index s.rules i) refl (subst AreValues same all) (subst (λ l. walk_fault s [] (between r p i true) l ≡ []) same h) e later
