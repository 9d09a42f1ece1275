-- A number as it is read.
use Rattle.std.proofs.Common.{◌≡◌, ◌∙◌, ℕ, Bool, true, false, ◌&&◌, List, [], ◌∷◌, Option, Some, None, refl, ap, length}
use Rattle.std.specs.Prelude.{nat_lt, ◌^◌, option_and_then, Result, Ok, Err}
use Rattle.std.specs.List.{list_all}
use Rattle.std.specs.Char.{digit_value}
use Rattle.std.specs.Str.Parse.{AllDigits, ParsesUnsigned, digits_value, without_leading_plus}
use Rattle.std.proofs.lemmas.Bool.{lt-ltb, ltb-true}
use Rattle.clap.specs.Words.{ReadsOne, Text, one_text, rows_of}
use Rattle.clap.specs.ValueTests.{is_numeral}
use Rattle.clap.specs.declared.parser.matches.Found.{Found}
use Rattle.clap.proofs.WalkLemmas.{both, one_text-rows}
use Rattle.command_line.specs.Reading.{number_found, number_read}

digits_pass : (ds : List ℕ) → AllDigits 10 ds → list_all (λ d. nat_lt (digit_value d) 10) ds ≡ true
digits_pass [] h = refl
digits_pass (d ∷ ds) h = rw (lt-ltb (digit_value d) 10 h.0) (digits_pass ds h.1)

digits_from : (ds : List ℕ) → list_all (λ d. nat_lt (digit_value d) 10) ds ≡ true → AllDigits 10 ds
digits_from [] e = tt
digits_from (d ∷ ds) e =
    let parts = both _ _ e in
    (ltb-true _ _ parts.0, digits_from ds parts.1)

abbrev passes : List ℕ → Bool
passes ds = is_numeral ds && nat_lt (digits_value 10 ds) (2 ^ 32)

number_parsed : (E : Type 0) (t : Text) (r : Option ℕ) → ReadsOne {T = ℕ} {E = E} (ParsesUnsigned 32 10) t r → r ≡ number_read t
number_parsed E t (Some v) h =
    let ds = without_leading_plus t in
    rw (lt-ltb 0 (length ds) h.0.0.0, digits_pass ds h.0.0.1, lt-ltb (digits_value 10 ds) (2 ^ 32) h.0.1) (ap (λ n. Some n) h.1)
number_parsed E t None h = go (passes (without_leading_plus t)) refl
  where
    go : (b : Bool) → passes (without_leading_plus t) ≡ b → None ≡ number_read t
    go false e = rw e refl
    go true e =
        let outer = both _ _ e in
        let inner = both _ _ outer.0 in
        absurd (h.1 ((ltb-true _ _ inner.0, digits_from (without_leading_plus t) inner.1), ltb-true _ _ outer.1))

as_parsed : (E : Type 0) (G : List ℕ → Result ℕ E → Type 0) → ((u : List ℕ) (x : Result ℕ E) → G u x → ParsesUnsigned 32 10 u x)
    → (t : Text) (r : Option ℕ) → ReadsOne G t r → ReadsOne {T = ℕ} {E = E} (ParsesUnsigned 32 10) t r
as_parsed E G only t (Some v) h = only t (Ok v) h
as_parsed E G only t None h = (h.0, only t (Err h.0) h.1)

pub number_is : (E : Type 0) (G : List ℕ → Result ℕ E → Type 0) → ((u : List ℕ) (x : Result ℕ E) → G u x → ParsesUnsigned 32 10 u x)
    → (f : Found) (id : Text) (r : Option ℕ) → (one_text f id ≡ None → r ≡ None) → ((t : List ℕ) → one_text f id ≡ Some t → ReadsOne G t r)
    → r ≡ number_found id (rows_of f)
number_is E G only f id r none some = go (one_text f id) refl ∙ ap (option_and_then number_read) (one_text-rows f id)
  where
    go : (o : Option Text) → one_text f id ≡ o → r ≡ option_and_then number_read (one_text f id)
    go None e = rw e (none e)
    go (Some t) e = rw e (number_parsed E t r (as_parsed E G only t r (some t e)))
