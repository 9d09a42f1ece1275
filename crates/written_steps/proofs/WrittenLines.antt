-- The fields of a word with names behind it, one space before each.
use Rattle.std.proofs.Common.{◌≡◌, ℕ, ◌<◌, true, List, [], ◌∷◌, ◌++◌, length, sym, ap, ◌∙◌, append_assoc, append-nil}
use Rattle.std.specs.List.{AllByRecursion, list_all}
use Rattle.script_reader.specs.Fields.{fields}
use Rattle.script_reader.proofs.UpgradeText.{is_dark, fields_one, fields_more}

-- some names, with a space before each
abbrev pub spaced : List (List ℕ) → List ℕ
spaced [] = []
spaced (name ∷ names) = 32 ∷ (name ++ spaced names)

-- a name has bytes, and none of them is a space or ends a line
abbrev pub IsDark : List ℕ → Type 0
IsDark name = (0 < length name) × (list_all is_dark name ≡ true)

pub fields_back : (word : List ℕ) (names : List (List ℕ)) → IsDark word → AllByRecursion IsDark names → fields (word ++ spaced names) ≡ word ∷ names
fields_back word [] dark all = ap fields (append-nil word) ∙ fields_one word dark.1 dark.0
fields_back word (name ∷ names) dark all =
    fields_more word (name ++ spaced names) dark.1 dark.0 ∙ ap (λ l. word ∷ l) (fields_back name names all.0 all.1)

-- one name, and two, as they are written
pub one_name : (word name : List ℕ) → word ++ 32 ∷ name ≡ word ++ spaced (name ∷ [])
one_name word name = ap (λ l. word ++ 32 ∷ l) (sym (append-nil name))

pub two_names : (word name other : List ℕ) → (word ++ 32 ∷ name) ++ (32 ∷ other) ≡ word ++ spaced (name ∷ other ∷ [])
two_names word name other = append_assoc word (32 ∷ name) (32 ∷ other) ∙ ap (λ l. word ++ 32 ∷ (name ++ 32 ∷ l)) (sym (append-nil other))

pub names_behind : (word name other more : List ℕ) → ((word ++ 32 ∷ name) ++ (32 ∷ other)) ++ more ≡ word ++ 32 ∷ (name ++ 32 ∷ (other ++ more))
names_behind word name other more =
    ap (λ l. l ++ more) (append_assoc word (32 ∷ name) (32 ∷ other)) ∙ append_assoc word (32 ∷ (name ++ 32 ∷ other)) more
    ∙ ap (λ l. word ++ 32 ∷ l) (append_assoc name (32 ∷ other) more)
