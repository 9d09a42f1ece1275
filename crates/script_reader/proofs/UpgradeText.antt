-- A text that is written line by line: its lines, and their fields.
use Rattle.std.proofs.Common.{◌≡◌, ℕ, ◌-◌, ◌<◌, ◌≤◌, Bool, true, false, cond, ◌&&◌, List, [], ◌∷◌, ◌++◌, length, get_or, take, drop, refl, sym, ap, ◌∙◌, ⊎_elim, arith, suc, zero, append_assoc, length-append, length-drop}
use Rattle.std.specs.Prelude.{nat_le, nat_lt, ◌==◌, map}
use Rattle.std.specs.List.{list_all}
use Rattle.std.proofs.lemmas.Bool.{cases_Bool, and_parts}
use Rattle.std.proofs.lemmas.Bool.Decides.{nat_tests}
use Rattle.std.proofs.lemmas.List.{take_at, drop_at}
use Rattle.std.proofs.lemmas.List.Elements.{All-cons, All-nil}
use Rattle.bstr.specs.Text.{line_len, lines_from, lines_of, no_cr, without_terminator}
use Rattle.script_reader.specs.Fields.{fields, is_gap}
use Rattle.script_reader.specs.Script.{text_lines}
use Rattle.script_reader.proofs.FieldLemmas.{IsInk, lone_field, field_then}
use Rattle.script_reader.proofs.OnLast.{last_pushed}

-- a byte that ends no line, and one that besides is no space
abbrev pub is_shown : ℕ → Bool
is_shown b = nat_le 32 b

abbrev pub is_dark : ℕ → Bool
is_dark b = nat_le 33 b

pub dark_shown : (bytes : List ℕ) → list_all is_dark bytes ≡ true → list_all is_shown bytes ≡ true
dark_shown [] dark = refl
dark_shown (b ∷ bytes) dark =
    let parts = and_parts (is_dark b) (list_all is_dark bytes) dark in
    let here = weaker b parts.0 in
    λ i. here i && dark_shown bytes parts.1 i
  where
    weaker : (b : ℕ) → is_dark b ≡ true → is_shown b ≡ true
    weaker b h = grind (arith, nat_tests, h)

-- ---- the lines of a text

line_len_some : (b : ℕ) (bytes : List ℕ) → 0 < line_len (b ∷ bytes)
unfolding line_len
line_len_some b bytes = ⊎_elim (λ is. rw is (omega arith)) (λ is. rw is (omega arith)) (cases_Bool (b == 10))

no_lines : (fuel : ℕ) → lines_from fuel [] ≡ []
unfolding lines_from
no_lines zero = refl
no_lines (suc fuel) = refl

same_lines : (f g : ℕ) (bytes : List ℕ) → length bytes ≤ f → length bytes ≤ g → lines_from f bytes ≡ lines_from g bytes
unfolding lines_from
same_lines f g [] less more = no_lines f ∙ sym (no_lines g)
same_lines zero g (b ∷ bytes) less more = absurd (omega arith)
same_lines (suc f) zero (b ∷ bytes) less more = absurd (omega arith)
same_lines (suc f) (suc g) (b ∷ bytes) less more =
    let n = line_len (b ∷ bytes) in
    let some = line_len_some b bytes in
    let left = length-drop n (b ∷ bytes) in
    ap (λ l. take n (b ∷ bytes) ∷ l) (same_lines f g (drop n (b ∷ bytes)) (omega (arith, some, left)) (omega (arith, some, left)))

line_len_is : (line rest : List ℕ) → list_all is_shown line ≡ true → line_len (line ++ 10 ∷ rest) ≡ suc (length line)
unfolding line_len
line_len_is [] rest shown = refl
line_len_is (b ∷ line) rest shown =
    let parts = and_parts (is_shown b) (list_all is_shown line) shown in
    let other = no_feed b parts.0 in
    ap (λ t. cond t 1 (suc (line_len (line ++ 10 ∷ rest)))) other ∙ ap suc (line_len_is line rest parts.1)
  where
    no_feed : (b : ℕ) → is_shown b ≡ true → (b == 10) ≡ false
    no_feed b h = grind (arith, nat_tests, h)

pub some_lines : (bytes : List ℕ) → 0 < length bytes → lines_of bytes ≡ take (line_len bytes) bytes ∷ lines_of (drop (line_len bytes) bytes)
unfolding lines_from
some_lines [] some = absurd (omega arith)
some_lines (b ∷ bytes) some =
    let n = line_len (b ∷ bytes) in
    let long = line_len_some b bytes in
    let left = length-drop n (b ∷ bytes) in
    ap (λ l. take n (b ∷ bytes) ∷ l) (same_lines (length bytes) (length (drop n (b ∷ bytes))) (drop n (b ∷ bytes)) (omega (arith, long, left)) (omega arith))

first_line : (line rest : List ℕ) → list_all is_shown line ≡ true → lines_of (line ++ 10 ∷ rest) ≡ (line ++ 10 ∷ []) ∷ lines_of rest
first_line line rest shown =
    let whole = length-append line (10 ∷ rest) in
    let own = length-append line (10 ∷ []) in
    let size = line_len_is line rest shown in
    let cut : line ++ 10 ∷ rest ≡ (line ++ 10 ∷ []) ++ rest = sym (append_assoc line (10 ∷ []) rest) in
    some_lines (line ++ 10 ∷ rest) (omega (arith, whole)) ∙ (λ i. take (size i) (cut i) ∷ lines_of (drop (size i) (cut i)))
    ∙ (λ i. take_at (line ++ 10 ∷ []) rest (suc (length line)) (omega (arith, own)) i ∷ lines_of
    (drop_at (line ++ 10 ∷ []) rest (suc (length line)) (omega (arith, own)) i))

last_shown : (line : List ℕ) (k : ℕ) → list_all is_shown line ≡ true → k < length line → (get_or line k 0 == 13) ≡ false
last_shown [] k shown inside = absurd (omega arith)
last_shown (b ∷ line) zero shown inside = no_return b (and_parts (is_shown b) (list_all is_shown line) shown).0
  where
    no_return : (b : ℕ) → is_shown b ≡ true → (b == 13) ≡ false
    no_return b h = grind (arith, nat_tests, h)
last_shown (b ∷ line) (suc k) shown inside = last_shown line k (and_parts (is_shown b) (list_all is_shown line) shown).1 (omega arith)

no_return_there : (line : List ℕ) → list_all is_shown line ≡ true → no_cr line ≡ line
no_return_there [] shown = refl
no_return_there (b ∷ line) shown =
    let last = last_shown (b ∷ line) (length (b ∷ line) - 1) shown (omega arith) in
    let some = is_some (length (b ∷ line)) (omega arith) in
    λ i. cond (some i && last i) (take (length (b ∷ line) - 1) (b ∷ line)) (b ∷ line)
  where
    is_some : (n : ℕ) → 0 < n → nat_lt 0 n ≡ true
    is_some n h = grind (arith, nat_tests)

cut_end : (line : List ℕ) → list_all is_shown line ≡ true → without_terminator (line ++ 10 ∷ []) ≡ line
cut_end line shown =
    let size : length (line ++ 10 ∷ []) ≡ suc (length line) = (let sum = length-append line (10 ∷ []) in omega (arith, sum)) in
    let some = is_some (length (line ++ 10 ∷ [])) (omega (arith, size)) in
    let last = last_pushed line 10 0 in
    let front : take (length (line ++ 10 ∷ []) - 1) (line ++ 10 ∷ []) ≡ line = take_at line (10 ∷ []) (length (line ++ 10 ∷ []) - 1) (omega (arith, size)) in
    (λ i. cond (some i && (last i == 10)) (no_cr (front i)) (line ++ 10 ∷ [])) ∙ no_return_there line shown
  where
    is_some : (n : ℕ) → 0 < n → nat_lt 0 n ≡ true
    is_some n h = grind (arith, nat_tests)

pub one_more_line : (line rest : List ℕ) → list_all is_shown line ≡ true → text_lines (line ++ 10 ∷ rest) ≡ line ∷ text_lines rest
one_more_line line rest shown = ap (map without_terminator) (first_line line rest shown) ∙ ap (λ l. l ∷ text_lines rest) (cut_end line shown)

pub no_text : text_lines [] ≡ []
no_text = ap (map without_terminator) (no_lines 0)

-- ---- the fields of a line

ink_all : (word : List ℕ) → list_all is_dark word ≡ true → IsInk word
ink_all [] dark = All-nil (λ b. is_gap b ≡ false)
ink_all (b ∷ word) dark =
    let parts = and_parts (is_dark b) (list_all is_dark word) dark in
    All-cons (λ b. is_gap b ≡ false) b word (ink b parts.0) (ink_all word parts.1)
  where
    ink : (b : ℕ) → is_dark b ≡ true → is_gap b ≡ false
    ink b h = grind (arith, nat_tests, h)

pub fields_one : (word : List ℕ) → list_all is_dark word ≡ true → 0 < length word → fields word ≡ word ∷ []
fields_one word dark some = lone_field word (ink_all word dark) some

pub fields_more : (word rest : List ℕ) → list_all is_dark word ≡ true → 0 < length word → fields (word ++ 32 ∷ rest) ≡ word ∷ fields rest
fields_more word rest dark some = field_then word 32 rest (ink_all word dark) refl some
