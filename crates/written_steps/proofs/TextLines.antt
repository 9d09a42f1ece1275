-- The lines of any text: bytes that hold no line feed, each with one behind it, and a rest.
use Rattle.std.proofs.Common.{◌≡◌, ℕ, zero, suc, ◌+◌, ◌-◌, ◌<◌, Bool, true, false, cond, not, ◌&&◌, List, [], ◌∷◌, ◌++◌, length, map, get_or, take, drop, refl, sym, ap, ◌∙◌, ⊎_elim, arith, append_assoc, append-nil, length-append}
use Rattle.std.specs.Prelude.{nat_lt, slice_index, ◌==◌}
use Rattle.std.specs.List.{AllByRecursion, filter, list_all, slice_split, onto_first}
use Rattle.std.specs.Io.BufRead.{ends_with_byte}
use Rattle.std.proofs.lemmas.Bool.{cases_Bool, and_parts}
use Rattle.std.proofs.lemmas.Bool.Decides.{nat_tests, Decides-ltb}
use Rattle.std.proofs.lemmas.List.{take_at, drop_at, get_or-append-add}
use Rattle.std.proofs.lemmas.List.Elements.{filter-append}
use Rattle.bstr.specs.Text.{line_len, lines_of, no_cr, without_terminator}
use Rattle.script_reader.specs.Fields.{fields, is_gap, is_some_field}
use Rattle.script_reader.specs.Script.{text_lines}
use Rattle.script_reader.proofs.OnLast.{last_pushed}
use Rattle.script_reader.proofs.UpgradeText.{some_lines, no_text}

abbrev pub is_inside : ℕ → Bool
is_inside b = not (b == 10)

-- bytes of one line: none of them is a line feed
abbrev pub IsOneLine : List ℕ → Type 0
IsOneLine bytes = list_all is_inside bytes ≡ true

-- lines, each with its end
abbrev pub closed : List (List ℕ) → List ℕ
closed [] = []
closed (line ∷ lines) = line ++ 10 ∷ closed lines

-- what is read of a line that has its end
abbrev pub read_line : List ℕ → List ℕ
read_line line = without_terminator (line ++ 10 ∷ [])

-- ---- one line

line_len_is : (line rest : List ℕ) → IsOneLine line → line_len (line ++ 10 ∷ rest) ≡ suc (length line)
unfolding line_len
line_len_is [] rest one = refl
line_len_is (b ∷ line) rest one =
    let parts = and_parts (is_inside b) (list_all is_inside line) one in
    let other = no_feed (b == 10) parts.0 in
    ap (λ t. cond t 1 (suc (line_len (line ++ 10 ∷ rest)))) other ∙ ap suc (line_len_is line rest parts.1)
  where
    no_feed : (t : Bool) → not t ≡ true → t ≡ false
    no_feed true h = cc
    no_feed false h = refl

pub first_line : (line rest : List ℕ) → IsOneLine line → text_lines (line ++ 10 ∷ rest) ≡ read_line line ∷ text_lines rest
first_line line rest one =
    let whole = length-append line (10 ∷ rest) in
    let own = length-append line (10 ∷ []) in
    let size = line_len_is line rest one in
    let cut : line ++ 10 ∷ rest ≡ (line ++ 10 ∷ []) ++ rest = sym (append_assoc line (10 ∷ []) rest) in
    ap (map without_terminator) (some_lines (line ++ 10 ∷ rest) (omega (arith, whole))
    ∙ (λ i. take (size i) (cut i) ∷ lines_of (drop (size i) (cut i)))
    ∙ (λ i. take_at (line ++ 10 ∷ []) rest (suc (length line)) (omega (arith, own)) i ∷ lines_of
    (drop_at (line ++ 10 ∷ []) rest (suc (length line)) (omega (arith, own)) i)))

pub closed_lines : (lines : List (List ℕ)) (rest : List ℕ) → AllByRecursion IsOneLine lines
    → text_lines (closed lines ++ rest) ≡ map read_line lines ++ text_lines rest
closed_lines [] rest all = refl
closed_lines (line ∷ lines) rest all =
    ap text_lines (append_assoc line (10 ∷ closed lines) rest) ∙ first_line line (closed lines ++ rest) all.0
    ∙ ap (λ l. read_line line ∷ l) (closed_lines lines rest all.1)

pub closed-append : (xs ys : List (List ℕ)) → closed (xs ++ ys) ≡ closed xs ++ closed ys
closed-append [] ys = refl
closed-append (x ∷ xs) ys = ap (λ l. x ++ 10 ∷ l) (closed-append xs ys) ∙ sym (append_assoc x (10 ∷ closed xs) (closed ys))

-- ---- a last line without its end

open_len : (line : List ℕ) → IsOneLine line → line_len line ≡ length line
unfolding line_len
open_len [] one = refl
open_len (b ∷ line) one =
    let parts = and_parts (is_inside b) (list_all is_inside line) one in
    let other = no_feed (b == 10) parts.0 in
    ap (λ t. cond t 1 (suc (line_len line))) other ∙ ap suc (open_len line parts.1)
  where
    no_feed : (t : Bool) → not t ≡ true → t ≡ false
    no_feed true h = cc
    no_feed false h = refl

-- a byte ends a list with something behind it exactly where it ends what is behind
pub ends_behind : (b : ℕ) (front last : List ℕ) → 0 < length last → ends_with_byte b (front ++ last) ≡ ends_with_byte b last
ends_behind b front last some =
    let sum = length-append front last in
    let place : length (front ++ last) - 1 ≡ length front + (length last - 1) = omega (arith, sum, some) in
    let byte : slice_index (front ++ last) (length (front ++ last) - 1) ≡ slice_index last (length last - 1) =
    ap (slice_index (front ++ last)) place ∙ get_or-append-add front last (length last - 1) 0 in
    λ i. above (length (front ++ last)) (length last) (omega (arith, sum, some)) some i && (byte i == b)
  where
    above : (m n : ℕ) → 0 < m → 0 < n → nat_lt 0 m ≡ nat_lt 0 n
    above m n h k = (Decides-ltb 0 m).1 h ∙ sym ((Decides-ltb 0 n).1 k)

-- lines that have their ends end with a line feed
pub closed_ends : (line : List ℕ) (lines : List (List ℕ)) → ends_with_byte 10 (closed (line ∷ lines)) ≡ true
closed_ends line [] = ends_behind 10 line (10 ∷ []) (omega arith)
closed_ends line (next ∷ lines) =
    ap (ends_with_byte 10) (sym (append_assoc line (10 ∷ []) (closed (next ∷ lines))))
    ∙ ends_behind 10 (line ++ 10 ∷ []) (closed (next ∷ lines)) (let sum = length-append next (10 ∷ closed lines) in omega (arith, sum)) ∙ closed_ends next lines

one_line_open : (line : List ℕ) (k : ℕ) → IsOneLine line → k < length line → (get_or line k 0 == 10) ≡ false
one_line_open [] k one inside = absurd (omega arith)
one_line_open (b ∷ line) zero one inside = no_feed (b == 10) (and_parts (is_inside b) (list_all is_inside line) one).0
  where
    no_feed : (t : Bool) → not t ≡ true → t ≡ false
    no_feed true h = cc
    no_feed false h = refl
one_line_open (b ∷ line) (suc k) one inside = one_line_open line k (and_parts (is_inside b) (list_all is_inside line) one).1 (omega arith)

pub not_ended : (line : List ℕ) → IsOneLine line → 0 < length line → ends_with_byte 10 line ≡ false
not_ended line one some = (λ i. nat_lt 0 (length line) && one_line_open line (length line - 1) one (omega (arith, some)) i) ∙ never (nat_lt 0 (length line))
  where
    never : (t : Bool) → (t && false) ≡ false
    never true = refl
    never false = refl

-- a line without its end is read as it is
pub open_line : (line : List ℕ) → IsOneLine line → 0 < length line → text_lines line ≡ line ∷ []
open_line line one some =
    ap (map without_terminator) (some_lines line some ∙ (λ i. take (open_len line one i) line ∷ lines_of (drop (open_len line one i) line))
    ∙ (λ i. take_all line i ∷ lines_of (drop_all line i)))
    ∙ (λ i. cond (not_ended line one some i) (no_cr (take (length line - 1) line)) line ∷ no_text i)
  where
    take_all : (xs : List ℕ) → take (length xs) xs ≡ xs
    take_all [] = refl
    take_all (x ∷ xs) = ap (λ l. x ∷ l) (take_all xs)

    drop_all : (xs : List ℕ) → drop (length xs) xs ≡ []
    drop_all [] = refl
    drop_all (x ∷ xs) = drop_all xs

-- a line with its end is read as it is, where no carriage return stands before the end
pub read_plain : (line : List ℕ) → ends_with_byte 13 line ≡ false → read_line line ≡ line
read_plain line plain =
    let size : length (line ++ 10 ∷ []) ≡ suc (length line) = (let sum = length-append line (10 ∷ []) in omega (arith, sum)) in
    let some = (Decides-ltb 0 (length (line ++ 10 ∷ []))).1 (omega (arith, size)) in
    let last = last_pushed line 10 0 in
    let front : take (length (line ++ 10 ∷ []) - 1) (line ++ 10 ∷ []) ≡ line = take_at line (10 ∷ []) (length (line ++ 10 ∷ []) - 1) (omega (arith, size)) in
    (λ i. cond (some i && (last i == 10)) (no_cr (front i)) (line ++ 10 ∷ [])) ∙ (λ i. cond (plain i) (take (length line - 1) line) line)

-- ---- any text

-- lines with their ends, and a rest of one line
pub record IsCut (bytes : List ℕ) (lines : List (List ℕ)) (last : List ℕ) : Type 0 where
  pub whole : bytes ≡ closed lines ++ last
  pub lines_one : AllByRecursion IsOneLine lines
  pub last_one : IsOneLine last

pub record Cut (bytes : List ℕ) : Type 0 where
  pub lines : List (List ℕ)
  pub last : List ℕ
  pub is : IsCut bytes lines last

pub cut : (bytes : List ℕ) → Cut bytes
cut [] = record { lines = []; last = []; is = record { whole = refl; lines_one = tt; last_one = refl } }
cut (b ∷ bytes) = let more = cut bytes in ⊎_elim (λ is. fed b more.lines more.last more.is (is_feed is)) (λ is. joined b more.lines more.last more.is is) (cases_Bool (b == 10))
  where
    is_feed : (b == 10) ≡ true → b ≡ 10
    is_feed h = grind (arith, nat_tests, h)

    fed : (b : ℕ) (lines : List (List ℕ)) (last : List ℕ) → IsCut bytes lines last → b ≡ 10 → Cut (b ∷ bytes)
    fed b lines last h is = record {
      lines = [] ∷ lines;
      last = last;
      is = record { whole = λ i. is i ∷ h.whole i; lines_one = (refl, h.lines_one); last_one = h.last_one };
    }

    joined : (b : ℕ) (lines : List (List ℕ)) (last : List ℕ) → IsCut bytes lines last → (b == 10) ≡ false → Cut (b ∷ bytes)
    joined b [] last h is = record {
      lines = [];
      last = b ∷ last;
      is = record { whole = ap (λ l. b ∷ l) h.whole; lines_one = tt; last_one = rw is h.last_one };
    }
    joined b (line ∷ lines) last h is = record {
      lines = (b ∷ line) ∷ lines;
      last = last;
      is = record { whole = ap (λ l. b ∷ l) h.whole; lines_one = (rw is h.lines_one.0, h.lines_one.1); last_one = h.last_one };
    }

-- ---- a space at the end of a line

onto_append : (x : ℕ) (p : ℕ → Bool) (xs : List ℕ) (more : List (List ℕ)) → onto_first x (slice_split p xs ++ more) ≡ onto_first x (slice_split p xs) ++ more
onto_append x p [] more = refl
onto_append x p (y ∷ ys) more = ⊎_elim (λ is. rw is refl) (λ is. rw is (again (slice_split p ys) more)) (cases_Bool (p y))
  where
    again : (parts : List (List ℕ)) (more : List (List ℕ)) → onto_first x (onto_first y parts ++ more) ≡ onto_first x (onto_first y parts) ++ more
    again [] more = refl
    again (part ∷ parts) more = refl

split_end : (p : ℕ → Bool) (xs : List ℕ) (y : ℕ) → p y ≡ true → slice_split p (xs ++ y ∷ []) ≡ slice_split p xs ++ [] ∷ []
split_end p [] y is = rw is refl
split_end p (x ∷ xs) y is =
    ⊎_elim
    (λ gap. rw gap (ap (λ l. [] ∷ l) (split_end p xs y is)))
    (λ gap. rw gap (ap (onto_first x) (split_end p xs y is) ∙ onto_append x p xs ([] ∷ [])))
    (cases_Bool (p x))

pub space_behind : (line : List ℕ) → fields (line ++ 32 ∷ []) ≡ fields line
unfolding fields
space_behind line =
    ap (filter is_some_field) (split_end is_gap line 32 refl) ∙ filter-append is_some_field (slice_split is_gap line) ([] ∷ []) ∙ append-nil _
