-- The words of a line are one line.
use Rattle.std.proofs.Common.{◌≡◌, ℕ, zero, suc, ◌%◌, true, List, [], ◌∷◌, ◌++◌, get_or, refl, Option, Some, None}
use Rattle.std.specs.Prelude.{◌/◌, ◌&&◌, codes, ◌==◌, not}
use Rattle.std.specs.Int.{Width, w32, w64, to_be_bytes}
use Rattle.std.specs.List.{list_all}
use Rattle.std.proofs.lemmas.Bool.{and_parts}
use Rattle.hex.specs.Hex.{encode_lower, encode_with, lower_digits}
use Rattle.bay_log.specs.declared.how.How.{How}
use Rattle.bay_log.specs.declared.how.How.TheVariants.{LetGo, Left, Lapsed, NotWritten, Limit, Grace, TakenAway, Replaced, Stopped}
use Rattle.bay_log.specs.declared.line.Entry.{Entry}
use Rattle.bay_log.specs.declared.line.Line.{Line}
use Rattle.bay_log.specs.declared.line.Line.TheVariants.{Head, Hold, Back, End, Note}
use Rattle.bay_log.specs.Texts.{is_plain, ArePlain}
use Rattle.bay_log.specs.Digits.{digits}
use Rattle.bay_log.specs.Lines.{how_text, limit_text, entry_text, body, sum_of, line_words, Fits}
use Rattle.bay_log.specs.Reads.{IsOneLine}

-- no line feed is among the bytes
pub record One (bytes : List ℕ) : Type 0 where
  pub is : IsOneLine bytes

both_all : (a b : List ℕ) → IsOneLine a → IsOneLine b → IsOneLine (a ++ b)
both_all [] b p q = q
both_all (x ∷ a) b p q =
    let parts = and_parts (not (x == 10)) (list_all (λ (c : ℕ). not (c == 10)) a) p in
    λ i. parts.0 i && both_all a b parts.1 q i

both : {a b : List ℕ} → One a → One b → One (a ++ b)
both {a} {b} p q = record { is = both_all a b p.is q.is }

-- with a blank between them
field : {a b : List ℕ} → One a → One b → One (a ++ codes " " ++ b)
field p q = both (both p (record { is = refl })) q

one_at : (l : List ℕ) (n : ℕ) → IsOneLine l → not (get_or l n 0 == 10) ≡ true
one_at [] n h = refl
one_at (x ∷ l) zero h = (and_parts (not (x == 10)) (list_all (λ (c : ℕ). not (c == 10)) l) h).0
one_at (x ∷ l) (suc n) h = one_at l n (and_parts (not (x == 10)) (list_all (λ (c : ℕ). not (c == 10)) l) h).1

hex_all : (bytes : List ℕ) → IsOneLine (encode_lower bytes)
unfolding encode_with
hex_all [] = refl
hex_all (b ∷ bytes) = λ i. one_at lower_digits (b / 16) refl i && (one_at lower_digits (b % 16) refl i && hex_all bytes i)

hex : (bytes : List ℕ) → One (encode_lower bytes)
hex bytes = record { is = hex_all bytes }

number : (w : Width) (n : ℕ) → One (digits w n)
unfolding digits
number w n = record { is = hex_all (to_be_bytes w n) }

limit : (l : Option ℕ) → One (limit_text l)
limit None = record { is = refl }
limit (Some n) = number w64 n

how : (h : How) → One (how_text h)
how LetGo = record { is = refl }
how Left = record { is = refl }
how Lapsed = record { is = refl }
how NotWritten = record { is = refl }
how Limit = record { is = refl }
how Grace = record { is = refl }
how TakenAway = record { is = refl }
how Replaced = record { is = refl }
how Stopped = record { is = refl }

plain_all : (l : List ℕ) → ArePlain l → IsOneLine l
plain_all [] h = refl
plain_all (x ∷ l) h =
    let parts = and_parts (is_plain x) (list_all is_plain l) h in
    let here = and_parts (not (x == 10)) (not (x == 13)) parts.0 in
    λ i. here.0 i && plain_all l parts.1 i

entry : (e : Entry) → One (entry_text e)
unfolding entry_text
entry e =
    field
    (field
    (field (field (field (field (number w32 e.class) (number w64 e.needs)) (both (number w64 _) (number w64 _))) (number w64 e.since)) (limit e.limit))
    (number w64 e.asked))
    (number w64 e.token)

word : (l : List ℕ) → IsOneLine l → One l
word l h = record { is = h }

words : (line : Line) → Fits line → One (body line)
unfolding body
words (Head bay base next granted) fits =
    field (field (field (both (word (codes "bay ") refl) (hex bay)) (number w64 base)) (number w64 next)) (number w64 granted)
words (Hold ask e) fits = field (both (word (codes "hold ") refl) (number w64 ask)) (entry e)
words (Back from to) fits = field (both (word (codes "back ") refl) (number w64 from)) (number w64 to)
words (End ask h at) fits = field (field (both (word (codes "end ") refl) (number w64 ask)) (how h)) (number w64 at)
words (Note ask text) fits = field (both (word (codes "note ") refl) (number w64 ask)) (word text (plain_all text fits.1.plain))

pub line_one : (before : List ℕ) (line : Line) → Fits line → IsOneLine (line_words before line)
unfolding line_words
line_one before line fits = (field (hex (sum_of before (body line))) (words line fits)).is
