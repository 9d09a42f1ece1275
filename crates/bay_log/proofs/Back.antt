-- The reader of a line's words is the inverse of their writer.
use Rattle.std.proofs.Common.{◌≡◌, ℕ, zero, suc, ◌+◌, ◌-◌, ◌*◌, ◌<◌, ◌≤◌, ◌^◌, ◌%◌, Bool, true, false, if◌then◌else◌, List, [], ◌∷◌, ◌++◌, length, take, get_or, append_assoc, refl, sym, ap, ◌∙◌, arith, Option, Some, None, length-append}
use Rattle.std.specs.Prelude.{◌/◌, ◌&&◌, codes, ◌==◌, not, nat_lt, nat_le, slice_range, drop, IfSome}
use Rattle.std.specs.Int.{w32, w64, to_be_bytes, byte_at}
use Rattle.std.specs.List.{list_all}
use Rattle.std.specs.Str.{bytes_eq}
use Rattle.std.proofs.Math.Seq.{take-append_seam, take-length, drop-append_seam, drop-append-add}
use Rattle.std.proofs.lemmas.Bool.{and_parts}
use Rattle.std.proofs.lemmas.Bool.Decides.{nat_tests}
use Rattle.std.proofs.lemmas.Slice.Eq.{bytes_eq-Decides}
use Rattle.std.proofs.lemmas.Nat.{from_be_bytes-to_be_bytes_4, from_be_bytes-to_be_bytes_8}
use Rattle.hex.specs.Hex.{encode_lower, encode_with, lower_digits, IsBytes}
use Rattle.hex.proofs.HexLemmas.{decode_pairs-encode_with, IsDigits-lower_digits, length-encode_with}
use Rattle.hex.proofs.Pairs.{decode_sized-pairs}
use Rattle.bay_log.specs.declared.how.How.{How}
use Rattle.bay_log.specs.declared.how.How.TheVariants.{LetGo, Left, Lapsed, NotWritten, Limit, Grace, TakenAway, Replaced, Stopped}
use Rattle.bay_log.specs.declared.line.Entry.{Entry}
use Rattle.bay_log.specs.declared.line.Line.{Line}
use Rattle.bay_log.specs.declared.line.Line.TheVariants.{Head, Hold, Back, End, Note}
use Rattle.bay_log.specs.Texts.{IsText}
use Rattle.bay_log.specs.Digits.{digits, digits_of_128, number_in, number_of, IsHash}
use Rattle.bay_log.specs.Lines.{how_text, limit_text, entry_text, body, EntryFits, Fits}
use Rattle.bay_log.specs.Bodies.{joined, number_of_128, limited, limit_of, bytes_in, hash_of, how_of, entry_if, entry_of, head_if, head_in, hold_if, hold_in, back_if, back_in, end_if, end_in, is_text, note_if, note_in, line_in, checked, line_of}

-- ---- numbers

bytes_4 : (n : ℕ) → IsBytes (to_be_bytes w32 n)
bytes_4 n zero = omega arith
bytes_4 n (suc zero) = omega arith
bytes_4 n (suc (suc zero)) = omega arith
bytes_4 n (suc (suc (suc zero))) = omega arith
bytes_4 n (suc (suc (suc (suc i)))) = omega arith

bytes_8 : (n : ℕ) → IsBytes (to_be_bytes w64 n)
bytes_8 n zero = omega arith
bytes_8 n (suc zero) = omega arith
bytes_8 n (suc (suc zero)) = omega arith
bytes_8 n (suc (suc (suc zero))) = omega arith
bytes_8 n (suc (suc (suc (suc zero)))) = omega arith
bytes_8 n (suc (suc (suc (suc (suc zero))))) = omega arith
bytes_8 n (suc (suc (suc (suc (suc (suc zero)))))) = omega arith
bytes_8 n (suc (suc (suc (suc (suc (suc (suc zero))))))) = omega arith
bytes_8 n (suc (suc (suc (suc (suc (suc (suc (suc i)))))))) = omega arith

number_4 : (n : ℕ) → n < 2 ^ 32 → number_of w32 (digits w32 n) ≡ Some n
unfolding digits number_of
number_4 n fits =
    let bytes = to_be_bytes w32 n in
    let len = length-encode_with lower_digits bytes in
    ap (number_in w32) (decode_sized-pairs (encode_lower bytes) 4 (omega (arith, len)) (omega (arith, len))
    ∙ decode_pairs-encode_with lower_digits IsDigits-lower_digits 0 bytes (bytes_4 n))
    ∙ ap Some (from_be_bytes-to_be_bytes_4 n fits)

number_8 : (n : ℕ) → n < 2 ^ 64 → number_of w64 (digits w64 n) ≡ Some n
unfolding digits number_of
number_8 n fits =
    let bytes = to_be_bytes w64 n in
    let len = length-encode_with lower_digits bytes in
    ap (number_in w64) (decode_sized-pairs (encode_lower bytes) 8 (omega (arith, len)) (omega (arith, len))
    ∙ decode_pairs-encode_with lower_digits IsDigits-lower_digits 0 bytes (bytes_8 n))
    ∙ ap Some (from_be_bytes-to_be_bytes_8 n fits)

halves : (n : ℕ) → (n / 2 ^ 64) * 2 ^ 64 + n % 2 ^ 64 ≡ n
halves n = omega arith

high_16 : (n : ℕ) → slice_range (digits_of_128 n) 0 16 ≡ digits w64 (n / 2 ^ 64)
unfolding digits encode_with
high_16 n = refl

low_16 : (n : ℕ) → slice_range (digits_of_128 n) 16 32 ≡ digits w64 (n % 2 ^ 64)
unfolding digits encode_with
low_16 n = refl

number_16 : (n : ℕ) → n < 2 ^ 128 → number_of_128 (digits_of_128 n) ≡ Some n
unfolding number_of_128
number_16 n fits =
    (λ i. joined (number_of w64 (high_16 n i)) (number_of w64 (low_16 n i)))
    ∙ ((λ i. joined (number_8 (n / 2 ^ 64) (omega arith) i) (number_8 (n % 2 ^ 64) (omega arith) i)) ∙ ap Some (halves n))

hash_back : (hash : List ℕ) → IsHash hash → hash_of (encode_lower hash) ≡ Some hash
unfolding hash_of
hash_back hash is =
    let len = length-encode_with lower_digits hash in
    ap bytes_in (decode_sized-pairs (encode_lower hash) 32 (omega (arith, len, is.len)) (omega (arith, len, is.len))
    ∙ decode_pairs-encode_with lower_digits IsDigits-lower_digits 0 hash is.bytes)

pub equal : (l : List ℕ) → bytes_eq l l ≡ true
equal [] = refl
equal (x ∷ l) = λ i. same x i && equal l i
  where
    same : (x : ℕ) → (x == x) ≡ true
    same x = grind (arith, nat_tests)

-- ---- limits

abbrev no_dash : List ℕ → Type 0
no_dash l = list_all (λ (b : ℕ). not (b == 45)) l ≡ true

dash_at : (l : List ℕ) (n : ℕ) → no_dash l → (get_or l n 0 == 45) ≡ false
dash_at [] n h = refl
dash_at (x ∷ l) zero h = turned (x == 45) (and_parts (not (x == 45)) (list_all (λ (b : ℕ). not (b == 45)) l) h).0
  where
    turned : (t : Bool) → not t ≡ true → t ≡ false
    turned true e = cc e
    turned false e = refl
dash_at (x ∷ l) (suc n) h = dash_at l n (and_parts (not (x == 45)) (list_all (λ (b : ℕ). not (b == 45)) l) h).1

first_differs : (a b : List ℕ) → (get_or a 0 0 == get_or b 0 0) ≡ false → bytes_eq a b ≡ false
first_differs [] [] h = cc h
first_differs [] (y ∷ b) h = refl
first_differs (x ∷ a) [] h = refl
first_differs (x ∷ a) (y ∷ b) h = ap (λ t. t && bytes_eq a b) h

is_no_dash : (n : ℕ) → bytes_eq (digits w64 n) (codes "----------------") ≡ false
unfolding digits encode_with
is_no_dash n = first_differs (digits w64 n) (codes "----------------") (dash_at lower_digits (byte_at 7 n / 16) refl)

limit_back : (limit : Option ℕ) → IfSome limit (λ n. n < 2 ^ 64) → limit_of (limit_text limit) ≡ Some limit
unfolding limit_of
limit_back None fits = refl
limit_back (Some n) fits =
    (λ i. if is_no_dash n i then Some None else limited (number_of w64 (digits w64 n))) ∙ ap limited (number_8 n fits)

-- ---- entries

abbrev entry_with : ℕ → ℕ → ℕ → ℕ → ℕ → ℕ → Option ℕ → Entry
entry_with c n o s a t l = record { class = c; needs = n; owner = o; since = s; limit = l; asked = a; token = t }

entry_size_by : (c n o s a t : ℕ) (l : Option ℕ) → length (entry_text (entry_with c n o s a t l)) ≡ 126
unfolding entry_text digits encode_with
entry_size_by c n o s a t None = refl
entry_size_by c n o s a t (Some m) = refl

entry_size : (e : Entry) → length (entry_text e) ≡ 126
unfolding entry_text
entry_size e = entry_size_by e.class e.needs e.owner e.since e.asked e.token e.limit

entry_class : (e : Entry) → slice_range (entry_text e) 0 8 ≡ digits w32 e.class
unfolding entry_text digits encode_with
entry_class e = refl

entry_needs : (e : Entry) → slice_range (entry_text e) 9 25 ≡ digits w64 e.needs
unfolding entry_text digits encode_with
entry_needs e = refl

entry_owner : (e : Entry) → slice_range (entry_text e) 26 58 ≡ digits_of_128 e.owner
unfolding entry_text digits encode_with
entry_owner e = refl

entry_since : (e : Entry) → slice_range (entry_text e) 59 75 ≡ digits w64 e.since
unfolding entry_text digits encode_with
entry_since e = refl

entry_limit_by : (c n o s a t : ℕ) (l : Option ℕ) → slice_range (entry_text (entry_with c n o s a t l)) 76 92 ≡ limit_text l
unfolding entry_text digits encode_with
entry_limit_by c n o s a t None = refl
entry_limit_by c n o s a t (Some m) = refl

entry_limit : (e : Entry) → slice_range (entry_text e) 76 92 ≡ limit_text e.limit
unfolding entry_text
entry_limit e = entry_limit_by e.class e.needs e.owner e.since e.asked e.token e.limit

entry_asked_by : (c n o s a t : ℕ) (l : Option ℕ) → slice_range (entry_text (entry_with c n o s a t l)) 93 109 ≡ digits w64 a
unfolding entry_text digits encode_with
entry_asked_by c n o s a t None = refl
entry_asked_by c n o s a t (Some m) = refl

entry_asked : (e : Entry) → slice_range (entry_text e) 93 109 ≡ digits w64 e.asked
unfolding entry_text
entry_asked e = entry_asked_by e.class e.needs e.owner e.since e.asked e.token e.limit

entry_token_by : (c n o s a t : ℕ) (l : Option ℕ) → slice_range (entry_text (entry_with c n o s a t l)) 110 126 ≡ digits w64 t
unfolding entry_text digits encode_with
entry_token_by c n o s a t None = refl
entry_token_by c n o s a t (Some m) = refl

entry_token : (e : Entry) → slice_range (entry_text e) 110 126 ≡ digits w64 e.token
unfolding entry_text
entry_token e = entry_token_by e.class e.needs e.owner e.since e.asked e.token e.limit

entry_back : (e : Entry) → EntryFits e → entry_of (entry_text e) ≡ Some e
unfolding entry_of
entry_back e fits =
    let c = ap (number_of w32) (entry_class e) ∙ number_4 e.class fits.class in
    let n = ap (number_of w64) (entry_needs e) ∙ number_8 e.needs fits.needs in
    let o = ap number_of_128 (entry_owner e) ∙ number_16 e.owner fits.owner in
    let s = ap (number_of w64) (entry_since e) ∙ number_8 e.since fits.since in
    let l = ap limit_of (entry_limit e) ∙ limit_back e.limit fits.limit in
    let a = ap (number_of w64) (entry_asked e) ∙ number_8 e.asked fits.asked in
    let t = ap (number_of w64) (entry_token e) ∙ number_8 e.token fits.token in
    λ i. entry_if (c i) (n i) (o i) (s i) (l i) (a i) (t i)

-- ---- each kind of line

pub is_equal : (a b : ℕ) → a ≡ b → (a == b) ≡ true
is_equal a b h = grind (arith, nat_tests)

pub take_all_of : (l : List ℕ) (n : ℕ) → length l ≡ n → take n l ≡ l
take_all_of l n h = ap (λ (m : ℕ). take m l) (sym h) ∙ take-length l

pub front_of : (a b : List ℕ) (n : ℕ) → length a ≡ n → take n (a ++ b) ≡ a
front_of a b n h = ap (λ (m : ℕ). take m (a ++ b)) (sym h) ∙ take-append_seam a b

pub rest_of : (a b : List ℕ) (n : ℕ) → length a ≡ n → drop n (a ++ b) ≡ b
rest_of a b n h = ap (λ (m : ℕ). drop m (a ++ b)) (sym h) ∙ drop-append_seam a b

past : (a b : List ℕ) (n m : ℕ) → length a ≡ n → drop (n + m) (a ++ b) ≡ drop m b
past a b n m h = ap (λ (k : ℕ). drop (k + m) (a ++ b)) (sym h) ∙ drop-append-add a b m

-- the words of a head: 4 bytes, 64 digits, and 51 bytes
abbrev head_rest : ℕ → ℕ → ℕ → List ℕ
head_rest base next granted = codes " " ++ (digits w64 base ++ (codes " " ++ (digits w64 next ++ (codes " " ++ digits w64 granted))))

head_form : (bay : List ℕ) (base next granted : ℕ) → body (Head bay base next granted) ≡ codes "bay " ++ (encode_lower bay ++ head_rest base next granted)
unfolding body
head_form bay base next granted = simp append_assoc

rest_size : (base next granted : ℕ) → length (head_rest base next granted) ≡ 51
unfolding digits encode_with
rest_size base next granted = refl

rest_base : (base next granted : ℕ) → take 16 (drop 1 (head_rest base next granted)) ≡ digits w64 base
unfolding digits encode_with
rest_base base next granted = refl

rest_next : (base next granted : ℕ) → take 16 (drop 18 (head_rest base next granted)) ≡ digits w64 next
unfolding digits encode_with
rest_next base next granted = refl

rest_granted : (base next granted : ℕ) → take 16 (drop 35 (head_rest base next granted)) ≡ digits w64 granted
unfolding digits encode_with
rest_granted base next granted = refl

head_back : (bay : List ℕ) (base next granted : ℕ) → Fits (Head bay base next granted) → head_in (body (Head bay base next granted)) ≡ Some (Head bay base next granted)
unfolding head_in
head_back bay base next granted fits =
    let enc = encode_lower bay in
    let rest = head_rest base next granted in
    let size : length enc ≡ 64 = omega (arith, length-encode_with lower_digits bay, fits.0.len) in
    let text = codes "bay " ++ (enc ++ rest) in
    let long : length text ≡ 119 = omega (arith, length-append enc rest, size, rest_size base next granted) in
    let h = ap hash_of (front_of enc rest 64 size) ∙ hash_back bay fits.0 in
    let b = ap (λ (l : List ℕ). number_of w64 (take 16 l)) (past enc rest 64 1 size) ∙ (ap (number_of w64) (rest_base base next granted) ∙ number_8 base fits.1) in
    let n = ap (λ (l : List ℕ). number_of w64 (take 16 l)) (past enc rest 64 18 size) ∙ (ap (number_of w64) (rest_next base next granted) ∙ number_8 next fits.2) in
    let g = ap (λ (l : List ℕ). number_of w64 (take 16 l)) (past enc rest 64 35 size) ∙ (ap (number_of w64) (rest_granted base next granted) ∙ number_8 granted fits.3) in
    ap head_in (head_form bay base next granted) ∙ ((λ i. if is_equal (length text) 119 long i then head_if (hash_of (slice_range text 4 68)) (number_of w64 (slice_range text 69 85)) (number_of w64 (slice_range text 86 102)) (number_of w64 (slice_range text 103 119)) else None)
    ∙ λ i. head_if (h i) (b i) (n i) (g i))

hold_size : (ask : ℕ) (e : Entry) → length (body (Hold ask e)) ≡ 148
unfolding body digits encode_with
hold_size ask e = omega (arith, entry_size e)

hold_ask : (ask : ℕ) (e : Entry) → slice_range (body (Hold ask e)) 5 21 ≡ digits w64 ask
unfolding body digits encode_with
hold_ask ask e = refl

hold_entry : (ask : ℕ) (e : Entry) → slice_range (body (Hold ask e)) 22 148 ≡ entry_text e
unfolding body digits encode_with
hold_entry ask e = take_all_of (entry_text e) 126 (entry_size e)

hold_back : (ask : ℕ) (e : Entry) → Fits (Hold ask e) → hold_in (body (Hold ask e)) ≡ Some (Hold ask e)
unfolding hold_in
hold_back ask e fits =
    let words = body (Hold ask e) in
    let a = ap (number_of w64) (hold_ask ask e) ∙ number_8 ask fits.0 in
    let h = ap entry_of (hold_entry ask e) ∙ entry_back e fits.1 in
    (λ i. if is_equal (length words) 148 (hold_size ask e) i then hold_if (a i) (h i) else None)

back_size : (from to : ℕ) → length (body (Back from to)) ≡ 38
unfolding body digits encode_with
back_size from to = refl

back_from : (from to : ℕ) → slice_range (body (Back from to)) 5 21 ≡ digits w64 from
unfolding body digits encode_with
back_from from to = refl

back_to : (from to : ℕ) → slice_range (body (Back from to)) 22 38 ≡ digits w64 to
unfolding body digits encode_with
back_to from to = refl

back_back : (from to : ℕ) → Fits (Back from to) → back_in (body (Back from to)) ≡ Some (Back from to)
unfolding back_in
back_back from to fits =
    let words = body (Back from to) in
    let f = ap (number_of w64) (back_from from to) ∙ number_8 from fits.0 in
    let t = ap (number_of w64) (back_to from to) ∙ number_8 to fits.1 in
    (λ i. if is_equal (length words) 38 (back_size from to) i then back_if (f i) (t i) else None)

how_back : (how : How) → how_of (how_text how) ≡ Some how
unfolding how_of
how_back LetGo = refl
how_back Left = refl
how_back Lapsed = refl
how_back NotWritten = refl
how_back Limit = refl
how_back Grace = refl
how_back TakenAway = refl
how_back Replaced = refl
how_back Stopped = refl

pub enough : (n m : ℕ) → m ≤ n → nat_lt n m ≡ false
enough n m h = grind (arith, nat_tests)

-- the words of an end, but for the word itself: 4 bytes and 16 digits and a blank before it, and a blank and 16 digits behind it
end_size : (ask : ℕ) (how : How) (at : ℕ) → length (body (End ask how at)) ≡ 38 + length (how_text how)
unfolding body digits encode_with
end_size ask LetGo at = refl
end_size ask Left at = refl
end_size ask Lapsed at = refl
end_size ask NotWritten at = refl
end_size ask Limit at = refl
end_size ask Grace at = refl
end_size ask TakenAway at = refl
end_size ask Replaced at = refl
end_size ask Stopped at = refl

end_ask : (ask : ℕ) (how : How) (at : ℕ) → slice_range (body (End ask how at)) 4 20 ≡ digits w64 ask
unfolding body digits encode_with
end_ask ask how at = refl

end_how : (ask : ℕ) (how : How) (at : ℕ) → slice_range (body (End ask how at)) 21 (length (body (End ask how at)) - 17) ≡ how_text how
unfolding body digits encode_with
end_how ask LetGo at = refl
end_how ask Left at = refl
end_how ask Lapsed at = refl
end_how ask NotWritten at = refl
end_how ask Limit at = refl
end_how ask Grace at = refl
end_how ask TakenAway at = refl
end_how ask Replaced at = refl
end_how ask Stopped at = refl

end_at : (ask : ℕ) (how : How) (at : ℕ) → drop (length (body (End ask how at)) - 16) (body (End ask how at)) ≡ digits w64 at
unfolding body digits encode_with
end_at ask LetGo at = refl
end_at ask Left at = refl
end_at ask Lapsed at = refl
end_at ask NotWritten at = refl
end_at ask Limit at = refl
end_at ask Grace at = refl
end_at ask TakenAway at = refl
end_at ask Replaced at = refl
end_at ask Stopped at = refl

end_back : (ask : ℕ) (how : How) (at : ℕ) → Fits (End ask how at) → end_in (body (End ask how at)) ≡ Some (End ask how at)
unfolding end_in
end_back ask how at fits =
    let words = body (End ask how at) in
    let size = end_size ask how at in
    let long : 38 ≤ length words = omega (arith, size) in
    let a = ap (number_of w64) (end_ask ask how at) ∙ number_8 ask fits.0 in
    let h = ap how_of (end_how ask how at) ∙ how_back how in
    let m = ap (number_of w64) (end_at ask how at) ∙ number_8 at fits.1 in
    (λ i. if enough (length words) 38 long i then None else end_if (a i) (h i) (m i))

note_size : (ask : ℕ) (text : List ℕ) → 22 ≤ length (body (Note ask text))
unfolding body digits encode_with
note_size ask text = omega arith

note_ask : (ask : ℕ) (text : List ℕ) → slice_range (body (Note ask text)) 5 21 ≡ digits w64 ask
unfolding body digits encode_with
note_ask ask text = refl

note_text : (ask : ℕ) (text : List ℕ) → drop 22 (body (Note ask text)) ≡ text
unfolding body digits encode_with
note_text ask text = refl

text_is : (text : List ℕ) → IsText text → is_text text ≡ true
text_is text is = λ i. short (length text) 500 is.short i && is.plain i
  where
    short : (a b : ℕ) → a ≤ b → nat_le a b ≡ true
    short a b h = grind (arith, nat_tests)

note_back : (ask : ℕ) (text : List ℕ) → Fits (Note ask text) → note_in (body (Note ask text)) ≡ Some (Note ask text)
unfolding note_in
note_back ask text fits =
    let words = body (Note ask text) in
    let a = ap (number_of w64) (note_ask ask text) ∙ number_8 ask fits.0 in
    (λ i. if enough (length words) 22 (note_size ask text) i then None else note_if (a i) (note_text ask text i))
    ∙ ap (λ (t : Bool). if t then Some (Note ask text) else None) (text_is text fits.1)

-- ---- by the first word

first_back : (line : Line) → Fits line → line_in (body line) ≡ Some line
unfolding line_in body
first_back (Head bay base next granted) fits = head_back bay base next granted fits
first_back (Hold ask entry) fits = hold_back ask entry fits
first_back (Back from to) fits = back_back from to fits
first_back (End ask how at) fits = end_back ask how at fits
first_back (Note ask text) fits = note_back ask text fits

-- what is written is read again
pub line_back : (line : Line) → Fits line → line_of (body line) ≡ Some line
unfolding line_of
line_back line fits =
    ap (checked (body line)) (first_back line fits) ∙ ap (λ (t : Bool). if t then Some line else None) (equal (body line))

-- what is read is written so
pub line_only : (words : List ℕ) (line : Line) → line_of words ≡ Some line → words ≡ body line
unfolding line_of
line_only words line h = only (line_in words) h
  where
    got : Line → Option Line → Line
    got d None = d
    got d (Some l) = l

    only : (found : Option Line) → checked words found ≡ Some line → words ≡ body line
    only None e = cc e
    only (Some l) e = tested (bytes_eq words (body l)) l refl e
      where
        tested : (t : Bool) (l : Line) → bytes_eq words (body l) ≡ t → (if t then Some l else None) ≡ Some line → words ≡ body line
        tested false l same is = cc is
        tested true l same is =
            let this : l ≡ line = ap (got l) is in
            (bytes_eq-Decides words (body l)).0 same ∙ ap body this
