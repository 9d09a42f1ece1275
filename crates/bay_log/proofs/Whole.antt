-- The lines of a file, one after another.
use Rattle.std.proofs.Common.{◌≡◌, ℕ, suc, ◌+◌, ◌-◌, ◌<◌, ◌≤◌, Bool, true, false, if◌then◌else◌, List, [], ◌∷◌, ◌++◌, length, take, drop, append_assoc, refl, sym, ap, subst, ◌∙◌, arith, Option, Some, None, length-append, length-drop}
use Rattle.std.specs.Prelude.{◌&&◌, codes, ◌==◌, not, nat_lt, cond, slice_range}
use Rattle.std.specs.List.{position, position_or_len}
use Rattle.std.specs.Str.{bytes_eq}
use Rattle.std.proofs.Math.Seq.{take-append_seam}
use Rattle.std.proofs.lemmas.List.{take-append-drop, length-take-le}
use Rattle.std.proofs.lemmas.Bool.{eqb-true}
use Rattle.std.proofs.lemmas.Bool.Decides.{nat_tests}
use Rattle.std.proofs.lemmas.Slice.Eq.{bytes_eq-Decides}
use Rattle.hex.specs.Hex.{encode_lower, lower_digits}
use Rattle.hex.proofs.HexLemmas.{length-encode_with}
use Rattle.sha2.specs.Sha256.{sha256}
use Rattle.sha2.proofs.Facts256.{length-sha256}
use Rattle.bay_log.specs.declared.line.Line.{Line}
use Rattle.bay_log.specs.declared.reading.Found.{Found}
use Rattle.bay_log.specs.Lines.{body, sum_of, line_words, line_text, no_sum, last_sum, log_text, Fits, is_head, is_none, AreLines}
use Rattle.bay_log.specs.Bodies.{is_line_feed, same, placed, next_of, line_of}
use Rattle.bay_log.specs.Reads.{IsOneLine, IsRead, IsFault}
use Rattle.bay_log.proofs.Appended.{sum_both, text_more, lines_both}
use Rattle.bay_log.proofs.Back.{line_back, line_only, equal, enough, front_of, rest_of, take_all_of}

-- ---- line feeds

abbrev Feed : List ℕ → ℕ → Type 0
Feed bytes n = IsOneLine (take n bytes) × (n < length bytes → bytes ≡ take n bytes ++ 10 ∷ drop (suc n) bytes) × (length bytes ≤ n → IsOneLine bytes)

feed_step : (x : ℕ) (bytes : List ℕ) (k : ℕ) (t : Bool) → (x == 10) ≡ t → Feed bytes k → Feed (x ∷ bytes) (cond (not (x == 10)) (1 + k) 0)
feed_step x bytes k true e more =
    subst (λ (b : Bool). Feed (x ∷ bytes) (cond (not b) (1 + k) 0)) (sym e)
    (refl, (λ h. λ i. eqb-true x 10 e i ∷ bytes), (λ h. absurd (omega arith)))
feed_step x bytes k false e more =
    let one : suc k ≡ 1 + k = omega arith in
    subst (λ (b : Bool). Feed (x ∷ bytes) (cond (not b) (1 + k) 0)) (sym e)
    (subst (Feed (x ∷ bytes)) one
    ((λ i. not (e i) && more.0 i), (λ h. λ i. x ∷ more.1 (omega arith) i), (λ h. λ i. not (e i) && more.2 (omega arith) i)))

feed : (bytes : List ℕ) → Feed bytes (position_or_len is_line_feed bytes)
feed [] = (refl, (λ h. absurd (omega arith)), (λ h. refl))
feed (x ∷ bytes) = feed_step x bytes (position_or_len is_line_feed bytes) (x == 10) refl (feed bytes)

abbrev or_zero : Option ℕ → ℕ
or_zero None = 0
or_zero (Some n) = n

far : (a b : ℕ) → nat_lt a b ≡ false → b ≤ a
far a b h = grind (arith, nat_tests)

near : (a b : ℕ) → nat_lt a b ≡ true → a < b
near a b h = grind (arith, nat_tests)

none_at : (bytes : List ℕ) (n : ℕ) → Feed bytes n → (t : Bool) → nat_lt n (length bytes) ≡ t → cond t (Some n) None ≡ None → IsOneLine bytes
none_at bytes n f true e none = cc none
none_at bytes n f false e none = f.2 (far n (length bytes) e)

pub feed_none : (bytes : List ℕ) → position is_line_feed bytes ≡ None → IsOneLine bytes
feed_none bytes none = let n = position_or_len is_line_feed bytes in none_at bytes n (feed bytes) (nat_lt n (length bytes)) refl none

-- up to the first line feed
pub record UpTo (bytes : List ℕ) (n : ℕ) : Type 0 where
  pub within : n < length bytes
  pub one : IsOneLine (take n bytes)
  pub split : bytes ≡ take n bytes ++ 10 ∷ drop (suc n) bytes

some_at : (bytes : List ℕ) (n : ℕ) → Feed bytes n → (t : Bool) → nat_lt n (length bytes) ≡ t → (e : ℕ) → cond t (Some n) None ≡ Some e → UpTo bytes e
some_at bytes n f false h e some = cc some
some_at bytes n f true h e some =
    let lt = near n (length bytes) h in subst (UpTo bytes) (ap or_zero some) (record { within = lt; one = f.0; split = f.1 lt })

pub feed_some : (bytes : List ℕ) (e : ℕ) → position is_line_feed bytes ≡ Some e → UpTo bytes e
feed_some bytes e some = let n = position_or_len is_line_feed bytes in some_at bytes n (feed bytes) (nat_lt n (length bytes)) refl e some

-- ---- one line

-- the words are those of this line, in its place
pub record IsNext (before : List ℕ) (first : Bool) (words : List ℕ) (line : Line) (own : List ℕ) : Type 0 where
  pub place : is_head line ≡ first
  pub spelled : line_words before line ≡ words
  pub sum : own ≡ sum_of before (body line)

same_is : (a b : Bool) → same a b ≡ true → a ≡ b
same_is true b h = sym h
same_is false true h = cc h
same_is false false h = refl

same_self : (a : Bool) → same a a ≡ true
same_self true = refl
same_self false = refl

abbrev line_or : Line → Option (Line × List ℕ) → Line
line_or d None = d
line_or d (Some x) = x.0

abbrev sum_or : Option (Line × List ℕ) → List ℕ
sum_or None = []
sum_or (Some x) = x.1

placed_is : (first : Bool) (s : List ℕ) (found : Option Line) (line : Line) (sum : List ℕ) → placed first s found ≡ Some (line, sum)
    → (found ≡ Some line) × (is_head line ≡ first) × (s ≡ sum)
placed_is first s None line sum h = cc h
placed_is first s (Some l) line sum h = at (same (is_head l) first) refl
  where
    at : (t : Bool) → same (is_head l) first ≡ t → (Some l ≡ Some line) × (is_head line ≡ first) × (s ≡ sum)
    at false e = let both = sym (ap (λ (t : Bool). if t then Some (l, s) else None) e) ∙ h in cc both
    at true e =
        let is = sym (ap (λ (t : Bool). if t then Some (l, s) else None) e) ∙ h in
        let this : l ≡ line = ap (line_or l) is in
        (ap Some this, subst (λ (x : Line). is_head x ≡ first) this (same_is (is_head l) first e), ap sum_or is)

tested : {A : Type 0} (t : Bool) (x : Option A) (y : A) → (if t then x else None) ≡ Some y → (t ≡ true) × (x ≡ Some y)
tested true x y h = (refl, h)
tested false x y h = cc h

untested : {A : Type 0} (t : Bool) (x : Option A) (y : A) → (if t then None else x) ≡ Some y → x ≡ Some y
untested true x y h = cc h
untested false x y h = h

pub next_is : (before : List ℕ) (first : Bool) (words : List ℕ) (line : Line) (sum : List ℕ)
    → next_of before first words ≡ Some (line, sum) → IsNext before first words line sum
unfolding next_of line_words
next_is before first words line sum h =
    let rest = drop 17 words in
    let s : List ℕ = sum_of before rest in
    let front = encode_lower s ++ codes " " in
    let tested_is = tested (bytes_eq (take 17 words) front) (placed first s (line_of rest)) (line, sum)
    (untested (nat_lt (length words) 17) (if bytes_eq (take 17 words) front then placed first s (line_of rest) else None) (line, sum) h) in
    let is = placed_is first s (line_of rest) line sum tested_is.1 in
    let this : rest ≡ body line = line_only rest line is.0 in
    let begins : take 17 words ≡ front = (bytes_eq-Decides (take 17 words) front).0 tested_is.0 in
    record {
      place = is.1;
      spelled =
          (λ i. encode_lower (sum_of before (sym this i)) ++ codes " " ++ sym this i)
          ∙ ((λ i. sym begins i ++ rest) ∙ take-append-drop 17 words);
      sum = sym is.2 ∙ ap (sum_of before) this;
    }

pub sum_size : (before words : List ℕ) → length (encode_lower (sum_of before words)) ≡ 16
unfolding sum_of
sum_size before words =
    let digest = sha256 (before ++ words) in
    let len = length-encode_with lower_digits (take 8 digest) in
    omega (arith, len, length-take-le 8 digest (omega (arith, length-sha256 (before ++ words))))

pub next_again : (before : List ℕ) (first : Bool) (line : Line) → Fits line → is_head line ≡ first
    → next_of before first (line_words before line) ≡ Some (line, sum_of before (body line))
unfolding next_of line_words
next_again before first line fits place =
    let words = body line in
    let s : List ℕ = sum_of before words in
    let front = encode_lower s ++ codes " " in
    let size : length front ≡ 17 = omega (arith, length-append (encode_lower s) (codes " "), sum_size before words) in
    let all = front ++ words in
    let long : nat_lt (length all) 17 ≡ false = enough (length all) 17 (omega (arith, length-append front words, size)) in
    let t : take 17 all ≡ front = front_of front words 17 size in
    let d : drop 17 all ≡ words = rest_of front words 17 size in
    let here : same (is_head line) first ≡ true = (λ i. same (is_head line) (sym place i)) ∙ same_self (is_head line) in
    (λ i. if long i then None
    else (if bytes_eq (t i) (encode_lower (sum_of before (d i)) ++ codes " ") then placed first (sum_of before (d i)) (line_of (d i)) else None))
    ∙ ((λ i. if equal front i then placed first s (line_back line fits i) else None)
    ∙ ap (λ (b : Bool). if b then Some (line, s) else None) here)

pub next_none : (before : List ℕ) (first : Bool) (words : List ℕ) → next_of before first words ≡ None
    → (line : Line) → Fits line → is_head line ≡ first → line_words before line ≡ words → ⊥
next_none before first words none line fits place same =
    let both = sym (next_again before first line fits place) ∙ (ap (next_of before first) same ∙ none) in cc both

-- ---- what was read so far

pub record Reads (bytes : List ℕ) (front : List Line) (n : ℕ) (last : List ℕ) : Type 0 where
  pub lines : AreLines front
  pub used : n ≡ length (log_text front)
  pub whole : take n bytes ≡ log_text front
  pub within : n ≤ length bytes
  pub few : length front ≤ n
  pub sum : last ≡ last_sum front

-- what stands behind the lines of a text
pub reads_of : (bytes : List ℕ) (front : List Line) (rest last : List ℕ) (n : ℕ) → AreLines front → bytes ≡ log_text front ++ rest
    → n ≡ length (log_text front) → length front ≤ n → last ≡ last_sum front → Reads bytes front n last
reads_of bytes front rest last n sound split used few sum =
    let text = log_text front in
    let size : length bytes ≡ length text + length rest = ap (λ (l : List ℕ). length l) split ∙ length-append text rest in
    record {
      lines = sound;
      used = used;
      whole = (λ i. take (used i) (split i)) ∙ take-append_seam text rest;
      within = omega (arith, size, used);
      few = few;
      sum = sum;
    }

pub reads_split : (bytes : List ℕ) (front : List Line) (n : ℕ) (last : List ℕ) → Reads bytes front n last → bytes ≡ log_text front ++ drop n bytes
reads_split bytes front n last r = sym (take-append-drop n bytes) ∙ ap (λ (l : List ℕ). l ++ drop n bytes) r.whole

part : (bytes : List ℕ) (n e : ℕ) → slice_range bytes n (n + e) ≡ take e (drop n bytes)
part bytes n e = let many : n + e - n ≡ e = omega arith in ap (λ (k : ℕ). take k (drop n bytes)) many

regroup : (a b c : List ℕ) → (a ++ (b ++ 10 ∷ [])) ++ c ≡ a ++ (b ++ 10 ∷ c)
regroup a b c = append_assoc a (b ++ 10 ∷ []) c ∙ ap (λ (l : List ℕ). a ++ l) (append_assoc b (10 ∷ []) c)

-- one line more was read
pub read_more : (bytes : List ℕ) (front : List Line) (n : ℕ) (last : List ℕ) (first : Bool) (e : ℕ) (line : Line) (own : List ℕ)
    → Reads bytes front n last → first ≡ is_none front → position is_line_feed (drop n bytes) ≡ Some e
    → next_of last first (slice_range bytes n (n + e)) ≡ Some (line, own) → Fits line
    → Reads bytes (front ++ line ∷ []) (n + (e + 1)) own
read_more bytes front n last first e line own r at up next fits =
    let rest = drop n bytes in
    let u = feed_some rest e up in
    let is = next_is last first (slice_range bytes n (n + e)) line own next in
    let words = line_words last line in
    let spelled : words ≡ take e rest = is.spelled ∙ part bytes n e in
    let tail = drop (suc e) rest in
    let split : bytes ≡ log_text front ++ (words ++ 10 ∷ tail) =
    reads_split bytes front n last r ∙ ap (λ (l : List ℕ). log_text front ++ l) (u.split ∙ ap (λ (l : List ℕ). l ++ 10 ∷ tail) (sym spelled)) in
    let text : log_text (front ++ line ∷ []) ≡ log_text front ++ (words ++ 10 ∷ []) =
    text_more front line ∙ ap (λ (s : List ℕ). log_text front ++ line_text s line) (sym r.sum) in
    let long : length words ≡ e = ap (λ (l : List ℕ). length l) spelled ∙ length-take-le e rest (omega (arith, u.within)) in
    let size : length (log_text (front ++ line ∷ [])) ≡ length (log_text front) + length words + 1 =
    omega (arith, ap (λ (l : List ℕ). length l) text, length-append (log_text front) (words ++ 10 ∷ []), length-append words (10 ∷ [])) in
    reads_of bytes (front ++ line ∷ []) tail own (n + (e + 1))
    (lines_both true front (line ∷ []) r.lines (fits, is.place ∙ at, tt))
    (split ∙ (sym (regroup (log_text front) words tail) ∙ ap (λ (l : List ℕ). l ++ tail) (sym text)))
    (omega (arith, size, long, r.used))
    (omega (arith, length-append front (line ∷ []), r.few))
    (is.sum ∙ (ap (λ (s : List ℕ). sum_of s (body line)) r.sum ∙ sym (sum_both no_sum front (line ∷ []))))

-- a line that is none
pub read_fault : (bytes : List ℕ) (front : List Line) (n : ℕ) (last : List ℕ) (first : Bool) (e : ℕ)
    → Reads bytes front n last → first ≡ is_none front → position is_line_feed (drop n bytes) ≡ Some e
    → next_of last first (slice_range bytes n (n + e)) ≡ None → IsFault bytes (length front + 1)
read_fault bytes front n last first e r at up next =
    let rest = drop n bytes in
    let u = feed_some rest e up in
    let tail = drop (suc e) rest in
    record {
      lines = front;
      words = take e rest;
      rest = tail;
      sound = r.lines;
      whole =
          reads_split bytes front n last r
          ∙ (ap (λ (l : List ℕ). log_text front ++ l) u.split ∙ sym (append_assoc (log_text front) (take e rest) (10 ∷ tail)));
      one = u.one;
      number = refl;
      none =
          λ line fits head spelled.
          next_none last first (slice_range bytes n (n + e)) next line fits (head ∙ sym at)
          (ap (λ (s : List ℕ). line_words s line) r.sum ∙ (spelled ∙ sym (part bytes n e)));
    }

pub read_end : (bytes : List ℕ) (found : Found) → Reads bytes found.lines.items found.used found.sum → position is_line_feed (drop found.used bytes) ≡ None
    → IsRead bytes found
read_end bytes found r none =
    record { sound = record { lines = r.lines; used = r.used; sum = r.sum }; whole = r.whole; torn = feed_none (drop found.used bytes) none }

pub rest_whole : (bytes : List ℕ) (n : ℕ) → take (length bytes - n) (drop n bytes) ≡ drop n bytes
rest_whole bytes n = take_all_of (drop n bytes) (length bytes - n) (length-drop n bytes)

pub none_is : (lines : List Line) (b : Bool) → b ≡ (length lines == 0) → b ≡ is_none lines
none_is [] b h = h
none_is (line ∷ lines) b h = h ∙ more (length lines)
  where
    more : (n : ℕ) → (suc n == 0) ≡ false
    more n = grind (arith, nat_tests)
