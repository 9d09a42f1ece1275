-- Two texts of lines that begin alike have the same lines there.
use Rattle.std.proofs.Common.{◌≡◌, ℕ, ◌+◌, ◌<◌, ◌≤◌, Bool, true, false, List, [], ◌∷◌, ◌++◌, length, drop, append_assoc, refl, sym, ap, subst, ◌∙◌, arith, Option, Some, None, length-append, ◌⊎◌, inl, inr}
use Rattle.std.specs.Prelude.{codes, ◌==◌, not}
use Rattle.std.specs.List.{list_all}
use Rattle.std.proofs.lemmas.List.{take-append-drop}
use Rattle.std.proofs.lemmas.Bool.{and_parts}
use Rattle.hex.specs.Hex.{encode_lower}
use Rattle.bay_log.specs.declared.line.Line.{Line}
use Rattle.bay_log.specs.declared.reading.Found.{Found}
use Rattle.bay_log.specs.Lines.{body, sum_of, line_words, line_text, sum_after, text_after, no_sum, last_sum, log_text, Fits, is_head, is_none, AreLinesFrom, AreLines}
use Rattle.bay_log.specs.Bodies.{line_of}
use Rattle.bay_log.specs.Reads.{IsOneLine, IsRead, IsFault}
use Rattle.bay_log.specs.Laws.{BeginsWith, LinesAreRead, CutLinesAreRead, DurableLinesAreRead}
use Rattle.bay_log.proofs.Appended.{text_both, lines_split, append_nil}
use Rattle.bay_log.proofs.Back.{line_back, rest_of}
use Rattle.bay_log.proofs.Plain.{line_one}
use Rattle.bay_log.proofs.Whole.{sum_size}

-- ---- the first line of two texts

abbrev head_or : ℕ → List ℕ → ℕ
head_or d [] = d
head_or d (x ∷ l) = x

abbrev rest_or : List ℕ → List ℕ
rest_or [] = []
rest_or (x ∷ l) = l

-- a line feed isn't among the bytes
no_feed : (x : ℕ) (l : List ℕ) → IsOneLine (x ∷ l) → x ≡ 10 → ⊥
no_feed x l one e =
    let here : not (x == 10) ≡ true = (and_parts (not (x == 10)) (list_all (λ (c : ℕ). not (c == 10)) l) one).0 in
    let both : false ≡ true = ap (λ (y : ℕ). not (y == 10)) (sym e) ∙ here in
    cc both

one_tail : (x : ℕ) (l : List ℕ) → IsOneLine (x ∷ l) → IsOneLine l
one_tail x l one = (and_parts (not (x == 10)) (list_all (λ (c : ℕ). not (c == 10)) l) one).1

-- lines that end with a line feed
pub same_line : (a b x y : List ℕ) → IsOneLine a → IsOneLine b → a ++ 10 ∷ x ≡ b ++ 10 ∷ y → (a ≡ b) × (x ≡ y)
same_line [] [] x y p q h = (refl, ap rest_or h)
same_line [] (c ∷ b) x y p q h = absurd (no_feed c b q (sym (ap (head_or 0) h)))
same_line (c ∷ a) [] x y p q h = absurd (no_feed c a p (ap (head_or 0) h))
same_line (c ∷ a) (d ∷ b) x y p q h =
    let more = same_line a b x y (one_tail c a p) (one_tail d b q) (ap rest_or h) in
    ((λ i. ap (head_or 0) h i ∷ more.0 i), more.1)

-- a torn line is no longer than a whole one that begins alike
pub torn_size : (torn a x y : List ℕ) → IsOneLine torn → torn ++ x ≡ a ++ 10 ∷ y → length torn ≤ length a
torn_size [] a x y p h = omega arith
torn_size (c ∷ torn) [] x y p h = absurd (no_feed c torn p (ap (head_or 0) h))
torn_size (c ∷ torn) (d ∷ a) x y p h = let more = torn_size torn a x y (one_tail c torn p) (ap rest_or h) in omega (arith, more)

abbrev line_or : Line → Option Line → Line
line_or d None = d
line_or d (Some l) = l

-- the words name the line
pub same_words : (s : List ℕ) (x y : Line) → Fits x → Fits y → line_words s x ≡ line_words s y → x ≡ y
unfolding line_words
same_words s x y p q h =
    let front : Line → List ℕ = λ l. encode_lower (sum_of s (body l)) ++ codes " " in
    let size : (l : Line) → length (front l) ≡ 17 =
    λ l. omega (arith, length-append (encode_lower (sum_of s (body l))) (codes " "), sum_size s (body l)) in
    let same : body x ≡ body y =
    sym (rest_of (front x) (body x) 17 (size x)) ∙ (ap (λ (l : List ℕ). drop 17 l) h ∙ rest_of (front y) (body y) 17 (size y)) in
    ap (line_or x) (sym (line_back x p) ∙ (ap line_of same ∙ line_back y q))

-- a line and what stands behind it
pub text_cons : (s : List ℕ) (x : Line) (l : List Line) (end : List ℕ)
    → text_after s (x ∷ l) ++ end ≡ line_words s x ++ 10 ∷ (text_after (sum_of s (body x)) l ++ end)
text_cons s x l end =
    append_assoc (line_text s x) (text_after (sum_of s (body x)) l) end ∙ append_assoc (line_words s x) (codes "\n") (text_after (sum_of s (body x)) l ++ end)

-- ---- two texts that begin alike

-- one has all lines of the other, and perhaps more
abbrev pub Alike : List ℕ → List Line → List ℕ → List Line → List ℕ → Type 0
Alike s a x b y =
    ((e : List Line) × (b ≡ a ++ e) × (x ≡ text_after (sum_after s a) e ++ y))
    ⊎ ((l : Line) × (e : List Line) × (a ≡ b ++ l ∷ e) × (text_after (sum_after s b) (l ∷ e) ++ x ≡ y))

grown : (s : List ℕ) (l : Line) (a : List Line) (x : List ℕ) (b : List Line) (y : List ℕ) → Alike (sum_of s (body l)) a x b y
    → Alike s (l ∷ a) x (l ∷ b) y
grown s l a x b y (inl (e, same, text)) = inl (e, ap (λ (k : List Line). l ∷ k) same, text)
grown s l a x b y (inr (k, e, same, text)) = inr (k, e, ap (λ (z : List Line). l ∷ z) same, text)

pub alike : (s : List ℕ) (f : Bool) (a b : List Line) (x y : List ℕ) → AreLinesFrom f a → AreLinesFrom f b
    → text_after s a ++ x ≡ text_after s b ++ y → Alike s a x b y
alike s f [] b x y p q h = inl (b, refl, h)
alike s f (l ∷ a) [] x y p q h = inr (l, a, refl, h)
alike s f (l ∷ a) (m ∷ b) x y p q h =
    let t : List ℕ = sum_of s (body l) in
    let parts = same_line (line_words s l) (line_words s m) (text_after t a ++ x) (text_after (sum_of s (body m)) b ++ y) (line_one s l p.0)
    (line_one s m q.0) (sym (text_cons s l a x) ∙ (h ∙ text_cons s m b y)) in
    let same : l ≡ m = same_words s l m p.0 q.0 parts.0 in
    let behind : text_after t a ++ x ≡ text_after t b ++ y =
    parts.1 ∙ ap (λ (z : Line). text_after (sum_of s (body z)) b ++ y) (sym same) in
    subst (λ (z : Line). Alike s (l ∷ a) x (z ∷ b) y) same (grown s l a x b y (alike t false a b x y p.2 q.2 behind))

-- ---- where a line is none

abbrev IsNone : List Line → List ℕ → Type 0
IsNone front words = (line : Line) → Fits line → is_head line ≡ is_none front → line_words (last_sum front) line ≡ words → ⊥

pub never_empty : (a b : List ℕ) → [] ≡ a ++ 10 ∷ b → ⊥
never_empty [] b h = cc h
never_empty (x ∷ a) b h = cc h

-- no whole line is a part of a line
pub no_torn : (a b torn : List ℕ) → IsOneLine torn → a ++ 10 ∷ b ≡ torn → ⊥
no_torn a b [] one h = never_empty a b (sym h)
no_torn [] b (x ∷ torn) one h = no_feed x torn one (sym (ap (head_or 0) h))
no_torn (y ∷ a) b (x ∷ torn) one h = no_torn a b torn (one_tail x torn one) (ap rest_or h)

-- the lines of a text are lines where they stand
pub no_fault : (front : List Line) (words rest : List ℕ) (line : Line) (behind : List Line) (x : List ℕ) → AreLines (front ++ line ∷ behind)
    → IsOneLine words → IsNone front words → text_after (last_sum front) (line ∷ behind) ++ x ≡ words ++ 10 ∷ rest → ⊥
no_fault front words rest line behind x sound one none h =
    let s : List ℕ = last_sum front in
    let here : AreLinesFrom (is_none front) (line ∷ behind) = (lines_split true front (line ∷ behind) sound).1 in
    let parts = same_line (line_words s line) words (text_after (sum_of s (body line)) behind ++ x) rest (line_one s line here.0) one
    (sym (text_cons s line behind x) ∙ h) in
    none line here.0 here.1 parts.0

-- ---- cut at any byte

lines_nil : (l : List Line) → l ++ [] ≡ l
lines_nil [] = refl
lines_nil (x ∷ l) = λ i. x ∷ lines_nil l i

pub read_split : (front : List ℕ) (found : Found) → IsRead front found → front ≡ log_text found.lines.items ++ drop found.used front
read_split front found r = sym (take-append-drop found.used front) ∙ ap (λ (l : List ℕ). l ++ drop found.used front) r.whole

-- what was read, and what stands behind it
pub record Read (lines : List Line) (some : List Line) (end : List ℕ) : Type 0 where
  pub rest : List Line
  pub is : lines ≡ some ++ rest
  pub text : text_after (last_sum some) rest ≡ end

read_from : (lines some : List Line) (end : List ℕ) → Alike no_sum lines [] some end → Read lines some end
read_from lines some end (inl ([], same, text)) = record { rest = []; is = sym (lines_nil lines) ∙ (sym same ∙ sym (lines_nil some)); text = text }
read_from lines some end (inl (x ∷ e, same, text)) =
    let t : List ℕ = last_sum lines in
    absurd (never_empty (line_words t x) (text_after (sum_of t (body x)) e ++ end) (text ∙ text_cons t x e end))
read_from lines some end (inr (x, e, same, text)) =
    record { rest = x ∷ e; is = same; text = sym (append_nil (text_after (last_sum some) (x ∷ e))) ∙ text }

first : (lines : List Line) (front back : List ℕ) (found : Found) → AreLines lines → log_text lines ≡ front ++ back → IsRead front found
    → Read lines found.lines.items (drop found.used front ++ back)
first lines front back found sound cut r =
    let some : List Line = found.lines.items in
    let torn : List ℕ = drop found.used front in
    let text : log_text lines ++ [] ≡ log_text some ++ (torn ++ back) =
    append_nil (log_text lines) ∙ (cut ∙ (ap (λ (l : List ℕ). l ++ back) (read_split front found r) ∙ append_assoc (log_text some) torn back)) in
    read_from lines some (torn ++ back) (alike no_sum true lines some [] (torn ++ back) sound r.sound.lines text)

abbrev first_line : Line → List Line → Line
first_line d [] = d
first_line d (x ∷ l) = x

abbrev later_lines : List Line → List Line
later_lines [] = []
later_lines (x ∷ l) = l

-- one of two beginnings is a beginning of the other
prefixes : (a b c d : List Line) → a ++ b ≡ c ++ d → ((e : List Line) × (c ≡ a ++ e)) ⊎ ((x : Line) × (e : List Line) × (a ≡ c ++ x ∷ e) × (d ≡ x ∷ e ++ b))
prefixes [] b c d h = inl (c, refl)
prefixes (x ∷ a) b [] d h = inr (x, a, refl, sym h)
prefixes (x ∷ a) b (y ∷ c) d h = with_first (prefixes a b c d (ap later_lines h))
  where
    with_first : ((e : List Line) × (c ≡ a ++ e)) ⊎ ((z : Line) × (e : List Line) × (a ≡ c ++ z ∷ e) × (d ≡ z ∷ e ++ b))
        → ((e : List Line) × (y ∷ c ≡ (x ∷ a) ++ e)) ⊎ ((z : Line) × (e : List Line) × (x ∷ a ≡ (y ∷ c) ++ z ∷ e) × (d ≡ z ∷ e ++ b))
    with_first (inl (e, same)) = inl (e, λ i. sym (ap (first_line x) h) i ∷ same i)
    with_first (inr (z, e, same, more)) = inr (z, e, (λ i. ap (first_line x) h i ∷ same i), more)

-- lines that end behind what is left aren't whole in it
too_long : (some more : List Line) (line : Line) (rest : List Line) (torn back : List ℕ) → IsOneLine torn
    → text_after (last_sum some) (line ∷ rest) ≡ torn ++ back → length (log_text some) + length torn < length (log_text (some ++ line ∷ more))
too_long some more line rest torn back one text =
    let s : List ℕ = last_sum some in
    let words = line_words s line in
    let here = torn_size torn words back (text_after (sum_of s (body line)) rest) one
    (sym text ∙ append_assoc words (codes "\n") (text_after (sum_of s (body line)) rest)) in
    let t : List ℕ = text_after (sum_of s (body line)) more in
    let size = ap (λ (l : List ℕ). length l) (text_both no_sum some (line ∷ more)) in
    omega (
      arith,
      here,
      size,
      length-append (log_text some) (line_text s line ++ t),
      length-append (line_text s line) t,
      length-append words (codes "\n"),
    )

whole : (lines : List Line) (front back : List ℕ) (found : Found) → AreLines lines → log_text lines ≡ front ++ back → IsRead front found
    → (some : List Line) → BeginsWith lines some → length (log_text some) ≤ length front → BeginsWith found.lines.items some
whole lines front back found sound cut r some begins fits =
    let read = first lines front back found sound cut r in
    of_both found.lines.items some begins.0 (drop found.used front) back front read r.torn (read_split front found r) fits
    (prefixes some begins.0 found.lines.items read.rest (sym begins.1 ∙ read.is))
  where
    of_both : (was some d : List Line) (torn back front : List ℕ) (read : Read lines was (torn ++ back)) → IsOneLine torn
        → front ≡ log_text was ++ torn → length (log_text some) ≤ length front
        → ((e : List Line) × (was ≡ some ++ e)) ⊎ ((x : Line) × (e : List Line) × (some ≡ was ++ x ∷ e) × (read.rest ≡ x ∷ e ++ d))
        → BeginsWith was some
    of_both was some d torn back front read one split fits (inl (e, same)) = (e, same)
    of_both was some d torn back front read one split fits (inr (x, e, same, rest)) =
        let long = too_long was e x (e ++ d) torn back one (ap (text_after (last_sum was)) (sym rest) ∙ read.text) in
        let many : length (log_text some) ≡ length (log_text (was ++ x ∷ e)) = ap (λ (l : List Line). length (log_text l)) same in
        absurd (omega (arith, long, many, fits, ap (λ (l : List ℕ). length l) split, length-append (log_text was) torn))

fault : (lines : List Line) (front back : List ℕ) (n : ℕ) → AreLines lines → log_text lines ≡ front ++ back → IsFault front n → ⊥
fault lines front back n sound cut f = at (alike no_sum true lines f.lines [] (f.words ++ 10 ∷ (f.rest ++ back)) sound f.sound text)
  where
    regroup : (a b c d : List ℕ) → ((a ++ b) ++ 10 ∷ c) ++ d ≡ a ++ (b ++ 10 ∷ (c ++ d))
    regroup a b c d = simp append_assoc

    text : log_text lines ++ [] ≡ log_text f.lines ++ (f.words ++ 10 ∷ (f.rest ++ back))
    text =
        append_nil (log_text lines) ∙ (cut ∙ (ap (λ (l : List ℕ). l ++ back) f.whole ∙ regroup (log_text f.lines) f.words f.rest back))

    at : Alike no_sum lines [] f.lines (f.words ++ 10 ∷ (f.rest ++ back)) → ⊥
    at (inl (e, same, none)) =
        let t : List ℕ = text_after (last_sum lines) e in
        never_empty (t ++ f.words) (f.rest ++ back) (none ∙ sym (append_assoc t f.words (10 ∷ (f.rest ++ back))))
    at (inr (x, e, same, here)) = no_fault f.lines f.words (f.rest ++ back) x e [] (subst AreLines same sound) f.one f.none here

pub cut : CutLinesAreRead
cut =
    record {
      first = λ lines front back found sound is r. let read = first lines front back found sound is r in (read.rest, read.is);
      whole = whole;
      fault = fault;
    }

pub durable : DurableLinesAreRead
durable log file back found s is up r some begins ends = whole log.lines file back found s.lines is r some begins (omega (arith, up, ends, s.base))

all_read : (lines : List Line) (found : Found) → AreLines lines → IsRead (log_text lines) found → found.lines.items ≡ lines
all_read lines found sound r =
    let whole_text : log_text lines ≡ log_text lines ++ [] = sym (append_nil (log_text lines)) in
    let read = first lines (log_text lines) [] found sound whole_text r in
    let all = whole lines (log_text lines) [] found sound whole_text r lines ([], sym (lines_nil lines)) (omega arith) in
    both found.lines.items lines read.rest all.0 read.is all.1
  where
    both : (a b c d : List Line) → b ≡ a ++ c → a ≡ b ++ d → a ≡ b
    both a b c [] p q = q ∙ lines_nil b
    both a b c (x ∷ d) p q =
        absurd (omega (arith, ap (λ (l : List Line). length l) p, ap (λ (l : List Line). length l) q, length-append a c, length-append b (x ∷ d)))

pub written : LinesAreRead
written =
    record {
      lines = all_read;
      fault = λ lines n sound f. fault lines (log_text lines) [] n sound (sym (append_nil (log_text lines))) f;
    }
