-- A file in which other words stand in the place of a line.
use Rattle.std.proofs.Common.{◌≡◌, ℕ, ◌<◌, true, false, Bool, List, [], ◌∷◌, ◌++◌, length, take, drop, append_assoc, sym, ap, subst, ◌∙◌, arith, length-append, inl, inr}
use Rattle.std.specs.Prelude.{codes}
use Rattle.hex.specs.Hex.{encode_lower}
use Rattle.bay_log.specs.declared.line.Line.{Line}
use Rattle.bay_log.specs.declared.reading.Found.{Found}
use Rattle.bay_log.specs.Lines.{body, sum_of, line_words, text_after, no_sum, last_sum, log_text, is_none, AreLinesFrom, AreLines}
use Rattle.bay_log.specs.Reads.{IsOneLine, IsRead, IsFault}
use Rattle.bay_log.specs.Laws.{Agrees, changed, ChangedLineIsRefused}
use Rattle.bay_log.proofs.Appended.{lines_split}
use Rattle.bay_log.proofs.Back.{front_of, rest_of}
use Rattle.bay_log.proofs.Plain.{line_one}
use Rattle.bay_log.proofs.Whole.{sum_size}
use Rattle.bay_log.proofs.Cuts.{text_cons, same_line, no_torn, no_fault, read_split, Alike, alike}

-- ---- the sum and the words of a line

front_size : (s : List ℕ) (line : Line) → length (encode_lower (sum_of s (body line)) ++ codes " ") ≡ 17
front_size s line = omega (arith, length-append (encode_lower (sum_of s (body line))) (codes " "), sum_size s (body line))

digits_in : (a b : List ℕ) → length a ≡ 16 → length b ≡ 16 → a ++ codes " " ≡ b ++ codes " " → a ≡ b
digits_in a b p q h = sym (front_of a (codes " ") 16 p) ∙ (ap (λ (l : List ℕ). take 16 l) h ∙ front_of b (codes " ") 16 q)

same_sum : (s t : List ℕ) (x y : Line) → take 17 (line_words s x) ≡ take 17 (line_words t y)
    → encode_lower (sum_of s (body x)) ≡ encode_lower (sum_of t (body y))
unfolding line_words
same_sum s t x y h =
    let a : List ℕ = encode_lower (sum_of s (body x)) in
    let b : List ℕ = encode_lower (sum_of t (body y)) in
    digits_in a b (sum_size s (body x)) (sum_size t (body y))
    (sym (front_of (a ++ codes " ") (body x) 17 (front_size s x)) ∙ (h ∙ front_of (b ++ codes " ") (body y) 17 (front_size t y)))

same_body : (s t : List ℕ) (x y : Line) → line_words s x ≡ line_words t y → body x ≡ body y
unfolding line_words
same_body s t x y h =
    let a : List ℕ = encode_lower (sum_of s (body x)) ++ codes " " in
    let b : List ℕ = encode_lower (sum_of t (body y)) ++ codes " " in
    sym (rest_of a (body x) 17 (front_size s x)) ∙ (ap (λ (l : List ℕ). drop 17 l) h ∙ rest_of b (body y) 17 (front_size t y))

-- ---- what is read

changed_text : (before : List Line) (line : Line) (behind : List Line) (words : List ℕ)
    → changed before line behind words ≡ log_text before ++ (words ++ 10 ∷ text_after (sum_of (last_sum before) (body line)) behind)
changed_text before line behind words = append_assoc (log_text before) words (10 ∷ text_after (sum_of (last_sum before) (body line)) behind)

changed_fault : (before behind : List Line) (line : Line) (words : List ℕ) (n : ℕ) → AreLines (before ++ line ∷ behind)
    → IsFault (changed before line behind words) n → length before < n
changed_fault before behind line words n sound f =
    let x : List ℕ = words ++ 10 ∷ text_after (sum_of (last_sum before) (body line)) behind in
    let first = (lines_split true before (line ∷ behind) sound).0 in
    let text : log_text before ++ x ≡ log_text f.lines ++ (f.words ++ 10 ∷ f.rest) =
    sym (changed_text before line behind words) ∙ (f.whole ∙ append_assoc (log_text f.lines) f.words (10 ∷ f.rest)) in
    at x first (alike no_sum true before f.lines x (f.words ++ 10 ∷ f.rest) first f.sound text)
  where
    at : (x : List ℕ) → AreLines before → Alike no_sum before x f.lines (f.words ++ 10 ∷ f.rest) → length before < n
    at x first (inl (e, same, more)) =
        omega (arith, f.number, ap (λ (l : List Line). length l) same, length-append before e)
    at x first (inr (l, e, same, here)) = absurd (no_fault f.lines f.words f.rest l e x (subst AreLines same first) f.one f.none here)

-- the lines behind
agree_from : (f : Bool) (a b : List ℕ) (behind read : List Line) (torn : List ℕ) → AreLinesFrom false behind → AreLinesFrom f read → IsOneLine torn
    → text_after b behind ≡ text_after a read ++ torn → Agrees a b behind
agree_from f a b [] read torn p q one h = tt
agree_from f a b (x ∷ behind) [] torn p q one h =
    absurd (no_torn (line_words b x) (text_after (sum_of b (body x)) behind) torn one
    (sym (append_assoc (line_words b x) (codes "\n") (text_after (sum_of b (body x)) behind)) ∙ h))
agree_from f a b (x ∷ behind) (y ∷ read) torn p q one h =
    let parts = same_line (line_words b x) (line_words a y) (text_after (sum_of b (body x)) behind) (text_after (sum_of a (body y)) read ++ torn)
    (line_one b x p.0) (line_one a y q.0)
    (sym (append_assoc (line_words b x) (codes "\n") (text_after (sum_of b (body x)) behind)) ∙ (h ∙ text_cons a y read torn)) in
    let words : body x ≡ body y = same_body b a x y parts.0 in
    ap (λ (w : List ℕ). encode_lower (sum_of a w)) words ∙ sym (same_sum b a x y (ap (λ (l : List ℕ). take 17 l) parts.0))

abbrev Instead : List Line → Line → List Line → List ℕ → Type 0
Instead before line behind words =
    (other : Line) × (line_words (last_sum before) other ≡ words)
    × Agrees (sum_of (last_sum before) (body other)) (sum_of (last_sum before) (body line)) behind

changed_read : (before behind : List Line) (line : Line) (words : List ℕ) (found : Found) → AreLines (before ++ line ∷ behind) → IsOneLine words
    → IsRead (changed before line behind words) found → Instead before line behind words
changed_read before behind line words found sound one r =
    let file : List ℕ = changed before line behind words in
    let s : List ℕ = last_sum before in
    let tail : List ℕ = text_after (sum_of s (body line)) behind in
    let torn : List ℕ = drop found.used file in
    let parts = lines_split true before (line ∷ behind) sound in
    let text : log_text before ++ (words ++ 10 ∷ tail) ≡ log_text found.lines.items ++ torn =
    sym (changed_text before line behind words) ∙ read_split file found r in
    at found.lines.items torn r.torn parts.1.2 r.sound.lines
    (alike no_sum true before found.lines.items (words ++ 10 ∷ tail) torn parts.0 r.sound.lines text)
  where
    at : (read : List Line) (torn : List ℕ) → IsOneLine torn → AreLinesFrom false behind → AreLines read
        → Alike no_sum before (words ++ 10 ∷ text_after (sum_of (last_sum before) (body line)) behind) read torn
        → Instead before line behind words
    at read torn whole later are (inl ([], same, more)) =
        absurd (no_torn words (text_after (sum_of (last_sum before) (body line)) behind) torn whole more)
    at read torn whole later are (inl (o ∷ os, same, more)) =
        let s : List ℕ = last_sum before in
        let here : AreLinesFrom (is_none before) (o ∷ os) = (lines_split true before (o ∷ os) (subst AreLines same are)).1 in
        let both = same_line words (line_words s o) (text_after (sum_of s (body line)) behind) (text_after (sum_of s (body o)) os ++ torn) one
        (line_one s o here.0) (more ∙ text_cons s o os torn) in
        (o, sym both.0, agree_from false (sum_of s (body o)) (sum_of s (body line)) behind os torn later here.2 whole both.1)
    at read torn whole later are (inr (l, e, same, here)) =
        let s : List ℕ = last_sum read in
        let x : List ℕ = words ++ 10 ∷ text_after (sum_of (last_sum before) (body line)) behind in
        absurd (no_torn (line_words s l) (text_after (sum_of s (body l)) e ++ x) torn whole (sym (text_cons s l e x) ∙ here))

moved : (before behind : List Line) (sum : List ℕ) (found : Found) → AreLines before → AreLinesFrom false behind
    → IsRead (log_text before ++ text_after sum behind) found → Agrees (last_sum before) sum behind
moved before behind sum found first later r =
    let file : List ℕ = log_text before ++ text_after sum behind in
    let torn : List ℕ = drop found.used file in
    at found.lines.items torn r.torn r.sound.lines behind later
    (alike no_sum true before found.lines.items (text_after sum behind) torn first r.sound.lines (read_split file found r))
  where
    at : (read : List Line) (torn : List ℕ) → IsOneLine torn → AreLines read → (behind : List Line) → AreLinesFrom false behind
        → Alike no_sum before (text_after sum behind) read torn → Agrees (last_sum before) sum behind
    at read torn whole are [] later both = tt
    at read torn whole are (x ∷ behind) later (inl ([], same, more)) = agree_from false (last_sum before) sum (x ∷ behind) [] torn later tt whole more
    at read torn whole are (x ∷ behind) later (inl (o ∷ os, same, more)) =
        let here : AreLinesFrom (is_none before) (o ∷ os) = (lines_split true before (o ∷ os) (subst AreLines same are)).1 in
        agree_from (is_none before) (last_sum before) sum (x ∷ behind) (o ∷ os) torn later here whole more
    at read torn whole are (x ∷ behind) later (inr (l, e, same, here)) =
        let s : List ℕ = last_sum read in
        let end : List ℕ = text_after sum (x ∷ behind) in
        absurd (no_torn (line_words s l) (text_after (sum_of s (body l)) e ++ end) torn whole (sym (text_cons s l e end) ∙ here))

pub changed_line : ChangedLineIsRefused
changed_line = record { fault = changed_fault; read = changed_read; moved = moved; sum = λ before line other h. same_sum before before other line h }
