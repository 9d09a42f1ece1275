-- No other line has the words of a line that fits.
use Rattle.std.proofs.Common.{◌≡◌, ℕ, ◌<◌, ◌^◌, Bool, true, false, List, [], ◌∷◌, ◌++◌, length, map, refl, sym, ap, ◌∙◌, subst, arith, inl, inr}
use Rattle.std.specs.Prelude.{Option, None, Some, codes, decimal, slice_index_or}
use Rattle.std.specs.List.{AllByRecursion}
use Rattle.lab_plan.specs.declared.verb.Verb.{Verb}
use Rattle.lab_plan.specs.declared.verb.Verb.TheVariants.{Set, Add, Read}
use Rattle.report_reader.specs.Line.{Line, Header, Instrument, Entry, Job, Last, EntryText, JobText, words_of, verb_words, withdrawn_words, state_word, last_word}
use Rattle.report_reader.specs.Fits.{LineFits, HasSmall, VerbFits}
use Rattle.printed_reports.proofs.Decimals.{same_number, same_parts}

-- the word with this number, and its first byte
abbrev word : List (List ℕ) → ℕ → List ℕ
word words k = slice_index_or words k []

abbrev byte : List (List ℕ) → ℕ → ℕ
byte words k = slice_index_or (word words k) 0 0

version_small : (version : ℕ) → LineFits (Header version) → version < 2 ^ 32
version_small version fits = elim fits [ inl is ↦ omega (arith, is) | inr is ↦ omega (arith, is) ]

-- ---- entries

abbrev entry_words : EntryText → Verb → List (List ℕ)
entry_words e verb =
    e.job ∷ decimal e.session ∷ (decimal e.place ++ 47 ∷ decimal e.length) ∷ (verb_words verb ++ codes "=" ∷ decimal e.value ∷ [])

-- all but the verb and the value
entry_with : (y x : EntryText) (v w : Verb) → LineFits (Entry x) → v ≡ y.verb → w ≡ x.verb → entry_words y v ≡ entry_words x w
    → v ≡ w → y.value ≡ x.value → Entry y ≡ Entry x
entry_with y x v w fits own other same verbs values =
    let parts = same_parts y.place y.length x.place x.length fits.2 fits.3 (ap (λ l. word l 2) same) in
    let sessions = same_number y.session x.session fits.1 (ap (λ l. word l 1) same) in
    let verb : y.verb ≡ x.verb = sym own ∙ verbs ∙ other in
    λ i. Entry (record {
      job = word (same i) 0;
      session = sessions i;
      place = parts.0 i;
      length = parts.1 i;
      verb = verb i;
      value = values i;
    })

same_entry : (y x : EntryText) (v w : Verb) → LineFits (Entry x) → v ≡ y.verb → w ≡ x.verb → entry_words y v ≡ entry_words x w → Entry y ≡ Entry x
same_entry y x (Set n) (Set m) fits own other same =
    entry_with y x (Set n) (Set m) fits own other same
    (ap (λ k. Set k) (same_number n m (subst VerbFits (sym other) fits.4) (ap (λ l. word l 4) same)))
    (same_number y.value x.value fits.5 (ap (λ l. word l 6) same))
same_entry y x (Add n) (Add m) fits own other same =
    entry_with y x (Add n) (Add m) fits own other same
    (ap (λ k. Add k) (same_number n m (subst VerbFits (sym other) fits.4) (ap (λ l. word l 4) same)))
    (same_number y.value x.value fits.5 (ap (λ l. word l 6) same))
same_entry y x Read Read fits own other same =
    entry_with y x Read Read fits own other same refl (same_number y.value x.value fits.5 (ap (λ l. word l 5) same))
same_entry y x (Set n) (Add m) fits own other same = absurd (omega (arith, ap (λ l. byte l 3) same))
same_entry y x (Add n) (Set m) fits own other same = absurd (omega (arith, ap (λ l. byte l 3) same))
same_entry y x (Set n) Read fits own other same = absurd (omega (arith, ap length same))
same_entry y x (Add n) Read fits own other same = absurd (omega (arith, ap length same))
same_entry y x Read (Set m) fits own other same = absurd (omega (arith, ap length same))
same_entry y x Read (Add m) fits own other same = absurd (omega (arith, ap length same))

-- ---- jobs

abbrev job_words : JobText → Option ℕ → List (List ℕ)
job_words j withdrawn =
    codes "job" ∷ j.name ∷ codes "sessions" ∷ decimal j.done ∷ codes "of" ∷ decimal j.sessions
    ∷ (withdrawn_words withdrawn ++ codes "meals" ∷ decimal j.meals ∷ state_word j.is_retired ∷ [])

same_state : (b c : Bool) → state_word b ≡ state_word c → b ≡ c
same_state true true same = refl
same_state false false same = refl
same_state true false same = absurd (omega (arith, ap (λ l. slice_index_or l 0 0) same))
same_state false true same = absurd (omega (arith, ap (λ l. slice_index_or l 0 0) same))

job_with : (y x : JobText) (v w : Option ℕ) → LineFits (Job x) → v ≡ y.withdrawn → w ≡ x.withdrawn → job_words y v ≡ job_words x w
    → v ≡ w → y.meals ≡ x.meals → y.is_retired ≡ x.is_retired → Job y ≡ Job x
job_with y x v w fits own other same withdrawn meals retired =
    let done = same_number y.done x.done fits.1 (ap (λ l. word l 3) same) in
    let sessions = same_number y.sessions x.sessions fits.2 (ap (λ l. word l 5) same) in
    let given_up : y.withdrawn ≡ x.withdrawn = sym own ∙ withdrawn ∙ other in
    λ i. Job (record {
      name = word (same i) 1;
      done = done i;
      sessions = sessions i;
      withdrawn = given_up i;
      meals = meals i;
      is_retired = retired i;
    })

same_job : (y x : JobText) (v w : Option ℕ) → LineFits (Job x) → v ≡ y.withdrawn → w ≡ x.withdrawn → job_words y v ≡ job_words x w → Job y ≡ Job x
same_job y x None None fits own other same =
    job_with y x None None fits own other same refl (same_number y.meals x.meals fits.4 (ap (λ l. word l 7) same))
    (same_state y.is_retired x.is_retired (ap (λ l. word l 8) same))
same_job y x (Some n) (Some m) fits own other same =
    job_with y x (Some n) (Some m) fits own other same
    (ap (λ k. Some k) (same_number n m (subst HasSmall (sym other) fits.3) (ap (λ l. word l 7) same)))
    (same_number y.meals x.meals fits.4 (ap (λ l. word l 9) same))
    (same_state y.is_retired x.is_retired (ap (λ l. word l 10) same))
same_job y x None (Some m) fits own other same = absurd (omega (arith, ap length same))
same_job y x (Some n) None fits own other same = absurd (omega (arith, ap length same))

-- ---- any line

-- the kind of a line, and that of its words
abbrev pub kind : Line → ℕ
kind (Header version) = 0
kind (Instrument name entries) = 1
kind (Entry e) = 2
kind (Job j) = 3
kind (Last is_finished) = 4

abbrev kind_of : List (List ℕ) → ℕ
kind_of (a ∷ []) = 4
kind_of (a ∷ b ∷ []) = 0
kind_of (a ∷ b ∷ c ∷ []) = 1
kind_of (a ∷ b ∷ c ∷ d ∷ e ∷ f ∷ []) = 2
kind_of (a ∷ b ∷ c ∷ d ∷ e ∷ f ∷ g ∷ []) = 2
kind_of _ = 3

entry_kind : (e : EntryText) (verb : Verb) → kind_of (entry_words e verb) ≡ 2
entry_kind e (Set n) = refl
entry_kind e (Add n) = refl
entry_kind e Read = refl

job_kind : (j : JobText) (withdrawn : Option ℕ) → kind_of (job_words j withdrawn) ≡ 3
job_kind j None = refl
job_kind j (Some n) = refl

kind_is : (line : Line) → kind_of (words_of line) ≡ kind line
kind_is (Header version) = refl
kind_is (Instrument name entries) = refl
kind_is (Entry e) = entry_kind e e.verb
kind_is (Job j) = job_kind j j.withdrawn
kind_is (Last is_finished) = refl

one_kind : (y x : Line) → words_of y ≡ words_of x → kind y ≡ kind x
one_kind y x same = sym (kind_is y) ∙ ap kind_of same ∙ kind_is x

same_last : (b c : Bool) → last_word b ≡ last_word c → b ≡ c
same_last true true same = refl
same_last false false same = refl
same_last true false same = absurd (omega (arith, ap (λ l. slice_index_or l 0 0) same))
same_last false true same = absurd (omega (arith, ap (λ l. slice_index_or l 0 0) same))

same_line : (y x : Line) → LineFits x → words_of y ≡ words_of x → y ≡ x
same_line (Header n) (Header m) fits same = ap (λ k. Header k) (same_number n m (version_small m fits) (ap (λ l. word l 1) same))
same_line (Instrument name n) (Instrument other m) fits same =
    let count = same_number n m fits.1 (ap (λ l. word l 2) same) in λ i. Instrument (word (same i) 1) (count i)
same_line (Entry y) (Entry x) fits same = same_entry y x y.verb x.verb fits refl refl same
same_line (Job y) (Job x) fits same = same_job y x y.withdrawn x.withdrawn fits refl refl same
same_line (Last b) (Last c) fits same = ap (λ k. Last k) (same_last b c (ap (λ l. word l 0) same))
same_line (Header n) x fits same = absurd (omega (arith, one_kind (Header n) x same))
same_line (Instrument name n) x fits same = absurd (omega (arith, one_kind (Instrument name n) x same))
same_line (Entry y) x fits same = absurd (omega (arith, one_kind (Entry y) x same))
same_line (Job y) x fits same = absurd (omega (arith, one_kind (Job y) x same))
same_line (Last b) x fits same = absurd (omega (arith, one_kind (Last b) x same))

-- ---- lists of lines

-- two lists are one where their first elements are one and the rests are one
pub heads : {X : Type 0} (x y : X) (xs ys : List X) → x ∷ xs ≡ y ∷ ys → (x ≡ y) × (xs ≡ ys)
heads x y xs ys e = (ap (λ l. slice_index_or l 0 x) e, ap rest e)
  where
    rest : {X : Type 0} → List X → List X
    rest [] = []
    rest (x ∷ xs) = xs

pub same_lines : (ys xs : List Line) → AllByRecursion LineFits xs → map words_of ys ≡ map words_of xs → ys ≡ xs
same_lines [] [] fits same = refl
same_lines [] (x ∷ xs) fits same = absurd (omega (arith, ap length same))
same_lines (y ∷ ys) [] fits same = absurd (omega (arith, ap length same))
same_lines (y ∷ ys) (x ∷ xs) fits same =
    let h = heads (words_of y) (words_of x) (map words_of ys) (map words_of xs) same in
    let more = same_lines ys xs fits.1 h.1 in
    λ i. same_line y x fits.0 h.0 i ∷ more i
