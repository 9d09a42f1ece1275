-- Lines as they are spelled, words with one space between them and a line feed behind the last, and that a cut gives their words back.
use Rattle.std.proofs.Common.{◌≡◌, ℕ, ◌<◌, Bool, true, false, List, [], ◌∷◌, ◌++◌, length, map, refl, sym, ap, ◌∙◌, arith, append_assoc}
use Rattle.std.specs.Prelude.{Option, None, Some, codes, decimal, ◌==◌}
use Rattle.std.specs.List.{AllByRecursion, flat_map, list_all, join_with_byte}
use Rattle.std.proofs.lemmas.Bool.Decides.{nat_tests}
use Rattle.lab_plan.specs.declared.verb.Verb.{Verb}
use Rattle.lab_plan.specs.declared.verb.Verb.TheVariants.{Set, Add, Read}
use Rattle.lab_plan.specs.Names.{IsName}
use Rattle.script_reader.proofs.UpgradeText.{is_dark, is_shown, dark_shown}
use Rattle.script_reader.proofs.UpgradeForms.{name_parts}
use Rattle.report_reader.specs.Line.{Line, Header, Instrument, Entry, Job, Last, EntryText, JobText, words_of, verb_words, withdrawn_words, state_word}
use Rattle.report_reader.specs.Report.{text_lines, words}
use Rattle.report_reader.specs.Fits.{LineFits}
use Rattle.printed_reports.proofs.Cuts.{IsApart, cut_none, cut_one, all_behind, all_weaker}
use Rattle.printed_reports.proofs.Decimals.{is_high, high_decimal}

-- ---- some words, cut

-- a word has no space and no line feed
abbrev pub IsDark : List ℕ → Type 0
IsDark word = list_all is_dark word ≡ true

-- a line of these words
abbrev pub spelled : List (List ℕ) → List ℕ
spelled [] = 10 ∷ []
spelled (word ∷ []) = word ++ 10 ∷ []
spelled (word ∷ next ∷ more) = word ++ 32 ∷ spelled (next ∷ more)

no_space : IsApart (λ b. b == 32) is_dark
no_space b h = grind (arith, nat_tests, h)

no_feed : IsApart (λ b. b == 10) is_shown
no_feed b h = grind (arith, nat_tests, h)

joined : (word : List ℕ) (more : List (List ℕ)) (rest : List ℕ) → spelled (word ∷ more) ++ rest ≡ join_with_byte 32 (word ∷ more) ++ 10 ∷ rest
joined word [] rest = append_assoc word (10 ∷ []) rest
joined word (next ∷ more) rest =
    append_assoc word (32 ∷ spelled (next ∷ more)) rest ∙ ap (λ l. word ++ 32 ∷ l) (joined next more rest)
    ∙ sym (append_assoc word (32 ∷ join_with_byte 32 (next ∷ more)) (10 ∷ rest))

shown : (word : List ℕ) (more : List (List ℕ)) → AllByRecursion IsDark (word ∷ more) → list_all is_shown (join_with_byte 32 (word ∷ more)) ≡ true
shown word [] all = dark_shown word all.0
shown word (next ∷ more) all = all_behind is_shown word (32 ∷ join_with_byte 32 (next ∷ more)) (dark_shown word all.0) (shown next more all.1)

words_back : (word : List ℕ) (more : List (List ℕ)) → AllByRecursion IsDark (word ∷ more) → words (join_with_byte 32 (word ∷ more)) ≡ word ∷ more
words_back word [] all = cut_none (λ b. b == 32) is_dark no_space word all.0
words_back word (next ∷ more) all =
    cut_one (λ b. b == 32) is_dark no_space word 32 (join_with_byte 32 (next ∷ more)) all.0 refl ∙ ap (λ l. word ∷ l) (words_back next more all.1)

line_back : (line : List (List ℕ)) (rest : List ℕ) → 0 < length line → AllByRecursion IsDark line
    → map words (text_lines (spelled line ++ rest)) ≡ line ∷ map words (text_lines rest)
line_back [] rest some all = absurd (omega (arith, some))
line_back (word ∷ more) rest some all =
    ap (λ text. map words (text_lines text)) (joined word more rest)
    ∙ ap (map words) (cut_one (λ b. b == 10) is_shown no_feed (join_with_byte 32 (word ∷ more)) 10 rest (shown word more all) refl)
    ∙ ap (λ line. line ∷ map words (text_lines rest)) (words_back word more all)

-- ---- the words of lines

dark_number : (n : ℕ) → IsDark (decimal n)
dark_number n = all_weaker is_high is_dark darker (decimal n) (high_decimal n)
  where
    darker : (b : ℕ) → is_high b ≡ true → is_dark b ≡ true
    darker b h = grind (arith, nat_tests, h)

dark_name : (name : List ℕ) → IsName name → IsDark name
dark_name name h = (name_parts name h).dark

dark_part : (place total : ℕ) → IsDark (decimal place ++ 47 ∷ decimal total)
dark_part place total = all_behind is_dark (decimal place) (47 ∷ decimal total) (dark_number place) (dark_number total)

dark_entry : (e : EntryText) (verb : Verb) → IsName e.job → AllByRecursion IsDark
    (e.job ∷ decimal e.session ∷ (decimal e.place ++ 47 ∷ decimal e.length) ∷ (verb_words verb ++ codes "=" ∷ decimal e.value ∷ []))
dark_entry e (Set n) named =
    (dark_name e.job named, (dark_number e.session, (dark_part e.place e.length, (refl, (dark_number n, (refl, (dark_number e.value, tt)))))))
dark_entry e (Add n) named =
    (dark_name e.job named, (dark_number e.session, (dark_part e.place e.length, (refl, (dark_number n, (refl, (dark_number e.value, tt)))))))
dark_entry e Read named = (dark_name e.job named, (dark_number e.session, (dark_part e.place e.length, (refl, (refl, (dark_number e.value, tt))))))

dark_state : (b : Bool) → IsDark (state_word b)
dark_state true = refl
dark_state false = refl

dark_job : (j : JobText) (withdrawn : Option ℕ) → IsName j.name → AllByRecursion IsDark
    (codes "job" ∷ j.name ∷ codes "sessions" ∷ decimal j.done ∷ codes "of" ∷ decimal j.sessions
    ∷ (withdrawn_words withdrawn ++ codes "meals" ∷ decimal j.meals ∷ state_word j.is_retired ∷ []))
dark_job j None named = (
  refl,
  (
    dark_name j.name named,
    (
      refl,
      (
        dark_number j.done,
        (
          refl,
          (
            dark_number j.sessions,
            (refl, (dark_number j.meals, (dark_state j.is_retired, tt))),
          ),
        ),
      ),
    ),
  ),
)
dark_job j (Some n) named = (
  refl,
  (
    dark_name j.name named,
    (
      refl,
      (
        dark_number j.done,
        (
          refl,
          (
            dark_number j.sessions,
            (refl, (dark_number n, (refl, (dark_number j.meals, (dark_state j.is_retired, tt))))),
          ),
        ),
      ),
    ),
  ),
)

dark_words : (line : Line) → LineFits line → AllByRecursion IsDark (words_of line)
dark_words (Header version) fits = (refl, (dark_number version, tt))
dark_words (Instrument name entries) fits = (refl, (dark_name name fits.0, (dark_number entries, tt)))
dark_words (Entry e) fits = dark_entry e e.verb fits.0
dark_words (Job j) fits = dark_job j j.withdrawn fits.0
dark_words (Last true) fits = (refl, tt)
dark_words (Last false) fits = (refl, tt)

some_words : (line : Line) → 0 < length (words_of line)
some_words (Header version) = omega arith
some_words (Instrument name entries) = omega arith
some_words (Entry e) = omega arith
some_words (Job j) = omega arith
some_words (Last is_finished) = omega arith

-- ---- the text of lines

abbrev pub text_of : List Line → List ℕ
text_of lines = flat_map (λ line. spelled (words_of line)) lines

pub text_back : (lines : List Line) → AllByRecursion LineFits lines → map words (text_lines (text_of lines)) ≡ map words_of lines ++ ([] ∷ []) ∷ []
text_back [] fits = refl
text_back (line ∷ lines) fits =
    line_back (words_of line) (text_of lines) (some_words line) (dark_words line fits.0) ∙ ap (λ l. words_of line ∷ l) (text_back lines fits.1)
