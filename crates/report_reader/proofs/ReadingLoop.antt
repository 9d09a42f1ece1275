-- The reader's loop over the parts of a text.
use Rattle.std.proofs.Common.{true, ◌≡◌, ℕ, ◌+◌, ◌<◌, List, [], ◌∷◌, ◌++◌, length, take, drop, get_or, refl, sym, ap, ◌∙◌, subst, arith, length-append, zero, suc, inl, inr}
use Rattle.std.specs.Prelude.{Option, None, Some, Result, Ok, Err, MatchResult, map, ◌⊎◌, ◌==◌}
use Rattle.std.specs.Borrow.{Bor}
use Rattle.std.proofs.lemmas.List.{map-append, take_more, take_all, get_or-map, length-map}
use Rattle.std.proofs.lemmas.Bool.Decides.{Decides-eqb}
use Rattle.report_reader.specs.declared.fault.ReportCause.{ReportCause}
use Rattle.report_reader.specs.declared.fault.ReportFault.{ReportFault}
use Rattle.report_reader.specs.declared.fault.ReportCause.TheVariants.{UnknownLine, OutOfPlace, OtherVersion, WrongEnd, NotWhole, NoMemory}
use Rattle.report_reader.specs.Line.{Line, words_of}
use Rattle.report_reader.specs.Report.{ReportText, words, lines_of}
use Rattle.report_reader.specs.State.{State, opening, cause_in, after, Reads, Ends}
use Rattle.report_reader.specs.Reading.{line_in, Leads, Known, Meets, IsFaultAtLine, IsCutOff, AnswersParts}
use Rattle.report_reader.proofs.LineWords.{line_was}
use Rattle.report_reader.proofs.Shown.{shown, IsTied, goes, whole}

-- these parts are read
pub record IsReading (done : List (List ℕ)) (number : ℕ) (s : State) : Type 0 where
  pub placed : number ≡ 1 + length done
  pub lines : List Line
  pub are : map line_in done ≡ map (λ line. Some line) lines
  pub leads : Leads opening lines s
  pub shown : shown s ≡ lines
  pub tied : IsTied s

-- before the first part
pub starts : (s : State) → s ≡ opening → IsReading [] 1 s
starts s is = subst (IsReading [] 1) (sym is) (record {
  placed = refl;
  lines = [];
  are = refl;
  leads = refl;
  shown = refl;
  tied = record { fresh = λ none. (refl, refl, refl); due = λ some. absurd (omega (arith, some)) };
})

leads_on : (s : State) (lines : List Line) (t u : State) (line : Line) → Leads s lines t → cause_in t line ≡ None → u ≡ after t line
    → Leads s (lines ++ line ∷ []) u
leads_on s [] t u line h clean is = (subst (λ x. cause_in x line ≡ None) (sym h) clean, ap (λ x. after x line) h ∙ sym is)
leads_on s (first ∷ lines) t u line h clean is = (h.0, leads_on (after s first) lines t u line h.1 clean is)

taken : (done : List (List ℕ)) (part : List ℕ) (n : ℕ) (s u : State) (line : Line) → IsReading done n s → line_in part ≡ Some line → cause_in s line ≡ None
    → u ≡ after s line → IsReading (done ++ part ∷ []) (n + 1) u
taken done part n s u line h is clean now =
    let g = goes s line h.tied clean in
    record {
      placed = omega (arith, length-append done (part ∷ []), h.placed);
      lines = h.lines ++ line ∷ [];
      are = map-append line_in done (part ∷ []) ∙ (λ i. h.are i ++ is i ∷ []) ∙ sym (map-append (λ (l : Line). Some l) h.lines (line ∷ []));
      leads = leads_on opening h.lines s u line h.leads clean now;
      shown = ap shown now ∙ g.0 ∙ ap (λ l. l ++ line ∷ []) h.shown;
      tied = subst IsTied (sym now) g.1;
    }

pub reads : (done : List (List ℕ)) (part : List ℕ) (n : ℕ) (s u : State) (found : Option Line) (x : Unit {0}) → line_in part ≡ found → IsReading done n s
    → Reads s found (Ok x) u → IsReading (done ++ part ∷ []) (n + 1) u
reads done part n s u None x is h e = absurd e
reads done part n s u (Some line) x is h e = taken done part n s u line h is e.0 e.1

known : (done : List (List ℕ)) (n : ℕ) (s : State) → IsReading done n s → Known done s
known done n s h = (h.lines, h.are, h.leads)

at : (parts done : List (List ℕ)) (part : List ℕ) (back : List (List ℕ)) (n : ℕ) (s : State) (cause : ReportCause) → parts ≡ done ++ part ∷ back
    → IsReading done n s → Meets s (line_in part) cause → IsFaultAtLine parts n cause
at parts done part back n s cause split h m = (done, part, back, s, split, h.placed, known done n s h, m)

abbrev pub Stops : List (List ℕ) → ℕ → ReportCause → Type 0
Stops parts n cause = (cause ≡ NoMemory) ⊎ IsFaultAtLine parts n cause

pub stops : (parts done : List (List ℕ)) (part : List ℕ) (back : List (List ℕ)) (n : ℕ) (s u : State) (found : Option Line) (cause : ReportCause)
    → line_in part ≡ found → parts ≡ done ++ part ∷ back → IsReading done n s → Reads s found (Err cause) u → Stops parts n cause
stops parts done part back n s u found NoMemory is split h e = inl refl
stops parts done part back n s u None UnknownLine is split h e =
    inr (at parts done part back n s UnknownLine split h (subst (λ o. Meets s o UnknownLine) (sym is) e))
stops parts done part back n s u None OutOfPlace is split h e =
    inr (at parts done part back n s OutOfPlace split h (subst (λ o. Meets s o OutOfPlace) (sym is) e))
stops parts done part back n s u None OtherVersion is split h e =
    inr (at parts done part back n s OtherVersion split h (subst (λ o. Meets s o OtherVersion) (sym is) e))
stops parts done part back n s u None WrongEnd is split h e = inr (at parts done part back n s WrongEnd split h (subst (λ o. Meets s o WrongEnd) (sym is) e))
stops parts done part back n s u None NotWhole is split h e = inr (at parts done part back n s NotWhole split h (subst (λ o. Meets s o NotWhole) (sym is) e))
stops parts done part back n s u (Some line) UnknownLine is split h e =
    inr (at parts done part back n s UnknownLine split h (subst (λ o. Meets s o UnknownLine) (sym is) e))
stops parts done part back n s u (Some line) OutOfPlace is split h e =
    inr (at parts done part back n s OutOfPlace split h (subst (λ o. Meets s o OutOfPlace) (sym is) e))
stops parts done part back n s u (Some line) OtherVersion is split h e =
    inr (at parts done part back n s OtherVersion split h (subst (λ o. Meets s o OtherVersion) (sym is) e))
stops parts done part back n s u (Some line) WrongEnd is split h e =
    inr (at parts done part back n s WrongEnd split h (subst (λ o. Meets s o WrongEnd) (sym is) e))
stops parts done part back n s u (Some line) NotWhole is split h e =
    inr (at parts done part back n s NotWhole split h (subst (λ o. Meets s o NotWhole) (sym is) e))

-- ---- the end

pub heads : {X : Type 0} (x y : X) (xs ys : List X) → x ∷ xs ≡ y ∷ ys → (x ≡ y) × (xs ≡ ys)
heads x y xs ys e = (ap (first x) e, ap rest e)
  where
    first : {X : Type 0} → X → List X → X
    first d [] = d
    first d (x ∷ xs) = x

    rest : {X : Type 0} → List X → List X
    rest [] = []
    rest (x ∷ xs) = xs

are_words : (parts : List (List ℕ)) (lines : List Line) → map line_in parts ≡ map (λ line. Some line) lines → map words parts ≡ map words_of lines
are_words [] [] e = refl
are_words [] (line ∷ lines) e = absurd (omega (arith, ap length e))
are_words (part ∷ parts) [] e = absurd (omega (arith, ap length e))
are_words (part ∷ parts) (line ∷ lines) e =
    (λ i. line_was (words part) line (heads (line_in part) (Some line) (map line_in parts) (map (λ l. Some l) lines) e).0 i
    ∷ are_words parts lines (heads (line_in part) (Some line) (map line_in parts) (map (λ l. Some l) lines) e).1 i)

pub ends_well : (parts : List (List ℕ)) (n : ℕ) (s : State) (report : ReportText) → IsReading parts n s → Ends s (Ok report)
    → map words parts ≡ map words_of (lines_of report)
ends_well parts n s report h e = are_words parts h.lines h.are ∙ ap (map words_of) (sym h.shown ∙ whole s report h.tied e)

pub ends_badly : (parts : List (List ℕ)) (tail : List ℕ) (n : ℕ) (s : State) (cause : ReportCause) → IsReading parts n s → Ends s (Err cause)
    → IsCutOff parts tail n cause
ends_badly parts tail n s cause h e = (s, known parts n s h, h.placed, e.0, inr (refl, e.1))

-- something is left behind the last part
pub left_over : (parts : List (List ℕ)) (tail : List ℕ) (n : ℕ) (s : State) → IsReading parts n s → (tail ≡ [] → ⊥)
    → AnswersParts parts tail (Err (record { line = n; cause = NotWhole }))
left_over parts tail n s h some = inr (inr (s, known parts n s h, h.placed, refl, inl some))

pub is_nothing : (tail : List ℕ) → (length tail == 0) ≡ true → tail ≡ []
is_nothing [] e = refl
is_nothing (b ∷ tail) e = absurd (not_zero (length tail) e)
  where
    not_zero : (n : ℕ) → (suc n == 0) ≡ true → ⊥
    not_zero n e = let is = (Decides-eqb (suc n) 0).0 e in omega (arith, is)

pub answers : (parts : List (List ℕ)) (tail : List ℕ) (n : ℕ) (s : State) (given : Result ReportText ReportCause) (result : Result ReportText ReportFault)
    → tail ≡ [] → IsReading parts n s → Ends s given
    → MatchResult result (λ report. given ≡ Ok report) (λ fault. (given ≡ Err fault.cause) × (fault.line ≡ n)) → AnswersParts parts tail result
answers parts tail n s given (Ok report) none h e is = (ends_well parts n s report h (subst (Ends s) is e), none)
answers parts tail n s given (Err fault) none h e is =
    inr (inr (subst (λ m. IsCutOff parts tail m fault.cause) (sym is.1) (ends_badly parts tail n s fault.cause h (subst (Ends s) is.0 e))))

pub fails : (parts : List (List ℕ)) (tail : List ℕ) (n : ℕ) (fault : ReportFault) → fault.line ≡ n → Stops parts n fault.cause
    → AnswersParts parts tail (Err fault)
fails parts tail n fault is (inl none) = inl none
fails parts tail n fault is (inr bad) = inr (inl (subst (λ m. IsFaultAtLine parts m fault.cause) (sym is) bad))

-- ---- the parts, as borrowed

pub next_part : (parts : List (Bor (List ℕ))) (k : ℕ) (d : Bor (List ℕ)) → k < length parts →
    (take (k + 1) (map (λ (p : Bor (List ℕ)). p.now) parts) ≡ take k (map (λ (p : Bor (List ℕ)). p.now) parts) ++ (get_or parts k d).now ∷ [])
    × (map (λ (p : Bor (List ℕ)). p.now) parts ≡ take k (map (λ (p : Bor (List ℕ)). p.now) parts)
    ++ (get_or parts k d).now ∷ drop (suc k) (map (λ (p : Bor (List ℕ)). p.now) parts))
next_part parts k d inside =
    let all = map (λ (p : Bor (List ℕ)). p.now) parts in
    let below : k < length all = omega (arith, inside, length-map parts (λ (p : Bor (List ℕ)). p.now)) in
    let here : get_or all k d.now ≡ (get_or parts k d).now = get_or-map (λ (p : Bor (List ℕ)). p.now) parts k d d.now inside in
    (take_more all k d.now below ∙ ap (λ x. take k all ++ x ∷ []) here, cut_at all k d.now below ∙ ap (λ x. take k all ++ x ∷ drop (suc k) all) here)
  where
    cut_at : (xs : List (List ℕ)) (k : ℕ) (d : List ℕ) → k < length xs → xs ≡ take k xs ++ get_or xs k d ∷ drop (suc k) xs
    cut_at [] k d h = absurd (omega arith)
    cut_at (x ∷ xs) zero d h = refl
    cut_at (x ∷ xs) (suc k) d h = ap (λ l. x ∷ l) (cut_at xs k d (omega arith))

pub all_parts : (parts : List (Bor (List ℕ))) (k : ℕ) → length parts ≡ k
    → take k (map (λ (p : Bor (List ℕ)). p.now) parts) ≡ map (λ (p : Bor (List ℕ)). p.now) parts
all_parts parts k e = take_all k (map (λ (p : Bor (List ℕ)). p.now) parts) (omega (arith, e, length-map parts (λ (p : Bor (List ℕ)). p.now)))
