-- From the parts of a text to the text.
use Rattle.std.proofs.Common.{◌≡◌, ℕ, ◌-◌, ◌<◌, suc, List, [], ◌∷◌, ◌++◌, length, take, get_or, refl, ap, ◌∙◌, arith, inl, inr}
use Rattle.std.specs.Prelude.{Result, Ok, Err, map}
use Rattle.std.specs.Borrow.{Bor}
use Rattle.std.proofs.lemmas.List.{map-append}
use Rattle.report_reader.specs.declared.fault.ReportFault.{ReportFault}
use Rattle.report_reader.specs.Report.{ReportText, text_lines, words}
use Rattle.report_reader.specs.Reading.{AnswersParts, Answers}

abbrev now : List (Bor (List ℕ)) → List (List ℕ)
now parts = map (λ (p : Bor (List ℕ)). p.now) parts

-- the parts but the last, and the last
pub but_last : (parts : List (Bor (List ℕ))) (d : Bor (List ℕ)) → 0 < length parts
    → now parts ≡ now (take (length parts - 1) parts) ++ (get_or parts (length parts - 1) d).now ∷ []
but_last [] d some = absurd (omega arith)
but_last (p ∷ []) d some = refl
but_last (p ∷ q ∷ parts) d some =
    let less : length (p ∷ q ∷ parts) - 1 ≡ suc (length (q ∷ parts) - 1) = omega arith in
    rw less (ap (λ l. p.now ∷ l) (but_last (q ∷ parts) d (omega arith)))

pub answered : (text : List ℕ) (parts : List (List ℕ)) (tail : List ℕ) (result : Result ReportText ReportFault) → text_lines text ≡ parts ++ tail ∷ []
    → AnswersParts parts tail result → Answers text result
answered text parts tail (Ok report) split h =
    ap (map words) split ∙ map-append words parts (tail ∷ []) ∙ (λ i. h.0 i ++ words (h.1 i) ∷ [])
answered text parts tail (Err fault) split (inl none) = inl none
answered text parts tail (Err fault) split (inr bad) = inr (parts, tail, split, bad)
