use Rattle.std.proofs.Common.{◌≡◌, ◌∙◌, sym, ap, subst}
use Rattle.std.specs.Prelude.{MatchOption, None, Some, List, ℕ, map}
use Rattle.std.specs.Borrow.{Bor}
use Rattle.std.proofs.lemmas.List.{take_rest}
use Rattle.report_reader.specs.Form.{line_text}
use Rattle.report_reader.specs.Read.{job_of, tail_of}
use Rattle.report_reader.proofs.Lengths.{nine, eleven, short}
use Rattle.report_reader.proofs.form.line_of.Goals as goal

abbrev end_of : List (Bor (List ℕ)) → List (List ℕ)
end_of words = map (λ (word : Bor (List ℕ)). word.now) words

pub returns-then-words-eq9 : goal.returns-then-words-eq9
returns-then-words-eq9 c =
    let words = c.args.words.now in
    let tail = c.tail_of.ensures ∙ ap (λ l. tail_of (end_of l)) (take_rest words 6) in
    subst (λ o. MatchOption c.job_of.result (o ≡ None) (λ form. o ≡ Some (line_text form)))
    (sym (nine words c.if-words-eq9.true ∙ (λ i. job_of (sym c.head_of-head.ensures i) (Some None) (sym tail i)))) c.job_of.ensures

pub returns-then-words-eq11 : goal.returns-then-words-eq11
returns-then-words-eq11 c =
    let words = c.args.words.now in
    let tail = c.tail_of-then-words-eq11.ensures ∙ ap (λ l. tail_of (end_of l)) (take_rest words 8) in
    subst (λ o. MatchOption c.job_of-then-words-eq11.result (o ≡ None) (λ form. o ≡ Some (line_text form)))
    (sym (eleven words c.if-words-eq11.true ∙ (λ i. job_of (sym c.head_of-head-then-words-eq11.ensures i) (sym c.middle_of-withdrawn.ensures i) (sym tail i))))
    c.job_of-then-words-eq11.ensures

pub returns : goal.returns
returns c =
    subst (λ o. MatchOption c.short_line.result (o ≡ None) (λ form. o ≡ Some (line_text form)))
    (sym (short c.args.words.now c.if-words-eq9.false c.if-words-eq11.false)) c.short_line.ensures
