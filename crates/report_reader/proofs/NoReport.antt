-- A text that is refused is no report's.
use Rattle.std.proofs.Common.{rules, ◌≡◌, ℕ, ◌&&◌, List, [], ◌∷◌, ◌++◌, length, length-append, refl, sym, ap, ◌∙◌, subst, arith, inl, inr}
use Rattle.std.specs.Prelude.{Option, None, Some, Err, map, ◌⊎◌}
use Rattle.std.specs.List.{AllByRecursion, join_with_byte}
use Rattle.std.specs.Option.{is_some}
use Rattle.std.proofs.lemmas.List.{map-append}
use Rattle.std.proofs.lemmas.List.Splits.{join_with_byte-slice_split}
use Rattle.std.proofs.lemmas.Bool.{true≢false}
use Rattle.report_reader.specs.declared.fault.ReportCause.{ReportCause}
use Rattle.report_reader.specs.declared.fault.ReportCause.TheVariants.{NotWhole}
use Rattle.report_reader.specs.Line.{Line, words_of}
use Rattle.report_reader.specs.Report.{words, lines_of}
use Rattle.report_reader.specs.Read.{line_of}
use Rattle.report_reader.specs.State.{State, opening, cause_in, after, Ends}
use Rattle.report_reader.specs.Reading.{line_in, Leads, Meets}
use Rattle.report_reader.specs.Fits.{LineFits}
use Rattle.report_reader.specs.Laws.{IsNoReport}
use Rattle.report_reader.proofs.LineReads.{line_is}
use Rattle.report_reader.proofs.ReadingLoop.{heads}
use Rattle.report_reader.proofs.ReportLeads.{ended, report_leads}

-- the last, and those before it
lasts : {X : Type 0} (xs ys : List X) (x y : X) → xs ++ x ∷ [] ≡ ys ++ y ∷ [] → (xs ≡ ys) × (x ≡ y)
lasts [] [] x y e = (refl, (heads x y [] [] e).0)
lasts [] (b ∷ ys) x y e = absurd (omega (arith, ap length e, length-append ys (y ∷ [])))
lasts (a ∷ xs) [] x y e = absurd (omega (arith, ap length e, length-append xs (x ∷ [])))
lasts (a ∷ xs) (b ∷ ys) x y e =
    let h = heads a b (xs ++ x ∷ []) (ys ++ y ∷ []) e in
    let more = lasts xs ys x y h.1 in
    ((λ i. h.0 i ∷ more.0 i), more.1)

some_is : {X : Type 0} (x y : X) → Some x ≡ Some y → x ≡ y
some_is x y e = search (rules, e)

none_some : {X : Type 0} (x : X) → None ≡ Some x → ⊥
none_some x e = search (rules, e)

-- the parts are these lines
lines_are : (parts : List (List ℕ)) (lines : List Line) → AllByRecursion LineFits lines → map words parts ≡ map words_of lines
    → map line_in parts ≡ map (λ line. Some line) lines
lines_are [] [] fits e = refl
lines_are [] (line ∷ lines) fits e = absurd (omega (arith, ap length e))
lines_are (part ∷ parts) [] fits e = absurd (omega (arith, ap length e))
lines_are (part ∷ parts) (line ∷ lines) fits e =
    let h = heads (words part) (words_of line) (map words parts) (map words_of lines) e in
    let more = lines_are parts lines fits.1 h.1 in
    λ i. (ap line_of h.0 ∙ line_is line fits.0) i ∷ more i

-- a line that isn't there can't be next
never_met : (s : State) (found : Option Line) (line : Line) (cause : ReportCause) → found ≡ Some line → cause_in s line ≡ None → Meets s found cause → ⊥
never_met s None line cause is clean met = none_some line is
never_met s (Some other) line cause is clean met = none_some cause (sym clean ∙ ap (cause_in s) (sym (some_is other line is)) ∙ met)

runs_on : (front : List (List ℕ)) (part : List ℕ) (back : List (List ℕ)) (known lines : List Line) (o s t : State) (cause : ReportCause)
    → map line_in front ≡ map (λ line. Some line) known → Leads o known s
    → map line_in (front ++ part ∷ back) ≡ map (λ line. Some line) lines → Leads o lines t → Meets s (line_in part) cause → ⊥
runs_on [] part back [] [] o s t cause e k f l m = absurd (omega (arith, ap length f))
runs_on [] part back [] (line ∷ lines) o s t cause e k f l m =
    never_met s (line_in part) line cause (heads (line_in part) (Some line) (map line_in back) (map (λ x. Some x) lines) f).0
    (subst (λ x. cause_in x line ≡ None) k l.0) m
runs_on [] part back (line ∷ known) lines o s t cause e k f l m = absurd (omega (arith, ap length e))
runs_on (p ∷ front) part back [] lines o s t cause e k f l m = absurd (omega (arith, ap length e))
runs_on (p ∷ front) part back (x ∷ known) [] o s t cause e k f l m = absurd (omega (arith, ap length f))
runs_on (p ∷ front) part back (x ∷ known) (y ∷ lines) o s t cause e k f l m =
    let h = heads (line_in p) (Some x) (map line_in front) (map (λ x. Some x) known) e in
    let g = heads (line_in p) (Some y) (map line_in (front ++ part ∷ back)) (map (λ x. Some x) lines) f in
    let same : y ≡ x = some_is y x (sym g.0 ∙ h.0) in
    runs_on front part back known lines (after o x) s t cause h.1 k.1 g.1 (subst (λ z. Leads (after o z) lines t) same l.1) m

-- the same lines lead to one state
leads_once : (known lines : List Line) (o s t : State) → map (λ line. Some line) known ≡ map (λ line. Some line) lines → Leads o known s → Leads o lines t
    → s ≡ t
leads_once [] [] o s t e k l = sym k ∙ l
leads_once [] (y ∷ lines) o s t e k l = absurd (omega (arith, ap length e))
leads_once (x ∷ known) [] o s t e k l = absurd (omega (arith, ap length e))
leads_once (x ∷ known) (y ∷ lines) o s t e k l =
    let h = heads (Some x) (Some y) (map (λ x. Some x) known) (map (λ x. Some x) lines) e in
    leads_once known lines (after o x) s t h.1 k.1 (subst (λ z. Leads (after o z) lines t) (sym (some_is x y h.0)) l.1)

no_words : (tail : List ℕ) → words tail ≡ [] ∷ [] → tail ≡ []
no_words tail e = sym (join_with_byte-slice_split 32 tail) ∙ ap (join_with_byte 32) e

pub no_report : IsNoReport
no_report text report parts tail fault h is split refused =
    let both = lasts (map words parts) (map words_of (lines_of report)) (words tail) ([] ∷ [])
    (sym (map-append words parts (tail ∷ [])) ∙ ap (map words) (sym split) ∙ is) in
    let lines = lines_are parts (lines_of report) h.lines both.0 in
    let leads = report_leads report h in
    elim refused [
      | inl bad ↦ runs_on bad.0 bad.1 bad.2 bad.6.0 (lines_of report) opening bad.3 (ended report) fault.cause bad.6.1 bad.6.2
          (ap (map line_in) (sym bad.4) ∙ lines) leads bad.7
      | inr cut ↦ over cut.0 cut.4 (leads_once cut.1.0 (lines_of report) opening cut.0 (ended report) (sym cut.1.1 ∙ lines) cut.1.2 leads)
          (no_words tail both.1)
    ]
  where
    over : (s : State) → ((tail ≡ [] → ⊥) ⊎ Ends s (Err NotWhole)) → s ≡ ended report → tail ≡ [] → ⊥
    over s (inl more) e none = more none
    over s (inr ends) e none = true≢false (ap (λ (x : State). is_some x.version && is_some x.last) (sym e) ∙ ends.1)
