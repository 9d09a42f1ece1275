-- The loop over the script part of a text with steps.
use Rattle.std.proofs.Common.{◌≡◌, ℕ, ◌+◌, ◌≤◌, true, false, List, [], ◌∷◌, ◌++◌, length, drop, refl, sym, ap, ◌∙◌, subst, arith, length-append, length-drop, append_assoc, append-nil, ⊎_elim, inr, suc, zero}
use Rattle.std.specs.Prelude.{Ok, Err}
use Rattle.std.proofs.Math.ListN.{drop_of_length-le, length-map}
use Rattle.bstr.specs.Text.{lines_from, line_len}
use Rattle.std.proofs.lemmas.Bool.{cases_Bool}
use Rattle.lab_plan.specs.LabPlan.{LabPlan}
use Rattle.legal_steps.specs.declared.event.StepLine.{StepLine}
use Rattle.script_reader.specs.declared.fault.ScriptCause.{ScriptCause}
use Rattle.script_reader.specs.declared.fault.ScriptFault.{ScriptFault}
use Rattle.script_reader.specs.Line.{form_of}
use Rattle.script_reader.specs.Script.{text_lines, LinesMean, Refuses}
use Rattle.script_reader.specs.State.{State, ReadsForm, Ends}
use Rattle.script_reader.specs.Steps.{is_steps_line, script_part, steps_part, first_step, AreSteps, RefusesSteps, StepsMean, StepsRefuse}
use Rattle.script_reader.proofs.ReaderLoop.{IsReading, reads, stops, stops_at_end, ends_well, all_read}

-- ---- how many lines there are

few_from : (fuel : ℕ) (bytes : List ℕ) → length (lines_from fuel bytes) ≤ fuel
unfolding lines_from
few_from zero bytes = omega arith
few_from (suc fuel) [] = omega arith
few_from (suc fuel) (b ∷ bytes) = let more = few_from fuel (drop (line_len (b ∷ bytes)) (b ∷ bytes)) in omega (arith, more)

pub few_lines : (text : List ℕ) → length (text_lines text) ≤ length text
few_lines text = let few = few_from (length text) text in simp length-map few

-- the number of the next line fits
pub number_fits : (text : List ℕ) (done rest : List (List ℕ)) (n : ℕ) → text_lines text ≡ done ++ rest → n ≡ 1 + length done → n + length rest ≤ length text + 1
number_fits text done rest n split placed =
    let few = few_lines text in
    let all = ap length split in
    omega (arith, few, all, length-append done rest)

-- ---- the loop

-- these lines of the script part are read, and these lines are left
pub record IsAt (lines done rest : List (List ℕ)) (number : ℕ) (s : State) : Type 0 where
  pub split : lines ≡ done ++ rest
  pub reading : IsReading (script_part lines) done (script_part rest) number s

-- a line that isn't `steps`
other : (line : List ℕ) (rest : List (List ℕ)) → is_steps_line line ≡ false → script_part (line ∷ rest) ≡ line ∷ script_part rest
other line rest is = rw is refl

pub goes_on : (lines : List (List ℕ)) (line : List ℕ) (done rest : List (List ℕ)) (n : ℕ) (s s' : State) (x : Unit {0})
    → IsAt lines done (line ∷ rest) n s → is_steps_line line ≡ false → ReadsForm s (form_of line) (Ok x) s' → IsAt lines (done ++ line ∷ []) rest (n + 1) s'
goes_on lines line done rest n s s' x h is e =
    record {
      split = h.split ∙ sym (append_assoc done (line ∷ []) rest);
      reading = reads (script_part lines) line done (script_part rest) n s s' (form_of line) x refl
          (subst (λ l. IsReading (script_part lines) done l n s) (other line rest is) h.reading) e;
    }

pub fails : (lines : List (List ℕ)) (line : List ℕ) (done rest : List (List ℕ)) (n : ℕ) (s s' : State) (cause : ScriptCause) → IsAt lines done (line ∷ rest) n s
    → is_steps_line line ≡ false → ReadsForm s (form_of line) (Err cause) s' → Refuses (script_part lines) (record { line = n; cause = cause })
fails lines line done rest n s s' cause h is e =
    stops (script_part lines) line done (script_part rest) n s s' (form_of line) cause refl
    (subst (λ l. IsReading (script_part lines) done l n s) (other line rest is) h.reading) e

-- ---- the end of the script part

-- what follows, and where: behind a line `steps`, or nothing
pub record IsRest (lines : List (List ℕ)) (rest : List (List ℕ)) (number : ℕ) : Type 0 where
  pub rest_is : rest ≡ steps_part lines
  pub first_is : number + 1 ≡ first_step lines

dropped : (done : List (List ℕ)) (line : List ℕ) (rest : List (List ℕ)) → drop (length done + 1) (done ++ line ∷ rest) ≡ rest
dropped [] line rest = refl
dropped (x ∷ done) line rest = rw (add-suc-one (length done)) (dropped done line rest)
  where
    add-suc-one : (n : ℕ) → suc n + 1 ≡ suc (n + 1)
    add-suc-one n = omega arith

reading_ends : (lines done rest : List (List ℕ)) (n : ℕ) (s : State)
    → IsAt lines done rest n s → script_part rest ≡ [] → IsReading (script_part lines) done [] n s
reading_ends lines done rest n s h none = subst (λ l. IsReading (script_part lines) done l n s) none h.reading

at_first : (lines done rest : List (List ℕ)) (n : ℕ) (s : State) → IsAt lines done rest n s → script_part rest ≡ [] → n + 1 ≡ first_step lines
at_first lines done rest n s h none =
    let len = ap length (all_read (script_part lines) done n s (reading_ends lines done rest n s h none)) in
    let count = h.reading.placed in
    omega (arith, len, count)

pub steps_none : (line : List ℕ) (rest : List (List ℕ)) → is_steps_line line ≡ true → script_part (line ∷ rest) ≡ []
steps_none line rest is = rw is refl

pub rest_behind : (lines : List (List ℕ)) (line : List ℕ) (done rest : List (List ℕ)) (n : ℕ) (s : State)
    → IsAt lines done (line ∷ rest) n s → is_steps_line line ≡ true → IsRest lines rest n
rest_behind lines line done rest n s h is =
    let none = steps_none line rest is in
    let all = all_read (script_part lines) done n s (reading_ends lines done (line ∷ rest) n s h none) in
    record {
      rest_is = sym ((λ i. drop (length (all i) + 1) (h.split i)) ∙ dropped done line rest);
      first_is = at_first lines done (line ∷ rest) n s h none;
    }

pub rest_none : (lines done : List (List ℕ)) (n : ℕ) (s : State) → IsAt lines done [] n s → IsRest lines [] n
rest_none lines done n s h =
    let all = all_read (script_part lines) done n s (reading_ends lines done [] n s h refl) in
    record {
      rest_is = sym ((λ i. drop (length (all i) + 1) ((h.split ∙ append-nil done) i)) ∙ drop_of_length-le done (omega arith));
      first_is = at_first lines done [] n s h refl;
    }

pub ends_well_at : (lines done rest : List (List ℕ)) (n : ℕ) (s : State) (plan : LabPlan)
    → IsAt lines done rest n s → script_part rest ≡ [] → Ends s (Ok plan) → LinesMean (script_part lines) plan
ends_well_at lines done rest n s plan h none e = ends_well (script_part lines) done n s plan (reading_ends lines done rest n s h none) e

pub ends_badly_at : (lines done rest : List (List ℕ)) (n : ℕ) (s : State) (cause : ScriptCause) → IsAt lines done rest n s
    → script_part rest ≡ [] → Ends s (Err cause) → Refuses (script_part lines) (record { line = n; cause = cause })
ends_badly_at lines done rest n s cause h none e = stops_at_end (script_part lines) done n s cause (reading_ends lines done rest n s h none) e

-- ---- the texts

few_up_to : (lines : List (List ℕ)) → length (script_part lines) ≤ length lines
few_up_to [] = omega arith
few_up_to (line ∷ lines) =
    let more = few_up_to lines in
    ⊎_elim (λ is. rw is (omega arith)) (λ is. rw is (omega (arith, more))) (cases_Bool (is_steps_line line))

-- the numbers of the lines behind the script part fit
pub room : (text : List ℕ) (rest : List (List ℕ)) (first : ℕ) → rest ≡ steps_part (text_lines text)
    → first ≡ first_step (text_lines text) → first + length rest ≤ length text + 2
room text rest first is at =
    let lines = text_lines text in
    let few = few_lines text in
    let part = few_up_to lines in
    let len = ap length is ∙ length-drop (length (script_part lines) + 1) lines in
    omega (arith, few, part, len, at)

pub meant : (text : List ℕ) (plan : LabPlan) (rest : List (List ℕ)) (first : ℕ) (steps : List StepLine) → LinesMean (script_part (text_lines text)) plan
    → rest ≡ steps_part (text_lines text) → first ≡ first_step (text_lines text) → AreSteps plan first rest steps → StepsMean text plan steps
meant text plan rest first steps is_plan is at are =
    (is_plan, subst (λ l. AreSteps plan (first_step (text_lines text)) l steps) is (subst (λ n. AreSteps plan n rest steps) at are))

pub refused : (text : List ℕ) (plan : LabPlan) (rest : List (List ℕ)) (first : ℕ) (fault : ScriptFault) → LinesMean (script_part (text_lines text)) plan
    → rest ≡ steps_part (text_lines text) → first ≡ first_step (text_lines text) → RefusesSteps plan first rest fault → StepsRefuse text fault
refused text plan rest first fault is_plan is at bad =
    inr (plan, is_plan, subst (λ l. RefusesSteps plan (first_step (text_lines text)) l fault) is (subst (λ n. RefusesSteps plan n rest fault) at bad))
