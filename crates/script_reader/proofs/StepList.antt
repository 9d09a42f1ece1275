-- The loop over the lines of a step list.
use Rattle.std.proofs.Common.{◌≡◌, ℕ, ◌+◌, ◌≤◌, List, [], ◌∷◌, ◌++◌, length, refl, sym, ap, ◌∙◌, subst, arith, length-append, append_assoc, ◌⊎◌, ⊎_elim, inl, inr}
use Rattle.std.specs.Prelude.{Option, None, Some, Ok, Err, map, nat_le}
use Rattle.std.proofs.lemmas.List.{map-append}
use Rattle.std.proofs.lemmas.Bool.{cases_Bool, leb-false}
use Rattle.lab_plan.specs.LabPlan.{LabPlan}
use Rattle.legal_steps.specs.declared.event.Step.{Step}
use Rattle.legal_steps.specs.declared.event.StepLine.{StepLine}
use Rattle.script_reader.specs.declared.fault.ScriptCause.{ScriptCause}
use Rattle.script_reader.specs.declared.fault.ScriptCause.TheVariants.{NoHeader, UnknownWord, BadName, BadNumber, JobTwice, NotInSession, NotInJob, EmptySession, SessionNotClosed, LimitPassed, TooManyInCommon, NoMemory, BadStep, NotItsOwn}
use Rattle.script_reader.specs.Steps.{step_in, list_of, placed, step_cause, IsFaultInSteps, AreCleanUpTo, ReadsStep}
use Rattle.script_reader.proofs.ReaderLoop.{numbered-append, one_line, no_line, counts}

-- these lines are read, and these are left
pub record IsListing (plan : LabPlan) (first : ℕ) (lines done rest : List (List ℕ)) (number : ℕ) (steps : List StepLine) : Type 0 where
  pub split : lines ≡ done ++ rest
  pub counted : number ≡ first + length done
  pub are : list_of plan first done ≡ map placed steps
  pub few : length steps ≤ 1000000

-- the number of the next line fits
pub fits : (plan : LabPlan) (first : ℕ) (lines : List (List ℕ)) (line : List ℕ) (done rest : List (List ℕ)) (number : ℕ) (steps : List StepLine)
    → IsListing plan first lines done (line ∷ rest) number steps → number + 1 ≤ first + length lines
fits plan first lines line done rest number steps h =
    let all = ap length h.split in
    let sum = length-append done (line ∷ rest) in
    let count = h.counted in
    omega (arith, all, sum, count)

-- the line stands behind the lines that are read
stands : (plan : LabPlan) (first : ℕ) (lines : List (List ℕ)) (line : List ℕ) (done rest : List (List ℕ)) (n : ℕ) (steps : List StepLine) (found : Option Step)
    → IsListing plan first lines done (line ∷ rest) n steps → step_in plan line ≡ Some found
    → list_of plan first lines ≡ map placed steps ++ (n, found) ∷ list_of plan (n + 1) rest
stands plan first lines line done rest n steps found h is =
    ap (list_of plan first) h.split ∙ numbered-append (step_in plan) first done (line ∷ rest)
    ∙ (λ i. h.are i ++ list_of plan (sym h.counted i) (line ∷ rest)) ∙ rw is refl

few_more : (steps : List StepLine) (step : StepLine) → step_cause (length steps) (Some step.step) ≡ None → length (steps ++ step ∷ []) ≤ 1000000
few_more steps step clean =
    ⊎_elim
    (λ full. let met = rw full at clean in cc)
    (λ room. let below = leb-false 1000000 (length steps) room in let sum = length-append steps (step ∷ []) in omega (arith, sum, below))
    (cases_Bool (nat_le 1000000 (length steps)))

-- one more line
pub lists : (plan : LabPlan) (first : ℕ) (lines : List (List ℕ)) (line : List ℕ) (done rest : List (List ℕ))
    (n : ℕ) (steps steps' : List StepLine) (form : Option (Option Step)) (x : Unit {0}) → step_in plan line ≡ form
    → IsListing plan first lines done (line ∷ rest) n steps → ReadsStep steps n form (Ok x) steps'
    → IsListing plan first lines (done ++ line ∷ []) rest (n + 1) steps'
lists plan first lines line done rest n steps steps' None x is h e =
    record {
      split = h.split ∙ sym (append_assoc done (line ∷ []) rest);
      counted = counts first n done line h.counted;
      are = no_line (step_in plan) first done line is ∙ h.are ∙ ap (map placed) (sym e);
      few = subst (λ (s : List StepLine). length s ≤ 1000000) (sym e) h.few;
    }
lists plan first lines line done rest n steps steps' (Some None) x is h e = absurd e
lists plan first lines line done rest n steps steps' (Some (Some step)) x is h e =
    let more : StepLine = record { line = n; step = step } in
    record {
      split = h.split ∙ sym (append_assoc done (line ∷ []) rest);
      counted = counts first n done line h.counted;
      are = one_line (step_in plan) first n done line (Some step) h.counted is ∙ ap (λ l. l ++ (n, Some step) ∷ []) h.are
          ∙ sym (map-append placed steps (more ∷ [])) ∙ ap (map placed) (sym e.1);
      few = subst (λ (s : List StepLine). length s ≤ 1000000) (sym e.1) (few_more steps more e.0);
    }

abbrev RefusesAt : LabPlan → ℕ → List (List ℕ) → ℕ → ScriptCause → Type 0
RefusesAt plan first lines number cause = ((cause ≡ NoMemory) × AreCleanUpTo plan first lines number) ⊎ IsFaultInSteps plan first lines number cause

faulty : (plan : LabPlan) (first : ℕ) (lines : List (List ℕ)) (line : List ℕ) (done rest : List (List ℕ))
    (n : ℕ) (steps : List StepLine) (found : Option Step) (cause : ScriptCause) → IsListing plan first lines done (line ∷ rest) n steps
    → step_in plan line ≡ Some found → step_cause (length steps) found ≡ Some cause
    → RefusesAt plan first lines n cause
faulty plan first lines line done rest n steps found cause h is e =
    inr (steps, found, list_of plan (n + 1) rest, stands plan first lines line done rest n steps found h is, h.few, e)

-- a line with a fault
pub stops : (plan : LabPlan) (first : ℕ) (lines : List (List ℕ)) (line : List ℕ) (done rest : List (List ℕ))
    (n : ℕ) (steps steps' : List StepLine) (form : Option (Option Step)) (cause : ScriptCause) → step_in plan line ≡ form
    → IsListing plan first lines done (line ∷ rest) n steps → ReadsStep steps n form (Err cause) steps'
    → RefusesAt plan first lines n cause
stops plan first lines line done rest n steps steps' None cause is h e = absurd e
stops plan first lines line done rest n steps steps' (Some found) NoMemory is h e =
    inl (refl, (steps, found, list_of plan (n + 1) rest, stands plan first lines line done rest n steps found h is, h.few, e))
stops plan first lines line done rest n steps steps' (Some found) NoHeader is h e = faulty plan first lines line done rest n steps found NoHeader h is e
stops plan first lines line done rest n steps steps' (Some found) UnknownWord is h e = faulty plan first lines line done rest n steps found UnknownWord h is e
stops plan first lines line done rest n steps steps' (Some found) BadName is h e = faulty plan first lines line done rest n steps found BadName h is e
stops plan first lines line done rest n steps steps' (Some found) BadNumber is h e = faulty plan first lines line done rest n steps found BadNumber h is e
stops plan first lines line done rest n steps steps' (Some found) JobTwice is h e = faulty plan first lines line done rest n steps found JobTwice h is e
stops plan first lines line done rest n steps steps' (Some found) NotInSession is h e = faulty plan first lines line done rest n steps found NotInSession h is e
stops plan first lines line done rest n steps steps' (Some found) NotInJob is h e = faulty plan first lines line done rest n steps found NotInJob h is e
stops plan first lines line done rest n steps steps' (Some found) EmptySession is h e = faulty plan first lines line done rest n steps found EmptySession h is e
stops plan first lines line done rest n steps steps' (Some found) SessionNotClosed is h e =
    faulty plan first lines line done rest n steps found SessionNotClosed h is e
stops plan first lines line done rest n steps steps' (Some found) LimitPassed is h e = faulty plan first lines line done rest n steps found LimitPassed h is e
stops plan first lines line done rest n steps steps' (Some found) TooManyInCommon is h e =
    faulty plan first lines line done rest n steps found TooManyInCommon h is e
stops plan first lines line done rest n steps steps' (Some found) BadStep is h e = faulty plan first lines line done rest n steps found BadStep h is e
stops plan first lines line done rest n steps steps' (Some found) NotItsOwn is h e = faulty plan first lines line done rest n steps found NotItsOwn h is e
