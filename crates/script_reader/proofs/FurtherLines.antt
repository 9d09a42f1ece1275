-- The reader's loop over the lines of further sessions.
use Rattle.std.proofs.Common.{◌≡◌, ◌⊎◌, ℕ, ◌+◌, ◌<◌, ◌≤◌, List, [], ◌∷◌, ◌++◌, length, refl, sym, ap, ◌∙◌, subst, arith, inl, inr, length-append, append-nil, append_assoc}
use Rattle.std.specs.Prelude.{Option, None, Some, Result, Ok, Err, IfOk, IfErr, MatchResult}
use Rattle.std.proofs.lemmas.Grind.{flat_map-append}
use Rattle.std.proofs.lemmas.List.{length_push}
use Rattle.std.proofs.lemmas.Result.{MatchResult-at_ok, MatchResult-at_err}
use Rattle.lab_plan.specs.declared.verb.Verb.{Verb}
use Rattle.lab_plan.specs.LabPlan.{LabPlan, SessionPlan}
use Rattle.lab_plan.specs.Building.{on_last, and_command}
use Rattle.lab_plan.specs.Cuts.{commands_of}
use Rattle.lab_plan.specs.Longer.{session_of}
use Rattle.script_reader.specs.declared.fault.ScriptFault.{ScriptFault}
use Rattle.script_reader.specs.declared.fault.ScriptCause.{ScriptCause}
use Rattle.script_reader.specs.declared.fault.ScriptCause.TheVariants.{NoHeader, UnknownWord, BadName, BadNumber, JobTwice, NotInSession, NotInJob, EmptySession, SessionNotClosed, LimitPassed, TooManyInCommon, NoMemory, BadStep, NotItsOwn}
use Rattle.script_reader.specs.Line.{Line, form_of}
use Rattle.script_reader.specs.Script.{text_lines}
use Rattle.script_reader.proofs.ReaderLoop.{counts}
use Rattle.script_reader.specs.More.{SessionsSoFar, more_after, more_cause, more_end_cause, fault_or, more_in, sessions_in, AnswersMore, TakesMore}

-- a fault is at the line that it names, or among the rest
fault_in : {X : Type 0} (o : Option ScriptCause) (n : ℕ) (rest : Result X ScriptFault) (fault : ScriptFault)
    → fault_or o n rest ≡ Err fault → (n ≡ fault.line) ⊎ (rest ≡ Err fault)
fault_in None n rest fault h = inr h
fault_in (Some cause) n rest fault h = inl (ap line_in h)
  where
    line_in : {X : Type 0} → Result X ScriptFault → ℕ
    line_in (Ok x) = 0
    line_in (Err f) = f.line

no_fault : {X : Type 0} (x : X) (fault : ScriptFault) → (let r : Result X ScriptFault = Ok x in r ≡ Err fault) → ⊥
no_fault x fault h = cc

-- no fault is before the lines that are left
pub fault_later : (plan : LabPlan) (j n : ℕ) (s : SessionsSoFar) (lines : List (List ℕ)) (fault : ScriptFault)
    → more_in plan j n s lines ≡ Err fault → n ≤ fault.line
fault_later plan j n s [] fault h = elim (fault_in (more_end_cause s) n (Ok s.sessions) fault h) [
  | inl is ↦ omega (arith, is)
  | inr never ↦ absurd (no_fault s.sessions fault never)
]
fault_later plan j n s (line ∷ lines) fault h =
    elim (fault_in (more_cause plan j s (form_of line)) n (more_in plan j (n + 1) (more_after plan s (form_of line)) lines) fault h) [
      | inl is ↦ omega (arith, is)
      | inr later ↦ let past = fault_later plan j (n + 1) (more_after plan s (form_of line)) lines fault later in omega (arith, past)
    ]

-- the loop's invariant: so many lines are read, and what the text gives is what those that are left give
pub record IsReadingMore (plan : LabPlan) (j : ℕ) (text : List ℕ) (done rest : List (List ℕ)) (number : ℕ) (s : SessionsSoFar) : Type 0 where
  pub split : text_lines text ≡ done ++ rest
  pub placed : number ≡ 1 + length done
  pub left : sessions_in plan j text ≡ more_in plan j number s rest

module _ (plan : LabPlan) (j : ℕ) (text : List ℕ) where
  behind : (line : List ℕ) (done rest : List (List ℕ)) (n : ℕ) (s : SessionsSoFar) → IsReadingMore plan j text done (line ∷ rest) n s
      → more_cause plan j s (form_of line) ≡ None → sessions_in plan j text ≡ more_in plan j (n + 1) (more_after plan s (form_of line)) rest
  behind line done rest n s h none =
      h.left ∙ ap (λ o. fault_or o n (more_in plan j (n + 1) (more_after plan s (form_of line)) rest)) none

  -- why a line isn't taken
  stopped : (s s' : SessionsSoFar) (line : Option Line) (cause : ScriptCause) → TakesMore plan j s line (Err cause) s'
      → ((cause ≡ NoMemory) × (more_cause plan j s line ≡ None)) ⊎ (more_cause plan j s line ≡ Some cause)
  stopped s s' line NoMemory h = inl (refl, h)
  stopped s s' line NoHeader h = inr h
  stopped s s' line UnknownWord h = inr h
  stopped s s' line BadName h = inr h
  stopped s s' line BadNumber h = inr h
  stopped s s' line JobTwice h = inr h
  stopped s s' line NotInSession h = inr h
  stopped s s' line NotInJob h = inr h
  stopped s s' line EmptySession h = inr h
  stopped s s' line SessionNotClosed h = inr h
  stopped s s' line LimitPassed h = inr h
  stopped s s' line TooManyInCommon h = inr h
  stopped s s' line BadStep h = inr h
  stopped s s' line NotItsOwn h = inr h

  pub stops_more : (line : List ℕ) (done rest : List (List ℕ)) (n : ℕ) (s s' : SessionsSoFar) (cause : ScriptCause) → IsReadingMore plan j text done (line ∷ rest) n s
      → TakesMore plan j s (form_of line) (Err cause) s' → AnswersMore plan j text (Err (record { line = n; cause = cause }))
  stops_more line done rest n s s' cause h took = elim (stopped s s' (form_of line) cause took) [
    | inl memory ↦ inl (
      memory.0,
      λ fault is.
          let past = fault_later plan j (n + 1) (more_after plan s (form_of line)) rest fault (sym (behind line done rest n s h memory.1) ∙ is) in
          omega (arith, past),
    )
    | inr bad ↦ inr (h.left ∙ ap (λ o. fault_or o n (more_in plan j (n + 1) (more_after plan s (form_of line)) rest)) bad)
  ]

  -- one more line
  pub reads_more : (line : List ℕ) (done rest : List (List ℕ)) (n : ℕ) (s s' : SessionsSoFar) (x : Unit {0}) → IsReadingMore plan j text done (line ∷ rest) n s
      → TakesMore plan j s (form_of line) (Ok x) s' → IsReadingMore plan j text (done ++ line ∷ []) rest (n + 1) s'
  reads_more line done rest n s s' x h took = record {
    split = h.split ∙ sym (append_assoc done (line ∷ []) rest);
    placed = counts 1 n done line h.placed;
    left = behind line done rest n s h took.0 ∙ ap (λ next. more_in plan j (n + 1) next rest) (sym took.1);
  }

  -- the end of the text
  pub ends_more : {X : Type 0} (items : X → List SessionPlan) (done : List (List ℕ)) (n : ℕ) (s : SessionsSoFar) (given : Result X ScriptCause)
      (result : Result X ScriptFault) → IsReadingMore plan j text done [] n s
      → MatchResult given (λ x. (more_end_cause s ≡ None) × (items x ≡ s.sessions)) (λ cause. more_end_cause s ≡ Some cause)
      → MatchResult result (λ x. given ≡ Ok x) (λ fault. (given ≡ Err fault.cause) × (fault.line ≡ n))
      → IfOk result (λ x. AnswersMore plan j text (Ok (items x))) × IfErr result (λ fault. AnswersMore plan j text (Err fault))
  ends_more items done n s given (Ok x) h e is =
      let good = MatchResult-at_ok (λ x. (more_end_cause s ≡ None) × (items x ≡ s.sessions)) (λ cause. more_end_cause s ≡ Some cause) x is e in
      (h.left ∙ ap (λ o. fault_or o n (Ok s.sessions)) good.0 ∙ ap (λ l. Ok l) (sym good.1), tt)
  ends_more items done n s given (Err fault) h e is =
      let bad = MatchResult-at_err (λ x. (more_end_cause s ≡ None) × (items x ≡ s.sessions)) (λ cause. more_end_cause s ≡ Some cause) fault.cause is.0 e in (
        tt,
        subst (λ m. AnswersMore plan j text (Err (record { line = m; cause = fault.cause }))) (sym is.1)
            (inr (h.left ∙ ap (λ o. fault_or o n (Ok s.sessions)) bad)),
      )

-- ---- one more session, and one more command of the last one

pub commands_begun : (patience : Option ℕ) (xs : List SessionPlan) → commands_of (xs ++ session_of patience [] ∷ []) ≡ commands_of xs
commands_begun patience xs = flat_map-append (λ (session : SessionPlan). session.commands) xs (session_of patience [] ∷ []) ∙ append-nil (commands_of xs)

pub commands_more : (i : ℕ) (verb : Verb) (xs : List SessionPlan) → 0 < length xs
    → length (commands_of (on_last (and_command i verb) xs)) ≡ length (commands_of xs) + 1
commands_more i verb [] some = absurd (omega (arith, some))
commands_more i verb (x ∷ []) some =
    omega (arith, ap (λ l. length l) (append-nil (x.commands ++ (i, verb) ∷ [])), ap (λ l. length l) (append-nil x.commands), length_push x.commands (i, verb))
commands_more i verb (x ∷ y ∷ xs) some =
    let rest = commands_more i verb (y ∷ xs) (omega arith) in
    omega (arith, rest, length-append x.commands (commands_of (on_last (and_command i verb) (y ∷ xs))), length-append x.commands (commands_of (y ∷ xs)))
