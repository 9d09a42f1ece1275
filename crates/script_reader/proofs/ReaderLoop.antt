-- The reader's loop over the lines of a script.
use Rattle.std.proofs.Common.{◌≡◌, ℕ, ◌+◌, List, [], ◌∷◌, ◌++◌, length, refl, sym, ap, ◌∙◌, subst, arith, length-append, append_assoc, append-nil, ◌⊎◌, inl, inr, suc}
use Rattle.std.specs.Prelude.{Option, None, Some, Result, Ok, Err, MatchResult, reverse, map}
use Rattle.std.specs.Option.{option_map}
use Rattle.std.specs.List.{cons_option}
use Rattle.std.proofs.lemmas.List.{reverse-append, map-append}
use Rattle.lab_plan.specs.LabPlan.{LabPlan, all_commands}
use Rattle.script_reader.specs.declared.fault.ScriptFault.{ScriptFault}
use Rattle.script_reader.specs.declared.fault.ScriptCause.{ScriptCause}
use Rattle.script_reader.specs.declared.fault.ScriptCause.TheVariants.{NoHeader, UnknownWord, BadName, BadNumber, JobTwice, NotInSession, NotInJob, EmptySession, SessionNotClosed, LimitPassed, TooManyInCommon, NoMemory, BadStep, NotItsOwn}
use Rattle.script_reader.specs.Line.{Line, form_of, is_command}
use Rattle.script_reader.specs.Plan.{plan_of}
use Rattle.script_reader.specs.Script.{numbered, text_lines, script_of, backwards, AreSound, cause_at_end, count, LinesMean, IsFaultAtLine, IsFaultOfLines, IsCleanUpTo, IsCleanUpToLine, Refuses, Answers}
use Rattle.script_reader.specs.State.{State, state_of, cause_in, end_cause_in, after, IsTied, ReadsForm, Ends}
use Rattle.script_reader.proofs.After.{after_is}
use Rattle.script_reader.proofs.Meets.{cause_is}
use Rattle.script_reader.proofs.Tied.{IsTied-after, counted_after}

-- ---- numbered lines

pub numbered-append : {B : Type 0} (form : List ℕ → Option B) (n : ℕ) (xs ys : List (List ℕ))
    → numbered form n (xs ++ ys) ≡ numbered form n xs ++ numbered form (n + length xs) ys
numbered-append form n [] ys = ap (λ k. numbered form k ys) (omega arith)
numbered-append {B} form n (x ∷ xs) ys =
    let k : n + 1 + length xs ≡ n + suc (length xs) = omega arith in
    let more = numbered-append form (n + 1) xs ys ∙ ap (λ m. numbered form (n + 1) xs ++ numbered form m ys) k in
    onto (option_map (λ found. (n, found)) (form x)) _ _ _ more
  where
    onto : (o : Option (ℕ × B)) (ps bs cs : List (ℕ × B)) → ps ≡ bs ++ cs → cons_option o ps ≡ cons_option o bs ++ cs
    onto None ps bs cs e = e
    onto (Some x) ps bs cs e = ap (λ l. x ∷ l) e

pub one_line : {B : Type 0} (form : List ℕ → Option B) (first n : ℕ) (done : List (List ℕ)) (line : List ℕ) (found : B)
    → n ≡ first + length done → form line ≡ Some found → numbered form first (done ++ line ∷ []) ≡ numbered form first done ++ (n, found) ∷ []
one_line form first n done line found count is =
    numbered-append form first done (line ∷ []) ∙ ap (λ m. numbered form first done ++ numbered form m (line ∷ [])) (sym count) ∙ rw is refl

pub no_line : {B : Type 0} (form : List ℕ → Option B) (first : ℕ) (done : List (List ℕ)) (line : List ℕ)
    → form line ≡ None → numbered form first (done ++ line ∷ []) ≡ numbered form first done
no_line form first done line is = numbered-append form first done (line ∷ []) ∙ rw is (append-nil _)

backwards-push : (xs : List (ℕ × Line)) (x : ℕ × Line) → backwards (xs ++ x ∷ []) ≡ x.1 ∷ backwards xs
backwards-push xs x = ap reverse (map-append (λ (p : ℕ × Line). p.1) xs (x ∷ [])) ∙ reverse-append (map (λ (p : ℕ × Line). p.1) xs) (x.1 ∷ [])

pub counts : (first n : ℕ) (done : List (List ℕ)) (line : List ℕ) → n ≡ first + length done → n + 1 ≡ first + length (done ++ line ∷ [])
counts first n done line e = omega (arith, length-append done (line ∷ []))

-- ---- reading

-- the loop's invariant: these lines are read, and these are left
pub record IsReading (lines done rest : List (List ℕ)) (number : ℕ) (s : State) : Type 0 where
  pub split : lines ≡ done ++ rest
  pub placed : number ≡ 1 + length done
  pub sound : AreSound (backwards (script_of done))
  pub state : s ≡ state_of (backwards (script_of done))
  pub tied : IsTied s
  pub counted : count is_command (backwards (script_of done)) ≡ length (all_commands (plan_of (reverse (backwards (script_of done)))))

pub starts : (lines : List (List ℕ)) → IsReading lines [] lines 1 (state_of [])
starts lines = record {
  split = refl;
  placed = refl;
  sound = tt;
  state = refl;
  tied = record { closed = λ e. refl; within = λ e. cc; bare = refl; version = refl };
  counted = refl;
}

skips : (lines : List (List ℕ)) (line : List ℕ) (done rest : List (List ℕ)) (n : ℕ) (s : State)
    → IsReading lines done (line ∷ rest) n s → form_of line ≡ None → IsReading lines (done ++ line ∷ []) rest (n + 1) s
skips lines line done rest n s h is =
    let same = sym (no_line form_of 1 done line is) in
    record {
      split = h.split ∙ sym (append_assoc done (line ∷ []) rest);
      placed = counts 1 n done line h.placed;
      sound = subst (λ l. AreSound (backwards l)) same h.sound;
      state = h.state ∙ ap (λ l. state_of (backwards l)) same;
      tied = h.tied;
      counted = subst (λ l. count is_command (backwards l) ≡ length (all_commands (plan_of (reverse (backwards l))))) same h.counted;
    }

takes : (lines : List (List ℕ)) (line : List ℕ) (done rest : List (List ℕ)) (n : ℕ) (s s' : State) (form : Line) → IsReading lines done (line ∷ rest) n s
    → form_of line ≡ Some form → cause_in s form ≡ None → s' ≡ after s form → IsReading lines (done ++ line ∷ []) rest (n + 1) s'
takes lines line done rest n s s' form h is clean now =
    let before = backwards (script_of done) in
    let known : cause_in (state_of before) form ≡ None = ap (λ x. cause_in x form) (sym h.state) ∙ clean in
    let more : form ∷ before ≡ backwards (script_of (done ++ line ∷ [])) =
    sym (ap backwards (one_line form_of 1 n done line form h.placed is) ∙ backwards-push (script_of done) (n, form)) in
    let next : state_of (form ∷ before) ≡ after (state_of before) form = after_is before form known in
    let counted = counted_after before form (subst IsTied h.state h.tied) known h.counted ∙ ap (λ (x : State). length (all_commands x.plan)) (sym next) in
    record {
      split = h.split ∙ sym (append_assoc done (line ∷ []) rest);
      placed = counts 1 n done line h.placed;
      sound = subst AreSound more (cause_is before form h.counted ∙ known, h.sound);
      state = now ∙ ap (λ x. after x form) h.state ∙ sym next ∙ ap state_of more;
      tied = subst IsTied (sym now) (IsTied-after s form h.tied clean);
      counted = subst (λ l. count is_command l ≡ length (all_commands (plan_of (reverse l)))) more counted;
    }

-- the line stands behind the lines that are read
stands : (lines : List (List ℕ)) (line : List ℕ) (done rest : List (List ℕ)) (n : ℕ) (s : State) (form : Line)
    → IsReading lines done (line ∷ rest) n s → form_of line ≡ Some form → script_of lines ≡ script_of done ++ (n, form) ∷ numbered form_of (n + 1) rest
stands lines line done rest n s form h is =
    ap script_of h.split ∙ numbered-append form_of 1 done (line ∷ rest)
    ∙ ap (λ m. script_of done ++ numbered form_of m (line ∷ rest)) (sym h.placed) ∙ rw is refl

faults : (lines : List (List ℕ)) (line : List ℕ) (done rest : List (List ℕ)) (n : ℕ) (s : State) (form : Line) (cause : ScriptCause)
    → IsReading lines done (line ∷ rest) n s → form_of line ≡ Some form → cause_in s form ≡ Some cause → IsFaultAtLine lines n cause
faults lines line done rest n s form cause h is met =
    let before = backwards (script_of done) in (
      script_of done,
      form,
      numbered form_of (n + 1) rest,
      stands lines line done rest n s form h is,
      h.sound,
      cause_is before form h.counted ∙ ap (λ x. cause_in x form) (sym h.state) ∙ met,
    )

runs_out : (lines : List (List ℕ)) (line : List ℕ) (done rest : List (List ℕ)) (n : ℕ) (s : State) (form : Line)
    → IsReading lines done (line ∷ rest) n s → form_of line ≡ Some form → cause_in s form ≡ None → IsCleanUpToLine lines n
runs_out lines line done rest n s form h is clean =
    let before = backwards (script_of done) in (
      script_of done,
      form,
      numbered form_of (n + 1) rest,
      stands lines line done rest n s form h is,
      (cause_is before form h.counted ∙ ap (λ x. cause_in x form) (sym h.state) ∙ clean, h.sound),
    )

-- one more line
pub reads : (lines : List (List ℕ)) (line : List ℕ) (done rest : List (List ℕ)) (n : ℕ) (s s' : State) (form : Option Line) (x : Unit {0})
    → form_of line ≡ form → IsReading lines done (line ∷ rest) n s → ReadsForm s form (Ok x) s' → IsReading lines (done ++ line ∷ []) rest (n + 1) s'
reads lines line done rest n s s' None x is h e = subst (IsReading lines (done ++ line ∷ []) rest (n + 1)) (sym e) (skips lines line done rest n s h is)
reads lines line done rest n s s' (Some form) x is h e = takes lines line done rest n s s' form h is e.0 e.1

-- the fault with this number and this cause
abbrev RefusesAt : List (List ℕ) → ℕ → ScriptCause → Type 0
RefusesAt lines number cause = ((cause ≡ NoMemory) × IsCleanUpTo lines number) ⊎ IsFaultOfLines lines number cause

-- a line with a fault
pub stops : (lines : List (List ℕ)) (line : List ℕ) (done rest : List (List ℕ)) (n : ℕ) (s s' : State) (form : Option Line) (cause : ScriptCause)
    → form_of line ≡ form → IsReading lines done (line ∷ rest) n s → ReadsForm s form (Err cause) s' → RefusesAt lines n cause
stops lines line done rest n s s' None cause is h e = absurd e
stops lines line done rest n s s' (Some form) NoMemory is h e = inl (refl, inl (runs_out lines line done rest n s form h is e))
stops lines line done rest n s s' (Some form) NoHeader is h e = inr (inl (faults lines line done rest n s form NoHeader h is e))
stops lines line done rest n s s' (Some form) UnknownWord is h e = inr (inl (faults lines line done rest n s form UnknownWord h is e))
stops lines line done rest n s s' (Some form) BadName is h e = inr (inl (faults lines line done rest n s form BadName h is e))
stops lines line done rest n s s' (Some form) BadNumber is h e = inr (inl (faults lines line done rest n s form BadNumber h is e))
stops lines line done rest n s s' (Some form) JobTwice is h e = inr (inl (faults lines line done rest n s form JobTwice h is e))
stops lines line done rest n s s' (Some form) NotInSession is h e = inr (inl (faults lines line done rest n s form NotInSession h is e))
stops lines line done rest n s s' (Some form) NotInJob is h e = inr (inl (faults lines line done rest n s form NotInJob h is e))
stops lines line done rest n s s' (Some form) EmptySession is h e = inr (inl (faults lines line done rest n s form EmptySession h is e))
stops lines line done rest n s s' (Some form) SessionNotClosed is h e = inr (inl (faults lines line done rest n s form SessionNotClosed h is e))
stops lines line done rest n s s' (Some form) LimitPassed is h e = inr (inl (faults lines line done rest n s form LimitPassed h is e))
stops lines line done rest n s s' (Some form) TooManyInCommon is h e = inr (inl (faults lines line done rest n s form TooManyInCommon h is e))
stops lines line done rest n s s' (Some form) BadStep is h e = inr (inl (faults lines line done rest n s form BadStep h is e))
stops lines line done rest n s s' (Some form) NotItsOwn is h e = inr (inl (faults lines line done rest n s form NotItsOwn h is e))

-- ---- the end

pub all_read : (lines done : List (List ℕ)) (n : ℕ) (s : State) → IsReading lines done [] n s → lines ≡ done
all_read lines done n s h = h.split ∙ append-nil done

pub ends_well : (lines done : List (List ℕ)) (n : ℕ) (s : State) (plan : LabPlan) → IsReading lines done [] n s → Ends s (Ok plan) → LinesMean lines plan
ends_well lines done n s plan h e =
    subst (λ l. LinesMean l plan) (sym (all_read lines done n s h)) (
      h.sound,
      ap end_cause_in (sym h.state) ∙ e.0,
      e.1 ∙ ap (λ (x : State). x.plan) h.state,
    )

at_end : (lines done : List (List ℕ)) (n : ℕ) (s : State) → IsReading lines done [] n s → n ≡ length lines + 1
at_end lines done n s h = let len = ap length (all_read lines done n s h) in let count = h.placed in omega (arith, len, count)

ends_badly : (lines done : List (List ℕ)) (n : ℕ) (s : State) (cause : ScriptCause)
    → IsReading lines done [] n s → end_cause_in s ≡ Some cause → IsFaultOfLines lines n cause
ends_badly lines done n s cause h e =
    let all = sym (all_read lines done n s h) in
    inr (
      subst (λ l. AreSound (backwards (script_of l))) all h.sound,
      subst (λ l. cause_at_end (backwards (script_of l)) ≡ Some cause) all (ap end_cause_in (sym h.state) ∙ e),
      at_end lines done n s h,
    )

runs_out_at_end : (lines done : List (List ℕ)) (n : ℕ) (s : State) → IsReading lines done [] n s → end_cause_in s ≡ None → IsCleanUpTo lines n
runs_out_at_end lines done n s h e =
    let all = sym (all_read lines done n s h) in
    inr (
      subst (λ l. AreSound (backwards (script_of l))) all h.sound,
      subst (λ l. cause_at_end (backwards (script_of l)) ≡ None) all (ap end_cause_in (sym h.state) ∙ e),
      at_end lines done n s h,
    )

pub stops_at_end : (lines done : List (List ℕ)) (n : ℕ) (s : State) (cause : ScriptCause)
    → IsReading lines done [] n s → Ends s (Err cause) → RefusesAt lines n cause
stops_at_end lines done n s NoMemory h e = inl (refl, runs_out_at_end lines done n s h e)
stops_at_end lines done n s NoHeader h e = inr (ends_badly lines done n s NoHeader h e)
stops_at_end lines done n s UnknownWord h e = inr (ends_badly lines done n s UnknownWord h e)
stops_at_end lines done n s BadName h e = inr (ends_badly lines done n s BadName h e)
stops_at_end lines done n s BadNumber h e = inr (ends_badly lines done n s BadNumber h e)
stops_at_end lines done n s JobTwice h e = inr (ends_badly lines done n s JobTwice h e)
stops_at_end lines done n s NotInSession h e = inr (ends_badly lines done n s NotInSession h e)
stops_at_end lines done n s NotInJob h e = inr (ends_badly lines done n s NotInJob h e)
stops_at_end lines done n s EmptySession h e = inr (ends_badly lines done n s EmptySession h e)
stops_at_end lines done n s SessionNotClosed h e = inr (ends_badly lines done n s SessionNotClosed h e)
stops_at_end lines done n s LimitPassed h e = inr (ends_badly lines done n s LimitPassed h e)
stops_at_end lines done n s TooManyInCommon h e = inr (ends_badly lines done n s TooManyInCommon h e)
stops_at_end lines done n s BadStep h e = inr (ends_badly lines done n s BadStep h e)
stops_at_end lines done n s NotItsOwn h e = inr (ends_badly lines done n s NotItsOwn h e)

pub answers_at_end : (text : List ℕ) (done : List (List ℕ)) (n : ℕ) (s : State) (given : Result LabPlan ScriptCause) (result : Result LabPlan ScriptFault)
    → IsReading (text_lines text) done [] n s → Ends s given
    → MatchResult result (λ plan. given ≡ Ok plan) (λ fault. (given ≡ Err fault.cause) × (fault.line ≡ n)) → Answers text result
answers_at_end text done n s given (Ok plan) h e is = ends_well (text_lines text) done n s plan h (subst (Ends s) is e)
answers_at_end text done n s given (Err fault) h e is =
    let bad = stops_at_end (text_lines text) done n s fault.cause h (subst (Ends s) is.0 e) in
    subst (λ m. Refuses (text_lines text) (record { line = m; cause = fault.cause })) (sym is.1) bad
