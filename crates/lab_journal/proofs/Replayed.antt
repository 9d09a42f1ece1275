-- The world after the steps of a journal, and the lab in it.
use Rattle.std.proofs.Common.{◌≡◌, ◌≢◌, ℕ, zero, suc, ◌+◌, ◌<◌, ◌≤◌, true, List, [], ◌∷◌, ◌++◌, length, take, refl, sym, ap, ◌∙◌, subst, arith}
use Rattle.std.specs.Prelude.{Ok, Err, Some, None, map, slice_get, slice_index_or}
use Rattle.lab_plan.specs.LabPlan.{LabPlan}
use Rattle.legal_steps.specs.declared.event.Event.{Event}
use Rattle.legal_steps.specs.declared.event.StepLine.{StepLine}
use Rattle.legal_steps.specs.declared.phase.Drinking.TheVariants.{Reaching}
use Rattle.legal_steps.specs.State.{drinking}
use Rattle.legal_steps.specs.Legal.{IsJob}
use Rattle.legal_steps.specs.Opening.{the_opening}
use Rattle.interleaving.specs.Kept.{TapeView, after_kept}
use Rattle.interleaving.specs.Start.{at_start}
use Rattle.interleaving.specs.World.{WorldView, IsReachedBy}
use Rattle.explaining.specs.Explanations.{events_from_opening}
use Rattle.live_lab.specs.Labs.{LabView, lab_in}
use Rattle.journal_texts.specs.Lines.{AreWholeLines}
use Rattle.journal_texts.specs.Sums.{wrong_sum}
use Rattle.lab_journal.specs.Rooms.{room_for}
use Rattle.lab_journal.specs.Meaning.{JournalMeans}
use Rattle.lab_journal.specs.Resumed.{HasIllegalStep, IsResumed}
use Rattle.lab_journal.specs.Finishing.{Finishes, TakesSteps, IsReplayed, IsKeptIn}
use Rattle.lab_journal.proofs.Taken.{few_kept}

-- the line of the step at a place
pub line_at : (steps : List StepLine) (k : ℕ) (d : StepLine) → k < length steps
    → slice_get (map (λ (step : StepLine). step.line) steps) k ≡ Some (slice_index_or steps k d).line
line_at [] k d inside = absurd (omega (arith, inside))
line_at (step ∷ steps) zero d inside = refl
line_at (step ∷ steps) (suc k) d inside = line_at steps k d (omega (arith, inside))

-- a step wasn't legal
pub stopped : (text : List ℕ) (plan : LabPlan) (steps seen : List StepLine) (old new : WorldView) (line : ℕ) → seen ≡ steps
    → old ≡ at_start plan (the_opening plan) → JournalMeans text plan steps → TakesSteps old seen (Err line) new → HasIllegalStep text line
stopped text plan steps seen old new line same start means takes =
    let t = subst (λ (z : WorldView × List StepLine). TakesSteps z.0 z.1 (Err line) new) (λ i. (start i, same i)) takes in
    record { plan = plan; steps = steps; means = means; place = t.0; state = new.state; stops = t.1; at_line = t.2 }

-- all were
pub replayed : (text : List ℕ) (plan : LabPlan) (steps seen : List StepLine) (old new : WorldView) → seen ≡ steps
    → old ≡ at_start plan (the_opening plan) → JournalMeans text plan steps → TakesSteps old seen (Ok tt) new → wrong_sum text ≡ None → IsReplayed text new
replayed text plan steps seen old new same start means takes sums =
    let t = subst (λ (z : WorldView × List StepLine). TakesSteps z.0 z.1 (Ok tt) new) (λ i. (start i, same i)) takes in
    record {
      steps = steps;
      means = subst (λ (p : LabPlan). JournalMeans text p steps) (sym t.0) means;
      sums = sums;
      opening = t.1.same_opening ∙ ap the_opening (sym t.0);
      past = t.1.past ∙ ap (λ (p : LabPlan). events_from_opening p steps) (sym t.0);
    }

-- the lab keeps the commands that were in hand
pub kept_in : (w old new : WorldView) (x : LabView) (room : ℕ) → 64 ≤ room → room ≡ room_for w.plan 0 → old ≡ record w { kept = record { room = room; events = []; whole = true } }
    → Finishes 32 old new → ((j : ℕ) → IsJob new.plan j → drinking new.state j ≢ Reaching) → x ≡ lab_in new → IsKeptIn w x
kept_in w old new x room wide much start fin none is =
    subst (IsKeptIn w) (sym is) (record {
      acts = fin.acts;
      are_acts = fin.are_acts;
      same_plan = same;
      none_in_hand = none;
      opening = fin.goes_on.same_opening ∙ ap (λ (v : WorldView). v.opening) start;
      past = fin.goes_on.past ∙ ap (λ (v : WorldView). v.past ++ fin.acts) start;
      kept = ap (λ (k : TapeView). k.events) kept;
      whole = ap (λ (k : TapeView). k.whole) kept;
      room = subst (λ (k : ℕ). room_for new.plan 0 ≤ k) (sym (ap (λ (k : TapeView). k.room) kept))
          (subst (λ (p : LabPlan). room_for p 0 ≤ room) (sym same) (omega (arith, much)));
      clocks = refl;
      line = refl;
    })
  where
    same : new.plan ≡ w.plan
    same = fin.same_plan ∙ ap (λ (v : WorldView). v.plan) start

    enough : (n room : ℕ) → n ≤ 32 → 64 ≤ room → 0 + n ≤ room
    enough n room h k = omega (arith, h, k)

    kept : new.kept ≡ record { room = room; events = fin.acts; whole = true }
    kept = fin.goes_on.kept ∙ (ap (λ (v : WorldView). after_kept v.kept fin.acts) start ∙ few_kept room [] fin.acts (enough (length fin.acts) room fin.few wide))

-- both together
pub resumed : (journal text : List ℕ) (n : ℕ) (w : WorldView) (x : LabView) → AreWholeLines journal n → text ≡ take n journal → IsReplayed text w → IsKeptIn w x
    → IsReachedBy x.world.plan x.world.opening x.world.past x.world.state x.world.counts → IsResumed journal n x
resumed journal text n w x lines is re kept by = record {
  lines = lines;
  steps = re.steps;
  means = subst (λ (z : List ℕ × LabPlan). JournalMeans z.0 z.1 re.steps) (λ i. (is i, sym kept.same_plan i)) re.means;
  sums = subst (λ (l : List ℕ). wrong_sum l ≡ None) is re.sums;
  acts = kept.acts;
  are_acts = kept.are_acts;
  none_in_hand = kept.none_in_hand;
  opening = kept.opening ∙ (re.opening ∙ ap the_opening (sym kept.same_plan));
  past = kept.past ∙ ap (λ (l : List Event). l ++ kept.acts) (re.past ∙ ap (λ (p : LabPlan). events_from_opening p re.steps) (sym kept.same_plan));
  reached = by;
  kept = kept.kept;
  whole = kept.whole;
  room = kept.room;
  clocks = kept.clocks;
  line = kept.line;
}
