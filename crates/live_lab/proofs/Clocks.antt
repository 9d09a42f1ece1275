-- Turns that are counted job by job.
use Rattle.std.proofs.Common.{◌≡◌, ◌⊎◌, ℕ, ◌+◌, ◌≤◌, ◌<◌, Bool, true, false, ◌||◌, if◌then◌else◌, List, length, set, slice_index_or, get_or-set_same, get_or-set_other, length-set, refl, sym, ap, ◌∙◌, subst, inl, inr, arith}
use Rattle.std.proofs.lemmas.Bool.{cases_eq, false≢true}
use Rattle.lab_plan.specs.LabPlan.{LabPlan}
use Rattle.lab_plan.specs.InstrumentSets.{holds}
use Rattle.legal_steps.specs.declared.phase.JobState.{JobState}
use Rattle.legal_steps.specs.State.{phase, drinking}
use Rattle.legal_steps.specs.Legal.{IsJob}
use Rattle.interleaving.specs.World.{WorldView}
use Rattle.turns.specs.Patience.{is_waiting}
use Rattle.late_thirst.specs.Outside.{LineView}
use Rattle.live_lab.specs.declared.clock.Clock.{Clock}
use Rattle.live_lab.specs.Clocks.{no_clock, after_turn}
use Rattle.live_lab.specs.Sets.{AreJobs}
use Rattle.live_lab.specs.Counting.{AreTurnsCounted}
use Rattle.live_lab.specs.Settles.{AreCounted}
use Rattle.live_lab.proofs.Bits.{same_test, holds_has, has_holds}

abbrev pub at : List Clock → ℕ → Clock
at clocks j = slice_index_or clocks j no_clock

-- what a job's clock becomes
abbrev pub clock_then : WorldView → ℕ → ℕ → List Clock → ℕ → Clock
clock_then w waiting thirsty old j = if holds waiting j || holds thirsty j then after_turn (holds thirsty j) (phase w.state j) (at old j) else at old j

-- those of the first n jobs are done
pub record IsCountedTo (w : WorldView) (waiting thirsty : ℕ) (old : List Clock) (n : ℕ) (new : List Clock) : Type 0 where
  pub as_many : length new ≡ length old
  pub done : (j : ℕ) → j < n → at new j ≡ clock_then w waiting thirsty old j
  pub left : (j : ℕ) → n ≤ j → at new j ≡ at old j

pub one_counted : (w : WorldView) (waiting thirsty : ℕ) (old : List Clock) (n : ℕ) (mid : List Clock) (x : Clock) → n < length mid
    → x ≡ clock_then w waiting thirsty old n → IsCountedTo w waiting thirsty old n mid → IsCountedTo w waiting thirsty old (n + 1) (set mid n x)
one_counted w waiting thirsty old n mid x inside is c = record {
  as_many = length-set mid n x ∙ c.as_many;
  done = λ j below. elim (cases_eq j n) [
    | inl same ↦ subst (λ k. at (set mid n x) k ≡ clock_then w waiting thirsty old k) (sym same) (get_or-set_same mid n x no_clock inside ∙ is)
    | inr other ↦ get_or-set_other mid n j x no_clock other ∙ c.done j (omega (arith, below, other))
  ];
  left = λ j above. get_or-set_other mid n j x no_clock (λ is. omega (arith, above, is)) ∙ c.left j (omega (arith, above));
}

either : (a b : Bool) → (a ≡ true) ⊎ (b ≡ true) → (a || b) ≡ true
either true b h = refl
either false b (inl h) = absurd (false≢true h)
either false b (inr h) = h

neither : (a b : Bool) → a ≡ false → b ≡ false → (a || b) ≡ false
neither a b f g = (λ i. f i || b) ∙ g

-- the clock of a job that is counted
pub goes_on : (w : WorldView) (waiting thirsty : ℕ) (old : List Clock) (n : ℕ) (mid x : Clock) (a : Bool) (p : JobState) → mid ≡ at old n → a ≡ holds thirsty n
    → p ≡ phase w.state n → (holds waiting n ≡ true) ⊎ (holds thirsty n ≡ true) → x ≡ after_turn a p mid → x ≡ clock_then w waiting thirsty old n
goes_on w waiting thirsty old n mid x a p left thirst there counts is =
    let go : Clock = after_turn (holds thirsty n) (phase w.state n) (at old n) in
    is ∙ ((λ i. after_turn (thirst i) (there i) (left i))
    ∙ sym (ap (λ (b : Bool). if b then go else at old n) (either (holds waiting n) (holds thirsty n) counts)))

-- and of one that isn't
pub stays : (w : WorldView) (waiting thirsty : ℕ) (old : List Clock) (n : ℕ) → holds waiting n ≡ false → holds thirsty n ≡ false
    → at old n ≡ clock_then w waiting thirsty old n
stays w waiting thirsty old n f g =
    let go : Clock = after_turn (holds thirsty n) (phase w.state n) (at old n) in
    sym (ap (λ (b : Bool). if b then go else at old n) (neither (holds waiting n) (holds thirsty n) f g))

-- who was thirsty is told by the set of those who were
pub are_counted : (w new : WorldView) (waiting thirsty : ℕ) (old after : List Clock) → new.plan ≡ w.plan
    → AreJobs w.plan thirsty (λ j. is_waiting (drinking w.state j) ≡ true) → AreTurnsCounted new waiting thirsty old after
    → (line line' : LineView) → AreCounted waiting (record { world = w; clocks = old; line = line }) (record { world = new; clocks = after; line = line' })
are_counted w new waiting thirsty old after same set c line line' = record {
  as_many = c.as_many;
  each = λ j job.
      let was = set.just j job in
      let b : holds thirsty j ≡ is_waiting (drinking w.state j) = same_test (holds thirsty j) (is_waiting (drinking w.state j))
      (λ h. was.0 (holds_has thirsty j h)) (λ h. has_holds thirsty j (was.1 h)) in
      c.each j (subst (λ (p : LabPlan). IsJob p j) (sym same) job)
      ∙ (λ i. if holds waiting j || b i then after_turn (b i) (phase new.state j) (at old j) else at old j);
}
