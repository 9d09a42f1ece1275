-- Jobs that are passed over because they aren't in a set.
use Rattle.std.proofs.Common.{◌≡◌, ℕ, ◌^◌, ◌<◌, ◌≤◌, bit_or, false, Option, None, List, length, refl, sym, ◌∙◌, subst, inl, inr, arith}
use Rattle.std.specs.Int.{bit_at}
use Rattle.std.proofs.Math.Nat.{pow-le-pow_right}
use Rattle.std.proofs.lemmas.Bool.{cases_lt, cases_Bool, false≢true}
use Rattle.std.proofs.lemmas.Nat.Bits.{bit_at_above}
use Rattle.lab_plan.specs.IsPlan.{IsPlan}
use Rattle.lab_plan.specs.LabPlan.{LabPlan}
use Rattle.lab_plan.specs.InstrumentSets.{holds}
use Rattle.lab_plan.proofs.Gathered.{Gathered}
use Rattle.legal_steps.specs.State.{Has}
use Rattle.interleaving.specs.World.{WorldView}
use Rattle.late_thirst.specs.declared.asker.Asker.{Asker}
use Rattle.late_thirst.specs.Outside.{LineView, place, AreOutside}
use Rattle.late_thirst.specs.Lines.{counted}
use Rattle.live_lab.specs.Sets.{AreJobs}
use Rattle.live_lab.specs.declared.clock.Clock.{Clock}
use Rattle.live_lab.specs.Counting.{AreTurnsCounted}
use Rattle.live_lab.proofs.Asked.{AskedTo}
use Rattle.live_lab.proofs.Bits.{lacks, either_in}
use Rattle.live_lab.proofs.BitsOf.{stays_out}
use Rattle.live_lab.proofs.Clocks.{IsCountedTo, stays}
use Rattle.live_lab.proofs.Told.{none_or_some}

-- no job from n up to m is in the set
abbrev pub NoneOf : ℕ → ℕ → ℕ → Type 0
NoneOf set n m = (k : ℕ) → n ≤ k → k < m → holds set k ≡ false

pub none_gathered : (P : ℕ → Type 0) → Gathered 0 0 P
none_gathered P = (omega arith, λ k below. absurd (omega (arith, below)))

higher : (set n m : ℕ) → n ≤ m → set < 2 ^ n → set < 2 ^ m
higher set n m up below = let more : 2 ^ n ≤ 2 ^ m = pow-le-pow_right (omega arith) up in omega (arith, more, below)

pub still_gathered : (set n m : ℕ) (P : ℕ → Type 0) → n ≤ m → ((k : ℕ) → n ≤ k → k < m → P k → ⊥) → Gathered set n P → Gathered set m P
still_gathered set n m P up none x = (
  higher set n m up x.0,
  λ k under. elim (cases_lt k n) [
    | inl low ↦ x.1 k low
    | inr high ↦ (
      λ h. let zero : bit_at set k ≡ 0 = bit_at_above set n k x.0 high in absurd (omega (arith, h, zero)),
      λ p. absurd (none k high under p),
    )
  ],
)

pub as_jobs : (plan : LabPlan) (set : ℕ) (P : ℕ → Type 0) → Gathered set (length plan.jobs) P → AreJobs plan set P
unfolding Has
as_jobs plan set P is = record { of_plan = is.0; just = is.1 }

-- who is in neither of two sets
left_out : (a b k : ℕ) → holds (bit_or a b) k ≡ false → holds a k ≡ false
left_out a b k out = elim (cases_Bool (holds a k)) [ inl h ↦ absurd (false≢true (sym out ∙ either_in a b k (inl h))) | inr h ↦ h ]

right_out : (a b k : ℕ) → holds (bit_or a b) k ≡ false → holds b k ≡ false
right_out a b k out = elim (cases_Bool (holds b k)) [ inl h ↦ absurd (false≢true (sym out ∙ either_in a b k (inr h))) | inr h ↦ h ]

not_outside : (places : List (Option Asker)) (outside k : ℕ) → AreOutside places outside → holds outside k ≡ false → place places k ≡ None
not_outside places outside k are out = elim (none_or_some (place places k)) [
  | inl none ↦ none
  | inr some ↦ absurd (false≢true (sym out ∙ (are k).1 some))
]

pub none_asked : (waiting : ℕ) (w : WorldView) (old mid : LineView) → mid ≡ counted old → AskedTo waiting w old 0 mid
none_asked waiting w old mid is = subst (λ (l : LineView). AskedTo waiting w old 0 l) (sym is) (record {
  as_many = refl;
  calls = refl;
  most = refl;
  done = λ j below. absurd (omega (arith, below));
  left = λ j above. refl;
})

pub still_asked : (waiting outside : ℕ) (w : WorldView) (old : LineView) (n m : ℕ) (new : LineView) → IsPlan w.plan → AreOutside old.places outside → n ≤ m
    → NoneOf (bit_or waiting outside) n m → AskedTo waiting w old n new → AskedTo waiting w old m new
still_asked waiting outside w old n m new is are up none x = record {
  as_many = x.as_many;
  calls = x.calls;
  most = x.most;
  done = λ j under. elim (cases_lt j n) [
    | inl low ↦ x.done j low
    | inr high ↦
        let out = none j high under in
        let before = not_outside old.places outside j are (right_out waiting outside j out) in
        stays_out waiting w new.calls j (place old.places j) (place new.places j) is (λ may. lacks waiting j (left_out waiting outside j out) may.0) before
        (x.left j high ∙ before)
  ];
  left = λ j above. x.left j (omega (arith, above, up));
}

pub none_counted : (w : WorldView) (waiting thirsty : ℕ) (old : List Clock) → IsCountedTo w waiting thirsty old 0 old
none_counted w waiting thirsty old = record { as_many = refl; done = λ j below. absurd (omega (arith, below)); left = λ j above. refl }

pub still_counted : (w : WorldView) (waiting thirsty : ℕ) (old : List Clock) (n m : ℕ) (new : List Clock) → n ≤ m → NoneOf (bit_or waiting thirsty) n m
    → IsCountedTo w waiting thirsty old n new → IsCountedTo w waiting thirsty old m new
still_counted w waiting thirsty old n m new up none x = record {
  as_many = x.as_many;
  done = λ j under. elim (cases_lt j n) [
    | inl low ↦ x.done j low
    | inr high ↦ let out = none j high under in x.left j high ∙ stays w waiting thirsty old j (left_out waiting thirsty j out) (right_out waiting thirsty j out)
  ];
  left = λ j above. x.left j (omega (arith, above, up));
}

pub all_counted : (w : WorldView) (waiting thirsty : ℕ) (old new : List Clock) → IsCountedTo w waiting thirsty old (length w.plan.jobs) new
    → AreTurnsCounted w waiting thirsty old new
all_counted w waiting thirsty old new x = record { as_many = x.as_many; each = x.done }
