-- Jobs that are passed over because they aren't in the set.
use Rattle.std.proofs.Common.{◌≡◌, ◌≢◌, ℕ, ◌<◌, ◌≤◌, false, if◌then◌else◌, List, Option, Some, None, ap, sym, ◌∙◌, inl, inr, arith}
use Rattle.std.proofs.lemmas.Bool.{cases_lt, false≢true}
use Rattle.lab_plan.specs.InstrumentSets.{holds}
use Rattle.late_thirst.specs.declared.asker.Asker.{Asker}
use Rattle.late_thirst.specs.declared.asker.Reason.{Reason}
use Rattle.late_thirst.specs.Outside.{place, passed_by, passed_at, IsFirst}
use Rattle.late_thirst.proofs.Passing.{ArePassedTo}

-- no job from n up to m is in the set
abbrev pub NoneOf : ℕ → ℕ → ℕ → Type 0
NoneOf set n m = (k : ℕ) → n ≤ k → k < m → holds set k ≡ false

pub still_first : (reason : Reason) (ready : ℕ) (places : List (Option Asker)) (n m : ℕ) (o : Option ℕ) → n ≤ m → NoneOf ready n m
    → IsFirst reason ready places n o → IsFirst reason ready places m o
still_first reason ready places n m (Some j) up none x = (
  (let a = x.0 in omega (arith, a, up)),
  x.1,
  λ k under due. elim (cases_lt k n) [ inl low ↦ x.2 k low due | inr high ↦ absurd (false≢true (sym (none k high under) ∙ due.0)) ],
)
still_first reason ready places n m None up none x =
    λ k under due. elim (cases_lt k n) [ inl low ↦ x k low due | inr high ↦ absurd (false≢true (sym (none k high under) ∙ due.0)) ]

unpassed : (most ready needs j : ℕ) (o : Option Asker) → holds ready j ≡ false → o ≡ passed_at most ready needs j o
unpassed most ready needs j o out = sym (ap (λ b. if b then passed_by most needs o else o) out)

pub still_passed : (most ready needs k : ℕ) (old : List (Option Asker)) (n m : ℕ) (new : List (Option Asker)) → n ≤ m → NoneOf ready n m
    → ArePassedTo most ready needs k old n new → ArePassedTo most ready needs k old m new
still_passed most ready needs k old n m new up none x = record {
  as_many = x.as_many;
  inside = x.inside;
  done = λ j under out. elim (cases_lt j n) [
    | inl low ↦ x.done j low out
    | inr high ↦ x.left j high out ∙ unpassed most ready needs j (place old j) (none j high under)
  ];
  left = λ j above out. x.left j (omega (arith, above, up)) out;
}
