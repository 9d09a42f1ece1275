-- Who asks, job after job.
use Rattle.std.proofs.Common.{◌≡◌, ℕ, ◌+◌, ◌<◌, ◌≤◌, min, Option, length, sym, ◌∙◌, subst, inl, inr, arith}
use Rattle.std.proofs.lemmas.Bool.{cases_eq}
use Rattle.interleaving.specs.World.{WorldView}
use Rattle.late_thirst.specs.declared.asker.Asker.{Asker}
use Rattle.late_thirst.specs.Outside.{LineView, place}
use Rattle.live_lab.specs.Admitting.{IsPlaceThen, Attends, Asks}

-- those of the first n jobs are done
pub record AskedTo (waiting : ℕ) (w : WorldView) (old : LineView) (n : ℕ) (new : LineView) : Type 0 where
  pub as_many : length new.places ≡ length old.places
  pub calls : new.calls ≡ min (old.calls + 1) 18446744073709551615
  pub most : new.most ≡ old.most
  pub done : (j : ℕ) → j < n → IsPlaceThen waiting w new.calls j (place old.places j) (place new.places j)
  pub left : (j : ℕ) → n ≤ j → place new.places j ≡ place old.places j

pub one_more : (waiting : ℕ) (w : WorldView) (old : LineView) (n : ℕ) (mid new : LineView) → Attends waiting w n mid new → AskedTo waiting w old n mid
    → AskedTo waiting w old (n + 1) new
one_more waiting w old n mid new a x = record {
  as_many = a.as_many ∙ x.as_many;
  calls = a.calls ∙ x.calls;
  most = a.most ∙ x.most;
  done = λ j below. elim (cases_eq j n) [
    | inl same ↦ subst (λ i. IsPlaceThen waiting w new.calls i (place old.places i) (place new.places i)) (sym same)
        (subst (λ (z : ℕ × Option Asker). IsPlaceThen waiting w z.0 n z.1 (place new.places n)) (λ i. (sym a.calls i, x.left n (omega arith) i)) a.here)
    | inr other ↦ subst (λ (z : ℕ × Option Asker). IsPlaceThen waiting w z.0 j (place old.places j) z.1) (λ i. (sym a.calls i, sym (a.others j other) i))
        (x.done j (omega (arith, below, other)))
  ];
  left = λ j above. a.others j (λ is. omega (arith, above, is)) ∙ x.left j (omega (arith, above));
}

pub all_asked : (waiting : ℕ) (w : WorldView) (old new : LineView) → AskedTo waiting w old (length w.plan.jobs) new → Asks waiting w old new
all_asked waiting w old new x = record { as_many = x.as_many; calls = x.calls; most = x.most; each = x.done }
