-- The ends of an edge, and the jobs that sit there.
use Rattle.std.proofs.Common.{◌≡◌, ℕ, ◌<◌, length, arith, refl, inl, inr}
use Rattle.std.proofs.lemmas.Bool.{cases_eq}
use Rattle.lab_plan.specs.LabPlan.{LabPlan, edges, ends}
use Rattle.lab_plan.proofs.Edges.{ends_are_pair}
use Rattle.legal_steps.specs.declared.end.End.{End}
use Rattle.legal_steps.specs.declared.end.End.TheVariants.{Lower, Higher}
use Rattle.legal_steps.specs.State.{IsOwn, end_of, opposite, job_at_end}

-- two jobs at one end of an edge are one
pub one_at_end : (plan : LabPlan) (j k e : ℕ) → IsOwn plan j e → IsOwn plan k e → end_of plan j e ≡ end_of plan k e → j ≡ k
one_at_end plan j k e own other same = let pair = ends_are_pair plan e own.is_edge in grind (arith, own.at_end, other.at_end, pair)

pub at_own : (plan : LabPlan) (j e : ℕ) → IsOwn plan j e → job_at_end plan e (end_of plan j e) ≡ j
at_own plan j e own =
    let pair = ends_are_pair plan e own.is_edge in
    elim (cases_eq (ends plan e).0 j) [ inl same ↦ grind (arith, same, own.at_end, pair) | inr other ↦ grind (arith, other, own.at_end, pair) ]

pub own_at : (plan : LabPlan) (e : ℕ) (x : End) → e < length (edges plan) → IsOwn plan (job_at_end plan e x) e
own_at plan e Lower h = record { is_edge = h; at_end = inl refl }
own_at plan e Higher h = record { is_edge = h; at_end = inr refl }

pub end_at : (plan : LabPlan) (e : ℕ) (x : End) → e < length (edges plan) → end_of plan (job_at_end plan e x) e ≡ x
end_at plan e Lower h = let pair = ends_are_pair plan e h in grind (arith, pair)
end_at plan e Higher h = let pair = ends_are_pair plan e h in grind (arith, pair)

pub not_opposite : (x : End) → opposite x ≡ x → ⊥
not_opposite Lower h = cc
not_opposite Higher h = cc

pub opposite_twice : (x : End) → opposite (opposite x) ≡ x
opposite_twice Lower = refl
opposite_twice Higher = refl
