-- No two jobs hold one instrument.
use Rattle.std.proofs.Common.{◌≡◌, ℕ, ◌<◌, true, arith, sym, subst, ap, ◌∙◌, inl, inr}
use Rattle.std.proofs.lemmas.Bool.{cases_eq, cases_lt}
use Rattle.lab_plan.specs.LabPlan.{LabPlan, session_names}
use Rattle.lab_plan.specs.IsPlan.{IsPlan, IsNamed}
use Rattle.lab_plan.proofs.Shared.{session_shared}
use Rattle.legal_steps.specs.State.{State, session, IsOwn}
use Rattle.legal_steps.specs.Holding.{Holds, IsExclusive}
use Rattle.legal_steps.proofs.ForkEnds.{one_at_end}
use Rattle.legal_steps.proofs.BottleLaw.{IsServed}

-- two jobs that hold one instrument would have its bottle at both ends of their edge
conflict : (plan : LabPlan) (s : State) (a b i : ℕ) → IsNamed plan → IsServed plan s → a < b → Holds plan s a i → Holds plan s b i → ⊥
conflict plan s a b i named h below ha hb =
    let w = session_shared plan a b (session s a) (session s b) i named below ha.named hb.named in
    let own_a : IsOwn plan a w.0 = record { is_edge = w.1; at_end = inl (ap (λ p. p.0) w.2) } in
    let own_b : IsOwn plan b w.0 = record { is_edge = w.1; at_end = inr (ap (λ p. p.1) w.2) } in
    let at_a = h.drinks a w.0 w.3 own_a w.4 ha.drinks (subst (λ n. session_names plan a (session s a) n ≡ true) (sym w.5) ha.named) in
    let at_b = h.drinks b w.0 w.3 own_b w.4 hb.drinks (subst (λ n. session_names plan b (session s b) n ≡ true) (sym w.5) hb.named) in
    let same = one_at_end plan a b w.0 own_a own_b (sym at_a ∙ at_b) in
    omega (arith, same, below)

pub exclusive_if_named : (plan : LabPlan) (s : State) → IsNamed plan → IsServed plan s → IsExclusive plan s
exclusive_if_named plan s named h a b i ha hb = elim (cases_eq a b) [
  | inl same ↦ same
  | inr other ↦ elim (cases_lt a b) [
    | inl below ↦ absurd (conflict plan s a b i named h below ha hb)
    | inr above ↦ absurd (conflict plan s b a i named h (omega (arith, other, above)) hb ha)
  ]
]

pub exclusive : (plan : LabPlan) (s : State) → IsPlan plan → IsServed plan s → IsExclusive plan s
exclusive plan s is_plan h = exclusive_if_named plan s is_plan.draft.named h
