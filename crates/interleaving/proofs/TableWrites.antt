-- What the tables are after one edge or one seat is written, as their callers see it.
use Rattle.std.proofs.Common.{◌≡◌, ℕ, ◌∙◌, sym, ap, subst}
use Rattle.lab_plan.specs.LabPlan.{LabPlan}
use Rattle.legal_steps.specs.declared.edge_state.EdgeState.{EdgeState}
use Rattle.legal_steps.specs.State.{State, Seat, Setting, seat}
use Rattle.legal_steps.specs.Legal.{with_edge, with_seat}

-- what callers know of the plan and a number, of the plan inside and the number as it is kept
pub of_inside : (P : LabPlan → ℕ → Type 0) (w : Setting) (plan : LabPlan) (s : State) (k n : ℕ)
    → record { plan = plan; state = s } ≡ w → k ≡ n → P w.plan n → P plan k
of_inside P w plan s k n view same h = subst (λ p. P p k) (sym (ap (λ (x : Setting). x.plan) view)) (subst (P w.plan) (sym same) h)

pub edge_written : (w : Setting) (plan : LabPlan) (s : State) (k e : ℕ) (x : EdgeState)
    → record { plan = plan; state = s } ≡ w → k ≡ e → with_edge s k x ≡ with_edge w.state e x
edge_written w plan s k e x view same = ap (λ (y : Setting). with_edge y.state k x) view ∙ ap (λ n. with_edge w.state n x) same

-- F is what becomes of the seat, by an edge
pub seat_written : (F : ℕ → Seat → Seat) (w : Setting) (plan : LabPlan) (s : State) (k j i e : ℕ) (x : Seat)
    → record { plan = plan; state = s } ≡ w → k ≡ j → i ≡ e → x ≡ F i (seat s k)
    → with_seat s k x ≡ with_seat w.state j (F e (seat w.state j))
seat_written F w plan s k j i e x view job edge is =
    ap (with_seat s k) is ∙ (ap (λ (y : Setting). with_seat y.state k (F i (seat y.state k))) view
    ∙ (ap (λ n. with_seat w.state n (F i (seat w.state n))) job ∙ ap (λ n. with_seat w.state j (F n (seat w.state j))) edge))
