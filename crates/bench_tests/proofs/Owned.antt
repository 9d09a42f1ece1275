-- The desks of a bench stay its desks.
use Rattle.std.proofs.Common.{◌≡◌, ℕ, zero, suc, List, [], ◌∷◌, ◌++◌, length, slice_index_or, refl, sym, ap, ◌∙◌, subst}
use Rattle.lab_plan.specs.LabPlan.{LabPlan}
use Rattle.turns.specs.Lists.{Each}
use Rattle.edge_rule.specs.DeskView.{DeskView, BenchView, Owns, fresh_desk, fresh_desks}
use Rattle.session_layer.specs.declared.turning.Turned.{Turned}
use Rattle.session_layer.specs.Turn.{Took}
use Rattle.session_layer.proofs.Grows as grows
use Rattle.workers.proofs.Pairs.{pairs_each}
use Rattle.desk_user.specs.Use.{Keeps}
use Rattle.workers.specs.declared.halt.Halt.{Halt}
use Rattle.workers.specs.Team.{TookUpTo, Worked}
use Rattle.workers.proofs.TeamTurns.{took_owns, took_up_to}
use Rattle.workers.specs.Driven.{TookRest}

-- a turn leaves the bench and the plan
pub took_owned : (b : BenchView) (d : DeskView) (r : Turned) (d' : DeskView) → Owns b d → Took d r d' → Owns b d'
took_owned b d r d' own t = let n = grows.one_turn d r d' t in (n.grew.table ∙ own.0, n.grew.plan ∙ own.1)

each-append : (P : DeskView → Type 0) (a b : List DeskView) → Each P a → Each P b → Each P (a ++ b)
each-append P [] b p q = q
each-append P (x ∷ a) b p q = (p.0, each-append P a b p.1 q)

fresh_owned : (b : BenchView) (n : ℕ) → Each (Owns b) (fresh_desks b.table b.plan n)
fresh_owned b zero = tt
fresh_owned b (suc n) = each-append (Owns b) (fresh_desks b.table b.plan n) (fresh_desk b.table b.plan n ∷ []) (fresh_owned b n) ((refl, refl), tt)

-- the desks that a bench opens with are its own
pub opened_owned : (b : BenchView) (plan : LabPlan) (desks : List DeskView) → b.plan ≡ plan
    → desks ≡ fresh_desks b.table plan (length plan.jobs) → Each (Owns b) desks
opened_owned b plan desks is are =
    subst (Each (Owns b)) (sym (are ∙ ap (λ (p : LabPlan). fresh_desks b.table p (length plan.jobs)) (sym is))) (fresh_owned b (length plan.jobs))

-- what holds of each holds of the last, and of those before it
pub each_last : (P : DeskView → Type 0) (a : List DeskView) (x : DeskView) → Each P (a ++ x ∷ []) → Each P a × P x
each_last P [] x p = (tt, p.0)
each_last P (y ∷ a) x p = let q = each_last P a x p.1 in ((p.0, q.0), q.1)

-- so do turns that were left
pub rest_owned : (b : BenchView) (n : ℕ) (old new : List DeskView) → TookRest n old new → Each (Owns b) old → Each (Owns b) new
rest_owned b n old new rest own = pairs_each (TookUpTo n) (Owns b) (Owns b) (λ d e t o. took_owns b t.0 d e t.2 o) old new rest.took own

-- and the desks of both parts are all of them
pub both_owned : (b : BenchView) (front back : List DeskView) → Each (Owns b) front → Each (Owns b) back → Each (Owns b) (front ++ back)
both_owned b front back p q = each-append (Owns b) front back p q

-- a desk that is a team of its own stays its bench's, and its job's
pub one_kept : (b : BenchView) (turns : ℕ) (d : DeskView) (r : Halt) (new : List DeskView) → Worked turns (d ∷ []) r new → Owns b d
    → Keeps b d (slice_index_or new 0 d)
one_kept b turns d r [] w own = absurd (took_up_to turns (d ∷ []) [] r w)
one_kept b turns d r (e ∷ new) w own =
    let t = (took_up_to turns (d ∷ []) (e ∷ new) r w).0 in (took_owns b t.0 d e t.2 own, t.2.grew.job)
