-- The desks of a bench that was just opened.
use Rattle.std.proofs.Common.{◌≡◌, ℕ, zero, suc, ◌<◌, ◌⊎◌, inl, inr, List, [], ◌∷◌, ◌++◌, length, take, drop, arith, refl, sym, ap, ◌∙◌, subst}
use Rattle.atomic_table.specs.Seated.{TableId}
use Rattle.lab_plan.specs.LabPlan.{LabPlan}
use Rattle.turns.specs.Lists.{Each}
use Rattle.turns.specs.Patience.{no_wait}
use Rattle.turns.proofs.Runs.{each-append}
use Rattle.edge_rule.specs.DeskView.{DeskView, BenchView, Owns, fresh_desk, fresh_desks}
use Rattle.edge_rule.specs.Company.{jobs_of, Distinct}
use Rattle.edge_rule.specs.Ending.{Any, HasAll}
use Rattle.rounds.specs.Rounds.{Player}
use Rattle.rounds.proofs.Lists.{jobs_played}
use Rattle.rounds.proofs.Driven.{all_of, same_length}
use Rattle.rounds.specs.FromOpening.{opened, fresh_players}
use Rattle.rounds.specs.QuietEnd.{jobs_in}
use Rattle.rounds.proofs.Opened.{players_fresh, all_players, players_once}

-- ---- lists

any_end : {A : Type 0} (P : A → Type 0) (l : List A) (x : A) → Any P (l ++ x ∷ []) → Any P l ⊎ P x
any_end P [] x any = elim any [ inl here ↦ inr here | inr none ↦ absurd none ]
any_end P (y ∷ l) x any = elim any [
  | inl here ↦ inl (inl here)
  | inr later ↦ elim (any_end P l x later) [ inl before ↦ inl (inr before) | inr last ↦ inr last ]
]

-- what holds of each holds of one that is found
pub each_any : (P Q : DeskView → Type 0) (desks : List DeskView) → Each P desks → Any Q desks → (d : DeskView) × P d × Q d
each_any P Q [] each any = absurd any
each_any P Q (d ∷ desks) (here, later) any = elim any [ inl found ↦ (d, here, found) | inr found ↦ each_any P Q desks later found ]

-- ---- desks

-- a desk of those that a bench opened with
pub fresh_one : (t : TableId) (plan : LabPlan) (n : ℕ) (P : DeskView → Type 0) → Any P (fresh_desks t plan n) → (k : ℕ) × P (fresh_desk t plan k)
fresh_one t plan zero P any = absurd any
fresh_one t plan (suc n) P any = elim (any_end P (fresh_desks t plan n) (fresh_desk t plan n) any) [
  | inl before ↦ fresh_one t plan n P before
  | inr here ↦ (n, here)
]

fresh_own : (b : BenchView) (n : ℕ) → Each (Owns b) (fresh_desks b.table b.plan n)
fresh_own b zero = tt
fresh_own b (suc n) = each-append (Owns b) (fresh_desks b.table b.plan n) (fresh_desk b.table b.plan n ∷ []) (fresh_own b n) ((refl, refl), tt)

-- the desks are of their bench
pub opened_own : (b : BenchView) → Each (Owns b) (opened b)
opened_own b = fresh_own b (length b.plan.jobs)

job_found : (j : ℕ) (l : List DeskView) → Any (λ (i : ℕ). i ≡ j) (jobs_of l) → Any (λ (d : DeskView). d.job ≡ j) l
job_found j [] any = absurd any
job_found j (d ∷ l) (inl h) = inl h
job_found j (d ∷ l) (inr h) = inr (job_found j l h)

-- each job has one
pub opened_all : (b : BenchView) → HasAll b.plan (opened b)
opened_all b =
    let jobs : jobs_in (fresh_players (length b.plan.jobs)) ≡ jobs_of (opened b) =
    ap jobs_in (sym (players_fresh b.table b.plan (length b.plan.jobs))) ∙ jobs_played (opened b) in
    record {
      every = λ j inside. job_found j (opened b) (subst (Any (λ (i : ℕ). i ≡ j)) jobs (all_players b.plan j inside));
      once = subst Distinct jobs (players_once b.plan);
    }

-- ---- players

any_before : {A : Type 0} (P : A → Type 0) (l : List A) (x : A) → Any P l ⊎ P x → Any P (l ++ x ∷ [])
any_before P [] x (inl none) = absurd none
any_before P [] x (inr here) = inl here
any_before P (y ∷ l) x (inl (inl here)) = inl here
any_before P (y ∷ l) x (inl (inr later)) = inr (any_before P l x (inl later))
any_before P (y ∷ l) x (inr here) = inr (any_before P l x (inr here))

-- each job plays, and hasn't waited
pub fresh_player : (n j : ℕ) → j < n → Any (λ (x : Player). (x.job ≡ j) × (x.waited ≡ no_wait)) (fresh_players n)
fresh_player zero j less = absurd (omega (arith, less))
fresh_player (suc n) j less =
    any_before (λ (x : Player). (x.job ≡ j) × (x.waited ≡ no_wait)) (fresh_players n) _
    (elim (cases n j less) [ inl is ↦ inr (sym is, refl) | inr before ↦ inl (fresh_player n j before) ]) where
      cases : (n j : ℕ) → j < suc n → (j ≡ n) ⊎ (j < n)
      cases zero zero less = inl refl
      cases zero (suc j) less = absurd (omega (arith, less))
      cases (suc n) zero less = inr (omega arith)
      cases (suc n) (suc j) less = elim (cases n j (omega (arith, less))) [ inl is ↦ inl (ap suc is) | inr before ↦ inr (omega (arith, before)) ]

-- ---- after turns

-- desks of the same jobs are all desks
pub same_desks : (plan : LabPlan) (old new : List DeskView) → jobs_of new ≡ jobs_of old → HasAll plan old → HasAll plan new
same_desks plan old new same all = record {
  every = λ j inside. job_found j new (subst (Any (λ (i : ℕ). i ≡ j)) (sym same) (all_of plan old all j inside));
  once = subst Distinct (sym same) all.once;
}

take_front : {A : Type 0} (a b : List A) → take (length a) (a ++ b) ≡ a
take_front [] b = refl
take_front (x ∷ a) b = ap (λ l. x ∷ l) (take_front a b)

-- a slice that was lent whole, written back
pub written_back : (old new : List DeskView) (n : ℕ) → n ≡ length old → jobs_of new ≡ jobs_of old → take n (new ++ drop (length new) old) ≡ new
written_back old new n long same =
    ap (λ k. take k (new ++ drop (length new) old)) (long ∙ sym (same_length new old same)) ∙ take_front new (drop (length new) old)
