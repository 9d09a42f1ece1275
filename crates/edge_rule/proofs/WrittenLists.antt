-- Lists by edge number that are written at the own edges alone.
use Rattle.std.proofs.Common.{◌≡◌, ℕ, zero, suc, List, [], ◌∷◌, ◌++◌, length, get_or, set, replicate, refl, sym, ◌∙◌, subst, inl, inr, arith, length-set, get_or-set_other}
use Rattle.std.proofs.lemmas.Bool.{cases_eq}
use Rattle.std.proofs.lemmas.List.{ext_get_or, get_or-replicate, length-replicate}
use Rattle.lab_plan.specs.LabPlan.{LabPlan, edges_of}
use Rattle.legal_steps.specs.State.{IsOwn}
use Rattle.legal_steps.proofs.OwnEdges.{In, own_edge_in}
use Rattle.edge_rule.specs.CalmEdges.{written_at}

pub written_more : {X : Type 0} (es : List ℕ) (e : ℕ) (x : X) (l : List X) → written_at (es ++ e ∷ []) x l ≡ set (written_at es x l) e x
written_more [] e x l = refl
written_more (k ∷ es) e x l = written_more es e x (set l k x)

pub written_as_long : {X : Type 0} (es : List ℕ) (x : X) (l : List X) → length (written_at es x l) ≡ length l
written_as_long [] x l = refl
written_as_long (k ∷ es) x l = written_as_long es x (set l k x) ∙ length-set l k x

set_reads : {X : Type 0} (l : List X) (k : ℕ) (x : X) → get_or (set l k x) k x ≡ x
set_reads [] k x = refl
set_reads (y ∷ l) zero x = refl
set_reads (y ∷ l) (suc k) x = set_reads l k x

-- a place that isn't listed had x before
written : {X : Type 0} (es : List ℕ) (x : X) (l : List X) (e : ℕ) → (¬ In e es → get_or l e x ≡ x) → get_or (written_at es x l) e x ≡ x
written [] x l e was = was (λ none. none)
written (k ∷ es) x l e was = written es x (set l k x) e (λ others. elim (cases_eq e k) [
  | inl here ↦ subst (λ f. get_or (set l k x) f x ≡ x) (sym here) (set_reads l k x)
  | inr other ↦ get_or-set_other l k e x x other ∙ was (λ listed. elim listed [ inl is ↦ other (sym is) | inr later ↦ others later ])
])

-- where only own edges have another, to write x at these is to write it everywhere
pub all_written : {X : Type 0} (plan : LabPlan) (j : ℕ) (own : List ℕ) (x : X) (l : List X) → own ≡ edges_of plan j
    → ((e : ℕ) → ¬ IsOwn plan j e → get_or l e x ≡ x) → written_at own x l ≡ replicate (length l) x
all_written plan j own x l listed elsewhere = ext_get_or x (written_at own x l) (replicate (length l) x)
    (written_as_long own x l ∙ sym (length-replicate (length l) x))
    (λ e inside. written own x l e (λ others. elsewhere e (λ is. others (subst (In e) (sym listed) (own_edge_in plan j e is))))
    ∙ sym (get_or-replicate (length l) e x x (let n = written_as_long own x l in omega arith)))
