-- Desks stay at their bench.
use Rattle.std.proofs.Common.{◌≡◌, ◌≢◌, ◌⊎◌, ℕ, zero, suc, ◌+◌, ◌<◌, inl, inr, Bool, false, List, [], ◌∷◌, ◌++◌, length, get_or, refl, sym, ap, ◌∙◌, subst, arith, add-one}
use Rattle.std.proofs.lemmas.List.{map-append}
use Rattle.atomic_table.specs.Seated.{TableId}
use Rattle.lab_plan.specs.LabPlan.{LabPlan}
use Rattle.turns.specs.Lists.{Each}
use Rattle.turns.proofs.Runs.{each-append}
use Rattle.edge_rule.proofs.Rosters.{any_left, any_right}
use Rattle.edge_rule.specs.DeskView.{DeskView, BenchView, Owns, fresh_desk, fresh_desks}
use Rattle.edge_rule.specs.Company.{jobs_of, Distinct}
use Rattle.edge_rule.specs.Ending.{Any, HasAll}
use Rattle.session_layer.specs.declared.turning.Turned.{Turned}
use Rattle.session_layer.specs.Turn.{Took}
use Rattle.session_layer.specs.Grown.{TookTurns}
use Rattle.session_layer.specs.Retired.{Glanced, glances}
use Rattle.session_layer.proofs.Grows as grows
use Rattle.session_layer.proofs.Glances.{glances_none}
use Rattle.desk_user.specs.declared.until.Until.{Until}
use Rattle.desk_user.specs.Use.{opened, Keeps, TookUpTo, IsAt, TookBefore, Looked, TookBeforeAll}

-- ---- a desk's turns

pub turns_keep : (b : BenchView) (n : ℕ) (d e : DeskView) → Owns b d → TookTurns n d e → Keeps b d e
turns_keep b n d e own t = ((t.grew.table ∙ own.0, t.grew.plan ∙ own.1), t.grew.job)

pub turn_keeps : (b : BenchView) (d : DeskView) (r : Turned) (e : DeskView) → Owns b d → Took d r e → Keeps b d e
turn_keeps b d r e own t = turns_keep b 1 d e own (grows.one_turn d r e t)

pub took_none : (d : DeskView) → TookTurns 0 d d
took_none d = grows.glances_alone d d [] (grows.grew_none d) refl refl

pub took_more : (n : ℕ) (d m e : DeskView) (r : Turned) → TookTurns n d m → Took m r e → TookTurns (n + 1) d e
took_more n d m e r a t = grows.turns_go_on n 1 d m e a (grows.one_turn m r e t)

pub took_glanced : (d e : DeskView) (r : Bool) → Glanced d r e → TookTurns 0 d e
took_glanced d e r t = grows.glances_alone d e (glances d.job t.saw) t.grew (glances_none d.job t.saw) t.clock

none_more : (n : ℕ) → n + 0 ≡ n
none_more n = omega arith

-- what is no turn leaves their number
pub took_then : (n : ℕ) (d m e : DeskView) → TookTurns n d m → TookTurns 0 m e → TookTurns n d e
took_then n d m e a t = subst (λ k. TookTurns k d e) (none_more n) (grows.turns_go_on n 0 d m e a t)

pub none_taken : (d e : DeskView) → TookUpTo 0 d e → TookTurns 0 d e
none_taken d e t = let l = t.1 in let is : t.0 ≡ 0 = omega (arith, l) in subst (λ k. TookTurns k d e) is t.2

-- one turn more, before which the job had not come so far
pub before_more : (until : Until) (n : ℕ) (d m e : DeskView) (r : Turned) → TookBefore until n d m → (IsAt until m → ⊥) → Took m r e
    → TookBefore until (n + 1) d e
before_more until n d m e r a not t = subst (λ k. TookBefore until k d e) (sym (add-one n)) (m, a, not, r, t)

-- one turn more, before which the desk did not see all jobs retired
pub before_all_more : (n : ℕ) (d m k e : DeskView) (r : Turned) → TookBeforeAll n d m → Looked m false k → Took k r e → TookBeforeAll (n + 1) d e
before_all_more n d m k e r a looked t = subst (λ i. TookBeforeAll i d e) (sym (add-one n)) (m, a, k, looked, r, t)

-- ---- the desks that a bench opens with

fresh_own : (b : BenchView) (n : ℕ) → Each (Owns b) (fresh_desks b.table b.plan n)
fresh_own b zero = tt
fresh_own b (suc n) = each-append (Owns b) (fresh_desks b.table b.plan n) (fresh_desk b.table b.plan n ∷ []) (fresh_own b n) ((refl, refl), tt)

at_or_below : (n j : ℕ) → j < suc n → (n ≡ j) ⊎ (j < n)
at_or_below zero zero less = inl refl
at_or_below zero (suc j) less = absurd (omega (arith, less))
at_or_below (suc n) zero less = inr (omega arith)
at_or_below (suc n) (suc j) less = elim (at_or_below n j (omega (arith, less))) [ inl is ↦ inl (ap suc is) | inr before ↦ inr (omega (arith, before)) ]

fresh_each : (t : TableId) (plan : LabPlan) (n j : ℕ) → j < n → Any (λ (d : DeskView). d.job ≡ j) (fresh_desks t plan n)
fresh_each t plan zero j less = absurd (omega (arith, less))
fresh_each t plan (suc n) j less = elim (at_or_below n j less) [
  | inl is ↦ any_right (λ (d : DeskView). d.job ≡ j) (fresh_desks t plan n) (fresh_desk t plan n ∷ []) (inl is)
  | inr before ↦ any_left (λ (d : DeskView). d.job ≡ j) (fresh_desks t plan n) (fresh_desk t plan n ∷ []) (fresh_each t plan n j before)
]

each_map : (P Q : ℕ → Type 0) → ((k : ℕ) → P k → Q k) → (js : List ℕ) → Each P js → Each Q js
each_map P Q f [] e = tt
each_map P Q f (j ∷ js) e = (f j e.0, each_map P Q f js e.1)

distinct-snoc : (js : List ℕ) (n : ℕ) → Each (λ (k : ℕ). k < n) js → Distinct js → Distinct (js ++ n ∷ [])
distinct-snoc [] n less once = (tt, tt)
distinct-snoc (j ∷ js) n less once = (
  each-append (λ (k : ℕ). k ≢ j) js (n ∷ []) once.0 ((λ is. let l = less.0 in absurd (omega arith)), tt),
  distinct-snoc js n less.1 once.1,
)

jobs_snoc : (t : TableId) (plan : LabPlan) (n : ℕ) → jobs_of (fresh_desks t plan (suc n)) ≡ jobs_of (fresh_desks t plan n) ++ n ∷ []
jobs_snoc t plan n = map-append (λ (d : DeskView). d.job) (fresh_desks t plan n) (fresh_desk t plan n ∷ [])

fresh_less : (t : TableId) (plan : LabPlan) (n : ℕ) → Each (λ (k : ℕ). k < n) (jobs_of (fresh_desks t plan n))
fresh_less t plan zero = tt
fresh_less t plan (suc n) = subst (Each (λ (k : ℕ). k < suc n)) (sym (jobs_snoc t plan n))
    (each-append (λ (k : ℕ). k < suc n) (jobs_of (fresh_desks t plan n)) (n ∷ [])
    (each_map (λ (k : ℕ). k < n) (λ (k : ℕ). k < suc n) (λ k l. omega arith) _ (fresh_less t plan n)) ((omega arith), tt))

fresh_once : (t : TableId) (plan : LabPlan) (n : ℕ) → Distinct (jobs_of (fresh_desks t plan n))
fresh_once t plan zero = tt
fresh_once t plan (suc n) = subst Distinct (sym (jobs_snoc t plan n)) (distinct-snoc (jobs_of (fresh_desks t plan n)) n (fresh_less t plan n) (fresh_once t plan n))

pub opened_own : (b : BenchView) → Each (Owns b) (opened b)
opened_own b = fresh_own b (length b.plan.jobs)

pub opened_all : (b : BenchView) → HasAll b.plan (opened b)
opened_all b = record { every = fresh_each b.table b.plan (length b.plan.jobs); once = fresh_once b.table b.plan (length b.plan.jobs) }

-- they are the desks of the plan that the bench has
pub opened_as : (b : BenchView) (plan : LabPlan) (desks : List DeskView) → b.plan ≡ plan
    → desks ≡ fresh_desks b.table plan (length plan.jobs) → desks ≡ opened b
opened_as b plan desks is are = are ∙ ap (λ (p : LabPlan). fresh_desks b.table p (length p.jobs)) (sym is)

-- ---- the desks of a slice, each changed by its owner

abbrev AreKept : BenchView → List DeskView → List DeskView → Type 0
AreKept b old new = (i : ℕ) (d : DeskView) → i < length old → Keeps b (get_or old i d) (get_or new i d)

kept_later : (b : BenchView) (d e : DeskView) (old new : List DeskView) → AreKept b (d ∷ old) (e ∷ new) → AreKept b old new
kept_later b d e old new kept i x less = kept (suc i) x (omega arith)

pub kept_jobs : (b : BenchView) (old new : List DeskView) → length new ≡ length old → AreKept b old new → jobs_of new ≡ jobs_of old
kept_jobs b [] [] same kept = refl
kept_jobs b [] (e ∷ new) same kept = absurd (omega (arith, same))
kept_jobs b (d ∷ old) [] same kept = absurd (omega (arith, same))
kept_jobs b (d ∷ old) (e ∷ new) same kept = λ i. (kept 0 d (omega arith)).1 i ∷ kept_jobs b old new (omega (arith, same)) (kept_later b d e old new kept) i
