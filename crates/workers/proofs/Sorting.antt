-- Desks that come back in another order.
use Rattle.std.proofs.Common.{◌≡◌, ◌≢◌, ℕ, suc, ◌+◌, ◌-◌, ◌&&◌, ◌<◌, ◌≤◌, inl, inr, true, false, List, [], ◌∷◌, length, sym, ap, ◌∙◌, subst, arith}
use Rattle.std.specs.List.Sorted.{IsPermutation, IsNonDecreasingBy}
use Rattle.std.proofs.lemmas.List.Sorted.{IsPermutation-refl, IsPermutation-map}
use Rattle.lab_plan.specs.LabPlan.{LabPlan}
use Rattle.legal_steps.specs.declared.event.Event.{Event}
use Rattle.turns.specs.History.{IsHistory}
use Rattle.turns.specs.Lists.{StartsWith, Each}
use Rattle.turns.proofs.Runs.{each_map}
use Rattle.turns.proofs.Retired.{retired_on}
use Rattle.edge_rule.specs.DeskView.{DeskView, BenchView, Owns, IsAtRest}
use Rattle.edge_rule.specs.Company.{Hears, Met, Distinct, jobs_of}
use Rattle.edge_rule.specs.Ending.{Any, HasAll}
use Rattle.turns.specs.AtTheEnd.{AllRetired}
use Rattle.session_layer.specs.Grown.{TookTurns}
use Rattle.session_layer.proofs.Grows as grows
use Rattle.rounds.specs.Company.{first_front, all_retired}
use Rattle.rounds.proofs.Lists.{zip_each, any_each, starts_then}
use Rattle.rounds.proofs.Driven.{Knows, met_knows, all_of}
use Rattle.rounds.proofs.Reasons.{then_retired}
use Rattle.legal_steps.specs.State.{drinking}
use Rattle.turns.specs.History.{known_by}
use Rattle.session_layer.specs.Retired.{has_retired}
use Rattle.workers.specs.Pairs.{Pairs}
use Rattle.workers.proofs.Pairs.{pairs_each}
use Rattle.workers.specs.declared.halt.Halt.{Halt}
use Rattle.workers.specs.declared.halt.Halt.TheVariants as halts
use Rattle.workers.specs.Team.{TookUpTo, taken, Worked}
use Rattle.workers.proofs.TeamTurns.{took_then, took_up_to, whole}
use Rattle.workers.specs.Driven.{TookRest, FromOne, Ascending, Driven}
use Rattle.workers.proofs.AnyOrder.{each_perm, each_in, any_among, any_perm, each_index, distinct_perm}

-- ---- desks

abbrev pub job_of : DeskView → ℕ
job_of d = d.job

ascends : (l : List DeskView) → IsNonDecreasingBy job_of l → Distinct (jobs_of l) → Ascending (jobs_of l)
ascends [] rises apart = tt
ascends (d ∷ l) rises apart = (
  above l (each_index (λ (e : DeskView). d.job ≤ e.job) l d (λ k h. rises 0 (suc k) d (omega arith) (omega arith))) apart.0,
  ascends l (λ i j x le lt. rises (suc i) (suc j) x (omega arith) (omega arith)) apart.1,
) where
  above : (l : List DeskView) → Each (λ (e : DeskView). d.job ≤ e.job) l → Each (λ (k : ℕ). k ≢ d.job) (jobs_of l) → Each (λ (k : ℕ). d.job < k) (jobs_of l)
  above [] a b = tt
  above (e ∷ l) a b = (let le : d.job ≤ e.job = a.0 in let ne : e.job ≢ d.job = b.0 in omega arith, above l a.1 b.1)

pairs_from : (R : DeskView → DeskView → Type 0) (old new : List DeskView) → Pairs R old new → FromOne R old new
pairs_from R [] new is = subst (FromOne R []) (sym is) tt
pairs_from R (d ∷ old) [] never = absurd never
pairs_from R (d ∷ old) (e ∷ new) t = (
  inl t.0,
  each_map (λ (x : DeskView). Any (λ (y : DeskView). R y x) old)
      (λ (x : DeskView). Any (λ (y : DeskView). R y x) (d ∷ old)) (λ x h. inr h) new (pairs_from R old new t.1),
)

pairs_jobs : (n : ℕ) (old new : List DeskView) → Pairs (TookUpTo n) old new → jobs_of new ≡ jobs_of old
pairs_jobs n [] new is = ap jobs_of is
pairs_jobs n (d ∷ old) [] never = absurd never
pairs_jobs n (d ∷ old) (e ∷ new) t = λ i. t.0.2.grew.job i ∷ pairs_jobs n old new t.1 i

-- a step of each
from_then : (R S T : DeskView → DeskView → Type 0) → ((d m e : DeskView) → R d m → S m e → T d e)
    → (old mid new : List DeskView) → FromOne R old mid → Pairs S mid new → FromOne T old new
from_then R S T f old [] new t is = subst (FromOne T old) (sym is) tt
from_then R S T f old (m ∷ mid) [] t never = absurd never
from_then R S T f old (m ∷ mid) (e ∷ new) t s = (any_more old t.0, from_then R S T f old mid new t.1 s.1) where
  any_more : (old : List DeskView) → Any (λ (d : DeskView). R d m) old → Any (λ (d : DeskView). T d e) old
  any_more [] any = absurd any
  any_more (d ∷ old) (inl r) = inl (f d m e r s.0)
  any_more (d ∷ old) (inr more) = inr (any_more old more)

met_from : (R : DeskView → DeskView → Type 0) → ((d m e : DeskView) (l : List DeskView) → R d m → Hears m l e → R d e)
    → (old mid new : List DeskView) → Met mid new → FromOne R old mid → FromOne R old new
met_from R f old [] new is t = subst (FromOne R old) (sym is) tt
met_from R f old (m ∷ mid) new (e, is, h) t = subst (FromOne R old) (sym is) (any_more old t.0, t.1) where
  any_more : (old : List DeskView) → Any (λ (d : DeskView). R d m) old → Any (λ (d : DeskView). R d e) old
  any_more [] any = absurd any
  any_more (d ∷ old) (inl r) = inl (f d m e mid r h)
  any_more (d ∷ old) (inr more) = inr (any_more old more)

pairs_back : (R : DeskView → DeskView → Type 0) (P Q : DeskView → Type 0) → ((d e : DeskView) → R d e → Q e → P d)
    → (old new : List DeskView) → Pairs R old new → Each Q new → Each P old
pairs_back R P Q f [] new is all = tt
pairs_back R P Q f (d ∷ old) [] never all = absurd never
pairs_back R P Q f (d ∷ old) (e ∷ new) t all = (f d e t.0 all.0, pairs_back R P Q f old new t.1 all.1)

-- who hears of others knows of itself what it knew
met_retired : (old new : List DeskView) → Met old new → all_retired new ≡ all_retired old
met_retired [] new is = ap all_retired is
met_retired (d ∷ old) new (e, is, h) = ap all_retired is ∙ (λ i. has_retired (drinking (known_by (h.plan i) (h.deeds i)) (h.job i)) && all_retired old)

-- by the jobs alone
every_of : (n : ℕ) (l : List DeskView) → ((j : ℕ) → j < n → Any (λ (i : ℕ). i ≡ j) (jobs_of l)) → (j : ℕ) → j < n → Any (λ (d : DeskView). d.job ≡ j) l
every_of n l all j inside = at l (all j inside) where
  at : (l : List DeskView) → Any (λ (i : ℕ). i ≡ j) (jobs_of l) → Any (λ (d : DeskView). d.job ≡ j) l
  at [] any = absurd any
  at (d ∷ l) (inl h) = inl h
  at (d ∷ l) (inr h) = inr (at l h)

all_by : (plan : LabPlan) (old new : List DeskView) → HasAll plan old → IsPermutation (jobs_of old) (jobs_of new) → HasAll plan new
all_by plan old new all perm = record {
  every = every_of (length plan.jobs) new (λ j inside. any_perm (λ (i : ℕ). i ≡ j) (jobs_of old) (jobs_of new) perm (all_of plan old all j inside));
  once = distinct_perm (jobs_of old) (jobs_of new) perm all.once;
}

-- ---- from the sort before to the meeting after

module _ (b : BenchView) (turns : ℕ) (old mid : List DeskView) (h : Halt) (back sorted done new : List DeskView)
    (owned : Each (Owns b) old) (all : HasAll b.plan old) (first : IsPermutation old mid) where
  pub own_mid : Each (Owns b) mid
  own_mid = each_perm (Owns b) old mid first owned

  owns_more : (n : ℕ) (d e : DeskView) → TookUpTo n d e → Owns b d → Owns b e
  owns_more n d e a o = (a.2.grew.table ∙ o.0, a.2.grew.plan ∙ o.1)

  module _ (t : Worked turns mid h back) (last : IsPermutation back sorted) where
    up : Pairs (TookUpTo turns) mid back
    up = took_up_to turns mid back h t

    pub own_sorted : Each (Owns b) sorted
    own_sorted = each_perm (Owns b) back sorted last (pairs_each (TookUpTo turns) (Owns b) (Owns b) (owns_more turns) mid back up own_mid)

    all_sorted : HasAll b.plan sorted
    all_sorted =
        all_by b.plan back
        sorted (all_by b.plan mid back (all_by b.plan old mid all (IsPermutation-map job_of old mid first))
        (same_jobs (sym (pairs_jobs turns mid back up)))) (IsPermutation-map job_of back sorted last) where
          same_jobs : jobs_of mid ≡ jobs_of back → IsPermutation (jobs_of mid) (jobs_of back)
          same_jobs is = subst (IsPermutation (jobs_of mid)) is (IsPermutation-refl (jobs_of mid))

    from_old : (R : DeskView → DeskView → Type 0) → Pairs R mid back → FromOne R old sorted
    from_old R q = each_perm (λ (e : DeskView). Any (λ (d : DeskView). R d e) old) back sorted last
        (each_map (λ (e : DeskView). Any (λ (d : DeskView). R d e) mid) (λ (e : DeskView). Any (λ (d : DeskView). R d e) old)
        (λ e any. any_among (λ (d : DeskView). R d e) mid old (each_in old mid first) any) back (pairs_from R mid back q))

    module _ (more : TookRest (turns - taken turns h) sorted done) where
      pub own_done : Each (Owns b) done
      own_done = pairs_each (TookUpTo (turns - taken turns h)) (Owns b) (Owns b) (owns_more (turns - taken turns h)) sorted done more.took own_sorted

      jobs_done : jobs_of done ≡ jobs_of sorted
      jobs_done = pairs_jobs (turns - taken turns h) sorted done more.took

      pub apart_done : Distinct (jobs_of done)
      apart_done = subst Distinct (sym jobs_done) all_sorted.once

      all_done : HasAll b.plan done
      all_done = all_by b.plan sorted done all_sorted (subst (λ (js : List ℕ). IsPermutation js (jobs_of done)) jobs_done (IsPermutation-refl (jobs_of done)))

      module _ (rest : Each IsAtRest done) (rises : IsNonDecreasingBy job_of sorted) (met : Met done new) where
        knows : Knows b done new
        knows = met_knows b done new own_done rest met

        all_new : HasAll b.plan new
        all_new = record {
          every = every_of (length b.plan.jobs) new (λ j inside. subst (Any (λ (i : ℕ). i ≡ j)) (sym knows.jobs) (all_of b.plan done all_done j inside));
          once = subst Distinct (sym knows.jobs) all_done.once;
        }

        -- the history that the first desk has seen at the end
        abbrev F : List Event
        F = first_front new

        starts_sorted : Each (λ (e : DeskView). StartsWith F e.front) sorted
        starts_sorted = pairs_back (TookUpTo (turns - taken turns h)) (λ (e : DeskView). StartsWith F e.front) (λ (e : DeskView). StartsWith F e.front)
            (λ d e a s. starts_then F e.front d.front s (a.2.grew.more, a.2.grew.front)) sorted done more.took knows.starts

        -- who was seen retired is retired
        all_seen : Any (λ (e : DeskView). AllRetired e.plan e.front) back → AllRetired b.plan F
        all_seen any = any_each (λ (e : DeskView). AllRetired e.plan e.front) (λ (e : DeskView). Owns b e × StartsWith F e.front) (AllRetired b.plan F) sorted
            (λ e done q j inside. let is : AllRetired b.plan e.front = subst (λ (p : LabPlan). AllRetired p e.front) q.0.1 done in
            subst (λ (h : List Event). AllRetired b.plan h) (sym q.1.1)
            (λ k l. retired_on b.plan k e.front q.1.0 (subst (IsHistory b.plan) q.1.1 knows.company.legal) (is k l)) j inside)
            (any_perm (λ (e : DeskView). AllRetired e.plan e.front) back sorted last any)
            (zip_each (Owns b) (λ (e : DeskView). StartsWith F e.front)
            (λ (e : DeskView). Owns b e × StartsWith F e.front) (λ e o s. (o, s)) sorted own_sorted starts_sorted)

        abbrev Met_with : (DeskView → DeskView → Type 0) → Type 0
        Met_with T = (d m e : DeskView) (l : List DeskView) → T d m → Hears m l e → T d e

        up_met : Met_with (TookUpTo turns)
        up_met d m e l r g = (r.0, r.1, took_then r.0 d m e r.2 (grows.hearing_alone m e l g))

        full_met : Met_with (TookTurns turns)
        full_met d m e l r g = took_then turns d m e r (grows.hearing_alone m e l g)

        in_all : (n k : ℕ) (d m e : DeskView) → n + k ≤ turns → TookTurns n d m → TookTurns k m e → TookUpTo turns d e
        in_all n k d m e l a c = (n + k, l, grows.turns_go_on n k d m e a c)

        took_by : (h : Halt) → Worked turns mid h back → TookRest (turns - taken turns h) sorted done → FromOne (TookUpTo turns) old done
        took_by (halts.After n) w r = from_then (TookTurns n) (TookUpTo (turns - n)) (TookUpTo turns)
            (λ d m e a c. in_all n c.0 d m e (let l = w.0 in let k = c.1 in omega arith) a c.2) old sorted done (from_old (TookTurns n) w.1) r.took
        took_by halts.AllRetired w r = from_then (TookUpTo turns) (TookUpTo (turns - turns)) (TookUpTo turns)
            (λ d m e a c. in_all a.0 c.0 d m e (let l = a.1 in let k = c.1 in omega arith) a.2 c.2) old sorted done (from_old (TookUpTo turns) w.0) r.took

        full_by : (h : Halt) → Worked turns mid h back → TookRest (turns - taken turns h) sorted done
            → all_retired new ≡ false → FromOne (TookTurns turns) old done
        full_by (halts.After n) w r not_all = from_then (TookTurns n) (TookTurns (turns - n)) (TookTurns turns)
            (λ d m e a c. subst (λ (k : ℕ). TookTurns k d e) (whole n turns w.0) (grows.turns_go_on n (turns - n) d m e a c)) old sorted done
            (from_old (TookTurns n) w.1) (r.full (sym (met_retired done new met) ∙ not_all))
        full_by halts.AllRetired w r not_all =
            let gone : true ≡ false = sym (then_retired b F new knows.company (all_of b.plan new all_new) (all_seen w.1)) ∙ not_all in
            absurd (cc)

        pub driven : Driven b turns old new
        driven = record {
          order = subst Ascending (sym (knows.jobs ∙ jobs_done)) (ascends sorted rises all_sorted.once);
          all = all_new;
          took = met_from (TookUpTo turns) up_met old done new met (took_by h t more);
          full = λ not_all. met_from (TookTurns turns) full_met old done new met (full_by h t more not_all);
          company = knows.company;
        }
