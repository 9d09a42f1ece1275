-- Desks of all jobs, in their order.
use Rattle.std.proofs.Common.{◌≡◌, ℕ, zero, suc, ◌+◌, ◌<◌, List, [], ◌∷◌, ◌++◌, length, map, get_or, refl, sym, ap, ◌∙◌, subst, arith, add-one}
use Rattle.std.specs.List.{range_with_len}
use Rattle.std.proofs.lemmas.List.FromFn.{map-range_with_len_more}
use Rattle.atomic_table.specs.Seated.{TableId}
use Rattle.lab_plan.specs.LabPlan.{LabPlan}
use Rattle.legal_steps.specs.declared.event.Event.{Event}
use Rattle.turns.specs.History.{known_by}
use Rattle.turns.specs.Lists.{Each}
use Rattle.edge_rule.specs.DeskView.{DeskView, BenchView, Owns, fresh_desk, fresh_desks}
use Rattle.edge_rule.specs.Company.{jobs_of}
use Rattle.rounds.specs.Company.{IsWhole}
use Rattle.rounds.specs.Rounds.{known_in}
use Rattle.rounds.specs.FromOpening.{opened}
use Rattle.waiting.specs.Watching.{DeskKnows, KnowAll}

pub jobs_fresh : (t : TableId) (plan : LabPlan) (m : ℕ) → jobs_of (fresh_desks t plan m) ≡ range_with_len 0 m
jobs_fresh t plan zero = refl
jobs_fresh t plan (suc m) =
    map_append (fresh_desks t plan m) (fresh_desk t plan m)
    ∙ (ap (λ l. l ++ m ∷ []) (jobs_fresh t plan m) ∙ sym (ranged m)) where
      map_append : (l : List DeskView) (d : DeskView) → jobs_of (l ++ d ∷ []) ≡ jobs_of l ++ d.job ∷ []
      map_append [] d = refl
      map_append (x ∷ l) d = ap (λ js. x.job ∷ js) (map_append l d)

      same_map : (l : List ℕ) → map (λ (i : ℕ). i) l ≡ l
      same_map [] = refl
      same_map (x ∷ l) = ap (λ z. x ∷ z) (same_map l)

      ranged : (m : ℕ) → range_with_len 0 (suc m) ≡ range_with_len 0 m ++ m ∷ []
      ranged m = ap (range_with_len 0) (sym (add-one m)) ∙ (sym (same_map (range_with_len 0 (m + 1)))
          ∙ (map-range_with_len_more (λ (i : ℕ). i) 0 m m (omega arith) ∙ ap (λ l. l ++ m ∷ []) (same_map (range_with_len 0 m))))

abbrev heads : List ℕ → ℕ
heads [] = 0
heads (y ∷ l) = y

abbrev tails : List ℕ → List ℕ
tails [] = []
tails (y ∷ l) = l

length_range : (a n : ℕ) → length (range_with_len a n) ≡ n
length_range a zero = refl
length_range a (suc n) = ap suc (length_range (a + 1) n)

pub length_jobs : (l : List DeskView) → length (jobs_of l) ≡ length l
length_jobs [] = refl
length_jobs (d ∷ l) = ap suc (length_jobs l)

module _ (b : BenchView) (h : List Event) where
  at : (desks : List DeskView) (a n j : ℕ) (d : DeskView) → jobs_of desks ≡ range_with_len a n → Each (Owns b) desks → IsWhole h desks → j < length desks
      → DeskKnows b.plan h (a + j) (get_or desks j d)
  at [] a n j d jobs own whole inside = absurd (omega (arith, inside))
  at (x ∷ desks) a zero j d jobs own whole inside = absurd (cc)
  at (x ∷ desks) a (suc n) zero d jobs own whole inside =
      let first : x.job ≡ a = ap heads jobs in let zero_more : a + 0 ≡ a = omega arith in record {
        plan_is = own.0.1;
        job_is = first ∙ sym zero_more;
        known_is = (λ i. known_by (own.0.1 i) (sym whole.0 i)) ∙ ap (known_in b.plan h) (first ∙ sym zero_more);
      }
  at (x ∷ desks) a (suc n) (suc j) d jobs own whole inside =
      let same : a + 1 + j ≡ a + suc j = omega arith in
      subst (λ k. DeskKnows b.plan h k (get_or desks j d)) same
      (at desks (a + 1) n j d (ap tails jobs) own.1 whole.1 (omega (arith, inside)))

-- the desks of a bench, each of which knows what its job has done
pub know_all : (b : BenchView) (h : List Event) (desks : List DeskView) → jobs_of desks ≡ jobs_of (opened b) → Each (Owns b) desks → IsWhole h desks
    → KnowAll b.plan h desks
know_all b h desks same_jobs own whole =
    let jobs : jobs_of desks ≡ range_with_len 0 (length b.plan.jobs) = same_jobs ∙ jobs_fresh b.table b.plan (length b.plan.jobs) in
    let many : length desks ≡ length b.plan.jobs = sym (length_jobs desks) ∙ (ap length jobs ∙ length_range 0 (length b.plan.jobs)) in record {
      many = many;
      each = λ j d inside. subst (λ k. DeskKnows b.plan h k (get_or desks j d)) (let z : 0 + j ≡ j = omega arith in z)
          (at b h desks 0 (length b.plan.jobs) j d jobs own whole (let q = many in omega (arith, q, inside)));
    }
