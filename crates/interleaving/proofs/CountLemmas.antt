-- Counts go on event by event.
use Rattle.std.proofs.Common.{◌≡◌, ℕ, ◌+◌, Bool, true, false, cond, List, [], ◌∷◌, ◌++◌, length-set, arith, refl, sym, ap, ◌∙◌}
use Rattle.std.specs.List.{count_by}
use Rattle.std.proofs.lemmas.Bool.{eq-eqb, ne_eqb}
use Rattle.std.proofs.lemmas.List.Sums.{sum_by-cons, sum_by-append}
use Rattle.lab_plan.specs.LabPlan.{LabPlan}
use Rattle.legal_steps.specs.declared.event.Event.{Event}
use Rattle.legal_steps.specs.declared.event.Event.TheVariants.{Sit, Quit, Withdraw}
use Rattle.legal_steps.specs.Run.{is_sit, is_quit, is_withdraw}
use Rattle.legal_steps.specs.declared.counts.Counts.{Counts}
use Rattle.legal_steps.specs.Counting.{no_counts, counts_of}
use Rattle.interleaving.specs.Counting.{count_at, both_counts, GoOnBy, AreCountsOf, counted, CanCount}
use Rattle.interleaving.proofs.FitLemmas.{set_cases}

same_counts : (a b : Counts) → a.meals ≡ b.meals → a.sessions_done ≡ b.sessions_done → a.withdrawn ≡ b.withdrawn → a ≡ b
same_counts a b meals done withdrawn =
    let make : ℕ → ℕ → ℕ → Counts = λ m d w. record { meals = m; sessions_done = d; withdrawn = w } in
    ap (λ n. make n a.sessions_done a.withdrawn) meals ∙ (ap (λ n. make b.meals n a.withdrawn) done ∙ ap (λ n. make b.meals b.sessions_done n) withdrawn)

count_one : (p : Event → Bool) (event : Event) → count_by p (event ∷ []) ≡ cond (p event) 1 0
count_one p event = omega (arith, sum_by-cons (λ e. cond (p e) 1 0) event [])

none_more : (p : Event → Bool) (event : Event) (n : ℕ) → p event ≡ false → n ≡ n + count_by p (event ∷ [])
none_more p event n h = let none : count_by p (event ∷ []) ≡ 0 = count_one p event ∙ ap (λ b. cond b 1 0) h in omega arith

one_more : (p : Event → Bool) (event : Event) (n : ℕ) → p event ≡ true → n + 1 ≡ n + count_by p (event ∷ [])
one_more p event n h = let one : count_by p (event ∷ []) ≡ 1 = count_one p event ∙ ap (λ b. cond b 1 0) h in omega arith

-- an event that isn't counted for the job
not_counted : (x : Counts) (k : ℕ) (event : Event) → is_sit k event ≡ false → is_quit k event ≡ false
    → is_withdraw k event ≡ false → x ≡ both_counts x (counts_of k (event ∷ []))
not_counted x k event sit quit withdraw =
    same_counts _ _ (none_more (is_sit k) event x.meals sit)
    (none_more (is_quit k) event x.sessions_done quit) (none_more (is_withdraw k) event x.withdrawn withdraw)

-- an event that is counted for no job
still : (counts : List Counts) (event : Event) → ((k : ℕ) → is_sit k event ≡ false)
    → ((k : ℕ) → is_quit k event ≡ false) → ((k : ℕ) → is_withdraw k event ≡ false) → GoOnBy counts (event ∷ []) counts
still counts event sit quit withdraw = record { one_each = refl; counted = λ k below. not_counted (count_at counts k) k event (sit k) (quit k) (withdraw k) }

-- the counts after an event
pub goes_on : (event : Event) (counts : List Counts) → CanCount event counts → GoOnBy counts (event ∷ []) (counted event counts)
goes_on (Sit j) counts can =
    let x = count_at counts j in
    record {
      one_each = length-set _ _ _;
      counted = λ k below. set_cases (λ n y. y ≡ both_counts (count_at counts n) (counts_of n (Sit j ∷ []))) counts j _ no_counts k can.is_job
          (same_counts _ _ (one_more (is_sit j) (Sit j) x.meals (eq-eqb j j refl))
          (none_more (is_quit j) (Sit j) x.sessions_done refl) (none_more (is_withdraw j) (Sit j) x.withdrawn refl))
          (λ other. not_counted (count_at counts k) k (Sit j) (ne_eqb j k (λ e. other (sym e))) refl refl);
    }
goes_on (Quit j) counts can =
    let x = count_at counts j in
    record {
      one_each = length-set _ _ _;
      counted = λ k below. set_cases (λ n y. y ≡ both_counts (count_at counts n) (counts_of n (Quit j ∷ []))) counts j _ no_counts k can.is_job
          (same_counts _ _ (none_more (is_sit j) (Quit j) x.meals refl)
          (one_more (is_quit j) (Quit j) x.sessions_done (eq-eqb j j refl)) (none_more (is_withdraw j) (Quit j) x.withdrawn refl))
          (λ other. not_counted (count_at counts k) k (Quit j) refl (ne_eqb j k (λ e. other (sym e))) refl);
    }
goes_on (Withdraw j) counts can =
    let x = count_at counts j in
    record {
      one_each = length-set _ _ _;
      counted = λ k below. set_cases (λ n y. y ≡ both_counts (count_at counts n) (counts_of n (Withdraw j ∷ []))) counts j _ no_counts k can.is_job
          (same_counts _ _ (none_more (is_sit j) (Withdraw j) x.meals refl) (none_more (is_quit j) (Withdraw j) x.sessions_done refl)
          (one_more (is_withdraw j) (Withdraw j) x.withdrawn (eq-eqb j j refl)))
          (λ other. not_counted (count_at counts k) k (Withdraw j) refl refl (ne_eqb j k (λ e. other (sym e))));
    }
goes_on event counts can = still counts event (λ k. refl) (λ k. refl) (λ k. refl)

-- ---- longer lists

count_joined : (p : Event → Bool) (xs ys : List Event) → count_by p (xs ++ ys) ≡ count_by p xs + count_by p ys
count_joined p xs ys = sum_by-append (λ e. cond (p e) 1 0) xs ys

joined : (x : Counts) (k : ℕ) (xs ys : List Event) → both_counts (both_counts x (counts_of k xs)) (counts_of k ys) ≡ both_counts x (counts_of k (xs ++ ys))
joined x k xs ys = same_counts _ _
    (omega (arith, count_joined (is_sit k) xs ys))
    (omega (arith, count_joined (is_quit k) xs ys))
    (omega (arith, count_joined (is_withdraw k) xs ys))

pub goes_on_push : (old mid new : List Counts) (events : List Event) (event : Event)
    → GoOnBy old events mid → GoOnBy mid (event ∷ []) new → GoOnBy old (events ++ event ∷ []) new
goes_on_push old mid new events event first then = record {
  one_each = then.one_each ∙ first.one_each;
  counted = λ k below. then.counted k (omega (arith, below, first.one_each))
      ∙ (ap (λ x. both_counts x (counts_of k (event ∷ []))) (first.counted k below) ∙ joined (count_at old k) k events (event ∷ []));
}

from_none : (k : ℕ) (xs ys : List Event) → both_counts (counts_of k xs) (counts_of k ys) ≡ counts_of k (xs ++ ys)
from_none k xs ys = same_counts _ _ (sym (count_joined (is_sit k) xs ys)) (sym (count_joined (is_quit k) xs ys)) (sym (count_joined (is_withdraw k) xs ys))

pub counts_push : (plan : LabPlan) (events : List Event) (event : Event) (counts new : List Counts)
    → AreCountsOf plan events counts → GoOnBy counts (event ∷ []) new → AreCountsOf plan (events ++ event ∷ []) new
counts_push plan events event counts new h more = record {
  one_each = more.one_each ∙ h.one_each;
  counted = λ k below. more.counted k (omega (arith, below, h.one_each))
      ∙ (ap (λ x. both_counts x (counts_of k (event ∷ []))) (h.counted k below) ∙ from_none k events (event ∷ []));
}
