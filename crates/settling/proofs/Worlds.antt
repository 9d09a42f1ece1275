-- Lists of legal events, one after another.
use Rattle.std.proofs.Common.{◌≡◌, ℕ, ◌+◌, Bool, true, false, cond, List, [], ◌∷◌, ◌++◌, sym, ap, ◌∙◌, subst, arith}
use Rattle.std.specs.List.{count_by}
use Rattle.std.proofs.lemmas.List.Sums.{sum_by-append}
use Rattle.lab_plan.specs.LabPlan.{LabPlan}
use Rattle.legal_steps.specs.declared.event.Event.{Event}
use Rattle.legal_steps.specs.State.{State}
use Rattle.legal_steps.specs.Run.{IsLegalFrom, after_all, is_sit, is_quit, is_withdraw}
use Rattle.legal_steps.specs.declared.counts.Counts.{Counts}
use Rattle.legal_steps.specs.Counting.{counts_of}
use Rattle.legal_steps.specs.Fitting.{Fits}
use Rattle.legal_steps.proofs.ReachedInvariant.{IsSound, sound_opening, sound_after_all}
use Rattle.interleaving.specs.Counting.{both_counts, count_at, GoOnBy}
use Rattle.interleaving.specs.World.{WorldView, LeadsTo, IsReachedWith}
use Rattle.interleaving.proofs.GoingOn.{on_both}
use Rattle.edge_word.specs.Moves.{on}
use Rattle.turns.proofs.Runs.{after_all-append, legal-append}

-- ---- counts

same_counts : (a b : Counts) → a.meals ≡ b.meals → a.sessions_done ≡ b.sessions_done → a.withdrawn ≡ b.withdrawn → a ≡ b
same_counts a b meals done withdrawn = λ i. record { meals = meals i; sessions_done = done i; withdrawn = withdrawn i }

count_joined : (p : Event → Bool) (n : ℕ) (xs ys : List Event) → (n + count_by p xs) + count_by p ys ≡ n + count_by p (xs ++ ys)
count_joined p n xs ys = let z : count_by p (xs ++ ys) ≡ count_by p xs + count_by p ys = sum_by-append (λ e. cond (p e) 1 0) xs ys in omega (arith, z)

joined : (x : Counts) (k : ℕ) (xs ys : List Event) → both_counts (both_counts x (counts_of k xs)) (counts_of k ys) ≡ both_counts x (counts_of k (xs ++ ys))
joined x k xs ys = same_counts _ _ (count_joined (is_sit k) x.meals xs ys) (count_joined (is_quit k) x.sessions_done xs ys)
    (count_joined (is_withdraw k) x.withdrawn xs ys)

both_counted : (old mid new : List Counts) (xs ys : List Event) → GoOnBy old xs mid → GoOnBy mid ys new → GoOnBy old (xs ++ ys) new
both_counted old mid new xs ys first then = record {
  one_each = then.one_each ∙ first.one_each;
  counted = λ k below. then.counted k (omega (arith, below, first.one_each))
      ∙ (ap (λ x. both_counts x (counts_of k ys)) (first.counted k below) ∙ joined (count_at old k) k xs ys);
}

-- ---- worlds

pub leads_both : (old mid new : WorldView) (xs ys : List Event) → LeadsTo old xs mid → LeadsTo mid ys new → LeadsTo old (xs ++ ys) new
leads_both old mid new xs ys a b =
    let plan : LabPlan = old.plan in
    let there : State = after_all plan old.state xs in
    let legal : IsLegalFrom plan there ys = subst (λ (z : LabPlan × State). IsLegalFrom z.0 z.1 ys) (λ i. (a.same_plan i, a.run.leads i)) b.run.legal in
    let leads : new.state ≡ after_all plan there ys = b.run.leads ∙ (λ i. after_all (a.same_plan i) (a.run.leads i) ys) in
    record {
      run = record { legal = legal-append plan old.state xs ys a.run.legal legal; leads = leads ∙ sym (after_all-append plan old.state xs ys) };
      counted = both_counted old.counts mid.counts new.counts xs ys a.counted b.counted;
      same_plan = b.same_plan ∙ a.same_plan;
      goes_on = on_both old mid new a.goes_on b.goes_on;
    }

-- one event, or none, before others
pub leads_then : (old mid new : WorldView) (b : Bool) (x : Event) (rest : List Event) → LeadsTo old (on b x []) mid → LeadsTo mid rest new
    → LeadsTo old (on b x rest) new
leads_then old mid new false x rest a b = leads_both old mid new [] rest a b
leads_then old mid new true x rest a b = leads_both old mid new (x ∷ []) rest a b

-- ---- states that are reached

pub reached_sound : (w : WorldView) → IsReachedWith w.plan w.state w.counts → IsSound w.plan w.state
reached_sound w r = let x = r.reached in
    subst (IsSound w.plan) (sym x.run.leads) (sound_after_all w.plan x.opening x.events (sound_opening w.plan x.opening x.is_opening) x.run.legal)

pub reached_fits : (w : WorldView) → IsReachedWith w.plan w.state w.counts → Fits w.plan w.state
reached_fits w r = (reached_sound w r).fits
