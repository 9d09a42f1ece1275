-- The plan of a script with the sessions that came.
use Rattle.std.proofs.Common.{◌≡◌, ℕ, ◌+◌, ◌<◌, false, List, [], ◌∷◌, ◌++◌, length, take, sym, ap, ◌∙◌, subst}
use Rattle.std.specs.Prelude.{slice_index_or, is_err, Result, Ok, Err}
use Rattle.std.proofs.lemmas.List.{take_more}
use Rattle.lab_plan.specs.declared.refusal.MoreRefusal.{MoreRefusal}
use Rattle.lab_plan.specs.LabPlan.{LabPlan, SessionPlan, edges}
use Rattle.lab_plan.specs.Longer.{with_one_more, Adds}
use Rattle.legal_steps.specs.declared.event.Step.TheVariants.{Look, AskFork, GiveFork, Soil, AskBottles, GiveBottles, Thirst, Hunger}
use Rattle.legal_steps.specs.declared.event.Step.TheVariants.{Sit, Leave, Drink, Reach, Act, Quit, Retire, Glance, Withdraw}
use Rattle.longer_plans.specs.Longer.{IsLonger}
use Rattle.longer_plans.proofs.Once.{taken_is_longer}
use Rattle.live_lab.specs.Adding.{with_all}
use Rattle.live_lab.proofs.LongerLabs.{all_and_one, jobs_with_all}
use Rattle.lab_journal.specs.Finishing.{KeepsSteps}

-- ---- steps stay steps

module _ (p q : LabPlan) (j : ℕ) (more : IsLonger p q j) where
  job : (k : ℕ) → k < length p.jobs → k < length q.jobs
  job k there = subst (λ (n : ℕ). k < n) (sym more.jobs_same) there

  edge : (e : ℕ) → e < length (edges p) → e < length (edges q)
  edge e there = subst (λ (l : List (ℕ × ℕ)). e < length l) (sym more.edges_same) there

  pub steps_stay : KeepsSteps p q
  steps_stay (Look k e) own = (job k own.0, edge e own.1)
  steps_stay (AskFork k e) own = (job k own.0, edge e own.1)
  steps_stay (GiveFork k e) own = (job k own.0, edge e own.1)
  steps_stay (Soil k e) own = (job k own.0, edge e own.1)
  steps_stay (AskBottles k e set) own = (job k own.0, edge e own.1)
  steps_stay (GiveBottles k e set) own = (job k own.0, edge e own.1)
  steps_stay (Thirst k) own = job k own
  steps_stay (Hunger k) own = job k own
  steps_stay (Sit k) own = job k own
  steps_stay (Leave k) own = job k own
  steps_stay (Drink k) own = job k own
  steps_stay (Reach k) own = job k own
  steps_stay (Act k) own = job k own
  steps_stay (Quit k) own = job k own
  steps_stay (Retire k) own = job k own
  steps_stay (Glance k other) own = (job k own.0, job other own.1)
  steps_stay (Withdraw k) own = job k own

-- ---- the sessions of one addition

pub is_job_yet : (p mid : LabPlan) (j : ℕ) (some : List SessionPlan) → mid ≡ with_all p j some → j < length p.jobs → j < length mid.jobs
is_job_yet p mid j some is there = subst (λ (n : ℕ). j < n) (sym (ap (λ (q : LabPlan). length q.jobs) is ∙ jobs_with_all p j some)) there

-- the next is added behind those before it
pub grows : (p mid new : LabPlan) (j : ℕ) (further : List SessionPlan) (n : ℕ) (item session : SessionPlan) (answer : Result (Unit {0}) MoreRefusal)
    → j < length p.jobs → n < length further → item ≡ slice_index_or further n item → session ≡ item → is_err answer ≡ false
    → mid ≡ with_all p j (take n further) → KeepsSteps p mid → Adds mid j session answer new
    → (new ≡ with_all p j (take (n + 1) further)) × KeepsSteps p new
grows p mid new j further n item session (Ok done) there inside is same ok before keeps adds =
    let more : take (n + 1) further ≡ take n further ++ session ∷ [] =
    subst (λ (x : SessionPlan). take (n + 1) further ≡ take n further ++ x ∷ []) (sym is ∙ sym same) (take_more further n item inside) in
    let longer : IsLonger mid new j =
    subst (λ (q : LabPlan). IsLonger mid q j) (sym adds.1) (taken_is_longer mid j session (is_job_yet p mid j (take n further) before there) adds.0) in (
      adds.1 ∙ (ap (λ (q : LabPlan). with_one_more q j session) before
          ∙ (sym (all_and_one p j (take n further) session) ∙ ap (λ (l : List SessionPlan). with_all p j l) (sym more))),
      λ step own. steps_stay mid new j longer step (keeps step own),
    )
grows p mid new j further n item session (Err refusal) there inside is same ok before keeps adds = let no = ok in absurd (cc)
