-- A lab whose plan is longer: it began in that plan's initial state too, all is marked, and each job has its place in the line.
use Rattle.std.proofs.Common.{◌≡◌, ℕ, ◌<◌, List, [], ◌∷◌, ◌++◌, length, refl, sym, ap, ◌∙◌, subst, length-set}
use Rattle.std.specs.Prelude.{◌+◌, false, take, slice_index_or, is_err, Result, Ok, Err}
use Rattle.std.proofs.lemmas.List.{take_more}
use Rattle.lab_plan.specs.LabPlan.{LabPlan, SessionPlan}
use Rattle.lab_plan.specs.Longer.{with_one_more}
use Rattle.legal_steps.specs.Fitting.{Fits}
use Rattle.longer_plans.specs.Longer.{IsLonger}
use Rattle.longer_plans.proofs.Once.{taken_is_longer}
use Rattle.longer_plans.proofs.States.{opens_the_same}
use Rattle.interleaving.specs.declared.add_refusal.AddRefusal.{AddRefusal}
use Rattle.interleaving.specs.Adding.{WorldAdds}
use Rattle.interleaving.specs.World.{WorldView}
use Rattle.interleaving.proofs.LongerWorlds.{refused_same}
use Rattle.settling.specs.Left.{DueView, AreMarked}
use Rattle.settling.proofs.MarkedOn.{stays_marked}
use Rattle.live_lab.specs.declared.clock.Clock.{Clock}
use Rattle.late_thirst.specs.Outside.{LineView}
use Rattle.live_lab.specs.Labs.{LabView, IsLab, IsLineOf}
use Rattle.live_lab.specs.Adding.{with_all, longer_by, LabAdds}

-- what is kept of a lab by its type
abbrev pub Keeps : WorldView → List Clock → DueView → LineView → Type 0
Keeps w clocks due line = IsLab w clocks × AreMarked w.plan w.state due × IsLineOf w line

longer : (w : WorldView) (clocks : List Clock) (due : DueView) (line : LineView) (j : ℕ) (q : LabPlan) → IsLonger w.plan q j → Fits w.plan w.state
    → Keeps w clocks due line → Keeps (record w { plan = q }) clocks due line
longer w clocks due line j q more fit keeps = (
  record { opening = keeps.0.opening ∙ sym (opens_the_same w.plan q j more); one_each = keeps.0.one_each ∙ sym more.jobs_same },
  stays_marked w.plan q j more w.state due fit keeps.1,
  keeps.2 ∙ sym more.jobs_same,
)

pub added : (w : WorldView) (clocks : List Clock) (due : DueView) (line : LineView) (j : ℕ) (session : SessionPlan)
    (answer : Result (Unit {0}) AddRefusal) (new : WorldView)
    → j < length w.plan.jobs → Fits w.plan w.state → WorldAdds w j session answer new → Keeps w clocks due line → Keeps new clocks due line
added w clocks due line j session (Ok done) new job fit adds keeps =
    let q : LabPlan = with_one_more w.plan j session in
    subst (λ (z : WorldView). Keeps z clocks due line) (sym (adds.2 ∙ ap (λ (p : LabPlan). record w { plan = p }) adds.1.1))
    (longer w clocks due line j q (taken_is_longer w.plan j session job adds.1.0) fit keeps)
added w clocks due line j session (Err refusal) new job fit adds keeps =
    subst (λ (z : WorldView). Keeps z clocks due line) (sym (refused_same w j session refusal new adds)) keeps

-- one more behind those that were added
pub all_and_one : (p : LabPlan) (j : ℕ) (some : List SessionPlan) (session : SessionPlan)
    → with_all p j (some ++ session ∷ []) ≡ with_one_more (with_all p j some) j session
all_and_one p j [] session = refl
all_and_one p j (first ∷ some) session = all_and_one (with_one_more p j first) j some session

pub jobs_with_all : (p : LabPlan) (j : ℕ) (some : List SessionPlan) → length (with_all p j some).jobs ≡ length p.jobs
jobs_with_all p j [] = refl
jobs_with_all p j (first ∷ some) = jobs_with_all (with_one_more p j first) j some ∙ length-set p.jobs j _

-- the next of those that were read is added behind them
pub grows : (old mid new : LabView) (j : ℕ) (further : List SessionPlan) (n : ℕ) (item session : SessionPlan) (answer : Result (Unit {0}) AddRefusal)
    → n < length further → item ≡ slice_index_or further n item → session ≡ item → is_err answer ≡ false
    → mid ≡ longer_by old j (take n further) → LabAdds session j mid answer new → new ≡ longer_by old j (take (n + 1) further)
grows old mid new j further n item session (Ok done) inside is same ok before adds =
    let more : take (n + 1) further ≡ take n further ++ session ∷ [] =
    subst (λ (x : SessionPlan). take (n + 1) further ≡ take n further ++ x ∷ []) (sym is ∙ sym same) (take_more further n item inside) in
    let plan : new.world.plan ≡ with_all old.world.plan j (take (n + 1) further) =
    adds.0.1.1 ∙ (ap (λ (x : LabView). with_one_more x.world.plan j session) before
    ∙ (sym (all_and_one old.world.plan j (take n further) session) ∙ ap (λ (l : List SessionPlan). with_all old.world.plan j l) (sym more))) in
    λ i. record {
      world = (adds.0.2 ∙ (λ k. record (before k).world { plan = plan k })) i;
      clocks = (adds.1 ∙ ap (λ (x : LabView). x.clocks) before) i;
      line = (adds.2 ∙ ap (λ (x : LabView). x.line) before) i;
    }
grows old mid new j further n item session (Err refusal) inside is same ok before adds = let no = ok in absurd (cc)
