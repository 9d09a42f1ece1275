-- For readers: a session that is added to the plan of a world.
use Rattle.std.specs.Prelude.{◌≡◌, ◌≢◌, ℕ, None, Result, Ok, Err}
use Rattle.lab_plan.specs.LabPlan.{LabPlan, SessionPlan}
use Rattle.lab_plan.specs.Longer.{with_one_more, more_refusal, Adds}
use Rattle.legal_steps.specs.declared.phase.Drinking.TheVariants.{Retired}
use Rattle.legal_steps.specs.State.{drinking}
use Rattle.interleaving.specs.declared.add_refusal.AddRefusal.{AddRefusal}
use Rattle.interleaving.specs.declared.add_refusal.AddRefusal.TheVariants.{HasRetired, IsLent, Refused}
use Rattle.interleaving.specs.World.{WorldView}

-- what a plan answers, whoever owns it: it is longer by the session, or it is as it was, because it is only lent, or for the plan's own cause
abbrev pub PlanAdds : LabPlan → ℕ → SessionPlan → Result (Unit {0}) AddRefusal → LabPlan → Type 0
PlanAdds plan j session (Ok _) new = (more_refusal plan j session ≡ None) × (new ≡ with_one_more plan j session)
PlanAdds plan j session (Err HasRetired) new = ⊥
PlanAdds plan j session (Err IsLent) new = new ≡ plan
PlanAdds plan j session (Err (Refused cause)) new = Adds plan j session (Err cause) new

-- A session is added to a world: if the job has retired, nothing changes; else the plan is longer by it or refuses it. State, counts, opening, past
-- and what is kept of it stay as they are
abbrev pub WorldAdds : WorldView → ℕ → SessionPlan → Result (Unit {0}) AddRefusal → WorldView → Type 0
WorldAdds w j session (Err HasRetired) new = (drinking w.state j ≡ Retired) × (new ≡ w)
WorldAdds w j session answer new = (drinking w.state j ≢ Retired) × PlanAdds w.plan j session answer new.plan × (new ≡ record w { plan = new.plan })
