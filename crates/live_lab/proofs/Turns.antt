-- Turns and service by the state are turns and service by what the job knows.
use Rattle.std.proofs.Common.{◌≡◌, ℕ, ◌+◌, refl, sym, ◌∙◌, subst}
use Rattle.lab_plan.specs.LabPlan.{LabPlan, edges_of}
use Rattle.legal_steps.specs.State.{State}
use Rattle.interleaving.specs.World.{WorldView}
use Rattle.turns.specs.History.{learned_all}
use Rattle.turns.specs.Acts.{AreActs}
use Rattle.turns.specs.Turn.{visits_events}
use Rattle.round_trace.proofs.Learned.{learned_all_legal}
use Rattle.settling.specs.Doing.{VisitsEdges}
use Rattle.settling.proofs.Worlds.{leads_both}
use Rattle.live_lab.specs.Doing.{ActsIn, TurnsIn}

pub turned : (old mid new : WorldView) (j waited done more : ℕ) → VisitsEdges old j (edges_of old.plan j) done mid → ActsIn mid j waited more new
    → TurnsIn old j waited (done + more) new
turned old mid new j waited done more v a =
    let learns : mid.state ≡ learned_all old.plan old.state (visits_events j v.visits) = v.leads.run.leads ∙
    sym (learned_all_legal old.plan old.state (visits_events j v.visits) v.leads.run.legal) in
    record {
      visits = v.visits;
      acts = a.acts;
      turn = record {
        edges = v.edges;
        due = v.due;
        acts_due = subst (λ (z : LabPlan × State). AreActs z.0 z.1 j waited a.acts) (λ i. (v.leads.same_plan i, learns i)) a.due;
        events_are = refl;
      };
      none_lost = v.none_lost;
      says = λ i. v.done i + a.says i;
      leads = leads_both old mid new (visits_events j v.visits) a.acts v.leads a.leads;
    }
