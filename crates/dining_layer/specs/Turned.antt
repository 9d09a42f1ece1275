-- An edge as the job at one of its ends sees it: turned round, so that the job always sits at the higher end.
use Rattle.std.specs.Prelude.{ℕ}
use Rattle.lab_plan.specs.LabPlan.{LabPlan}
use Rattle.legal_steps.specs.declared.end.End.{End}
use Rattle.legal_steps.specs.declared.end.End.TheVariants.{Lower, Higher}
use Rattle.legal_steps.specs.declared.edge_state.EdgeState.{EdgeState}
use Rattle.legal_steps.specs.State.{opposite, bottles_at}

-- the end of a thing, as it is seen from here
abbrev pub end_from : End → End → End
end_from Higher thing = thing
end_from Lower thing = opposite thing

-- the edge as it is seen from here: what is here is at the higher end
abbrev pub turned : LabPlan → ℕ → End → EdgeState → EdgeState
turned plan e here x = record {
  fork = end_from here x.fork;
  dirty = x.dirty;
  token = end_from here x.token;
  bottles = bottles_at plan e here x;
  bottle_tokens = bottles_at plan e here (record x { bottles = x.bottle_tokens });
}
