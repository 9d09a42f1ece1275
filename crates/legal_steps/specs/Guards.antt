-- The fork guards by the edge alone: what a job that dines so, and sits at the end here, may do with the fork of its edge x.
-- With `IsOwn` before it, each is the line of its event in `May`.
use Rattle.std.specs.Prelude.{◌≡◌, ◌≢◌, true, false}
use Rattle.legal_steps.specs.declared.end.End.{End}
use Rattle.legal_steps.specs.declared.phase.Dining.{Dining}
use Rattle.legal_steps.specs.declared.phase.Dining.TheVariants.{Hungry, Eating}
use Rattle.legal_steps.specs.declared.edge_state.EdgeState.{EdgeState}

-- a hungry job asks for a fork that is there, if the token is here
abbrev pub WantsFork : Dining → End → EdgeState → Type 0
WantsFork dining here x = (dining ≡ Hungry) × (x.fork ≢ here) × (x.token ≡ here)

-- a fork that is here, dirty and asked for goes, but not from an eating job
abbrev pub GivesFork : Dining → End → EdgeState → Type 0
GivesFork dining here x = (dining ≢ Eating) × (x.fork ≡ here) × (x.dirty ≡ true) × (x.token ≡ here)

-- an eating job soils its clean fork
abbrev pub Soils : Dining → End → EdgeState → Type 0
Soils dining here x = (dining ≡ Eating) × (x.fork ≡ here) × (x.dirty ≡ false)
