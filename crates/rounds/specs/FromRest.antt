-- For readers: rounds of all desks of a bench, whatever they did before.
use Rattle.std.specs.Prelude.{◌≢◌, ℕ, List}
use Rattle.turns.specs.Lists.{Each}
use Rattle.edge_rule.specs.DeskView.{DeskView, BenchView, Owns}
use Rattle.edge_rule.specs.Ending.{HasAll, Rests}
use Rattle.rounds.specs.declared.ended.Ended.{Ended}
use Rattle.rounds.specs.declared.ended.Ended.TheVariants.{Quiet}
use Rattle.rounds.specs.Rounds.{Drove}

-- No rounds of desks that rest end because one is quiet. A desk's type keeps that it rests: so `rounds` never answers Quiet, and no
-- bench is closed after it did
abbrev pub NeverQuietFromRest : Type 0
NeverQuietFromRest = (b : BenchView) (limit : ℕ) (old : List DeskView) (ended : Ended) (n : ℕ) (new : List DeskView)
    → Each (Owns b) old → HasAll b.plan old → Each Rests old → Drove b limit old ended n new → ended ≢ Quiet
