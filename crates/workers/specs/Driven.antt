-- For readers: desks that workers drive.
use Rattle.std.specs.Prelude.{◌≡◌, ℕ, ◌<◌, true, false, List, [], ◌∷◌}
use Rattle.turns.specs.Lists.{Each}
use Rattle.edge_rule.specs.DeskView.{DeskView, BenchView}
use Rattle.edge_rule.specs.Company.{jobs_of}
use Rattle.edge_rule.specs.Ending.{Any, HasAll}
use Rattle.session_layer.specs.Grown.{TookTurns}
use Rattle.rounds.specs.Company.{first_front, Company, all_retired}
use Rattle.rounds.specs.declared.ended.Ended.{Ended}
use Rattle.rounds.specs.declared.ended.Ended.TheVariants as Ends
use Rattle.workers.specs.Pairs.{Pairs}
use Rattle.workers.specs.Team.{TookUpTo}

-- each took at most this many turns, and that many if not every desk is retired
pub record TookRest (rest : ℕ) (old new : List DeskView) : Type 0 where
  pub took : Pairs (TookUpTo rest) old new
  pub full : all_retired new ≡ false → Pairs (TookTurns rest) old new

-- each is one of these, changed as R says
abbrev pub FromOne : (DeskView → DeskView → Type 0) → List DeskView → List DeskView → Type 0
FromOne R old new = Each (λ (e : DeskView). Any (λ (d : DeskView). R d e) old) new

abbrev pub Ascending : List ℕ → Type 0
Ascending [] = Unit {0}
Ascending (j ∷ js) = Each (λ (k : ℕ). j < k) js × Ascending js

-- Every desk came back, in ascending order of the jobs. Each took whole turns, and all that were asked for if not every desk is retired. The first has seen
-- all records whole
pub record Driven (b : BenchView) (turns : ℕ) (old new : List DeskView) : Type 0 where
  pub order : Ascending (jobs_of new)
  pub all : HasAll b.plan new
  pub took : FromOne (TookUpTo turns) old new
  pub full : all_retired new ≡ false → FromOne (TookTurns turns) old new
  pub company : Company b (first_front new) new

-- What `threads` answers: NoMemory with the desks as given; AllRetired exactly if every desk is retired; else Limit
abbrev pub Threaded : BenchView → ℕ → List DeskView → Ended → List DeskView → Type 0
Threaded b turns old Ends.NoMemory new = new ≡ old
Threaded b turns old Ends.AllRetired new = Driven b turns old new × (all_retired new ≡ true)
Threaded b turns old Ends.Limit new = Driven b turns old new × (all_retired new ≡ false)
Threaded b turns old Ends.Quiet new = ⊥
