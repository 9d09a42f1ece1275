-- the jobs so far did so; each later one still may, and it is marked who may have something to do
use Rattle.std.proofs.Common.{◌≡◌, ◌≤◌, ℕ}
use Rattle.std.specs.List.{count_by}
use Rattle.legal_steps.specs.Legal.{IsJob, May}
use Rattle.legal_steps.specs.State.{Has}
use Rattle.interleaving.specs.World.{LeadsTo}
use Rattle.reasons.specs.Deeds.{is_deed}
use Rattle.settling.specs.Left.{AreMarked}
use Rattle.live_lab.specs.Sets.{events_below}
use Rattle.live_lab.specs.Doing.{said}
use Rattle.live_lab.proofs.words.say_each.Given as goal

abbrev pub invariant-loop-job : goal.invariant-loop-job
invariant-loop-job g l =
    LeadsTo l.fn.world (events_below (said l.word) l.set l.job) l.world
    × ((k : ℕ) → l.job ≤ k → IsJob l.fn.world.plan k → Has l.set k → May l.world.plan l.world.state (said l.word k))
    × AreMarked l.world.plan l.world.state l.due
    × (l.many ≡ count_by is_deed (events_below (said l.word) l.set l.job)) × (l.many ≤ l.job)
