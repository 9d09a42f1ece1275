use Rattle.std.proofs.Common.{◌≡◌, ◌<◌, length, get_or, sym, ◌∙◌, subst}
use Rattle.lab_plan.specs.LabPlan.{LabPlan}
use Rattle.legal_steps.specs.Legal.{IsJob}
use Rattle.rounds.specs.Rounds.{Plays}
use Rattle.round_trace.specs.Players.{player_of}
use Rattle.round_trace.proofs.Played.{job_at, behind_then, one_more}
use Rattle.round_trace.proofs.round.round.Goals as goal

pub turn-requires-clause-job : goal.turn-requires-clause-job
turn-requires-clause-job g c =
    let inv = c.loop-place.invariant in
    let many : length c.loop-place.players ≡ length c.args.players.now = c.loop-place.auto.players in
    let inside : c.loop-place.place < length c.loop-place.players = subst (λ n. c.loop-place.place < n) (sym many) c.loop-place-test.true in
    subst (λ (p : LabPlan). IsJob p (get_or c.loop-place.players c.loop-place.place c.index-players-place.result).job) (sym inv.1)
    (job_at c.args.world.now.plan c.loop-place.players c.args.players.now c.loop-place.place c.index-players-place.result inside many inv.2 c.requires.jobs)

pub loop-place-preserved : goal.loop-place-preserved
loop-place-preserved g c =
    let inv = c.loop-place.invariant in let t = c.in_ok-turn.ensures in let plan = c.args.world.now.plan in
    let many : length c.loop-place.players ≡ length c.args.players.now = c.loop-place.auto.players in
    let inside : c.loop-place.place < length c.loop-place.players = subst (λ n. c.loop-place.place < n) (sym many) c.loop-place-test.true in
    let plays = subst (λ (p : LabPlan). Plays p (player_of
    (get_or c.loop-place.players c.loop-place.place c.index-players-place.result)) c.loop-place.events.items t.plays.0 c.turn.new.events.items
    (player_of c.turn.new.player)) inv.1 t.plays.1 in (
      t.stands,
      t.plan ∙ inv.1,
      behind_then plan c.loop-place.players c.args.players.now c.loop-place.place c.index-players-place.result inside many inv.2 c.turn.new.player,
      one_more plan c.loop-place.players c.args.players.now c.loop-place.place c.index-players-place.result inside many inv.2 c.turn.new.player
          c.args.events.now.items c.loop-place.events.items c.turn.new.events.items t.plays.0 inv.3.0 inv.3.1 plays,
    )
