use Rattle.std.proofs.Common.{◌-◌, arith}
use Rattle.workers.proofs.TeamTurns.{all_own, took_nothing, round_more}
use Rattle.workers.proofs.team.catch_up.Goals as goal

pub loop-number-init : goal.loop-number-init
loop-number-init g c = ((omega arith), took_nothing c.args.taken c.args.desks.now)

pub team_round-requires : goal.team_round-requires
team_round-requires g c =
    all_own c.args.bench.now (c.loop-number.number - c.args.taken) c.args.desks.now c.loop-number.desks c.loop-number.invariant.1 c.requires.own

pub loop-number-preserved : goal.loop-number-preserved
loop-number-preserved g c =
    round_more c.args.taken c.loop-number.number c.args.turns c.args.desks.now c.loop-number.desks c.team_round.new.desks
    (let l = c.loop-number.auto.number in omega arith) (let l = c.loop-number-test.true in omega arith) c.loop-number.invariant.1 c.team_round.ensures
