use Rattle.std.proofs.Common.{◌-◌, sym, ◌∙◌, arith}
use Rattle.workers.proofs.TeamTurns.{all_own, took_nothing, round_more}
use Rattle.workers.proofs.RestTurns.{rest_early, rest_full}
use Rattle.workers.proofs.last_rounds.finish.Goals as goal

pub loop-number-init : goal.loop-number-init
loop-number-init g c = ((omega arith), took_nothing c.args.taken c.args.desks.now)

pub team_round-requires : goal.team_round-requires
team_round-requires g c =
    all_own c.args.bench.now (c.loop-number.number - c.args.taken) c.args.desks.now c.loop-number.desks c.loop-number.invariant.1 c.requires.own

pub loop-number-preserved : goal.loop-number-preserved
loop-number-preserved g c =
    round_more c.args.taken c.loop-number.number c.args.turns c.args.desks.now c.loop-number.desks c.team_round.new.desks
    (let l = c.loop-number.auto.number in omega arith) (let l = c.loop-number-test.true in omega arith) c.loop-number.invariant.1 c.team_round.ensures

pub returns-then-all_retired : goal.returns-then-all_retired
returns-then-all_retired g c =
    rest_early (c.loop-number.number - c.args.taken) (c.args.turns - c.args.taken) c.args.desks.now c.loop-number.desks
    c.loop-number.invariant.0 c.loop-number.invariant.1 (sym c.all_retired.ensures ∙ c.if-all_retired.true)

pub returns : goal.returns
returns g c =
    rest_full (c.loop-number.number - c.args.taken) (c.args.turns - c.args.taken) c.args.desks.now c.loop-number.desks
    (let k = c.loop-number.invariant.0 in let l = c.loop-number.auto.number in let h = c.loop-number-test.false in omega arith) c.loop-number.invariant.1
