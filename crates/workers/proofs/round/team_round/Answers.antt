use Rattle.std.proofs.Common.{◌≡◌, ℕ, List, get_or, ap, arith}
use Rattle.edge_rule.specs.DeskView.{DeskView, Owns}
use Rattle.session_layer.specs.Grown.{TookTurns}
use Rattle.workers.proofs.Ahead.{ahead_at, ahead_more, ahead_all}
use Rattle.workers.proofs.round.team_round.Goals as goal

pub desk_turn-turned-requires : goal.desk_turn-turned-requires
desk_turn-turned-requires g c =
    let new : List DeskView = c.loop-place.desks in
    let k : ℕ = c.loop-place.place in
    let x : DeskView = get_or new k c.index-desks-place-in-loop-place.result in
    let is : x ≡ get_or new k x = ap (get_or new k) c.index-desks-place-in-loop-place.is in
    record {
      own = ahead_at (TookTurns 1) (Owns c.args.bench.now) k c.args.desks.now new x
          (let same = c.loop-place.auto.desks in let l = c.loop-place-test.true in omega arith) is c.requires c.loop-place.invariant;
    }

pub loop-place-preserved : goal.loop-place-preserved
loop-place-preserved g c =
    let new : List DeskView = c.loop-place.desks in
    let k : ℕ = c.loop-place.place in
    let x : DeskView = get_or new k c.index-desks-place-in-loop-place.result in
    let is : x ≡ get_or new k x = ap (get_or new k) c.index-desks-place-in-loop-place.is in
    ahead_more (TookTurns 1) k c.args.desks.now new x c.desk_turn-turned.new.desk (let same = c.loop-place.auto.desks in
    let l = c.loop-place-test.true in
    omega arith) is c.desk_turn-turned.ensures c.loop-place.invariant

pub returns : goal.returns
returns g c = ahead_all (TookTurns 1) c.loop-place.place c.args.desks.now c.loop-place.desks (omega arith) c.loop-place.invariant
