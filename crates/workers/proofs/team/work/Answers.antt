use Rattle.std.proofs.Common.{◌≡◌, ◌<◌, ℕ, List, length, get_or, ap, subst, arith}
use Rattle.edge_rule.specs.DeskView.{DeskView, Owns}
use Rattle.session_layer.specs.Grown.{TookTurns}
use Rattle.workers.specs.Pairs.{Pairs}
use Rattle.workers.specs.Team.{LookedOut}
use Rattle.workers.proofs.Pairs.{pairs_length}
use Rattle.workers.proofs.TeamTurns.{all_own, none_took, each_at, round_took, worked_early, goes_on, ends, goes_none}
use Rattle.workers.proofs.team.work.Goals as goal

pub loop-number-init : goal.loop-number-init
loop-number-init g c = (none_took c.args.desks.now, goes_none c.args.desks.now)

pub team_round-idle-requires : goal.team_round-idle-requires
team_round-idle-requires g c =
    all_own c.args.bench.now c.loop-number.number c.args.desks.now c.loop-number.desks c.loop-number.invariant.0 c.requires.own

some_new : (n : ℕ) (old mid new : List DeskView) → Pairs (TookTurns n) old mid → Pairs (TookTurns 1) mid new → 0 < length old → 0 < length new
some_new n old mid new a t l = let x = pairs_length (TookTurns n) old mid a in let y = pairs_length (TookTurns 1) mid new t in omega arith

pub saw_all_retired-requires : goal.saw_all_retired-requires
saw_all_retired-requires g c =
    let old : List DeskView = c.args.desks.now in
    let mid : List DeskView = c.loop-number.desks in
    let new : List DeskView = c.team_round-idle.new.desks in
    record {
      own = each_at (Owns c.args.bench.now) new 0 (get_or new 0 c.index-desks-0.result)
          (some_new c.loop-number.number old mid new c.loop-number.invariant.0 c.team_round-idle.ensures c.requires.some) (ap (get_or new 0) c.index-desks-0.is)
          (all_own c.args.bench.now 1 mid new c.team_round-idle.ensures
          (all_own c.args.bench.now c.loop-number.number old mid c.loop-number.invariant.0 c.requires.own));
    }

pub returns-then-saw_all_retired-clause-worked : goal.returns-then-saw_all_retired-clause-worked
returns-then-saw_all_retired-clause-worked g c =
    let old : List DeskView = c.args.desks.now in
    let mid : List DeskView = c.loop-number.desks in
    let new : List DeskView = c.team_round-idle.new.desks in
    let x : DeskView = get_or new 0 c.index-desks-0.result in
    let y : DeskView = c.saw_all_retired.new.desk in
    let n : ℕ = c.loop-number.number in
    let t : Pairs (TookTurns n) old mid = c.loop-number.invariant.0 in
    let s : Pairs (TookTurns 1) mid new = c.team_round-idle.ensures in
    let some : 0 < length new = some_new n old mid new t s c.requires.some in
    let is : x ≡ get_or new 0 x = ap (get_or new 0) c.index-desks-0.is in
    worked_early n old mid new x y t s some is c.args.turns (let l = c.loop-number-test.true in omega arith)
    (subst (λ r. LookedOut x r y) c.if-saw_all_retired.true c.saw_all_retired.ensures)

pub returns-then-saw_all_retired-clause-looks : goal.returns-then-saw_all_retired-clause-looks
returns-then-saw_all_retired-clause-looks g c =
    let old : List DeskView = c.args.desks.now in
    let mid : List DeskView = c.loop-number.desks in
    let new : List DeskView = c.team_round-idle.new.desks in
    let x : DeskView = get_or new 0 c.index-desks-0.result in
    let y : DeskView = c.saw_all_retired.new.desk in
    let n : ℕ = c.loop-number.number in
    let t : Pairs (TookTurns n) old mid = c.loop-number.invariant.0 in
    let s : Pairs (TookTurns 1) mid new = c.team_round-idle.ensures in
    let some : 0 < length new = some_new n old mid new t s c.requires.some in
    let is : x ≡ get_or new 0 x = ap (get_or new 0) c.index-desks-0.is in
    ends n old mid new x y t s some is c.args.turns (let l = c.loop-number-test.true in omega arith) c.loop-number.invariant.1
    (subst (λ r. LookedOut x r y) c.if-saw_all_retired.true c.saw_all_retired.ensures)

pub returns-then-not-goes_on-clause-worked : goal.returns-then-not-goes_on-clause-worked
returns-then-not-goes_on-clause-worked g c =
    let old : List DeskView = c.args.desks.now in
    let mid : List DeskView = c.loop-number.desks in
    let new : List DeskView = c.team_round-idle.new.desks in
    let x : DeskView = get_or new 0 c.index-desks-0.result in
    let y : DeskView = c.saw_all_retired.new.desk in
    let n : ℕ = c.loop-number.number in
    let t : Pairs (TookTurns n) old mid = c.loop-number.invariant.0 in
    let s : Pairs (TookTurns 1) mid new = c.team_round-idle.ensures in
    let some : 0 < length new = some_new n old mid new t s c.requires.some in
    let is : x ≡ get_or new 0 x = ap (get_or new 0) c.index-desks-0.is in
    ((let l = c.loop-number-test.true in omega arith), round_took n old mid new x y t s some is c.saw_all_retired.result c.saw_all_retired.ensures)

pub returns-then-not-goes_on-clause-looks : goal.returns-then-not-goes_on-clause-looks
returns-then-not-goes_on-clause-looks g c =
    let old : List DeskView = c.args.desks.now in
    let mid : List DeskView = c.loop-number.desks in
    let new : List DeskView = c.team_round-idle.new.desks in
    let x : DeskView = get_or new 0 c.index-desks-0.result in
    let y : DeskView = c.saw_all_retired.new.desk in
    let n : ℕ = c.loop-number.number in
    let t : Pairs (TookTurns n) old mid = c.loop-number.invariant.0 in
    let s : Pairs (TookTurns 1) mid new = c.team_round-idle.ensures in
    let some : 0 < length new = some_new n old mid new t s c.requires.some in
    let is : x ≡ get_or new 0 x = ap (get_or new 0) c.index-desks-0.is in
    goes_on n old mid new x y t s some is c.loop-number.invariant.1 (subst (λ r. LookedOut x r y) c.if-saw_all_retired.false c.saw_all_retired.ensures)

pub loop-number-preserved : goal.loop-number-preserved
loop-number-preserved g c =
    let old : List DeskView = c.args.desks.now in
    let mid : List DeskView = c.loop-number.desks in
    let new : List DeskView = c.team_round-idle.new.desks in
    let x : DeskView = get_or new 0 c.index-desks-0.result in
    let y : DeskView = c.saw_all_retired.new.desk in
    let n : ℕ = c.loop-number.number in
    let t : Pairs (TookTurns n) old mid = c.loop-number.invariant.0 in
    let s : Pairs (TookTurns 1) mid new = c.team_round-idle.ensures in
    let some : 0 < length new = some_new n old mid new t s c.requires.some in
    let is : x ≡ get_or new 0 x = ap (get_or new 0) c.index-desks-0.is in (
      round_took n old mid new x y t s some is c.saw_all_retired.result c.saw_all_retired.ensures,
      goes_on n old mid new x y t s some is c.loop-number.invariant.1 (subst (λ r. LookedOut x r y) c.if-saw_all_retired.false c.saw_all_retired.ensures),
    )
