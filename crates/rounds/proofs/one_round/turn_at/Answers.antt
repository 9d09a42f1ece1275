use Rattle.std.proofs.Common.{ℕ, ◌+◌, ◌≡◌, arith, List, get_or, set, take, drop, sym, ap, ◌∙◌, subst}
use Rattle.legal_steps.specs.declared.event.Event.{Event}
use Rattle.edge_rule.specs.DeskView.{DeskView, Owns}
use Rattle.rounds.specs.Company.{IsWhole, Spread}
use Rattle.rounds.specs.Rounds.{Player, Plays, player_of, players_of, no_player}
use Rattle.rounds.proofs.Lists.{jobs_set, players_set, player_at, take_set, drop_set, get_set, length_players, each_at}
use Rattle.rounds.proofs.Together.{owns_on, job_on, spread_on, whole_then, played}
use Rattle.rounds.proofs.one_round.turn_at.Goals as goal

at_is : (l : List DeskView) (k : ℕ) (x0 : DeskView) → x0 ≡ get_or l k x0 → get_or l k x0 ≡ get_or l k (get_or l k x0)
at_is l k x0 e = ap (get_or l k) e

pub tell-later-requires : goal.tell-later-requires
tell-later-requires g c = let l : List DeskView = c.args.desks.now in let k = c.args.place in let x : DeskView = get_or l k c.index-desks-place.result in
    record {
      own = owns_on c.args.bench.now x c.heed.new.desk c.turn-turned.new.desk c.turn-turned.result
          c.args.news.front (each_at (Owns c.args.bench.now) l k x c.requires.place
          (at_is l k c.index-desks-place.result c.index-desks-place.is) c.requires.spread.own) c.heed.ensures c.turn-turned.ensures;
    }

pub returns-clause-spread : goal.returns-clause-spread
returns-clause-spread g c =
    let l : List DeskView = c.args.desks.now in
    let k = c.args.place in
    let x : DeskView = get_or l k c.index-desks-place.result in
    let G : List Event = c.tell-later.result.front in
    subst (λ z. Spread c.args.bench.now G (set l k z)) (sym c.tell-later.ensures.same)
    (spread_on c.args.bench.now l k x c.heed.new.desk c.turn-turned.new.desk c.turn-turned.result c.args.news.front
    G c.requires.spread c.requires.all c.requires.place (at_is l k c.index-desks-place.result c.index-desks-place.is)
    c.heed.ensures c.turn-turned.ensures c.tell-later.ensures.news.1 c.tell-later.ensures.legal)

pub returns-clause-jobs : goal.returns-clause-jobs
returns-clause-jobs g c = let l : List DeskView = c.args.desks.now in let k = c.args.place in let x : DeskView = get_or l k c.index-desks-place.result in
    jobs_set l k x c.tell-later.new.desk (at_is l k c.index-desks-place.result c.index-desks-place.is) (ap (λ (z : DeskView). z.job) c.tell-later.ensures.same
    ∙ job_on x c.heed.new.desk c.turn-turned.new.desk c.turn-turned.result c.args.news.front c.heed.ensures c.turn-turned.ensures)

pub returns-clause-before : goal.returns-clause-before
returns-clause-before g c =
    let l : List DeskView = c.args.desks.now in
    let k = c.args.place in
    ap (take k) (players_set l k c.tell-later.new.desk) ∙ take_set (players_of l) k (player_of c.tell-later.new.desk)

pub returns-clause-behind : goal.returns-clause-behind
returns-clause-behind g c =
    let l : List DeskView = c.args.desks.now in
    let k = c.args.place in
    ap (drop (k + 1)) (players_set l k c.tell-later.new.desk) ∙ drop_set (players_of l) k (player_of c.tell-later.new.desk)

pub returns-clause-plays : goal.returns-clause-plays
returns-clause-plays g c = λ whole. let l : List DeskView = c.args.desks.now in
    let k = c.args.place in
    let x : DeskView = get_or l k c.index-desks-place.result in
    let is = at_is l k c.index-desks-place.result c.index-desks-place.is in
    let G : List Event = c.tell-later.result.front in
    let w : IsWhole G (set l k c.turn-turned.new.desk) = subst (λ z. IsWhole G (set l k z)) c.tell-later.ensures.same whole in
    let before : get_or (players_of l) k no_player ≡ player_of x = player_at l k x no_player c.requires.place is in
    let after : get_or (players_of (set l k c.tell-later.new.desk)) k no_player ≡ player_of c.turn-turned.new.desk =
    ap (λ z. get_or z k no_player) (players_set l k c.tell-later.new.desk)
    ∙ (get_set (players_of l) k (player_of c.tell-later.new.desk) no_player (let n = length_players l in let m = c.requires.place in omega arith)
    ∙ ap player_of c.tell-later.ensures.same) in (
      whole_then c.args.bench.now l k x c.heed.new.desk c.turn-turned.new.desk c.turn-turned.result c.args.news.front G c.requires.spread
          c.requires.all c.requires.place is c.heed.ensures c.turn-turned.ensures c.tell-later.ensures.news.1 c.tell-later.ensures.legal w,
      subst (λ (z : Player × Player). Plays c.args.bench.now.plan z.0 c.args.news.front c.turn-turned.result G z.1) (λ i. (sym before i, sym after i))
          (played c.args.bench.now l k x c.heed.new.desk c.turn-turned.new.desk c.turn-turned.result c.args.news.front G c.requires.spread
          c.requires.all c.requires.place is c.heed.ensures c.turn-turned.ensures c.tell-later.ensures.news.1 c.tell-later.ensures.legal w),
    )
