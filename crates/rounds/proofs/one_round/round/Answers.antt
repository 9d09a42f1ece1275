use Rattle.std.proofs.Common.{ℕ, Bool, List, ◌+◌, ◌≡◌, ◌&&◌, ◌++◌, ◌∷◌, [], take, get_or, sym, ap, ◌∙◌, subst, arith}
use Rattle.std.proofs.lemmas.List.{take_all}
use Rattle.rounds.specs.Company.{AllOf}
use Rattle.rounds.specs.Rounds.{Player, Plays, Round, players_of, no_player}
use Rattle.rounds.proofs.Lists.{take_snoc, drop_next, get_same, length_players}
use Rattle.rounds.proofs.Snoc.{round-snoc}
use Rattle.rounds.proofs.one_round.round.Goals as goal

pub turn_at-turned-requires-clause-all : goal.turn_at-turned-requires-clause-all
turn_at-turned-requires-clause-all g c = subst (AllOf c.args.bench.now.plan) (sym c.loop-place.invariant.2) c.requires.all

pub loop-place-preserved : goal.loop-place-preserved
loop-place-preserved g c =
    let inv = c.loop-place.invariant in
    let t = c.turn_at-turned.ensures in
    let k : ℕ = c.loop-place.place in
    let r = c.turn_at-turned.result in
    let first : List Player = players_of c.args.desks.now in
    let old : List Player = players_of c.loop-place.desks in
    let new : List Player = players_of c.turn_at-turned.new.desks in
    let n = length_players c.args.desks.now in
    let m = length_players c.turn_at-turned.new.desks in
    let a = c.turn_at-turned.auto.desks in
    let b = c.loop-place.auto.desks in
    let inside = c.loop-place-test.true in
    let taken : take (k + 1) new ≡ take k old ++ get_or new k no_player ∷ [] =
    take_snoc new k no_player (omega arith) ∙ ap (λ z. z ++ get_or new k no_player ∷ []) t.before in (
      t.spread,
      t.news,
      t.jobs ∙ inv.2,
      t.behind ∙ drop_next old first k inv.3,
      λ whole. let p = t.plays whole in let q = inv.4 p.0 in (
        q.0,
        subst (λ (z : List Player × Bool × List Player). Round c.args.bench.now.plan z.0 (c.loop-place.idle && z.1) c.args.news.front r.1.front z.2)
            (λ i. (sym (take_snoc first k no_player (omega arith)) i, sym c.is_idle-idle.ensures i, sym taken i))
            (round-snoc c.args.bench.now.plan (take k first)
            (get_or first k no_player) c.args.news.front c.loop-place.last.front r.1.front r.0 c.loop-place.idle (take k old) (get_or new k no_player) q.1
            (subst (λ (z : Player). Plays c.args.bench.now.plan z c.loop-place.last.front r.0 r.1.front (get_or new k no_player))
            (get_same old first k no_player inv.3) p.1)),
      ),
    )

pub returns-clause-plays : goal.returns-clause-plays
returns-clause-plays g c = λ whole. let q = c.loop-place.invariant.4 whole in let k : ℕ = c.loop-place.place in
    let first : List Player = players_of c.args.desks.now in let last : List Player = players_of c.loop-place.desks in
    let n = length_players c.args.desks.now in
    let m = length_players c.loop-place.desks in
    let b = c.loop-place.auto.desks in
    let done = c.loop-place-test.false in (
      q.0,
      subst (λ (z : List Player × List Player). Round c.args.bench.now.plan z.0 c.loop-place.idle c.args.news.front c.loop-place.last.front z.1)
          (λ i. (take_all k first (omega arith) i, take_all k last (omega arith) i)) q.1,
    )
