use Rattle.std.proofs.Common.{◌≡◌, ◌==◌, ◌<◌, true, List, length, get_or, sym, ap, ◌∙◌, subst, arith}
use Rattle.std.proofs.lemmas.Bool.{eqb-true}
use Rattle.legal_steps.specs.declared.event.Event.{Event}
use Rattle.edge_rule.specs.DeskView.{DeskView, Owns}
use Rattle.edge_rule.specs.Company.{jobs_of, Distinct}
use Rattle.edge_rule.proofs.ManyHands.{some_left}
use Rattle.rounds.specs.Company.{AllOf, Spread}
use Rattle.rounds.specs.Rounds.{Player, Played, players_of}
use Rattle.rounds.proofs.Lists.{jobs_set, each_at, each_but}
use Rattle.rounds.proofs.Driven.{all_of, met_knows, began, drove, none_drove, same_length}
use Rattle.rounds.proofs.drive.rounds.Goals as goal

pub returns-then-is_empty : goal.returns-then-is_empty
returns-then-is_empty g c = let l : List DeskView = c.args.desks.now in let none : (length l == 0) ≡ true = sym c.is_empty.ensures ∙ c.if-is_empty.true in
    none_drove c.args.bench.now c.args.limit l (eqb-true (length l) 0 none) (all_of c.args.bench.now.plan l c.requires.all)

pub meet_all-requires-clause-own : goal.meet_all-requires-clause-own
meet_all-requires-clause-own g c = c.requires.own

pub meet_all-requires-clause-apart : goal.meet_all-requires-clause-apart
meet_all-requires-clause-apart g c = c.requires.all.once

pub bounds-desks-0 : goal.bounds-desks-0
bounds-desks-0 g c = let some = some_left (length c.args.desks.now) c.if-is_empty.ensures in
    let k = met_knows c.args.bench.now c.args.desks.now c.meet_all.new.desks c.requires.own c.are_at_rest.ensures.rest c.meet_all.ensures in
    let long = same_length c.meet_all.new.desks c.args.desks.now k.jobs in omega (arith, some, long)

pub tell-news-requires : goal.tell-news-requires
tell-news-requires g c = let met : List DeskView = c.meet_all.new.desks in
    let some = some_left (length c.args.desks.now) c.if-is_empty.ensures in
    let k = met_knows c.args.bench.now c.args.desks.now met c.requires.own c.are_at_rest.ensures.rest c.meet_all.ensures in
    let long = same_length met c.args.desks.now k.jobs in
    let there : 0 < length met = omega (arith, some, long) in
    record {
      own = each_at (Owns c.args.bench.now) met 0 (get_or met 0 c.index-desks-0.result) there (ap (get_or met 0) c.index-desks-0.is) k.company.own;
    }

pub play-ended-requires-clause-news : goal.play-ended-requires-clause-news
play-ended-requires-clause-news g c = c.tell-news.ensures.news.0

pub play-ended-requires-clause-spread : goal.play-ended-requires-clause-spread
play-ended-requires-clause-spread g c = let old : List DeskView = c.args.desks.now in
    let s = began c.args.bench.now old c.meet_all.new.desks c.index-desks-0.result c.tell-news.new.desk
    c.tell-news.result.front c.requires.own c.are_at_rest.ensures.rest c.meet_all.ensures
    (some_left (length old) c.if-is_empty.ensures) c.index-desks-0.is c.tell-news.ensures.same c.tell-news.ensures.news.1 in
    subst (Spread c.args.bench.now c.tell-news.result.front) (sym s.same) s.spread

pub play-ended-requires-clause-all : goal.play-ended-requires-clause-all
play-ended-requires-clause-all g c = let old : List DeskView = c.args.desks.now in
    let s = began c.args.bench.now old c.meet_all.new.desks c.index-desks-0.result c.tell-news.new.desk
    c.tell-news.result.front c.requires.own c.are_at_rest.ensures.rest c.meet_all.ensures
    (some_left (length old) c.if-is_empty.ensures) c.index-desks-0.is c.tell-news.ensures.same c.tell-news.ensures.news.1 in
    subst (AllOf c.args.bench.now.plan) (sym (ap jobs_of s.same ∙ s.knows.jobs)) (all_of c.args.bench.now.plan old c.requires.all)

pub bounds-desks-0-2 : goal.bounds-desks-0-2
bounds-desks-0-2 g c = let old : List DeskView = c.args.desks.now in
    let s = began c.args.bench.now old c.meet_all.new.desks c.index-desks-0.result c.tell-news.new.desk
    c.tell-news.result.front c.requires.own c.are_at_rest.ensures.rest c.meet_all.ensures
    (some_left (length old) c.if-is_empty.ensures) c.index-desks-0.is c.tell-news.ensures.same c.tell-news.ensures.news.1 in
    let some = some_left (length old) c.if-is_empty.ensures in
    let long = same_length c.play-ended.new.desks old (c.play-ended.ensures.jobs ∙ (ap jobs_of s.same ∙ s.knows.jobs)) in
    omega (arith, some, long)

pub heed-requires-clause-own : goal.heed-requires-clause-own
heed-requires-clause-own g c = let old : List DeskView = c.args.desks.now in let new : List DeskView = c.play-ended.new.desks in
    let s = began c.args.bench.now old c.meet_all.new.desks c.index-desks-0.result c.tell-news.new.desk
    c.tell-news.result.front c.requires.own c.are_at_rest.ensures.rest c.meet_all.ensures
    (some_left (length old) c.if-is_empty.ensures) c.index-desks-0.is c.tell-news.ensures.same c.tell-news.ensures.news.1 in
    let some = some_left (length old) c.if-is_empty.ensures in
    let long = same_length new old (c.play-ended.ensures.jobs ∙ (ap jobs_of s.same ∙ s.knows.jobs)) in
    let there : 0 < length new = omega (arith, some, long) in
    each_at (Owns c.args.bench.now) new 0 (get_or new 0 c.index-desks-0-2.result) there (ap (get_or new 0) c.index-desks-0-2.is)
    c.play-ended.ensures.spread.own

pub heed-requires-clause-news : goal.heed-requires-clause-news
heed-requires-clause-news g c = c.play-ended.ensures.news

pub meet_all-requires-2-clause-own : goal.meet_all-requires-2-clause-own
meet_all-requires-2-clause-own g c = let old : List DeskView = c.args.desks.now in let new : List DeskView = c.play-ended.new.desks in
    let s = began c.args.bench.now old c.meet_all.new.desks c.index-desks-0.result c.tell-news.new.desk
    c.tell-news.result.front c.requires.own c.are_at_rest.ensures.rest c.meet_all.ensures
    (some_left (length old) c.if-is_empty.ensures) c.index-desks-0.is c.tell-news.ensures.same c.tell-news.ensures.news.1 in
    let some = some_left (length old) c.if-is_empty.ensures in
    let long = same_length new old (c.play-ended.ensures.jobs ∙ (ap jobs_of s.same ∙ s.knows.jobs)) in
    let there : 0 < length new = omega (arith, some, long) in
    let own = each_at (Owns c.args.bench.now) new 0 (get_or new 0 c.index-desks-0-2.result) there (ap (get_or new 0) c.index-desks-0-2.is)
    c.play-ended.ensures.spread.own in
    each_but (Owns c.args.bench.now) new 0 c.heed.new.desk c.play-ended.ensures.spread.own (c.heed.ensures.table ∙ own.0, c.heed.ensures.plan ∙ own.1)

pub meet_all-requires-2-clause-apart : goal.meet_all-requires-2-clause-apart
meet_all-requires-2-clause-apart g c = let old : List DeskView = c.args.desks.now in let new : List DeskView = c.play-ended.new.desks in
    let s = began c.args.bench.now old c.meet_all.new.desks c.index-desks-0.result c.tell-news.new.desk
    c.tell-news.result.front c.requires.own c.are_at_rest.ensures.rest c.meet_all.ensures
    (some_left (length old) c.if-is_empty.ensures) c.index-desks-0.is c.tell-news.ensures.same c.tell-news.ensures.news.1 in
    let x : DeskView = get_or new 0 c.index-desks-0-2.result in
    subst
    Distinct
    (sym (jobs_set new 0 x c.heed.new.desk (ap (get_or new 0) c.index-desks-0-2.is) c.heed.ensures.job
    ∙ (c.play-ended.ensures.jobs ∙ (ap jobs_of s.same ∙ s.knows.jobs)))) c.requires.all.once

pub returns : goal.returns
returns g c =
    let b = c.args.bench.now in
    let old : List DeskView = c.args.desks.now in
    let met : List DeskView = c.meet_all.new.desks in
    let new : List DeskView = c.play-ended.new.desks in
    let h : List Event = c.tell-news.result.front in
    let s = began b old met c.index-desks-0.result c.tell-news.new.desk h c.requires.own c.are_at_rest.ensures.rest c.meet_all.ensures
    (some_left (length old) c.if-is_empty.ensures) c.index-desks-0.is c.tell-news.ensures.same c.tell-news.ensures.news.1 in
    let p = c.play-ended.ensures in let r = c.play-ended.result in let G : List Event = r.2.front in let all = all_of b.plan old c.requires.all in
    let jobs : jobs_of new ≡ jobs_of old = p.jobs ∙ (ap jobs_of s.same ∙ s.knows.jobs) in
    let some = some_left (length old) c.if-is_empty.ensures in let long = same_length new old jobs in
    drove b c.args.limit old met new c.meet_all-2.new.desks h G
    (get_or new 0 c.index-desks-0-2.result) c.heed.new.desk r.0 r.1 s.knows s.front all p.spread jobs
    (λ w. subst (λ (z : List Player). Played b c.args.limit z h r.0 r.1 G new) (ap players_of s.same ∙ s.knows.players) (p.played w).1)
    (omega arith) (ap (get_or new 0) c.index-desks-0-2.is) c.heed.ensures c.meet_all-2.ensures
