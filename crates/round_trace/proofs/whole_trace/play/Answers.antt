use Rattle.std.proofs.Common.{◌≡◌, ◌↔◌, ◌≤◌, true, sym, ◌∙◌, subst, refl, arith}
use Rattle.std.proofs.lemmas.Bool.{false≢true}
use Rattle.lab_plan.specs.LabPlan.{LabPlan}
use Rattle.turns.specs.History.{IsHistory}
use Rattle.turns.specs.AtTheEnd.{AllRetired}
use Rattle.rounds.specs.Rounds.{Round}
use Rattle.round_trace.specs.Players.{players_of, AreJobs}
use Rattle.round_trace.proofs.Played.{are_jobs, round_more, ran, retired_in}
use Rattle.round_trace.proofs.whole_trace.play.Goals as goal

pub round-requires-clause-jobs : goal.round-requires-clause-jobs
round-requires-clause-jobs g c =
    let inv = c.loop-number.invariant in
    subst (λ (p : LabPlan). AreJobs p (players_of c.loop-number.players)) (sym inv.1) (are_jobs c.args.world.now.plan c.args.events.now.items
    (players_of c.loop-number.players) c.loop-number._number inv.2.0 c.loop-number.events.items inv.2.1)

pub loop-number-preserved : goal.loop-number-preserved
loop-number-preserved g c =
    let inv = c.loop-number.invariant in let t = c.in_ok-round.ensures in let plan = c.args.world.now.plan in let h = c.loop-number.events.items in
    let legal : IsHistory plan h = subst (λ (p : LabPlan). IsHistory p h) inv.1 inv.0.legal in
    let test : (c.all_retired.result ≡ true) ↔ AllRetired plan h = retired_in plan c.loop-number.world h c.all_retired.result inv.0 inv.1
    c.all_retired.ensures in
    let other : ¬ AllRetired plan h = λ retired. false≢true (sym c.if-all_retired.false ∙ test.1 retired) in
    let played : Round plan (players_of c.loop-number.players) t.plays.0 h c.round.new.events.items (players_of c.round.new.players) =
    subst (λ (p : LabPlan). Round p (players_of c.loop-number.players) t.plays.0 h c.round.new.events.items
    (players_of c.round.new.players)) inv.1 t.plays.1 in (
      t.stands,
      t.plan ∙ inv.1,
      (
        t.plays.0,
        round_more plan c.args.events.now.items (players_of c.loop-number.players) c.loop-number._number inv.2.0 h inv.2.1 c.requires.rests legal
            (players_of c.round.new.players) t.plays.0 c.round.new.events.items other played,
      ),
    )

pub returns-then-all_retired : goal.returns-then-all_retired
returns-then-all_retired g c =
    let inv = c.loop-number.invariant in let plan = c.args.world.now.plan in let h = c.loop-number.events.items in
    let legal : IsHistory plan h = subst (λ (p : LabPlan). IsHistory p h) inv.1 inv.0.legal in
    let test : (c.all_retired.result ≡ true) ↔ AllRetired plan h = retired_in plan c.loop-number.world h c.all_retired.result inv.0 inv.1
    c.all_retired.ensures in
    let most : c.loop-number._number ≤ c.args.limit = let l = c.loop-number-test.true in omega (arith, l) in
    ran plan c.args.events.now.items (players_of c.loop-number.players) c.loop-number._number inv.2.0 h inv.2.1 c.requires.rests legal c.args.limit true most
    (λ yes. test.0 c.if-all_retired.true, λ retired. refl) (λ is. absurd (false≢true (sym is)))

pub returns : goal.returns
returns g c =
    let inv = c.loop-number.invariant in let plan = c.args.world.now.plan in let h = c.loop-number.events.items in
    let legal : IsHistory plan h = subst (λ (p : LabPlan). IsHistory p h) inv.1 inv.0.legal in
    let test : (c.all_retired-2.result ≡ true) ↔ AllRetired plan h = retired_in plan c.loop-number.world h c.all_retired-2.result inv.0 inv.1
    c.all_retired-2.ensures in
    let end : c.loop-number._number ≡ c.args.limit = let l = c.loop-number-test.false in let m = c.loop-number.auto._number-end in omega (arith, l, m) in
    ran plan c.args.events.now.items (players_of c.loop-number.players) c.loop-number._number inv.2.0 h inv.2.1 c.requires.rests legal c.args.limit
    c.all_retired-2.result (omega (arith, end)) test
    (λ is. end)
