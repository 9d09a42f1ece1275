use Rattle.std.proofs.Common.{◌≡◌, ◌↔◌, ◌+◌, Bool, true, List, [], ◌∷◌, ◌++◌, refl, sym, ap, ◌∙◌, subst, arith}
use Rattle.lab_plan.specs.LabPlan.{LabPlan}
use Rattle.legal_steps.specs.declared.event.Event.{Event}
use Rattle.edge_rule.specs.DeskView.{DeskView}
use Rattle.turns.specs.AtTheEnd.{AllRetired}
use Rattle.rounds.specs.Rounds.{Drove}
use Rattle.waiting.specs.Rounds.{joined}
use Rattle.waiting.specs.Watching.{MayNote, Notes}
use Rattle.waiting.proofs.Stands.{begins, has_all, why_none, stands_then, one_more, length_more, added, watched, none_going, none_asked}
use Rattle.waiting.proofs.watcher.drive.Goals as goal

pub loop-number-init : goal.loop-number-init
loop-number-init g c = record {
  rounds = [];
  number = refl;
  stands = begins c.args.bench.now c.args.desks.now c.requires.opened;
  told = c.requires.fresh;
}

pub rounds-done-requires-clause-all : goal.rounds-done-requires-clause-all
rounds-done-requires-clause-all g c = has_all c.args.bench.now c.loop-number.desks c.loop-number.invariant.stands.jobs

pub returns-then-done-eq0 : goal.returns-then-done-eq0
returns-then-done-eq0 g c =
    let b = c.args.bench.now in let f = c.loop-number.invariant in let s = f.stands in let ended = c.rounds-done.result.0 in
    let new : List DeskView = c.rounds-done.new.desks in
    let none : c.rounds-done.result.1 ≡ 0 = c.if-done-eq0.true in
    let d : Drove b 1 c.loop-number.desks ended 0 new = subst (λ m. Drove b 1 c.loop-number.desks ended m new) none c.rounds-done.ensures in
    let over : AllRetired b.plan (joined f.rounds) =
    none_going b.plan (joined f.rounds) ended (why_none b f.rounds c.loop-number.desks s 1 ended new d) in
    let less = c.loop-number-test.true in let n = f.number in
    watched b f.rounds c.loop-number.desks s c.args.limit true (omega (arith, less, n)) (λ is. over, λ retired. refl) (λ is. absurd (cc))
    (g.W.Watcher.tells b.plan c.loop-number.watcher) f.told c.loop-number.number (sym n)

pub note-requires : goal.note-requires
note-requires g c =
    let b = c.args.bench.now in let f = c.loop-number.invariant in let ended = c.rounds-done.result.0 in
    let new : List DeskView = c.rounds-done.new.desks in
    let some : ¬ (c.rounds-done.result.1 ≡ 0) = c.if-done-eq0.false in
    let most = c.rounds-done.ensures.most in
    let one : c.rounds-done.result.1 ≡ 1 = omega (arith, some, most) in
    let d : Drove b 1 c.loop-number.desks ended 1 new = subst (λ m. Drove b 1 c.loop-number.desks ended m new) one c.rounds-done.ensures in
    subst (λ (p : LabPlan). MayNote p new (c.loop-number.number + 1) (g.W.Watcher.tells p c.loop-number.watcher)) (sym c.plan.ensures)
    (record {
      rounds = f.rounds;
      events = added b f.rounds c.loop-number.desks f.stands ended new d;
      more = one_more b f.rounds c.loop-number.desks f.stands ended new d (c.loop-number.number + 1) (ap (λ n. n + 1) (sym f.number));
      told = f.told;
    })

pub loop-number-preserved : goal.loop-number-preserved
loop-number-preserved g c =
    let b = c.args.bench.now in let f = c.loop-number.invariant in let ended = c.rounds-done.result.0 in
    let new : List DeskView = c.rounds-done.new.desks in
    let some : ¬ (c.rounds-done.result.1 ≡ 0) = c.if-done-eq0.false in
    let most = c.rounds-done.ensures.most in
    let one : c.rounds-done.result.1 ≡ 1 = omega (arith, some, most) in
    let d : Drove b 1 c.loop-number.desks ended 1 new = subst (λ m. Drove b 1 c.loop-number.desks ended m new) one c.rounds-done.ensures in
    let events : List Event = added b f.rounds c.loop-number.desks f.stands ended new d in
    let notes : Notes b.plan new (c.loop-number.number + 1) (g.W.Watcher.tells b.plan c.loop-number.watcher) (g.W.Watcher.tells b.plan c.note.new.self) =
    subst (λ (p : LabPlan). Notes p new (c.loop-number.number + 1) (g.W.Watcher.tells p c.loop-number.watcher) (g.W.Watcher.tells p c.note.new.self))
    c.plan.ensures c.in_ok-note.ensures in
    record {
      rounds = f.rounds ++ events ∷ [];
      number = length_more f.rounds events ∙ ap (λ n. n + 1) f.number;
      stands = stands_then b f.rounds c.loop-number.desks f.stands ended new d;
      told = notes f.rounds events
          (one_more b f.rounds c.loop-number.desks f.stands ended new d (c.loop-number.number + 1) (ap (λ n. n + 1) (sym f.number))) f.told;
    }

pub rounds-ended-requires-clause-all : goal.rounds-ended-requires-clause-all
rounds-ended-requires-clause-all g c = has_all c.args.bench.now c.loop-number.desks c.loop-number.invariant.stands.jobs

pub returns : goal.returns
returns g c =
    let b = c.args.bench.now in let f = c.loop-number.invariant in let s = f.stands in let ended = c.rounds-ended.result.0 in
    let new : List DeskView = c.rounds-ended.new.desks in
    let most = c.rounds-ended.ensures.most in
    let none : c.rounds-ended.result.1 ≡ 0 = omega (arith, most) in
    let d : Drove b 0 c.loop-number.desks ended 0 new = subst (λ m. Drove b 0 c.loop-number.desks ended m new) none c.rounds-ended.ensures in
    let l = c.loop-number-test.false in let m = c.loop-number.auto.number-end in let n = f.number in
    let test : (c.is_all_retired.result ≡ true) ↔ AllRetired b.plan (joined f.rounds) =
    subst (λ (z : Bool). (z ≡ true) ↔ AllRetired b.plan (joined f.rounds)) (sym c.is_all_retired.ensures)
    (none_asked b.plan (joined f.rounds) ended (why_none b f.rounds c.loop-number.desks s 0 ended new d)) in
    watched b f.rounds c.loop-number.desks s c.args.limit c.is_all_retired.result (omega (arith, l, m, n)) test (λ is. omega (arith, l, m, n))
    (g.W.Watcher.tells b.plan c.loop-number.watcher) f.told c.args.limit (omega (arith, l, m, n))
