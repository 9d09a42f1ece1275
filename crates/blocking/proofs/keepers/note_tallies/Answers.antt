use Rattle.std.proofs.Common.{◌<◌, ℕ, length, get_or, sym, subst, arith}
use Rattle.rounds.specs.Company.{first_front}
use Rattle.blocking.specs.Tallying.{FitsTally, NotedThen, TallyThen, no_tally}
use Rattle.blocking.proofs.Changing.{none_changed, as_it_was, one_changed}
use Rattle.blocking.proofs.SessionsTell.{session_by}
use Rattle.blocking.proofs.keepers.note_tallies.Goals as goal

pub loop-place-init : goal.loop-place-init
loop-place-init g c = none_changed (NotedThen c.args.plan.now (first_front c.args.desks.now) c.args.before.now c.args.after.now) no_tally c.args.tallies.now

pub returns : goal.returns
returns g c =
    let l = c.loop-place-test.false in let m = c.loop-place.invariant in record { many = m.many; each = λ j less. m.each j (omega (arith, l, less)) }

pub note-requires-clause-fits : goal.note-requires-clause-fits
note-requires-clause-fits g c =
    let l = c.loop-place-test.true in let m = c.loop-place.invariant.many in
    let inside : c.loop-place.place < length c.args.tallies.now = omega (arith, l, m) in
    subst (FitsTally c.args.plan.now)
    (sym (as_it_was (NotedThen c.args.plan.now (first_front c.args.desks.now) c.args.before.now c.args.after.now) no_tally c.loop-place.place c.args.tallies.now
    c.loop-place.tallies c.index-tallies-place.result c.loop-place.invariant inside))
    (c.requires.fit c.loop-place.place no_tally inside)

pub loop-place-preserved : goal.loop-place-preserved
loop-place-preserved g c =
    let plan = c.args.plan.now in let h = first_front c.args.desks.now in let n = c.loop-place.place in
    let l = c.loop-place-test.true in let m = c.loop-place.invariant.many in let q = c.requires.many in
    let inside : n < length c.args.tallies.now = omega (arith, l, m) in
    let is_job : n < length plan.jobs = omega (arith, inside, q) in
    let in_it = session_by plan h c.args.desks.now c.requires.desks n c.index-desks-place.result is_job c.index-desks-place.is c.phase-session.result
    c.phase-session.ensures.phase in
    one_changed (NotedThen plan h c.args.before.now c.args.after.now) no_tally n c.args.tallies.now c.loop-place.tallies c.index-tallies-place.result
    c.note.new.self c.loop-place.invariant inside
    (subst (λ (s : ℕ). TallyThen plan h c.args.before.now c.args.after.now s (get_or c.loop-place.tallies n c.index-tallies-place.result) c.note.new.self)
    in_it c.in_ok-note.ensures)
