use Rattle.std.proofs.Common.{◌≡◌, ◌<◌, length, false, arith, Some}
use Rattle.lab_plan.specs.InstrumentSets.{holds}
use Rattle.late_thirst.specs.declared.asker.Reason.TheVariants.{Passed}
use Rattle.late_thirst.specs.Outside.{place, IsFirst}
use Rattle.late_thirst.proofs.Gone.{nobody_yet, one_more_gone, grows, not_gone, due_is_outside}
use Rattle.late_thirst.proofs.entries.passed_go_in.Goals as goal

pub loop-job-init : goal.loop-job-init
loop-job-init c = nobody_yet c.args.most c.args.ready c.args.places.now

pub loop-job-smaller : goal.loop-job-smaller
loop-job-smaller c =
    let l = c.loop-job in let k = c.in-Some.job in
    let first : IsFirst (Passed c.args.most) c.args.ready l.places (length l.places) (Some k) = c.in-Some.ensures in
    let few : k < 32 = omega (arith, first.0, l.auto.places, c.requires) in
    let out : holds l.set k ≡ false = not_gone c.args.places.now l.set l.places k l.invariant.gone (due_is_outside (Passed c.args.most) (place l.places k) first.1.1) in
    let more = grows l.set k few out in
    omega (arith, more, l.auto.set-fits)

pub loop-job-preserved : goal.loop-job-preserved
loop-job-preserved c =
    let l = c.loop-job in let k = c.in-Some.job in
    let first : IsFirst (Passed c.args.most) c.args.ready l.places (length l.places) (Some k) = c.in-Some.ensures in
    one_more_gone c.args.most c.args.ready k c.args.places.now l.set l.places c.go_in.new.places (omega (arith, l.auto.places, c.requires)) first.0 first.1
    c.go_in.ensures l.invariant
