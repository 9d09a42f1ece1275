use Rattle.std.proofs.Common.{List}
use Rattle.waiting.specs.Noting.{LogView}
use Rattle.waiting.proofs.LogsTell.{tell_none, told_all}
use Rattle.waiting.proofs.by_rounds.run_by_rounds.Goals as goal

pub watch-requires : goal.watch-requires
watch-requires g c = tell_none c.args.plan.now c.in_ok-logs.logs.items c.jobs.result c.jobs.ensures.jobs c.in_ok-logs.ensures

pub returns : goal.returns
returns g c =
    let w = c.in_ok-number.ensures in
    let logs : List LogView = c.watch.new.watcher.items in
    record {
      rounds = w.rounds;
      are_rounds = w.are_rounds;
      known = λ i. record { number = w.number i; retired = c.in_ok-number.retired; jobs = told_all c.args.plan.now w.rounds logs w.told i };
    }
