use Rattle.std.proofs.Common.{◌≡◌, List, length, map, sym, ap, ◌∙◌, subst}
use Rattle.std.proofs.lemmas.List.Elements.{All-same}
use Rattle.waiting.proofs.Logs.{written_back}
use Rattle.blocking.specs.Keepers.{IsKeptRun}
use Rattle.blocking.specs.Tallying.{TallyView, FitsTally, EachThen, IsPutAway, kept_of}
use Rattle.blocking.proofs.SessionsTell.{all_fit}
use Rattle.blocking.proofs.KeptRuns.{kept_run}
use Rattle.blocking.proofs.keepers.keepers_by_rounds.Goals as goal

pub watch-requires : goal.watch-requires
watch-requires g c = c.in_ok-counts.ensures

pub put_all_away-requires : goal.put_all_away-requires
put_all_away-requires g c =
    let w = c.in_ok-number.ensures in let old : List TallyView = c.watch.new.watcher.tallies.items in
    All-same (FitsTally c.args.plan.now) c.as_mut_slice.result.now old c.as_mut_slice.ensures.value
    (all_fit c.args.plan.now w.rounds old w.told.many w.told.tell)

pub returns : goal.returns
returns g c =
    let plan = c.args.plan.now in let n = c.in_ok-number.number in let retired = c.in_ok-number.retired in
    let x = c.watch.new.watcher in let old : List TallyView = x.tallies.items in let away : List TallyView = c.put_all_away.new.tallies in
    let same : length away ≡ length old = c.put_all_away.auto.tallies ∙ ap length c.as_mut_slice.ensures.value in
    subst (λ (l : List TallyView). IsKeptRun plan c.args.limit (record { run = c.new-run.result; keepers = map kept_of l }))
    (sym (written_back old away x.tallies.len x.tallies.ok.0 same))
    (kept_run plan c.args.limit n retired x.held.before.items x.held.after.items x.logs.items old c.in_ok-number.ensures
    away (subst (λ (l : List TallyView). EachThen (IsPutAway plan) l away) c.as_mut_slice.ensures.value c.in_ok-put_all_away.ensures)
    c.new-run.result c.new-run.ensures)
