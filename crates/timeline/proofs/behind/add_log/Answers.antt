use Rattle.std.proofs.Common.{◌+◌, map, arith, subst, sym, ap, ◌∙◌}
use Rattle.std.proofs.lemmas.List.{length-map}
use Rattle.report_reader.specs.Form.{entry_text, job_text}
use Rattle.timeline.specs.Orders.{AddsBelow}
use Rattle.timeline.proofs.Spelled.{spelled_at}
use Rattle.timeline.proofs.Pairs.{add_yes, add_no, add_all, pair_are}
use Rattle.timeline.proofs.behind.add_log.Goals as goal
use Rattle.timeline.proofs.behind.add_log.Goals.{in-Some+in_ok-push, in_default}

pub loop-place-preserved : goal.loop-place-preserved
loop-place-preserved g c =
    let jobs = map job_text c.args.jobs.now in
    let entries = c.args.entries.now in
    let n = c.loop-place.place in
    let test = c.loop-place-test.true in
    let end = c.saturating_sub-place-end.ensures in
    let texts = map entry_text entries in
    elim c.match-slots.branch [
      | in-Some+in_ok-push w ↦
          let pair = w.in-Some.pair in
          let are = pair_are jobs _ _ c.slots.result pair c.slots.ensures.some w.in-Some.is in
          let added = add_yes jobs texts n pair.0 pair.1 _ _ c.args.pairs.now.items c.loop-place.pairs.items
          (spelled_at entry_text entries n _ (omega (arith, test))) (spelled_at entry_text entries (n + 1) _ (omega (arith, test))) are c.loop-place.invariant in
          subst (AddsBelow jobs texts (n + 1) c.args.pairs.now.items) (sym (ap (λ v. v.items) w.pairs-is ∙ w.in_ok-push.ensures.items)) added
      | in_default w ↦
          let added = add_no jobs texts n _ _ c.args.pairs.now.items c.loop-place.pairs.items
          (spelled_at entry_text entries n _ (omega (arith, test))) (spelled_at entry_text entries (n + 1) _ (omega (arith, test)))
          (c.slots.ensures.none w.in_default.is) c.loop-place.invariant in
          subst (AddsBelow jobs texts (n + 1) c.args.pairs.now.items) (sym (ap (λ v. v.items) w.pairs-is)) added
    ]

pub returns : goal.returns
returns g c =
    let long = length-map c.args.entries.now entry_text in
    let past = c.loop-place-test.false in
    add_all (map job_text c.args.jobs.now) (map entry_text c.args.entries.now) c.loop-place.place c.args.pairs.now.items c.loop-place.pairs.items
    (omega (arith, long, past)) c.loop-place.invariant
