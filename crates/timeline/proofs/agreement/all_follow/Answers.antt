use Rattle.std.proofs.Common.{map, arith, rules, tests, ◌≡◌, ◌≤◌, ◌+◌, true, length}
use Rattle.std.proofs.lemmas.List.{length-map}
use Rattle.report_reader.specs.Form.{entry_text, job_text}
use Rattle.timeline.specs.Timelines.{IsNextOf}
use Rattle.timeline.proofs.Spelled.{all_next, next_more}
use Rattle.timeline.proofs.agreement.all_follow.Goals as goal

pub loop-place-preserved : goal.loop-place-preserved
loop-place-preserved c =
    let holds : c.is_next.result ≡ true = search (rules, tests) in
    next_more (IsNextOf (map job_text c.args.jobs.now) c.args.spans.now) entry_text c.args.entries.now c.loop-place.place _ _ (omega arith)
    (c.is_next.ensures holds) c.loop-place.invariant

pub returns : goal.returns
returns c _ =
    let past_map : length (map entry_text c.args.entries.now) ≡ length c.args.entries.now = length-map c.args.entries.now entry_text in
    let past : length (map entry_text c.args.entries.now) ≤ c.loop-place.place + 1 = omega (arith, past_map) in
    all_next (IsNextOf (map job_text c.args.jobs.now) c.args.spans.now) (map entry_text c.args.entries.now) c.loop-place.place past c.loop-place.invariant
