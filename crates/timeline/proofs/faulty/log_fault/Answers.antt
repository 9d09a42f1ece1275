use Rattle.std.proofs.Common.{◌≡◌, ◌≤◌, length, map, arith}
use Rattle.std.proofs.lemmas.List.{length-map}
use borrow.Author.Count.{below_more}
use Rattle.report_reader.specs.Form.{entry_text, job_text}
use Rattle.timeline.specs.Clean.{IsCleanAt}
use Rattle.timeline.proofs.Failing.{all_clean}
use Rattle.timeline.proofs.faulty.log_fault.Goals as goal

pub loop-place-preserved : goal.loop-place-preserved
loop-place-preserved c =
    below_more (λ k. IsCleanAt (map job_text c.args.jobs.now) (map entry_text c.args.entries.now) k) c.loop-place.place c.loop-place.invariant
    (c.cause_at.ensures.none c.in_default.is)

pub returns-clause-none : goal.returns-clause-none
returns-clause-none c _ =
    let long : length (map entry_text c.args.entries.now) ≡ length c.args.entries.now = length-map c.args.entries.now entry_text in
    let past : length (map entry_text c.args.entries.now) ≤ c.loop-place.place = omega (arith, long) in
    all_clean (map job_text c.args.jobs.now) (map entry_text c.args.entries.now) c.loop-place.place past c.loop-place.invariant
