use Rattle.std.proofs.Common.{◌+◌, map, sym, ap, ◌∙◌, subst, arith}
use Rattle.std.proofs.lemmas.List.{length-map}
use Rattle.report_reader.specs.Form.{entry_text, job_text}
use Rattle.timeline.specs.Orders.{MarksBelow}
use Rattle.timeline.proofs.Slots.{slot_below}
use Rattle.timeline.proofs.Spelled.{spelled_at}
use Rattle.timeline.proofs.OwnPairs.{marks_start, marks_yes, marks_no, marks_end}
use Rattle.timeline.proofs.own.mark_log.Goals as goal
use Rattle.timeline.proofs.own.mark_log.Goals.{in-Some, in_default}

pub index_mut-requires : goal.index_mut-requires
index_mut-requires g c =
    let below = slot_below (map job_text c.args.jobs.now) _ c.in-Some.slot (sym c.slot_of.ensures ∙ c.in-Some.is) in
    let long = c.loop-entry.invariant.long in
    let wide = c.requires in
    let same = c.loop-entry.used.ok.0 in
    omega arith

pub loop-entry-init : goal.loop-entry-init
loop-entry-init g c = marks_start (map job_text c.args.jobs.now) (map entry_text c.args.entries.now) c.args.used.now.items

pub loop-entry-preserved : goal.loop-entry-preserved
loop-entry-preserved g c =
    let jobs = map job_text c.args.jobs.now in
    let entries = c.args.entries.now in
    let texts = map entry_text entries in
    let n = c.loop-entry.entry-index in
    let old = c.args.used.now.items in
    let marks = c.loop-entry.used.items in
    elim c.match-slot_of.branch [
      | in-Some w ↦
          let slot = w.in-Some.slot in
          let of = sym c.slot_of.ensures ∙ w.in-Some.is in
          let below = slot_below jobs _ slot of in
          let long = c.loop-entry.invariant.long in
          let wide = c.requires in
          subst (MarksBelow jobs texts (n + 1) old) (sym (ap (λ v. v.items) w.used-is))
          (marks_yes jobs texts n slot _ old marks (omega (arith, below, long, wide)) (spelled_at entry_text entries n _ c.loop-entry-test.true) of
          c.loop-entry.invariant)
      | in_default w ↦
          subst (MarksBelow jobs texts (n + 1) old) (sym (ap (λ v. v.items) w.used-is))
          (marks_no jobs texts n _ old marks (spelled_at entry_text entries n _ c.loop-entry-test.true) (sym c.slot_of.ensures ∙ w.in_default.is)
          c.loop-entry.invariant)
    ]

pub returns : goal.returns
returns g c =
    let long = length-map c.args.entries.now entry_text in
    let past = c.loop-entry-test.false in
    marks_end (map job_text c.args.jobs.now) (map entry_text c.args.entries.now) c.loop-entry.entry-index c.args.used.now.items c.loop-entry.used.items
    (omega (arith, long, past)) c.loop-entry.invariant
