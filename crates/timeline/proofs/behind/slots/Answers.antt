use Rattle.std.proofs.Common.{map, sym}
use Rattle.report_reader.specs.Form.{entry_text, job_text}
use Rattle.timeline.proofs.TwoSlots.{slots_some, slots_none}
use Rattle.timeline.proofs.behind.slots.Goals as goal

pub returns-clause-some : goal.returns-clause-some
returns-clause-some c =
    slots_some (map job_text c.args.jobs.now) (entry_text c.args.before.now) (entry_text c.args.entry.now) c.slot_of-x.result c.slot_of-y.result c.two_slots.result
    (sym c.slot_of-x.ensures) (sym c.slot_of-y.ensures) c.two_slots.ensures

pub returns-clause-none : goal.returns-clause-none
returns-clause-none c =
    slots_none (map job_text c.args.jobs.now) (entry_text c.args.before.now) (entry_text c.args.entry.now) c.slot_of-x.result c.slot_of-y.result c.two_slots.result
    (sym c.slot_of-x.ensures) (sym c.slot_of-y.ensures) c.two_slots.ensures
