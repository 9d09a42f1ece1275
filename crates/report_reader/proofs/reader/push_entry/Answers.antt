use Rattle.std.proofs.Common.{is_ok, arith}
use Rattle.report_reader.specs.Form.{entry_text}
use Rattle.report_reader.specs.State.{with_entry}
use Rattle.report_reader.proofs.OnLast.{on_last-item}
use Rattle.report_reader.proofs.reader.push_entry.Goals as goal

pub returns : goal.returns
returns g c =
    on_last-item (with_entry (entry_text c.args.entry)) c.args.logs.now.items c.len-last.result c.index_mut-log.result.now c.push.new.self
    (is_ok c.push.result) (grind arith) c.requires c.index_mut-log.ensures.value c.push.ensures
