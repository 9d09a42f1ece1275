use Rattle.std.proofs.Common.{◌≡◌, sym, ap, ◌∙◌, arith}
use Rattle.std.specs.Mem.Slots.{slots_items}
use Rattle.edge_rule.specs.DeskView.{DeskView, BenchView, Owns}
use Rattle.turns.proofs.Runs.{each_map}
use Rattle.one_history.proofs.Seats.{enters}
use Rattle.edge_rule.proofs.TakenApart.{end_shown, plan_there, words_there, logs_there, counts_there, legal_logs_there}
use Rattle.edge_rule.proofs.close.taken_apart.Goals as goal

pub load_new_seat-keeper-requires : goal.load_new_seat-keeper-requires
load_new_seat-keeper-requires g0 c = let k = c.bench.invariant in let words = k.words in (omega arith, enters c.bench.inside.table.shared.key.plan.value _ _)

pub gather-requires-clause-table : goal.gather-requires-clause-table
gather-requires-clause-table g0 c = let k = c.bench.invariant in let words = k.words in (c.load_new_seat-keeper.ensures.0, omega arith)

pub gather-requires-clause-empty : goal.gather-requires-clause-empty
gather-requires-clause-empty g0 c = λ i. (c.load_new_seat-keeper.ensures.2 i, c.load_new_seat-keeper.ensures.1 i)

pub gather-requires-clause-own : goal.gather-requires-clause-own
gather-requires-clause-own g0 c =
    each_map (Owns c.args.bench) (λ (d : DeskView). d.table ≡ c.bench.inside.table.shared.table_id)
    (λ d o. o.0 ∙ sym (ap (λ (z : BenchView). z.table) c.bench.view_is)) c.args.desks.items c.requires.own

pub invariant_of-result : goal.invariant_of-result
invariant_of-result g0 c = record {
  is_plan = plan_there c.bench.inside c.args.bench c.bench.view_is c.bench.invariant c.args.desks.items c.args.counts.items c.requires.own c.requires.all
      c.gather.ensures.rests c.requires.counts.1 c.gather.new.keeper.id c.gather.new.keeper.me c.gather.ensures.keeper.1
      (slots_items c.close_with.result.words) (slots_items c.close_with.result.slots) c.close_with.ensures.values.2;
  full = (c.close_with.ensures.values.0, c.close_with.ensures.values.1);
  words = words_there c.bench.inside c.args.bench c.bench.view_is c.bench.invariant c.args.desks.items c.args.counts.items c.requires.own c.requires.all
      c.gather.ensures.rests c.requires.counts.1 c.gather.new.keeper.id c.gather.new.keeper.me c.gather.ensures.keeper.1
      (slots_items c.close_with.result.words) (slots_items c.close_with.result.slots) c.close_with.ensures.values.2;
  logs_there = logs_there c.bench.inside c.args.bench c.bench.view_is c.bench.invariant c.args.desks.items c.args.counts.items c.requires.own c.requires.all
      c.gather.ensures.rests c.requires.counts.1 c.gather.new.keeper.id c.gather.new.keeper.me c.gather.ensures.keeper.1
      (slots_items c.close_with.result.words) (slots_items c.close_with.result.slots) c.close_with.ensures.values.2;
  counts_there = counts_there c.bench.inside c.args.bench c.bench.view_is c.bench.invariant c.args.desks.items c.args.counts.items c.requires.own c.requires.all
      c.gather.ensures.rests c.requires.counts.1 c.gather.new.keeper.id c.gather.new.keeper.me c.gather.ensures.keeper.1
      (slots_items c.close_with.result.words) (slots_items c.close_with.result.slots) c.close_with.ensures.values.2
      c.requires.counts.0;
  legal_logs = legal_logs_there c.bench.inside c.args.bench c.bench.view_is c.bench.invariant c.args.desks.items c.args.counts.items c.requires.own c.requires.all
      c.gather.ensures.rests c.requires.counts.1 c.gather.new.keeper.id c.gather.new.keeper.me c.gather.ensures.keeper.1
      (slots_items c.close_with.result.words) (slots_items c.close_with.result.slots) c.close_with.ensures.values.2;
}

pub returns : goal.returns
returns g0 c = end_shown c.bench.inside c.args.bench c.bench.view_is c.bench.invariant c.args.desks.items c.args.counts.items c.requires.own c.requires.all
    c.gather.ensures.rests c.requires.counts.1 c.gather.new.keeper.id c.gather.new.keeper.me c.gather.ensures.keeper.1
    (slots_items c.close_with.result.words) (slots_items c.close_with.result.slots) c.close_with.ensures.values.2
