use Rattle.legal_steps.specs.Opening.{the_opening}
use Rattle.headline.proofs.holds_of_every_run.Goals as goal

pub returns : goal.returns
returns c plan history is_plan legal =
    let opening = the_opening plan in
    let (is_opening, acyclic) = c.the_opening_is_acyclic.ensures plan in
    record {
      logs_whole = λ n. c.whole_logs.ensures plan opening history n is_plan is_opening legal;
      ended_are = λ n. (c.ends_in_order.ensures plan opening history n is_plan is_opening legal).0;
      ended_ascend = λ n. (c.ends_in_order.ensures plan opening history n is_plan is_opening legal).1;
      ended_there = λ n. c.ended_sessions_there.ensures plan opening history n is_plan is_opening legal;
      values_follow = λ n. c.dial_values.ensures plan opening history n is_plan is_opening legal;
      one_holder = λ n. c.one_holder.ensures plan opening history n is_plan is_opening legal;
      no_cycle = λ n. c.no_cycle.ensures plan opening history n is_plan is_opening acyclic legal;
      overtaken_once = λ place j e asked. c.overtaken_once.ensures plan opening history place j e is_opening legal asked;
    }
