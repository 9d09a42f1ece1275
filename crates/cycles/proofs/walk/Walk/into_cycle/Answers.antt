use Rattle.std.proofs.Common.{◌≡◌, ◌<◌, length, get_or, sym, subst}
use Rattle.cycles.specs.Cycles.{IsAmong, IsCycleOf}
use Rattle.cycles.proofs.Paths.{cycle_from}
use Rattle.cycles.proofs.walk.Walk.into_cycle.Goals as goal

pub returns : goal.returns
returns g c = λ pairs returns.
    let value = c.deref.ensures.value in
    subst (λ jobs. IsCycleOf (IsAmong pairs) jobs) (sym c.in_ok-split_off.ensures.tail)
    (cycle_from (IsAmong pairs) c.args.self.jobs.items c.args.self.back_to c.place_of-met.result returns.leads
    (subst (λ jobs. c.place_of-met.result < length jobs) value c.place_of-met.ensures.within)
    (subst (λ jobs. get_or jobs c.place_of-met.result 0 ≡ c.args.self.back_to) value c.place_of-met.ensures.job))
