use Rattle.bay_line.specs.Bounds.{go_before, keep_order}
use Rattle.bay_line.proofs.Waiting.{meanwhile, passed_at_most}
use Rattle.bay_line.proofs.laws.is_passed_at_most.Goals as goal

pub returns : goal.returns
returns c = λ ask n old new w place x is st o.
    let m = meanwhile ask n old new w place x is st o in
    let p = passed_at_most old.most place (go_before ask n old new o w) (keep_order ask n old new o) w new m.waited m.in_order m.most in
    (m.waited, p.0, p.1, m.most, m.in_order)
