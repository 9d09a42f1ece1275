use Rattle.std.proofs.Common.{ℕ, List, ◌++◌, sym, subst}
use Rattle.turns.specs.Lists.{Each}
use Rattle.edge_rule.specs.DeskView.{DeskView, Owns}
use Rattle.workers.specs.declared.halt.Halt.{Halt}
use Rattle.workers.specs.declared.halt.Halt.TheVariants as halts
use Rattle.workers.specs.Team.{Worked}
use Rattle.workers.proofs.TeamTurns.{worked_owns, worked_most, worked_left, worked_right, each_take, each_drop}
use Rattle.workers.proofs.teams.+parts.Goals as goal

pub in_teams-returns-in-AllRetired : goal.in_teams-returns-in-AllRetired
in_teams-returns-in-AllRetired g t c =
    let turns : ℕ = g.C.Crew.turns c.args.crew.now in
    let front : List DeskView = c.split_at_mut-front.result.0.now in
    let back : List DeskView = c.split_at_mut-front.result.1.now in
    let one : Worked turns front halts.AllRetired c.in_parts-one.new.front =
    subst (λ (h : Halt). Worked turns front h c.in_parts-one.new.front) c.in-AllRetired.is c.in_parts-one.ensures.front in
    subst (λ (z : List DeskView). Worked turns z halts.AllRetired (c.in_parts-one.new.front ++ c.in_parts-one.new.back))
    (sym c.split_at_mut-front.ensures.value)
    (worked_left turns front c.in_parts-one.new.front back c.in_parts-one.new.back _ one c.in_parts-one.ensures.back)

pub in_teams-returns-in-AllRetired-other : goal.in_teams-returns-in-AllRetired-other
in_teams-returns-in-AllRetired-other g t c =
    let turns : ℕ = g.C.Crew.turns c.args.crew.now in
    let front : List DeskView = c.split_at_mut-front.result.0.now in
    let back : List DeskView = c.split_at_mut-front.result.1.now in
    let other : Worked turns back halts.AllRetired c.in_parts-one.new.back =
    subst (λ (h : Halt). Worked turns back h c.in_parts-one.new.back) c.in-AllRetired-other.is c.in_parts-one.ensures.back in
    subst (λ (z : List DeskView). Worked turns z halts.AllRetired (c.in_parts-one.new.front ++ c.in_parts-one.new.back))
    (sym c.split_at_mut-front.ensures.value)
    (worked_right turns front c.in_parts-one.new.front back c.in_parts-one.new.back _ c.in_parts-one.ensures.front other)

pub in_teams-catch_up-requires : goal.in_teams-catch_up-requires
in_teams-catch_up-requires g t c =
    let P : DeskView → Type 0 = Owns (g.C.Crew.bench c.args.crew.now) in
    worked_owns (g.C.Crew.bench c.args.crew.now) (g.C.Crew.turns c.args.crew.now) _ c.in_parts-one.new.front _ c.in_parts-one.ensures.front
    (subst (Each P) (sym c.split_at_mut-front.ensures.front) (each_take P _ c.args.desks.now c.requires.own))

pub in_teams-catch_up-requires-2 : goal.in_teams-catch_up-requires-2
in_teams-catch_up-requires-2 g t c =
    let P : DeskView → Type 0 = Owns (g.C.Crew.bench c.args.crew.now) in
    worked_owns (g.C.Crew.bench c.args.crew.now) (g.C.Crew.turns c.args.crew.now) _ c.in_parts-one.new.back _ c.in_parts-one.ensures.back
    (subst (Each P) (sym c.split_at_mut-front.ensures.back) (each_drop P _ c.args.desks.now c.requires.own))

pub in_teams-returns : goal.in_teams-returns
in_teams-returns g t c =
    let turns : ℕ = g.C.Crew.turns c.args.crew.now in
    let front : List DeskView = c.split_at_mut-front.result.0.now in
    let back : List DeskView = c.split_at_mut-front.result.1.now in
    let one : Worked turns front (halts.After c.in-After.m) c.in_parts-one.new.front =
    subst (λ (h : Halt). Worked turns front h c.in_parts-one.new.front) c.in-After.is c.in_parts-one.ensures.front in
    let other : Worked turns back (halts.After c.in-After-other.n) c.in_parts-one.new.back =
    subst (λ (h : Halt). Worked turns back h c.in_parts-one.new.back) c.in-After-other.is c.in_parts-one.ensures.back in
    subst (λ (z : List DeskView). Worked turns z (halts.After c.max-most.result) (c.catch_up.new.desks ++ c.catch_up-2.new.desks))
    (sym c.split_at_mut-front.ensures.value)
    (worked_most turns c.in-After.m c.in-After-other.n c.max-most.result front c.in_parts-one.new.front c.catch_up.new.desks
    back c.in_parts-one.new.back c.catch_up-2.new.desks c.max-most.ensures one c.catch_up.ensures other c.catch_up-2.ensures)
