use Rattle.std.proofs.Common.{not, ◌==◌, List, []}
use Rattle.legal_steps.specs.declared.event.Event.{Event}
use Rattle.legal_steps.specs.declared.event.Event.TheVariants.{AskFork, GiveFork, Soil, AskBottles, GiveBottles}
use Rattle.interleaving.specs.World.{WorldView}
use Rattle.edge_word.specs.declared.moves.EdgeMoves.{EdgeMoves}
use Rattle.edge_word.specs.Moves.{on}
use Rattle.settling.proofs.Worlds.{leads_then}
use Rattle.settling.proofs.edge_visits.move_at.Goals as goal

pub returns : goal.returns
returns g c =
    let m : EdgeMoves = c.args.moves in
    let j = c.args.job in
    let e = c.args.edge in
    let w0 : WorldView = c.args.world.now in
    let w1 : WorldView = c.step_if.new.world in
    let w2 : WorldView = c.step_if-2.new.world in
    let w3 : WorldView = c.step_if-3.new.world in
    let w4 : WorldView = c.step_if-4.new.world in
    let w5 : WorldView = c.step_if-5.new.world in
    let last : List Event = on m.soil (Soil j e) [] in
    let asks : List Event = on (not (m.ask_bottles == 0)) (AskBottles j e m.ask_bottles) last in
    let ask : List Event = on m.ask_fork (AskFork j e) asks in
    let gives : List Event = on (not (m.give_bottles == 0)) (GiveBottles j e m.give_bottles) ask in
    leads_then w0 w1 w5 m.give_fork (GiveFork j e) gives c.step_if.ensures
    (leads_then w1 w2 w5 (not (m.give_bottles == 0)) (GiveBottles j e m.give_bottles) ask c.step_if-2.ensures
    (leads_then w2 w3 w5 m.ask_fork (AskFork j e) asks c.step_if-3.ensures
    (leads_then w3 w4 w5 (not (m.ask_bottles == 0)) (AskBottles j e m.ask_bottles) last c.step_if-4.ensures c.step_if-5.ensures)))
