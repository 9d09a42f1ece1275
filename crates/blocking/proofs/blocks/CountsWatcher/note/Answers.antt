use Rattle.std.proofs.Common.{◌≡◌, ◌∷◌, ◌++◌, List, [], ℕ, length, sym, ap, ◌∙◌, subst, arith}
use Rattle.std.specs.List.{AllZip}
use Rattle.std.proofs.lemmas.List.Elements.{All-same}
use Rattle.rounds.specs.Company.{first_front}
use Rattle.waiting.specs.Rounds.{joined}
use Rattle.waiting.proofs.Logs.{written_back}
use Rattle.blocking.specs.Watching.{AreHeld, block_then}
use Rattle.blocking.specs.Owing.{SideView, FitsSide, SideThen, CountsTell}
use Rattle.blocking.proofs.CountsTell.{tell_more}
use Rattle.blocking.proofs.blocks.CountsWatcher.note.Goals as goal

pub look-requires-clause-desks : goal.look-requires-clause-desks
look-requires-clause-desks g c = c.requires.more.know

pub look-requires-clause-many : goal.look-requires-clause-many
look-requires-clause-many g c = c.requires.told.many_before ∙ sym c.requires.more.know.many

pub count_round-requires-clause-desks : goal.count_round-requires-clause-desks
count_round-requires-clause-desks g c = c.requires.more.know

pub count_round-requires-clause-before : goal.count_round-requires-clause-before
count_round-requires-clause-before g c = ap length (c.held_before.ensures ∙ c.look.ensures.before) ∙ c.requires.told.held.many

pub count_round-requires-clause-after : goal.count_round-requires-clause-after
count_round-requires-clause-after g c = ap length c.held_after.ensures ∙ c.look.ensures.after.many

pub count_round-requires-clause-fit : goal.count_round-requires-clause-fit
count_round-requires-clause-fit g c =
    All-same (FitsSide c.args.plan.now) c.as_mut_slice.result.now c.args.self.now.sides.items c.as_mut_slice.ensures.value c.requires.told.fit

pub returns : goal.returns
returns g c = λ rounds events more tells.
    let plan = c.args.plan.now in let desks = c.args.desks.now in
    let before : List ℕ = c.look.new.self.before.items in let after : List ℕ = c.look.new.self.after.items in
    let old : List SideView = c.args.self.now.sides.items in let new : List SideView = c.count_round.new.sides in
    let same : length new ≡ length old = c.count_round.auto.sides ∙ ap length c.as_mut_slice.ensures.value in
    let sides = c.args.self.now.sides in
    let was : before ≡ c.args.self.now.held.after.items = c.look.ensures.before in
    subst (λ (l : List SideView). CountsTell plan before after l (rounds ++ events ∷ [])) (sym (written_back old new sides.len sides.ok.0 same))
    (tell_more plan rounds events c.args._round desks more (let fits = c.ranges._round.fits in omega (arith, fits)) before after
    (subst (AreHeld plan (joined rounds)) (sym was) tells.held) c.look.ensures.after old new tells.fit tells.at_places tells.counts
    (subst (λ (z : List ℕ × List ℕ × List SideView). AllZip (SideThen plan (block_then plan (first_front desks) z.0 z.1)) z.2 new)
    (λ i. (c.held_before.ensures i, c.held_after.ensures i, c.as_mut_slice.ensures.value i)) c.count_round.ensures)
    (ap length was ∙ tells.held.many))
