use Rattle.std.proofs.Common.{◌≡◌, List, length, sym, ap, ◌∙◌, subst}
use Rattle.std.specs.List.{All, AllZip}
use Rattle.std.proofs.lemmas.List.Elements.{All-same}
use Rattle.rounds.specs.Company.{first_front}
use Rattle.waiting.proofs.Logs.{written_back}
use Rattle.blocking.specs.Watching.{block_then}
use Rattle.blocking.specs.Owing.{SideView, FitsSide, SideThen}
use Rattle.blocking.specs.Tallying.{TallyView, moved_to}
use Rattle.blocking.proofs.Tallies.{moved_fit, moved_session}
use Rattle.blocking.proofs.tally.Tally.note.Goals as goal

pub count_round-requires-clause-fit : goal.count_round-requires-clause-fit
count_round-requires-clause-fit g c =
    let p = c.args.plan.now in let s = c.args.session in let x = c.args.self.now in
    All-same (FitsSide p) c.as_mut_slice.result.now c.self.inside.sides.items c.as_mut_slice.ensures.value
    (subst (λ (y : TallyView). All (FitsSide p) y.sides) (sym (c.self.view_is ∙ c.in_ok-move_to.ensures)) (moved_fit p s x c.requires.fits))

pub returns : goal.returns
returns g c =
    let p = c.args.plan.now in let s = c.args.session in let x = c.args.self.now in let sides = c.self.inside.sides in
    let change = block_then p (first_front c.args.desks.now) c.args.before.now c.args.after.now in
    let moved = c.self.view_is ∙ c.in_ok-move_to.ensures in
    let old : List SideView = sides.items in let new : List SideView = c.count_round.new.sides in
    let same : length new ≡ length old = c.count_round.auto.sides ∙ ap length c.as_mut_slice.ensures.value in
    record {
      session = ap (λ (y : TallyView). y.session) moved ∙ moved_session p s x;
      sides = subst (λ (l : List SideView). AllZip (SideThen p change) (moved_to p s x).sides l) (sym (written_back old new sides.len sides.ok.0 same))
          (subst (λ (l : List SideView). AllZip (SideThen p change) l new)
          (c.as_mut_slice.ensures.value ∙ ap (λ (y : TallyView). y.sides) moved) c.count_round.ensures);
      kept = ap (λ (y : TallyView). y.kept) moved;
    }
