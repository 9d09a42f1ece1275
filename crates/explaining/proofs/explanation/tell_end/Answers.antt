use Rattle.std.proofs.Common.{◌≡◌, ◌++◌, ap, ◌∙◌}
use Rattle.explaining.specs.MoveTexts.{moves_text}
use Rattle.explaining.specs.Explanations.{end_line, jobs_text, end_text}
use Rattle.explaining.proofs.Parts.{all_three}
use Rattle.explaining.proofs.explanation.tell_end.Goals as goal

pub returns : goal.returns
unfolding end_text
returns g c =
    let w = c.args.world.now in
    let moves = c.in_ok-moves.moves.items in
    let done = c.add_jobs.new.out.items in
    let last : c.add_moves.new.out.items ≡ done ++ moves_text w.plan moves =
    c.in_ok-add_moves.ensures ∙ ap (λ p. done ++ moves_text p c.deref.result.now) c.plan.ensures.plan
    ∙ ap (λ m. done ++ moves_text w.plan m) c.deref.ensures.value in
    record {
      moves = moves;
      legal = c.in_ok-moves.ensures.legal;
      told = all_three c.new-out.result.items _ _ _ (end_line c.args.steps) (jobs_text w.plan w.state)
          (moves_text w.plan moves) c.new-out.ensures.items c.in_ok-add_end_line.ensures c.in_ok-add_jobs.ensures last;
    }
