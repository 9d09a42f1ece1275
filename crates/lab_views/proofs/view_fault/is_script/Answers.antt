use Rattle.std.proofs.Common.{◌≡◌, ◌∙◌, true, false, sym}
use Rattle.lab_views.proofs.view_fault.is_script.Goals.{in-Ok, in-Err}
use Rattle.lab_views.proofs.view_fault.is_script.Goals as goal

pub returns : goal.returns
returns g c =
    elim c.match-read_steps.branch [
      | in-Ok w ↦ λ is. (w.in-Ok.field-0.0, w.in-Ok.field-0.1.items, w.in-Ok.ensures.meaning)
      | in-Err w ↦ λ is. let bad : false ≡ true = sym w.result-is ∙ is in cc
    ]
