use Rattle.std.proofs.Common.{ℕ, ◌<◌, ◌==◌, sym, ap, ◌∙◌, subst}
use Rattle.std.specs.List.{All}
use Rattle.lab_plan.specs.declared.verb.Verb.{Verb}
use Rattle.lab_plan.specs.Limits.{most_instruments}
use Rattle.lab_plan.specs.LabPlan.{any_on}
use Rattle.lab_plan.proofs.Small.{all_commands_are, any_command_is}
use Rattle.lab_plan.proofs.named_sets.named_by.Goals as goal

pub of-requires : goal.of-requires
of-requires g c =
    let P : ℕ × Verb → Type 0 = λ command. command.0 < most_instruments in
    subst (All P) (sym c.all_commands.ensures) (all_commands_are P c.args.job.now.sessions (λ k d inside. (c.requires k d inside).numbered))

pub returns : goal.returns
returns g c i =
    c.of.ensures i ∙ ap (any_on i) c.all_commands.ensures ∙ any_command_is (λ (command : ℕ × Verb). command.0 == i) c.args.job.now.sessions
