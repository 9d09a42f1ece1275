use Rattle.std.proofs.Common.{ℕ, ◌++◌, List, ap, ◌∙◌}
use Rattle.std.specs.List.{flat_map}
use Rattle.std.proofs.lemmas.List.{take_all}
use Rattle.waiting.specs.Text.{chain_name}
use Rattle.waiting.proofs.text.add_names.Goals as goal

pub returns : goal.returns
returns g c = c.loop-job.invariant ∙ ap (λ (l : List ℕ). c.args.out.now.items ++ flat_map (chain_name c.args.plan.now) l)
    (take_all c.loop-job.job-index c.args.chain.now c.loop-job-test.false)
