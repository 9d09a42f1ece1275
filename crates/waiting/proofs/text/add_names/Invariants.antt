use Rattle.std.proofs.Common.{◌≡◌, ◌++◌, take}
use Rattle.std.specs.List.{flat_map}
use Rattle.waiting.specs.Text.{chain_name}
use Rattle.waiting.proofs.text.add_names.Given as goal

abbrev pub invariant-loop-job : goal.invariant-loop-job
invariant-loop-job g l = l.out.items ≡ l.fn.out.items ++ flat_map (chain_name l.plan) (take l.job-index l.chain)
