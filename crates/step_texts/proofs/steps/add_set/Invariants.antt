use Rattle.std.proofs.Common.{◌≡◌, ◌++◌}
use Rattle.std.specs.List.{flat_map, range_with_len}
use Rattle.step_texts.specs.StepTexts.{member_text}
use Rattle.step_texts.proofs.steps.add_set.Given as goal

-- so many bottles are told
abbrev pub invariant-loop-bottle : goal.invariant-loop-bottle
invariant-loop-bottle g l = l.out.items ≡ l.fn.out.items ++ flat_map (member_text l.plan l.edge l.set) (range_with_len 0 l.bottle)
