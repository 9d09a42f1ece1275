-- the commands so far are the same
use Rattle.std.proofs.Common.{◌≡◌, ℕ, ◌<◌, slice_index_or}
use Rattle.lab_plan.specs.declared.verb.Verb.TheVariants.{Read}
use Rattle.arranging.specs.Reordered.{named_command}
use Rattle.arranging.proofs.same_jobs.are_same_commands.Given as goal

abbrev pub invariant-loop-place : goal.invariant-loop-place
invariant-loop-place g l =
    (k : ℕ) → k < l.place → named_command l.plan (slice_index_or l.mine k (0, Read)) ≡ named_command l.other (slice_index_or l.yours k (0, Read))
