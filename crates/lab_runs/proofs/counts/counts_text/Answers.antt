use Rattle.std.proofs.Common.{◌≡◌, append_assoc}
use Rattle.std.specs.Prelude.{string_bytes}
use Rattle.std.proofs.lemmas.Result.{IfOk-weaker}
use Rattle.lab_runs.specs.Counts.{counts_text}
use Rattle.lab_runs.proofs.counts.counts_text.Goals as goal

pub returns : goal.returns
returns g c =
    IfOk-weaker c.format.result _ (λ line. string_bytes line ≡ counts_text c.args.counts)
    (λ line e. simp append_assoc e)
    c.format.ensures.ok
