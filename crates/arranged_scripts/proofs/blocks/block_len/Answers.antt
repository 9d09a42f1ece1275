use Rattle.std.proofs.Common.{ℕ, List, arith, subst}
use Rattle.bstr.specs.Text.{lines_of}
use Rattle.arranged_scripts.specs.Cutting.{IsUpToJob}
use Rattle.arranged_scripts.proofs.Cut.{whole_block, behind_some, others_left}
use Rattle.arranged_scripts.proofs.blocks.block_len.Goals as goal

pub returns-clause-block : goal.returns-clause-block
returns-clause-block c =
    let text = c.args.text.now in
    let own = c.behind_job-own.result in
    let first = c.behind_job-own.ensures.behind in
    whole_block (lines_of text) own c.up_to_job.result first
    (subst (λ (l : List (List ℕ)). IsUpToJob l c.up_to_job.result) (others_left text own first) c.up_to_job.ensures.up)

pub returns-clause-some : goal.returns-clause-some
returns-clause-some c = omega (arith, behind_some (lines_of c.args.text.now) c.behind_job-own.result c.behind_job-own.ensures.behind)
