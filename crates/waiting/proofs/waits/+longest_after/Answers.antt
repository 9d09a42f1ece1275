use Rattle.waiting.proofs.waits.+longest_after.Goals as goal

pub returns-in-len1-up-clause-job : goal.returns-in-len1-up-clause-job
returns-in-len1-up-clause-job t c = λ n old job. c.longest_after.ensures.job n (c.longer.ensures.job n old job) job
