-- The commands of all jobs, counted job by job.
use Rattle.std.proofs.Common.{◌≡◌, ℕ, ◌+◌, ◌<◌, ◌≤◌, List, [], ◌∷◌, length, take, slice_index_or, arith, ap, ◌∙◌, length-append, append-nil}
use Rattle.std.specs.List.{flat_map}
use Rattle.std.proofs.lemmas.List.{take_more, take_all, get_or_read}
use Rattle.std.proofs.lemmas.List.Concat.{flat_map-append}
use Rattle.std.proofs.lemmas.List.Folds.{length-flat_map-take}
use Rattle.lab_plan.specs.LabPlan.{JobPlan, no_job}
use Rattle.lab_plan.specs.Cuts.{commands_of}

-- how many commands the first jobs have
abbrev pub counted : List JobPlan → ℕ
counted jobs = length (flat_map (λ (job : JobPlan). commands_of job.sessions) jobs)

module _ (jobs : List JobPlan) (k : ℕ) (job : JobPlan) (within : k < length jobs) (is : job ≡ slice_index_or jobs k job) where
  read : length (commands_of job.sessions) ≡ length (commands_of (slice_index_or jobs k no_job).sessions)
  read = ap (λ (x : JobPlan). length (commands_of x.sessions)) (get_or_read jobs k job within is no_job)

  pub count_fits : counted (take k jobs) + length (commands_of job.sessions) ≤ counted jobs
  count_fits = let fits = length-flat_map-take (λ (x : JobPlan). commands_of x.sessions) jobs k no_job within in omega (arith, fits, read)

  pub count_more : counted (take k jobs) + length (commands_of job.sessions) ≡ counted (take (k + 1) jobs)
  count_more =
      let one : JobPlan = slice_index_or jobs k no_job in
      let g : JobPlan → List _ = λ x. commands_of x.sessions in
      let more = ap counted (take_more jobs k no_job within) ∙ ap (λ l. length l) (flat_map-append g (take k jobs) (one ∷ [])) in
      omega (arith, more, length-append (flat_map g (take k jobs)) (flat_map g (one ∷ [])), ap (λ l. length l) (append-nil (g one)), read)

pub count_all : (jobs : List JobPlan) (k : ℕ) → length jobs ≤ k → counted (take k jobs) ≡ counted jobs
count_all jobs k past = ap counted (take_all k jobs past)
