use Rattle.std.proofs.Common.{◌≡◌, ℕ, ◌∙◌, ap, arith, subst, sym, length, map, filter}
use Rattle.std.specs.List.{All, range_with_len}
use Rattle.std.proofs.lemmas.Result.{IfOk-from_err}
use Rattle.lab_plan.specs.LabPlan.{edges, common}
use Rattle.lab_plan.specs.NamedBy.{HasSmall, meeting, both_hold}
use Rattle.lab_plan.specs.SessionTables.{AreJobTables}
use Rattle.lab_plan.proofs.Crowded.{meeting_is, bottles_are}
use Rattle.lab_plan.proofs.Small.{small}
use Rattle.lab_plan.proofs.tables.Tables.new.Goals as goal

pub new-naming-requires-clause-few : goal.new-naming-requires-clause-few
new-naming-requires-clause-few g c = c.requires.few_jobs

pub new-naming-requires-clause-small : goal.new-naming-requires-clause-small
new-naming-requires-clause-small g c = small c.args.draft.now c.requires

pub new-naming-requires-clause-few_instruments : goal.new-naming-requires-clause-few_instruments
new-naming-requires-clause-few_instruments g c = c.requires.few_instruments

pub new-requires-clause-jobs : goal.new-requires-clause-jobs
new-requires-clause-jobs g c = omega (arith, c.new-naming.ensures.jobs, c.requires.few_jobs)

pub new-requires-clause-instruments : goal.new-requires-clause-instruments
new-requires-clause-instruments g c = omega (arith, c.new-naming.ensures.instruments, c.requires.few_instruments)

pub returns-in_err-edges : goal.returns-in_err-edges
returns-in_err-edges g c = IfOk-from_err c.from_residual.result _ c.from_residual.ensures.0

pub bottles_of_all-requires-clause-instruments : goal.bottles_of_all-requires-clause-instruments
bottles_of_all-requires-clause-instruments g c = omega (arith, c.new-naming.ensures.instruments, c.requires.few_instruments)

pub bottles_of_all-requires-clause-pairs : goal.bottles_of_all-requires-clause-pairs
bottles_of_all-requires-clause-pairs g c = c.pairs.ensures.fit

pub returns-in_err-bottles : goal.returns-in_err-bottles
returns-in_err-bottles g c = IfOk-from_err c.from_residual-in_err-bottles.result _ c.from_residual-in_err-bottles.ensures.0

pub job_tables-requires : goal.job_tables-requires
job_tables-requires g c = subst (All HasSmall) (sym c.all_jobs.ensures) (small c.args.draft.now c.requires)

pub returns-in_err-jobs : goal.returns-in_err-jobs
returns-in_err-jobs g c = IfOk-from_err c.from_residual-in_err-jobs.result _ c.from_residual-in_err-jobs.ensures.0

pub returns : goal.returns
returns g c =
    let plan = c.args.draft.now in
    let naming = c.new-naming.result in
    let told = c.new-naming.ensures in
    let found : c.in_ok-edges.edges ≡ edges plan =
    c.in_ok-edges.ensures ∙ ap (λ (n : ℕ). meeting naming.sets n naming.jobs) told.instruments
    ∙ ap (λ (n : ℕ). meeting naming.sets (length plan.instruments) n) told.jobs ∙ meeting_is plan naming.sets told.naming in
    let pairs : c.pairs.result.now ≡ edges plan = c.pairs.ensures.pairs ∙ found in
    record {
      pairs_are = found;
      bottles_are = c.in_ok-bottles.ensures
          ∙ ap (λ (n : ℕ). map (λ (pair : ℕ × ℕ). filter (both_hold naming.sets pair) (range_with_len 0 n)) c.pairs.result.now) told.instruments
          ∙ ap (λ f. map f c.pairs.result.now) (bottles_are plan naming.sets told.naming)
          ∙ ap (map (common plan)) pairs;
      job_tables_are = subst (λ jobs. AreJobTables jobs c.in_ok-jobs.jobs.items) c.all_jobs.ensures c.in_ok-jobs.ensures;
    }
