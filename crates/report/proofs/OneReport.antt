-- A report reads nothing but what is shown of the plan's instruments and jobs.
use Rattle.std.proofs.Common.{◌≡◌, ℕ, zero, suc, ◌+◌, ◌<◌, Bool, ◌&&◌, List, ◌++◌, length, arith, refl, ap, ◌∙◌}
use Rattle.std.specs.List.{flat_map, range_with_len, list_all}
use Rattle.lab_plan.specs.LabPlan.{LabPlan, sessions}
use Rattle.lab_plan.specs.Texts.{header_line, job_name, instrument_name}
use Rattle.legal_steps.specs.declared.phase.Drinking.{Drinking}
use Rattle.report.specs.Report.{Shown, report_of, instrument_line, entry_text, job_line, tally_text, log_text, last_line, is_retired, all_retired, jobs, instruments}
use Rattle.report.specs.Events.{ShowsAlike, HasOneReport}

flat_map_same : (h k : ℕ → List ℕ) (a n : ℕ) → ((j : ℕ) → j < a + n → h j ≡ k j) → flat_map h (range_with_len a n) ≡ flat_map k (range_with_len a n)
flat_map_same h k a zero same = refl
flat_map_same h k a (suc n) same =
    ap (λ x. x ++ flat_map h (range_with_len (a + 1) n)) (same a (omega arith))
    ∙ ap (λ rest. k a ++ rest) (flat_map_same h k (a + 1) n (λ j below. same j (omega (arith, below))))

list_all_same : (h k : ℕ → Bool) (a n : ℕ) → ((j : ℕ) → j < a + n → h j ≡ k j) → list_all h (range_with_len a n) ≡ list_all k (range_with_len a n)
list_all_same h k a zero same = refl
list_all_same h k a (suc n) same =
    ap (λ x. x && list_all h (range_with_len (a + 1) n)) (same a (omega arith))
    ∙ ap (λ rest. k a && rest) (list_all_same h k (a + 1) n (λ j below. same j (omega (arith, below))))

log_same : (plan : LabPlan) (a b : Shown) (i : ℕ) → a.log i ≡ b.log i → log_text plan a i ≡ log_text plan b i
log_same plan a b i same = ap (λ entries. instrument_line (instrument_name plan i) (length entries) ++ flat_map (entry_text plan) entries) same

-- what is told of a job that drinks so and did so much
abbrev told : LabPlan → ℕ → Drinking → ℕ → ℕ → ℕ → List ℕ
told plan j drinking done withdrawn meals =
    job_line plan.version (job_name plan j)
    (record { sessions = length (sessions plan j); done = done; withdrawn = withdrawn; meals = meals; is_retired = is_retired drinking })

tally_same : (plan : LabPlan) (a b : Shown) (j : ℕ) → j < length plan.jobs → ShowsAlike plan a b → tally_text plan a j ≡ tally_text plan b j
tally_same plan a b j below alike =
    ap (λ d. told plan j d (a.sessions_done j) (a.withdrawn j) (a.meals j)) (alike.drinking j below)
    ∙ ap (λ n. told plan j (b.drinking j) n (a.withdrawn j) (a.meals j)) (alike.sessions_done j below)
    ∙ ap (λ n. told plan j (b.drinking j) (b.sessions_done j) n (a.meals j)) (alike.withdrawn j below)
    ∙ ap (λ n. told plan j (b.drinking j) (b.sessions_done j) (b.withdrawn j) n) (alike.meals j below)

end_same : (plan : LabPlan) (a b : Shown) → ShowsAlike plan a b → all_retired plan a ≡ all_retired plan b
end_same plan a b alike =
    list_all_same (λ j. is_retired (a.drinking j)) (λ j. is_retired (b.drinking j)) 0 (length plan.jobs)
    (λ j below. ap is_retired (alike.drinking j (omega (arith, below))))

report_same : (plan : LabPlan) (a b : Shown) → ShowsAlike plan a b → report_of plan a ≡ report_of plan b
unfolding report_of
report_same plan a b alike =
    let logs : flat_map (log_text plan a) (instruments plan) ≡ flat_map (log_text plan b) (instruments plan) =
    flat_map_same (log_text plan a) (log_text plan b) 0 (length plan.instruments) (λ i below. log_same plan a b i (alike.log i (omega (arith, below)))) in
    let tallies : flat_map (tally_text plan a) (jobs plan) ≡ flat_map (tally_text plan b) (jobs plan) =
    flat_map_same (tally_text plan a) (tally_text plan b) 0 (length plan.jobs) (λ j below. tally_same plan a b j (omega (arith, below)) alike) in
    ap (λ x. header_line plan.version ++ x ++ flat_map (tally_text plan a) (jobs plan) ++ last_line (all_retired plan a)) logs
    ∙ ap (λ x. header_line plan.version ++ flat_map (log_text plan b) (instruments plan) ++ x ++ last_line (all_retired plan a)) tallies
    ∙ ap (λ x. header_line plan.version ++ flat_map (log_text plan b) (instruments plan) ++ flat_map (tally_text plan b) (jobs plan) ++ last_line x)
    (end_same plan a b alike)

pub one_report : HasOneReport
one_report plan a b alike = (report_same plan a b alike, end_same plan a b alike)
