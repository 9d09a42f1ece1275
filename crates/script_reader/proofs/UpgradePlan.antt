-- The lines of an upgraded script, for every plan.
use Rattle.std.proofs.Common.{◌≡◌, ℕ, ◌+◌, ◌-◌, ◌<◌, ◌≤◌, false, List, [], ◌∷◌, length, get_or, take, refl, sym, ap, ◌∙◌, subst, arith, suc}
use Rattle.std.specs.Prelude.{None, nat_lt}
use Rattle.std.specs.List.{AllByRecursion, flat_map}
use Rattle.std.proofs.lemmas.Bool.Decides.{nat_tests}
use Rattle.std.proofs.lemmas.List.{take_all, get_or_default}
use Rattle.std.proofs.lemmas.List.Folds.{list_any_none}
use Rattle.lab_plan.specs.LabPlan.{SessionPlan, LabPlan, no_session, no_job, job_at, sessions, session_at, commands, edges, common, bottles}
use Rattle.lab_plan.specs.IsPlan.{IsPlan}
use Rattle.lab_plan.specs.Building.{has_too_many_in_common}
use Rattle.script_reader.specs.declared.fault.ScriptCause.TheVariants.{TooManyInCommon}
use Rattle.script_reader.specs.declared.form.Version.TheVariants.{Two}
use Rattle.script_reader.specs.State.{state_of, at, end_cause_in}
use Rattle.script_reader.proofs.UpgradeOrder.{known_after, in_order_all}
use Rattle.script_reader.proofs.UpgradeDrafts.{AreInstruments, job_commands}
use Rattle.script_reader.proofs.UpgradeLines.{CanSay, CanRun, CanBegin, AreTaken, out, lines_of_job, lines_of_plan, jobs_taken}

by_recursion : {A : Type 0} (P : A → Type 0) (xs : List A) → ((k : ℕ) (d : A) → k < length xs → P (get_or xs k d)) → AllByRecursion P xs
by_recursion P [] all = tt
by_recursion P (x ∷ xs) all = (all 0 x (omega arith), by_recursion P xs (λ k d inside. all (suc k) d (omega arith)))

pub instruments_of_plan : (plan : LabPlan) → IsPlan plan → AreInstruments plan.instruments
instruments_of_plan plan h = record { few = h.draft.few_instruments; each = h.draft.instrument_names; distinct = h.draft.instruments_distinct }

-- a session by its number
can_run : (plan : LabPlan) → IsPlan plan → (j s : ℕ) → s < length (sessions plan j) → CanRun plan.instruments (session_at plan j (s + 1))
can_run plan h j s there =
    record {
      some = h.not_empty j (s + 1) (omega arith) (omega arith);
      commands = by_recursion (CanSay plan.instruments) (commands plan j (s + 1))
          (λ k d inside. (h.draft.named j (s + 1) k d inside, h.draft.fit j (s + 1) k d inside));
      patience = λ n is. (h.draft.patient j (s + 1) n is).1;
    }

session_there : (plan : LabPlan) (j s : ℕ) (d : SessionPlan) → s < length (sessions plan j) → session_at plan j (s + 1) ≡ get_or (sessions plan j) s d
session_there plan j s d there =
    let same : s + 1 - 1 ≡ s = omega arith in
    ap (λ n. get_or (sessions plan j) n no_session) same ∙ get_or_default (sessions plan j) s no_session d there

can_begin : (plan : LabPlan) → IsPlan plan → (j : ℕ) → j < length plan.jobs → CanBegin plan.instruments (job_at plan j)
can_begin plan h j there =
    record {
      is_name = h.draft.job_names j no_job there;
      few = h.draft.few_sessions j;
      sessions = by_recursion (CanRun plan.instruments) (sessions plan j)
          (λ s d inside. subst (CanRun plan.instruments) (session_there plan j s d inside) (can_run plan h j s inside));
    }

pub can_begin_all : (plan : LabPlan) → IsPlan plan → AllByRecursion (CanBegin plan.instruments) plan.jobs
can_begin_all plan h = by_recursion (CanBegin plan.instruments) plan.jobs
    (λ j d inside. subst (CanBegin plan.instruments) (get_or_default plan.jobs j no_job d inside) (can_begin plan h j inside))

abbrev pub upgraded : LabPlan → LabPlan
upgraded plan = record plan { version = 2 }

-- a reader takes all lines, and knows the upgraded plan then
pub plan_taken : (plan : LabPlan) → IsPlan plan
    → AreTaken (state_of []) (lines_of_plan plan) (record { fresh = false; version = Two; in_session = false; bare = false; plan = upgraded plan })
plan_taken plan h =
    let order = in_order_all (length plan.instruments) (job_commands plan.jobs) h.draft.in_order in
    let taken = jobs_taken plan.instruments (instruments_of_plan plan h) 0 [] plan.jobs (omega arith) order.0
    (can_begin_all plan h) h.draft.jobs_distinct (let few = h.draft.few_jobs in omega arith) (let few = h.draft.few_commands in omega (arith, few)) in
    let all : take (known_after 0 (job_commands plan.jobs)) plan.instruments ≡ plan.instruments =
    take_all (known_after 0 (job_commands plan.jobs)) plan.instruments (let known = order.1 in omega (arith, known)) in (
      refl,
      subst
          (λ names. AreTaken (out plan.instruments 0 []) (flat_map (lines_of_job plan.instruments) plan.jobs)
          (record { fresh = false; version = Two; in_session = false; bare = false; plan = record { version = 2; jobs = plan.jobs; instruments = names } }))
          all taken,
    )

-- ---- the end

few_in_common : (plan : LabPlan) → IsPlan plan → has_too_many_in_common (upgraded plan) ≡ false
unfolding edges common
few_in_common plan h =
    list_any_none (λ pair. nat_lt 28 (length (common (upgraded plan) pair))) (edges (upgraded plan)) (λ e d inside.
    let few : length (bottles plan e) ≤ 28 = h.few_bottles e inside in
    let same = get_or_default (edges plan) e d (0, 0) inside in
    few_test (length (common plan (get_or (edges plan) e d))) (subst (λ pair. length (common plan pair) ≤ 28) (sym same) few))
  where
    few_test : (n : ℕ) → n ≤ 28 → nat_lt 28 n ≡ false
    few_test n small = grind (arith, nat_tests)

pub ends_sound : (plan : LabPlan) → IsPlan plan
    → end_cause_in (record { fresh = false; version = Two; in_session = false; bare = false; plan = upgraded plan }) ≡ None
ends_sound plan h = let few = few_in_common plan h in λ i. at (few i) TooManyInCommon None
