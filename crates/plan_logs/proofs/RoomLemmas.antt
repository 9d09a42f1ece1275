-- The room of logs, added up.
use Rattle.std.proofs.Common.{get_or, set, List, ◌≡◌, ℕ, zero, suc, ◌+◌, ◌<◌, ◌≤◌, ◌==◌, cond, [], ◌∷◌, ◌++◌, length, map, take, arith, sym, ap, ◌∙◌, subst, add-one, inl, inr, length-set, get_or-set_same, get_or-set_other}
use Rattle.std.specs.List.{flat_map, range_with_len}
use Rattle.std.proofs.lemmas.Bool.{cases_eq, cases_lt, eq-eqb, ne_eqb}
use Rattle.std.proofs.lemmas.List.{take_all}
use Rattle.std.proofs.lemmas.List.FromFn.{map-range_with_len_more}
use Rattle.std.proofs.lemmas.List.Sums.{count_by-le-length, count_by_more_yes, count_by_more_no, sum_by-take-le}
use Rattle.lab_plan.specs.declared.verb.Verb.{Verb}
use Rattle.lab_plan.specs.declared.verb.Verb.TheVariants.{Read}
use Rattle.lab_plan.specs.LabPlan.{LabPlan, SessionPlan, sessions, count_on, all_commands}
use Rattle.lab_plan.specs.IsPlan.{IsPlan}
use Rattle.instrument_log.specs.InstrumentLog.{empty_log}
use Rattle.legal_steps.specs.WholeLogs.{room_of}
use Rattle.plan_logs.specs.Rooms.{on_by, AreAdded}
use Rattle.legal_steps.proofs.RoomShares.{sum_to, first_on, room_is_sum}

-- ---- one job

pub job_all : (plan : LabPlan) (i j n : ℕ) → n ≡ length (sessions plan j)
    → first_on plan i j n ≡ count_on i (flat_map (λ session. session.commands) (sessions plan j))
job_all plan i j n all = ap (λ xs. count_on i (flat_map (λ (session : SessionPlan). session.commands) xs)) (take_all n (sessions plan j) (omega arith))

-- ---- all jobs

pub all_more : (plan : LabPlan) (i n : ℕ) → sum_to (on_by plan i) (n + 1) ≡ sum_to (on_by plan i) n + on_by plan i n
all_more plan i n = ap (sum_to (on_by plan i)) (add-one n)

pub all_is_room : (plan : LabPlan) (i n : ℕ) → n ≡ length plan.jobs → sum_to (on_by plan i) n ≡ room_of plan i
all_is_room plan i n all = ap (sum_to (on_by plan i)) all ∙ sym (room_is_sum plan i)

up_to : (f : ℕ → ℕ) (n m : ℕ) → n ≤ m → sum_to f n ≤ sum_to f m
up_to f n zero below = let none : n ≡ 0 = omega arith in subst (λ k. sum_to f k ≤ 0) (sym none) (omega arith)
up_to f n (suc m) below = elim (cases_lt n (suc m)) [
  | inl h ↦ omega (arith, up_to f n m (omega (arith, h)))
  | inr h ↦ let all : n ≡ suc m = omega arith in subst (λ k. sum_to f k ≤ sum_to f (suc m)) (sym all) (omega arith)
]

pub all_few : (plan : LabPlan) (i n : ℕ) → IsPlan plan → n ≤ length plan.jobs → sum_to (on_by plan i) n ≤ 100000
all_few plan i n is below =
    let short : room_of plan i ≤ length (all_commands plan) = count_by-le-length _ (all_commands plan) in
    omega (arith, up_to (on_by plan i) n (length plan.jobs) below, room_is_sum plan i, short, is.draft.few_commands)

-- ---- the logs

pub logs_more : (plan : LabPlan) (n : ℕ) → map (λ i. empty_log (room_of plan i)) (range_with_len 0 (n + 1))
    ≡ map (λ i. empty_log (room_of plan i)) (range_with_len 0 n) ++ empty_log (room_of plan n) ∷ []
logs_more plan n = map-range_with_len_more (λ i. empty_log (room_of plan i)) 0 n n (omega arith)

-- ---- sums that fit

pub all_next : (plan : LabPlan) (i n : ℕ) → IsPlan plan → n < length plan.jobs → sum_to (on_by plan i) n + on_by plan i n ≤ 100000
all_next plan i n is inside = omega (arith, all_more plan i n, all_few plan i (n + 1) is (omega (arith, inside)))

-- ---- commands that are counted one after another

first_fits : (i k : ℕ) (commands : List (ℕ × Verb)) → count_on i (take k commands) ≤ count_on i commands
first_fits i k commands = sum_by-take-le (λ (command : ℕ × Verb). cond (command.0 == i) 1 0) commands k

-- the number of the next command's instrument is one more
pub added_more : (commands : List (ℕ × Verb)) (old now : List ℕ) (k n x : ℕ) → k < length commands → (get_or commands k (0, Read)).0 ≡ n → n < length old
    → x ≡ get_or now n 0 → AreAdded (λ i. count_on i (take k commands)) old now
    → AreAdded (λ i. count_on i (take (k + 1) commands)) old (set now n (x + 1))
added_more commands old now k n x within is below read before = record {
  wide = length-set now n (x + 1) ∙ before.wide;
  each = λ i inside. elim (cases_eq n i) [
    | inl here ↦
        let count = count_by_more_yes (λ (command : ℕ × Verb). command.0 == i) commands k (0, Read) within (eq-eqb _ _ (is ∙ here)) in
        let written : get_or (set now n (x + 1)) i 0 ≡ x + 1 =
        ap (λ m. get_or (set now n (x + 1)) m 0) (sym here) ∙ get_or-set_same now n (x + 1) 0 (omega (arith, below, before.wide)) in
        let same : x ≡ get_or now i 0 = read ∙ ap (λ m. get_or now m 0) here in
        omega (arith, written, same, before.each i inside, count)
    | inr other ↦
        let count = count_by_more_no (λ (command : ℕ × Verb). command.0 == i) commands k (0, Read) within (ne_eqb _ _ (λ e. other (sym is ∙ e))) in
        let kept = get_or-set_other now n i (x + 1) 0 (λ e. other (sym e)) in
        omega (arith, kept, before.each i inside, count)
  ];
}

-- it fits, since all of them do
pub one_fits : (commands : List (ℕ × Verb)) (old now : List ℕ) (k n x : ℕ) → k < length commands → (get_or commands k (0, Read)).0 ≡ n → n < length old
    → x ≡ get_or now n 0 → get_or old n 0 + count_on n commands ≤ 100000 → AreAdded (λ i. count_on i (take k commands)) old now → x + 1 ≤ 100000
one_fits commands old now k n x within is below read few before =
    let count = count_by_more_yes (λ (command : ℕ × Verb). command.0 == n) commands k (0, Read) within (eq-eqb _ _ is) in
    omega (arith, read, before.each n below, first_fits n (k + 1) commands, count, few)
