-- The logs of a report that was printed agree with columns in the order in which sessions ended.
use Rattle.std.proofs.Common.{◌≡◌, ◌≢◌, ℕ, zero, suc, ◌+◌, ◌-◌, ◌*◌, ◌/◌, ◌%◌, ◌<◌, ◌≤◌, ◌&&◌, if◌then◌else◌, List, [], ◌∷◌, length, map, get_or, refl, sym, ap, ◌∙◌, subst, inl, inr, arith, eq-eqb, All}
use Rattle.std.specs.Prelude.{None, Some, nat_lt, nat_le, slice_get}
use Rattle.std.specs.List.{AllByRecursion, range_with_len}
use Rattle.std.specs.Option.{option_and_then}
use Rattle.std.specs.Str.{bytes_eq}
use Rattle.std.proofs.lemmas.Bool.{false_from_ne_true}
use Rattle.std.proofs.lemmas.Bool.Decides.{Decides-ltb}
use Rattle.std.proofs.lemmas.List.{length-map}
use Rattle.std.proofs.lemmas.List.Elements.{All-nil, All-cons}
use Rattle.std.proofs.lemmas.List.FromFn.{length-range_with_len}
use Rattle.std.proofs.lemmas.List.Sums.{position_or_len_is}
use Rattle.std.proofs.lemmas.Slice.Eq.{bytes_eq-Decides}
use Rattle.lab_plan.specs.Limits.{most_jobs, most_sessions, most_commands}
use Rattle.lab_plan.specs.LabPlan.{LabPlan, no_job}
use Rattle.lab_plan.specs.IsPlan.{IsPlan}
use Rattle.lab_plan.specs.Texts.{job_name}
use Rattle.instrument_log.specs.declared.entry.Entry.{Entry as LogEntry}
use Rattle.legal_steps.specs.WholeLogs.{line_of}
use Rattle.report.specs.Report.{Shown, jobs}
use Rattle.report_reader.specs.Line.{JobText}
use Rattle.timeline.proofs.Apart.{tests_hold}
use Rattle.timeline.specs.declared.span.Span.{Span}
use Rattle.timeline.specs.Spans.{job_number, slot_of, span_of}
use Rattle.timeline.specs.Timelines.{TimelineView, Stands, IsNextOf, EachNext}
use Rattle.printed_reports.specs.Printed.{printed_entry, printed_job}
use Rattle.printed_reports.proofs.Orders.{rank, rank_few, Next, Chained}
use Rattle.printed_reports.proofs.Places.{entry_at, written_at, next_at}
use Rattle.printed_reports.proofs.Written.{IsWritten}

-- ---- columns by rank

-- as many columns for each rank as a session may have commands
abbrev pub span_at : ℕ → Span
span_at n = record { start = most_commands * n; width = most_commands }

-- the session of a slot
abbrev session_in : ℕ → ℕ × ℕ
session_in slot = (slot / most_sessions, slot % most_sessions + 1)

abbrev pub spans_by : (ℕ × ℕ → ℕ) → ℕ → List Span
spans_by r count = map (λ slot. span_at (r (session_in slot))) (range_with_len 0 (most_sessions * count))

pub got : {X : Type 0} (f : ℕ → X) (a n k : ℕ) → k < n → slice_get (map f (range_with_len a n)) k ≡ Some (f (a + k))
got f a zero k below = absurd (omega (arith, below))
got f a (suc n) zero below = let same : a ≡ a + zero = omega arith in ap (λ m. Some (f m)) same
got f a (suc n) (suc k) below = let same : a + 1 + k ≡ a + suc k = omega arith in got f (a + 1) n k (omega (arith, below)) ∙ ap (λ m. Some (f m)) same

at_number : {X : Type 0} (f : ℕ → X) (a n k : ℕ) (d : X) → k < n → get_or (map f (range_with_len a n)) k d ≡ f (a + k)
at_number f a zero k d below = absurd (omega (arith, below))
at_number f a (suc n) zero d below = let same : a ≡ a + zero = omega arith in ap f same
at_number f a (suc n) (suc k) d below = let same : a + 1 + k ≡ a + suc k = omega arith in at_number f (a + 1) n k d (omega (arith, below)) ∙ ap f same

span_got : (r : ℕ × ℕ → ℕ) (count j n : ℕ) → j < count → 1 ≤ n → n ≤ 1000
    → slice_get (spans_by r count) (most_sessions * j + (n - 1)) ≡ Some (span_at (r (j, n)))
span_got r count j n job some few =
    let slot = 1000 * j + (n - 1) in
    let first : (0 + slot) / 1000 ≡ j = omega (arith, some, few) in
    let second : (0 + slot) % 1000 + 1 ≡ n = omega (arith, some, few) in
    got (λ k. span_at (r (session_in k))) 0 (1000 * count) slot (omega (arith, job, some, few))
    ∙ (λ i. Some (span_at (r (first i, second i))))

-- ---- jobs by their names

pub names_differ : (plan : LabPlan) (j k : ℕ) → IsPlan plan → k < j → j < length plan.jobs → job_name plan k ≢ job_name plan j
names_differ plan j k is less job = is.draft.jobs_distinct k j no_job less job

pub number_is : (plan : LabPlan) (shown : Shown) (j : ℕ) → IsPlan plan → j < length plan.jobs
    → job_number (map (printed_job plan shown) (jobs plan)) (job_name plan j) ≡ Some j
number_is plan shown j is job =
    let told = map (printed_job plan shown) (jobs plan) in
    let test = λ (x : JobText). bytes_eq x.name (job_name plan j) in
    let size : length told ≡ length plan.jobs = length-map (jobs plan) (printed_job plan shown) ∙ length-range_with_len 0 (length plan.jobs) in
    let inside : j < length told = omega (arith, size, job) in
    let d = printed_job plan shown 0 in
    let at : (k : ℕ) → k < length plan.jobs → get_or told k d ≡ printed_job plan shown k =
    λ k below. at_number (printed_job plan shown) 0 (length plan.jobs) k d below ∙ ap (printed_job plan shown) (zero_add k) in
    let is_at = position_or_len_is test told j d (omega (arith, inside))
    (λ k below. ap test (at k (omega (arith, below, job)))
    ∙ false_from_ne_true (bytes_eq (job_name plan k) (job_name plan j))
    (λ e. names_differ plan j k is below job ((bytes_eq-Decides (job_name plan k) (job_name plan j)).0 e)))
    (λ more. ap test (at j job) ∙ (bytes_eq-Decides (job_name plan j) (job_name plan j)).1 refl) in
    rw is_at (rw ((Decides-ltb j (length told)).1 inside) refl)
  where
    zero_add : (k : ℕ) → 0 + k ≡ k
    zero_add k = omega arith

-- ---- entries

abbrev pub told : LabPlan → Shown → List JobText
told plan shown = map (printed_job plan shown) (jobs plan)

pub entry_span : (plan : LabPlan) (shown : Shown) (r : ℕ × ℕ → ℕ) (entry : LogEntry) → IsPlan plan → IsWritten plan entry
    → span_of (told plan shown) (spans_by r (length plan.jobs)) (printed_entry plan entry) ≡ Some (span_at (r (entry.job, entry.session)))
unfolding span_of slot_of
entry_span plan shown r entry is h =
    let w = h.within in
    let spans = spans_by r (length plan.jobs) in
    let slot = most_sessions * entry.job + (entry.session - 1) in
    ap (λ o. option_and_then (slice_get spans) (option_and_then (λ j. if nat_lt j most_jobs && nat_le 1 entry.session && nat_le entry.session most_sessions
    then Some (most_sessions * j + (entry.session - 1)) else None) o)) (number_is plan shown entry.job is h.job)
    ∙ ap (λ t. option_and_then (slice_get spans) (if t then Some slot else None))
    (tests_hold entry.job entry.session w.job_within w.session_from w.session_to)
    ∙ span_got r (length plan.jobs) entry.job entry.session h.job w.session_from w.session_to

-- the columns
abbrev pub view_by : LabPlan → List (ℕ × ℕ) → TimelineView
view_by plan ended = record { spans = spans_by (rank ended) (length plan.jobs); columns = most_commands * (length ended + 1) }

entry_stands : (plan : LabPlan) (shown : Shown) (ended : List (ℕ × ℕ)) (entry : LogEntry) → IsPlan plan → IsWritten plan entry
    → Stands (told plan shown) (view_by plan ended) (printed_entry plan entry)
entry_stands plan shown ended entry is h =
    let few = rank_few ended (entry.job, entry.session) in
    record {
      span = span_at (rank ended (entry.job, entry.session));
      known = entry_span plan shown (rank ended) entry is h;
      begun = h.within.place_from;
      within = h.within.place_to;
      wide = h.within.length_to;
      inside = omega (arith, few);
    }

pub all_stand : (plan : LabPlan) (shown : Shown) (ended : List (ℕ × ℕ)) (entries : List LogEntry) → IsPlan plan → AllByRecursion (IsWritten plan) entries
    → All (Stands (told plan shown) (view_by plan ended)) (map (printed_entry plan) entries)
all_stand plan shown ended [] is all = All-nil (Stands (told plan shown) (view_by plan ended))
all_stand plan shown ended (entry ∷ entries) is all =
    All-cons (Stands (told plan shown) (view_by plan ended)) (printed_entry plan entry) (map (printed_entry plan) entries)
    (entry_stands plan shown ended entry is all.0) (all_stand plan shown ended entries is all.1)

pub next_is : (plan : LabPlan) (shown : Shown) (r : ℕ × ℕ → ℕ) (a b : LogEntry) → IsPlan plan → IsWritten plan a → IsWritten plan b
    → Next r (line_of a) (line_of b)
    → IsNextOf (told plan shown) (spans_by r (length plan.jobs)) (printed_entry plan a) (printed_entry plan b)
next_is plan shown r a b is ha hb (inl on) =
    let names = (bytes_eq-Decides (job_name plan a.job) (job_name plan b.job)).1 (ap (job_name plan) on.0) in
    inl (record { same = λ i. names i && eq-eqb a.session b.session on.1 i; length = on.2; later = on.3 })
next_is plan shown r a b is ha hb (inr less) = inr (record {
  left = span_at (r (a.job, a.session));
  right = span_at (r (b.job, b.session));
  of_first = entry_span plan shown r a is ha;
  of_second = entry_span plan shown r b is hb;
  before = omega (arith, less);
})

pub all_follow : (plan : LabPlan) (shown : Shown) (r : ℕ × ℕ → ℕ) (entries : List LogEntry) → IsPlan plan → AllByRecursion (IsWritten plan) entries
    → Chained r (map line_of entries) → EachNext (IsNextOf (told plan shown) (spans_by r (length plan.jobs))) (map (printed_entry plan) entries)
all_follow plan shown r entries is all chained k a b at next =
    let x = entry_at plan entries k a at in
    let y = entry_at plan entries (k + 1) b next in
    let R = IsNextOf (told plan shown) (spans_by r (length plan.jobs)) in
    subst (λ z. R z b) (sym x.2) (subst (R (printed_entry plan x.0)) (sym y.2) (next_is plan shown r x.0 y.0 is
    (written_at plan entries k x.0 all x.1) (written_at plan entries (k + 1) y.0 all y.1) (next_at r entries k x.0 y.0 chained x.1 y.1)))
