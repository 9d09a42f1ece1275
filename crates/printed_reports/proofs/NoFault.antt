-- A report that was printed has none of the faults that a look at its lines finds.
use Rattle.std.proofs.Common.{◌≡◌, ℕ, zero, suc, ◌+◌, ◌<◌, ◌≤◌, Bool, true, false, not, ◌&&◌, ◌||◌, ◌==◌, true≢false, List, [], ◌∷◌, length, map, refl, sym, ap, ◌∙◌, subst, inl, inr, arith, eq-eqb, ne_eqb, eqb-true}
use Rattle.std.specs.Prelude.{None, Some, nat_lt, slice_get}
use Rattle.std.specs.List.{AllByRecursion}
use Rattle.std.specs.Option.{is_some}
use Rattle.std.specs.Str.{bytes_eq}
use Rattle.std.proofs.lemmas.Bool.{and_parts}
use Rattle.std.proofs.lemmas.Bool.Decides.{nat_tests}
use Rattle.std.proofs.lemmas.Slice.Eq.{bytes_eq-Decides}
use Rattle.lab_plan.specs.LabPlan.{LabPlan}
use Rattle.lab_plan.specs.IsPlan.{IsPlan}
use Rattle.lab_plan.specs.Texts.{job_name}
use Rattle.instrument_log.specs.declared.entry.Entry.{Entry as LogEntry}
use Rattle.legal_steps.specs.State.{log}
use Rattle.legal_steps.specs.Run.{after_all}
use Rattle.legal_steps.specs.WholeLogs.{line_of, ended_sessions}
use Rattle.legal_steps.proofs.LogBooks.{books}
use Rattle.legal_steps.proofs.LogRun.{logged}
use Rattle.report.specs.Report.{Shown, jobs}
use Rattle.report.specs.Events.{shown_after}
use Rattle.report_reader.specs.Line.{EntryText, JobText}
use Rattle.report_reader.specs.Report.{LogText}
use Rattle.timeline.specs.declared.fault.EntryCause.{EntryCause}
use Rattle.timeline.specs.declared.fault.EntryCause.TheVariants as causes
use Rattle.timeline.specs.declared.fault.TimelineFault.TheVariants.{LimitPassed, JobTwice, Entry, Contradiction, NoMemory}
use Rattle.timeline.specs.Spans.{job_number, is_same_session}
use Rattle.timeline.specs.Faults.{at, entry_cause, is_out_of_order, IsOutOfOrder, IsTwice, FailsAlone, FailsAt, IsNamedBefore}
use Rattle.printed_reports.specs.Printed.{printed_entry, printed_log, printed_job}
use Rattle.printed_reports.specs.HasTimeline.{HasNoOtherFault}
use Rattle.printed_reports.proofs.Orders.{rank, Chained, log_chained}
use Rattle.printed_reports.proofs.Written.{IsWritten, logs_written}
use Rattle.printed_reports.proofs.Places.{some_is, none_some, entry_at, written_at, next_at}
use Rattle.printed_reports.proofs.PrintedTimeline.{number_is, told}
use Rattle.printed_reports.proofs.OwnOrder.{made, one_job, has_timeline}

-- ---- the order of a log

-- the first rank is the lowest
least : (r : ℕ × ℕ → ℕ) (first : LogEntry) (entries : List LogEntry) (k : ℕ) (b : LogEntry) → Chained r (map line_of (first ∷ entries))
    → slice_get (first ∷ entries) k ≡ Some b → r (first.job, first.session) ≤ r (b.job, b.session)
least r first entries zero b chained at = let same = some_is first b at in omega (arith, ap (λ (x : LogEntry). r (x.job, x.session)) same)
least r first [] (suc k) b chained at = absurd (none_some b at)
least r first (second ∷ entries) (suc k) b chained at =
    let more = least r second entries k b chained.1 at in
    elim chained.0 [
      | inl on ↦ let same : r (first.job, first.session) ≡ r (second.job, second.session) = λ i. r (on.0 i, on.1 i) in omega (arith, more, same)
      | inr less ↦ omega (arith, more, less)
    ]

climbs : (r : ℕ × ℕ → ℕ) (entries : List LogEntry) (p q : ℕ) (a b : LogEntry) → Chained r (map line_of entries) → p ≤ q
    → slice_get entries p ≡ Some a → slice_get entries q ≡ Some b → r (a.job, a.session) ≤ r (b.job, b.session)
climbs r [] p q a b chained order at_p at_q = absurd (none_some a at_p)
climbs r (x ∷ entries) zero q a b chained order at_p at_q =
    let same = some_is x a at_p in
    omega (arith, ap (λ (e : LogEntry). r (e.job, e.session)) same, least r x entries q b chained at_q)
climbs r (x ∷ entries) (suc p) zero a b chained order at_p at_q = absurd (omega (arith, order))
climbs r (x ∷ []) (suc p) (suc q) a b chained order at_p at_q = absurd (none_some a at_p)
climbs r (x ∷ y ∷ entries) (suc p) (suc q) a b chained order at_p at_q =
    climbs r (y ∷ entries) p q a b chained.1 (omega (arith, order)) at_p at_q

-- ---- sessions by what is told of them

one_session : (plan : LabPlan) (a b : LogEntry) → IsPlan plan → IsWritten plan a → IsWritten plan b
    → is_same_session (printed_entry plan a) (printed_entry plan b) ≡ true → (a.job ≡ b.job) × (a.session ≡ b.session)
one_session plan a b is ha hb same =
    let parts = and_parts (bytes_eq (job_name plan a.job) (job_name plan b.job)) (a.session == b.session) same in (
      one_job plan a.job b.job is ha.job hb.job ((bytes_eq-Decides (job_name plan a.job) (job_name plan b.job)).0 parts.0),
      eqb-true a.session b.session parts.1,
    )

told_same : (plan : LabPlan) (a b : LogEntry) → a.job ≡ b.job → a.session ≡ b.session
    → is_same_session (printed_entry plan a) (printed_entry plan b) ≡ true
told_same plan a b jobs sessions =
    let names = (bytes_eq-Decides (job_name plan a.job) (job_name plan b.job)).1 (ap (job_name plan) jobs) in
    λ i. names i && eq-eqb a.session b.session sessions i

-- ---- faults of entries

not_alone : (plan : LabPlan) (shown : Shown) (entry : LogEntry) → IsPlan plan → IsWritten plan entry
    → entry_cause (told plan shown) (printed_entry plan entry) ≡ None
not_alone plan shown entry is h =
    let w = h.within in
    let j = number_is plan shown entry.job is h.job in
    let session = entry.session in
    let place = entry.place in
    let total = entry.length in
    let limits : (nat_lt 1000 session || nat_lt 100000 total) ≡ false =
    λ i. within session 1000 w.session_to i || within total 100000 w.length_to i in
    let there : (session == 0 || place == 0 || nat_lt total place) ≡ false =
    λ i. ne_eqb session 0 (λ e. omega (arith, e, w.session_from)) i || ne_eqb place 0 (λ e. omega (arith, e, w.place_from)) i
    || within place total w.place_to i in
    λ i. at (not (is_some (j i))) causes.NoJobLine (at (limits i) causes.LimitPassed (at (there i) causes.NoSuchPlace None))
  where
    within : (n most : ℕ) → n ≤ most → nat_lt most n ≡ false
    within n most h = grind (arith, nat_tests, h)

in_order : (a b : EntryText) → a.length ≡ b.length → a.place < b.place → is_out_of_order a b ≡ false
in_order a b lengths later =
    (λ i. is_same_session a b && not (eq-eqb a.length b.length lengths i && less a.place b.place later i)) ∙ never (is_same_session a b)
  where
    less : (m n : ℕ) → m < n → nat_lt m n ≡ true
    less m n h = grind (arith, nat_tests, h)

    never : (t : Bool) → (t && false) ≡ false
    never true = refl
    never false = refl

-- what is known of the entries of a log
record IsInOrder (plan : LabPlan) (r : ℕ × ℕ → ℕ) (entries : List LogEntry) : Type 0 where
  written : AllByRecursion (IsWritten plan) entries
  chained : Chained r (map line_of entries)

none_out : (plan : LabPlan) (r : ℕ × ℕ → ℕ) (entries : List LogEntry) (k : ℕ) → IsPlan plan → IsInOrder plan r entries
    → IsOutOfOrder (map (printed_entry plan) entries) k → ⊥
none_out plan r entries k is h fault =
    let a = entry_at plan entries fault.place fault.before fault.stands_before in
    let b = entry_at plan entries k fault.entry fault.stands in
    let fails : is_out_of_order (printed_entry plan a.0) (printed_entry plan b.0) ≡ true =
    (λ i. is_out_of_order (sym a.2 i) (sym b.2 i)) ∙ fault.fails in
    let next = next_at r entries fault.place a.0 b.0 h.chained a.1 (ap (slice_get entries) (sym fault.next) ∙ b.1) in
    elim next [
      | inl on ↦ true≢false (sym fails ∙ in_order (printed_entry plan a.0) (printed_entry plan b.0) on.2 on.3)
      | inr less ↦
          let same = one_session plan a.0 b.0 is (written_at plan entries fault.place a.0 h.written a.1) (written_at plan entries k b.0 h.written b.1)
          (and_parts (is_same_session (printed_entry plan a.0) (printed_entry plan b.0)) _ fails).0 in
          let ranks : r (a.0.job, a.0.session) ≡ r (b.0.job, b.0.session) = λ i. r (same.0 i, same.1 i) in
          omega (arith, less, ranks)
    ]

none_twice : (plan : LabPlan) (r : ℕ × ℕ → ℕ) (entries : List LogEntry) (k : ℕ) → IsPlan plan → IsInOrder plan r entries
    → IsTwice (map (printed_entry plan) entries) k → ⊥
none_twice plan r entries k is h fault =
    let a = entry_at plan entries fault.begun fault.first fault.stands_first in
    let m = entry_at plan entries fault.place fault.between fault.stands_between in
    let b = entry_at plan entries k fault.entry fault.stands in
    let next = next_at r entries fault.place m.0 b.0 h.chained m.1 (ap (slice_get entries) (sym fault.next) ∙ b.1) in
    let up = climbs r entries fault.begun fault.place a.0 m.0 h.chained (omega (arith, fault.earlier)) a.1 m.1 in
    let same = one_session plan a.0 b.0 is (written_at plan entries fault.begun a.0 h.written a.1) (written_at plan entries k b.0 h.written b.1)
    ((λ i. is_same_session (sym a.2 i) (sym b.2 i)) ∙ fault.same) in
    let ranks : r (a.0.job, a.0.session) ≡ r (b.0.job, b.0.session) = λ i. r (same.0 i, same.1 i) in
    elim next [
      | inl on ↦ true≢false (sym (told_same plan m.0 b.0 on.0 on.1) ∙ (λ i. is_same_session (sym m.2 i) (sym b.2 i)) ∙ fault.other)
      | inr less ↦ omega (arith, less, up, ranks)
    ]

none_alone : (plan : LabPlan) (shown : Shown) (entries : List LogEntry) (k : ℕ) (cause : EntryCause) → IsPlan plan → AllByRecursion (IsWritten plan) entries
    → FailsAlone (told plan shown) (map (printed_entry plan) entries) k cause → ⊥
none_alone plan shown entries k cause is written fault =
    let a = entry_at plan entries k fault.entry fault.stands in
    none_some cause (sym (not_alone plan shown a.0 is (written_at plan entries k a.0 written a.1))
    ∙ ap (entry_cause (told plan shown)) (sym a.2) ∙ fault.fails)

no_entry_fails : (plan : LabPlan) (shown : Shown) (r : ℕ × ℕ → ℕ) (entries : List LogEntry) (k : ℕ) (cause : EntryCause) → IsPlan plan
    → IsInOrder plan r entries → FailsAt (told plan shown) (map (printed_entry plan) entries) k cause → ⊥
no_entry_fails plan shown r entries k causes.OutOfOrder is h fault = none_out plan r entries k is h fault
no_entry_fails plan shown r entries k causes.SessionTwice is h fault = none_twice plan r entries k is h fault
no_entry_fails plan shown r entries k causes.NoJobLine is h fault = none_alone plan shown entries k causes.NoJobLine is h.written fault
no_entry_fails plan shown r entries k causes.LimitPassed is h fault = none_alone plan shown entries k causes.LimitPassed is h.written fault
no_entry_fails plan shown r entries k causes.NoSuchPlace is h fault = none_alone plan shown entries k causes.NoSuchPlace is h.written fault

-- ---- any fault

none_named_before : (plan : LabPlan) (shown : Shown) (n : ℕ) → IsPlan plan → IsNamedBefore (told plan shown) n → ⊥
none_named_before plan shown n is fault =
    let at = made (printed_job plan shown) 0 (length plan.jobs) n fault.job fault.stands in
    let zero_n : 0 + n ≡ n = omega arith in
    fault.other (ap (λ (j : JobText). job_number (told plan shown) j.name) (at.1 ∙ ap (printed_job plan shown) zero_n) ∙ number_is plan shown n is at.0)

pub no_other_fault : HasNoOtherFault
no_other_fault plan opening events is opens legal LimitPassed fault =
    let view = (has_timeline plan opening events is opens legal).1 in
    elim fault [ inl many ↦ absurd (omega (arith, many, view.few_jobs)) | inr many ↦ absurd (omega (arith, many, view.few_instruments)) ]
no_other_fault plan opening events is opens legal (JobTwice job) fault =
    absurd (none_named_before plan (shown_after plan opening events) fault.0 is fault.2)
no_other_fault plan opening events is opens legal (Entry instrument entry cause) fault =
    let s = after_all plan opening events in
    let shown = shown_after plan opening events in
    let ended = ended_sessions plan opening events in
    let kept = (logged plan opening events is opens legal).books_kept in
    let at = made (printed_log plan shown) 0 (length plan.instruments) fault.i fault.log fault.stands in
    let i = 0 + fault.i in
    absurd (no_entry_fails plan shown (rank ended) (log s i) fault.k cause is (record {
      written = logs_written plan opening events is opens legal i;
      chained = log_chained plan (books s) ended i kept.ended_so (kept.kept i);
    }) (subst (λ (one : LogText). FailsAt (told plan shown) one.entries fault.k cause) at.1 fault.fails))
no_other_fault plan opening events is opens legal Contradiction fault =
    let t = has_timeline plan opening events is opens legal in
    absurd (fault t.0 t.1)
no_other_fault plan opening events is opens legal NoMemory fault = refl
