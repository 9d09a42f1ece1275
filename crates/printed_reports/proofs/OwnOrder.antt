-- The sessions of each job that logs have entries of ended in the job's own order: so a report that was printed has a timeline.
use Rattle.std.proofs.Common.{◌≡◌, ◌⊎◌, ℕ, zero, suc, ◌+◌, ◌<◌, ◌≤◌, true, false, ◌==◌, ◌&&◌, if◌then◌else◌, List, [], ◌∷◌, ◌++◌, length, map, slice_index_or, take, true≢false, refl, sym, ap, ◌∙◌, subst, inl, inr, arith, eq-eqb, eqb-true, All}
use Rattle.std.specs.Prelude.{None, Some, slice_get}
use Rattle.std.specs.List.{AllByRecursion, range_with_len}
use Rattle.std.proofs.lemmas.Bool.{and_parts, cases_Bool, cases_eq, cases_lt}
use Rattle.std.proofs.lemmas.List.{length-map}
use Rattle.std.proofs.lemmas.List.Elements.{All-nil, All-cons}
use Rattle.std.proofs.lemmas.List.FromFn.{length-range_with_len}
use Rattle.lab_plan.specs.declared.verb.Verb.{Verb}
use Rattle.lab_plan.specs.LabPlan.{LabPlan, commands}
use Rattle.lab_plan.specs.IsPlan.{IsPlan}
use Rattle.lab_plan.specs.Texts.{job_name}
use Rattle.instrument_log.specs.declared.entry.Entry.{Entry as LogEntry}
use Rattle.legal_steps.specs.declared.event.Event.{Event}
use Rattle.legal_steps.specs.State.{State, log}
use Rattle.legal_steps.specs.Opening.{IsOpening}
use Rattle.legal_steps.specs.Run.{IsLegalFrom, after_all}
use Rattle.legal_steps.specs.WholeLogs.{LogLine, line_of, commands_on, part_of, parts_of, IsAscending, ended_sessions}
use Rattle.legal_steps.proofs.LogBooks.{Books, books, is_in_session}
use Rattle.legal_steps.proofs.LogEnded.{IsPast, HasEnded, past_before}
use Rattle.legal_steps.proofs.LogKept.{IsKept, part_so_far}
use Rattle.legal_steps.proofs.LogRun.{logged}
use Rattle.legal_steps.proofs.WholeLaw.{drinking_inside}
use Rattle.report.specs.Report.{jobs, instruments}
use Rattle.report.specs.Events.{shown_after}
use Rattle.report_reader.specs.Line.{EntryText}
use Rattle.report_reader.specs.Report.{LogText}
use Rattle.timeline.specs.Spans.{span_of}
use Rattle.timeline.specs.Timelines.{Agrees, KeepsOwnOrder, IsEntryOf}
use Rattle.printed_reports.specs.Printed.{printed_entry, printed_log, printed_job}
use Rattle.printed_reports.specs.HasTimeline.{HasTimeline}
use Rattle.printed_reports.proofs.Orders.{is_own, rank, rank_last, all_before, own_of, lines_from, log_chained}
use Rattle.printed_reports.proofs.Places.{some_is, none_some, entry_at, written_at}
use Rattle.printed_reports.proofs.PrintedTimeline.{got, told, names_differ, span_at, spans_by, entry_span, view_by, all_stand, all_follow}
use Rattle.printed_reports.proofs.Written.{IsWritten, logs_written}

-- ---- what stands at a place

-- a value of a list that is made number by number
pub made : {X : Type 0} (f : ℕ → X) (a n k : ℕ) (x : X) → slice_get (map f (range_with_len a n)) k ≡ Some x → (k < n) × (x ≡ f (a + k))
made f a n k x at = elim (cases_lt k n) [
  | inl below ↦ (below, sym (some_is (f (a + k)) x (sym (got f a n k below) ∙ at)))
  | inr past ↦ absurd (none_some x (sym (none f a n k past) ∙ at))
]
  where
    none : {X : Type 0} (f : ℕ → X) (a n k : ℕ) → n ≤ k → slice_get (map f (range_with_len a n)) k ≡ None
    none f a zero k past = refl
    none f a (suc n) zero past = absurd (omega (arith, past))
    none f a (suc n) (suc k) past = none f (a + 1) n k (omega (arith, past))

-- ---- jobs by their names

pub one_job : (plan : LabPlan) (j k : ℕ) → IsPlan plan → j < length plan.jobs → k < length plan.jobs → job_name plan j ≡ job_name plan k → j ≡ k
one_job plan j k is own other same = elim (cases_lt j k) [
  | inl less ↦ absurd (names_differ plan k j is less other same)
  | inr more ↦ elim (cases_lt k j) [
    | inl less ↦ absurd (names_differ plan j k is less own (sym same))
    | inr both ↦ omega (arith, more, both)
  ]
]

-- ---- the sessions that ended, by rank

abbrev IsOneOf : List (ℕ × ℕ) → ℕ × ℕ → Type 0
IsOneOf [] own = ⊥
IsOneOf (first ∷ ended) own = (first ≡ own) ⊎ IsOneOf ended own

own_self : (own : ℕ × ℕ) → is_own own own ≡ true
own_self own = λ i. eq-eqb own.0 own.0 refl i && eq-eqb own.1 own.1 refl i

own_same : (a b : ℕ × ℕ) → is_own a b ≡ true → a ≡ b
own_same a b is =
    let parts = and_parts (a.0 == b.0) (a.1 == b.1) is in
    let first : a.0 ≡ b.0 = eqb-true a.0 b.0 parts.0 in
    let second : a.1 ≡ b.1 = eqb-true a.1 b.1 parts.1 in
    λ i. (first i, second i)

-- where one of them stands
record StandsAt (ended : List (ℕ × ℕ)) (own : ℕ × ℕ) (k : ℕ) : Type 0 where
  few : k < length ended
  is : (d : ℕ × ℕ) → slice_index_or ended k d ≡ own

rank_at : (ended : List (ℕ × ℕ)) (own : ℕ × ℕ) → IsOneOf ended own → StandsAt ended own (rank ended own)
rank_at [] own one = absurd one
rank_at (first ∷ ended) own one = elim (cases_Bool (is_own first own)) [
  | inl same ↦
      subst (StandsAt (first ∷ ended) own) (sym (ap (λ t. if t then 0 else suc (rank ended own)) same))
      (record { few = omega arith; is = λ d. own_same first own same })
  | inr other ↦
      let more = rank_at ended own (behind first own ended one other) in
      subst (StandsAt (first ∷ ended) own) (sym (ap (λ t. if t then 0 else suc (rank ended own)) other))
      (record { few = let few = more.few in omega (arith, few); is = more.is })
]
  where
    behind : (first own : ℕ × ℕ) (ended : List (ℕ × ℕ)) → (first ≡ own) ⊎ IsOneOf ended own → is_own first own ≡ false → IsOneOf ended own
    behind first own ended (inl same) other = absurd (true≢false (sym (own_self first) ∙ ap (is_own first) same ∙ other))
    behind first own ended (inr more) other = more

-- of two of one job the earlier comes first
rank_less : (ended : List (ℕ × ℕ)) (a b : ℕ × ℕ) → IsAscending ended → IsOneOf ended a → IsOneOf ended b → a.0 ≡ b.0 → a.1 < b.1 → rank ended a < rank ended b
rank_less ended a b ascending is_a is_b job less =
    let p = rank_at ended a is_a in
    let q = rank_at ended b is_b in
    elim (cases_lt (rank ended a) (rank ended b)) [
      | inl before ↦ before
      | inr after ↦ elim (cases_eq (rank ended a) (rank ended b)) [
        | inl same ↦
            let one : a ≡ b = sym (p.is a) ∙ ap (λ k. slice_index_or ended k a) same ∙ q.is a in
            let session : a.1 ≡ b.1 = ap (λ (own : ℕ × ℕ). own.1) one in
            absurd (omega (arith, session, less))
        | inr other ↦
            let few = p.few in
            let order = ascending (rank ended b) (rank ended a) a (omega (arith, after, other)) few in
            let first : (slice_index_or ended (rank ended b) a) ≡ b = q.is a in
            let second : (slice_index_or ended (rank ended a) a) ≡ a = p.is a in
            let job_b : (slice_index_or ended (rank ended b) a).0 ≡ b.0 = ap (λ (own : ℕ × ℕ). own.0) first in
            let job_a : (slice_index_or ended (rank ended a) a).0 ≡ a.0 = ap (λ (own : ℕ × ℕ). own.0) second in
            let session_b : (slice_index_or ended (rank ended b) a).1 ≡ b.1 = ap (λ (own : ℕ × ℕ). own.1) first in
            let session_a : (slice_index_or ended (rank ended a) a).1 ≡ a.1 = ap (λ (own : ℕ × ℕ). own.1) second in
            let wrong = order (job_b ∙ sym job ∙ sym job_a) in
            absurd (omega (arith, wrong, session_a, session_b, less))
      ]
    ]

-- ---- the sessions that logs have

-- one that ended, or the one that its job is in
abbrev IsKnown : Books → List (ℕ × ℕ) → ℕ × ℕ → Type 0
IsKnown b ended own = IsOneOf ended own ⊎ ((own.1 ≡ (b.stages own.0).session) × (is_in_session (b.stages own.0).drinking ≡ true))

-- one that ended comes before the one that its job is in
ended_before : (plan : LabPlan) (b : Books) (ended : List (ℕ × ℕ)) (own : ℕ × ℕ) (j : ℕ) → HasEnded plan b ended → IsOneOf ended own
    → is_in_session (b.stages j).drinking ≡ true → own.0 ≡ j → own.1 < (b.stages j).session
ended_before plan b ended own j so one inside job =
    let p = rank_at ended own one in
    let few = p.few in
    past_before b j inside own (subst (IsPast b) (p.is own) (so.past (rank ended own) own few)) job

known_less : (plan : LabPlan) (b : Books) (ended : List (ℕ × ℕ)) (x y : ℕ × ℕ) → HasEnded plan b ended → IsKnown b ended x → IsKnown b ended y
    → x.0 ≡ y.0 → x.1 < y.1 → rank ended x < rank ended y
known_less plan b ended x y so (inl one) (inl two) job less = rank_less ended x y so.ascending one two job less
known_less plan b ended x y so (inl one) (inr two) job less =
    let last = rank_last ended (y.0, (b.stages y.0).session) (all_before (y.0, (b.stages y.0).session) ended
    (λ k d below. past_before b y.0 two.1 (slice_index_or ended k d) (so.past k d below))) in
    let same : rank ended y ≡ rank ended (y.0, (b.stages y.0).session) = λ i. rank ended (y.0, two.0 i) in
    let few = (rank_at ended x one).few in
    omega (arith, last, same, few)
known_less plan b ended x y so (inr one) (inl two) job less =
    let before = ended_before plan b ended y x.0 so two one.1 (sym job) in
    let here = one.0 in
    absurd (omega (arith, before, here, less))
known_less plan b ended x y so (inr one) (inr two) job less =
    let same : (b.stages x.0).session ≡ (b.stages y.0).session = ap (λ j. (b.stages j).session) job in
    let first = one.0 in
    let second = two.0 in
    absurd (omega (arith, first, second, same, less))

lines_known : (P : ℕ × ℕ → Type 0) (j session total place : ℕ) (own : List (ℕ × Verb)) → P (j, session)
    → AllByRecursion (λ line. P (own_of line)) (lines_from j session total place own)
lines_known P j session total place [] h = tt
lines_known P j session total place (c ∷ own) h = (h, lines_known P j session total (place + 1) own h)

both_known : (P : ℕ × ℕ → Type 0) (xs ys : List LogLine) → AllByRecursion (λ line. P (own_of line)) xs → AllByRecursion (λ line. P (own_of line)) ys
    → AllByRecursion (λ line. P (own_of line)) (xs ++ ys)
both_known P [] ys hx hy = hy
both_known P (x ∷ xs) ys hx hy = (hx.0, both_known P xs ys hx.1 hy)

parts_known : (plan : LabPlan) (i : ℕ) (P : ℕ × ℕ → Type 0) (owners : List (ℕ × ℕ)) → ((own : ℕ × ℕ) → IsOneOf owners own → P own)
    → AllByRecursion (λ line. P (own_of line)) (parts_of plan i owners)
parts_known plan i P [] all = tt
parts_known plan i P (own ∷ owners) all =
    let there = commands_on i (commands plan own.0 own.1) in
    both_known P (part_of plan i own) (parts_of plan i owners) (lines_known P own.0 own.1 (length there) 1 there (all own (inl refl)))
    (parts_known plan i P owners (λ other one. all other (inr one)))

log_known : (plan : LabPlan) (b : Books) (ended : List (ℕ × ℕ)) (i : ℕ) → IsKept plan b ended i
    → AllByRecursion (λ line. IsKnown b ended (own_of line)) (map line_of (b.logs i))
log_known plan b ended i kept =
    let P = IsKnown b ended in
    let parts = parts_known plan i P ended (λ own one. inl one) in
    elim kept [
      | inl a ↦
          let x = b.stages a.0 in
          let all = commands plan a.0 x.session in
          let total = length (commands_on i all) in
          let done = commands_on i (take x.position all) in
          let inside = drinking_inside x.drinking (and_parts _ _ a.1).0 in
          subst (AllByRecursion (λ line. P (own_of line))) (sym a.2) (both_known P (parts_of plan i ended) (part_so_far plan i a.0 x) parts
          (lines_known P a.0 x.session total 1 done (inr (refl, inside))))
      | inr a ↦ subst (AllByRecursion (λ line. P (own_of line))) (sym a.1) parts
    ]

known_at : (P : ℕ × ℕ → Type 0) (entries : List LogEntry) (k : ℕ) (entry : LogEntry) → AllByRecursion (λ line. P (own_of line)) (map line_of entries)
    → slice_get entries k ≡ Some entry → P (entry.job, entry.session)
known_at P [] k entry all at = absurd (none_some entry at)
known_at P (x ∷ entries) zero entry all at = subst (λ (e : LogEntry). P (e.job, e.session)) (some_is x entry at) all.0
known_at P (x ∷ entries) (suc k) entry all at = known_at P entries k entry all.1 at

-- ---- entries of a printed report

-- what an entry of some log is
record IsPrinted (plan : LabPlan) (b : Books) (ended : List (ℕ × ℕ)) (text : EntryText) : Type 0 where
  entry : LogEntry
  printed : text ≡ printed_entry plan entry
  written : IsWritten plan entry
  known : IsKnown b ended (entry.job, entry.session)

is_printed : (plan : LabPlan) (opening : State) (events : List Event) (text : EntryText) → IsPlan plan → IsOpening plan opening → IsLegalFrom plan opening events
    → IsEntryOf (map (printed_log plan (shown_after plan opening events)) (instruments plan)) text
    → IsPrinted plan (books (after_all plan opening events)) (ended_sessions plan opening events) text
is_printed plan opening events text is opens legal in_log =
    let s = after_all plan opening events in
    let shown = shown_after plan opening events in
    let ended = ended_sessions plan opening events in
    let kept = (logged plan opening events is opens legal).books_kept in
    let i = 0 + in_log.i in
    let at = made (printed_log plan shown) 0 (length plan.instruments) in_log.i in_log.log in_log.stands in
    let there : slice_get (map (printed_entry plan) (log s i)) in_log.k ≡ Some text =
    subst (λ (one : LogText). slice_get one.entries in_log.k ≡ Some text) at.1 in_log.there in
    let e = entry_at plan (log s i) in_log.k text there in
    record {
      entry = e.0;
      printed = e.2;
      written = written_at plan (log s i) in_log.k e.0 (logs_written plan opening events is opens legal i) e.1;
      known = known_at (IsKnown (books s) ended) (log s i) in_log.k e.0 (log_known plan (books s) ended i (kept.kept i)) e.1;
    }

own_order : (plan : LabPlan) (opening : State) (events : List Event) → IsPlan plan → IsOpening plan opening → IsLegalFrom plan opening events
    → KeepsOwnOrder (told plan (shown_after plan opening events)) (spans_by (rank (ended_sessions plan opening events)) (length plan.jobs))
    (map (printed_log plan (shown_after plan opening events)) (instruments plan))
own_order plan opening events is opens legal a b in_a in_b earlier =
    let s = after_all plan opening events in
    let shown = shown_after plan opening events in
    let ended = ended_sessions plan opening events in
    let kept = (logged plan opening events is opens legal).books_kept in
    let r = rank ended in
    let x = is_printed plan opening events a is opens legal in_a in
    let y = is_printed plan opening events b is opens legal in_b in
    let names : job_name plan x.entry.job ≡ job_name plan y.entry.job =
    sym (ap (λ (e : EntryText). e.job) x.printed) ∙ earlier.job ∙ ap (λ (e : EntryText). e.job) y.printed in
    let job = one_job plan x.entry.job y.entry.job is x.written.job y.written.job names in
    let first : a.session ≡ x.entry.session = ap (λ (e : EntryText). e.session) x.printed in
    let second : b.session ≡ y.entry.session = ap (λ (e : EntryText). e.session) y.printed in
    let session = earlier.session in
    let less = known_less plan (books s) ended (x.entry.job, x.entry.session) (y.entry.job, y.entry.session) kept.ended_so x.known y.known job
    (omega (arith, first, second, session)) in
    record {
      left = span_at (r (x.entry.job, x.entry.session));
      right = span_at (r (y.entry.job, y.entry.session));
      of_first = ap (span_of (told plan shown) (spans_by r (length plan.jobs))) x.printed ∙ entry_span plan shown r x.entry is x.written;
      of_second = ap (span_of (told plan shown) (spans_by r (length plan.jobs))) y.printed ∙ entry_span plan shown r y.entry is y.written;
      before = omega (arith, less);
    }

-- ---- the timeline

each_log : (P : LogText → Type 0) (f : ℕ → LogText) (a n : ℕ) → ((i : ℕ) → P (f i)) → All P (map f (range_with_len a n))
each_log P f a zero h = All-nil P
each_log P f a (suc n) h = All-cons P (f a) (map f (range_with_len (a + 1) n)) (h a) (each_log P f (a + 1) n h)

pub has_timeline : HasTimeline
has_timeline plan opening events is opens legal =
    let s = after_all plan opening events in
    let shown = shown_after plan opening events in
    let ended = ended_sessions plan opening events in
    let kept = (logged plan opening events is opens legal).books_kept in
    let view = view_by plan ended in
    let agrees : (i : ℕ) → Agrees (told plan shown) view (printed_log plan shown i).entries = λ i. record {
      stands = all_stand plan shown ended (log s i) is (logs_written plan opening events is opens legal i);
      follows = all_follow plan shown (rank ended) (log s i) is (logs_written plan opening events is opens legal i)
          (log_chained plan (books s) ended i kept.ended_so (kept.kept i));
    } in (
      view,
      record {
        few_jobs = omega (arith, length-map (jobs plan) (printed_job plan shown), length-range_with_len 0 (length plan.jobs), is.draft.few_jobs);
        few_instruments = omega (
          arith,
          length-map (instruments plan) (printed_log plan shown),
          length-range_with_len 0 (length plan.instruments),
          is.draft.few_instruments,
        );
        agree = each_log (λ (one : LogText). Agrees (told plan shown) view one.entries) (printed_log plan shown) 0 (length plan.instruments) agrees;
        own_order = own_order plan opening events is opens legal;
      },
    )
