-- Sessions of which each stands right behind another of them have no columns.
use Rattle.std.proofs.Common.{◌≡◌, ℕ, ◌+◌, ◌<◌, List, Some, arith, sym, ap, ◌∙◌, subst, inl, inr, eqb-true, zero, suc, ◌==◌, true}
use Rattle.std.specs.List.{slice_get, All, Contains}
use Rattle.std.specs.Option.{option_and_then}
use Rattle.std.specs.Str.{bytes_eq}
use Rattle.std.proofs.lemmas.Option.{slice_get_within, get_or_from_slice_get}
use Rattle.std.proofs.lemmas.Slice.Eq.{bytes_eq-Decides}
use Rattle.std.proofs.lemmas.Bool.{and_parts}
use Rattle.report_reader.specs.Line.{EntryText, JobText}
use Rattle.report_reader.specs.Report.{LogText, ReportText}
use Rattle.timeline.specs.declared.span.Span.{Span}
use Rattle.timeline.specs.Spans.{slot_of, span_of, is_same_session}
use Rattle.timeline.specs.Timelines.{TimelineView, Stands, IsNextOf, IsRightOf, Agrees, IsEntryOf, IsTimeline}
use Rattle.timeline.specs.Faults.{HasNone}
use Rattle.timeline.specs.Orders.{AreOf, Precedes, IsUsed, AreOwnPairs}
use Rattle.timeline.proofs.Slots.{some_one, earlier_of}

-- an element that is got has what all have
pub all_got : {X : Type 0} (P : X → Type 0) (xs : List X) (k : ℕ) (x : X) → All P xs → slice_get xs k ≡ Some x → P x
all_got P xs k x all got = subst P (get_or_from_slice_get xs k x x got) (all k x (slice_get_within xs k x got))

-- one session is kept in one slot
pub one_slot : (jobs : List JobText) (a b : EntryText) → is_same_session a b ≡ true → slot_of jobs a ≡ slot_of jobs b
unfolding slot_of
one_slot jobs a b same =
    let parts = and_parts (bytes_eq a.job b.job) (a.session == b.session) same in
    let names : a.job ≡ b.job = (bytes_eq-Decides a.job b.job).0 parts.0 in
    let numbers : a.session ≡ b.session = eqb-true a.session b.session parts.1 in
    λ i. slot_of jobs (record { job = names i; session = numbers i; place = a.place; length = a.length; verb = a.verb; value = a.value })

-- the columns of an entry are those of its slot
pub slot_span : (jobs : List JobText) (spans : List Span) (e : EntryText) (x : ℕ) → slot_of jobs e ≡ Some x → span_of jobs spans e ≡ slice_get spans x
unfolding span_of
slot_span jobs spans e x is = ap (option_and_then (slice_get spans)) is

-- in a timeline the first of two neighbours starts before the second
pub record Apart (spans : List Span) (x y : ℕ) : Type 0 where
  pub left : Span
  pub right : Span
  pub of_first : slice_get spans x ≡ Some left
  pub of_second : slice_get spans y ≡ Some right
  pub before : left.start < right.start

apart_right : (jobs : List JobText) (view : TimelineView) (a b : EntryText) (x y : ℕ) → slot_of jobs a ≡ Some x → slot_of jobs b ≡ Some y
    → Stands jobs view a → IsRightOf jobs view.spans a b → Apart view.spans x y
apart_right jobs view a b x y is_a is_b stands right =
    let known : stands.span ≡ right.left = some_one stands.span right.left (sym stands.known ∙ right.of_first) in
    let width : stands.span.width ≡ right.left.width = ap (λ (s : Span). s.width) known in
    record {
      left = right.left;
      right = right.right;
      of_first = sym (slot_span jobs view.spans a x is_a) ∙ right.of_first;
      of_second = sym (slot_span jobs view.spans b y is_b) ∙ right.of_second;
      before = omega (arith, width, stands.begun, stands.within, stands.wide, right.before);
    }

apart_next : (jobs : List JobText) (view : TimelineView) (a b : EntryText) (x y : ℕ) → AreOf jobs a b x y → Stands jobs view a → IsNextOf jobs view.spans a b
    → Apart view.spans x y
apart_next jobs view a b x y are stands (inl on) =
    absurd (are.other (some_one x y (sym are.of_first ∙ one_slot jobs a b on.same ∙ are.of_second)))
apart_next jobs view a b x y are stands (inr right) = apart_right jobs view a b x y are.of_first are.of_second stands right

pub apart : (report : ReportText) (view : TimelineView) (x y : ℕ) → IsTimeline report view → Precedes report.jobs report.logs x y → Apart view.spans x y
apart report view x y is p =
    let f = p.follows in
    let agrees : Agrees report.jobs view p.log.entries = all_got (λ (log : LogText). Agrees report.jobs view log.entries) report.logs p.i p.log is.agree p.stands in
    apart_next report.jobs view f.before f.entry x y f.are (all_got (Stands report.jobs view) p.log.entries f.place f.before agrees.stands f.first)
    (agrees.follows f.place f.before f.entry f.first f.second)

entry_of : (jobs : List JobText) (logs : List LogText) (x : ℕ) (u : IsUsed jobs logs x) → IsEntryOf logs u.is_in.entry
entry_of jobs logs x u = record { i = u.i; k = u.is_in.place; log = u.log; stands = u.stands; there = u.is_in.there }

-- so do two sessions of a job
pub apart_own : (report : ReportText) (view : TimelineView) (own : List (ℕ × ℕ)) (x y : ℕ) → IsTimeline report view → AreOwnPairs report.jobs report.logs own
    → Contains own (x, y) → Apart view.spans x y
apart_own report view own x y is are pair =
    let next = are.only x y pair in
    let u = are.are_used.only x next.first in
    let v = are.are_used.only y next.second in
    let a = u.is_in.entry in
    let b = v.is_in.entry in
    let agrees : Agrees report.jobs view u.log.entries = all_got (λ (log : LogText). Agrees report.jobs view log.entries) report.logs u.i u.log is.agree u.stands in
    apart_right report.jobs view a b x y u.is_in.of v.is_in.of (all_got (Stands report.jobs view) u.log.entries u.is_in.place a agrees.stands u.is_in.there)
    (is.own_order a b (entry_of report.jobs report.logs x u) (entry_of report.jobs report.logs y v)
    (earlier_of report.jobs a b x y u.is_in.of v.is_in.of next.one_job next.later))

-- each of these sessions has another of them that starts before it
abbrev pub IsStuck : List Span → (ℕ → Type 0) → Type 0
IsStuck spans Open = (y : ℕ) → Open y → (x : ℕ) × Open x × Apart spans x y

no_start : (spans : List Span) (Open : ℕ → Type 0) → IsStuck spans Open
    → (n y : ℕ) (span : Span) → Open y → slice_get spans y ≡ Some span → span.start < n → ⊥
no_start spans Open stuck zero y span marked has few = omega (arith, few)
no_start spans Open stuck (suc n) y span marked has few =
    let before = stuck y marked in
    let a = before.2 in
    let same : a.right ≡ span = some_one a.right span (sym a.of_second ∙ has) in
    let start : a.right.start ≡ span.start = ap (λ (s : Span). s.start) same in
    no_start spans Open stuck n before.0 a.left before.1 a.of_first (omega (arith, start, a.before, few))

-- so they have no timeline, where there is one of them
pub stuck_has_none : (report : ReportText) (Open : ℕ → Type 0) (y : ℕ) → Open y
    → ((view : TimelineView) → IsTimeline report view → IsStuck view.spans Open) → HasNone report
stuck_has_none report Open y marked stuck view is =
    let before = stuck view is y marked in
    let a = before.2 in
    no_start view.spans Open (stuck view is) (a.right.start + 1) y a.right marked a.of_second (omega arith)
