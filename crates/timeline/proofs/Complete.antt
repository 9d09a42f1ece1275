-- Of logs without faults, columns that keep the pairs apart are a timeline; sessions that are stuck leave a report none.
use Rattle.std.proofs.Common.{◌≡◌, ℕ, ◌+◌, ◌*◌, ◌<◌, ◌≤◌, Bool, false, List, Some, length, slice_index_or, inl, inr, refl, sym, ◌∙◌, ap, arith}
use Rattle.std.specs.Prelude.{slice_get}
use Rattle.std.proofs.lemmas.Bool.{cases_Bool, false≢true}
use Rattle.std.proofs.lemmas.Option.{slice_get-get_or}
use Rattle.lab_plan.specs.Limits.{most_jobs, most_instruments, most_sessions}
use Rattle.report_reader.specs.Line.{EntryText, JobText}
use Rattle.report_reader.specs.Report.{LogText, ReportText}
use Rattle.timeline.specs.declared.span.Span.{Span}
use Rattle.timeline.specs.Faults.{entry_cause, is_out_of_order, HasNone}
use Rattle.timeline.specs.Timelines.{TimelineView, Stands, Agrees, AllAgree, KeepsOwnOrder, IsTimeline}
use Rattle.timeline.specs.Orders.{StandsBefore, AreUsed, AreOwnPairs, ArePairs, AreSlots, AreOrdered, AreStuck, IsOpen, IsWide, IsRight, AreRight}
use Rattle.timeline.specs.Clean.{IsClean, AllClean}
use Rattle.timeline.proofs.Slots.{slot_below, slot_known, same_of, slots_of}
use Rattle.timeline.proofs.OwnPairs.{right_own}
use Rattle.timeline.proofs.Stuck.{all_got, slot_span, apart, apart_own, stuck_has_none}
use Rattle.timeline.proofs.Apart.{IsSound, no_cause, sound, sound_slot, sound_stands, sound_next}

-- ---- pairs of slots

-- the slots of pairs are slots
pub below : (jobs : List JobText) (logs : List LogText) (pairs : List (ℕ × ℕ)) → ArePairs jobs logs pairs → AreSlots pairs
below jobs logs pairs are x y pair = elim (are.only x y pair) [
  | inl own ↦
      let next = are.are_own.only x y own in
      (used_below jobs logs are.are_own.used x are.are_own.are_used next.first, used_below jobs logs are.are_own.used y are.are_own.are_used next.second)
  | inr p ↦
      let f = p.follows in
      (slot_below jobs f.before x f.are.of_first, slot_below jobs f.entry y f.are.of_second)
]
  where
    used_below : (jobs : List JobText) (logs : List LogText) (used : List Bool) (x : ℕ) → AreUsed jobs logs used → IsOpen used x → x < most_jobs * most_sessions
    used_below jobs logs used x are marked = let u = are.only x marked in slot_below jobs u.is_in.entry x u.is_in.of

-- ---- columns that keep the pairs apart

sound_at : (jobs : List JobText) (entries : List EntryText) (k : ℕ) (e : EntryText) → IsClean jobs entries → slice_get entries k ≡ Some e → IsSound jobs e
sound_at jobs entries k e clean got =
    sound jobs e (no_cause jobs e (entry_cause jobs e) refl (λ c is. (clean k).alone c (record { entry = e; stands = got; fails = is })))

ordered : (jobs : List JobText) (entries : List EntryText) (k : ℕ) (a b : EntryText) → IsClean jobs entries → slice_get entries k ≡ Some a
    → slice_get entries (k + 1) ≡ Some b → is_out_of_order a b ≡ false
ordered jobs entries k a b clean first second = elim (cases_Bool (is_out_of_order a b)) [
  | inl fails ↦ absurd ((clean (k + 1)).in_order (record {
    before = a;
    entry = b;
    place = k;
    next = refl;
    stands_before = first;
    stands = second;
    fails = fails;
  }))
  | inr right ↦ right
]

log_agrees : (jobs : List JobText) (entries : List EntryText) (spans : List Span) (columns : ℕ) → length jobs ≤ most_jobs → IsClean jobs entries
    → ((x : ℕ) → x < most_jobs * most_sessions → IsWide spans columns x) → ((x y : ℕ) → StandsBefore jobs entries x y → IsRight spans x y)
    → Agrees jobs (record { spans = spans; columns = columns }) entries
log_agrees jobs entries spans columns few clean wide right = record {
  stands = λ k d inside. (
      let e = slice_index_or entries k d in
      let s = sound_at jobs entries k e clean (slice_get-get_or entries k d inside) in
      let slot = sound_slot jobs e few s in
      sound_stands jobs spans columns e slot.0 slot.1 s (wide slot.0 slot.2));
  follows = λ k a b first second. (
      let x = sound_slot jobs a few (sound_at jobs entries k a clean first) in
      let y = sound_slot jobs b few (sound_at jobs entries (k + 1) b clean second) in
      sound_next jobs spans a b x.0 y.0 x.1 y.1 (ordered jobs entries k a b clean first second)
      (λ other same. false≢true (sym other ∙ same_of jobs a b x.0 x.1 (y.1 ∙ ap Some (sym same))))
      (λ other. right x.0 y.0 (record {
        place = k;
        before = a;
        entry = b;
        first = first;
        second = second;
        are = record { of_first = x.1; of_second = y.1; other = other };
      })));
}

pub agrees : (jobs : List JobText) (logs : List LogText) (pairs : List (ℕ × ℕ)) (spans : List Span) (columns : ℕ) → length jobs ≤ most_jobs → AllClean jobs logs
    → ArePairs jobs logs pairs → AreOrdered pairs spans columns → AllAgree jobs (record { spans = spans; columns = columns }) logs
agrees jobs logs pairs spans columns few clean are ordered = λ k d inside.
    log_agrees jobs (slice_index_or logs k d).entries spans columns few (clean k d inside) ordered.wide
    (λ x y follows. ordered.right x y (are.all x y (record {
      i = k;
      log = slice_index_or logs k d;
      stands = slice_get-get_or logs k d inside;
      follows = follows;
    })))

-- the sessions of each job are in its own order, where the pairs of these are
pub own_order : (jobs : List JobText) (logs : List LogText) (own : List (ℕ × ℕ)) (view : TimelineView) → AllAgree jobs view logs → AreOwnPairs jobs logs own
    → AreRight view.spans own → KeepsOwnOrder jobs view.spans logs
own_order jobs logs own view agree are right a b in_a in_b earlier =
    let agrees_a : Agrees jobs view in_a.log.entries = all_got (λ (log : LogText). Agrees jobs view log.entries) logs in_a.i in_a.log agree in_a.stands in
    let agrees_b : Agrees jobs view in_b.log.entries = all_got (λ (log : LogText). Agrees jobs view log.entries) logs in_b.i in_b.log agree in_b.stands in
    let stands_a = all_got (Stands jobs view) in_a.log.entries in_a.k a agrees_a.stands in_a.there in
    let stands_b = all_got (Stands jobs view) in_b.log.entries in_b.k b agrees_b.stands in_b.there in
    let x = slot_known jobs view.spans a stands_a.span stands_a.known in
    let y = slot_known jobs view.spans b stands_b.span stands_b.known in
    let of_one = slots_of jobs a b x.0 y.0 x.1 y.1 earlier in
    let first = are.are_used.all x.0 (record { i = in_a.i; log = in_a.log; stands = in_a.stands; is_in = record { place = in_a.k; entry = a; there = in_a.there; of = x.1 } }) in
    let second = are.are_used.all y.0 (record { i = in_b.i; log = in_b.log; stands = in_b.stands; is_in = record { place = in_b.k; entry = b; there = in_b.there; of = y.1 } }) in
    let r = right_own are.used view.spans (λ v w next. right v w (are.all v w next)) (y.0 + 1) x.0 y.0 (omega arith) first second of_one.0 of_one.1 in
    record {
      left = r.left;
      right = r.right;
      of_first = slot_span jobs view.spans a x.0 x.1 ∙ r.of_first;
      of_second = slot_span jobs view.spans b y.0 y.1 ∙ r.of_second;
      before = r.before;
    }

pub is_timeline : (report : ReportText) (pairs : List (ℕ × ℕ)) (spans : List Span) (columns : ℕ) → length report.jobs ≤ most_jobs
    → length report.logs ≤ most_instruments → AllClean report.jobs report.logs → ArePairs report.jobs report.logs pairs → AreOrdered pairs spans columns
    → IsTimeline report (record { spans = spans; columns = columns })
is_timeline report pairs spans columns few few_logs clean are ordered =
    let agree = agrees report.jobs report.logs pairs spans columns few clean are ordered in
    record {
      few_jobs = few;
      few_instruments = few_logs;
      agree = agree;
      own_order = own_order report.jobs report.logs are.own (record { spans = spans; columns = columns }) agree are.are_own
          (λ x y own. ordered.right x y (are.all_own x y own));
    }

-- ---- sessions that are stuck

pub none : (report : ReportText) (pairs : List (ℕ × ℕ)) (marks : List Bool) → ArePairs report.jobs report.logs pairs → AreStuck pairs marks → HasNone report
none report pairs marks are stuck =
    stuck_has_none report (IsOpen marks) stuck.some stuck.marked (λ view is y marked. (
    let b = stuck.behind y marked in (
      b.x,
      b.first,
      elim (are.only b.x y b.pair) [
        | inl own ↦ apart_own report view are.own b.x y is are.are_own own
        | inr p ↦ apart report view b.x y is p
      ],
    )))
