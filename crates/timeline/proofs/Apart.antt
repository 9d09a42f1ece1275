-- Columns that keep the pairs apart are a timeline of logs without faults.
use Rattle.std.proofs.Common.{◌≡◌, ◌≢◌, eqb-true, if◌then◌else◌, ℕ, ◌+◌, ◌*◌, ◌-◌, ◌<◌, ◌≤◌, ◌==◌, ◌&&◌, ◌||◌, Bool, true, false, not, List, [], Option, None, Some, length, inl, inr, refl, sym, ◌∙◌, ap, arith, nat_lt}
use Rattle.std.specs.Prelude.{nat_le}
use Rattle.std.specs.Option.{option_and_then, is_some}
use Rattle.std.specs.Str.{bytes_eq}
use Rattle.std.proofs.lemmas.Bool.{cases_Bool, or_parts, false≢true}
use Rattle.std.proofs.lemmas.Bool.Decides.{nat_tests}
use Rattle.std.proofs.lemmas.List.Quantifiers.{position-Some}
use Rattle.lab_plan.specs.Limits.{most_jobs, most_sessions, most_commands}
use Rattle.report_reader.specs.Line.{EntryText, JobText}
use Rattle.timeline.specs.declared.fault.EntryCause.{EntryCause}
use Rattle.timeline.specs.declared.fault.EntryCause.TheVariants as causes
use Rattle.timeline.specs.declared.span.Span.{Span}
use Rattle.timeline.specs.Spans.{job_number, slot_of, is_same_session}
use Rattle.timeline.specs.Faults.{at, entry_cause, is_out_of_order}
use Rattle.timeline.specs.Timelines.{Stands, IsNextOf}
use Rattle.timeline.specs.Orders.{IsWide, IsRight}
use Rattle.timeline.proofs.Failing.{some_none}
use Rattle.timeline.proofs.Stuck.{slot_span}

-- none of the three tests holds of an entry without a cause
none_holds : (b1 b2 b3 : Bool) → at b1 causes.NoJobLine (at b2 causes.LimitPassed (at b3 causes.NoSuchPlace None)) ≡ None
    → (b1 ≡ false) × (b2 ≡ false) × (b3 ≡ false)
none_holds true b2 b3 is = some_none causes.NoJobLine is
none_holds false true b3 is = some_none causes.LimitPassed is
none_holds false false true is = some_none causes.NoSuchPlace is
none_holds false false false is = (refl, refl, refl)

-- what an entry without a cause is
pub record IsSound (jobs : List JobText) (e : EntryText) : Type 0 where
  pub job : ℕ
  pub named : job_number jobs e.job ≡ Some job
  pub session_from : 1 ≤ e.session
  pub session_to : e.session ≤ most_sessions
  pub length_to : e.length ≤ most_commands
  pub place_from : 1 ≤ e.place
  pub place_to : e.place ≤ e.length

job_of : (found : Option ℕ) → not (is_some found) ≡ false → (job : ℕ) × (found ≡ Some job)
job_of None is = absurd (impossible is)
  where
    impossible : true ≡ false → ⊥
    impossible e = cc
job_of (Some job) is = (job, refl)

pub no_cause : (jobs : List JobText) (e : EntryText) (cause : Option EntryCause) → entry_cause jobs e ≡ cause → ((c : EntryCause) → cause ≡ Some c → ⊥) → cause ≡ None
no_cause jobs e None is no_one = refl
no_cause jobs e (Some c) is no_one = absurd (no_one c refl)

zero_session : (n : ℕ) → (n == 0) ≡ false → 1 ≤ n
zero_session n h = grind (arith, nat_tests, h)

not_below : (a b : ℕ) → nat_lt a b ≡ false → b ≤ a
not_below a b h = grind (arith, nat_tests, h)

pub sound : (jobs : List JobText) (e : EntryText) → entry_cause jobs e ≡ None → IsSound jobs e
sound jobs e none =
    let tests = none_holds (not (is_some (job_number jobs e.job))) (nat_lt most_sessions e.session || nat_lt most_commands e.length)
    (e.session == 0 || e.place == 0 || nat_lt e.length e.place) none in
    let job = job_of (job_number jobs e.job) tests.0 in
    let limits = or_parts (nat_lt most_sessions e.session) (nat_lt most_commands e.length) tests.1 in
    let places = or_parts (e.session == 0 || e.place == 0) (nat_lt e.length e.place) tests.2 in
    let firsts = or_parts (e.session == 0) (e.place == 0) places.0 in
    record {
      job = job.0;
      named = job.1;
      session_from = zero_session e.session firsts.0;
      session_to = not_below most_sessions e.session limits.0;
      length_to = not_below most_commands e.length limits.1;
      place_from = zero_session e.place firsts.1;
      place_to = not_below e.length e.place places.1;
    }

pub tests_hold : (job session : ℕ) → job < most_jobs → 1 ≤ session → session ≤ most_sessions
    → (nat_lt job most_jobs && nat_le 1 session && nat_le session most_sessions) ≡ true
tests_hold job session few some within = λ i. one job few i && two session some i && three session within i
  where
    one : (j : ℕ) → j < 32 → nat_lt j 32 ≡ true
    one j h = grind (arith, nat_tests, h)

    two : (n : ℕ) → 1 ≤ n → nat_le 1 n ≡ true
    two n h = grind (arith, nat_tests, h)

    three : (n : ℕ) → n ≤ 1000 → nat_le n 1000 ≡ true
    three n h = grind (arith, nat_tests, h)

-- a sound entry has a slot
pub sound_slot : (jobs : List JobText) (e : EntryText) → length jobs ≤ most_jobs → IsSound jobs e
    → (x : ℕ) × (slot_of jobs e ≡ Some x) × (x < most_jobs * most_sessions)
unfolding slot_of
sound_slot jobs e few s =
    let unnamed : JobText = record { name = []; done = 0; sessions = 0; withdrawn = None; meals = 0; is_retired = false } in
    let inside : s.job < length jobs = (position-Some (λ (job : JobText). bytes_eq job.name e.job) jobs s.job unnamed s.named).0 in
    let from = s.session_from in
    let to = s.session_to in
    let x = most_sessions * s.job + (e.session - 1) in (
      x,
      (λ i. option_and_then (λ j. if nat_lt j most_jobs && nat_le 1 e.session && nat_le e.session most_sessions
          then Some (most_sessions * j + (e.session - 1)) else None) (s.named i))
          ∙ ap (λ t. if t then Some x else None) (tests_hold s.job e.session (omega (arith, inside, few)) from to),
      omega (arith, inside, few, from, to),
    )

pub sound_stands : (jobs : List JobText) (spans : List Span) (columns : ℕ) (e : EntryText) (x : ℕ) → slot_of jobs e ≡ Some x → IsSound jobs e
    → IsWide spans columns x → Stands jobs (record { spans = spans; columns = columns }) e
sound_stands jobs spans columns e x slot s w = record {
  span = w.span;
  known = slot_span jobs spans e x slot ∙ w.known;
  begun = s.place_from;
  within = s.place_to;
  wide = let wide = w.wide in let few = s.length_to in omega (arith, wide, few);
  inside = w.inside;
}

-- the second of two entries goes on, or is right of the first
pub sound_next : (jobs : List JobText) (spans : List Span) (a b : EntryText) (x y : ℕ) → slot_of jobs a ≡ Some x → slot_of jobs b ≡ Some y
    → is_out_of_order a b ≡ false → (is_same_session a b ≡ false → x ≢ y) → (x ≢ y → IsRight spans x y) → IsNextOf jobs spans a b
sound_next jobs spans a b x y slot_a slot_b ordered differ right = elim (cases_Bool (is_same_session a b)) [
  | inl same ↦
      let later = later_of (is_same_session a b) (a.length == b.length) (nat_lt a.place b.place) same ordered in
      inl (record { same = same; length = eqb-true a.length b.length later.0; later = ltb-true a.place b.place later.1 })
  | inr other ↦
      let r = right (differ other) in
      inr (record {
        left = r.left;
        right = r.right;
        of_first = slot_span jobs spans a x slot_a ∙ r.of_first;
        of_second = slot_span jobs spans b y slot_b ∙ r.of_second;
        before = r.before;
      })
]
  where
    later_of : (s l p : Bool) → s ≡ true → (s && not (l && p)) ≡ false → (l ≡ true) × (p ≡ true)
    later_of true true true is no_order = (refl, refl)
    later_of true true false is no_order = absurd (false≢true (sym no_order))
    later_of true false p is no_order = absurd (false≢true (sym no_order))
    later_of false l p is no_order = absurd (false≢true is)

    ltb-true : (a b : ℕ) → nat_lt a b ≡ true → a < b
    ltb-true a b h = grind (arith, nat_tests, h)
