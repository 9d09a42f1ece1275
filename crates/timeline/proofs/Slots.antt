-- Slots and the sessions that they are of.
use Rattle.std.proofs.Common.{◌≡◌, if◌then◌else◌, ℕ, ◌+◌, ◌*◌, ◌/◌, ◌-◌, ◌<◌, ◌≤◌, ◌==◌, ◌&&◌, Bool, true, false, List, [], None, Some, slice_index_or, refl, sym, ◌∙◌, ap, arith, nat_lt}
use Rattle.std.specs.Prelude.{nat_le, slice_get}
use Rattle.std.specs.Str.{bytes_eq}
use Rattle.std.proofs.lemmas.Bool.{and_parts}
use Rattle.std.proofs.lemmas.Bool.Decides.{nat_tests}
use Rattle.std.proofs.lemmas.List.Quantifiers.{position-Some}
use Rattle.std.proofs.lemmas.Option.{option_and_then_some}
use Rattle.std.proofs.lemmas.Slice.Eq.{bytes_eq-Decides}
use Rattle.lab_plan.specs.Limits.{most_jobs, most_sessions}
use Rattle.report_reader.specs.Line.{EntryText, JobText}
use Rattle.timeline.specs.declared.span.Span.{Span}
use Rattle.timeline.specs.Spans.{job_number, slot_of, span_of, is_same_session}
use Rattle.timeline.specs.Timelines.{IsEarlier}
use Rattle.timeline.proofs.Failing.{some_none}

pub some_one : {X : Type 0} (x y : X) → Some x ≡ Some y → x ≡ y
some_one x y e = cc

-- what has columns has a slot
pub slot_known : (jobs : List JobText) (spans : List Span) (e : EntryText) (span : Span) → span_of jobs spans e ≡ Some span → (x : ℕ) × (slot_of jobs e ≡ Some x)
unfolding span_of
slot_known jobs spans e span is = option_and_then_some (slice_get spans) (slot_of jobs e) span is (λ x slot found. (x, slot))

-- the session that a slot is of
pub record IsSlot (jobs : List JobText) (e : EntryText) (x : ℕ) : Type 0 where
  pub job : ℕ
  pub named : job_number jobs e.job ≡ Some job
  pub few : job < most_jobs
  pub from : 1 ≤ e.session
  pub to : e.session ≤ most_sessions
  pub is : most_sessions * job + (e.session - 1) ≡ x

tested : (t : Bool) (v x : ℕ) → (if t then Some v else None) ≡ Some x → (t ≡ true) × (v ≡ x)
tested true v x is = (refl, let e : Some v ≡ Some x = is in cc)
tested false v x is = some_none x (sym is)

below_is : (a b : ℕ) → nat_lt a b ≡ true → a < b
below_is a b h = grind (arith, nat_tests, h)

at_most_is : (a b : ℕ) → nat_le a b ≡ true → a ≤ b
at_most_is a b h = grind (arith, nat_tests, h)

equal_is : (a b : ℕ) → a ≡ b → (a == b) ≡ true
equal_is a b h = grind (arith, nat_tests, h)

pub slot_is : (jobs : List JobText) (e : EntryText) (x : ℕ) → slot_of jobs e ≡ Some x → IsSlot jobs e x
unfolding slot_of
slot_is jobs e x is =
    option_and_then_some (λ j. if nat_lt j most_jobs && nat_le 1 e.session && nat_le e.session most_sessions
    then Some (most_sessions * j + (e.session - 1)) else None) (job_number jobs e.job) x is (λ j named found. (
    let holds = tested (nat_lt j most_jobs && nat_le 1 e.session && nat_le e.session most_sessions) (most_sessions * j + (e.session - 1)) x found in
    let both = and_parts (nat_lt j most_jobs && nat_le 1 e.session) (nat_le e.session most_sessions) holds.0 in
    let firsts = and_parts (nat_lt j most_jobs) (nat_le 1 e.session) both.0 in
    record {
      job = j;
      named = named;
      few = below_is j most_jobs firsts.0;
      from = at_most_is 1 e.session firsts.1;
      to = at_most_is e.session most_sessions both.1;
      is = holds.1;
    }))

pub slot_below : (jobs : List JobText) (e : EntryText) (x : ℕ) → slot_of jobs e ≡ Some x → x < most_jobs * most_sessions
slot_below jobs e x is =
    let s = slot_is jobs e x is in
    let few = s.few in let from = s.from in let to = s.to in let at = s.is in
    omega (arith, few, from, to, at)

named_so : (jobs : List JobText) (name : List ℕ) (j : ℕ) (d : JobText) → job_number jobs name ≡ Some j → (slice_index_or jobs j d).name ≡ name
named_so jobs name j d is =
    let found = position-Some (λ (job : JobText). bytes_eq job.name name) jobs j d is in
    (bytes_eq-Decides (slice_index_or jobs j d).name name).0 found.1

-- jobs of one number have one name
one_name : (jobs : List JobText) (a b : List ℕ) (j k : ℕ) → job_number jobs a ≡ Some j → job_number jobs b ≡ Some k → j ≡ k → a ≡ b
one_name jobs a b j k is_a is_b same =
    let unnamed : JobText = record { name = []; done = 0; sessions = 0; withdrawn = None; meals = 0; is_retired = false } in
    sym (named_so jobs a j unnamed is_a) ∙ ap (λ n. (slice_index_or jobs n unnamed).name) same ∙ named_so jobs b k unnamed is_b

-- one slot is of one session
pub same_of : (jobs : List JobText) (a b : EntryText) (x : ℕ) → slot_of jobs a ≡ Some x → slot_of jobs b ≡ Some x → is_same_session a b ≡ true
same_of jobs a b x is_a is_b =
    let s = slot_is jobs a x is_a in
    let t = slot_is jobs b x is_b in
    let at_s = s.is in let from_s = s.from in let to_s = s.to in
    let at_t = t.is in let from_t = t.from in let to_t = t.to in
    let job : s.job ≡ t.job = omega (arith, at_s, from_s, to_s, at_t, from_t, to_t) in
    let session : a.session ≡ b.session = omega (arith, at_s, from_s, to_s, at_t, from_t, to_t) in
    let names : a.job ≡ b.job = one_name jobs a.job b.job s.job t.job s.named t.named job in
    let one : bytes_eq a.job b.job ≡ true = (bytes_eq-Decides a.job b.job).1 names in
    let two : (a.session == b.session) ≡ true = equal_is a.session b.session session in
    λ i. one i && two i

-- of slots of one job the later is of a later session
pub earlier_of : (jobs : List JobText) (a b : EntryText) (x y : ℕ) → slot_of jobs a ≡ Some x → slot_of jobs b ≡ Some y → x / most_sessions ≡ y / most_sessions → x < y
    → IsEarlier a b
earlier_of jobs a b x y is_a is_b one_job later =
    let s = slot_is jobs a x is_a in
    let t = slot_is jobs b y is_b in
    let at_s = s.is in let from_s = s.from in let to_s = s.to in
    let at_t = t.is in let from_t = t.from in let to_t = t.to in
    let first : x / 1000 ≡ s.job = omega (arith, at_s, from_s, to_s) in
    let second : y / 1000 ≡ t.job = omega (arith, at_t, from_t, to_t) in
    let job : s.job ≡ t.job = sym first ∙ one_job ∙ second in
    record { job = one_name jobs a.job b.job s.job t.job s.named t.named job; session = omega (arith, at_s, from_s, at_t, from_t, job, later) }

-- so have two entries of which the first is of an earlier session
pub slots_of : (jobs : List JobText) (a b : EntryText) (x y : ℕ) → slot_of jobs a ≡ Some x → slot_of jobs b ≡ Some y → IsEarlier a b
    → (x / most_sessions ≡ y / most_sessions) × (x < y)
slots_of jobs a b x y is_a is_b earlier =
    let s = slot_is jobs a x is_a in
    let t = slot_is jobs b y is_b in
    let at_s = s.is in let from_s = s.from in let to_s = s.to in
    let at_t = t.is in let from_t = t.from in let to_t = t.to in
    let job : s.job ≡ t.job = some_one s.job t.job (sym s.named ∙ ap (job_number jobs) earlier.job ∙ t.named) in
    let less = earlier.session in
    let first : x / 1000 ≡ s.job = omega (arith, at_s, from_s, to_s) in
    let second : y / 1000 ≡ t.job = omega (arith, at_t, from_t, to_t) in
    (first ∙ job ∙ sym second, omega (arith, at_s, from_s, at_t, from_t, job, less))
