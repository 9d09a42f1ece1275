-- What is wrong with entries and job lines, where they lie.
use Rattle.std.proofs.Common.{◌≡◌, ℕ, Bool, true, false, not, ◌+◌, ◌-◌, ◌<◌, ◌≤◌, List}
use Rattle.std.proofs.Common.{Option, None, Some, length, map, slice_index_or, arith, refl, sym, ap, ◌∙◌, subst, inl, inr, nat_eq}
use Rattle.std.specs.List.{slice_get}
use Rattle.std.specs.Option.{option_eq}
use Rattle.std.proofs.lemmas.Bool.{false≢true, cases_lt}
use Rattle.std.proofs.lemmas.Bool.Decides.{nat_tests}
use Rattle.std.proofs.lemmas.Option.{slice_get_within}
use Rattle.report_reader.specs.declared.lines.EntryLine.{EntryLine}
use Rattle.report_reader.specs.declared.lines.JobLine.{JobLine}
use Rattle.report_reader.specs.Form.{entry_text, job_text}
use Rattle.report_reader.specs.Line.{EntryText, JobText}
use Rattle.timeline.specs.declared.fault.EntryCause.{EntryCause}
use Rattle.timeline.specs.declared.fault.EntryCause.TheVariants as causes
use Rattle.timeline.specs.Spans.{job_number, is_same_session}
use Rattle.timeline.proofs.Spelled.{spelled_at}
use Rattle.timeline.specs.Faults.{at, entry_cause, is_out_of_order, IsNamedBefore, IsOutOfOrder, IsTwice, FailsAlone, FailsAt}
use Rattle.timeline.specs.Clean.{IsCleanAt, IsClean}

-- of the causes that an entry has by itself none is about others
abbrev is_own : EntryCause → Bool
is_own causes.OutOfOrder = false
is_own causes.SessionTwice = false
is_own _ = true

none_of_others : (b1 b2 b3 : Bool) (cause : EntryCause)
    → (is_own cause ≡ false) → at b1 causes.NoJobLine (at b2 causes.LimitPassed (at b3 causes.NoSuchPlace None)) ≡ Some cause → ⊥
none_of_others true b2 b3 cause other is = let e : causes.NoJobLine ≡ cause = cc in false≢true (sym other ∙ ap is_own (sym e))
none_of_others false true b3 cause other is = let e : causes.LimitPassed ≡ cause = cc in false≢true (sym other ∙ ap is_own (sym e))
none_of_others false false true cause other is = let e : causes.NoSuchPlace ≡ cause = cc in false≢true (sym other ∙ ap is_own (sym e))
none_of_others false false false cause other is = cc

-- the job line that isn't the first of its name
pub named_before : (jobs : List JobLine) (n : ℕ) (d : JobLine) (found : Option ℕ) → n < length jobs
    → found ≡ job_number (map job_text jobs) (slice_index_or jobs n d).name.now
    → not (option_eq nat_eq found (Some n)) ≡ true → IsNamedBefore (map job_text jobs) n
named_before jobs n d found inside is test =
    record {
      job = job_text (slice_index_or jobs n d);
      stands = spelled_at job_text jobs n d inside;
      other = λ same.
          let equal : found ≡ Some n = is ∙ same in
          let bad : not (nat_eq n n) ≡ true = subst (λ o. not (option_eq nat_eq o (Some n)) ≡ true) equal test in
          absurd (grind (arith, nat_tests, bad));
    }

pub twice_at : (entries : List EntryLine) (place begun : ℕ) (d e f : EntryLine) → place + 1 < length entries → begun < place
    → is_same_session (entry_text (slice_index_or entries place d)) (entry_text (slice_index_or entries (place + 1) e)) ≡ false
    → is_same_session (entry_text (slice_index_or entries begun f)) (entry_text (slice_index_or entries (place + 1) e)) ≡ true
    → IsTwice (map entry_text entries) (place + 1)
twice_at entries place begun d e f inside before other same =
    record {
      first = entry_text (slice_index_or entries begun f);
      between = entry_text (slice_index_or entries place d);
      entry = entry_text (slice_index_or entries (place + 1) e);
      place = place;
      begun = begun;
      next = refl;
      earlier = before;
      stands_first = spelled_at entry_text entries begun f (omega arith);
      stands_between = spelled_at entry_text entries place d (omega arith);
      stands = spelled_at entry_text entries (place + 1) e inside;
      same = same;
      other = other;
    }

pub fails_alone : (jobs : List JobText) (entries : List EntryLine) (k : ℕ) (d : EntryLine) (cause : EntryCause) → k < length entries
    → entry_cause jobs (entry_text (slice_index_or entries k d)) ≡ Some cause → FailsAlone jobs (map entry_text entries) k cause
fails_alone jobs entries k d cause inside fails = record {
  entry = entry_text (slice_index_or entries k d);
  stands = spelled_at entry_text entries k d inside;
  fails = fails;
}

-- by itself an entry has one of three causes
pub fails_so : (jobs : List JobText) (entries : List EntryText) (k : ℕ) (cause : EntryCause) → FailsAlone jobs entries k cause → FailsAt jobs entries k cause
fails_so jobs entries k causes.NoJobLine f = f
fails_so jobs entries k causes.LimitPassed f = f
fails_so jobs entries k causes.NoSuchPlace f = f
fails_so jobs entries k causes.OutOfOrder f = absurd (none_of_others _ _ _ causes.OutOfOrder refl f.fails)
fails_so jobs entries k causes.SessionTwice f = absurd (none_of_others _ _ _ causes.SessionTwice refl f.fails)

pub out_of_order : (entries : List EntryLine) (place : ℕ) (d e : EntryLine) → 0 < place → place < length entries
    → is_out_of_order (entry_text (slice_index_or entries (place - 1) d)) (entry_text (slice_index_or entries place e)) ≡ true
    → IsOutOfOrder (map entry_text entries) place
out_of_order entries place d e some inside fails = record {
  before = entry_text (slice_index_or entries (place - 1) d);
  entry = entry_text (slice_index_or entries place e);
  place = place - 1;
  next = omega arith;
  stands_before = spelled_at entry_text entries (place - 1) d (omega arith);
  stands = spelled_at entry_text entries place e inside;
  fails = fails;
}

pub some_none : {X Y : Type 0} (x : X) → Some x ≡ None → Y
some_none x e = absurd (not_none x e)
  where
    not_none : {X : Type 0} (x : X) → Some x ≡ None → ⊥
    not_none x e = cc

pub clean_at : (jobs : List JobText) (entries : List EntryLine) (k : ℕ) (d : EntryLine) → k < length entries
    → entry_cause jobs (entry_text (slice_index_or entries k d)) ≡ None → (IsOutOfOrder (map entry_text entries) k → ⊥)
    → IsCleanAt jobs (map entry_text entries) k
clean_at jobs entries k d inside none in_order = record {
  alone = λ cause f.
      let at : Some (entry_text (slice_index_or entries k d)) ≡ Some f.entry = sym (spelled_at entry_text entries k d inside) ∙ f.stands in
      let same : entry_text (slice_index_or entries k d) ≡ f.entry = cc in
      some_none cause (sym f.fails ∙ sym (ap (entry_cause jobs) same) ∙ none);
  in_order = in_order;
}

pub ordered_at : (entries : List EntryLine) (place : ℕ) (d e : EntryLine) → place < length entries
    → is_out_of_order (entry_text (slice_index_or entries (place - 1) d)) (entry_text (slice_index_or entries place e)) ≡ false
    → IsOutOfOrder (map entry_text entries) place → ⊥
ordered_at entries place d e inside right f =
    let before : f.place ≡ place - 1 = (let next = f.next in omega (arith, next)) in
    let a : Some (entry_text (slice_index_or entries (place - 1) d)) ≡ Some f.before =
    sym (spelled_at entry_text entries (place - 1) d (omega arith)) ∙ ap (slice_get (map entry_text entries)) (sym before) ∙ f.stands_before in
    let b : Some (entry_text (slice_index_or entries place e)) ≡ Some f.entry = sym (spelled_at entry_text entries place e inside) ∙ f.stands in
    let is_a : entry_text (slice_index_or entries (place - 1) d) ≡ f.before = cc in
    let is_b : entry_text (slice_index_or entries place e) ≡ f.entry = cc in
    false≢true (sym right ∙ (λ i. is_out_of_order (is_a i) (is_b i)) ∙ f.fails)

pub first_clean : (jobs : List JobText) (entries : List EntryLine) (k : ℕ) → (0 < k → ⊥) → IsOutOfOrder (map entry_text entries) k → ⊥
first_clean jobs entries k first f = let next = f.next in first (omega (arith, next))

pub all_clean : (jobs : List JobText) (entries : List EntryText) (n : ℕ) → length entries ≤ n → ((k : ℕ) → k < n → IsCleanAt jobs entries k) → IsClean jobs entries
all_clean jobs entries n past below k = elim (cases_lt k n) [
  | inl less ↦ below k less
  | inr more ↦ record {
    alone = λ cause f. absurd (let inside = slice_get_within entries k f.entry f.stands in omega (arith, inside, more, past));
    in_order = λ f. absurd (let inside = slice_get_within entries k f.entry f.stands in omega (arith, inside, more, past));
  }
]
