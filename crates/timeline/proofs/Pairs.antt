-- The pairs of a log's entries.
use Rattle.std.proofs.Common.{◌≡◌, ℕ, ◌+◌, ◌<◌, ◌≤◌, List, [], ◌∷◌, ◌++◌, Some, length, inl, inr, sym, ◌∙◌, ap, subst, arith}
use Rattle.std.specs.Prelude.{◌⊎◌, slice_get, IfSome, Option}
use Rattle.std.specs.List.{Contains}
use Rattle.std.proofs.lemmas.Bool.{cases_eq}
use Rattle.std.proofs.lemmas.Option.{slice_get_within}
use Rattle.std.proofs.lemmas.List.Elements.{Contains-push, Contains-push_cases, Contains-append_left}
use Rattle.report_reader.specs.Line.{EntryText, JobText}
use Rattle.timeline.specs.Spans.{slot_of}
use Rattle.report_reader.specs.Report.{LogText}
use Rattle.timeline.specs.Orders.{AreOf, StandsBefore, Precedes, AreOwnPairs, ArePairs, AddsBelow, Adds}
use Rattle.timeline.proofs.Slots.{some_one}

-- the slots of two neighbours are those of the entries there
same_pair : (jobs : List JobText) (entries : List EntryText) (n x y : ℕ) (a b : EntryText) (s : StandsBefore jobs entries x y) → s.place ≡ n
    → slice_get entries n ≡ Some a → slice_get entries (n + 1) ≡ Some b → AreOf jobs a b x y
same_pair jobs entries n x y a b s at first second =
    let is_a : s.before ≡ a = some_one s.before a (sym s.first ∙ ap (slice_get entries) at ∙ first) in
    let is_b : s.entry ≡ b = some_one s.entry b (sym s.second ∙ ap (λ k. slice_get entries (k + 1)) at ∙ second) in
    record {
      of_first = ap (slot_of jobs) (sym is_a) ∙ s.are.of_first;
      of_second = ap (slot_of jobs) (sym is_b) ∙ s.are.of_second;
      other = s.are.other;
    }

abbrev IsPair : ℕ → ℕ → ℕ → ℕ → Type 0
IsPair x y v w = let p : ℕ × ℕ = (x, y) in p ≡ (v, w)

one_pair : (jobs : List JobText) (a b : EntryText) (x y v w : ℕ) → AreOf jobs a b x y → AreOf jobs a b v w → IsPair x y v w
one_pair jobs a b x y v w one two =
    let first : x ≡ v = some_one x v (sym one.of_first ∙ two.of_first) in
    let second : y ≡ w = some_one y w (sym one.of_second ∙ two.of_second) in
    λ i. (first i, second i)

pub add_yes : (jobs : List JobText) (entries : List EntryText) (n x y : ℕ) (a b : EntryText) (old new : List (ℕ × ℕ))
    → slice_get entries n ≡ Some a → slice_get entries (n + 1) ≡ Some b → AreOf jobs a b x y
    → AddsBelow jobs entries n old new → AddsBelow jobs entries (n + 1) old (new ++ (x, y) ∷ [])
add_yes jobs entries n x y a b old new first second are d = record {
  kept = λ v w had. Contains-append_left new ((x, y) ∷ []) (v, w) (d.kept v w had);
  only = λ v w has. elim (Contains-push_cases new (x, y) (v, w) has) [
    | inl before ↦ d.only v w before
    | inr same ↦ inr (record {
      place = n;
      before = a;
      entry = b;
      first = first;
      second = second;
      are = subst (λ (p : ℕ × ℕ). AreOf jobs a b p.0 p.1) same are;
    })
  ];
  all = λ v w s below. elim (cases_eq s.place n) [
    | inl at ↦
        let own = same_pair jobs entries n v w a b s at first second in
        subst (Contains (new ++ (x, y) ∷ [])) (one_pair jobs a b x y v w are own) (Contains-push new (x, y))
    | inr other ↦ Contains-append_left new ((x, y) ∷ []) (v, w) (d.all v w s (omega (arith, below, other)))
  ];
}

pub add_no : (jobs : List JobText) (entries : List EntryText) (n : ℕ) (a b : EntryText) (old new : List (ℕ × ℕ))
    → slice_get entries n ≡ Some a → slice_get entries (n + 1) ≡ Some b → ((x y : ℕ) → AreOf jobs a b x y → ⊥)
    → AddsBelow jobs entries n old new → AddsBelow jobs entries (n + 1) old new
add_no jobs entries n a b old new first second none d = record {
  kept = d.kept;
  only = d.only;
  all = λ v w s below. elim (cases_eq s.place n) [
    | inl at ↦ absurd (none v w (same_pair jobs entries n v w a b s at first second))
    | inr other ↦ d.all v w s (omega (arith, below, other))
  ];
}

pub add_all : (jobs : List JobText) (entries : List EntryText) (n : ℕ) (old new : List (ℕ × ℕ)) → length entries ≤ n + 1
    → AddsBelow jobs entries n old new → Adds jobs entries old new
add_all jobs entries n old new past d = record {
  kept = d.kept;
  only = d.only;
  all = λ v w s below. d.all v w s (let inside = slice_get_within entries (s.place + 1) s.entry s.second in omega (arith, inside, past));
}

pub pair_are : (jobs : List JobText) (a b : EntryText) (found : Option (ℕ × ℕ)) (pair : ℕ × ℕ) → IfSome found (λ (x, y). AreOf jobs a b x y) → found ≡ Some pair
    → AreOf jobs a b pair.0 pair.1
pair_are jobs a b found pair some is = subst (λ o. IfSome o (λ (x, y). AreOf jobs a b x y)) is some

-- the pairs are each job's own, and those of the first logs
pub record PairsBelow (jobs : List JobText) (logs : List LogText) (own : List (ℕ × ℕ)) (n : ℕ) (pairs : List (ℕ × ℕ)) : Type 0 where
  pub only : (x y : ℕ) → Contains pairs (x, y) → Contains own (x, y) ⊎ Precedes jobs logs x y
  pub all_own : (x y : ℕ) → Contains own (x, y) → Contains pairs (x, y)
  pub all : (x y : ℕ) (p : Precedes jobs logs x y) → p.i < n → Contains pairs (x, y)

pub pairs_start : (jobs : List JobText) (logs : List LogText) (own : List (ℕ × ℕ)) → PairsBelow jobs logs own 0 own
pairs_start jobs logs own = record { only = λ x y has. inl has; all_own = λ x y has. has; all = λ x y p below. absurd (omega (arith, below)) }

pub pairs_next : (jobs : List JobText) (logs : List LogText) (own : List (ℕ × ℕ)) (n : ℕ) (log : LogText) (old new : List (ℕ × ℕ)) → slice_get logs n ≡ Some log
    → Adds jobs log.entries old new → PairsBelow jobs logs own n old → PairsBelow jobs logs own (n + 1) new
pairs_next jobs logs own n log old new stands added p = record {
  only = λ x y has. elim (added.only x y has) [
    | inl before ↦ p.only x y before
    | inr here ↦ inr (record { i = n; log = log; stands = stands; follows = here })
  ];
  all_own = λ x y has. added.kept x y (p.all_own x y has);
  all = λ x y q below. elim (cases_eq q.i n) [
    | inl at ↦
        let is : q.log ≡ log = some_one q.log log (sym q.stands ∙ ap (slice_get logs) at ∙ stands) in
        let follows : StandsBefore jobs log.entries x y = subst (λ (l : LogText). StandsBefore jobs l.entries x y) is q.follows in
        added.all x y follows (slice_get_before log.entries follows)
    | inr other ↦ added.kept x y (p.all x y q (omega (arith, below, other)))
  ];
}
  where
    slice_get_before : {x y : ℕ} (entries : List EntryText) (s : StandsBefore jobs entries x y) → s.place < length entries
    slice_get_before entries s = let inside = slice_get_within entries (s.place + 1) s.entry s.second in omega (arith, inside)

pub pairs_end : (jobs : List JobText) (logs : List LogText) (own : List (ℕ × ℕ)) (n : ℕ) (pairs : List (ℕ × ℕ)) → length logs ≤ n → AreOwnPairs jobs logs own
    → PairsBelow jobs logs own n pairs → ArePairs jobs logs pairs
pairs_end jobs logs own n pairs past are p = record {
  own = own;
  are_own = are;
  only = p.only;
  all_own = p.all_own;
  all = λ x y q. p.all x y q (let inside = slice_get_within logs q.i q.log q.stands in omega (arith, inside, past));
}
