-- The sessions that logs have entries of, and each with the next one of its job.
use Rattle.std.proofs.Common.{◌≡◌, ℕ, zero, suc, ◌+◌, ◌*◌, ◌/◌, ◌<◌, ◌≤◌, Bool, true, false, List, [], ◌∷◌, ◌++◌, Some, length, slice_index_or, set, inl, inr, refl, sym, ◌∙◌, ap, subst, arith, length-set, ◌≢◌}
use Rattle.std.specs.Prelude.{None, slice_get, replicate}
use Rattle.std.specs.List.{Contains}
use Rattle.std.proofs.lemmas.Bool.{cases_eq, cases_lt, cases_Bool, false≢true}
use Rattle.std.proofs.lemmas.Option.{slice_get_within}
use Rattle.std.proofs.lemmas.List.Elements.{at_from_Contains, Contains-push, Contains-push_cases, Contains-append_left}
use Rattle.lab_plan.specs.Limits.{most_jobs, most_sessions}
use Rattle.report_reader.specs.Line.{EntryText, JobText}
use Rattle.report_reader.specs.Report.{LogText}
use Rattle.timeline.specs.declared.span.Span.{Span}
use Rattle.timeline.specs.Spans.{slot_of}
use Rattle.timeline.specs.Orders.{IsOpen, IsIn, IsUsed, MarksBelow, Marks, AreUsed, IsNextOwn, AreOwnPairs, IsRight, AreRight}
use Rattle.timeline.proofs.Slots.{some_one}
use Rattle.timeline.proofs.Marked.{open_within, set_open, set_kept, set_only, none_open}

-- ---- the slots of a log's entries

pub marks_start : (jobs : List JobText) (entries : List EntryText) (marks : List Bool) → MarksBelow jobs entries 0 marks marks
marks_start jobs entries marks = record { long = refl; kept = λ x had. had; only = λ x has. inl has; all = λ x is below. absurd (omega (arith, below)) }

same_slot : (jobs : List JobText) (entries : List EntryText) (n x : ℕ) (e : EntryText) (is : IsIn jobs entries x) → is.place ≡ n → slice_get entries n ≡ Some e
    → slot_of jobs e ≡ Some x
same_slot jobs entries n x e is at there =
    let entry : is.entry ≡ e = some_one is.entry e (sym is.there ∙ ap (slice_get entries) at ∙ there) in
    ap (slot_of jobs) (sym entry) ∙ is.of

pub marks_yes : (jobs : List JobText) (entries : List EntryText) (n slot : ℕ) (e : EntryText) (old new : List Bool) → slot < length new
    → slice_get entries n ≡ Some e → slot_of jobs e ≡ Some slot → MarksBelow jobs entries n old new → MarksBelow jobs entries (n + 1) old (set new slot true)
marks_yes jobs entries n slot e old new inside there of m = record {
  long = length-set new slot true ∙ m.long;
  kept = λ x had. set_kept new slot x (m.kept x had);
  only = λ x marked. elim (set_only new slot x marked) [
    | inl before ↦ m.only x before
    | inr same ↦ inr (record { place = n; entry = e; there = there; of = of ∙ ap Some (sym same) })
  ];
  all = λ x is below. elim (cases_eq is.place n) [
    | inl at ↦
        let same : slot ≡ x = some_one slot x (sym of ∙ same_slot jobs entries n x e is at there) in
        subst (IsOpen (set new slot true)) same (set_open new slot inside)
    | inr other ↦ set_kept new slot x (m.all x is (omega (arith, below, other)))
  ];
}

pub marks_no : (jobs : List JobText) (entries : List EntryText) (n : ℕ) (e : EntryText) (old new : List Bool)
    → slice_get entries n ≡ Some e → slot_of jobs e ≡ None → MarksBelow jobs entries n old new → MarksBelow jobs entries (n + 1) old new
marks_no jobs entries n e old new there none m = record {
  long = m.long;
  kept = m.kept;
  only = m.only;
  all = λ x is below. elim (cases_eq is.place n) [
    | inl at ↦ absurd (none_some x (sym none ∙ same_slot jobs entries n x e is at there))
    | inr other ↦ m.all x is (omega (arith, below, other))
  ];
}
  where
    none_some : (x : ℕ) → None ≡ Some x → ⊥
    none_some x e = cc

pub marks_end : (jobs : List JobText) (entries : List EntryText) (n : ℕ) (old new : List Bool) → length entries ≤ n → MarksBelow jobs entries n old new
    → Marks jobs entries old new
marks_end jobs entries n old new past m = record {
  long = m.long;
  kept = m.kept;
  only = m.only;
  all = λ x is below. m.all x is (omega (arith, below, past));
}

-- ---- those of all logs

-- of the first logs
pub record UsedBelow (jobs : List JobText) (logs : List LogText) (n : ℕ) (used : List Bool) : Type 0 where
  pub long : length used ≡ most_jobs * most_sessions
  pub only : (x : ℕ) → IsOpen used x → IsUsed jobs logs x
  pub all : (x : ℕ) (u : IsUsed jobs logs x) → u.i < n → IsOpen used x

pub used_start : (jobs : List JobText) (logs : List LogText) (used : List Bool) → used ≡ replicate (most_jobs * most_sessions) false
    → length used ≡ most_jobs * most_sessions → UsedBelow jobs logs 0 used
used_start jobs logs used none long = record {
  long = long;
  only = λ x marked. absurd (none_open (most_jobs * most_sessions) x used none marked);
  all = λ x u below. absurd (omega (arith, below));
}

pub used_next : (jobs : List JobText) (logs : List LogText) (n : ℕ) (log : LogText) (old new : List Bool) → slice_get logs n ≡ Some log
    → Marks jobs log.entries old new → UsedBelow jobs logs n old → UsedBelow jobs logs (n + 1) new
used_next jobs logs n log old new stands marked u = record {
  long = marked.long ∙ u.long;
  only = λ x has. elim (marked.only x has) [
    | inl before ↦ u.only x before
    | inr here ↦ record { i = n; log = log; stands = stands; is_in = here }
  ];
  all = λ x one below. elim (cases_eq one.i n) [
    | inl at ↦
        let is : one.log ≡ log = some_one one.log log (sym one.stands ∙ ap (slice_get logs) at ∙ stands) in
        let here : IsIn jobs log.entries x = subst (λ (l : LogText). IsIn jobs l.entries x) is one.is_in in
        marked.all x here (slice_get_within log.entries here.place here.entry here.there)
    | inr other ↦ marked.kept x (u.all x one (omega (arith, below, other)))
  ];
}

pub used_end : (jobs : List JobText) (logs : List LogText) (n : ℕ) (used : List Bool) → length logs ≤ n → UsedBelow jobs logs n used → AreUsed jobs logs used
used_end jobs logs n used past u = record {
  long = u.long;
  only = u.only;
  all = λ x one. u.all x one (let inside = slice_get_within logs one.i one.log one.stands in omega (arith, inside, past));
}

-- ---- the next one of a job

-- none is marked between
abbrev pub NoneBetween : List Bool → ℕ → ℕ → Type 0
NoneBetween used x y = (z : ℕ) → x < z → z < y → ¬ IsOpen used z

pub next_is_one : (used : List Bool) (x y z : ℕ) → IsNextOwn used x y → IsNextOwn used x z → y ≡ z
next_is_one used x y z one two = elim (cases_lt y z) [
  | inl less ↦ absurd (two.none_between y one.later less one.second)
  | inr more ↦ elim (cases_lt z y) [
    | inl less ↦ absurd (one.none_between z two.later less two.second)
    | inr both ↦ omega (arith, more, both)
  ]
]

-- ---- the pairs

-- those of the first slots
pub record OwnBelow (used : List Bool) (n : ℕ) (pairs : List (ℕ × ℕ)) : Type 0 where
  pub only : (x y : ℕ) → Contains pairs (x, y) → IsNextOwn used x y
  pub all : (x y : ℕ) → IsNextOwn used x y → x < n → Contains pairs (x, y)

pub own_start : (used : List Bool) (pairs : List (ℕ × ℕ)) → pairs ≡ [] → OwnBelow used 0 pairs
own_start used pairs none = record {
  only = λ x y has. absurd (let at = at_from_Contains [] (x, y) (subst (λ l. Contains l (x, y)) none has) in let within = at.1 in omega (arith, within));
  all = λ x y next below. absurd (omega (arith, below));
}

pub own_yes : (used : List Bool) (n next : ℕ) (pairs : List (ℕ × ℕ)) → IsNextOwn used n next → OwnBelow used n pairs → OwnBelow used (n + 1) (pairs ++ (n, next) ∷ [])
own_yes used n next pairs is o = record {
  only = λ x y has. elim (Contains-push_cases pairs (n, next) (x, y) has) [
    | inl before ↦ o.only x y before
    | inr same ↦ subst (λ (p : ℕ × ℕ). IsNextOwn used p.0 p.1) same is
  ];
  all = λ x y own below. elim (cases_eq x n) [
    | inl at ↦
        let here : IsNextOwn used n y = subst (λ v. IsNextOwn used v y) at own in
        let second : next ≡ y = next_is_one used n next y is here in
        let pair : (n, next) ≡ (x, y) = λ i. (sym at i, second i) in
        subst (Contains (pairs ++ (n, next) ∷ [])) pair (Contains-push pairs (n, next))
    | inr other ↦ Contains-append_left pairs ((n, next) ∷ []) (x, y) (o.all x y own (omega (arith, below, other)))
  ];
}

pub own_no : (used : List Bool) (n : ℕ) (pairs : List (ℕ × ℕ)) → ((y : ℕ) → IsNextOwn used n y → ⊥) → OwnBelow used n pairs → OwnBelow used (n + 1) pairs
own_no used n pairs none o = record {
  only = o.only;
  all = λ x y own below. elim (cases_eq x n) [
    | inl at ↦ absurd (none y (subst (λ v. IsNextOwn used v y) at own))
    | inr other ↦ o.all x y own (omega (arith, below, other))
  ];
}

pub own_end : (jobs : List JobText) (logs : List LogText) (used : List Bool) (n : ℕ) (pairs : List (ℕ × ℕ)) → length used ≤ n → AreUsed jobs logs used
    → OwnBelow used n pairs → AreOwnPairs jobs logs pairs
own_end jobs logs used n pairs past are o = record {
  used = used;
  are_used = are;
  only = o.only;
  all = λ x y next. o.all x y next (let within = open_within used x next.first in omega (arith, within, past));
}

-- ---- from one session of a job to any later one

-- the last marked slot before this one
record IsLast (used : List Bool) (x n : ℕ) : Type 0 where
  at : ℕ
  from : x ≤ at
  before : at < n
  marked : IsOpen used at
  none_between : NoneBetween used at n

last_of : (used : List Bool) (x n : ℕ) → IsOpen used x → x < n → IsLast used x n
last_of used x zero is less = absurd (omega (arith, less))
last_of used x (suc n) is less = elim (cases_Bool (slice_index_or used n false)) [
  | inl marked ↦ record {
    at = n;
    from = omega (arith, less);
    before = omega arith;
    marked = marked;
    none_between = λ z after below. absurd (omega (arith, after, below));
  }
  | inr bare ↦ elim (cases_eq x n) [
    | inl same ↦ absurd (false≢true (sym bare ∙ subst (IsOpen used) same is))
    | inr other ↦
        let l = last_of used x n is (omega (arith, less, other)) in
        record {
          at = l.at;
          from = l.from;
          before = let before = l.before in omega (arith, before);
          marked = l.marked;
          none_between = λ z after below. elim (cases_eq z n) [
            | inl same ↦ λ here. false≢true (sym bare ∙ subst (IsOpen used) same here)
            | inr differs ↦ l.none_between z after (omega (arith, below, differs))
          ];
        }
  ]
]

right_through : (spans : List Span) (x y z : ℕ) → IsRight spans x y → IsRight spans y z → IsRight spans x z
right_through spans x y z one two =
    let same : one.right ≡ two.left = some_one one.right two.left (sym one.of_second ∙ two.of_first) in
    let start : one.right.start ≡ two.left.start = ap (λ (s : Span). s.start) same in
    record {
      left = one.left;
      right = two.right;
      of_first = one.of_first;
      of_second = two.of_second;
      before = let first = one.before in let second = two.before in omega (arith, start, first, second);
    }

-- where each has its job's next one right of it, it has all later ones of its job there
pub right_own : (used : List Bool) (spans : List Span) → ((x y : ℕ) → IsNextOwn used x y → IsRight spans x y) → (n x y : ℕ) → y < n → IsOpen used x → IsOpen used y
    → x / 1000 ≡ y / 1000 → x < y → IsRight spans x y
right_own used spans next zero x y few first second one_job less = absurd (omega (arith, few))
right_own used spans next (suc n) x y few first second one_job less =
    let l = last_of used x y first less in
    let from = l.from in
    let before = l.before in
    let left : x / 1000 ≡ l.at / 1000 = omega (arith, one_job, from, before) in
    let right : l.at / 1000 ≡ y / 1000 = omega (arith, one_job, from, before) in
    let step = next l.at y (record { first = l.marked; second = second; one_job = right; later = before; none_between = l.none_between }) in
    elim (cases_eq x l.at) [
      | inl same ↦ subst (λ z. IsRight spans z y) (sym same) step
      | inr other ↦ right_through spans x l.at y (right_own used spans next n x l.at (omega (arith, few, before)) first l.marked left (omega (arith, from, other))) step
    ]

-- ---- columns for pairs

-- of the first pairs the second has its columns right of the first
abbrev pub RightBelow : List Span → List (ℕ × ℕ) → ℕ → Type 0
RightBelow spans pairs n = (k x y : ℕ) → k < n → slice_index_or pairs k (0, 0) ≡ (x, y) → IsRight spans x y

pub right_more : (spans : List Span) (pairs : List (ℕ × ℕ)) (n v w : ℕ) → slice_index_or pairs n (0, 0) ≡ (v, w) → IsRight spans v w → RightBelow spans pairs n
    → RightBelow spans pairs (n + 1)
right_more spans pairs n v w is right below k x y few at = elim (cases_eq k n) [
  | inl same ↦
      let pair : (v, w) ≡ (x, y) = sym is ∙ ap (λ i. slice_index_or pairs i (0, 0)) (sym same) ∙ at in
      subst (λ (p : ℕ × ℕ). IsRight spans p.0 p.1) pair right
  | inr other ↦ below k x y (omega (arith, few, other)) at
]

pub right_all : (spans : List Span) (pairs : List (ℕ × ℕ)) (n : ℕ) → length pairs ≤ n → RightBelow spans pairs n → AreRight spans pairs
right_all spans pairs n past below x y has =
    let at = at_from_Contains pairs (x, y) has in
    let few = at.1 in
    below at.0 x y (omega (arith, few, past)) (at.2 (0, 0))
