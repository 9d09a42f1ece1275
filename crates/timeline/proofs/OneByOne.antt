-- Columns given one by one.
use Rattle.std.proofs.Common.{◌≡◌, ℕ, zero, suc, ◌+◌, ◌*◌, ◌<◌, ◌≤◌, Bool, true, false, List, Some, length, set, inl, inr, refl, sym, ◌∙◌, ap, subst, arith, get_or-set_other, get_or-set_same, length-set, ◌≢◌, cond}
use Rattle.std.specs.Prelude.{replicate, slice_get, count_by}
use Rattle.std.specs.List.{Contains}
use Rattle.std.proofs.lemmas.Bool.{cases_eq}
use Rattle.std.proofs.lemmas.Option.{slice_get-get_or, slice_get_within, get_or_from_slice_get}
use Rattle.std.proofs.lemmas.List.Sums.{sum_by-set, count_by-le-length}
use Rattle.lab_plan.specs.Limits.{most_jobs, most_sessions, most_commands}
use Rattle.timeline.specs.declared.span.Span.{Span}
use Rattle.timeline.specs.Orders.{IsOpen, IsBehind, IsRight, IsWide, AreSlots, Placed, AreOrdered}
use Rattle.timeline.proofs.Marked.{open_within, unset_kept, unset_only}

got_same : {X : Type 0} (xs : List X) (i : ℕ) (v : X) → i < length xs → slice_get (set xs i v) i ≡ Some v
got_same xs i v inside =
    let long : length (set xs i v) ≡ length xs = length-set xs i v in
    slice_get-get_or (set xs i v) i v (omega (arith, long, inside)) ∙ ap Some (get_or-set_same xs i v v inside)

got_other : {X : Type 0} (xs : List X) (i j : ℕ) (v x : X) → j ≢ i → slice_get xs j ≡ Some x → slice_get (set xs i v) j ≡ Some x
got_other xs i j v x other got =
    let long : length (set xs i v) ≡ length xs = length-set xs i v in
    let within : j < length xs = slice_get_within xs j x got in
    slice_get-get_or (set xs i v) j x (omega (arith, long, within)) ∙ ap Some (get_or-set_other xs i j v x other ∙ get_or_from_slice_get xs j x x got)

abbrev as_count : Bool → ℕ
as_count b = cond b 1 0

pub count_unset : (marks : List Bool) (y : ℕ) → IsOpen marks y → count_by (λ b. b) (set marks y false) + 1 ≡ count_by (λ b. b) marks
count_unset marks y is =
    let inside = open_within marks y is in
    let sums = sum_by-set as_count marks y false false inside in
    let one = ap as_count is in
    omega (arith, sums, one)

-- columns from `start` on
abbrev pub fresh : ℕ → Span
fresh start = record { start = start; width = most_commands }

wide_kept : (spans : List Span) (end s x : ℕ) → x ≢ s → IsWide spans end x → IsWide (set spans s (fresh end)) (end + most_commands) x
wide_kept spans end s x other w = record {
  span = w.span;
  known = got_other spans s x (fresh end) w.span other w.known;
  wide = w.wide;
  inside = let inside = w.inside in omega (arith, inside);
}

refl_le : (n : ℕ) → n ≤ n
refl_le n = omega arith

wide_new : (spans : List Span) (end s : ℕ) → s < length spans → IsWide (set spans s (fresh end)) (end + most_commands) s
wide_new spans end s inside = record { span = fresh end; known = got_same spans s (fresh end) inside; wide = refl; inside = refl_le (end + most_commands) }

right_kept : (spans : List Span) (end s x y : ℕ) → x ≢ s → y ≢ s → IsRight spans x y → IsRight (set spans s (fresh end)) x y
right_kept spans end s x y first second r = record {
  left = r.left;
  right = r.right;
  of_first = got_other spans s x (fresh end) r.left first r.of_first;
  of_second = got_other spans s y (fresh end) r.right second r.of_second;
  before = r.before;
}

right_new : (spans : List Span) (end s x : ℕ) → x ≢ s → s < length spans → IsWide spans end x → IsRight (set spans s (fresh end)) x s
right_new spans end s x other inside w = record {
  left = w.span;
  right = fresh end;
  of_first = got_other spans s x (fresh end) w.span other w.known;
  of_second = got_same spans s (fresh end) inside;
  before = w.inside;
}

pub placed_next : (pairs : List (ℕ × ℕ)) (left : List Bool) (spans : List Span) (end s : ℕ) → AreSlots pairs → IsOpen left s → ¬ IsBehind pairs left s
    → Placed pairs left spans end → Placed pairs (set left s false) (set spans s (fresh end)) (end + most_commands)
placed_next pairs left spans end s slots is first p =
    let within : s < length left = open_within left s is in
    let long = p.long in
    let long_spans = p.long_spans in
    let inside : s < length spans = omega (arith, within, long, long_spans) in
    record {
      long = length-set left s false ∙ p.long;
      long_spans = length-set spans s (fresh end) ∙ p.long_spans;
      wide = λ x few out. elim (cases_eq x s) [
        | inl same ↦ subst (IsWide (set spans s (fresh end)) (end + most_commands)) (sym same) (wide_new spans end s inside)
        | inr other ↦ wide_kept spans end s x other (p.wide x few (λ o. out (unset_kept left s x other o)))
      ];
      right = λ x y pair out. elim (cases_eq y s) [
        | inl same ↦
            let not_open : ¬ IsOpen left x = λ o. first (record { marked = is; x = x; first = o; pair = subst (λ z. Contains pairs (x, z)) same pair }) in
            let other : x ≢ s = λ e. not_open (subst (IsOpen left) (sym e) is) in (
              (λ o. not_open (unset_only left s x o).1),
              subst (IsRight (set spans s (fresh end)) x) (sym same) (right_new spans end s x other inside (p.wide x (slots x y pair).0 not_open)),
            )
        | inr other ↦
            let before = p.right x y pair (λ o. out (unset_kept left s y other o)) in
            let differs : x ≢ s = λ e. before.0 (subst (IsOpen left) (sym e) is) in (
              (λ o. before.0 (unset_only left s x o).1),
              right_kept spans end s x y differs other before.1,
            )
      ];
      room = let room = p.room in let one = count_unset left s is in omega (arith, room, one);
    }

pub placed_inside : (pairs : List (ℕ × ℕ)) (left : List Bool) (spans : List Span) (end s : ℕ) → IsOpen left s → Placed pairs left spans end → s < length spans
placed_inside pairs left spans end s is p =
    let within : s < length left = open_within left s is in
    let long = p.long in
    let long_spans = p.long_spans in
    omega (arith, within, long, long_spans)

pub placed_end : (pairs : List (ℕ × ℕ)) (left : List Bool) (spans : List Span) (end : ℕ) → ((y : ℕ) → ¬ IsOpen left y) → Placed pairs left spans end
    → AreOrdered pairs spans end
placed_end pairs left spans end none p = record {
  wide = λ x few. p.wide x few (none x);
  right = λ x y pair. (p.right x y pair (none y)).1;
}

all_true : (n y : ℕ) → y < n → IsOpen (replicate n true) y
all_true zero y inside = absurd (omega arith)
all_true (suc n) zero inside = refl
all_true (suc n) (suc y) inside = all_true n y (omega arith)

pub placed_start : (pairs : List (ℕ × ℕ)) (left : List Bool) (spans : List Span) → AreSlots pairs → left ≡ replicate (most_jobs * most_sessions) true
    → length left ≡ most_jobs * most_sessions → length spans ≡ most_jobs * most_sessions → Placed pairs left spans 0
placed_start pairs left spans slots all long long_spans =
    let open_below : (y : ℕ) → y < most_jobs * most_sessions → IsOpen left y = λ y few. subst (λ l. IsOpen l y) (sym all) (all_true (most_jobs * most_sessions) y few) in
    record {
      long = long;
      long_spans = long_spans;
      wide = λ x few out. absurd (out (open_below x few));
      right = λ x y pair out. absurd (out (open_below y (slots x y pair).1));
      room = let few = count_by-le-length (λ (b : Bool). b) left in omega (arith, few, long);
    }
