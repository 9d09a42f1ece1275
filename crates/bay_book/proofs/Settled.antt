-- Those that aren't settled: where they stand after each call, and that nobody else is to be told anything, or is done.
use Rattle.std.proofs.Common.{◌≡◌, ◌≢◌, ℕ, zero, suc, ◌+◌, ◌<◌, ◌≤◌, Bool, true, false, not, cond, List, [], ◌∷◌, ◌++◌, length, ◌&&◌, map, set, drop, refl, sym, ap, ◌∙◌, subst, inl, inr, arith, length-set, length-append}
use Rattle.std.specs.List.{filter, remove}
use Rattle.std.proofs.lemmas.Bool.{cases_eq, cases_Bool, cases_lt, false≢true}
use Rattle.std.proofs.lemmas.List.{get_or-set_same, get_or-set_other, get_or-map, get_or_append_left, get_or_push, length-map}
use Rattle.std.proofs.lemmas.List.Edits.{get_or-remove_below, get_or-remove_above, length-remove}
use Rattle.bay_book.specs.declared.ask.Ask.{Ask}
use Rattle.bay_book.specs.declared.ask.Heard.{Heard}
use Rattle.bay_book.specs.declared.ask.Outcome.{Outcome}
use Rattle.bay_book.specs.declared.ask.Outcome.TheVariants.{Holds as ToldHolds, Over as ToldOver}
use Rattle.bay_book.specs.declared.ask.Stage.{Stage}
use Rattle.bay_book.specs.declared.ask.Stage.TheVariants.{Waits, Holds, Over}
use Rattle.bay_book.specs.Asks.{no_ask, ask_at, is_over, is_done, heard_of, turned, given}
use Rattle.bay_book.specs.Settled.{is_settled_at, is_settled, AreWithin}

-- ---- one ask

open_at : (s : Stage) (h : Heard) → is_settled_at s h ≡ true → is_over s ≡ false
open_at Waits h e = refl
open_at Holds h e = refl
open_at (Over how) h e = absurd (false≢true e)

and_false : (a b c : Bool) → a ≡ false → (a && b && c) ≡ false
and_false a b c h = subst (λ t. (t && b && c) ≡ false) (sym h) refl

stays : (a : Ask) → is_settled a ≡ true → not (is_done a) ≡ true
stays a e = ap not (and_false (is_over a.stage) _ _ (open_at a.stage a.heard e))

-- whoever is told something may be settled by it, and never less so
pub heard_open : (s : Stage) (h : Heard) (what : Outcome) → is_settled_at s (heard_of what) ≡ false → is_settled_at s h ≡ false
heard_open Waits h what e = e
heard_open Holds h ToldHolds e = absurd (false≢true (sym e))
heard_open Holds h (ToldOver how) e = absurd (false≢true (sym e))
heard_open (Over how) h what e = refl

-- ---- after calls

pub none_within : AreWithin [] 0 0
none_within = record { few = omega arith; within = λ j inside not_yet. absurd (omega (arith, inside)) }

-- one is changed, and is no less settled than it was
pub within_set : (asks : List Ask) (from to place : ℕ) (a : Ask) → place < length asks → AreWithin asks from to
    → (is_settled a ≡ false → is_settled (ask_at asks place) ≡ false) → AreWithin (set asks place a) from to
within_set asks from to place a inside w was = record {
  few = omega (arith, w.few, length-set asks place a);
  within = λ j in_set not_yet. elim (cases_eq j place) [
    | inl same ↦
        let here : ask_at (set asks place a) j ≡ a = ap (ask_at (set asks place a)) same ∙ get_or-set_same asks place a no_ask inside in
        let x = w.within place inside (was (sym (ap is_settled here) ∙ not_yet)) in
        (omega (arith, same, x.0), omega (arith, same, x.1))
    | inr other ↦
        let there : ask_at (set asks place a) j ≡ ask_at asks j = get_or-set_other asks place j a no_ask other in
        w.within j (omega (arith, in_set, length-set asks place a)) (sym (ap is_settled there) ∙ not_yet)
  ];
}

-- one is changed, and is looked at from now on
pub within_more : (asks : List Ask) (from to place first behind : ℕ) (a : Ask) → AreWithin asks from to
    → ((j : ℕ) → from ≤ j → j < to → (first ≤ j) × (j < behind)) → (first ≤ place) × (place < behind) → behind ≤ length asks
    → AreWithin (set asks place a) first behind
within_more asks from to place first behind a w wider here few = record {
  few = omega (arith, few, length-set asks place a);
  within = λ j in_set not_yet. elim (cases_eq j place) [
    | inl same ↦ (omega (arith, same, here.0), omega (arith, same, here.1))
    | inr other ↦
        let there : ask_at (set asks place a) j ≡ ask_at asks j = get_or-set_other asks place j a no_ask other in
        let x = w.within j (omega (arith, in_set, length-set asks place a)) (sym (ap is_settled there) ∙ not_yet) in wider j x.0 x.1
  ];
}

pub within_push : (asks : List Ask) (from to : ℕ) (a : Ask) → AreWithin asks from to → is_settled a ≡ true → AreWithin (asks ++ a ∷ []) from to
within_push asks from to a w settled = record {
  few = omega (arith, w.few, length-append asks (a ∷ []));
  within = λ j in_push not_yet. elim (cases_eq j (length asks)) [
    | inl last ↦
        let here : ask_at (asks ++ a ∷ []) j ≡ a = get_or_push asks a no_ask j (sym last) in
        absurd (false≢true (sym not_yet ∙ (ap is_settled here ∙ settled)))
    | inr other ↦
        let in_j : j < length asks = omega (arith, in_push, length-append asks (a ∷ []), other) in
        let there : ask_at (asks ++ a ∷ []) j ≡ ask_at asks j = get_or_append_left asks (a ∷ []) no_ask j in_j in
        w.within j in_j (sym (ap is_settled there) ∙ not_yet)
  ];
}

within_map : (f : Ask → Ask) → ((a : Ask) → is_settled (f a) ≡ is_settled a) → (asks : List Ask) (from to : ℕ) → AreWithin asks from to
    → AreWithin (map f asks) from to
within_map f same asks from to w = record {
  few = omega (arith, w.few, length-map asks f);
  within = λ j in_map not_yet.
      let in_j : j < length asks = omega (arith, in_map, length-map asks f) in
      let there : ask_at (map f asks) j ≡ f (ask_at asks j) = get_or-map f asks j no_ask no_ask in_j in
      w.within j in_j (sym (same (ask_at asks j)) ∙ (sym (ap is_settled there) ∙ not_yet));
}

pub within_give : (at : ℕ) (asks : List Ask) (from to : ℕ) → AreWithin asks from to → AreWithin (map (given at) asks) from to
within_give at asks from to w = within_map (given at) (λ a. refl) asks from to w

pub within_turn : (at : ℕ) (asks : List Ask) (from to : ℕ) → AreWithin asks from to → AreWithin (map (turned at) asks) from to
within_turn at asks from to w = within_map (turned at) (λ a. refl) asks from to w

-- ---- those that are done

abbrev PassOthers : (Ask → Bool) → List Ask → ℕ → Type 0
PassOthers p asks i = (k : ℕ) → k < length asks → k ≢ i → p (ask_at asks k) ≡ true

pass_here : (p : Ask → Bool) (a : Ask) (kept rest : List Ask) → p a ≡ true → kept ≡ rest → cond (p a) (a ∷ kept) kept ≡ a ∷ rest
pass_here p a kept rest h same = ap (λ b. cond b (a ∷ kept) kept) h ∙ ap (λ (z : List Ask). a ∷ z) same

all_pass : (p : Ask → Bool) (asks : List Ask) → ((k : ℕ) → k < length asks → p (ask_at asks k) ≡ true) → filter p asks ≡ asks
all_pass p [] h = refl
all_pass p (a ∷ asks) h = pass_here p a (filter p asks) asks (h 0 (omega arith)) (all_pass p asks (λ k inside. h (suc k) (omega (arith, inside))))

all_but_one : (p : Ask → Bool) (asks : List Ask) (i : ℕ) → i < length asks → PassOthers p asks i → p (ask_at asks i) ≡ false → filter p asks ≡ remove asks i
all_but_one p [] i inside h isnt = absurd (omega (arith, inside))
all_but_one p (a ∷ asks) zero inside h isnt =
    ap (λ b. cond b (a ∷ filter p asks) (filter p asks)) isnt ∙ all_pass p asks (λ k within. h (suc k) (omega (arith, within)) (omega arith))
all_but_one p (a ∷ asks) (suc i) inside h isnt =
    pass_here p a (filter p asks) (remove asks i) (h 0 (omega arith) (omega arith))
    (all_but_one p asks i (omega (arith, inside)) (λ k within other. h (suc k) (omega (arith, within)) (omega (arith, other))) isnt)

pub drop_remove : (s i : ℕ) (asks : List Ask) → s + i < length asks → drop s (remove asks (s + i)) ≡ remove (drop s asks) i
drop_remove zero i asks inside = let same : 0 + i ≡ i = omega arith in ap (remove asks) same
drop_remove (suc s) i [] inside = absurd (omega (arith, inside))
drop_remove (suc s) i (a ∷ asks) inside =
    let next : suc s + i ≡ suc (s + i) = omega arith in
    ap (λ n. drop (suc s) (remove (a ∷ asks) n)) next ∙ drop_remove s i asks (omega (arith, inside))

-- nobody is looked at, so nobody is done
pub none_purged : (asks : List Ask) (from to : ℕ) → AreWithin asks from to → to ≤ from → asks ≡ filter (λ a. not (is_done a)) asks
none_purged asks from to w none =
    sym (all_pass (λ a. not (is_done a)) asks (λ k inside. elim (cases_Bool (is_settled (ask_at asks k))) [
      | inl settled ↦ stays (ask_at asks k) settled
      | inr not_yet ↦ let x = w.within k inside not_yet in absurd (omega (arith, x.0, x.1, none))
    ]))

others_settled : (asks : List Ask) (place k : ℕ) → AreWithin asks place (place + 1) → k < length asks → k ≢ place → is_settled (ask_at asks k) ≡ true
others_settled asks place k w inside other = elim (cases_Bool (is_settled (ask_at asks k))) [
  | inl settled ↦ settled
  | inr not_yet ↦ let x = w.within k inside not_yet in absurd (omega (arith, x.0, x.1, other))
]

-- one is looked at, and is done
pub one_purged : (asks : List Ask) (place : ℕ) → place < length asks → AreWithin asks place (place + 1) → is_done (ask_at asks place) ≡ true
    → remove asks place ≡ filter (λ a. not (is_done a)) asks
one_purged asks place inside w done =
    sym (all_but_one (λ a. not (is_done a)) asks place inside (λ k in_k other. stays (ask_at asks k) (others_settled asks place k w in_k other)) (ap not done))

pub one_gone : (asks : List Ask) (place : ℕ) → place < length asks → AreWithin asks place (place + 1) → AreWithin (remove asks place) 0 0
one_gone asks place inside w = record {
  few = omega arith;
  within = λ j in_j not_yet. elim (cases_lt j place) [
    | inl less ↦
        let there : ask_at (remove asks place) j ≡ ask_at asks j = get_or-remove_below asks place no_ask j less inside in
        let settled = others_settled asks place j w (omega (arith, less, inside)) (omega (arith, less)) in
        absurd (false≢true (sym not_yet ∙ (ap is_settled there ∙ settled)))
    | inr more ↦
        let there : ask_at (remove asks place) j ≡ ask_at asks (j + 1) = get_or-remove_above asks place no_ask j more inside in
        let settled = others_settled asks place (j + 1) w (omega (arith, in_j, length-remove asks place inside)) (omega (arith, more)) in
        absurd (false≢true (sym not_yet ∙ (ap is_settled there ∙ settled)))
  ];
}

-- one is looked at, and isn't done
pub none_done : (asks : List Ask) (place : ℕ) → AreWithin asks place (place + 1) → is_done (ask_at asks place) ≡ false
    → asks ≡ filter (λ a. not (is_done a)) asks
none_done asks place w not_done =
    sym (all_pass (λ a. not (is_done a)) asks (λ k inside. elim (cases_eq k place) [
      | inl same ↦ ap not (ap (λ i. is_done (ask_at asks i)) same ∙ not_done)
      | inr other ↦ stays (ask_at asks k) (others_settled asks place k w inside other)
    ]))
