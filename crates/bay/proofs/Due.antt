-- Whose time is over.
use Rattle.std.proofs.Common.{◌≡◌, ◌⊎◌, ℕ, zero, suc, ◌<◌, Bool, true, false, ◌||◌, nat_eq, bit_and, bit_xor, List, [], ◌∷◌, length, Option, Some, None, refl, sym, ap, ◌∙◌, subst, inl, inr, arith}
use Rattle.std.specs.Int.{bit_at}
use Rattle.std.proofs.lemmas.Bool.{cases_eq, eq-eqb, ne_eqb, false≢true}
use Rattle.bay_line.specs.declared.wish.Wish.{Wish}
use Rattle.bay_line.specs.Wishes.{wish_at, no_wish}
use Rattle.bay_line.specs.Wanted.{AreWanted, AreClasses}
use Rattle.bay_book.specs.declared.ask.Ask.{Ask}
use Rattle.bay_book.specs.declared.ask.End.{End}
use Rattle.bay_book.specs.declared.ask.End.TheVariants.{LetGo, Left, Lapsed, NotWritten, Limit, Grace, TakenAway, Replaced, Stopped}
use Rattle.bay_book.specs.declared.ask.Stage.{Stage}
use Rattle.bay_book.specs.declared.ask.Stage.TheVariants.{Waits, Holds, Over}
use Rattle.std.specs.List.{count_by}
use Rattle.bay_book.specs.Asks.{ask_at, is_over, holds_class}
use Rattle.bay_book.specs.Moments.{common, is_past, is_wanted, is_late, is_over_limit, wanted_moment, limit_end, if_holds, after, until_at, late_end}
use Rattle.bay_book.specs.Finding.{IsFirst}
use Rattle.bay.specs.declared.classes.Class.{Class}
use Rattle.bay.specs.declared.terms.Terms.{Terms}
use Rattle.bay.specs.Classes.{class_at}
use Rattle.bay.specs.Cores.{Core, AreFree, IsFreeClass}
use Rattle.bay.specs.Following.{AreFull, IsWanted, IsDue, IsFirstOverLimit}
use Rattle.bay.proofs.Members.{has_at, place_of}
use Rattle.bay.proofs.Sets.{without}

-- ---- classes of which none is free

below : (classes : List Class) (k : ℕ) → (k < length classes) ⊎ ((class_at classes k).places ≡ 0)
below [] k = inr refl
below (c ∷ classes) zero = inl (omega arith)
below (c ∷ classes) (suc k) = elim (below classes k) [ inl h ↦ inl (omega (arith, h)) | inr none ↦ inr none ]

free_below : (classes : List Class) (asks : List Ask) (free k : ℕ) → AreFree classes asks free → IsFreeClass classes asks k → bit_at free k ≡ 1
free_below classes asks free k are_free h = elim (below classes k) [
  | inl inside ↦ (are_free k).1 (inside, h)
  | inr none ↦ absurd (let less = subst (λ (n : ℕ). count_by (holds_class k) asks < n) none h in omega (arith, less))
]

pub full_is : (classes : List Class) (x : Core) (wanted free : ℕ) → AreClasses x.line.wishes wanted → AreFree classes x.book.asks free
    → AreFull classes x (bit_xor wanted (bit_and wanted free))
full_is classes x wanted free are_wanted are_free k = (
  λ h.
      let both = (without wanted free k).0 h in let w = are_wanted.whose k both.0 in
      ((wish_at x.line.wishes w.0, has_at x.line.wishes w.0 no_wish w.1, w.2), λ f. both.1 (free_below classes x.book.asks free k are_free f)),
  λ h.
      let p = place_of x.line.wishes h.0.0 no_wish h.0.1 in
      let bit : bit_at (wish_at x.line.wishes p.0).classes k ≡ 1 = subst (λ (w : Wish). bit_at w.classes k ≡ 1) (sym p.2) h.0.2 in
      (without wanted free k).1 (are_wanted.has p.0 k p.1 bit, λ f. h.1 ((are_free k).0 f).1),
)

-- ---- who is wanted

or_cases : (a b : Bool) → (a || b) ≡ true → (a ≡ true) ⊎ (b ≡ true)
or_cases true b h = inl refl
or_cases false b h = inr h

or_first : (a b : Bool) → a ≡ true → (a || b) ≡ true
or_first a b h = ap (λ c. c || b) h

or_second : (a b : Bool) → b ≡ true → (a || b) ≡ true
or_second true b h = refl
or_second false b h = h

test_is : (a b : ℕ) → nat_eq a b ≡ true → a ≡ b
test_is a b h = elim (cases_eq a b) [ inl is ↦ is | inr ne ↦ absurd (false≢true (sym (ne_eqb a b ne) ∙ h)) ]

pub wanted_is : (classes : List Class) (x : Core) (wanted full : ℕ) (a : Ask) → AreWanted x.line.wishes wanted → AreFull classes x full
    → is_wanted wanted full a ≡ true → IsWanted classes x a
wanted_is classes x wanted full a are_wanted are_full h = elim (or_cases (common a.needs wanted) (nat_eq (bit_at full a.class) 1) h) [
  | inl needs ↦ let w = are_wanted.with a.needs needs in inl (wish_at x.line.wishes w.0, has_at x.line.wishes w.0 no_wish w.1, w.2)
  | inr class ↦ inr ((are_full a.class).0 (test_is (bit_at full a.class) 1 class))
]

pub is_wanted_so : (classes : List Class) (x : Core) (wanted full : ℕ) (a : Ask) → AreWanted x.line.wishes wanted → AreFull classes x full
    → IsWanted classes x a → is_wanted wanted full a ≡ true
is_wanted_so classes x wanted full a are_wanted are_full (inl h) =
    let p = place_of x.line.wishes h.0 no_wish h.1 in
    or_first (common a.needs wanted) (nat_eq (bit_at full a.class) 1)
    (are_wanted.shares a.needs p.0 p.1 (subst (λ (w : Wish). common a.needs w.needs ≡ true) (sym p.2) h.2))
is_wanted_so classes x wanted full a are_wanted are_full (inr h) =
    or_second (common a.needs wanted) (nat_eq (bit_at full a.class) 1) (eq-eqb (bit_at full a.class) 1 ((are_full a.class).1 h))

-- ---- limits

wanted_both : (now : ℕ) (b : Bool) (m : Option ℕ) → is_past now (wanted_moment b m) ≡ true → (b ≡ true) × (is_past now m ≡ true)
wanted_both now true m h = (refl, h)
wanted_both now false m h = absurd (false≢true h)

both_wanted : (now : ℕ) (b : Bool) (m : Option ℕ) → b ≡ true → is_past now m ≡ true → is_past now (wanted_moment b m) ≡ true
both_wanted now b m e h = subst (λ (c : Bool). is_past now (wanted_moment c m) ≡ true) (sym e) h

pub over_limit_is : (classes : List Class) (now : ℕ) (x : Core) (wanted full : ℕ) (r : Option ℕ) → AreWanted x.line.wishes wanted → AreFull classes x full
    → IsFirst (is_over_limit now wanted full) x.book.asks r → IsFirstOverLimit classes now x r
over_limit_is classes now x wanted full (Some j) are_wanted are_full h =
    let a = ask_at x.book.asks j in let both = wanted_both now (is_wanted wanted full a) (limit_end a) h.1 in
    (h.0, wanted_is classes x wanted full a are_wanted are_full both.0, both.1)
over_limit_is classes now x wanted full None are_wanted are_full h = λ place inside want past.
    let a = ask_at x.book.asks place in
    false≢true (sym (h place inside) ∙ both_wanted now (is_wanted wanted full a) (limit_end a) (is_wanted_so classes x wanted full a are_wanted are_full want) past)

-- ---- deadlines

pub late_so : (classes : List Class) (terms : Terms) (now : ℕ) (x : Core) (a : Ask) (s : Stage) → a.stage ≡ s → is_late now x.book.durable terms.disk a ≡ true
    → is_past now (until_at x.book.durable terms.disk a s) ≡ true → IsDue classes terms now x a (late_end s)
late_so classes terms now x a Waits e late h = (e, late)
late_so classes terms now x a Holds e late h = (e, late)
late_so classes terms now x a (Over how) e late h = absurd (false≢true h)

-- ---- whose time is over isn't over yet

holds_open : (now : ℕ) (s : Stage) (m : Option ℕ) → is_past now (if_holds s m) ≡ true → is_over s ≡ false
holds_open now Waits m h = refl
holds_open now Holds m h = refl
holds_open now (Over how) m h = absurd (false≢true h)

pub due_open : (classes : List Class) (terms : Terms) (now : ℕ) (x : Core) (a : Ask) (how : End) → IsDue classes terms now x a how → is_over a.stage ≡ false
due_open classes terms now x a LetGo h = absurd h
due_open classes terms now x a Left h = absurd h
due_open classes terms now x a Lapsed h = ap is_over h.0
due_open classes terms now x a NotWritten h = ap is_over h.0
due_open classes terms now x a Limit h = holds_open now a.stage (after (Some a.since) a.limit) h.1
due_open classes terms now x a Grace h = holds_open now a.stage (after a.gone terms.grace) h
due_open classes terms now x a TakenAway h = absurd h
due_open classes terms now x a Replaced h = absurd h
due_open classes terms now x a Stopped h = absurd h
