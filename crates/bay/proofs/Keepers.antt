-- Who keeps an instrument from an ask.
use Rattle.std.proofs.Common.{◌≡◌, ◌≢◌, ℕ, ◌*◌, ◌<◌, ◌^◌, true, false, List, length, Option, Some, None, sym, ap, ◌∙◌, subst, inl, inr, arith}
use Rattle.std.specs.Int.{bit_at, IsBitSet}
use Rattle.std.specs.Int.Bits.{bit_and}
use Rattle.std.proofs.lemmas.Bool.{cases_eq, and_from, eq-eqb, eqb-true, false≢true}
use Rattle.std.proofs.lemmas.Nat.Bits.{bit_at-lt, bit_at_and, bit_at-zero, bit_at-pow_same, and_pow, same_from_bits}
use Rattle.bay_line.specs.Wishes.{wish_at, no_wish}
use Rattle.bay_line.specs.Keepers.{has, IsKeptFor, LacksOne, EachLacksSomething, IsKeeper as IsKeeperInLine}
use Rattle.bay_book.specs.declared.ask.Ask.{Ask}
use Rattle.bay_book.specs.Asks.{ask_at, no_ask, is_holding}
use Rattle.bay_book.specs.Finding.{IsPlaceOf, IsInUse}
use Rattle.bay.specs.declared.classes.Class.{Class}
use Rattle.bay.specs.Members.{Has}
use Rattle.bay.specs.Cores.{Core, IsTied, AreFree}
use Rattle.bay.specs.Keepers.{holds_it, IsHolder, IsAskOf, IsKeptInLine, IsKeeper, EachHasAKeeper}
use Rattle.bay.specs.Views.{RoomView, core_of, GoesOn}
use Rattle.bay.proofs.Members.{has_at, place_of}

-- whoever holds it was looked at
pub nobody_holds : (asks : List Ask) (instrument : ℕ) → ((k : ℕ) → k < length asks → holds_it instrument (ask_at asks k) ≡ false)
    → (a : Ask) → Has asks a → holds_it instrument a ≡ true → ⊥
nobody_holds asks instrument none a has holds =
    let p = place_of asks a no_ask has in
    false≢true (sym (none p.0 p.1) ∙ (ap (holds_it instrument) p.2 ∙ holds))

-- ---- the ask with a number

none_some : (k : ℕ) → None ≡ Some k → ⊥
none_some k e = cc

some_same : (j k : ℕ) → Some j ≡ Some k → j ≡ k
some_same j k e = cc

pub no_ask_of : (asks : List Ask) (number : ℕ) → IsPlaceOf asks number None → IsAskOf asks number None
no_ask_of asks number is = record {
  found = tt;
  only = λ a has its.
      let p = place_of asks a no_ask has in absurd (none_some p.0 (is.only p.0 p.1 (ap (λ (b : Ask). b.number) p.2 ∙ its)));
}

pub one_ask_of : (asks : List Ask) (number place : ℕ) (it : Ask) → IsPlaceOf asks number (Some place) → it ≡ ask_at asks place → IsAskOf asks number (Some it)
one_ask_of asks number place it is at = record {
  found = (subst (λ (a : Ask). Has asks a) (sym at) (has_at asks place no_ask is.found.0), ap (λ (a : Ask). a.number) at ∙ is.found.1);
  only = λ a has its.
      let p = place_of asks a no_ask has in
      let same = some_same place p.0 (is.only p.0 p.1 (ap (λ (b : Ask). b.number) p.2 ∙ its)) in
      ap (λ (b : Ask). Some b) (at ∙ (ap (ask_at asks) same ∙ p.2));
}

-- ---- for whom it is kept

pub keeps_it : (classes : List Class) (x : Core) (number instrument free : ℕ) (first : ℕ) (ask : Option Ask) → IsTied classes x → IsHolder x.book instrument None
    → AreFree classes x.book.asks free → IsKeeperInLine x.line.most free x.line.wishes number instrument (Some first) → IsAskOf x.book.asks first ask
    → IsKeeper classes x number instrument ask
keeps_it classes x number instrument free first ask t unused are_free h is =
    let b = t.by_book (wish_at x.line.wishes h.0) (has_at x.line.wishes h.0 no_wish h.1.inside) in
    let its : b.0.number ≡ first = b.3.number ∙ h.2 in
    let kept : IsKeptInLine classes x number instrument (Some b.0.number) = record {
      unused = unused;
      free = free;
      are_free = are_free;
      first = subst (λ n. IsKeeperInLine x.line.most free x.line.wishes number instrument (Some n)) (sym its) h;
    } in
    subst (IsKeeper classes x number instrument) (sym (is.only b.0 b.1 its)) (inr (b.1, b.2, kept))

-- ---- nobody waits for nobody

-- there is one set of the classes of which a place is free
same_free : (classes : List Class) (asks : List Ask) (a b : ℕ) → AreFree classes asks a → AreFree classes asks b → a ≡ b
same_free classes asks a b x y = same_from_bits a b (λ i.
    let less = bit_at-lt a i in let fewer = bit_at-lt b i in
    elim (cases_eq (bit_at a i) 1) [
      | inl is ↦ is ∙ sym ((y i).1 ((x i).0 is))
      | inr isnt ↦
          let other : bit_at b i ≢ 1 = λ h. isnt ((x i).1 ((y i).0 h)) in
          omega (arith, less, fewer, isnt, other)
    ])

-- a bit is set just if it is 1
set_of : (n i : ℕ) → bit_at n i ≡ 1 → IsBitSet n i
set_of n i h = λ e.
    let both = bit_at_and n (2 ^ i) i in let one = bit_at-pow_same i in
    let none : bit_at (bit_and n (2 ^ i)) i ≡ bit_at 0 i = ap (λ m. bit_at m i) e in let zero = bit_at-zero i in
    omega (arith, both, h, one, none, zero)

bit_of : (n i : ℕ) → IsBitSet n i → bit_at n i ≡ 1
bit_of n i set = elim (cases_eq (bit_at n i) 1) [
  | inl is ↦ is
  | inr isnt ↦
      let less = bit_at-lt n i in let zero : bit_at n i ≡ 0 = omega (arith, less, isnt) in
      let none : bit_at n i * 2 ^ i ≡ 0 = ap (λ b. b * 2 ^ i) zero ∙ omega arith in
      absurd (set (and_pow n i ∙ none))
]

somebody : (classes : List Class) (x : Core) (used free number : ℕ) (l : LacksOne x.line.most used free x.line.wishes number) → IsInUse x.book.asks used
    → AreFree classes x.book.asks free → IsKeeper classes x number l.instrument None → ⊥
somebody classes x used free number l are_used are_free h = elim l.why [
  | inl in_use ↦
      let one = (are_used.bits l.instrument).0 (set_of used l.instrument (eqb-true (bit_at used l.instrument) 1 in_use)) in let a = ask_at x.book.asks one.0 in
      h.unused a (has_at x.book.asks one.0 no_ask one.1.inside) (and_from (is_holding a.stage) (has a.needs l.instrument) one.1.holds (eq-eqb (bit_at a.needs l.instrument) 1 (bit_of a.needs l.instrument one.1.has)))
  | inr kept ↦
      let same = same_free classes x.book.asks free h.free are_free h.are_free in
      h.first kept.0 (subst (λ f. IsKeptFor x.line.most f x.line.wishes number l.instrument kept.0) same kept.1)
]

pub each_keeper : EachLacksSomething → (old new : RoomView) (now : ℕ) (mid : Core) → GoesOn now mid old new → EachHasAKeeper new
each_keeper lacks old new now mid g =
    let n = g.follows.nobody_waits in
    let are_free : AreFree new.classes new.book.asks n.free =
    subst (λ (k : List Class). AreFree k new.book.asks n.free) (sym (ap (λ (x : RoomView). x.classes) g.same)) n.are_free in
    record {
      free = n.free;
      are_free = are_free;
      keepers = λ k inside. elim (lacks new.line.most n.used n.free new.line.wishes n.reasons k inside) [
        | inl not_ready ↦ inl not_ready
        | inr l ↦ inr (record {
          k = l.k;
          instrument = l.instrument;
          its = l.its;
          somebody = somebody new.classes (core_of new) n.used n.free _ l n.are_used are_free;
        })
      ];
    }
