-- What the calls leave of others.
use Rattle.std.proofs.Common.{◌≡◌, ◌≢◌, ℕ, zero, suc, Bool, true, false, not, nat_eq, if◌then◌else◌, List, length, None, Some, sym, ap, ◌∙◌, subst, inl, inr, arith}
use Rattle.std.specs.Int.{bit_at}
use Rattle.std.specs.Int.Bits.{bit_and}
use Rattle.std.proofs.lemmas.Bool.{false≢true, cases_eq, ne_eqb}
use Rattle.std.proofs.lemmas.Nat.Bits.{bit_at_and, bit_at-zero}
use Rattle.bay_book.specs.declared.ask.Ask.{Ask}
use Rattle.bay_book.specs.declared.ask.End.{End}
use Rattle.bay_book.specs.declared.ask.End.TheVariants.{Lapsed, NotWritten, Limit, Grace}
use Rattle.bay_book.specs.declared.ask.Stage.{Stage}
use Rattle.bay_book.specs.declared.ask.Stage.TheVariants.{Waits}
use Rattle.bay_book.specs.Asks.{ask_at, no_ask, is_holding}
use Rattle.bay_book.specs.Moments.{common, is_past, until_at, later, after, if_holds}
use Rattle.bay_book.specs.Books.{BookView}
use Rattle.bay.specs.declared.classes.Class.{Class}
use Rattle.bay.specs.declared.terms.Terms.{Terms}
use Rattle.bay.specs.Members.{Has}
use Rattle.bay.specs.Cores.{Core, HoldsIn, ended}
use Rattle.bay.specs.Following.{IsDue, NobodyIsDue}
use Rattle.bay.specs.Standings.{MarksGone}
use Rattle.bay.specs.Stopping.{StopsOne, StopsTo}
use Rattle.bay.specs.Views.{RoomView, core_of, GoesOn}
use Rattle.bay.specs.Rooms.{IsKept}
use Rattle.bay.specs.Laws.{HoldsOn, WaitsOn, IsCallOfOthers, IsCallInService, IsInTime, WrittenIsInTime, IsWellHeld}
use Rattle.bay.proofs.Members.{append_first, place_of, one_number}
use Rattle.bay.proofs.HoldsOn.{kept_set, steps_on, steps_waits_on, holds_not_waits}

-- ---- in the book still, before all follows

ended_other : (x : Core) (place : ℕ) (how : End) (now : ℕ) (a : Ask) → (ask_at x.book.asks place).number ≢ a.number → Has x.book.asks a
    → Has (ended x place how now).book.asks a
ended_other x place how now a ne h = kept_set x.book.asks place _ a h (λ is. ne (ap (λ (b : Ask). b.number) is))

marked_other : (number moment : ℕ) (old new : BookView) (a : Ask) → number ≢ a.number → MarksGone number moment old new → Has old.asks a → Has new.asks a
marked_other number moment old new a ne (inl m) h =
    subst (λ (b : BookView). Has b.asks a) (sym m.2) (kept_set old.asks m.0 _ a h (λ is. ne (sym m.1.found.1 ∙ ap (λ (b : Ask). b.number) is)))
marked_other number moment old new a ne (inr m) h = subst (λ (b : BookView). Has b.asks a) (sym m.1) h

stop_one : (now place : ℕ) (old new : Core) (a : Ask) → is_holding a.stage ≡ true → StopsOne now place old new → Has old.book.asks a → Has new.book.asks a
stop_one now place old new a holds (inl s) h =
    subst (λ (x : Core). Has x.book.asks a) (sym s.1)
    (kept_set old.book.asks place _ a h (λ is. holds_not_waits a.stage holds (ap (λ (b : Ask). b.stage) (sym is) ∙ s.0)))
stop_one now place old new a holds (inr s) h = subst (λ (x : Core). Has x.book.asks a) (sym s.1) h

stop_all : (now n : ℕ) (old new : Core) (a : Ask) → is_holding a.stage ≡ true → StopsTo now n old new → Has old.book.asks a → Has new.book.asks a
stop_all now zero old new a holds s h = subst (λ (x : Core). Has x.book.asks a) (sym s) h
stop_all now (suc n) old new a holds s h = stop_one now n s.0 new a holds s.2 (stop_all now n old s.0 a holds s.1 h)

-- ---- and then

pub goes_on_holds : (now : ℕ) (mid : Core) (old new : RoomView) (a : Ask) → GoesOn now mid old new → is_holding a.stage ≡ true → Has mid.book.asks a
    → HoldsOn old.classes old.terms new.moment new.book a
goes_on_holds now mid old new a g holds h =
    steps_on old.classes old.terms new.moment g.follows.many mid (core_of new) a g.follows.steps holds (inl h)

pub goes_on_waits : (now : ℕ) (mid : Core) (old new : RoomView) (a : Ask) → GoesOn now mid old new → a.stage ≡ Waits → Has mid.book.asks a
    → WaitsOn old.classes old.terms new.moment new.book a
goes_on_waits now mid old new a g waits h =
    steps_waits_on old.classes old.terms new.moment g.follows.many mid (core_of new) a g.follows.steps waits (inl h)

-- a call, and what it makes of line and book before all follows
pub record Leads (now : ℕ) (old new : RoomView) (a : Ask) : Type 0 where
  pub mid : Core
  pub goes : GoesOn now mid old new
  pub has : Has mid.book.asks a

in_service : (old new : RoomView) (now : ℕ) (a : Ask) → Has old.book.asks a → IsCallInService a.number now old new → Leads now old new a
in_service old new now a h (inl (sets, r, c)) = record { mid = _; goes = c.goes_on; has = append_first old.book.asks _ a h }
in_service old new now a h (inr (inl (how, other, ne, c))) = record {
  mid = _;
  goes = c.goes_on;
  has = ended_other (core_of old) c.place how _ a (λ e. ne (sym c.stands.its ∙ e)) h;
}
in_service old new now a h (inr (inr (inl (other, ne, inl c)))) = record {
  mid = _;
  goes = c.2;
  has = ended_other (core_of old) c.0 _ _ a (λ e. ne (sym c.1.its ∙ e)) h;
}
in_service old new now a h (inr (inr (inl (other, ne, inr c)))) = record { mid = _; goes = c.1; has = h }
in_service old new now a h (inr (inr (inr (inl (other, ne, c))))) = record { mid = _; goes = c.2; has = marked_other other _ old.book c.0 a ne c.1 h }
in_service old new now a h (inr (inr (inr (inr (inl (other, owner, needs, ne, c)))))) = record {
  mid = _;
  goes = c.2;
  has = subst (λ (b : BookView). Has b.asks a) (sym c.1.6)
      (kept_set old.book.asks c.1.0 _ a h (λ is. ne (sym c.1.2.its ∙ ap (λ (b : Ask). b.number) is)));
}
in_service old new now a h (inr (inr (inr (inr (inr c))))) = record { mid = _; goes = c; has = h }

pub who_holds : (old new : RoomView) (now : ℕ) (a : Ask) → HoldsIn old.book a → IsCallOfOthers a.number now old new
    → HoldsOn old.classes old.terms new.moment new.book a
who_holds old new now a h (inl c) = let l = in_service old new now a h.0 (inl c) in goes_on_holds now l.mid old new a l.goes h.1 l.has
who_holds old new now a h (inr (inl c)) = let l = in_service old new now a h.0 (inr (inl c)) in goes_on_holds now l.mid old new a l.goes h.1 l.has
who_holds old new now a h (inr (inr (inl c))) = let l = in_service old new now a h.0 (inr (inr (inl c))) in goes_on_holds now l.mid old new a l.goes h.1 l.has
who_holds old new now a h (inr (inr (inr (inl c)))) =
    let l = in_service old new now a h.0 (inr (inr (inr (inl c)))) in goes_on_holds now l.mid old new a l.goes h.1 l.has
who_holds old new now a h (inr (inr (inr (inr (inl c))))) =
    let l = in_service old new now a h.0 (inr (inr (inr (inr (inl c))))) in goes_on_holds now l.mid old new a l.goes h.1 l.has
who_holds old new now a h (inr (inr (inr (inr (inr (inl c)))))) =
    let l = in_service old new now a h.0 (inr (inr (inr (inr (inr c))))) in goes_on_holds now l.mid old new a l.goes h.1 l.has
who_holds old new now a h (inr (inr (inr (inr (inr (inr c)))))) =
    goes_on_holds now c.0 _ new a c.2 h.1 (stop_all _ (length old.book.asks) (core_of old) c.0 a h.1 c.1 h.0)

pub who_waits : (old new : RoomView) (now : ℕ) (a : Ask) → Has old.book.asks a → a.stage ≡ Waits → IsCallInService a.number now old new
    → WaitsOn old.classes old.terms new.moment new.book a
who_waits old new now a h waits c = let l = in_service old new now a h c in goes_on_waits now l.mid old new a l.goes waits l.has

-- ---- in time

not_due : (classes : List Class) (terms : Terms) (now : ℕ) (x : Core) (a : Ask) (how : End) → NobodyIsDue classes terms now x → Has x.book.asks a
    → IsDue classes terms now x a how → ⊥
not_due classes terms now x a how none h due =
    let p = place_of x.book.asks a no_ask h in none p.0 how p.1 (subst (λ (b : Ask). IsDue classes terms now x b how) (sym p.2) due)

pub in_time : (old new : RoomView) (now : ℕ) (mid : Core) → GoesOn now mid old new → IsInTime old.classes old.terms new.moment (core_of new)
in_time old new now mid g =
    let none = g.follows.nobody_due in let x = core_of new in let t = new.moment in let terms = old.terms in let d = new.book.durable in
    record {
      waits = λ a h w past.
          not_due old.classes terms t x a Lapsed none h (w, subst (λ (s : Stage). is_past t (until_at d terms.disk a s) ≡ true) (sym w) past);
      unwritten = λ a h w n past.
          not_due old.classes terms t x a NotWritten none h (
            w,
            subst (λ (s : Stage). is_past t (until_at d terms.disk a s) ≡ true) (sym w)
                (subst (λ (b : Bool). is_past t (if b then None else later a.deadline (after (Some a.since) terms.disk)) ≡ true) (sym n) past),
          );
      limits = λ a h w want past.
          not_due old.classes terms t x a Limit none h (want, subst (λ (s : Stage). is_past t (if_holds s (after (Some a.since) a.limit)) ≡ true) (sym w) past);
      gone = λ a h w past.
          not_due old.classes terms t x a Grace none h (subst (λ (s : Stage). is_past t (if_holds s (after a.gone terms.grace)) ≡ true) (sym w) past);
    }

pub written_in_time : WrittenIsInTime
written_in_time classes terms now x a written due =
    let past = subst (λ (s : Stage). is_past now (until_at x.book.durable terms.disk a s) ≡ true) due.0 due.1 in
    false≢true (subst (λ (b : Bool). is_past now (if b then None else later a.deadline (after (Some a.since) terms.disk)) ≡ true) written past)

-- ---- who holds

zero_of : (n : ℕ) → not (nat_eq n 0) ≡ false → n ≡ 0
zero_of n h = elim (cases_eq n 0) [ inl is ↦ is | inr ne ↦ absurd (false≢true (sym h ∙ ap not (ne_eqb n 0 ne))) ]

no_common_bit : (a b i : ℕ) → common a b ≡ false → bit_at a i ≡ 1 → bit_at b i ≡ 1 → ⊥
no_common_bit a b i h x y =
    let both = bit_at_and a b i in
    let none : bit_at (bit_and a b) i ≡ 0 = ap (λ n. bit_at n i) (zero_of (bit_and a b) h) ∙ bit_at-zero i in
    omega (arith, both, none, x, y)

pub well_held : (x : RoomView) → IsKept x → IsWellHeld x
well_held x k =
    let t = k.room.tied in
    record {
      one_owner = λ a b i h g p q. elim (cases_eq a.number b.number) [
        | inl same ↦ one_number (λ (c : Ask). c.number) x.book.asks a b no_ask k.book.rises h.0 g.0 same
        | inr ne ↦ absurd (no_common_bit a.needs b.needs i (t.apart a b h g ne) p q)
      ];
      places = t.few;
      allowed = t.within;
    }
