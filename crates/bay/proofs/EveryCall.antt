-- Who holds goes on to hold over every call of a bay but those that end it.
use Rattle.std.proofs.Common.{◌≡◌, ◌≢◌, ◌⊎◌, ℕ, zero, suc, ◌<◌, Bool, true, false, ◌&&◌, ◌||◌, not, List, length, set, is_some, Option, Some, None, Result, refl, sym, ap, ◌∙◌, subst, inl, inr}
use Rattle.std.specs.Prelude.{AllPairs}
use Rattle.std.specs.declared.alloc.AllocError.{AllocError}
use Rattle.std.proofs.lemmas.Bool.{false≢true, cases_eq}
use Rattle.bay_book.specs.declared.ask.Ask.{Ask}
use Rattle.bay_book.specs.declared.ask.Heard.{Heard}
use Rattle.bay_book.specs.declared.ask.Heard.TheVariants.{Nothing, Holds as HeardHolds, End as HeardEnd}
use Rattle.bay_book.specs.declared.ask.Outcome.{Outcome}
use Rattle.bay_book.specs.declared.ask.Outcome.TheVariants.{Holds as ToldHolds}
use Rattle.bay_book.specs.declared.ask.Stage.{Stage}
use Rattle.bay_book.specs.declared.ask.Stage.TheVariants.{Waits, Holds, Over}
use Rattle.bay_book.specs.Asks.{ask_at, no_ask, is_holding, is_over, is_owed, is_done, has_heard_end, has_left, given, turned, gone_since, back_again, heard_of, hearing}
use Rattle.bay_book.specs.Telling.{to_tell, to_tell_at, if_may}
use Rattle.bay_book.specs.Books.{BookView, IsSound}
use Rattle.bay_log.specs.declared.line.Line.{Line}
use Rattle.bay_log.specs.Logs.{LogView, adding, end_of}
use Rattle.bay.specs.declared.classes.Class.{Class}
use Rattle.bay.specs.declared.telling.Told.{Told}
use Rattle.bay.specs.declared.terms.Terms.{Terms}
use Rattle.bay.specs.Members.{Has}
use Rattle.bay.specs.Cores.{Core, core, HoldsIn}
use Rattle.bay.specs.Standings.{MarksGone, MarksBack}
use Rattle.bay.specs.Tellings.{TellsNext}
use Rattle.bay.specs.Pages.{owed_end, owed_hold, Pages, pages, WritesThis, WritesTo, Writes}
use Rattle.bay.specs.Views.{RoomView, GoesOn}
use Rattle.bay.specs.Turning.{new_log, book_after, with_classes}
use Rattle.bay.specs.Laws.{HoldsOn, IsCallOfOthers}
use Rattle.bay.specs.LineLaws.{IsCall}
use Rattle.bay.specs.Rooms.{Ends, Leaves, stopping}
use Rattle.bay.specs.Bays.{BayView, IsKept}
use Rattle.bay.specs.EveryCall.{IsSameHold, StaysHeld, EndsIt, EveryCallHoldsOn}
use Rattle.bay.proofs.Members.{has_at, place_of, one_number, set_new, set_other, map_has, filter_has}
use Rattle.bay.proofs.Calls.{goes_on_holds, who_holds}

-- in the book still, with what it holds
record IsThere (asks : List Ask) (a : Ask) : Type 0 where
  ask : Ask
  same : IsSameHold a ask
  has : Has asks ask

itself : (a : Ask) → is_holding a.stage ≡ true → IsSameHold a a
itself a h = record { number = refl; entry = refl; holds = h; deadline = refl; told = λ e. e }

-- ---- all follows

-- a call changes neither the classes nor the terms
as_now : (now : ℕ) (mid : Core) (old new : RoomView) (b : Ask) → GoesOn now mid old new → HoldsOn old.classes old.terms new.moment new.book b
    → HoldsOn new.classes new.terms new.moment new.book b
as_now now mid old new b g h =
    subst (λ (c : List Class). HoldsOn c new.terms new.moment new.book b) (sym (ap (λ (r : RoomView). r.classes) g.same))
    (subst (λ (t : Terms). HoldsOn old.classes t new.moment new.book b) (sym (ap (λ (r : RoomView). r.terms) g.same)) h)

follows : (now : ℕ) (mid : Core) (old : RoomView) (new : BayView) (a : Ask) → GoesOn now mid old new.room → IsThere mid.book.asks a → StaysHeld new a
follows now mid old new a g t =
    (t.ask, t.same, as_now now mid old new.room t.ask g (goes_on_holds now mid old new.room t.ask g t.same.holds t.has))

-- a call of others
others : (now : ℕ) (mid : Core) (old new : BayView) (a : Ask) → HoldsIn old.room.book a → GoesOn now mid old.room new.room
    → IsCallOfOthers a.number now old.room new.room → StaysHeld new a
others now mid old new a h g c = (a, itself a h.1, as_now now mid old.room new.room a g (who_holds old.room new.room now a h c))

-- ---- its own client goes, and comes

changed : (asks : List Ask) (place : ℕ) (a : Ask) (f : Ask → Ask) → AllPairs (λ (x y : Ask). x.number < y.number) asks → place < length asks
    → (ask_at asks place).number ≡ a.number → Has asks a → Has (set asks place (f (ask_at asks place))) (f a)
changed asks place a f rises inside its h =
    let here = one_number (λ (c : Ask). c.number) asks (ask_at asks place) a no_ask rises (has_at asks place no_ask inside) h its in
    subst (λ (c : Ask). Has (set asks place (f (ask_at asks place))) (f c)) here (set_new asks place (f (ask_at asks place)) inside)

is_gone : (number moment : ℕ) (old new : BookView) (a : Ask) → IsSound old → number ≡ a.number → is_holding a.stage ≡ true
    → MarksGone number moment old new → Has old.asks a → IsThere new.asks a
is_gone number moment old new a s same holds (inl m) h = record {
  ask = gone_since moment a;
  same = record { number = refl; entry = refl; holds = holds; deadline = refl; told = λ e. e };
  has = subst (λ (b : BookView). Has b.asks (gone_since moment a)) (sym m.2)
      (changed old.asks m.0 a (gone_since moment) s.rises m.1.found.0 (m.1.found.1 ∙ same) h);
}
is_gone number moment old new a s same holds (inr m) h =
    let p = place_of old.asks a no_ask h in
    absurd (none_some p.0 (m.0.only p.0 p.1 (ap (λ (c : Ask). c.number) p.2 ∙ sym same)))
  where
    none_some : (j : ℕ) → None ≡ Some j → ⊥
    none_some j e = cc

is_back : (number owner needs : ℕ) (old new : BookView) (a : Ask) → IsSound old → number ≡ a.number → is_holding a.stage ≡ true
    → MarksBack number owner old (Some needs) new → Has old.asks a → IsThere new.asks a
is_back number owner needs old new a s same holds m h = record {
  ask = back_again a;
  same = record { number = refl; entry = refl; holds = holds; deadline = refl; told = λ e. e };
  has = subst (λ (b : BookView). Has b.asks (back_again a)) (sym m.6) (changed old.asks m.0 a back_again s.rises m.2.inside (m.2.its ∙ same) h);
}

-- ---- the calls of a room

call : (old new : BayView) (now : ℕ) (a : Ask) → IsKept old → HoldsIn old.room.book a → IsCall now old.room new.room
    → StaysHeld new a ⊎ EndsIt a.number old new
call old new now a k h (inl (sets, r, c)) = inl (others now _ old new a h c.goes_on (inl (sets, r, c)))
call old new now a k h (inr (inl (how, number, c))) = elim (cases_eq number a.number) [
  | inl same ↦ inr (now, inl (how, subst (λ n. Ends how n now old.room new.room) same c))
  | inr ne ↦ inl (others now _ old new a h c.goes_on (inr (inl (how, number, ne, c))))
]
call old new now a k h (inr (inr (inl (number, c)))) = elim (cases_eq number a.number) [
  | inl same ↦ inr (now, inr (subst (λ n. Leaves n now old.room new.room) same c))
  | inr ne ↦ elim c [
    | inl there ↦ inl (others now _ old new a h there.2 (inr (inr (inl (number, ne, inl there)))))
    | inr gone ↦ inl (others now _ old new a h gone.1 (inr (inr (inl (number, ne, inr gone)))))
  ]
]
call old new now a k h (inr (inr (inr (inl (number, c))))) = elim (cases_eq number a.number) [
  | inl same ↦ inl (follows now _ old.room new a c.2 (is_gone number _ old.room.book c.0 a k.room.book same h.1 c.1 h.0))
  | inr ne ↦ inl (others now _ old new a h c.2 (inr (inr (inr (inl (number, ne, c))))))
]
call old new now a k h (inr (inr (inr (inr (inl (number, owner, needs, c)))))) = elim (cases_eq number a.number) [
  | inl same ↦ inl (follows now _ old.room new a c.2 (is_back number owner needs old.room.book c.0 a k.room.book same h.1 c.1 h.0))
  | inr ne ↦ inl (others now _ old new a h c.2 (inr (inr (inr (inr (inl (number, owner, needs, ne, c)))))))
]
call old new now a k h (inr (inr (inr (inr (inr c))))) = inl (others now _ old new a h c (inr (inr (inr (inr (inr (inl c)))))))

-- ---- it is told

holding_isnt_over : (s : Stage) → is_holding s ≡ true → is_over s ≡ false
holding_isnt_over Waits h = refl
holding_isnt_over Holds h = refl
holding_isnt_over (Over how) h = absurd (false≢true h)

is_said : (b : Bool) (o what : Outcome) → if_may b o ≡ Some what → o ≡ what
is_said true o what e = cc
is_said false o what e = absurd (let no : ⊥ = cc in no)

says_holds : (durable : ℕ) (a : Ask) (s : Stage) (heard : Heard) (what : Outcome) → is_holding s ≡ true → to_tell_at durable a s heard ≡ Some what
    → heard_of what ≡ HeardHolds
says_holds durable a Waits heard what h e = absurd (false≢true h)
says_holds durable a Holds Nothing what h e = ap heard_of (sym (is_said _ ToldHolds what e))
says_holds durable a Holds HeardHolds what h e = absurd (let no : ⊥ = cc in no)
says_holds durable a Holds HeardEnd what h e = absurd (let no : ⊥ = cc in no)
says_holds durable a (Over how) heard what h e = absurd (false≢true h)

told : (serial after : ℕ) (old new : BookView) (result : Option Told) (a : Ask) → HoldsIn old a → TellsNext serial old (result, after) new
    → IsThere new.asks a
told serial after old new None a h t =
    let kept : not (is_done a) ≡ true =
    ap (λ (o : Bool). not (o && (has_heard_end a.heard || has_left a.stage || is_some a.gone) && not (is_owed a.end_line))) (holding_isnt_over a.stage h.1) in
    record {
      ask = a;
      same = itself a h.1;
      has = subst (λ (b : BookView). Has b.asks a) (sym t.1) (filter_has (λ (c : Ask). not (is_done c)) old.asks a h.0 kept);
    }
told serial after old new (Some it) a h t =
    let place = t.0.0 in let r = t.0.1 in let what = it.outcome in
    let v : Ask = hearing what (ask_at old.asks place) in
    elim (set_other old.asks place v a no_ask h.0) [
      | inl is ↦ record {
        ask = hearing what a;
        same = record {
          number = refl;
          entry = refl;
          holds = h.1;
          deadline = refl;
          told = λ e. says_holds old.durable a a.stage a.heard what h.1 (subst (λ (c : Ask). to_tell old.durable c ≡ Some what) is r.next.1);
        };
        has = subst (λ (b : BookView). Has b.asks (hearing what a)) (sym r.then)
            (subst (λ (c : Ask). Has (set old.asks place v) (hearing what c)) is (set_new old.asks place v r.next.0));
      }
      | inr there ↦ record { ask = a; same = itself a h.1; has = subst (λ (b : BookView). Has b.asks a) (sym r.then) there }
    ]

-- ---- its line is written

same_given : (at : ℕ) (a b : Ask) → IsSameHold a b → IsSameHold a (given at b)
same_given at a b s = record { number = s.number; entry = s.entry; holds = s.holds; deadline = s.deadline; told = s.told }

written_this : (what : Option Line) (place : ℕ) (old new : Pages) (a : Ask) → place < length old.book.asks → WritesThis what place old new
    → IsThere old.book.asks a → IsThere new.book.asks a
written_this None place old new a inside w t = subst (λ (x : Pages). IsThere x.book.asks a) (sym w) t
written_this (Some line) place old new a inside w t =
    let at = end_of (adding old.log line) in let asks = old.book.asks in let v : Ask = given at (ask_at asks place) in
    subst (λ (x : Pages). IsThere x.book.asks a) (sym w) (elim (set_other asks place v t.ask no_ask t.has) [
      | inl is ↦ record {
        ask = given at t.ask;
        same = same_given at a t.ask t.same;
        has = subst (λ (c : Ask). Has (set asks place v) (given at c)) is (set_new asks place v inside);
      }
      | inr there ↦ record { ask = t.ask; same = t.same; has = there }
    ])

written_to : (owed : Ask → Option Line) (n : ℕ) (old new : Pages) (a : Ask) → WritesTo owed n old new → IsThere old.book.asks a → IsThere new.book.asks a
written_to owed zero old new a w t = subst (λ (x : Pages). IsThere x.book.asks a) (sym w) t
written_to owed (suc n) old new a w t =
    written_this (owed (ask_at w.0.book.asks n)) n w.0 new a w.2.0 w.2.1 (written_to owed n old w.0 a w.1 t)

written : (r : Result (Unit {0}) AllocError) (old new : Pages) (a : Ask) → Writes r old new → IsThere old.book.asks a → IsThere new.book.asks a
written r old new a (inl w) t = written_to owed_hold w.2.0 w.0 new a w.2.1 (written_to owed_end (length old.book.asks) old w.0 a w.1 t)
written r old new a (inr w) t = written_to owed_end w.0.0 old new a w.0.1 t

-- ---- the bay turns

turned_still : (keeps : Bool) (book : BookView) (log : LogView) (a : Ask) → HoldsIn book a → IsThere (book_after keeps book log).asks a
turned_still true book log a h =
    let at = end_of (new_log book log) in
    record {
      ask = turned at a;
      same = record { number = refl; entry = refl; holds = h.1; deadline = refl; told = λ e. e };
      has = map_has (turned at) book.asks a h.0;
    }
turned_still false book log a h = record { ask = a; same = itself a h.1; has = h.0 }

-- ---- every call

stays : (new : BayView) (a : Ask) → IsThere new.room.book.asks a → StaysHeld new a
stays new a t = (t.ask, t.same, inl t.has)

unchanged : (old new : BayView) (a : Ask) → new.room.book.asks ≡ old.room.book.asks → HoldsIn old.room.book a → StaysHeld new a
unchanged old new a is h = stays new a (record { ask = a; same = itself a h.1; has = subst (λ (l : List Ask). Has l a) (sym is) h.0 })

pub every_call : EveryCallHoldsOn
every_call old new a k h (inl c) = elim c.0.1 [
  | inl its ↦ call old new c.0.0 a k h its
  | inr stops ↦
      let holds = who_holds old.room new.room c.0.0 a h (inr (inr (inr (inr (inr (inr stops)))))) in
      inl (a, itself a h.1, as_now c.0.0 stops.0 (stopping old.room) new.room a stops.2 holds)
]
every_call old new a k h (inr (inl c)) = inl (elim c.0.2 [
  | inl still ↦ unchanged old new a (ap (λ (r : RoomView). r.book.asks) still.2) h
  | inr next ↦ stays new a (told old.room.serial new.room.serial old.room.book new.room.book c.0.1 a h next.1)
])
every_call old new a k h (inr (inr (inl c))) =
    inl (stays new a (written c.0 (pages old.room.book old.log) (pages new.room.book new.log) a c.1.writes (record { ask = a; same = itself a h.1; has = h.0 })))
every_call old new a k h (inr (inr (inr (inl c)))) = inl (unchanged old new a (ap (λ (x : BayView). x.room.book.asks) c.3) h)
every_call old new a k h (inr (inr (inr (inr (inl c))))) = inl (unchanged old new a (ap (λ (x : BayView). x.room.book.asks) c) h)
every_call old new a k h (inr (inr (inr (inr (inr (inl c)))))) = inl (unchanged old new a (ap (λ (r : RoomView). r.book.asks) c.1) h)
every_call old new a k h (inr (inr (inr (inr (inr (inr (inl c))))))) = inl (unchanged old new a (ap (λ (x : BayView). x.room.book.asks) c) h)
every_call old new a k h (inr (inr (inr (inr (inr (inr (inr c))))))) =
    let x = old.room in
    inl (follows c.1 (core x.line (book_after x.terms.keeps x.book old.log)) (with_classes x c.0) new a c.3.changes
    (turned_still x.terms.keeps x.book old.log a h))
