-- What the log says of the asks of a bay that goes on in a new file.
use Rattle.std.proofs.Common.{◌≡◌, ◌≢◌, ℕ, ◌<◌, max, Bool, true, false, ◌||◌, if◌then◌else◌, List, [], ◌∷◌, ◌++◌, append_assoc, Some, refl, sym, ap, ◌∙◌, subst, inl, inr, arith}
use Rattle.std.specs.List.{list_any, count_by}
use Rattle.std.proofs.lemmas.Bool.{cases_Bool, false≢true}
use Rattle.std.proofs.lemmas.List.{append-nil, append_cancel_left}
use Rattle.std.proofs.lemmas.List.Sums.{sum_by-cons}
use Rattle.bay_line.specs.Lines.{LineView}
use Rattle.bay_book.specs.declared.ask.Ask.{Ask}
use Rattle.bay_book.specs.declared.ask.Mark.{Mark}
use Rattle.bay_book.specs.declared.ask.Mark.TheVariants.{None as NoLine, Due, At}
use Rattle.bay_book.specs.declared.ask.Stage.{Stage}
use Rattle.bay_book.specs.declared.ask.Stage.TheVariants.{Waits, Holds, Over}
use Rattle.bay_book.specs.Asks.{no_ask, is_holding, is_over, is_owed, turned, turned_mark, IsSoundAt, IsSoundAsk}
use Rattle.bay_book.specs.Books.{BookView, IsSound, turn}
use Rattle.bay_log.specs.declared.line.Entry.{Entry}
use Rattle.bay_log.specs.declared.line.Line.{Line}
use Rattle.bay_log.specs.Logs.{LogView, end_of}
use Rattle.bay_log.specs.Alive.{alive, begins}
use Rattle.bay_log.specs.Laws.{BeginsWith}
use Rattle.bay.specs.declared.classes.Class.{Class}
use Rattle.bay.specs.Members.{Has}
use Rattle.bay.specs.Cores.{core, IsTied}
use Rattle.bay.specs.Pages.{entry_of}
use Rattle.bay.specs.Written.{is_given, IsWritten}
use Rattle.bay.specs.Ended.{IsOutOfLog, IsEndedAsk, IsEnded, AreInLog, IsPast}
use Rattle.bay.specs.Safe.{AreSafe, StaySafe}
use Rattle.bay.specs.Views.{RoomView}
use Rattle.bay.specs.Turning.{Changes, owes, new_lines, new_log, with_classes}
use Rattle.bay.proofs.Members.{map_cases, map_has, place_of, any_none}
use Rattle.bay.proofs.Tied.{same_ask}
use Rattle.bay.proofs.Ended.{written_later, ended_kept}
use Rattle.bay.proofs.LoggedCalls.{goes_on as logged_goes_on}
use Rattle.bay.proofs.Through.{goes_on}
use Rattle.bay.proofs.LogLines.{stands_now}
use Rattle.bay.proofs.SafeLines.{HoldsBy, safe_now}
use Rattle.bay.proofs.NewFile.{holds_of, mark_stays, none_new, has_new, only_new, below_new}

-- ---- one that doesn't hold

-- no line of the new file has its number
silent : (book : BookView) (log : LogView) (a : Ask) → IsSound book → Has book.asks a → is_holding a.stage ≡ false
    → list_any (begins a.number) (new_lines book log).lines ≡ false
silent book log a s h isnt =
    none_new book log a.number (λ b g holds same.
    let is = same_ask book b a s g h same in
    false≢true (sym isnt ∙ (ap (λ (c : Ask). is_holding c.stage) (sym is) ∙ ap is_holding holds)))

out_of_new : (book : BookView) (log : LogView) (k position : ℕ) → list_any (begins k) (new_lines book log).lines ≡ false
    → IsOutOfLog (new_log book log).lines k position
out_of_new book log k position none = record {
  front = [];
  rest = (new_lines book log).lines;
  is = refl;
  so_far = omega arith;
  none = refl;
  once = none;
}

over_not_holding : (s : Stage) → is_over s ≡ true → is_holding s ≡ false
over_not_holding Waits o = absurd (false≢true o)
over_not_holding Holds o = absurd (false≢true o)
over_not_holding (Over how) o = refl

not_over : (s : Stage) → is_holding s ≡ true → is_over s ≡ false
not_over Waits h = absurd (false≢true h)
not_over Holds h = refl
not_over (Over how) h = absurd (false≢true h)

holding_mark : (at : ℕ) (s : Stage) (m : Mark) → is_holding s ≡ true → turned_mark at s m ≡ At at
holding_mark at Waits m h = absurd (false≢true h)
holding_mark at Holds m h = refl
holding_mark at (Over how) m h = absurd (false≢true h)

isnt_at : (m : Mark) (p : ℕ) → m ≡ NoLine → m ≡ At p → ⊥
isnt_at m p n e = cc

same_at : (p q : ℕ) → At p ≡ At q → p ≡ q
same_at p q h = cc

-- ---- what is true of book and log

ended_turned : (book : BookView) (log : LogView) (a : Ask) → IsSound book → Has book.asks a → IsEndedAsk log.lines book.durable a
    → IsEndedAsk (new_log book log).lines (turn book (end_of (new_log book log))).durable (turned (end_of (new_log book log)) a)
ended_turned book log a s h e =
    let at = end_of (new_log book log) in
    elim (cases_Bool (is_holding a.stage)) [
      | inl holds ↦
          let mark = holding_mark at a.stage a.hold_line holds in
          record {
            unused = λ g. absurd (false≢true (sym g ∙ ap is_given mark));
            waits = λ w. absurd (false≢true (ap is_holding (sym w) ∙ holds));
            goes_on = e.goes_on;
            ends = λ o g. absurd (false≢true (sym (not_over a.stage holds) ∙ o));
            ended = λ p g. absurd (isnt_at a.end_line p (e.goes_on (not_over a.stage holds)).0 g);
            told = λ w g. absurd (false≢true (ap is_holding (sym w) ∙ holds));
          }
      | inr isnt ↦
          let mark = mark_stays at a.stage a.hold_line isnt in let none = silent book log a s h isnt in
          record {
            unused = λ g. none;
            waits = λ w. ap is_given mark ∙ e.waits w;
            goes_on = e.goes_on;
            ends = λ o g. e.ends o (sym (ap is_given mark) ∙ g);
            ended = λ p g. out_of_new book log a.number p none;
            told = λ w g. written_later book.durable (max book.durable at) a.end_line (omega arith) (e.told w g);
          }
    ]

pub in_log_turned : (book : BookView) (log : LogView) → IsSound book → AreInLog book log
    → AreInLog (turn book (end_of (new_log book log))) (new_log book log)
in_log_turned book log s t =
    let new = new_log book log in let at = end_of new in
    record {
      held = λ b p h holds mark.
          let a = map_cases (turned at) book.asks b h in
          let is_holding_ : is_holding a.0.stage ≡ true = ap (λ (c : Ask). is_holding c.stage) a.2 ∙ holds in
          let same : at ≡ p =
          same_at at p (sym (holding_mark at a.0.stage a.0.hold_line is_holding_) ∙ (ap (λ (c : Ask). c.hold_line) a.2 ∙ mark)) in
          record {
            front = new.lines;
            rest = [];
            is = sym (append-nil new.lines);
            so_far = omega (arith, same);
            once = refl;
            holds = subst (λ (c : Ask). alive new.lines c.number ≡ Some (entry_of c)) a.2 (has_new book log a.0 s a.1 (holds_of a.0.stage is_holding_));
          };
      ended = record {
        each = λ b h.
            let a = map_cases (turned at) book.asks b h in
            subst (IsEndedAsk new.lines (max book.durable at)) a.2 (ended_turned book log a.0 s a.1 (t.ended.each a.0 a.1));
        below = λ n le ne.
            none_new book log n (λ a h holds same.
            let p = place_of book.asks a no_ask h in
            let less : a.number < book.next = subst (λ (c : Ask). c.number < book.next) p.2 (s.below p.0 no_ask p.1) in
            omega (arith, less, le, same));
      };
    }

-- ---- whoever is past stays past

pub past_turned : (book : BookView) (log : LogView) (number : ℕ) → IsPast book log.lines number
    → IsPast (turn book (end_of (new_log book log))) (new_log book log).lines number
past_turned book log number t =
    let at = end_of (new_log book log) in
    record {
      given = t.given;
      over = λ b h e.
          let a = map_cases (turned at) book.asks b h in
          let o = t.over a.0 a.1 (ap (λ (c : Ask). c.number) a.2 ∙ e) in
          let mark = mark_stays at a.0.stage a.0.hold_line (over_not_holding a.0.stage o.0) in
          subst (λ (c : Ask). (is_over c.stage ≡ true) × (is_owed c.hold_line ≡ false)) a.2 (o.0, ap is_owed mark ∙ o.1);
      out = out_of_new book log number (max book.durable at) (none_new book log number (λ a h holds same.
          false≢true (sym (not_over a.stage (ap is_holding holds)) ∙ (t.over a h same).0)));
    }

-- ---- a whole bay stays whole

-- nothing of the ask is owed
owes_first : (a b : Bool) → (a || b) ≡ false → a ≡ false
owes_first true b h = h
owes_first false b h = refl

owes_second : (a b : Bool) → (a || b) ≡ false → b ≡ false
owes_second true b h = absurd (false≢true (sym h))
owes_second false b h = h

given_or : (m : Mark) → m ≢ NoLine → is_owed m ≡ false → is_given m ≡ true
given_or NoLine ne o = absurd (ne refl)
given_or Due ne o = absurd (false≢true (sym o))
given_or (At p) ne o = refl

waits_mark : (d : ℕ) (a : Ask) (s : Stage) → IsSoundAt d a s → s ≡ Waits → a.hold_line ≡ NoLine
waits_mark d a Waits h w = h.2
waits_mark d a Holds h w = let isnt : ⊥ = cc in absurd isnt
waits_mark d a (Over how) h w = let isnt : ⊥ = cc in absurd isnt

sound_of : (book : BookView) (a : Ask) → IsSound book → Has book.asks a → IsSoundAsk book.durable a
sound_of book a s h = let p = place_of book.asks a no_ask h in subst (IsSoundAsk book.durable) p.2 (s.each p.0 no_ask p.1)

stages : (s : Stage) → is_holding s ≡ false → is_over s ≡ false → s ≡ Waits
stages Waits h o = refl
stages Holds h o = absurd (false≢true (sym h))
stages (Over how) h o = absurd (false≢true (sym o))

-- a line was given that it holds, and none that it is over: so it holds, where nothing is owed
pub open_holds : (book : BookView) (lines : List Line) (a : Ask) → IsSound book → IsWritten lines book → list_any owes book.asks ≡ false → Has book.asks a
    → is_given a.hold_line ≡ true → is_given a.end_line ≡ false → a.stage ≡ Holds
open_holds book lines a s w quiet h given open_ =
    let none = any_none owes book.asks a quiet h in
    elim (cases_Bool (is_holding a.stage)) [
      | inl holds ↦ holds_of a.stage holds
      | inr isnt ↦
          elim (cases_Bool (is_over a.stage)) [
            | inl over_ ↦
                absurd (false≢true (sym open_ ∙ given_or a.end_line (w.ends a h over_ given) (owes_second (is_owed a.hold_line) (is_owed a.end_line) none)))
            | inr goes ↦
                let mark = waits_mark book.durable a a.stage (sound_of book a s h) (stages a.stage isnt goes) in
                absurd (false≢true (ap is_given (sym mark) ∙ given))
          ]
    ]

holds_mark : (d : ℕ) (a : Ask) (s : Stage) → IsSoundAt d a s → s ≡ Holds → a.end_line ≡ NoLine
holds_mark d a Waits h e = let isnt : ⊥ = cc in absurd isnt
holds_mark d a Holds h e = h.2
holds_mark d a (Over how) h e = let isnt : ⊥ = cc in absurd isnt

count_none : (p : Line → Bool) (lines : List Line) → list_any p lines ≡ false → count_by p lines ≡ 0
count_none p [] h = refl
count_none p (line ∷ lines) h =
    let f : Line → ℕ = λ l. if p l then 1 else 0 in
    let zero_ : f line ≡ 0 = ap (λ (b : Bool). if b then 1 else 0) (owes_first (p line) (list_any p lines) h) in
    omega (arith, count_none p lines (owes_second (p line) (list_any p lines) h), sum_by-cons f line lines, zero_)

pub written_turned : (book : BookView) (log : LogView) → IsSound book → IsWritten log.lines book → list_any owes book.asks ≡ false
    → IsWritten (new_log book log).lines (turn book (end_of (new_log book log)))
written_turned book log s w quiet =
    let new = new_log book log in let at = end_of new in
    record {
      stand = λ b position h mark goes.
          let a = map_cases (turned at) book.asks b h in
          let mark_a : turned_mark at a.0.stage a.0.hold_line ≡ At position = ap (λ (c : Ask). c.hold_line) a.2 ∙ mark in
          let goes_a : is_given a.0.end_line ≡ false = ap (λ (c : Ask). is_given c.end_line) a.2 ∙ goes in
          let holds : a.0.stage ≡ Holds = elim (cases_Bool (is_holding a.0.stage)) [
            | inl is_so ↦ holds_of a.0.stage is_so
            | inr isnt ↦ open_holds book log.lines a.0 s w quiet a.1 (ap is_given (sym (mark_stays at a.0.stage a.0.hold_line isnt) ∙ mark_a)) goes_a
          ] in
          let same : at ≡ position = same_at at position (sym (holding_mark at a.0.stage a.0.hold_line (ap is_holding holds)) ∙ mark_a) in
          let alive_ = subst (λ (c : Ask). alive new.lines c.number ≡ Some (entry_of c)) a.2 (has_new book log a.0 s a.1 holds) in
          record {
            entry = entry_of b;
            stands = stands_now new.lines position b.number (entry_of b) (omega (arith, same)) alive_;
            same = λ g. refl;
          };
      only = λ n e h.
          let o = only_new book log n e h in
          let mark = holding_mark at o.ask.stage o.ask.hold_line (ap is_holding o.holds) in
          let none = holds_mark book.durable o.ask o.ask.stage (sound_of book o.ask s o.has) o.holds in
          (turned at o.ask, map_has (turned at) book.asks o.ask o.has, o.number, record { begun = ap is_given mark; goes_on = ap is_given none });
      kept = λ b h holds none.
          let a = map_cases (turned at) book.asks b h in
          let stage : a.0.stage ≡ Holds = ap (λ (c : Ask). c.stage) a.2 ∙ holds in
          isnt_at (turned_mark at a.0.stage a.0.hold_line) at (ap (λ (c : Ask). c.hold_line) a.2 ∙ none)
          (holding_mark at a.0.stage a.0.hold_line (ap is_holding stage));
      ends = λ b h over_ given.
          let a = map_cases (turned at) book.asks b h in
          let o : is_over a.0.stage ≡ true = ap (λ (c : Ask). is_over c.stage) a.2 ∙ over_ in
          let mark = mark_stays at a.0.stage a.0.hold_line (over_not_holding a.0.stage o) in
          subst (λ (c : Ask). c.end_line ≢ NoLine) a.2
          (w.ends a.0 a.1 o (ap is_given (sym mark) ∙ (ap (λ (c : Ask). is_given c.hold_line) a.2 ∙ given)));
      unused = λ b h m.
          let a = map_cases (turned at) book.asks b h in
          let not_given : is_given (turned_mark at a.0.stage a.0.hold_line) ≡ false = ap (λ (c : Ask). is_given c.hold_line) a.2 ∙ m in
          let isnt : is_holding a.0.stage ≡ false = elim (cases_Bool (is_holding a.0.stage)) [
            | inl is_so ↦ absurd (false≢true (sym not_given ∙ ap is_given (holding_mark at a.0.stage a.0.hold_line is_so)))
            | inr isnt ↦ isnt
          ] in
          subst (λ (c : Ask). count_by (begins c.number) new.lines ≡ 0) a.2
          (count_none (begins a.0.number) new.lines (silent book log a.0 s a.1 isnt));
      below = below_new book log s;
    }

none_behind : (a b : List Line) → [] ≡ a ++ b → a ≡ []
none_behind [] b h = refl
none_behind (x ∷ a) b h = let no_ : ⊥ = cc in absurd no_

pub all_of_it : (lines front : List Line) → BeginsWith lines front → BeginsWith front lines → lines ≡ front
all_of_it lines front b from =
    let both : lines ++ [] ≡ lines ++ (from.0 ++ b.0) =
    append-nil lines ∙ (b.1 ∙ (ap (λ (l : List Line). l ++ b.0) from.1 ∙ append_assoc lines from.0 b.0)) in
    let none = none_behind from.0 b.0 (append_cancel_left lines [] (from.0 ++ b.0) both) in
    sym (from.1 ∙ (ap (λ (l : List Line). lines ++ l) none ∙ append-nil lines))

-- the new lines are safe by classes by which the asks are tied to their line
pub safe_turned : (classes : List Class) (line : LineView) (book : BookView) (log : LogView) → IsSound book → IsTied classes (core line book)
    → StaySafe classes (new_log book log).lines (turn book (end_of (new_log book log))).durable
safe_turned classes line book log s t =
    let new = new_log book log in
    let by : (n : ℕ) (e : Entry) → alive new.lines n ≡ Some e → HoldsBy book n e = λ n e h.
    (let o = only_new book log n e h in record { ask = o.ask; has = o.has; holds = o.holds; number = o.number; entry = o.entry }) in
    let safe = safe_now classes line new.lines book s t by in
    record {
      sure = new.lines;
      begins = ([], sym (append-nil new.lines));
      within = omega arith;
      safe = λ front f from. subst (AreSafe classes) (all_of_it new.lines front f from) safe;
    }

-- ---- and all that follows

pub in_log_after : (classes : List Class) (now : ℕ) (book : BookView) (log : LogView) (old new : RoomView) → Changes classes now book old new
    → AreInLog book log → AreInLog new.book log
in_log_after classes now book log old new c t = record {
  held = logged_goes_on now (core old.line book) (with_classes old classes) new log c t.held;
  ended =
      goes_on (λ (b : BookView). IsEnded b log.lines) (with_classes old classes) (ended_kept old.terms.keeps log.lines) now (core old.line book) new c t.ended;
}
