-- What is owed is given line by line.
use Rattle.std.proofs.Common.{◌≡◌, ◌⊎◌, ℕ, zero, suc, ◌+◌, true, false, length, Option, Some, None, refl, sym, ap, ◌∙◌, subst, inl, inr, arith}
use Rattle.bay_book.specs.declared.ask.Ask.{Ask}
use Rattle.bay_book.specs.declared.ask.Mark.{Mark}
use Rattle.bay_book.specs.declared.ask.Mark.TheVariants.{None as NoLine, Due, At}
use Rattle.bay_book.specs.declared.ask.Stage.{Stage}
use Rattle.bay_book.specs.declared.ask.Stage.TheVariants.{Waits, Holds, Over}
use Rattle.bay_book.specs.Asks.{ask_at, no_ask, is_owed, IsSoundAt}
use Rattle.bay_book.specs.Books.{IsSound}
use Rattle.bay_log.specs.declared.line.Line.{Line}
use Rattle.bay_log.specs.declared.line.Line.TheVariants.{End as EndLine}
use Rattle.bay.specs.Pages.{if_due, end_line_at, owed_end, owed_hold, WritesThis, WritesTo}
use Rattle.bay.specs.Giving.{Kept, how_over, hold_line, NoEndIsDue, WritesGive}
use Rattle.bay.proofs.GivingLines.{ends, holds, Far, far_end, far_hold, far_same, no_lines, gives_more, all_none}
use Rattle.bay.proofs.Stays.{sound_steps}

none_yet : (mark : Ask → Mark) (x : Kept) → Far mark x zero x
none_yet mark x = record { gives = no_lines x; long = refl; none = λ j inside less. absurd (omega (arith, less)) }

-- ---- ends

owes_end : (d : ℕ) (a : Ask) (s : Stage) (m : Mark) → IsSoundAt d a s → a.end_line ≡ m
    → ((end_line_at a.number a.since s m ≡ None) × (is_owed m ≡ false))
    ⊎ ((end_line_at a.number a.since s m ≡ Some (EndLine a.number (how_over s) a.since)) × (is_owed m ≡ true))
owes_end d a Waits m h e = inl (refl, ap is_owed (sym e ∙ h.3))
owes_end d a Holds m h e = inl (refl, ap is_owed (sym e ∙ h.2))
owes_end d a (Over how) NoLine h e = inl (refl, refl)
owes_end d a (Over how) Due h e = inr (refl, refl)
owes_end d a (Over how) (At p) h e = inl (refl, refl)

ends_to : (n : ℕ) (old new : Kept) → IsSound old.book → WritesTo owed_end n old new → Far ends old n new
ends_to zero old new s w = subst (Far ends old zero) (sym w) (none_yet ends old)
ends_to (suc n) old new s w =
    let mid = w.0 in
    let f = ends_to n old mid s w.1 in
    let sm = sound_steps f.gives.0 old mid f.gives.1 s in
    let a0 = ask_at mid.book.asks n in
    let inside = w.2.0 in
    let long = f.long in
    let next : suc n ≡ n + 1 = omega arith in
    elim (owes_end mid.book.durable a0 a0.stage a0.end_line (sm.each n no_ask inside) refl) [
      | inl none ↦ far_same ends old mid new n (suc n) next none.1 (subst (λ (o : Option Line). WritesThis o n mid new) none.0 w.2.1) f
      | inr due ↦
          far_end old mid new n (suc n) next (omega (arith, inside, long)) due.1 (subst (λ (o : Option Line). WritesThis o n mid new) due.0 w.2.1) f
    ]

-- ---- holds

owes_hold : (m : Mark) (line : Line) → ((if_due m line ≡ None) × (is_owed m ≡ false)) ⊎ ((if_due m line ≡ Some line) × (is_owed m ≡ true))
owes_hold NoLine line = inl (refl, refl)
owes_hold Due line = inr (refl, refl)
owes_hold (At p) line = inl (refl, refl)

holds_to : (n : ℕ) (old new : Kept) → NoEndIsDue old.book → WritesTo owed_hold n old new → Far holds old n new × NoEndIsDue new.book
holds_to zero old new ended w = subst (λ (x : Kept). Far holds old zero x × NoEndIsDue x.book) (sym w) (none_yet holds old, ended)
holds_to (suc n) old new ended w =
    let mid = w.0 in
    let r = holds_to n old mid ended w.1 in
    let a0 = ask_at mid.book.asks n in
    let inside = w.2.0 in
    let long = r.0.long in
    let next : suc n ≡ n + 1 = omega arith in
    elim (owes_hold a0.hold_line (hold_line a0)) [
      | inl none ↦
          let is = subst (λ (o : Option Line). WritesThis o n mid new) none.0 w.2.1 in
          (far_same holds old mid new n (suc n) next none.1 is r.0, subst (λ (x : Kept). NoEndIsDue x.book) (sym is) r.1)
      | inr due ↦
          far_hold old mid new n (suc n) next (omega (arith, inside, long)) due.1 r.1 (subst (λ (o : Option Line). WritesThis o n mid new) due.0 w.2.1) r.0
    ]

-- ---- all

pub writes_give : WritesGive
writes_give result old new s (inl w) =
    let mid = w.0 in
    let e = ends_to (length old.book.asks) old mid s w.1 in
    let long = e.long in
    let ended : NoEndIsDue mid.book = all_none ends mid.book (length old.book.asks) (omega (arith, long)) e.none in
    let h = holds_to w.2.0 mid new ended w.2.1 in gives_more old mid new e.gives h.0.gives
writes_give result old new s (inr w) = (ends_to w.0.0 old new s w.0.1).gives
