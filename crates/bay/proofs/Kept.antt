-- What was told is kept.
use Rattle.std.proofs.Common.{◌≡◌, ℕ, ◌≤◌, Bool, true, false, ◌||◌, nat_le, List, ◌++◌, append_assoc, length, sym, ap, ◌∙◌, subst, arith, rules}
use Rattle.std.specs.List.{list_any}
use Rattle.std.proofs.lemmas.Bool.{false≢true}
use Rattle.std.proofs.lemmas.List.Folds.{list_any-append}
use Rattle.std.proofs.lemmas.List.{append_cancel_left}
use Rattle.bay_book.specs.declared.ask.Ask.{Ask}
use Rattle.bay_book.specs.declared.ask.Heard.TheVariants.{Holds as HeardHolds}
use Rattle.bay_book.specs.declared.ask.Mark.TheVariants.{At}
use Rattle.bay_book.specs.declared.ask.Stage.TheVariants.{Holds}
use Rattle.bay_book.specs.Asks.{is_holding, is_written, no_ask, IsSoundAsk, IsSoundAt}
use Rattle.bay_book.specs.Books.{BookView}
use Rattle.bay_log.specs.declared.line.Line.{Line}
use Rattle.bay_log.specs.Lines.{log_text}
use Rattle.bay_log.specs.Alive.{alive, begins}
use Rattle.bay_log.specs.Laws.{CutLinesAreRead, HoldsAtTheCut}
use Rattle.bay.specs.Pages.{entry_of}
use Rattle.bay.specs.Bays.{BayView, IsKept, ToldIsKept}
use Rattle.bay.proofs.Members.{place_of}

or_none : (a b : Bool) → (a || b) ≡ false → b ≡ false
or_none false b h = h
or_none true b h = absurd (false≢true (sym h))

le_of : (a b : ℕ) → nat_le a b ≡ true → a ≤ b
le_of a b h = search (rules, h)

-- the line of one that was told outlives a crash
pub told_written : (x : BookView) (a : Ask) (position : ℕ) → IsSoundAsk x.durable a → a.stage ≡ Holds → a.heard ≡ HeardHolds → a.hold_line ≡ At position
    → position ≤ x.durable
told_written x a position s holds told mark =
    let at = subst (IsSoundAt x.durable a) holds s in
    le_of position x.durable (ap (is_written x.durable) (sym mark) ∙ at.1 told)

pub told_kept : (x : BayView) → IsKept x → CutLinesAreRead → HoldsAtTheCut → ToldIsKept x
told_kept x k cut behind file lost found is enough read a position h holds told mark =
    let p = place_of x.room.book.asks a no_ask h in
    let sound : IsSoundAsk x.room.book.durable a = subst (IsSoundAsk x.room.book.durable) p.2 (k.room.book.each p.0 no_ask p.1) in
    let written = told_written x.room.book a position sound holds told mark in
    let l = k.logged.held a position h (ap is_holding holds) mark in
    let lines = x.log.lines in let n = a.number in
    let short : length (log_text l.front) ≤ length file = (let so = l.so_far in omega (arith, so, written, enough)) in
    let first = cut.first lines file lost found k.standing.lines is read in
    let whole = cut.whole lines file lost found k.standing.lines is read l.front (l.rest, l.is) short in
    let all : l.front ++ l.rest ≡ l.front ++ (whole.0 ++ first.0) =
    sym l.is ∙ (first.1 ∙ (ap (λ (z : List Line). z ++ first.0) whole.1 ∙ append_assoc l.front whole.0 first.0)) in
    let rest : l.rest ≡ whole.0 ++ first.0 = append_cancel_left l.front l.rest (whole.0 ++ first.0) all in
    let none : list_any (begins n) first.0 ≡ false =
    or_none (list_any (begins n) whole.0) (list_any (begins n) first.0)
    (sym (list_any-append (begins n) whole.0 first.0) ∙ (ap (list_any (begins n)) (sym rest) ∙ l.once)) in
    behind.behind n (entry_of a) found.lines.items first.0 (ap (λ (z : List Line). alive z n) (sym first.1) ∙ l.holds) none
