-- One after another is let in.
use Rattle.std.proofs.Common.{◌≡◌, ℕ, suc, Bool, List, sym, ap, ◌∙◌, subst}
use Rattle.bay_line.specs.declared.going_in.Seated.{Seated}
use Rattle.bay_line.specs.Wishes.{wish_at, no_wish}
use Rattle.bay_line.specs.Lines.{LineView, IsNext, gone}
use Rattle.bay_book.specs.declared.ask.Ask.{Ask}
use Rattle.bay_book.specs.Asks.{no_ask}
use Rattle.bay_book.specs.Finding.{IsInUse}
use Rattle.bay_book.specs.Books.{BookView, IsSound}
use Rattle.bay.specs.declared.classes.Class.{Class}
use Rattle.bay.specs.Cores.{Core, core, IsTied, AreFree, LetsIn}
use Rattle.bay.specs.Following.{WaitsSomewhere, Holds, LetsAllIn}
use Rattle.bay.proofs.Members.{has_at, place_of}
use Rattle.bay.proofs.Tied.{let_in_tied}

-- whoever is next waits by the book
pub next_waits : (classes : List Class) (x : Core) (used free in_line : ℕ) (it : Seated) → IsNext x.line.most used free x.line.wishes in_line it
    → IsTied classes x → WaitsSomewhere x.book.asks it.ask
next_waits classes x used free in_line it next t =
    let b = t.by_book (wish_at x.line.wishes in_line) (has_at x.line.wishes in_line no_wish next.first.0) in
    let p = place_of x.book.asks b.0 no_ask b.1 in (
      p.0,
      record {
        inside = p.1;
        its = ap (λ (a : Ask). a.number) p.2 ∙ (b.3.number ∙ sym next.ask);
        waits = ap (λ (a : Ask). a.stage) p.2 ∙ b.2;
      },
    )

-- it was let in, and all is as it has to be
pub record StepsIn (classes : List Class) (now : ℕ) (keeps : Bool) (old new : Core) : Type 0 where
  pub lets_in : LetsIn classes now keeps old new
  pub tied : IsTied classes new

pub step_in : (classes : List Class) (now : ℕ) (keeps : Bool) (line : LineView) (book : BookView) (used free in_line : ℕ) (it : Seated) (line' : LineView)
    (book' : BookView) → IsSound book → IsInUse book.asks used → AreFree classes book.asks free → IsNext line.most used free line.wishes in_line it
    → Holds it.ask it.needs now keeps book book' → line' ≡ gone line it free → IsTied classes (core line book)
    → StepsIn classes now keeps (core line book) (core line' book')
step_in classes now keeps line book used free in_line it line' book' s are_used are_free next h gone_is t =
    let at = h.1 in
    record {
      lets_in = record {
        used = used;
        free = free;
        are_used = are_used;
        are_free = are_free;
        in_line = in_line;
        it = it;
        next = next;
        place = h.0;
        inside = at.inside;
        number = at.its;
        waits = at.waits;
        line = gone_is;
        book = h.2;
      };
      tied = subst (λ (l : LineView). IsTied classes (core l book')) (sym gone_is)
          (subst (λ (b : BookView). IsTied classes (core (gone line it free) b)) (sym h.2)
          (let_in_tied classes (core line book) now keeps used free in_line it h.0 s are_used are_free next at.inside at.its at.waits t));
    }

pub one_more_in : (classes : List Class) (now : ℕ) (keeps : Bool) (old mid new : Core) → LetsAllIn classes now keeps old mid → LetsIn classes now keeps mid new
    → LetsAllIn classes now keeps old new
one_more_in classes now keeps old mid new all one = (suc all.0, (mid, all.1, one))
