use Rattle.std.proofs.Common.{◌∙◌, List, ap, sym, subst}
use Rattle.bay_book.specs.declared.ask.Ask.{Ask}
use Rattle.bay_book.specs.Books.{IsSound, purge}
use Rattle.bay_book.specs.Counted.{AreCounted}
use Rattle.bay_book.proofs.Counted.{counted_purge}
use Rattle.bay_book.proofs.Sound.{sound_purge}
use Rattle.bay_book.proofs.book.Book.purge.Goals as goal

pub invariant_of-self : goal.invariant_of-self
invariant_of-self c =
    let x = c.self.inside in
    let kept = c.purge-from.ensures.items in (
      subst (λ (z : List Ask). IsSound (record { asks = z; next = x.next; granted = x.granted; durable = x.durable })) (sym kept)
          (sound_purge (record { asks = x.asks; next = x.next; granted = x.granted; durable = x.durable }) c.self.invariant.0),
      c.purge-from.ensures.within,
      subst (λ (z : List Ask). AreCounted z x.taken x.used x.sure) (sym kept) (counted_purge x.asks x.taken x.used x.sure c.self.invariant.2),
    )

pub returns : goal.returns
returns c =
    let x = c.self.inside in
    ap (λ (z : List Ask). record { asks = z; next = x.next; granted = x.granted; durable = x.durable }) c.purge-from.ensures.items ∙ ap purge c.self.view_is
