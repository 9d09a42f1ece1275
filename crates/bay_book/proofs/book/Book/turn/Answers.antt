use Rattle.std.proofs.Common.{◌∙◌, ℕ, List, map, ap, sym, subst}
use Rattle.bay_book.specs.declared.ask.Ask.{Ask}
use Rattle.bay_book.specs.Asks.{turned}
use Rattle.bay_book.specs.Books.{BookView, IsSound, turn}
use Rattle.bay_book.specs.Counted.{AreCounted}
use Rattle.bay_book.specs.Settled.{AreWithin}
use Rattle.bay_book.proofs.Counted.{counted_turn}
use Rattle.bay_book.proofs.Settled.{within_turn}
use Rattle.bay_book.proofs.Sound.{sound_turn}
use Rattle.bay_book.proofs.book.Book.turn.Goals as goal

pub invariant_of-self : goal.invariant_of-self
invariant_of-self c =
    let x = c.self.inside in let at = c.args.at in
    let same = c.turn_all.ensures in (
      subst (λ (z : List Ask). IsSound (record { asks = z; next = x.next; granted = x.granted; durable = c.max-self-inside.result })) (sym same)
          (subst (λ n. IsSound (record { asks = map (turned at) x.asks; next = x.next; granted = x.granted; durable = n })) (sym c.max-self-inside.ensures)
          (sound_turn (record { asks = x.asks; next = x.next; granted = x.granted; durable = x.durable }) at c.self.invariant.0)),
      subst (λ (z : List Ask). AreWithin z x.from x.to) (sym same) (within_turn at x.asks x.from x.to c.self.invariant.1),
      subst (λ (z : List Ask). AreCounted z x.taken x.used x.sure) (sym same) (counted_turn at x.asks x.taken x.used x.sure c.self.invariant.2),
    )

pub returns : goal.returns
returns c =
    let x = c.self.inside in
    ap (λ (z : List Ask). record { asks = z; next = x.next; granted = x.granted; durable = c.max-self-inside.result }) c.turn_all.ensures
    ∙ (ap (λ (n : ℕ). record { asks = map (turned c.args.at) x.asks; next = x.next; granted = x.granted; durable = n }) c.max-self-inside.ensures
    ∙ ap (λ (v : BookView). turn v c.args.at) c.self.view_is)
