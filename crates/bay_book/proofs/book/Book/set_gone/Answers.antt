use Rattle.std.proofs.Common.{◌≡◌, ◌<◌, length, List, set, refl, sym, ap, ◌∙◌, subst, arith}
use Rattle.bay_book.specs.declared.ask.Ask.{Ask}
use Rattle.bay_book.specs.Asks.{no_ask, ask_at, gone_since}
use Rattle.bay_book.specs.Books.{BookView, IsSound, with_asks, set_gone}
use Rattle.bay_book.specs.Counted.{AreCounted}
use Rattle.bay_book.specs.Settled.{AreWithin}
use Rattle.bay_book.proofs.Counted.{counted_set}
use Rattle.bay_book.proofs.Settled.{within_set}
use Rattle.bay_book.proofs.Sound.{sound_set, sound_gone}
use Rattle.bay_book.proofs.book.Book.set_gone.Goals as goal

pub invariant_of-self : goal.invariant_of-self
invariant_of-self c =
    let i = c.self.inside in let place = c.args.place in
    let x : BookView = record { asks = i.asks; next = i.next; granted = i.granted; durable = i.durable } in
    let inside : place < length x.asks = subst (λ (v : BookView). place < length v.asks) (sym c.self.view_is) c.requires in
    let a = ask_at x.asks place in
    let is : c.set.new.self ≡ set x.asks place (gone_since c.args.moment a) =
    c.set.ensures ∙ ap (λ (v : Ask). set x.asks place v) (c.gone_since-ask.ensures ∙ ap (gone_since c.args.moment) c.at.ensures) in (
      subst (λ (z : List Ask). IsSound (with_asks x z)) (sym is) (sound_set x place (gone_since c.args.moment a) inside refl refl (omega arith) (sound_gone x.durable c.args.moment a (c.self.invariant.0.each place no_ask inside)) c.self.invariant.0),
      subst (λ (z : List Ask). AreWithin z i.from i.to) (sym is) (within_set x.asks i.from i.to place (gone_since c.args.moment a) inside c.self.invariant.1 (λ e. e)),
      subst (λ (z : List Ask). AreCounted z i.taken i.used i.sure) (sym is)
          (counted_set x.asks place (gone_since c.args.moment a) i.taken i.used i.sure inside refl refl refl c.self.invariant.2),
    )

pub returns : goal.returns
returns c =
    let i = c.self.inside in let place = c.args.place in
    let x : BookView = record { asks = i.asks; next = i.next; granted = i.granted; durable = i.durable } in
    let is : c.set.new.self ≡ set x.asks place (gone_since c.args.moment (ask_at x.asks place)) =
    c.set.ensures ∙ ap (λ (v : Ask). set x.asks place v) (c.gone_since-ask.ensures ∙ ap (gone_since c.args.moment) c.at.ensures) in
    ap (with_asks x) is ∙ ap (λ (v : BookView). set_gone v place c.args.moment) c.self.view_is
