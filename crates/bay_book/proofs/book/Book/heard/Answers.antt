use Rattle.std.proofs.Common.{◌≡◌, ◌<◌, length, List, set, Some, refl, sym, ap, ◌∙◌, subst, arith}
use Rattle.bay_book.specs.declared.ask.Ask.{Ask}
use Rattle.bay_book.specs.Asks.{no_ask, ask_at, hearing}
use Rattle.bay_book.specs.Telling.{to_tell}
use Rattle.bay_book.specs.Books.{BookView, IsSound, with_asks, heard}
use Rattle.bay_book.specs.Counted.{AreCounted}
use Rattle.bay_book.specs.Settled.{AreWithin}
use Rattle.bay_book.proofs.Counted.{counted_set}
use Rattle.bay_book.proofs.Settled.{within_set, heard_open}
use Rattle.bay_book.proofs.Sound.{sound_set, sound_hearing}
use Rattle.bay_book.proofs.book.Book.heard.Goals as goal

pub invariant_of-self : goal.invariant_of-self
invariant_of-self c =
    let i = c.self.inside in let place = c.args.place in
    let x : BookView = record { asks = i.asks; next = i.next; granted = i.granted; durable = i.durable } in
    let inside : place < length x.asks = subst (λ (v : BookView). place < length v.asks) (sym c.self.view_is) c.requires.inside in
    let a = ask_at x.asks place in
    let due : to_tell x.durable a ≡ Some c.args.what =
    subst (λ (v : BookView). to_tell v.durable (ask_at v.asks place) ≡ Some c.args.what) (sym c.self.view_is) c.requires.due in
    let is : c.set.new.self ≡ set x.asks place (hearing c.args.what a) =
    c.set.ensures ∙ ap (λ (v : Ask). set x.asks place v) (c.hearing-ask.ensures ∙ ap (hearing c.args.what) c.at.ensures) in (
      subst (λ (z : List Ask). IsSound (with_asks x z)) (sym is) (sound_set x place (hearing c.args.what a) inside refl refl (omega arith) (sound_hearing x.durable a c.args.what due (c.self.invariant.0.each place no_ask inside)) c.self.invariant.0),
      subst (λ (z : List Ask). AreWithin z i.from i.to) (sym is) (within_set x.asks i.from i.to place (hearing c.args.what a) inside c.self.invariant.1 (heard_open a.stage a.heard c.args.what)),
      subst (λ (z : List Ask). AreCounted z i.taken i.used i.sure) (sym is)
          (counted_set x.asks place (hearing c.args.what a) i.taken i.used i.sure inside refl refl refl c.self.invariant.2),
    )

pub returns : goal.returns
returns c =
    let i = c.self.inside in let place = c.args.place in
    let x : BookView = record { asks = i.asks; next = i.next; granted = i.granted; durable = i.durable } in
    let is : c.set.new.self ≡ set x.asks place (hearing c.args.what (ask_at x.asks place)) =
    c.set.ensures ∙ ap (λ (v : Ask). set x.asks place v) (c.hearing-ask.ensures ∙ ap (hearing c.args.what) c.at.ensures) in
    ap (with_asks x) is ∙ ap (λ (v : BookView). heard v place c.args.what) c.self.view_is
