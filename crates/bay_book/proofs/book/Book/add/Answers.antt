use Rattle.std.proofs.Common.{◌≤◌, ◌+◌, List, [], ◌∷◌, ◌++◌, sym, ap, ◌∙◌, refl, subst}
use Rattle.bay_book.specs.declared.ask.Ask.{Ask}
use Rattle.bay_book.specs.Asks.{asker}
use Rattle.bay_book.specs.Books.{BookView, IsSound}
use Rattle.bay_book.specs.Counted.{AreCounted}
use Rattle.bay_book.specs.Settled.{AreWithin}
use Rattle.bay_book.proofs.Counted.{counted_push}
use Rattle.bay_book.proofs.Settled.{within_push}
use Rattle.bay_book.proofs.Sound.{sound_add}
use Rattle.bay_book.proofs.book.Book.add.Goals as goal

pub invariant_of-self-2 : goal.invariant_of-self-2
invariant_of-self-2 c =
    let i = c.self.inside in let r = c.args in
    let x : BookView = record { asks = i.asks; next = i.next; granted = i.granted; durable = i.durable } in
    let new : x.next ≤ r.number = subst (λ (v : BookView). v.next ≤ r.number) (sym c.self.view_is) c.requires.new in
    let is = c.in_ok-push.ensures.pushes ∙ ap (λ (a : Ask). x.asks ++ a ∷ []) c.asker.ensures in (
      subst (λ (asks : List Ask). IsSound (record { asks = asks; next = r.number + 1; granted = x.granted; durable = x.durable })) (sym is)
          (sound_add x r.number r.class r.owner r.deadline r.limit r.now new c.self.invariant.0),
      subst (λ (asks : List Ask). AreWithin asks i.from i.to) (sym is)
          (within_push x.asks i.from i.to (asker r.number r.class r.owner r.deadline r.limit r.now) c.self.invariant.1 refl),
      subst (λ (asks : List Ask). AreCounted asks i.taken i.used i.sure) (sym is)
          (counted_push x.asks (asker r.number r.class r.owner r.deadline r.limit r.now) i.taken i.used i.sure refl c.self.invariant.2),
    )
