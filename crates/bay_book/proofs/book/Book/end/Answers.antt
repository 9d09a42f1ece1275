use Rattle.std.proofs.Common.{◌≡◌, ◌<◌, ◌≤◌, ◌+◌, ℕ, List, true, length, set, slice_index_or, refl, sym, ap, ◌∙◌, subst, arith}
use Rattle.bay_book.specs.declared.ask.Ask.{Ask}
use Rattle.bay_book.specs.Asks.{ask_at, is_holding, over}
use Rattle.bay_book.specs.Books.{BookView, IsSound, with_asks, end}
use Rattle.bay_book.specs.Settled.{AreWithin}
use Rattle.bay_book.specs.Counted.{own, one_of, AreCounted}
use Rattle.bay_book.proofs.Counted.{counted_end, own_in_sum, one_in_sum}
use Rattle.bay_book.proofs.Settled.{within_more}
use Rattle.bay_book.proofs.Sound.{sound_set, sound_over}
use Rattle.bay_book.proofs.book.Book.end.Goals as goal

pub without_own-used-requires : goal.without_own-used-requires
without_own-used-requires c = λ sure.
    let i = c.self.inside in let place = c.args.place in
    let inside : place < length i.asks = subst (λ (v : BookView). place < length v.asks) (sym c.self.view_is) c.requires.inside in
    subst (λ (v : Ask). own v ≤ i.used) (sym c.at-ask.ensures) (own_in_sum i.asks place i.taken i.used i.sure inside c.self.invariant.2 sure)

pub count_down-requires-clause-long : goal.count_down-requires-clause-long
count_down-requires-clause-long c = c.self.invariant.2.long

pub count_down-requires-clause-some : goal.count_down-requires-clause-some
count_down-requires-clause-some c =
    let i = c.self.inside in let place = c.args.place in
    let inside : place < length i.asks = subst (λ (v : BookView). place < length v.asks) (sym c.self.view_is) c.requires.inside in
    subst (λ (v : Ask). is_holding v.stage ≡ true → v.class < 32 → 0 < slice_index_or i.taken v.class 0) (sym c.at-ask.ensures)
    (one_in_sum i.asks place i.taken i.used i.sure inside c.self.invariant.2)

pub invariant_of-self : goal.invariant_of-self
invariant_of-self c =
    let i = c.self.inside in let r = c.args in let place = c.args.place in
    let x : BookView = record { asks = i.asks; next = i.next; granted = i.granted; durable = i.durable } in
    let inside : place < length x.asks = subst (λ (v : BookView). place < length v.asks) (sym c.self.view_is) c.requires.inside in
    let b : Ask = ask_at x.asks place in
    let a : Ask = over r.how r.now b in
    let is : c.over.result ≡ a = c.over.ensures ∙ ap (over r.how r.now) c.at-ask.ensures in
    let set_is : c.set.new.self ≡ set x.asks place a = c.set.ensures ∙ ap (λ (v : Ask). set x.asks place v) is in
    let w = c.with_place-from in
    let less : (k : ℕ) → k < 32 → slice_index_or c.count_down.new.taken k 0 + one_of k b ≡ slice_index_or i.taken k 0 =
    subst (λ (v : Ask). (k : ℕ) → k < 32 → slice_index_or c.count_down.new.taken k 0 + one_of k v ≡ slice_index_or i.taken k 0) c.at-ask.ensures c.count_down.ensures.each in
    let rest : i.sure ≡ true → c.without_own-used.result + own b ≡ i.used =
    subst (λ (v : Ask). i.sure ≡ true → c.without_own-used.result + own v ≡ i.used) c.at-ask.ensures c.without_own-used.ensures in (
      subst (λ (z : List Ask). IsSound (with_asks x z)) (sym set_is)
          (sound_set x place a inside refl refl (omega arith) (sound_over x.durable r.how r.now b) c.self.invariant.0),
      subst (λ (z : List Ask). AreWithin z w.result.0 w.result.1) (sym set_is)
          (within_more x.asks i.from i.to place w.result.0 w.result.1 a c.self.invariant.1 w.ensures.others w.ensures.here (omega (arith, w.ensures.few, c.len.ensures))),
      subst (λ (z : List Ask). AreCounted z c.count_down.new.taken c.without_own-used.result i.sure) (sym set_is)
          (counted_end x.asks place a i.taken c.count_down.new.taken i.used c.without_own-used.result i.sure inside refl less c.count_down.ensures.long rest c.self.invariant.2),
    )

pub returns : goal.returns
returns c =
    let i = c.self.inside in let r = c.args in let place = c.args.place in
    let x : BookView = record { asks = i.asks; next = i.next; granted = i.granted; durable = i.durable } in
    let is : c.set.new.self ≡ set x.asks place (over r.how r.now (ask_at x.asks place)) =
    c.set.ensures ∙ ap (λ (v : Ask). set x.asks place v) (c.over.ensures ∙ ap (over r.how r.now) c.at-ask.ensures) in
    ap (with_asks x) is ∙ ap (λ (v : BookView). end v place r.how r.now) c.self.view_is
