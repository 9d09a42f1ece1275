use Rattle.std.proofs.Common.{◌≡◌, ◌<◌, ◌+◌, ℕ, List, true, length, set, slice_index_or, refl, sym, ap, ◌∙◌, subst, arith}
use Rattle.bay_book.specs.declared.ask.Ask.{Ask}
use Rattle.bay_book.specs.declared.ask.Stage.TheVariants.{Waits}
use Rattle.bay_book.specs.Asks.{ask_at, is_holding, holding}
use Rattle.bay_book.specs.Books.{BookView, IsSound, hold}
use Rattle.bay_book.specs.Settled.{AreWithin}
use Rattle.bay_book.specs.Counted.{one_of, AreCounted}
use Rattle.bay_book.proofs.Counted.{counted_hold, room_hold}
use Rattle.bay_book.proofs.Settled.{within_more}
use Rattle.bay_book.proofs.Sound.{sound_hold}
use Rattle.bay_book.proofs.book.Book.hold.Goals as goal

pub count_up-requires-clause-long : goal.count_up-requires-clause-long
count_up-requires-clause-long c = c.self.invariant.2.long

pub count_up-requires-clause-holds : goal.count_up-requires-clause-holds
count_up-requires-clause-holds c = ap (λ (v : Ask). is_holding v.stage) c.holding-ask.ensures

pub count_up-requires-clause-room : goal.count_up-requires-clause-room
count_up-requires-clause-room c = λ few.
    let i = c.self.inside in let place = c.args.place in
    let inside : place < length i.asks = subst (λ (v : BookView). place < length v.asks) (sym c.self.view_is) c.requires.inside in
    let waits : (ask_at i.asks place).stage ≡ Waits = subst (λ (v : BookView). (ask_at v.asks place).stage ≡ Waits) (sym c.self.view_is) c.requires.waits in
    let holds : is_holding c.holding-ask.result.stage ≡ true = ap (λ (v : Ask). is_holding v.stage) c.holding-ask.ensures in
    let room = room_hold i.asks place c.holding-ask.result i.taken i.used i.sure inside (ap is_holding waits) holds c.self.invariant.2 few in
    omega (arith, room, c.len-2.ensures)

pub invariant_of-self : goal.invariant_of-self
invariant_of-self c =
    let i = c.self.inside in let r = c.args in let place = c.args.place in
    let x : BookView = record { asks = i.asks; next = i.next; granted = i.granted; durable = i.durable } in
    let inside : place < length x.asks = subst (λ (v : BookView). place < length v.asks) (sym c.self.view_is) c.requires.inside in
    let waits : (ask_at x.asks place).stage ≡ Waits = subst (λ (v : BookView). (ask_at v.asks place).stage ≡ Waits) (sym c.self.view_is) c.requires.waits in
    let a : Ask = holding r.needs r.now r.keeps (i.granted + 1) (ask_at x.asks place) in
    let is : c.holding-ask.result ≡ a = c.holding-ask.ensures ∙ ap (holding r.needs r.now r.keeps (i.granted + 1)) c.at.ensures in
    let set_is : c.set.new.self ≡ set x.asks place a = c.set.ensures ∙ ap (λ (v : Ask). set x.asks place v) is in
    let w = c.with_place-from in let u = c.with_needs-used in
    let more : (k : ℕ) → k < 32 → slice_index_or c.count_up.new.taken k 0 ≡ slice_index_or i.taken k 0 + one_of k a =
    subst (λ (v : Ask). (k : ℕ) → k < 32 → slice_index_or c.count_up.new.taken k 0 ≡ slice_index_or i.taken k 0 + one_of k v) is c.count_up.ensures.each in (
      subst (λ (z : List Ask). IsSound (record { asks = z; next = i.next; granted = i.granted + 1; durable = i.durable })) (sym set_is)
          (sound_hold x place r.needs r.now r.keeps inside waits c.self.invariant.0),
      subst (λ (z : List Ask). AreWithin z w.result.0 w.result.1) (sym set_is)
          (within_more x.asks i.from i.to place w.result.0 w.result.1 a c.self.invariant.1 w.ensures.others w.ensures.here (omega (arith, w.ensures.few, c.len.ensures))),
      subst (λ (z : List Ask). AreCounted z c.count_up.new.taken u.result.0 u.result.1) (sym set_is)
          (counted_hold x.asks place a i.taken c.count_up.new.taken i.used u.result.0 i.sure u.result.1 inside (ap is_holding waits) refl more c.count_up.ensures.long
          u.ensures.was u.ensures.free u.ensures.all c.self.invariant.2),
    )

pub returns : goal.returns
returns c =
    let i = c.self.inside in let r = c.args in let place = c.args.place in
    let x : BookView = record { asks = i.asks; next = i.next; granted = i.granted; durable = i.durable } in
    let is : c.set.new.self ≡ set x.asks place (holding r.needs r.now r.keeps (i.granted + 1) (ask_at x.asks place)) =
    c.set.ensures ∙ ap (λ (v : Ask). set x.asks place v) (c.holding-ask.ensures ∙ ap (holding r.needs r.now r.keeps (i.granted + 1)) c.at.ensures) in
    ap (λ (z : List Ask). record { asks = z; next = i.next; granted = i.granted + 1; durable = i.durable }) is
    ∙ ap (λ (v : BookView). hold v place r.needs r.now r.keeps) c.self.view_is
