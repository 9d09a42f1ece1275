use Rattle.std.proofs.Common.{◌≡◌, ℕ, ◌+◌, ◌<◌, max, slice_index_or, length, length-append, arith, List, [], ◌∷◌, ◌++◌, sym, ap, ◌∙◌, refl, subst}
use Rattle.bay_book.specs.declared.ask.Ask.{Ask}
use Rattle.bay_book.specs.Asks.{is_holding, restored}
use Rattle.bay_book.specs.Books.{BookView, IsSound}
use Rattle.bay_book.specs.Restoring.{MayBeRestored}
use Rattle.bay_book.specs.Counted.{one_of, AreCounted}
use Rattle.bay_book.specs.Settled.{AreWithin}
use Rattle.bay_book.proofs.Counted.{counted_restore, room_push}
use Rattle.bay_book.proofs.Settled.{within_push}
use Rattle.bay_book.proofs.Sound.{sound_restore}
use Rattle.bay_book.proofs.book.Book.restore.Goals as goal

pub invariant_of-self-2 : goal.invariant_of-self-2
invariant_of-self-2 c =
    let i = c.self.inside in let r = c.args in
    let x : BookView = record { asks = i.asks; next = i.next; granted = i.granted; durable = i.durable } in
    let now : List Ask → ℕ → ℕ → BookView = λ asks n g. record { asks = asks; next = n; granted = g; durable = x.durable } in
    let next = max (max x.next (r.number + 1)) r.token in
    let may = subst (λ (asks : List Ask). MayBeRestored asks r.number r.token) c.all.ensures (c.may_be_restored.ensures.may c.if-not-may_be_restored.false) in
    let is = c.in-Ok.ensures.pushes ∙ ap (λ (a : Ask). x.asks ++ a ∷ []) c.restored-ask.ensures in
    let a : Ask = restored r.number r.class r.owner r.limit r.needs r.asked r.since r.gone r.token x.durable in
    let u = c.with_needs-used in
    let more : (k : ℕ) → k < 32 → slice_index_or c.count_up.new.taken k 0 ≡ slice_index_or i.taken k 0 + one_of k a =
    subst (λ (v : Ask). (k : ℕ) → k < 32 → slice_index_or c.count_up.new.taken k 0 ≡ slice_index_or i.taken k 0 + one_of k v) c.restored-ask.ensures
    c.count_up.ensures.each in
    let is_next : c.max-self-inside.result ≡ next = c.max-self-inside.ensures ∙ ap (λ (n : ℕ). max n r.token) c.max.ensures in (
      subst (λ (asks : List Ask). IsSound (now asks c.max-self-inside.result c.max-self-inside-2.result)) (sym is)
          (subst (λ (n : ℕ). IsSound (now (x.asks ++ restored r.number r.class r.owner r.limit r.needs r.asked r.since r.gone r.token x.durable ∷ []) n
          c.max-self-inside-2.result)) (sym is_next)
          (subst (λ (g : ℕ). IsSound (now (x.asks ++ restored r.number r.class r.owner r.limit r.needs r.asked r.since r.gone r.token x.durable ∷ []) next g))
          (sym c.max-self-inside-2.ensures)
          (sound_restore x r.number r.class r.owner r.limit r.needs r.asked r.since r.gone r.token may c.self.invariant.0))),
      subst (λ (asks : List Ask). AreWithin asks i.from i.to) (sym is) (within_push x.asks i.from i.to a c.self.invariant.1 refl),
      subst (λ (asks : List Ask). AreCounted asks c.count_up.new.taken u.result.0 u.result.1) (sym is)
          (counted_restore x.asks a i.taken c.count_up.new.taken i.used u.result.0 i.sure u.result.1 refl more c.count_up.ensures.long u.ensures.was u.ensures.free
          u.ensures.all c.self.invariant.2),
    )

pub count_up-requires-clause-long : goal.count_up-requires-clause-long
count_up-requires-clause-long c = c.self.invariant.2.long

pub count_up-requires-clause-holds : goal.count_up-requires-clause-holds
count_up-requires-clause-holds c = ap (λ (v : Ask). is_holding v.stage) c.restored-ask.ensures

pub count_up-requires-clause-room : goal.count_up-requires-clause-room
count_up-requires-clause-room c = λ few.
    let i = c.self.inside in
    let room = room_push i.asks c.restored-ask.result.class i.taken i.used i.sure c.self.invariant.2 few in
    omega (arith, room, c.len.ensures, ap (λ (z : List Ask). length z) c.in-Ok.ensures.pushes, length-append i.asks (c.restored-ask.result ∷ []))
