use Rattle.std.proofs.Common.{ℕ, List, ◌++◌, ◌∷◌, [], sym, ap, subst, ◌∙◌, arith}
use Rattle.instrument_log.specs.Dial.{turned, dial}
use Rattle.instrument_log.specs.InstrumentLog.{LogView, MayAppend, with_entry}
use Rattle.instrument_log.specs.Packed.{entries_of}
use Rattle.instrument_log.proofs.LogLemmas.{entries_of-push, IsKept-push}
use Rattle.instrument_log.proofs.log.InstrumentLog.add.Goals as goal

pub invariant_of-self : goal.invariant_of-self
invariant_of-self g c =
    let entry = c.args.entry in
    let here = sym c.self.view_is in (
      rw (c.push_reserved.ensures.items, c.pack_entry.ensures, c.unfinished_by-self-inside.ensures) (IsKept-push _
          _ _ _ entry c.self.invariant.0 (subst (λ log. MayAppend log entry) here c.requires.may) c.requires.within_limits (c.requires.on_dial
          ∙ ap (λ (log : LogView). turned entry.verb (dial log.entries)) here)),
      omega (arith, c.push_reserved.ensures.capacity, c.self.invariant.1),
    )

pub returns : goal.returns
returns g c =
    let entry = c.args.entry in
    let items = c.self.inside.packed.items in
    let view : List (List ℕ) → LogView = λ packed. record { entries = entries_of packed; room = c.self.inside.room } in
    ap view (c.push_reserved.ensures.items ∙ ap (λ bytes. items ++ bytes ∷ []) c.pack_entry.ensures)
    ∙ ap (λ entries. record (view items) { entries = entries }) (entries_of-push items entry c.requires.within_limits)
    ∙ ap (λ log. with_entry log entry) c.self.view_is
