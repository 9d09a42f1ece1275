use Rattle.std.proofs.Common.{nat_eq, ◌∙◌, ap, sym, subst}
use Rattle.std.proofs.lemmas.Bool.{false≢true}
use Rattle.std.proofs.lemmas.Cmp.{nat_list_eq_equiv}
use Rattle.std.specs.Cmp.Lexicographic.{pointwise}
use Rattle.instrument_log.specs.Entries.{IsWithinLimits, entry_bytes, entry_of}
use Rattle.instrument_log.proofs.EntryLemmas.{entry_of-entry_bytes}
use Rattle.instrument_log.proofs.packed.unpack_entry.Goals as goal
use Rattle.instrument_log.proofs.packed.unpack_entry.Goals.{else-is_within_limits-via-then-is_within_limits+else-eq, else-is_within_limits-via-else-is_within_limits}

pub returns-else-is_within_limits-clause-refused :
    goal.returns-else-is_within_limits-clause-refused
returns-else-is_within_limits-clause-refused c = λ entry within packed.
    let spelled = sym c.spelled_by-entry.ensures in
    let same = sym (entry_of-entry_bytes entry within) ∙ ap entry_of packed ∙ spelled in
    elim c.else-is_within_limits.branch [
      | else-is_within_limits-via-then-is_within_limits+else-eq w ↦ false≢true (w.if-eq.ensures
          ∙ (ap (λ bytes. pointwise nat_eq bytes c.args.bytes) (w.pack_entry.ensures ∙ ap entry_bytes (sym same) ∙ packed)
          ∙ nat_list_eq_equiv.refl c.args.bytes))
      | else-is_within_limits-via-else-is_within_limits w ↦ false≢true (w.if-is_within_limits.ensures.1 (subst IsWithinLimits same within))
    ]
