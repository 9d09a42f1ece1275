-- What a log's type keeps, of an empty log and of one with one more entry.
use Rattle.std.proofs.Common.{◌≡◌, ℕ, arith, refl, sym, ◌∙◌, ap, subst, List, [], ◌∷◌, ◌++◌, length, map}
use Rattle.std.proofs.lemmas.List.{map_push, length-append}
use Rattle.std.proofs.lemmas.List.Elements.{All-push}
use Rattle.instrument_log.specs.declared.entry.Entry.{Entry}
use Rattle.instrument_log.specs.Entries.{IsWithinLimits, entry_bytes, entry_of}
use Rattle.instrument_log.specs.Dial.{turned, dial}
use Rattle.std.specs.Option.{option_map_or}
use Rattle.instrument_log.specs.Parts.{open_entry, if_open, unfinished_of}
use Rattle.instrument_log.specs.InstrumentLog.{LogView, IsLog, MayAppend, with_entry}
use Rattle.instrument_log.specs.Packed.{entries_of, IsKept}
use Rattle.instrument_log.proofs.EntryLemmas.{entry_of-entry_bytes}
use Rattle.instrument_log.proofs.WholeLemmas.{IsPartsButEnd-empty, IsPartsButEnd-push}
use Rattle.instrument_log.proofs.PartLemmas.{dial-push, HasDialValues-push, unfinished_of-push, unfinished_of-push-le}

pub IsLog-push : (log : LogView) (entry : Entry) → IsLog log → MayAppend log entry → IsWithinLimits entry
    → entry.value ≡ turned entry.verb (dial log.entries) → IsLog (with_entry log entry)
IsLog-push log entry kept may within value = record {
  whole_but_end = IsPartsButEnd-push log.entries entry kept.whole_but_end may.follows within.place_to;
  on_dial = HasDialValues-push log.entries entry kept.on_dial value;
  within_limits = All-push IsWithinLimits log.entries entry kept.within_limits within;
  fits_room = omega (arith, length-append log.entries (entry ∷ []), may.has_room);
}

pub entries_of-push : (packed : List (List ℕ)) (entry : Entry) → IsWithinLimits entry
    → entries_of (packed ++ entry_bytes entry ∷ []) ≡ entries_of packed ++ entry ∷ []
entries_of-push packed entry within = map_push entry_of packed (entry_bytes entry) ∙ ap (λ x. entries_of packed ++ x ∷ []) (entry_of-entry_bytes entry within)

pub IsKept-push : (packed : List (List ℕ)) (room unfinished value : ℕ) (entry : Entry) → IsKept packed room unfinished value
    → MayAppend (record { entries = entries_of packed; room = room }) entry → IsWithinLimits entry → entry.value ≡ turned entry.verb (dial (entries_of packed))
    → IsKept (packed ++ entry_bytes entry ∷ []) room (option_map_or (λ last. last.place) (if_open entry) 0) entry.value
IsKept-push packed room unfinished value entry kept may within dialled =
    let entries = entries_of packed in
    let longer = sym (entries_of-push packed entry within) in
    record {
      is_log = subst (λ xs. IsLog (record { entries = xs; room = room })) longer (IsLog-push _ entry kept.is_log may within dialled);
      packed_is = ap (λ xs. xs ++ entry_bytes entry ∷ []) kept.packed_is ∙ sym (map_push entry_bytes entries entry) ∙ ap (map entry_bytes) longer;
      unfinished_is = sym (unfinished_of-push entries entry) ∙ ap unfinished_of longer;
      counted =
          omega (
            arith,
            length-append packed (entry_bytes entry ∷ []),
            ap unfinished_of longer,
            unfinished_of-push-le entries entry (length packed) may.follows kept.counted,
          );
      value_is = dialled ∙ sym (dial-push entries entry) ∙ ap dial longer;
      value_to = within.value_to;
    }

pub IsKept-empty : (room : ℕ) → IsKept [] room 0 0
unfolding open_entry dial
IsKept-empty room = record {
  is_log = record {
    whole_but_end = IsPartsButEnd-empty;
    on_dial = λ k entry got. cc;
    within_limits = λ k d inside. absurd (omega arith);
    fits_room = omega arith;
  };
  packed_is = refl;
  unfinished_is = refl;
  counted = omega arith;
  value_is = refl;
  value_to = omega arith;
}
