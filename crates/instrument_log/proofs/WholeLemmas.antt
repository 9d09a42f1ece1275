-- A log whose entries each follow those before them is whole but for its end.
use Rattle.std.proofs.Common.{◌≡◌, ◌+◌, ◌≤◌, inl, inr, arith, refl, sym, ◌∙◌, ap, subst, List, [], ◌∷◌, ◌++◌, Bool, true, false, nat_lt, Option, Some, None, if◌then◌else◌}
use Rattle.std.proofs.lemmas.List.{length-append, append_assoc, append-nil}
use Rattle.std.proofs.lemmas.Bool.{ltb-false}
use Rattle.std.proofs.lemmas.List.Elements.{All-push}
use Rattle.std.proofs.lemmas.List.Concat.{flat_map-append}
use Rattle.std.specs.List.{flat_map, All}
use Rattle.std.specs.Option.{MatchOption}
use Rattle.instrument_log.specs.declared.entry.Entry.{Entry}
use Rattle.instrument_log.specs.Parts.{open_entry, IsNextPlace, Follows, IsAtPlace, IsPartUpTo, IsPart, IsPartsButEnd}
use Rattle.instrument_log.proofs.PartLemmas.{slice_get-push, open_entry-push}

-- a part that goes on by its next place
IsPartUpTo-push : (before entry : Entry) (rest : List Entry) → IsNextPlace before entry → IsPartUpTo before rest → IsPartUpTo entry (rest ++ entry ∷ [])
IsPartUpTo-push before entry rest next part = record {
  up_to = omega (arith, length-append rest (entry ∷ []), part.up_to, next.next);
  in_order = λ k other got. elim (slice_get-push rest entry k other got) [
    | inl w ↦ let at = part.in_order k other w.1 in record {
      same_job = at.same_job ∙ sym next.same_job;
      same_session = at.same_session ∙ sym next.same_session;
      same_length = at.same_length ∙ sym next.same_length;
      at_place = at.at_place;
    }
    | inr w ↦ subst (λ x. IsAtPlace entry (k + 1) x) w.1 (record {
      same_job = refl;
      same_session = refl;
      same_length = refl;
      at_place = omega (arith, w.0, part.up_to, next.next);
    })
  ];
}

-- a part that begins
IsPartUpTo-first : (entry : Entry) → entry.place ≡ 1 → IsPartUpTo entry ([] ++ entry ∷ [])
IsPartUpTo-first entry first = record {
  up_to = sym first;
  in_order = λ k other got. elim (slice_get-push [] entry k other got) [
    | inl w ↦ absurd (omega arith)
    | inr w ↦ subst (λ x. IsAtPlace entry (k + 1) x) w.1 (record {
      same_job = refl;
      same_session = refl;
      same_length = refl;
      at_place = omega (arith, w.0, first);
    })
  ];
}

-- the part that the entry is of, with the rest of the log before it
IsPartUpTo-follows : (o : Option Entry) (entry : Entry) (rest : List Entry) → MatchOption o (entry.place ≡ 1) (λ before. IsNextPlace before entry)
    → MatchOption o (rest ≡ []) (λ last. IsPartUpTo last rest) → IsPartUpTo entry (rest ++ entry ∷ [])
IsPartUpTo-follows None entry rest first none = subst (λ xs. IsPartUpTo entry (xs ++ entry ∷ [])) (sym none) (IsPartUpTo-first entry first)
IsPartUpTo-follows (Some before) entry rest next part = IsPartUpTo-push before entry rest next part

-- the last part is unfinished, or finished now
IsPartsButEnd-ending : (entries : List Entry) (entry : Entry) (parts : List (List Entry)) (rest : List Entry)
    → entries ≡ flat_map (λ part. part) parts ++ rest → All IsPart parts → IsPartUpTo entry (rest ++ entry ∷ []) → entry.place ≤ entry.length
    → (b : Bool) → nat_lt entry.place entry.length ≡ b
    → open_entry (entries ++ entry ∷ []) ≡ (if b then Some entry else None) → IsPartsButEnd (entries ++ entry ∷ [])
IsPartsButEnd-ending entries entry parts rest joined whole part within true open_now is = record {
  parts = parts;
  rest = rest ++ entry ∷ [];
  joined = ap (λ xs. xs ++ entry ∷ []) joined ∙ append_assoc _ rest (entry ∷ []);
  whole = whole;
  ending = rw is part;
}
IsPartsButEnd-ending entries entry parts rest joined whole part within false closed is = record {
  parts = parts ++ (rest ++ entry ∷ []) ∷ [];
  rest = [];
  joined =
      let end = append_assoc (flat_map (λ xs. xs) parts) rest (entry ∷ []) in
      let added = flat_map-append (λ (xs : List Entry). xs) parts ((rest ++ entry ∷ []) ∷ []) in
      ap (λ xs. xs ++ entry ∷ []) joined ∙ end
      ∙ ap (λ xs. flat_map (λ ys. ys) parts ++ xs) (sym (append-nil (rest ++ entry ∷ []))) ∙ sym added ∙ sym (append-nil _);
  whole =
      All-push IsPart parts (rest ++ entry ∷ [])
      whole (record {
        last = entry;
        not_empty = omega (arith, length-append rest (entry ∷ []), part.up_to);
        ends = omega (arith, ltb-false entry.place entry.length closed);
        up_to_last = part;
      });
  ending = rw is refl;
}

pub IsPartsButEnd-push : (entries : List Entry) (entry : Entry) → IsPartsButEnd entries
    → Follows entries entry → entry.place ≤ entry.length → IsPartsButEnd (entries ++ entry ∷ [])
IsPartsButEnd-push entries entry log follows within =
    let part = IsPartUpTo-follows (open_entry entries) entry log.rest follows log.ending in
    IsPartsButEnd-ending entries entry log.parts log.rest log.joined log.whole part within _ refl (open_entry-push entries entry)

pub IsPartsButEnd-empty : IsPartsButEnd []
unfolding open_entry
IsPartsButEnd-empty = record { parts = []; rest = []; joined = refl; whole = λ k d inside. absurd (omega arith); ending = refl }
