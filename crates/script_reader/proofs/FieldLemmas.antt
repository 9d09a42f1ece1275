-- What a gap in a line says of its fields.
use Rattle.std.proofs.Common.{◌≡◌, ◌<◌, ◌+◌, ℕ, Bool, true, false, ◌||◌, suc, List, [], ◌∷◌, ◌++◌, length, take, drop, refl, sym, ap, ◌∙◌, subst, arith, take-append-drop, drop-cons, length-take-le, take_all, ◌≤◌}
use Rattle.std.specs.Prelude.{All, slice_index, ◌==◌}
use Rattle.std.specs.List.{filter, slice_split}
use Rattle.std.proofs.lemmas.Bool.{false_from_ne_true}
use Rattle.std.proofs.lemmas.List.{get_or-take}
use Rattle.std.proofs.lemmas.List.Elements.{All-from_get_or}
use Rattle.std.proofs.lemmas.List.Splits.{slice_split_none, slice_split_at}
use Rattle.bstr.specs.Find.{Nowhere, Passes}
use Rattle.bstr.specs.Bytes.{is_in}
use Rattle.script_reader.specs.Fields.{fields, is_gap, is_some_field}

-- none of the bytes is a gap
abbrev pub IsInk : List ℕ → Type 0
IsInk bytes = All (λ b. is_gap b ≡ false) bytes

-- the two bytes that fields are cut at
abbrev pub gaps : List ℕ
gaps = 32 ∷ 9 ∷ []

or_false : (b : Bool) → b || false ≡ b
or_false true = refl
or_false false = refl

same_test : (b : ℕ) → is_in gaps b ≡ is_gap b
unfolding is_in
same_test b = ap (λ t. b == 32 || t) (or_false (b == 9))

-- a part of a line is a field if it isn't empty
kept : (part : List ℕ) (more : List (List ℕ)) → 0 < length part → filter is_some_field (part ∷ more) ≡ part ∷ filter is_some_field more
kept [] more some = absurd (omega (arith, some))
kept (b ∷ bs) more some = refl

left_out : (part : List ℕ) (more : List (List ℕ)) → length part ≡ 0 → filter is_some_field (part ∷ more) ≡ filter is_some_field more
left_out [] more none = refl
left_out (b ∷ bs) more none = absurd (omega (arith, none))

pub no_fields : fields [] ≡ []
unfolding fields
no_fields = refl

pub lone_field : (field : List ℕ) → IsInk field → 0 < length field → fields field ≡ field ∷ []
unfolding fields
lone_field field ink some = ap (filter is_some_field) (slice_split_none is_gap field ink) ∙ kept field [] some

pub field_then : (field : List ℕ) (b : ℕ) (rest : List ℕ) → IsInk field → is_gap b ≡ true → 0 < length field → fields (field ++ b ∷ rest) ≡ field ∷ fields rest
unfolding fields
field_then field b rest ink gap some = ap (filter is_some_field) (slice_split_at is_gap field b rest ink gap) ∙ kept field (slice_split is_gap rest) some

-- ---- a line, cut where a search for a gap ended

cut_line : (line : List ℕ) (n : ℕ) → n < length line → line ≡ take n line ++ slice_index line n ∷ drop (n + 1) line
cut_line line n inside =
    let next : suc n ≡ n + 1 = omega arith in
    sym (take-append-drop n line) ∙ ap (λ l. take n line ++ l) (drop-cons line n 0 inside) ∙ ap (λ k. take n line ++ slice_index line n ∷ drop k line) next

is_ink : (line : List ℕ) (n : ℕ) → n ≤ length line → Nowhere (Passes (is_in gaps) line) 0 n → IsInk (take n line)
is_ink line n within none =
    All-from_get_or (λ b. is_gap b ≡ false) (take n line) 0 (λ i lt.
    let less : i < n = omega (arith, lt, length-take-le n line within) in
    subst (λ b. is_gap b ≡ false) (sym (get_or-take n line i 0 less))
    (false_from_ne_true _ (λ gap. none i (omega arith) less (same_test (slice_index line i) ∙ gap))))

pub field_to_gap : (line : List ℕ) (n : ℕ) → n < length line → Nowhere (Passes (is_in gaps) line) 0 n → Passes (is_in gaps) line n
    → 0 < length (take n line) → fields line ≡ take n line ∷ fields (drop (n + 1) line)
field_to_gap line n inside none gap some =
    ap fields (cut_line line n inside)
    ∙ field_then (take n line) (slice_index line n) (drop (n + 1) line) (is_ink line n (omega (arith, inside)) none) (sym (same_test (slice_index line n)) ∙ gap) some

pub gap_to_gap : (line : List ℕ) (n : ℕ) → n < length line → Nowhere (Passes (is_in gaps) line) 0 n → Passes (is_in gaps) line n
    → length (take n line) ≡ 0 → fields line ≡ fields (drop (n + 1) line)
unfolding fields
gap_to_gap line n inside none gap empty =
    ap fields (cut_line line n inside)
    ∙ ap (filter is_some_field)
    (slice_split_at is_gap (take n line) (slice_index line n) (drop (n + 1) line) (is_ink line n (omega (arith, inside)) none) (sym (same_test (slice_index line n)) ∙ gap))
    ∙ left_out (take n line) (slice_split is_gap (drop (n + 1) line)) empty

pub field_to_end : (line : List ℕ) → Nowhere (Passes (is_in gaps) line) 0 (length line) → 0 < length line → fields line ≡ line ∷ fields []
field_to_end line none some = lone_field line (subst IsInk (take_whole line) (is_ink line (length line) (omega arith) none)) some ∙ ap (λ l. line ∷ l) (sym no_fields)
  where
    take_whole : (l : List ℕ) → take (length l) l ≡ l
    take_whole l = take_all (length l) l (omega arith)

pub no_bytes : (line : List ℕ) → length line ≡ 0 → fields line ≡ []
no_bytes [] none = no_fields
no_bytes (b ∷ bs) none = absurd (omega (arith, none))
