-- A log with one more entry: its parts, its dial, its last entry.
use Rattle.std.proofs.Common.{◌≡◌, ◌≢◌, ℕ, zero, suc, ◌+◌, ◌-◌, ◌<◌, ◌≤◌, ◌∙◌, ◌⊎◌, inl, inr, arith, refl, sym, ap, subst, List, [], ◌∷◌, ◌++◌, length, take, Bool, true, false, nat_lt, Option, Some, None, slice_get, slice_index_or, if◌then◌else◌}
use Rattle.std.proofs.lemmas.Grind.{fold-append}
use Rattle.std.proofs.lemmas.List.{take-append-le}
use Rattle.std.proofs.Math.Seq.{take-append_seam}
use Rattle.std.proofs.lemmas.Option.{get_or_from_slice_get}
use Rattle.std.specs.List.{last_or, All}
use Rattle.std.specs.Option.{option_and_then, option_map_or, MatchOption}
use Rattle.instrument_log.specs.declared.entry.Entry.{Entry}
use Rattle.instrument_log.specs.Entries.{IsWithinLimits}
use Rattle.instrument_log.specs.Dial.{turned, dial, HasDialValues}
use Rattle.instrument_log.specs.Parts.{open_entry, if_open, unfinished_of, IsNextPlace, Follows}

pub dial-push : (entries : List Entry) (entry : Entry) → dial (entries ++ entry ∷ []) ≡ turned entry.verb (dial entries)
unfolding dial
dial-push entries entry = fold-append (λ value (later : Entry). turned later.verb value) 0 entries (entry ∷ [])

last_or-push : (o : Option Entry) (entries : List Entry) (entry : Entry) → last_or o (entries ++ entry ∷ []) ≡ Some entry
last_or-push o [] entry = refl
last_or-push o (first ∷ entries) entry = last_or-push (Some first) entries entry

last_or-read : (first : Entry) (entries : List Entry) → slice_get (first ∷ entries) (length entries) ≡ last_or (Some first) entries
last_or-read first [] = refl
last_or-read first (next ∷ entries) = last_or-read next entries

pub open_entry-push : (entries : List Entry) (entry : Entry) → open_entry (entries ++ entry ∷ []) ≡ if_open entry
unfolding open_entry
open_entry-push entries entry = ap (option_and_then if_open) (last_or-push None entries entry)

pub unfinished_of-push : (entries : List Entry) (entry : Entry) → unfinished_of (entries ++ entry ∷ []) ≡ option_map_or (λ last. last.place) (if_open entry) 0
unfinished_of-push entries entry = ap (λ o. option_map_or (λ last. last.place) o 0) (open_entry-push entries entry)

if_open-none : (last : Entry) (b : Bool) → 1 ≤ last.place → option_map_or (λ entry. entry.place) (if b then Some last else None) 0 ≡ 0
    → (if b then Some last else None) ≡ None
if_open-none last true from none = absurd (omega (arith, none))
if_open-none last false from none = refl

if_open-last : (last : Entry) (b : Bool) → option_map_or (λ entry. entry.place) (if b then Some last else None) 0 ≢ 0
    → (if b then Some last else None) ≡ Some last
if_open-last last true some = refl
if_open-last last false some = absurd (some refl)

-- where no entry is unfinished, none is open
none_open : (o : Option Entry) → ((last : Entry) → o ≡ Some last → 1 ≤ last.place)
    → option_map_or (λ entry. entry.place) (option_and_then if_open o) 0 ≡ 0 → option_and_then if_open o ≡ None
none_open None from none = refl
none_open (Some last) from none = if_open-none last (nat_lt last.place last.length) (from last refl) none

pub open_entry-none : (entries : List Entry) → All IsWithinLimits entries → unfinished_of entries ≡ 0 → open_entry entries ≡ None
unfolding open_entry
open_entry-none [] within none = refl
open_entry-none (first ∷ entries) within none =
    let read : (last : Entry) → last_or None (first ∷ entries) ≡ Some last → slice_index_or (first ∷ entries) (length entries) last ≡ last =
    λ last is. get_or_from_slice_get (first ∷ entries) (length entries) last last (last_or-read first entries ∙ is) in
    none_open (last_or None (first ∷ entries))
    (λ last is. (subst IsWithinLimits (read last is) (within (length entries) last (omega arith))).place_from) none

-- where entries are unfinished, the last one is open
pub open_entry-last : (entries : List Entry) (last : Entry) → unfinished_of entries ≢ 0 → slice_get entries (length entries - 1) ≡ Some last
    → open_entry entries ≡ Some last
unfolding open_entry
open_entry-last [] last some is = cc
open_entry-last (first ∷ entries) last some is =
    let end : length entries ≡ length (first ∷ entries) - 1 = omega arith in
    let ends : last_or None (first ∷ entries) ≡ Some last = sym (last_or-read first entries) ∙ (ap (slice_get (first ∷ entries)) end ∙ is) in
    ap (option_and_then if_open) ends
    ∙ if_open-last last (nat_lt last.place last.length) (subst (λ o. option_map_or (λ entry. entry.place) (option_and_then if_open o) 0 ≢ 0) ends some)

-- an entry of a longer list is one of the shorter, or the new one
pub slice_get-push : (xs : List Entry) (x : Entry) (k : ℕ) (y : Entry) → slice_get (xs ++ x ∷ []) k ≡ Some y
    → ((k < length xs) × (slice_get xs k ≡ Some y)) ⊎ ((k ≡ length xs) × (x ≡ y))
slice_get-push [] x zero y e = inr (refl, cc)
slice_get-push [] x (suc k) y e = cc
slice_get-push (z ∷ xs) x zero y e = inl (omega arith, e)
slice_get-push (z ∷ xs) x (suc k) y e = elim (slice_get-push xs x k y e) [ inl w ↦ inl (omega arith, w.1) | inr w ↦ inr (omega arith, w.1) ]

-- what is so of each entry and those before it, and of one more entry, is so of the longer list
each-push : (P : List Entry → Entry → Type 0) (xs : List Entry) (x : Entry) → ((k : ℕ) (y : Entry) → slice_get xs k ≡ Some y → P (take k xs) y)
    → P xs x → (k : ℕ) (y : Entry) → slice_get (xs ++ x ∷ []) k ≡ Some y → P (take k (xs ++ x ∷ [])) y
each-push P xs x before here k y e = elim (slice_get-push xs x k y e) [
  | inl w ↦ subst (λ t. P t y) (sym (take-append-le k xs (x ∷ []) (omega arith))) (before k y w.1)
  | inr w ↦ subst (λ n. P (take n (xs ++ x ∷ [])) y) (sym w.0) (subst (λ t. P t y) (sym (take-append_seam xs (x ∷ []))) (subst (λ z. P xs z) w.1 here))
]

pub HasDialValues-push : (entries : List Entry) (entry : Entry) → HasDialValues entries
    → entry.value ≡ turned entry.verb (dial entries) → HasDialValues (entries ++ entry ∷ [])
HasDialValues-push entries entry before here = each-push (λ xs x. x.value ≡ turned x.verb (dial xs)) entries entry before here

if_open-place : (entry : Entry) (b : Bool) → option_map_or (λ last. last.place) (if b then Some entry else None) 0 ≤ entry.place
if_open-place entry true = omega arith
if_open-place entry false = omega arith

follows-place : (o : Option Entry) (entry : Entry) (n : ℕ) → MatchOption o (entry.place ≡ 1) (λ before. IsNextPlace before entry)
    → option_map_or (λ last. last.place) o 0 ≤ n → entry.place ≤ n + 1
follows-place None entry n first few = omega arith
follows-place (Some before) entry n next few = omega arith

-- an unfinished part has no more entries than the log
pub unfinished_of-push-le : (entries : List Entry) (entry : Entry) (n : ℕ) → Follows entries entry
    → unfinished_of entries ≤ n → unfinished_of (entries ++ entry ∷ []) ≤ n + 1
unfinished_of-push-le entries entry n follows few =
    let new = unfinished_of-push entries entry in
    let placed = if_open-place entry (nat_lt entry.place entry.length) in
    let counted = follows-place (open_entry entries) entry n follows few in
    omega arith
