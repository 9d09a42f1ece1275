-- Lists that are read where they lie, and as they are spelled.
use Rattle.std.proofs.Common.{◌≡◌, ℕ, Bool, not, cond, ◌+◌, ◌<◌, ◌≤◌, List, [], ◌∷◌}
use Rattle.std.proofs.Common.{None, Some, length, map, slice_index_or, arith, refl, sym, ap, ◌∙◌, subst, nat_lt}
use Rattle.std.specs.List.{position, position_or_len, prefix_len, slice_get}
use Rattle.std.specs.Option.{option_map}
use Rattle.std.proofs.lemmas.Option.{slice_get-map, slice_get-get_or, slice_get_within}
use Rattle.std.proofs.lemmas.List.{length-map}
use borrow.Author.Count.{below_more}
use Rattle.report_reader.specs.Line.{EntryText}
use Rattle.timeline.specs.Timelines.{EachNext}

prefix_mapped : {X Y : Type 0} (p : Y → Bool) (f : X → Y) (xs : List X) → prefix_len p (map f xs) ≡ prefix_len (λ x. p (f x)) xs
prefix_mapped p f [] = refl
prefix_mapped p f (x ∷ xs) = ap (λ n. cond (p (f x)) (1 + n) 0) (prefix_mapped p f xs)

-- the first that passes
pub position_mapped : {X Y : Type 0} (p : Y → Bool) (f : X → Y) (xs : List X) → position (λ x. p (f x)) xs ≡ position p (map f xs)
position_mapped p f xs =
    let n = position_or_len (λ x. p (f x)) xs in
    let m = position_or_len p (map f xs) in
    let same : m ≡ n = prefix_mapped (λ y. not (p y)) f xs in
    let long : length (map f xs) ≡ length xs = length-map xs f in
    ap (λ k. cond (nat_lt k (length xs)) (Some k) None) (sym same) ∙ ap (λ l. cond (nat_lt m l) (Some m) None) (sym long)

-- the element there, where it lies among them
pub spelled_at : {X Y : Type 0} (f : X → Y) (xs : List X) (k : ℕ) (d : X) → k < length xs → slice_get (map f xs) k ≡ Some (f (slice_index_or xs k d))
spelled_at f xs k d inside = slice_get-map f xs k ∙ ap (option_map f) (slice_get-get_or xs k d inside)

-- each of the first n with the one right behind it
abbrev pub NextBelow : (EntryText → EntryText → Type 0) → List EntryText → ℕ → Type 0
NextBelow R entries n = (k : ℕ) → k < n → (a b : EntryText) → slice_get entries k ≡ Some a → slice_get entries (k + 1) ≡ Some b → R a b

pub all_next : (R : EntryText → EntryText → Type 0) (entries : List EntryText) (n : ℕ) → length entries ≤ n + 1 → NextBelow R entries n → EachNext R entries
all_next R entries n past below k a b first second =
    let inside : k + 1 < length entries = slice_get_within entries (k + 1) b second in
    below k (omega arith) a b first second

pub next_more : {X : Type 0} (R : EntryText → EntryText → Type 0) (f : X → EntryText) (xs : List X) (n : ℕ) (d e : X) → n + 1 < length xs
    → R (f (slice_index_or xs n d)) (f (slice_index_or xs (n + 1) e)) → NextBelow R (map f xs) n → NextBelow R (map f xs) (n + 1)
next_more {X} R f xs n d e inside holds below =
    let P : ℕ → Type 0 = λ k. (a b : EntryText) → slice_get (map f xs) k ≡ Some a → slice_get (map f xs) (k + 1) ≡ Some b → R a b in
    let here : P n = λ a b first second.
    let x : X = slice_index_or xs n d in
    let y : X = slice_index_or xs (n + 1) e in
    let left : Some (f x) ≡ Some a = sym (spelled_at f xs n d (omega arith)) ∙ first in
    let right : Some (f y) ≡ Some b = sym (spelled_at f xs (n + 1) e inside) ∙ second in
    let is_a : f x ≡ a = cc in
    let is_b : f y ≡ b = cc in
    subst (λ t. R a t) is_b (subst (λ t. R t (f y)) is_a holds) in
    below_more P n below here
