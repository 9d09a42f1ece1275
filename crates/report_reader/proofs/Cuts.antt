-- A text, cut where a search for a byte ended.
use Rattle.std.proofs.Common.{◌≡◌, ℕ, ◌+◌, Bool, false, List, [], ◌∷◌, ◌++◌, length, take, drop, map, ap, ◌∙◌, arith, append_assoc}
use Rattle.std.specs.Prelude.{Option, Some, None}
use Rattle.std.specs.Borrow.{Bor}
use Rattle.std.specs.List.{slice_split, position, position_or_len}
use Rattle.std.proofs.lemmas.Bool.{false_from_ne_true}
use Rattle.std.proofs.lemmas.Grind.{common_steps}
use Rattle.std.proofs.lemmas.List.{map_push}
use Rattle.std.proofs.lemmas.List.Elements.{All-from_get_or}
use Rattle.std.proofs.lemmas.List.Sums.{position_or_len_is}
use Rattle.std.proofs.lemmas.List.Splits.{slice_split_first, slice_split_none}
use Rattle.bstr.specs.Find.{Nowhere, Passes, NoneBefore, IsFirstByte}

-- the first place that passes, or the length of the text
found : (p : ℕ → Bool) (text : List ℕ) (n : ℕ) → NoneBefore (Passes p text) 0 (length text) n × Passes p text n → position_or_len p text ≡ n
found p text n h =
    let inside = h.0.high in
    position_or_len_is p text n 0 (omega (arith, inside)) (λ k lt. false_from_ne_true _ (h.0.before k (omega arith) lt)) (λ lt. h.1)

not_found : (p : ℕ → Bool) (text : List ℕ) → Nowhere (Passes p text) 0 (length text) → position_or_len p text ≡ length text
not_found p text none = position_or_len_is p text (length text) 0 (omega arith) (λ k lt. false_from_ne_true _ (none k (omega arith) lt)) (λ lt. absurd (omega (arith, lt)))

pub position_is : (p : ℕ → Bool) (text : List ℕ) (r : Option ℕ) → IsFirstByte p text r → r ≡ position p text
position_is p text (Some n) h = let at = found p text n h in let inside = h.0.high in grind (arith, common_steps)
position_is p text None h = let at = not_found p text h in grind (arith, common_steps)

-- the parts of a text, by the place of the first byte that passes
pub cut : (p : ℕ → Bool) (text : List ℕ) (n : ℕ) → NoneBefore (Passes p text) 0 (length text) n × Passes p text n
    → slice_split p text ≡ take n text ∷ slice_split p (drop (n + 1) text)
cut p text n h =
    let at = found p text n h in
    let inside = h.0.high in
    slice_split_first p text 0 (omega (arith, at, inside)) ∙ ap (λ k. take k text ∷ slice_split p (drop (k + 1) text)) at

pub uncut : (p : ℕ → Bool) (text : List ℕ) → Nowhere (Passes p text) 0 (length text) → slice_split p text ≡ text ∷ []
uncut p text none =
    slice_split_none p text (All-from_get_or (λ b. p b ≡ false) text 0 (λ i lt. false_from_ne_true _ (none i (omega arith) lt)))

-- one part more, and the parts of what is left
pub one_more : (done : List (Bor (List ℕ))) (part : Bor (List ℕ)) (more : List (List ℕ))
    → map (λ (x : Bor (List ℕ)). x.now) (done ++ part ∷ []) ++ more ≡ map (λ (x : Bor (List ℕ)). x.now) done ++ part.now ∷ more
one_more done part more = ap (λ l. l ++ more) (map_push (λ (x : Bor (List ℕ)). x.now) done part) ∙ append_assoc (map (λ (x : Bor (List ℕ)). x.now) done) (part.now ∷ []) more
