-- A sum and its digits.
use Rattle.std.proofs.Common.{◌≡◌, ℕ, zero, suc, ◌-◌, Bool, true, false, not, ◌&&◌, List, [], ◌∷◌, ◌++◌, length, take, drop, refl, sym, ap, ◌∙◌, arith}
use Rattle.std.specs.Prelude.{codes, ◌==◌}
use Rattle.std.specs.Str.{bytes_eq}
use Rattle.hex.specs.Hex.{encode_lower}
use Rattle.sha2.specs.Sha256.{sha256}
use Rattle.journal_texts.specs.Texts.{sum_line}
use Rattle.journal_texts.specs.Sums.{is_sum, is_wrong}

and_both : (a b : Bool) → (a && b) ≡ true → (a ≡ true) × (b ≡ true)
and_both true b h = (refl, h)
and_both false b h = cc

pub same_digits : (line digits : List ℕ) → is_sum line ≡ true → bytes_eq line (codes "#sum " ++ digits) ≡ bytes_eq (drop 5 line) digits
same_digits (a ∷ b ∷ c ∷ d ∷ e ∷ rest) digits is =
    let o = and_both _ _ is in
    let p = and_both (a == 35) _ o.1 in
    let q = and_both (b == 115) _ p.1 in
    let r = and_both (c == 117) _ q.1 in
    let s = and_both (d == 109) _ r.1 in
    let t = and_both (e == 32) _ s.1 in
    λ i. p.0 i && (q.0 i && (r.0 i && (s.0 i && (t.0 i && bytes_eq rest digits))))
same_digits [] digits is = cc
same_digits (a ∷ []) digits is = cc
same_digits (a ∷ b ∷ []) digits is = cc
same_digits (a ∷ b ∷ c ∷ []) digits is = cc
same_digits (a ∷ b ∷ c ∷ d ∷ []) digits is = cc

take_all : (l : List ℕ) → take (length l) l ≡ l
take_all [] = refl
take_all (x ∷ l) = ap (λ z. x ∷ z) (take_all l)

pub rest_whole : (n : ℕ) (l : List ℕ) → take (length l - n) (drop n l) ≡ drop n l
rest_whole zero l = let same : length l - 0 ≡ length l = omega arith in ap (λ k. take k l) same ∙ take_all l
rest_whole (suc n) [] = let none : 0 - suc n ≡ 0 = omega arith in ap (λ k. take k []) none
rest_whole (suc n) (x ∷ l) = let same : length (x ∷ l) - suc n ≡ length l - n = omega arith in ap (λ k. take k (drop n l)) same ∙ rest_whole n l

-- whether a sum has other digits than those of a text
pub wrong_digits : (text line digits : List ℕ) (other : Bool) → is_sum line ≡ true → digits ≡ encode_lower (take 8 (sha256 text))
    → other ≡ not (bytes_eq (take (length line - 5) (drop 5 line)) digits) → other ≡ is_wrong text line
unfolding sum_line
wrong_digits text line digits other is are says =
    says ∙ ap (λ l. not (bytes_eq l digits)) (rest_whole 5 line) ∙ sym (ap not (same_digits line digits is))
    ∙ ap (λ l. not (bytes_eq line (codes "#sum " ++ l))) are ∙ ap (λ b. b && not (bytes_eq line (sum_line text))) (sym is)
