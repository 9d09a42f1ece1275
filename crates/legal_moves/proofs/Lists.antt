-- Lists that grow, and lists of which some are kept.
use Rattle.std.proofs.Common.{◌≡◌, ℕ, ◌+◌, ◌*◌, ◌%◌, ◌^◌, ◌<◌, ◌≤◌, List, [], ◌∷◌, ◌++◌, length, take, slice_index_or, arith, refl, sym, ap, ◌∙◌, subst, inl, inr}
use Rattle.std.proofs.Math.Pow.{pow-lt}
use Rattle.std.proofs.lemmas.List.{take_all, take_more, append-nil}
use Rattle.std.specs.List.{flat_map, range_with_len}
use Rattle.std.proofs.lemmas.List.Concat.{flat_map-append}
use Rattle.std.proofs.lemmas.List.FromFn.{get_or-range_with_len}
use Rattle.legal_moves.specs.Moves.{Keeps}

-- a set by a shift of 1
pub shifted : (k : ℕ) → k < 32 → (1 * 2 ^ k) % 4294967296 ≡ 2 ^ k
shifted k small = let below : 2 ^ k < 2 ^ 32 = pow-lt small in omega (arith, below)

assoc : {A : Type 0} (a b c : List A) → (a ++ b) ++ c ≡ a ++ (b ++ c)
assoc [] b c = refl
assoc (x ∷ a) b c = ap (λ t. x ∷ t) (assoc a b c)

one_more : {X Y : Type 0} (f : X → List Y) (xs : List X) (i : ℕ) (d : X) → i < length xs →
    flat_map f (take (i + 1) xs) ≡ flat_map f (take i xs) ++ f (slice_index_or xs i d)
one_more f xs i d inside =
    ap (flat_map f) (take_more xs i d inside) ∙ flat_map-append f (take i xs) (slice_index_or xs i d ∷ [])
    ∙ ap (λ rest. flat_map f (take i xs) ++ rest) (append-nil (f (slice_index_or xs i d)))

-- one more element's part is added
pub adds_more : {X Y : Type 0} (f : X → List Y) (xs : List X) (i : ℕ) (x : X) (start old new : List Y) → i < length xs → x ≡ slice_index_or xs i x →
    old ≡ start ++ flat_map f (take i xs) → new ≡ old ++ f x → new ≡ start ++ flat_map f (take (i + 1) xs)
adds_more f xs i x start old new inside is before more =
    more ∙ ap (λ t. t ++ f x) before ∙ assoc start (flat_map f (take i xs)) (f x)
    ∙ ap (λ t. start ++ t) (ap (λ y. flat_map f (take i xs) ++ f y) is ∙ sym (one_more f xs i x inside))

-- all parts are added
pub adds_all : {X Y : Type 0} (f : X → List Y) (xs : List X) (i : ℕ) (old a new : List Y) → length xs ≤ i →
    new ≡ (old ++ a) ++ flat_map f (take i xs) → new ≡ old ++ (a ++ flat_map f xs)
adds_all f xs i old a new past is = is ∙ ap (λ t. (old ++ a) ++ flat_map f t) (take_all i xs past) ∙ assoc old a (flat_map f xs)

-- the number i among the numbers below n
pub number_at : (n i : ℕ) → i < n → i ≡ slice_index_or (range_with_len 0 n) i i
number_at n i inside = sym (get_or-range_with_len 0 n i i inside ∙ omega arith)

-- ---- what is kept

pub keeps_push : {A : Type 0} (P : A → Type 0) (all kept : List A) (x : A) → P x → Keeps P all kept → Keeps P (all ++ x ∷ []) (kept ++ x ∷ [])
keeps_push P [] kept x h k = inl (h, ([], ap (λ t. t ++ x ∷ []) k, refl))
keeps_push P (y ∷ all) kept x h k = elim k [
  | inl w ↦ inl (w.0, (w.1.0 ++ x ∷ [], ap (λ t. t ++ x ∷ []) w.1.1, keeps_push P all w.1.0 x h w.1.2))
  | inr w ↦ inr (w.0, keeps_push P all kept x h w.1)
]

pub keeps_skip : {A : Type 0} (P : A → Type 0) (all kept : List A) (x : A) → ¬ P x → Keeps P all kept → Keeps P (all ++ x ∷ []) kept
keeps_skip P [] kept x h k = inr (h, k)
keeps_skip P (y ∷ all) kept x h k = elim k [
  | inl w ↦ inl (w.0, (w.1.0, w.1.1, keeps_skip P all w.1.0 x h w.1.2))
  | inr w ↦ inr (w.0, keeps_skip P all kept x h w.1)
]

-- one more is looked at
pub keeps_more : {A : Type 0} (P : A → Type 0) (xs kept : List A) (i : ℕ) (x : A) → i < length xs
    → x ≡ slice_index_or xs i x → P x → Keeps P (take i xs) kept → Keeps P (take (i + 1) xs) (kept ++ x ∷ [])
keeps_more P xs kept i x inside is h k =
    subst (λ t. Keeps P t (kept ++ x ∷ [])) (ap (λ y. take i xs ++ y ∷ []) is ∙ sym (take_more xs i x inside)) (keeps_push P (take i xs) kept x h k)

pub keeps_less : {A : Type 0} (P : A → Type 0) (xs kept : List A) (i : ℕ) (x : A) → i < length xs
    → x ≡ slice_index_or xs i x → ¬ P x → Keeps P (take i xs) kept → Keeps P (take (i + 1) xs) kept
keeps_less P xs kept i x inside is h k =
    subst (λ t. Keeps P t kept) (ap (λ y. take i xs ++ y ∷ []) is ∙ sym (take_more xs i x inside)) (keeps_skip P (take i xs) kept x h k)
