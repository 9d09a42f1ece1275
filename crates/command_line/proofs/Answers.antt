-- From clap's error to why there is no task.
use Rattle.std.proofs.Common.{◌≡◌, ◌⊎◌, inl, inr, Bool, true, false, [], ◌∷◌, Option, Some, None, refl, sym, subst}
use Rattle.std.specs.Str.{bytes_eq}
use Rattle.std.proofs.lemmas.Slice.Eq.{bytes_eq-Decides}
use Rattle.clap.specs.Words.{IsAmong, Kinds, Text}
use Rattle.clap.specs.declared.error.kind.ErrorKind.{ErrorKind}

-- two texts are one, or the test says no
pub decide : (word name : Text) → (word ≡ name) ⊎ ((bytes_eq word name ≡ false) × (bytes_eq name word ≡ false))
decide word name = go (bytes_eq word name) (bytes_eq name word) refl refl
  where
    go : (a b : Bool) → bytes_eq word name ≡ a → bytes_eq name word ≡ b → (word ≡ name) ⊎ ((bytes_eq word name ≡ false) × (bytes_eq name word ≡ false))
    go true b d e = inl ((bytes_eq-Decides word name).0 d)
    go false true d e = inl (sym ((bytes_eq-Decides name word).0 e))
    go false false d e = inr (d, e)

pub among_none : (k : ErrorKind) (ks : Kinds) → ks ≡ [] → IsAmong k ks → ⊥
among_none k ks e h = subst (IsAmong k) e h

pub among_one : (k x : ErrorKind) (ks : Kinds) → ks ≡ x ∷ [] → IsAmong k ks → k ≡ x
among_one k x ks e h = let h2 : IsAmong k (x ∷ []) = subst (IsAmong k) e h in elim h2 [ inl is ↦ is | inr bad ↦ absurd bad ]

pub never : {T : Type 0} (o : Option T) → ((t : T) → o ≡ Some t → ⊥) → o ≡ None
never None bad = refl
never (Some t) bad = absurd (bad t refl)

pub not_true : (b : Bool) → (b ≡ true → ⊥) → b ≡ false
not_true false bad = refl
not_true true bad = absurd (bad refl)
