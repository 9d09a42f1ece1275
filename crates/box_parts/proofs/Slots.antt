-- The machine values of a slot that C keeps and of the parts of a box. Assumes `Logic`.
use Rattle.std.proofs.Common.{◌≡◌, ℕ, zero, suc, List, [], ◌∷◌, ◌++◌, refl, ◌∙◌, lit<, Option, Some, None, arith}
use Rattle.box_parts.specs.Owned.{holds}
use seplogic.Ra.Ura.{Ura}
use mir.Syntax.{ty_ptr, ty_struct, tcons, tnil, ty_unit}
use mir.Val.{Val, vunit, vstruct, vcons, vnil, of_list}
use base.Logic.{ent, emp}
use base.Fml.{Fml}
use types.Logic.{Logic, sem}
use denote.RattleType.{RattleType}
use denote.Builtin.{unit}
use denote.RawPtr.{Ptr, RawPtr, block_ptr, null_ptr, ptr_val}
use denote.Shadow.{shadow, makes_shadow}
use denote.Signature.{Slot, plain}
use denote.Struct.Struct.{Struct}
use Rattle.core.proofs.cell.Inside.{Good}
use Rattle.std_heap.specs.contracts.Global.{the_row as heap}
use Rattle.std_heap.specs.declared.Global.{Global}

abbrev pub slot_at : {n : ℕ} → ℕ → List (Slot n) → Slot n
slot_at k [] = plain (λ _. unit)
slot_at zero (s ∷ ss) = s
slot_at (suc k) (s ∷ ss) = slot_at k ss

abbrev pub plainly : List RattleType → RattleType
plainly Rs = Struct (record { name = []; args = []; types = []; fields = Rs })

pub ptr_typed : (p : Ptr) → Good ty_ptr (ptr_val p)
ptr_typed (block_ptr b o) = (tt, tt)
ptr_typed null_ptr = (tt, record { fits = lit< tt })

abbrev pub slot_val : Ptr → Val
slot_val p = vstruct (vcons (ptr_val p) vnil)

abbrev pub slot_own : Ptr → List Val → Fml
slot_own p = (plainly (RawPtr ∷ [])).own_val (p, tt)

pub slot_told : (p : Ptr) (vs : List Val) → shadow (slot_own p vs) → vs ≡ slot_val p ∷ []
slot_told p vs s = s.1.0 ∙ (λ i. vstruct (of_list (s.1.1.0 i ++ [])) ∷ [])

pub slot_made : {M : Type 1} {𝓤 : Ura M} (𝓛 : Logic 𝓤) (p : Ptr) → ent 𝓤 (emp 𝓤) (sem 𝓛 (slot_own p (slot_val p ∷ [])))
slot_made 𝓛 p = makes_shadow 𝓛 (slot_own p (slot_val p ∷ [])) (λ _. (tt, (tt, tt))) ((ptr_val p ∷ [], tt), (refl, (refl, tt)))

pub slot_typed : (p : Ptr) → Good (ty_struct [] (tcons ty_ptr tnil)) (slot_val p)
slot_typed (block_ptr b o) = (tt, (tt, tt))
slot_typed null_ptr = (tt, (record { fits = lit< tt }, tt))

abbrev pub heap_val : Val
heap_val = vstruct (vcons (vstruct (vcons vunit vnil)) vnil)

abbrev pub parts_val : Ptr → Val
parts_val p = vstruct (vcons (ptr_val p) (vcons heap_val vnil))

pub parts_typed : (p : Ptr) → Good (ty_struct [] (tcons ty_ptr (tcons (ty_struct [] (tcons (ty_struct [] (tcons ty_unit tnil)) tnil)) tnil))) (parts_val p)
parts_typed (block_ptr b o) = (tt, (tt, (((tt, tt), tt), tt)))
parts_typed null_ptr = (tt, (record { fits = lit< tt }, (((tt, tt), tt), tt)))

abbrev pub parts_own : Ptr → Global → List Val → Fml
parts_own p g = (plainly (RawPtr ∷ heap ∷ [])).own_val (p, (g, tt))

pub parts_made : {M : Type 1} {𝓤 : Ura M} (𝓛 : Logic 𝓤) (p : Ptr) (g : Global) → ent 𝓤 (emp 𝓤) (sem 𝓛 (parts_own p g (parts_val p ∷ [])))
parts_made 𝓛 p g = makes_shadow 𝓛 (parts_own p g (parts_val p ∷ [])) (λ _. (tt, (tt, ((λ _. (tt, ((λ _. (tt, (tt, tt))), tt))), tt))))
    ((ptr_val p ∷ [], (heap_val ∷ [], tt)), (refl, (refl, (((vstruct (vcons vunit vnil) ∷ [], tt), (refl, (((vunit ∷ [], tt), (refl, (refl, tt))), tt))), tt))))

pub heap_told : (g : Global) (vs : List Val) → shadow (heap.own_val g vs) → vs ≡ heap_val ∷ []
heap_told g vs s = s.1.0 ∙ (λ i. vstruct (of_list ((s.1.1.0.1.0 ∙ (λ j. vstruct (of_list (s.1.1.0.1.1.0 j ++ [])) ∷ [])) i ++ [])) ∷ [])

pub held_of : {A : Type 0} (o : Option A) → holds o ≡ 1 → (x : A) × (o ≡ Some x)
held_of (Some x) e = (x, refl)
held_of None e = absurd (omega (arith, e))
