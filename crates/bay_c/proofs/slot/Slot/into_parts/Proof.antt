-- `into_parts` hands on what the slot owns. Assumes `Logic`.
use Rattle.std.proofs.Common.{◌≡◌, List, [], ◌∷◌, ◌++◌, refl, sym, Option, Some}
use mir.Syntax.{Fn}
use mir.Val.{Val}
use base.Logic.{SProp, emp}
use prog.Wp.{WpFn}
use contract.Monad.{fact, fact_i}
use contract.Running.{tables}
use types.Kit.{‵, raw, ◌⊛◌, prop, ◌$◌, ◌∵◌, !, qed, by, move, keep, drop, use0, split, regoal, rewrite, fsplit, fjoin}
use types.Part.{whole, sub, agg}
use types.Run.{stop, fld, of_opd, no_more, and_then, returns, enter}
use types.ByLocal.{alloc_all, pass_all, free_all, look_at, get, get_in, sets}
use denote.RattleType.{owns}
use denote.Signature.{types_at}
use denote.Steps.{nothing, heard}
use denote.Triple.Entry.{alive}
use denote.Triple.Walked.{Stays, stay_dropped, walk_of}
use Rattle.core.proofs.alloc.Calls.{Goes-blank}
use Rattle.std.proofs.raw_atomic.Walks.{proved_at, leaves}
use Rattle.box_parts.proofs.Slots.{slot_at, slot_val, slot_told, slot_typed, ptr_typed, parts_val, parts_own, parts_made, parts_typed, heap_val, heap_told, held_of}
use Rattle.box_parts.specs.Owned.{slot_owns, holds}
use Rattle.bay_c.specs.declared.inside.Inside.{Inside}
use Rattle.bay_c.specs.contracts.inside.Inside.{the_row}
use Rattle.bay_c.specs.contracts.slot.Slot.into_parts.{ended, clauses}
use Rattle.bay_c.specs.contracts.slot.Slot.into_parts.Key.{name as #self}
use Rattle.bay_c.proofs.slot.Slot.into_parts.Statement.{statement}
use Rattle.bay_c.proofs.slot.Slot.into_parts.Code as compiled

pub into_parts_spec : {M : Type 1} → statement M
into_parts_spec 𝓤 𝓛 𝓜 𝓡 wired =
    let H = 𝓛.H in let fn : Fn = compiled.function in let c = clauses 𝓛 𝓜.mem 𝓡.returns in
    let hs : Stays ended.signature.params ended.kept = (stay_dropped (slot_at 0 ended.signature.params) ended.kept.0, (stay_dropped (slot_at 1 ended.signature.params) ended.kept.1.0, tt)) in
    let C = (tables 𝓤 H 𝓜 𝓡 𝓡.env).C in let Λ = (tables 𝓤 H 𝓜 𝓡 𝓡.env).Λ in
    proved_at 𝓛 ended hs c 𝓜 𝓡 (Goes-blank 𝓛 0 (slot_at 0 ended.signature.params) ended.kept.0 (λ κs x f. tt), (Goes-blank 𝓛 0 (slot_at 1 ended.signature.params) ended.kept.1.0 (λ κs x f. tt), tt)) #self fn (compiled.unfolded 𝓤 H 𝓜 𝓡 wired) (λ z are.
    let Post : Val → SProp 𝓤 = (walk_of 𝓛 ended hs c).post z in let a = z.0.3 in let vss = z.0.4 in let x = a.0 in let p = x.at in
    qed 𝓛 ((raw (alive 𝓛 ended.signature z.0.0 z.0.1) ⊛ ‵ (owns (types_at ended.signature.params z.0.0) a vss)) ∷ raw (fact 𝓤 (holds x.held ≡ 1)) ∷ []) ∵
    move ! (1 ∷ []) $ heard ! (holds x.held ≡ 1) (λ full. let asked = held_of x.held full in split ! $ move ! (1 ∷ []) $ fsplit ! $ fsplit ! $ drop ! $
    rewrite ! 0 (λ (o : Option Inside). ‵ (slot_owns the_row p o)) asked.1 refl $ move ! (1 ∷ []) $ drop ! $
    regoal ! (λ (us : List Val). prop (WpFn 𝓤 H C Λ fn us Post)) (λ i. slot_told p vss.0 are.0.0 i ++ (heap_told a.1.0 vss.1.0 are.1.0 i ++ [])) refl $
    enter ! C Λ fn (slot_val p ∷ heap_val ∷ []) Post $ alloc_all ! (λ l. pass_all ! refl (slot_typed p, ((tt, ((tt, tt), tt)), tt)) $
    sets ! (of_opd ! (get_in ! (fld ! refl (stop !)) (sub ! 0 refl (whole !)))) refl (ptr_typed p) $
    sets ! (of_opd ! (get ! refl)) refl (ptr_typed p) $
    sets ! (agg ! (and_then ! (get ! refl) (and_then ! (get ! refl) (no_more !)))) refl (parts_typed p) $
    returns ! (look_at ! 0 refl) $ free_all ! refl $
    use0 𝓛 (‵ (parts_own p a.1.0 (parts_val p ∷ []))) (parts_made 𝓛 p a.1.0) $ fjoin ! $ use0 𝓛 (raw (fact 𝓤 (Some asked.0 ≡ x.held))) (fact_i 𝓤 (Some asked.0 ≡ x.held) (emp 𝓤) (sym asked.1)) $ nothing ! $ nothing ! $ fjoin ! $ nothing ! $ fjoin ! $ keep ! (3 ∷ 0 ∷ 2 ∷ 1 ∷ []) $
    by ! (leaves 𝓛 ended hs c z (parts_val p) (record { ptr = p; alloc = a.1.0; value = asked.0 }) (tt, (tt, tt)) (tt, (tt, tt))))))
