-- `vacant` owns nothing. Assumes `Logic`.
use Rattle.std.proofs.Common.{◌≡◌, [], ◌∷◌, refl, Option, None}
use mir.Syntax.{Fn}
use mir.Val.{Val}
use base.Logic.{SProp, emp}
use base.Fml.{ftrue}
use contract.Monad.{fact, fact_i}
use contract.Running.{tables}
use types.Kit.{‵, raw, ◌⊛◌, ◌$◌, ◌∵◌, !, qed, by, move, keep, use0, split, fjoin}
use types.Part.{agg}
use types.Run.{lit, no_more, and_then, returns, enter}
use types.ByLocal.{alloc_all, pass_all, free_all, look_at, sets}
use denote.RattleType.{owns}
use denote.RawPtr.{null_ptr}
use denote.Signature.{types_at}
use denote.Steps.{nothing}
use denote.Triple.Entry.{alive}
use denote.Triple.Walked.{Stays, walk_of}
use Rattle.std.proofs.raw_atomic.Walks.{proved_at, leaves}
use Rattle.box_parts.proofs.Slots.{slot_val, slot_own, slot_made, slot_typed}
use Rattle.bay_c.specs.declared.inside.Inside.{Inside}
use Rattle.bay_c.specs.contracts.slot.Slot.vacant.{ended, clauses}
use Rattle.bay_c.specs.contracts.slot.Slot.vacant.Key.{name as #self}
use Rattle.bay_c.proofs.slot.Slot.vacant.Statement.{statement}
use Rattle.bay_c.proofs.slot.Slot.vacant.Code as compiled

pub vacant_spec : {M : Type 1} → statement M
vacant_spec 𝓤 𝓛 𝓜 𝓡 wired =
    let H = 𝓛.H in let fn : Fn = compiled.function in let c = clauses 𝓛 𝓜.mem 𝓡.returns in
    let hs : Stays ended.signature.params ended.kept = tt in
    let C = (tables 𝓤 H 𝓜 𝓡 𝓡.env).C in let Λ = (tables 𝓤 H 𝓜 𝓡 𝓡.env).Λ in let held : Option Inside = None in
    proved_at 𝓛 ended hs c 𝓜 𝓡 tt #self fn (compiled.unfolded 𝓤 H 𝓜 𝓡 wired) (λ z are.
    let Post : Val → SProp 𝓤 = (walk_of 𝓛 ended hs c).post z in
    qed 𝓛 ((raw (alive 𝓛 ended.signature z.0.0 z.0.1) ⊛ ‵ (owns (types_at ended.signature.params z.0.0) z.0.3 z.0.4)) ∷ ‵ ftrue ∷ []) ∵ split ! $
    enter ! C Λ fn [] Post $ alloc_all ! (λ l. pass_all ! refl tt $
    sets ! (agg ! (and_then ! (lit ! tt) (no_more !))) refl (slot_typed null_ptr) $
    returns ! (look_at ! 0 refl) $ free_all ! refl $
    use0 𝓛 (‵ (slot_own null_ptr (slot_val null_ptr ∷ []))) (slot_made 𝓛 null_ptr) $ move ! (0 ∷ 2 ∷ []) $ fjoin ! $ use0 𝓛 (raw (fact 𝓤 (held ≡ None))) (fact_i 𝓤 (held ≡ None) (emp 𝓤) refl) $ nothing ! $ keep ! (3 ∷ 0 ∷ 2 ∷ 1 ∷ []) $
    by ! (leaves 𝓛 ended hs c z (slot_val null_ptr) (record { at = null_ptr; held = None }) tt tt)))
