-- `into_box` hands on what the parts own. Assumes `Logic`.
use Rattle.std.proofs.Common.{◌≡◌, List, [], ◌∷◌, ◌++◌, refl, ◌∙◌}
use mir.Syntax.{ty_ptr, a_type, dcons, dnil}
use mir.MapTy.{inst_fn}
use mir.Val.{Val, vstruct, vcons, vnil, of_list}
use prog.Wp.{WpFn}
use base.Logic.{id⊢, emp}
use contract.Monad.{fact, fact_i}
use contract.Running.{tables}
use types.Kit.{‵, raw, ◌⊛◌, some, later, at_ret, ◌$◌, ◌∵◌, !, qed, drop, use0, use1, split, move, join, fpick, fsplit, fjoin, feq_l, await, pick, regoal, rewrite, keep, prop, by}
use types.Part.{whole, sub}
use types.Run.{of_opd, no_more, and_then, enter, stop, fld, first, blocks, exec, returns}
use types.ByLocal.{alloc_all, pass_all, free_all, look_at, get, get_in, sets, lands_last, env}
use denote.Exit.{no}
use denote.Laws.{Is, shows}
use denote.Param.{param, bounded, layout}
use denote.Param.Laws.{param_laws}
use denote.RattleType.{owns}
use denote.RawPtr.{RawPtr, rawptr_vals, rawptr_Tells, rawptr_Lawful}
use denote.Signature.{plain, type_at, types_at}
use contract.Lifetimes.{lft_at}
use contract.BorrowLft.{◌⊑◌}
use denote.Steps.{peeks, heard, nothing, only}
use denote.Struct.Struct.{as_fields}
use denote.Triple.Call.{calls_at_last}
use denote.Triple.Clauses.{Lasts, lasts, at_exit}
use denote.Triple.Entry.{Res, alive}
use denote.Triple.Spec.{triple_of}
use denote.Triple.Table.{framed}
use denote.Triple.Walked.{Stays, stay_dropped, walk_of}
use Rattle.core.proofs.alloc.Calls.{Goes-blank, Al, handle_tells}
use Rattle.std.proofs.raw_atomic.Walks.{proved_at, leaves}
use Rattle.std_alloc.specs.Box.{box_allocator}
use Rattle.std.proofs.VecSteps.Shapes.{after}
use Rattle.box_parts.specs.contracts.Parts as P
use Rattle.std_alloc.specs.contracts.boxed.Box as B
use Rattle.std_alloc.proofs.boxed.Box.TheLaws as BL
use Rattle.std_alloc.specs.contracts.boxed.Box.from_raw as h
use Rattle.std_alloc.proofs.boxed.Box.from_raw.Met.{met as h_met}
use Rattle.box_parts.specs.contracts.Parts.into_box as f
use Rattle.box_parts.proofs.Parts.into_box.Statement.{statement}
use Rattle.box_parts.proofs.Parts.into_box.Code as code

pub into_box_spec : {M : Type 1} → statement M
into_box_spec 𝓤 𝓛 𝓜 𝓡 wired T A LT LA g d td dd met tmet md =
    let H = 𝓛.H in let 𝓣 = tables 𝓤 H 𝓜 𝓡 𝓡.env in
    let ended = f.ended T A g d td dd in let c = f.clauses T A g d td dd 𝓛 𝓜.mem 𝓡.returns in
    let hs : Stays ended.signature.params ended.kept = (stay_dropped _ no, tt) in
    let W = walk_of 𝓛 ended hs c in
    let fn = inst_fn (bounded (a_type ∷ a_type ∷ []) (T, (A, tt)) (dcons d (dcons td (dcons dd dnil)))) code.function in
    let al : Al = record { row = A; laws = LA; g = g; d = d; drops = dd } in
    proved_at 𝓛 ended hs c 𝓜 𝓡 (Goes-blank 𝓛 2 (plain (λ _. P.the_row (param 0 T) (param 1 A) g)) no (λ κs x w. tt), tt) _ fn
    (code.unfolded 𝓤 H 𝓜 𝓡 wired (T, (A, tt)) d td dd) (λ z are.
    let κs = z.0.0 in let q = z.0.1 in let a = z.0.3.0 in let us = z.0.4.0 in
    let κt = lft_at 2 0 tt κs in let κa = lft_at 2 1 tt κs in
    qed 𝓛 ((raw (alive 𝓛 ended.signature κs q) ⊛ ‵ (owns (types_at ended.signature.params κs) z.0.3 z.0.4)) ∷ (raw (fact 𝓤 (κt ⊑ T.lives)) ⊛ (raw (fact 𝓤 (κa ⊑ A.lives)) ⊛ raw (emp 𝓤))) ∷ []) ∵
    split ! $ move ! (1 ∷ []) $ fsplit ! $ fsplit ! $ fpick ! (λ vss. fsplit ! $ feq_l ! (λ told. fsplit ! $ move ! (1 ∷ []) $ fsplit ! $
    handle_tells al ! a.alloc vss.1.0 (λ bits is fits. move ! (2 ∷ []) $ peeks ! RawPtr (Is RawPtr) (shows 𝓛 RawPtr) a.ptr vss.0 (λ is_ptr.
    let at = rawptr_Tells a.ptr vss.0 is_ptr in let p : Val = only (rawptr_vals a.ptr) in
    let ptr_fits = ((rawptr_Lawful 𝓛).typed a.ptr (rawptr_vals a.ptr) refl).0 in
    let fit = as_fields (ty_ptr ∷ layout A ∷ []) (p ∷ bits ∷ []) (ptr_fits, (fits, tt)) in
    let w : Val = vstruct (vcons p (vcons bits vnil)) in
    rewrite ! 0 (λ (ws : List Val). ‵ (RawPtr.own_val a.ptr ws)) at refl $
    regoal ! (λ (ws : List Val). prop (WpFn 𝓤 H 𝓣.C 𝓣.Λ fn ws (W.post z))) (λ i. (told ∙ (λ j. vstruct (of_list (at j ++ (is j ++ []))) ∷ [])) i ++ []) refl $
    move ! (6 ∷ []) $ split ! $ move ! (1 ∷ []) $ split ! $
    -- [the allocator lives long enough; nothing; the value does; the pointer; the allocator; nothing; the block; nothing; the tokens]
    keep ! (4 ∷ 3 ∷ 5 ∷ 6 ∷ 2 ∷ 0 ∷ 8 ∷ []) $
    enter ! _ _ _ _ _ $ alloc_all ! (λ l. pass_all ! refl (fit, tt) $
    sets ! (of_opd ! (get_in ! (fld ! refl (stop !)) (sub ! 0 refl (whole !)))) refl ptr_fits $
    sets ! (of_opd ! (get_in ! (fld ! refl (stop !)) (sub ! 1 refl (whole !)))) refl fits $
    first ! $ blocks ! $ sets ! (of_opd ! (get ! refl)) refl fits $
    move ! (1 ∷ 2 ∷ []) $ fjoin ! $ move ! (1 ∷ 0 ∷ []) $ fjoin ! $ move ! (4 ∷ 0 ∷ []) $ join ! $
    move ! (3 ∷ 1 ∷ []) $ join ! $ move ! (2 ∷ 0 ∷ []) $ join ! $ move ! (1 ∷ 0 ∷ []) $ join ! $
    let G = triple_of 𝓛 (h.signature T A g d dd) (h.spec T A g d dd 𝓛 𝓜.mem 𝓡.returns) in
    let y : G.Ghost = ((κs, q, z.0.2, (a.alloc, (a.ptr, tt)), (bits ∷ [], (p ∷ [], tt))), a.value) in
    use1 𝓛 (raw (G.pre y)) (id⊢ 𝓤 _) $
    calls_at_last ! (framed 𝓤 H 𝓜 𝓣) G (h_met 𝓤 𝓛 𝓜 𝓡 (code.calls-std_alloc::boxed::Box::from_raw 𝓡.env wired) T A LT LA g d dd met md) y
    (and_then ! (get ! refl) (and_then ! (get ! refl) (no_more !))) (λ v.
    let S = h.signature T A g d dd in let E = h.ended T A g d dd in
    use1 𝓛 (later (some (λ (r : Res S κs). (raw (alive 𝓛 S κs q) ⊛ ‵ ((type_at S.result κs).own_val r (v ∷ []))) ⊛
    some (λ (ws : Lasts E κs y.0.3). ‵ (lasts E κs y.0.3 ws) ⊛ raw ((h.clauses T A g d dd 𝓛 𝓜.mem 𝓡.returns κs y.0.3).ensures a.value r (at_exit E κs y.0.3 ws)))))) (id⊢ 𝓤 _) $
    await ! tt $ pick ! (λ r. split ! $ split ! $ move ! (2 ∷ []) $ pick ! (λ ws. split ! $ drop ! $
    use1 𝓛 (raw (fact 𝓤 (r.value ≡ a.value)) ⊛ raw (fact 𝓤 (box_allocator r ≡ a.alloc))) (id⊢ 𝓤 _) $ split ! $ heard ! _ (λ same. heard ! _ (λ kept.
    move ! (1 ∷ []) $ peeks ! (B.the_row (param 0 T) (param 1 A) g) (Is (B.the_row (param 0 T) (param 1 A) g)) (shows 𝓛 (B.the_row (param 0 T) (param 1 A) g)) r (v ∷ []) (λ is_box.
    let box_fits = ((((BL.the_field_loose (param 0 T) (param 1 A) g (param_laws 0 T LT) (param_laws 1 A LA)).lawful 𝓛).typed r (v ∷ []) is_box).0) in
    lands_last ! refl box_fits $ exec ! 𝓣.C 𝓣.Λ (env fn.locals l) (after 3 fn.body) (at_ret _ (W.post z)) $
    sets ! (of_opd ! (get ! refl)) refl box_fits $
    returns ! (look_at ! 0 refl) $ free_all ! refl $
    use0 𝓛 (raw (fact 𝓤 (r.value ≡ a.value))) (fact_i 𝓤 (r.value ≡ a.value) (emp 𝓤) same) $ nothing ! $ nothing ! $ fjoin ! $ move ! (3 ∷ 0 ∷ 2 ∷ 1 ∷ []) $
    by ! (leaves 𝓛 ended hs c z v r ((tt, (tt, tt)), tt) (tt, tt))))))))))))))
