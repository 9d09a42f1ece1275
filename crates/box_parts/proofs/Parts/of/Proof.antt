-- `of` hands on what the box owned. Assumes `Logic`.
use Rattle.std.proofs.Common.{◌≡◌, List, [], ◌∷◌, ◌++◌, refl, sym, subst, ap, ◌∙◌}
use mir.Syntax.{ty_ptr, a_type, dcons, dnil}
use mir.MapTy.{inst_fn}
use mir.Val.{Val, vstruct, vcons, vnil, of_list}
use prog.Wp.{WpFn}
use base.Logic.{ent, id⊢, emp}
use contract.Running.{tables}
use types.Kit.{‵, raw, ◌⊛◌, some, later, ◌$◌, ◌∵◌, !, qed, drop, use1, split, move, fpick, fsplit, feq_l, feq_i, fjoin, fpack, rewrite, use0, by, await, pick}
use types.Run.{of_opd, no_more, and_then, enter, stop, fld, returns}
use types.Part.{whole, sub, agg}
use types.ByLocal.{alloc_all, pass_all, free_all, look_at, get, get_in, sets, lands_as}
use denote.Exit.{no}
use denote.Laws.{Is, shows}
use denote.RattleType.{Valss}
use denote.RawPtr.{RawPtr, rawptr_vals, rawptr_Tells, rawptr_Lawful}
use denote.Struct.Struct.{within, as_fields}
use denote.Struct.Owning.{shape}
use Rattle.box_parts.specs.contracts.Parts as P
use denote.Param.{param, bounded, layout}
use denote.Param.Laws.{param_laws}
use denote.Signature.{plain, type_at}
use denote.Steps.{peeks, heard, nothing, only}
use denote.Triple.Clauses.{Lasts, lasts, at_exit}
use denote.Triple.Entry.{Res, alive}
use contract.Monad.{fact, fact_i}
use Rattle.std.specs.Box.Ownership.{box_owns}
use denote.Triple.Call.{calls_at}
use denote.Triple.Spec.{triple_of}
use denote.Triple.Table.{framed}
use denote.Triple.Walked.{Stays, stay_dropped, walk_of}
use Rattle.core.proofs.alloc.Calls.{Goes-blank, Al, handle_tells}
use Rattle.std.proofs.raw_atomic.Walks.{proved_at, leaves}
use Rattle.box_parts.proofs.Steps.{single}
use Rattle.std_alloc.specs.contracts.boxed.Box as B
use Rattle.std_alloc.proofs.boxed.Box.TheLaws as BL
use Rattle.std_alloc.specs.contracts.boxed.Box.into_raw_with_allocator as h
use Rattle.std_alloc.proofs.boxed.Box.into_raw_with_allocator.Met.{met as h_met}
use Rattle.box_parts.specs.contracts.Parts.of as f
use Rattle.box_parts.proofs.Parts.of.Statement.{statement}
use Rattle.box_parts.proofs.Parts.of.Code as code

pub of_spec : {M : Type 1} → statement M
of_spec 𝓤 𝓛 𝓜 𝓡 wired T A LT LA g d td dd met tmet md =
    let H = 𝓛.H in let 𝓣 = tables 𝓤 H 𝓜 𝓡 𝓡.env in
    let ended = f.ended T A g d td dd in let c = f.clauses T A g d td dd 𝓛 𝓜.mem 𝓡.returns in
    let hs : Stays ended.signature.params ended.kept = (stay_dropped _ no, tt) in
    let W = walk_of 𝓛 ended hs c in
    let fn = inst_fn (bounded (a_type ∷ a_type ∷ []) (T, (A, tt)) (dcons d (dcons td (dcons dd dnil)))) code.function in
    let lawful = (BL.the_field_loose (param 0 T) (param 1 A) g (param_laws 0 T LT) (param_laws 1 A LA)).lawful 𝓛 in
    proved_at 𝓛 ended hs c 𝓜 𝓡 (Goes-blank 𝓛 2 (plain (λ _. B.the_row (param 0 T) (param 1 A) g)) no (λ κs x w. tt), tt) _ fn
    (code.unfolded 𝓤 H 𝓜 𝓡 wired (T, (A, tt)) d td dd) (λ z are.
    let y : List Val → W.Ghost = λ us. ((z.0.0, z.0.1, z.0.2, z.0.3, (us, tt)), z.1) in
    let one = single (layout (B.the_row (param 0 T) (param 1 A) g)) z.0.4.0 (lawful.typed z.0.3.0 z.0.4.0 are.0) in
    subst (λ (us : List Val). ent 𝓤 (W.pre (y us)) (WpFn 𝓤 H 𝓣.C 𝓣.Λ fn (W.args (y us)) (W.post (y us)))) (sym one.1.0) (
    let G = triple_of 𝓛 (h.signature T A g d dd td) (h.spec T A g d dd td 𝓛 𝓜.mem 𝓡.returns) in
    let x = y (one.0 ∷ []) in
    qed 𝓛 (raw (G.pre x) ∷ []) ∵ enter ! _ _ _ _ _ $ alloc_all ! (λ l. pass_all ! refl (one.1.1, tt) $
    sets ! (of_opd ! (get ! refl)) refl one.1.1 $
    calls_at ! (framed 𝓤 H 𝓜 𝓣) G (h_met 𝓤 𝓛 𝓜 𝓡 (code.calls-std_alloc::boxed::Box::into_raw_with_allocator 𝓡.env wired) T A LT LA g d dd td met md tmet) x
    (and_then ! (get ! refl) (no_more !)) (λ v.
    let al : Al = record { row = A; laws = LA; g = g; d = d; drops = dd } in
    let S = h.signature T A g d dd td in let E = h.ended T A g d dd td in let κs = x.0.0 in let a = x.0.3 in
    use1 𝓛 (later (some (λ (r : Res S κs). (raw (alive 𝓛 S κs x.0.1) ⊛ ‵ ((type_at S.result κs).own_val r (v ∷ []))) ⊛
    some (λ (ws : Lasts E κs a). ‵ (lasts E κs a ws) ⊛ raw ((h.clauses T A g d dd td 𝓛 𝓜.mem 𝓡.returns κs a).ensures tt r (at_exit E κs a ws)))))) (id⊢ 𝓤 _) $
    await ! tt $ pick ! (λ r. split ! $ split ! $ move ! (2 ∷ []) $ pick ! (λ ws. split ! $ drop ! $
    use1 𝓛 (raw (fact 𝓤 (r.1 ≡ a.0.alloc)) ⊛ ‵ (box_owns (g.dealloc_token a.0.alloc) (param 0 T) r.0 a.0.value)) (id⊢ 𝓤 _) $ split ! $
    heard ! _ (λ same. move ! (2 ∷ []) $ fpick ! (λ vss. fsplit ! $ feq_l ! (λ told. fsplit ! $ move ! (1 ∷ []) $ fsplit ! $ handle_tells al ! r.1 vss.1.0 (λ bits is fits.
    move ! (1 ∷ []) $ drop ! $ move ! (1 ∷ []) $ peeks ! RawPtr (Is RawPtr) (shows 𝓛 RawPtr) r.0 vss.0 (λ is_ptr.
    let at = rawptr_Tells r.0 vss.0 is_ptr in let p : Val = only (rawptr_vals r.0) in
    let ptr_fits = ((rawptr_Lawful 𝓛).typed r.0 (rawptr_vals r.0) refl).0 in
    let fit = as_fields (ty_ptr ∷ layout A ∷ []) (p ∷ bits ∷ []) (ptr_fits, (fits, tt)) in
    let w : Val = vstruct (vcons p (vcons bits vnil)) in
    rewrite ! 0 (λ (us : List Val). ‵ (RawPtr.own_val r.0 us)) at refl $
    rewrite ! 2 (λ (o : A.Denot). ‵ (box_owns (g.dealloc_token o) (param 0 T) r.0 a.0.value)) (sym same) refl $
    lands_as ! (ap only (told ∙ (λ i. vstruct (of_list (at i ++ (is i ++ []))) ∷ []))) refl fit $
    sets ! (of_opd ! (get_in ! (fld ! refl (stop !)) (sub ! 0 refl (whole !)))) refl ptr_fits $
    sets ! (of_opd ! (get_in ! (fld ! refl (stop !)) (sub ! 1 refl (whole !)))) refl fits $
    sets ! (of_opd ! (get ! refl)) refl fits $
    sets ! (agg ! (and_then ! (get ! refl) (and_then ! (get ! refl) (no_more !)))) refl fit $
    returns ! (look_at ! 0 refl) $ free_all ! refl $
    -- [the pointer; the allocator; the block; the tokens]
    nothing ! $ move ! (2 ∷ 0 ∷ []) $ fjoin ! $ move ! (1 ∷ 0 ∷ []) $ fjoin ! $ feq_i ! (List Val) (w ∷ []) (w ∷ []) refl $ fjoin ! $
    fpack ! (Valss (RawPtr ∷ param 1 A ∷ [])) (within (shape (P.the_type (param 0 T) (param 1 A) g)) (r.0, (r.1, tt)) (w ∷ [])) (p ∷ [], (bits ∷ [], tt)) $ fjoin ! $
    use0 𝓛 (raw (fact 𝓤 (a.0.value ≡ a.0.value))) (fact_i 𝓤 (a.0.value ≡ a.0.value) (emp 𝓤) refl) $ nothing ! $ nothing ! $ fjoin ! $ move ! (3 ∷ 0 ∷ 2 ∷ 1 ∷ []) $
    by ! (leaves 𝓛 ended hs c x w (record { ptr = r.0; alloc = r.1; value = a.0.value }) ((tt, (tt, tt)), tt) (tt, tt)))))))))))))
