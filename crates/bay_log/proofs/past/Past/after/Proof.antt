-- A past is made of no bytes: the walk returns the empty struct, and says that it has one line more.
use Rattle.std.proofs.Common.{[], ◌∷◌, ◌++◌, List, refl}
use Rattle.std.proofs.raw_atomic.Walks.{proved}
use base.Logic.{emp, via, fst∗}
use contract.Running.{tables}
use denote.Exit.{yes}
use denote.RattleType.{owns}
use denote.Ref.{shr_vals, shr_Tells}
use denote.Shadow.{pure_i}
use denote.Signature.{plain, types_at}
use denote.Triple.Entry.{alive}
use denote.Triple.Walked.{Stays, stay_none_ref, Goes-none_ref, walk_of, says, ends_at}
use mir.Syntax.{named}
use mir.Val.{Val, vptr, vstruct, vnil}
use types.ByLocal.{alloc_all, pass_all, free_all, look_at, sets}
use types.Kit.{‵, raw, ◌$◌, ◌∵◌, !, qed, move, suffices, done}
use types.Part.{agg}
use types.Run.{enter, no_more, returns}
use Rattle.bay_log.specs.contracts.line.Line as added
use Rattle.bay_log.specs.declared.line.Line.{Line}
use Rattle.bay_log.specs.contracts.past.Past as made
use Rattle.bay_log.specs.contracts.past.Past.after as f
use Rattle.bay_log.proofs.past.Past.after.Statement.{statement}
use Rattle.bay_log.proofs.past.Past.after.Code as code

abbrev stayed : Stays f.ended.signature.params f.ended.kept
stayed = (stay_none_ref (0 ∷ []) tt (plain (λ _. made.the_row)) yes, (stay_none_ref (1 ∷ []) tt (plain (λ _. added.the_row)) yes, tt))

pub after_spec : {M : Type 1} → statement M
after_spec 𝓤 𝓛 𝓜 𝓡 wired =
    let c = f.clauses 𝓛 𝓜.mem 𝓡.returns in let W = walk_of 𝓛 f.ended stayed c in let 𝓣 = tables 𝓤 𝓛.H 𝓜 𝓡 𝓡.env in
    proved 𝓛 f.ended stayed c 𝓜 𝓡
    (Goes-none_ref 𝓛 2 (0 ∷ []) tt (plain (λ _. made.the_row)) yes, (Goes-none_ref 𝓛 2 (1 ∷ []) tt (plain (λ _. added.the_row)) yes, tt))
    f.Key.name code.function (code.unfolded 𝓤 𝓛.H 𝓜 𝓡 wired)
    (λ κs. (shr_vals, (shr_vals, tt))) (λ κs. (shr_Tells (named 0) κs.0 made.the_row, (shr_Tells (named 1) κs.1.0 added.the_row, tt))) (λ κs qs bounds a _ are.
    let at : Val = vptr a.0.ref_ptr.0 a.0.ref_ptr.1 in
    let line : Val = vptr a.1.0.ref_ptr.0 a.1.0.ref_ptr.1 in
    let lines : List Line = a.0.now.lines ++ a.1.0.now ∷ [] in
    let y : W.Ghost = ((κs, qs, bounds, a, (at ∷ [], (line ∷ [], tt))), tt) in
    via 𝓤 _ (fst∗ 𝓤 _ (emp 𝓤)) (qed 𝓛 (raw (alive 𝓛 f.signature κs qs) ∷ ‵ (owns (types_at f.signature.params κs) a (at ∷ [], (line ∷ [], tt))) ∷ []) ∵
    enter ! _ _ _ _ _ $
    alloc_all ! (λ l. pass_all ! refl ((tt, tt), ((tt, tt), tt)) $ sets ! (agg ! (no_more !)) refl (tt, tt) $
    returns ! (look_at ! 0 refl) $ free_all ! refl $
    suffices ! _ (ends_at 𝓛 f.ended stayed c y (vstruct vnil) (record { lines = lines }) (tt, (tt, tt)) (tt, (tt, tt))) $
    says ! refl $ pure_i ! (made.the_row.own_val (record { lines = lines }) (vstruct vnil ∷ [])) ((λ vss. (tt, tt)), tt) ((tt, (refl, tt)), tt) $
    move ! (1 ∷ 2 ∷ 0 ∷ []) $ done !)))
