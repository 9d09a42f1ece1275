use Rattle.std.proofs.Common.{◌∙◌, ◌≤◌, List, Option, length, bit_and, bit_xor, refl, sym, subst, arith}
use Rattle.std.proofs.lemmas.List.{with_items_is}
use Rattle.std.specs.Vec.{with_items}
use Rattle.late_thirst.specs.declared.asker.Asker.{Asker}
use Rattle.late_thirst.specs.Outside.{LineView, AreOutside}
use Rattle.late_thirst.specs.LettingIn.{LetsIn}
use Rattle.late_thirst.specs.Lines.{LineLetsIn}
use Rattle.late_thirst.proofs.Gone.{as_many_after}
use Rattle.late_thirst.proofs.Those.{left_outside, lets_those, none_let_in}
use Rattle.late_thirst.proofs.line.Line.let_in.Goals as goal

pub invariant_of-self : goal.invariant_of-self
invariant_of-self c =
    let x = c.self.inside in let those = bit_and c.args.ready x.outside in let used = c.args.used in let set = c.let_in-set.result in
    let lets : LetsIn x.most those used c.deref_mut.result.now set c.let_in-set.new.places = c.let_in-set.ensures in
    let many = as_many_after x.most those used c.deref_mut.result.now set c.let_in-set.new.places lets in
    let items = with_items_is x.places c.let_in-set.new.places (many ∙ c.deref_mut.ensures.len) in
    let before : LetsIn x.most those used x.places.items set c.let_in-set.new.places =
    subst (λ (l : List (Option Asker)). LetsIn x.most those used l set c.let_in-set.new.places) c.deref_mut.ensures.value lets in
    let long = as_many_after x.most those used x.places.items set c.let_in-set.new.places before in let few = c.self.invariant.0 in
    subst (λ (l : List (Option Asker)). (length l ≤ 32) × AreOutside l (bit_xor x.outside set)) (sym items)
    (omega (arith, long, few), left_outside x.most those used x.places.items set c.let_in-set.new.places x.outside before c.self.invariant.1)

pub returns : goal.returns
returns c =
    let x = c.self.inside in let ready = c.args.ready in let used = c.args.used in let set = c.let_in-set.result in
    let lets : LetsIn x.most (bit_and ready x.outside) used c.deref_mut.result.now set c.let_in-set.new.places = c.let_in-set.ensures in
    let items = with_items_is x.places c.let_in-set.new.places (as_many_after x.most (bit_and ready x.outside) used c.deref_mut.result.now set c.let_in-set.new.places lets ∙ c.deref_mut.ensures.len) in
    let new : LineView = record { places = (with_items x.places c.let_in-set.new.places).items; calls = x.calls; most = x.most } in
    subst (λ (old : LineView). LineLetsIn ready used old set new) c.self.view_is (record {
      places = lets_those x.most ready used x.places.items set (with_items x.places c.let_in-set.new.places).items x.outside c.self.invariant.1
          (subst (λ (z : List (Option Asker) × List (Option Asker)). LetsIn x.most (bit_and ready x.outside) used z.0 set z.1) (λ i. (c.deref_mut.ensures.value i, sym items i)) lets);
      calls = refl;
      most = refl;
    })

pub returns-then-those-eq0 : goal.returns-then-those-eq0
returns-then-those-eq0 c =
    let x = c.self.inside in let ready = c.args.ready in let used = c.args.used in
    subst (λ (old : LineView). LineLetsIn ready used old 0 old) c.self.view_is (record {
      places = none_let_in x.most ready used x.places.items x.outside c.self.invariant.1 c.if-those-eq0.true;
      calls = refl;
      most = refl;
    })
