use Rattle.std.proofs.Common.{◌≡◌, ◌≤◌, List, length, replicate, Option, None, rules, sym, subst, arith}
use Rattle.std.proofs.lemmas.List.{length-replicate}
use Rattle.late_thirst.specs.declared.asker.Asker.{Asker}
use Rattle.late_thirst.specs.Outside.{AreOutside}
use Rattle.late_thirst.proofs.Those.{nobody_outside}
use Rattle.late_thirst.proofs.line.Line.nobody.Goals as goal

pub invariant_of-result : goal.invariant_of-result
invariant_of-result c =
    let n = c.args.jobs in let few = c.requires in
    let is : c.in_ok-from_elem.field-0.items ≡ replicate n None = c.in_ok-from_elem.ensures.items_if_clones_equal (search rules) in
    let long = length-replicate {A = Option Asker} n None in
    subst (λ (l : List (Option Asker)). (length l ≤ 32) × AreOutside l 0) (sym is) (omega (arith, long, few), nobody_outside n)
