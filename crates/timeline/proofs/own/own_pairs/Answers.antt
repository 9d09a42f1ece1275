use Rattle.std.proofs.Common.{ℕ, ◌+◌, List, Bool, map, sym, ap, ◌∙◌, subst, arith}
use Rattle.std.specs.Prelude.{IfSome}
use Rattle.report_reader.specs.Form.{job_text}
use Rattle.timeline.specs.Orders.{IsNextOwn}
use Rattle.timeline.proofs.OwnPairs.{OwnBelow, own_start, own_yes, own_no, own_end}
use Rattle.timeline.proofs.own.own_pairs.Goals as goal
use Rattle.timeline.proofs.own.own_pairs.Goals.{in-Some+in_ok-push, in_default}

pub loop-slot-init : goal.loop-slot-init
loop-slot-init g c = own_start c.in_ok-used.used.items c.new-pairs.result.items c.new-pairs.ensures.items

pub loop-slot-preserved : goal.loop-slot-preserved
loop-slot-preserved g c =
    let used = c.in_ok-used.used.items in
    let n = c.loop-slot.slot in
    elim c.match-next_own.branch [
      | in-Some+in_ok-push w ↦
          let next = w.in-Some.next in
          let found = subst (λ o. IfSome o (λ y. IsNextOwn c.deref.result.now n y)) w.in-Some.is c.next_own.ensures.some in
          let here = subst (λ l. IsNextOwn l n next) c.deref.ensures.value found in
          subst (OwnBelow used (n + 1)) (sym (ap (λ v. v.items) w.pairs-is ∙ w.in_ok-push.ensures.items))
          (own_yes used n next c.loop-slot.pairs.items here c.loop-slot.invariant)
      | in_default w ↦
          let none = subst (λ (l : List Bool). (y : ℕ) → IsNextOwn l n y → ⊥) c.deref.ensures.value (c.next_own.ensures.none w.in_default.is) in
          subst (OwnBelow used (n + 1)) (sym (ap (λ v. v.items) w.pairs-is)) (own_no used n c.loop-slot.pairs.items none c.loop-slot.invariant)
    ]

pub returns : goal.returns
returns g c =
    let used = c.in_ok-used.used.items in
    let long = c.in_ok-used.used.ok.0 in
    let past = c.loop-slot-test.false in
    own_end (map job_text c.args.jobs.now) c.args.logs.now used c.loop-slot.slot c.loop-slot.pairs.items (omega arith) c.in_ok-used.ensures c.loop-slot.invariant
