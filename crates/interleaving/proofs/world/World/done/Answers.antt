use Rattle.std.proofs.Common.{[], ◌∷◌, sym, subst}
use Rattle.legal_steps.specs.Legal.{May, IsLegal}
use Rattle.interleaving.specs.Counting.{GoOnBy}
use Rattle.interleaving.specs.World.{WorldView, IsReachedBy}
use Rattle.interleaving.proofs.WorldLemmas.{takes_entry, can_count, reached_by, reached_with}
use Rattle.interleaving.proofs.CountLemmas.{goes_on}
use Rattle.interleaving.proofs.GoingOn.{kept_next}
use Rattle.interleaving.proofs.world.World.done.Goals as goal

pub apply-requires-clause-takes : goal.apply-requires-clause-takes
apply-requires-clause-takes g c = takes_entry _ _ c.args.event (reached_by _ _ _ _ _ c.self.invariant.reached).reached

pub count-requires : goal.count-requires
count-requires g c = can_count _ _ _ c.args.event (reached_by _ _ _ _ _ c.self.invariant.reached)
    (subst (λ (w : WorldView). May w.plan w.state c.args.event) (sym c.self.view_is) c.requires)

pub invariant_of-self : goal.invariant_of-self
invariant_of-self g c =
    let old = c.self.inside.tables in
    let counts = c.self.inside.tally in
    let legal : IsLegal old.plan old.state c.args.event c.apply.new.self.state = record {
      may = subst (λ (w : WorldView). May w.plan w.state c.args.event) (sym c.self.view_is) c.requires;
      leads = c.apply.ensures.state;
    } in
    let counted : GoOnBy counts (c.args.event ∷ []) c.count.new.self =
    subst (GoOnBy counts (c.args.event ∷ [])) (sym c.count.ensures)
    (goes_on c.args.event counts (can_count _ _ _ c.args.event (reached_by _ _ _ _ _ c.self.invariant.reached) legal.may)) in
    record {
      reached = subst (λ plan. IsReachedBy plan c.self.inside.start.value.state c.after-self-inside.result.events c.apply.new.self.state c.count.new.self)
          (sym c.apply.ensures.plan)
          (reached_with old.plan c.self.inside.start.value.state c.self.inside.past.events c.after-self-inside.result.events old.state c.apply.new.self.state
          counts c.count.new.self c.args.event c.self.invariant.reached legal counted c.after-self-inside.ensures);
      kept = kept_next c.self.inside.past.events c.after-self-inside.result.events c.self.inside.tape c.keep.new.self c.args.event c.self.invariant.kept
          c.after-self-inside.ensures c.keep.ensures;
    }
