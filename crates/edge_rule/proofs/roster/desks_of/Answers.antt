use Rattle.std.proofs.Common.{arith, sym, ◌∙◌}
use Rattle.std.proofs.lemmas.Bool.{eqb-true, eq-eqb, false≢true}
use Rattle.edge_rule.proofs.Rosters.{one_counted, none_counted, all_counted}
use Rattle.edge_rule.proofs.roster.desks_of.Goals as goal
use Rattle.edge_rule.proofs.roster.desks_of.Goals.{then-eq, else-eq}

pub loop-desk-preserved : goal.loop-desk-preserved
loop-desk-preserved g0 c = let desks = c.args.desks.now in elim c.if-eq.branch [
  | then-eq w ↦ let is = w.count-is in let few = c.loop-desk.invariant.few in record {
    counted = w.count-is ∙ one_counted desks c.loop-desk.desk-index c.desk-item.result c.args.job
        c.loop-desk.count c.loop-desk-test.true c.desk-item.is c.loop-desk.invariant.counted
        (sym c.job.ensures.job ∙ eqb-true c.job.result c.args.job (sym c.eq.ensures ∙ w.if-eq.true));
    few = omega arith;
  }
  | else-eq w ↦ let is = w.count-is in let few = c.loop-desk.invariant.few in record {
    counted = w.count-is ∙ none_counted desks c.loop-desk.desk-index c.desk-item.result c.args.job
        c.loop-desk.count c.loop-desk-test.true c.desk-item.is c.loop-desk.invariant.counted
        (λ e. false≢true (sym w.if-eq.false ∙ (c.eq.ensures ∙ eq-eqb c.job.result c.args.job (c.job.ensures.job ∙ e))));
    few = omega arith;
  }
]

pub returns : goal.returns
returns g0 c = all_counted c.args.desks.now c.loop-desk.count c.loop-desk.desk-index c.args.job c.loop-desk-test.false c.loop-desk.invariant.counted
