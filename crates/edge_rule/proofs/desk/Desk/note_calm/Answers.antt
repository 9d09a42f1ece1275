use Rattle.std.proofs.Common.{◌<◌, length, ap, ◌∙◌, arith}
use Rattle.edge_word.specs.Words.{word_of}
use Rattle.lab_plan.specs.LabPlan.{edges}
use Rattle.legal_steps.specs.State.{IsOwn}
use Rattle.edge_rule.specs.DeskView.{DeskView, known}
use Rattle.edge_rule.specs.CalmEdges.{IsStill}
use Rattle.edge_rule.proofs.DeskSteps.{of_seat, inside_seen, last_seen}
use Rattle.edge_rule.proofs.StillEdges.{one_more}
use Rattle.edge_rule.proofs.LookedEdges.{looked_own, looked_still}
use Rattle.edge_rule.proofs.Knowledge.{known_fits}
use Rattle.one_history.specs.Grow.{hand_in, mine}
use Rattle.edge_rule.proofs.desk.Desk.note_calm.Goals as goal

pub index-requires : goal.index-requires
index-requires g c =
    let n = c.self.inside.seen.ok.0 in
    let h = inside_seen c.self.inside c.self.invariant c.args.edge _ c.number-place.ensures.0
    (of_seat (λ (z : DeskView). c.args.edge < length (edges z.plan)) c.self.inside _ c.self.view_is c.requires.edge) in
    omega arith

pub invariant_of-self : goal.invariant_of-self
invariant_of-self g c =
    let d = c.self.inside in
    let ok = c.self.invariant in
    let still = of_seat (λ (z : DeskView). IsStill z.plan (known z) z.job c.args.edge) d _ c.self.view_is
    (looked_still _ c.args.edge (known_fits d _ c.self.view_is ok) c.requires.edge c.requires.calm c.requires.looked) in
    let seen =
    last_seen d ok c.args.edge c.number-place.result c.index.result.now c.number-place.ensures.0
    (of_seat (λ (z : DeskView). c.args.edge < length (edges z.plan)) d _ c.self.view_is c.requires.edge) c.index.ensures in
    record {
      at_rest = ok.at_rest;
      empty = ok.empty;
      job = ok.job;
      counts = ok.counts;
      own = ok.own;
      seen = ok.seen;
      of_plan = ok.of_plan;
      calm = one_more (hand_in d.seat.me.0).plan (mine d.seat.me.0) (hand_in d.seat.me.0).job c.args.edge c.number-place.result _ d.calm.items c.number-place.ensures.0
          (of_seat (λ (z : DeskView). IsOwn z.plan z.job c.args.edge) d _ c.self.view_is (looked_own _ c.args.edge c.requires.looked))
          (c.pack.ensures ∙ ap word_of seen) still ok.calm;
      settled = ok.settled;
      needed = ok.needed;
      rests = ok.rests;
    }
