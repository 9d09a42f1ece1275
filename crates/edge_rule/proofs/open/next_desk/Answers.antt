use Rattle.std.proofs.Common.{rules, ℕ, suc, List, [], length, replicate, refl, ap, ◌∙◌, arith}
use Rattle.std.proofs.lemmas.List.{length-replicate}
use Rattle.lab_plan.specs.LabPlan.{LabPlan}
use Rattle.legal_steps.specs.declared.event.Event.{Event}
use Rattle.one_history.specs.declared.board.View.{View}
use Rattle.one_history.specs.Rule.{hand_after}
use Rattle.one_history.specs.Grow.{hand_in}
use Rattle.one_history.specs.Seating.{dealt_left, dealt_right, first_hand}
use Rattle.one_history.proofs.Seats.{deals, fresh_apart, undealt_next, dealt_next}
use Rattle.edge_rule.proofs.Pasts.{session_within}
use Rattle.edge_rule.proofs.OpenedDesks.{known_is_desk}
use Rattle.edge_rule.specs.CalmEdges.{no_word}
use Rattle.edge_rule.proofs.open.next_desk.Goals as goal

pub split_seat-seat-requires : goal.split_seat-seat-requires
split_seat-seat-requires g0 c =
    let t = c.requires.table in
    let job = c.requires.job in
    let p : LabPlan = c.args.plan.now in
    let past : List Event = c.args.table.now.shared.key.past.events in
    let j : ℕ = c.args.job in (
      t.1,
      omega arith,
      deals c.args.table.now.shared.key.plan.value c.args.keeper.now.id c.args.keeper.now.me.0 (hand_after p past j) _
          (ap (λ m. m.0.hands) c.requires.left ∙ undealt_next p past j job) (fresh_apart p past j (suc j) _ (omega arith)),
    )

pub set_needed-requires-clause-in_session : goal.set_needed-requires-clause-in_session
set_needed-requires-clause-in_session g0 c =
    session_within c.args.plan.now c.args.job c.args.table.now.shared.key.past.events c.args.knowledge c.requires.past c.requires.job c.requires.known

pub set_needed-requires-clause-wide : goal.set_needed-requires-clause-wide
set_needed-requires-clause-wide g0 c =
    ap length (c.in_ok-needed.ensures.items_if_clones_equal (search rules)) ∙ (length-replicate _ 0 ∙ c.edges-count.ensures.edges)

pub invariant_of-result : goal.invariant_of-result
invariant_of-result g0 c = let p : LabPlan = c.args.plan.now in let past : List Event = c.args.table.now.shared.key.past.events in let j : ℕ = c.args.job in
    let e = c.split_seat-seat.ensures in
    known_is_desk _ c.args.knowledge p past j (e.4 ∙ ((λ i. (dealt_right (c.requires.left i).0, []))
    ∙ (λ i. (let v : View = record { hands = first_hand (undealt_next p past j c.requires.job i); front = past; told = [] } in v, []))))
    c.requires.job c.requires.past c.requires.known refl refl refl refl
    (c.in_ok-calm.ensures.items_if_clones_equal (search rules) ∙ ap (λ n. replicate n no_word) c.edges-count.ensures.edges) refl
    c.set_needed.ensures

pub returns-clause-keeper : goal.returns-clause-keeper
returns-clause-keeper g0 c = let e = c.split_seat-seat.ensures in let past : List Event = c.args.table.now.shared.key.past.events in (
  e.0,
  e.2 ∙ (λ i. (dealt_left (c.requires.left i).0, (c.requires.left i).1)) ∙ (λ i. (dealt_next c.args.plan.now past c.args.job c.requires.job i, [])),
)

pub returns-clause-desk : goal.returns-clause-desk
returns-clause-desk g0 c = let p : LabPlan = c.args.plan.now in let past : List Event = c.args.table.now.shared.key.past.events in let j : ℕ = c.args.job in
    let e = c.split_seat-seat.ensures in
    let me = e.4 ∙ ((λ i. (dealt_right (c.requires.left i).0, []))
    ∙ (λ i. (let v : View = record { hands = first_hand (undealt_next p past j c.requires.job i); front = past; told = [] } in v, []))) in
    λ i. record {
      table = e.3 i;
      plan = (hand_in (me i).0).plan;
      job = (hand_in (me i).0).job;
      front = (me i).0.front;
      deeds = (hand_in (me i).0).deeds;
      groups = (hand_in (me i).0).groups;
      clock = record { turns = 0; waited = 0; session = 0 };
    }
