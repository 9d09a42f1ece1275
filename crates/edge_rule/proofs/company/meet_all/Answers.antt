use Rattle.std.proofs.Common.{◌≡◌, ◌≢◌, ℕ, List, [], ◌∷◌, ◌++◌, length, get_or, set, refl, sym, ap, ◌∙◌, subst, append-nil}
use Rattle.one_history.specs.declared.board.Hand.{Hand}
use Rattle.edge_rule.specs.DeskView.{BenchView, DeskView, Owns, Adds}
use Rattle.edge_rule.specs.DeskInside.{seat_view}
use Rattle.edge_rule.specs.Company.{Met, Hears, Distinct, jobs_of}
use Rattle.turns.specs.History.{events_by}
use Rattle.one_history.specs.Grow.{hand_in}
use Rattle.turns.specs.Lists.{Each, StartsWith}
use Rattle.edge_rule.proofs.DeskSteps.{led, seat_adds, desk_keeps}
use Rattle.turns.proofs.Runs.{each_map}
use Rattle.edge_rule.proofs.ManyHands.{split_first, some_left, apart_more}
use Rattle.edge_rule.proofs.LentRow.{none_met, some_word, own_table}
use Rattle.edge_rule.proofs.company.meet_all.Goals as goal

nobody : (l : List DeskView) → Each (λ (d : DeskView). Each (λ (y : Hand). y.job ≢ d.job) []) l
nobody [] = tt
nobody (d ∷ l) = (tt, nobody l)

hears : (d : DeskView) (l : List DeskView) (e : DeskView) → Adds d [] e → Each (λ (x : DeskView). StartsWith e.front x.front) l
    → Each (λ (x : DeskView). events_by x.job e.front ≡ x.deeds) l → Hears d l e
hears d l e a starts wholes = record {
  table = a.table;
  clock = a.clock;
  plan = a.plan;
  job = a.job;
  deeds = a.deeds ∙ append-nil d.deeds;
  groups = a.groups;
  more = a.between;
  front = a.front ∙ append-nil (d.front ++ a.between);
  legal = a.legal;
  whole = a.whole;
  starts = starts;
  wholes = wholes;
}

pub returns-then-is_empty : goal.returns-then-is_empty
returns-then-is_empty g0 c = none_met c.args.desks.now c.if-is_empty.ensures

pub hear-requires-clause-table : goal.hear-requires-clause-table
hear-requires-clause-table g0 c = (
  own_table c.args.desks.now c.split_at_mut-front.result.0.now c.split_at_mut-front.result.1.now c.index-front-0.result
      c.if-is_empty.ensures c.split_at_mut-front.ensures.front c.split_at_mut-front.ensures.back c.first.inside.clock c.first.inside.seat c.first.view_is
      c.bench.inside.table.shared.table_id
      (each_map (Owns c.args.bench.now) (λ (d : DeskView). d.table ≡ c.bench.inside.table.shared.table_id)
      (λ d o. o.0 ∙ sym (ap (λ (b : BenchView). b.table) c.bench.view_is)) c.args.desks.now c.requires.own),
  some_word c.bench.inside c.bench.invariant,
)

pub hear-requires-clause-led : goal.hear-requires-clause-led
hear-requires-clause-led g0 c = (led c.first.inside.seat.me.0 c.first.invariant.at_rest.mine, c.first.invariant.empty)

pub hear-requires-clause-own : goal.hear-requires-clause-own
hear-requires-clause-own g0 c =
    let back : List DeskView = c.split_at_mut-front.result.1.now in
    let is = split_first c.args.desks.now c.split_at_mut-front.result.0.now back c.index-front-0.result
    (some_left (length c.args.desks.now) c.if-is_empty.ensures) c.split_at_mut-front.ensures.front c.split_at_mut-front.ensures.back in
    let owns = (subst (Each (Owns c.args.bench.now)) is.0 c.requires.own).1 in
    let table : c.args.bench.now.table ≡ c.bench.inside.table.shared.table_id = sym (ap (λ (b : BenchView). b.table) c.bench.view_is) in
    each_map (Owns c.args.bench.now) (λ (d : DeskView). d.table ≡ c.bench.inside.table.shared.table_id) (λ d o. o.0 ∙ table) back owns

pub hear-requires-clause-apart : goal.hear-requires-clause-apart
hear-requires-clause-apart g0 c = let is = split_first c.args.desks.now c.split_at_mut-front.result.0.now c.split_at_mut-front.result.1.now
    c.index-front-0.result (some_left (length c.args.desks.now) c.if-is_empty.ensures) c.split_at_mut-front.ensures.front c.split_at_mut-front.ensures.back in
    let d = subst (λ (z : List DeskView). Distinct (jobs_of z)) is.0 c.requires.apart in (
      subst (λ (z : List Hand). Each (λ (d : DeskView). Each (λ (y : Hand). y.job ≢ d.job) z) c.split_at_mut-front.result.1.now)
          (sym c.first.invariant.at_rest.mine)
          (apart_more [] (hand_in c.first.inside.seat.me.0) c.split_at_mut-front.result.1.now (nobody c.split_at_mut-front.result.1.now)
          (subst (λ (z : ℕ). Each (λ (k : ℕ). k ≢ z) (jobs_of c.split_at_mut-front.result.1.now)) (sym (ap (λ (z : DeskView). z.job) c.first.view_is)) d.0)),
      d.1,
    )

pub returns : goal.returns
returns g0 c = let is = split_first c.args.desks.now c.split_at_mut-front.result.0.now c.split_at_mut-front.result.1.now c.index-front-0.result
    (some_left (length c.args.desks.now) c.if-is_empty.ensures) c.split_at_mut-front.ensures.front c.split_at_mut-front.ensures.back in
    let h = c.hear.ensures in let back : List DeskView = c.split_at_mut-front.result.1.now in let e : DeskView = seat_view c.first.inside.clock c.hear.new.me in
    subst (λ (z : List DeskView). Met z (set c.split_at_mut-front.result.0.now 0 e ++ c.hear.new.others)) (sym is.0) (
      e,
      (λ i. set (is.1 i) 0 e ++ h.same i),
      hears (get_or c.split_at_mut-front.result.0.now 0 c.index-front-0.result) back e
          (seat_adds c.first.inside.seat c.hear.new.me _ (λ _. []) c.first.view_is h.grows h.seat.0) h.starts h.wholes,
    )

pub invariant_of-first : goal.invariant_of-first
invariant_of-first g0 c =
    let ok = c.first.invariant in
    let h = c.hear.ensures in
    desk_keeps c.first.inside ok _ [] tt h.grows h.seat.1 refl ok.own ok.seen ok.of_plan ok.calm ok.settled ok.rests
