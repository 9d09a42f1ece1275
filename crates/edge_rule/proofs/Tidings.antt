-- A seat without hands tells a desk's seat what it has seen.
use Rattle.std.proofs.Common.{◌≡◌, List, [], ◌∷◌, ◌++◌, sym, ap, ◌∙◌, subst, append-nil}
use Rattle.legal_steps.specs.declared.event.Event.{Event}
use Rattle.one_history.specs.declared.board.Hand.{Hand}
use Rattle.one_history.specs.declared.board.View.{View}
use Rattle.turns.specs.History.{IsHistory, events_by}
use Rattle.turns.specs.Lists.{StartsWith, Each}
use Rattle.one_history.specs.Grow.{hand_or, hand_in, adding, IsMine, rest_hands, Grows}
use Rattle.one_history.specs.Seating.{glued}
use Rattle.edge_rule.specs.DeskView.{DeskView, Adds}
use Rattle.edge_rule.specs.Telling.{Heard}
use Rattle.edge_rule.proofs.ManyHands.{each_begin, each_end}

module _ (v n : View) (mine : IsMine v) (none : n.hands ≡ []) where
  same_hands : (glued v n).hands ≡ hand_in v ∷ []
  same_hands = λ i. mine i ++ none i

  leads : hand_in (glued v n) ≡ hand_in v
  leads = ap hand_or same_hands

  pub still_mine : IsMine (glued v n)
  still_mine = same_hands ∙ (λ i. sym leads i ∷ [])

  module _ (both w : View) (is : both ≡ glued v n) (grows : Grows both [] w) where
    t : Grows (glued v n) [] w
    t = subst (λ (z : View). Grows z [] w) is grows

    pub grows_by_news : Grows v [] w
    grows_by_news = record {
      hands = t.hands ∙ (λ i. adding (leads i) [] ∷ (ap rest_hands same_hands ∙ sym (ap rest_hands mine)) i);
      between = t.between;
      front = t.front;
      told = each_begin (StartsWith w.front) v.told (n.front ∷ n.told) t.told;
      none_told = t.none_told;
      legal = subst (λ (z : Hand). IsHistory z.plan w.front) leads t.legal;
      whole = subst (λ (z : Hand). events_by z.job w.front ≡ z.deeds ++ []) leads t.whole;
      beside = subst (Each (λ (y : Hand). events_by y.job w.front ≡ y.deeds)) (sym (ap rest_hands mine)) tt;
    }

    pub starts_news : StartsWith w.front n.front
    starts_news = (each_end (StartsWith w.front) v.told (n.front ∷ n.told) t.told).0

pub heard : (d : DeskView) (news : List Event) (e : DeskView) → Adds d [] e → StartsWith e.front news → Heard d news e
heard d news e a starts = record {
  table = a.table;
  clock = a.clock;
  plan = a.plan;
  job = a.job;
  deeds = a.deeds ∙ append-nil d.deeds;
  groups = a.groups;
  more = a.between;
  front = a.front ∙ append-nil (d.front ++ a.between);
  starts = starts;
  legal = a.legal;
  whole = a.whole;
}
