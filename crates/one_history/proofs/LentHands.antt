-- A desk is met: its hand is lent to the other's seat for one load.
use Rattle.std.proofs.Common.{◌≡◌, ◌≢◌, List, [], ◌∷◌, ◌++◌, sym, ap, ◌∙◌, subst}
use Rattle.legal_steps.specs.declared.event.Event.{Event}
use Rattle.one_history.specs.declared.board.Hand.{Hand}
use Rattle.one_history.specs.declared.board.View.{View}
use Rattle.turns.specs.History.{IsHistory, events_by}
use Rattle.turns.specs.Lists.{StartsWith, Each}
use Rattle.one_history.specs.Grow.{hand_or, hand_in, adding, IsMine, IsLed, rest_hands, Grows}
use Rattle.one_history.specs.Seating.{first_hand, glued, lent_left, returned_left, returned_right, taken_back}

module _ (v o : View) (mine : IsMine v) (theirs : IsMine o) where
  pub both_hands : (glued v o).hands ≡ hand_in v ∷ hand_in o ∷ []
  both_hands = λ i. mine i ++ theirs i

  pub leads : hand_in (glued v o) ≡ hand_in v
  leads = ap hand_or both_hands

  pub led_both : (hand_in o).job ≢ (hand_in v).job → IsLed (glued v o)
  led_both apart = (
    both_hands ∙ (λ i. sym leads i ∷ ap rest_hands (sym both_hands) i),
    subst (λ (z : Hand × List Hand). Each (λ (y : Hand). y.job ≢ z.0.job) z.1) (λ i. (sym leads i, ap rest_hands (sym both_hands) i)) (apart, tt),
  )

  module _ (g : List Event) (w : View) (t : Grows (glued v o) g w) where
    pub hands_after : w.hands ≡ adding (hand_in v) g ∷ hand_in o ∷ []
    hands_after = t.hands ∙ (λ i. adding (leads i) g ∷ ap rest_hands both_hands i)

    -- what the load told, without the hand that was lent
    pub grows_alone : v.told ≡ [] → Grows v g (returned_left w)
    grows_alone none = record {
      hands = ap first_hand hands_after ∙ (λ i. adding (hand_in v) g ∷ sym (ap rest_hands mine) i);
      between = t.between;
      front = t.front;
      told = subst (Each (StartsWith w.front)) (sym none) tt;
      none_told = t.none_told;
      legal = subst (λ (z : Hand). IsHistory z.plan w.front) leads t.legal;
      whole = subst (λ (z : Hand). events_by z.job w.front ≡ z.deeds ++ g) leads t.whole;
      beside = subst (Each (λ (y : Hand). events_by y.job w.front ≡ y.deeds)) (sym (ap rest_hands mine)) tt;
    }

    pub starts_theirs : v.told ≡ [] → StartsWith w.front o.front
    starts_theirs none = (subst (λ (z : List (List Event)). Each (StartsWith w.front) (z ++ o.front ∷ o.told)) none t.told).0

    pub whole_theirs : events_by (hand_in o).job w.front ≡ (hand_in o).deeds
    whole_theirs = (subst (Each (λ (y : Hand). events_by y.job w.front ≡ y.deeds)) (ap rest_hands both_hands) t.beside).0

    -- and the other has its hand again
    pub as_before : o.told ≡ [] → taken_back (lent_left o) (returned_right w) ≡ o
    as_before none = λ i. record { hands = (ap rest_hands hands_after ∙ sym theirs) i; front = o.front; told = sym none i }
