-- Many hands are lent to one seat for one load.
use Rattle.std.proofs.Common.{zero, suc, false, ◌==◌, take, drop, get_or, arith, ◌≡◌, ◌≢◌, ℕ, ◌<◌, List, [], ◌∷◌, ◌++◌, length, set, refl, sym, ap, ◌∙◌, subst}
use lib.Seq.{set-get_or}
use mathlib.Core.Option.{none}
use Rattle.atomic_table.specs.Table.{Me, step, keeps, Allows, Splits}
use Rattle.lab_plan.specs.LabPlan.{LabPlan}
use Rattle.legal_steps.specs.State.{seat}
use Rattle.legal_steps.specs.Counting.{counts_of}
use Rattle.edge_rule.specs.CalmEdges.{AreStill}
use Rattle.turns.specs.Acts.{IsSettled}
use Rattle.edge_rule.specs.NeededBottles.{AreNeeded}
use Rattle.edge_rule.specs.DeskInside.{kept, AreOfPlan, AtRest, IsDesk}
use Rattle.edge_rule.specs.declared.desk.Desk.TheInside.{Inside}
use Rattle.atomic_table.specs.declared.shared.Seat.{Seat}
use Rattle.edge_rule.specs.DeskView.{DeskView}
use Rattle.edge_rule.specs.Company.{jobs_of}
use Rattle.edge_rule.specs.Lending.{HasLast}
use Rattle.one_history.specs.declared.board.Hand.{Hand}
use Rattle.one_history.specs.declared.board.View.{View}
use Rattle.instrument_log.specs.InstrumentLog.{LogView}
use Rattle.turns.specs.History.{IsHistory, events_by}
use Rattle.turns.specs.Lists.{StartsWith, Each}
use Rattle.one_history.specs.Rule.{HasOneHistory}
use Rattle.one_history.specs.Grow.{mine, hand_or, hand_in, adding, IsMine, IsLed, rest_hands, Grows}
use Rattle.one_history.specs.Seating.{glued, lent_left, backed_left, backed_right, but_last, last_hand, but_last_from, last_from, noticed, taken_back}
use Rattle.one_history.proofs.Keeps.{appends, tells, grown}
use Rattle.one_history.proofs.Seats.{moves_hand}
use Rattle.turns.proofs.Runs.{each-append}

but_last_snoc : (x : Hand) (l : List Hand) (y : Hand) → but_last_from x (l ++ y ∷ []) ≡ x ∷ l
but_last_snoc x [] y = refl
but_last_snoc x (z ∷ l) y = ap (λ r. x ∷ r) (but_last_snoc z l y)

last_snoc : (x : Hand) (l : List Hand) (y : Hand) → last_from x (l ++ y ∷ []) ≡ y ∷ []
last_snoc x [] y = refl
last_snoc x (z ∷ l) y = last_snoc z l y

pub each_begin : {A : Type 0} (P : A → Type 0) (a b : List A) → Each P (a ++ b) → Each P a
each_begin P [] b e = tt
each_begin P (x ∷ a) b e = (e.0, each_begin P a b e.1)

pub each_end : {A : Type 0} (P : A → Type 0) (a b : List A) → Each P (a ++ b) → Each P b
each_end P [] b e = e
each_end P (x ∷ a) b e = each_end P a b e.1

module _ (p : LabPlan) where
  -- the last hand goes to a seat of its own
  pub backs : (id : ℕ) (v : View) (x : Hand) (l : List Hand) (y : Hand) → v.hands ≡ x ∷ (l ++ y ∷ [])
      → Each (λ (z : Hand). z.job ≢ y.job) (x ∷ l) → Splits (HasOneHistory p) id v (backed_left v) (backed_right v)
  backs id v x l y is apart = moves_hand p id v (backed_left v) (backed_right v) y (λ h f t. (f, t)) (λ h f t. ((h, refl), tt))
      (λ P e. subst (Each P) (sym (ap but_last is ∙ but_last_snoc x l y)) (each_begin P (x ∷ l) (y ∷ []) (subst (Each P) is e)))
      (λ P e. (each_end P (x ∷ l) (y ∷ []) (subst (Each P) is e)).0)
      (ap last_hand is ∙ last_snoc x l y)
      (subst (Each (λ (z : Hand). z.job ≢ y.job)) (sym (ap but_last is ∙ but_last_snoc x l y)) apart)

  pub notices : (slots id : ℕ) (v : View) (c : List (ℕ × LogView)) → IsLed v
      → Allows (HasOneHistory p) slots id (v, c) 0 (λ n. n) (noticed (step slots 0 0 0 none) (v, c))
  notices slots id v c led s k _ at _ = (
    grown p v k.history [],
    keeps,
    tt,
    subst (λ ws. HasOneHistory p record { words = ws; homes = s.homes; views = set s.views id (grown p v k.history []) }) (sym (set-get_or s.words 0 0))
        (appends p s k id v at led [] tt tt s.words k.words s.homes k.homes),
    (tells p s k id v at led [] tt tt, refl),
  )

module _ (v o : View) (led : IsLed v) (theirs : IsMine o) where
  x : Hand
  x = hand_in v

  pub hands_are : (glued v o).hands ≡ hand_in v ∷ (rest_hands v.hands ++ hand_in o ∷ [])
  hands_are = λ i. led.0 i ++ theirs i

  pub leads_all : hand_in (glued v o) ≡ hand_in v
  leads_all = ap hand_or hands_are

  led_all : Each (λ (y : Hand). y.job ≢ (hand_in o).job) v.hands → IsLed (glued v o)
  led_all apart = let a = subst (Each (λ (y : Hand). y.job ≢ (hand_in o).job)) led.0 apart in (
    hands_are ∙ (λ i. sym leads_all i ∷ ap rest_hands (sym hands_are) i),
    subst (λ (z : Hand × List Hand). Each (λ (y : Hand). y.job ≢ z.0.job) z.1) (λ i. (sym leads_all i, ap rest_hands (sym hands_are) i))
        (each-append (λ (y : Hand). y.job ≢ (hand_in v).job) (rest_hands v.hands) (hand_in o ∷ []) led.1 ((λ e. a.0 (sym e)), tt)),
  )

  pub led_lent : (u : View) → u ≡ glued v o → Each (λ (y : Hand). y.job ≢ (hand_in o).job) v.hands → IsLed u
  led_lent u is apart = subst IsLed (sym is) (led_all apart)

  -- what the load told, of the view before it and that after it
  module _ (u w : View) (is : u ≡ glued v o) (grown : Grows u [] w) where
    t : Grows (glued v o) [] w
    t = subst (λ (z : View). Grows z [] w) is grown

    hands_then : w.hands ≡ adding (hand_in v) [] ∷ (rest_hands v.hands ++ hand_in o ∷ [])
    hands_then = t.hands ∙ (λ i. adding (leads_all i) [] ∷ ap rest_hands hands_are i)

    beside_all : Each (λ (y : Hand). events_by y.job w.front ≡ y.deeds) (rest_hands v.hands ++ hand_in o ∷ [])
    beside_all = subst (Each (λ (y : Hand). events_by y.job w.front ≡ y.deeds)) (ap rest_hands hands_are) t.beside

    pub has_last : Each (λ (y : Hand). y.job ≢ (hand_in o).job) v.hands → HasLast w
    has_last apart = record {
      own = adding (hand_in v) [];
      before = rest_hands v.hands;
      last = hand_in o;
      hands = hands_then;
      apart = subst (Each (λ (y : Hand). y.job ≢ (hand_in o).job)) led.0 apart;
    }

    pub grows_back : (b : View) → b ≡ backed_left w → Grows v [] b
    grows_back b left = subst (Grows v []) (sym left) (record {
      hands = ap but_last hands_then ∙ but_last_snoc (adding (hand_in v) []) (rest_hands v.hands) (hand_in o);
      between = t.between;
      front = t.front;
      told = each_begin (StartsWith w.front) v.told (o.front ∷ o.told) t.told;
      none_told = t.none_told;
      legal = subst (λ (z : Hand). IsHistory z.plan w.front) leads_all t.legal;
      whole = subst (λ (z : Hand). events_by z.job w.front ≡ z.deeds ++ []) leads_all t.whole;
      beside = each_begin (λ (y : Hand). events_by y.job w.front ≡ y.deeds) (rest_hands v.hands) (hand_in o ∷ []) beside_all;
    })

    pub starts_there : StartsWith w.front o.front
    starts_there = (each_end (StartsWith w.front) v.told (o.front ∷ o.told) t.told).0

    pub whole_there : events_by (hand_in o).job w.front ≡ (hand_in o).deeds
    whole_there = (each_end (λ (y : Hand). events_by y.job w.front ≡ y.deeds) (rest_hands v.hands) (hand_in o ∷ []) beside_all).0

    -- the other seat, after it lent its hand and got it back
    pub as_it_was : (slots : List (ℕ × LogView)) (a b : Me LogView View) → a ≡ (lent_left o, slots) → b ≡ (taken_back a.0 (backed_right w), a.1)
        → o.told ≡ [] → b ≡ (o, slots)
    as_it_was slots a b lent back none_told =
        let same : taken_back (lent_left o) (backed_right w) ≡ o = λ i. record {
          hands = ((ap last_hand hands_then ∙ last_snoc (adding (hand_in v) []) (rest_hands v.hands) (hand_in o)) ∙ sym theirs) i;
          front = o.front;
          told = sym none_told i;
        } in
        back ∙ ((λ i. (taken_back (lent i).0 (backed_right w), (lent i).1)) ∙ (λ i. (same i, slots)))

-- a list that was split behind its first
pub split_first : {A : Type 0} (l front back : List A) (y : A) → 0 < length l → front ≡ take 1 l
    → back ≡ drop 1 l → (l ≡ get_or front 0 y ∷ back) × (front ≡ get_or front 0 y ∷ [])
split_first [] front back y long f b = absurd (omega arith)
split_first (x ∷ l) front back y long f b =
    let g : front ≡ x ∷ [] = f in
    let h : back ≡ l = b in
    let same : get_or front 0 y ≡ x = ap (λ z. get_or z 0 y) g in
    (λ i. sym same i ∷ sym h i, g ∙ ap (λ z. z ∷ []) (sym same))

pub some_left : (n : ℕ) → false ≡ (n == 0) → 0 < n
some_left zero e = absurd (cc)
some_left (suc n) e = omega arith

pub apart_more : (hands : List Hand) (h : Hand) (back : List DeskView) → Each (λ (d : DeskView). Each (λ (y : Hand). y.job ≢ d.job) hands) back
    → Each (λ (k : ℕ). k ≢ h.job) (jobs_of back) → Each (λ (d : DeskView). Each (λ (y : Hand). y.job ≢ d.job) (hands ++ h ∷ [])) back
apart_more hands h [] a e = tt
apart_more hands h (d ∷ back) a e = (each-append (λ (y : Hand). y.job ≢ d.job) hands (h ∷ []) a.0 ((λ q. e.0 (sym q)), tt), apart_more hands h back a.1 e.1)

-- a desk whose seat is as before
pub desk_still : {A : Type 0} (d : Inside A) (s : Seat LogView View) → s.me ≡ d.seat.me → IsDesk d
    → IsDesk record {
      seat = s;
      job = d.job;
      phase = d.phase;
      fork_marks = d.fork_marks;
      bottle_marks = d.bottle_marks;
      seen = d.seen;
      calm = d.calm;
      settled = d.settled;
      needed = d.needed;
      clock = d.clock;
      counts = d.counts;
      apart = d.apart;
    }
desk_still d s e ok = let v = sym (ap (λ (m : Me LogView View). m.0) e) in record {
  at_rest = subst AtRest v ok.at_rest;
  empty = ap (λ (m : Me LogView View). m.1) e ∙ ok.empty;
  job = subst (λ z. (hand_in z).job ≡ d.job) v ok.job;
  counts = subst (λ z. counts_of (hand_in z).job (hand_in z).deeds ≡ d.counts) v ok.counts;
  own = subst (λ z. seat (mine z) (hand_in z).job ≡ kept d) v ok.own;
  seen = subst (λ (z : View). (mine z).edges ≡ d.seen.items) v ok.seen;
  of_plan = subst (λ z. AreOfPlan (hand_in z).plan d.seen.items) v ok.of_plan;
  calm = subst (λ (z : View). AreStill (hand_in z).plan (mine z) (hand_in z).job d.calm.items) v ok.calm;
  settled = λ is. subst (λ (z : View). IsSettled (hand_in z).plan (mine z) (hand_in z).job) v (ok.settled is);
  needed = subst (λ (z : View). AreNeeded (hand_in z).plan (hand_in z).job d.phase d.needed.items) v ok.needed;
  rests = ok.rests;
}
