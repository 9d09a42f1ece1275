-- A row of desks, of which the first lends its hand while the others are heard.
use Rattle.std.proofs.Common.{◌≡◌, ◌≢◌, ◌<◌, true, false, ◌==◌, ne_eqb, List, [], ◌∷◌, ◌++◌, length, get_or, set, take, drop, refl, sym, ap, ◌∙◌, subst, arith}
use Rattle.std.proofs.lemmas.Bool.{false≢true}
use Rattle.atomic_table.specs.Seated.{TableId}
use Rattle.atomic_table.specs.Table.{Me}
use Rattle.atomic_table.specs.declared.shared.Seat.{Seat as TableSeat}
use Rattle.instrument_log.specs.InstrumentLog.{LogView}
use Rattle.legal_steps.specs.declared.event.Event.{Event}
use Rattle.one_history.specs.declared.board.Hand.{Hand}
use Rattle.one_history.specs.declared.board.View.{View}
use Rattle.turns.specs.History.{events_by}
use Rattle.turns.specs.Lists.{StartsWith, Each}
use Rattle.one_history.specs.Grow.{hand_in, IsMine}
use Rattle.one_history.specs.Seating.{glued}
use Rattle.edge_rule.specs.declared.clock.Clock.{Clock}
use Rattle.edge_rule.specs.DeskView.{DeskView}
use Rattle.edge_rule.specs.DeskInside.{seat_view}
use Rattle.edge_rule.specs.BenchInside.{IsBench}
use Rattle.edge_rule.specs.declared.bench.Bench.TheInside as bench_fields
use Rattle.edge_rule.specs.Company.{Distinct, Met, jobs_of}
use Rattle.edge_rule.proofs.ManyHands.{split_first, some_left, apart_more}

-- ---- an empty row

not_empty : {A : Type 0} (x : A) (l : List A) → true ≡ (length (x ∷ l) == 0) → ⊥
not_empty x l e = let other : (length (x ∷ l) == 0) ≡ false = ne_eqb (length (x ∷ l)) 0 (λ q. absurd (omega (arith, q))) in false≢true (sym (e ∙ other))

pub none_left : {A : Type 0} (P : A → Type 0) (l : List A) → true ≡ (length l == 0) → Each P l
none_left P [] e = tt
none_left P (x ∷ l) e = absurd (not_empty x l e)

pub none_met : (l : List DeskView) → true ≡ (length l == 0) → Met l l
none_met [] e = refl
none_met (d ∷ l) e = absurd (not_empty d l e)

-- the table has a word
pub some_word : {A : Type 0} (b : bench_fields.Inside A) → IsBench b → 0 < b.table.shared.table_id.words
some_word b ok = let words = ok.words in omega arith

-- ---- a row that isn't

abbrev seat_view_of : Clock → TableId → Me LogView View → DeskView
seat_view_of k t m = record {
  table = t;
  plan = (hand_in m.0).plan;
  job = (hand_in m.0).job;
  front = m.0.front;
  deeds = (hand_in m.0).deeds;
  groups = (hand_in m.0).groups;
  clock = k;
}

-- the list l, cut behind its first desk, whose seat is s
module _ (l front back : List DeskView) (y : DeskView) (some : false ≡ (length l == 0)) (f : front ≡ take 1 l) (b : back ≡ drop 1 l)
    (k : Clock) (s : TableSeat LogView View) (view : seat_view k s ≡ get_or front 0 y) where
  cut : (l ≡ get_or front 0 y ∷ back) × (front ≡ get_or front 0 y ∷ [])
  cut = split_first l front back y (some_left (length l) some) f b

  row_is : l ≡ seat_view k s ∷ back
  row_is = cut.0 ∙ (λ i. sym view i ∷ back)

  pub shorter : length back < length l
  shorter = let n : length l ≡ length (seat_view k s ∷ back) = ap length row_is in omega arith

  pub own_table : (id : TableId) → Each (λ (d : DeskView). d.table ≡ id) l → s.table_id ≡ id
  own_table id tables = (subst (Each (λ (d : DeskView). d.table ≡ id)) row_is tables).0

  pub other_tables : (id : TableId) → Each (λ (d : DeskView). d.table ≡ id) l → Each (λ (d : DeskView). d.table ≡ id) back
  other_tables id tables = (subst (Each (λ (d : DeskView). d.table ≡ id)) row_is tables).1

  pub away : (hands : List Hand) → Each (λ (d : DeskView). Each (λ (z : Hand). z.job ≢ d.job) hands) l
      → Each (λ (z : Hand). z.job ≢ (hand_in s.me.0).job) hands
  away hands aways = (subst (Each (λ (d : DeskView). Each (λ (z : Hand). z.job ≢ d.job) hands)) row_is aways).0

  pub others_apart : (v u : View) → IsMine s.me.0 → u ≡ glued v s.me.0 → Each (λ (d : DeskView). Each (λ (z : Hand). z.job ≢ d.job) v.hands) l
      → Distinct (jobs_of l) → Each (λ (d : DeskView). Each (λ (z : Hand). z.job ≢ d.job) u.hands) back × Distinct (jobs_of back)
  others_apart v u mine is aways distinct =
      let a = subst (Each (λ (d : DeskView). Each (λ (z : Hand). z.job ≢ d.job) v.hands)) row_is aways in
      let d = subst (λ (z : List DeskView). Distinct (jobs_of z)) row_is distinct in (
        subst (λ (z : List Hand). Each (λ (d : DeskView). Each (λ (y : Hand). y.job ≢ d.job) z) back)
            ((λ i. v.hands ++ sym mine i) ∙ ap (λ (z : View). z.hands) (sym is))
            (apart_more v.hands (hand_in s.me.0) back a.1 d.0),
        d.1,
      )

  pub all_start : (u w : View) → u.front ≡ w.front → StartsWith w.front s.me.0.front → Each (λ (d : DeskView). StartsWith w.front d.front) back
      → Each (λ (d : DeskView). StartsWith u.front d.front) l
  all_start u w same here there = subst (λ (z : List DeskView). Each (λ (d : DeskView). StartsWith u.front d.front) z) (sym row_is)
      (subst (λ (z : List Event). StartsWith z s.me.0.front × Each (λ (d : DeskView). StartsWith z d.front) back) (sym same) (here, there))

  pub all_whole : (u w : View) → u.front ≡ w.front → events_by (hand_in s.me.0).job w.front ≡ (hand_in s.me.0).deeds
      → Each (λ (d : DeskView). events_by d.job w.front ≡ d.deeds) back → Each (λ (d : DeskView). events_by d.job u.front ≡ d.deeds) l
  all_whole u w same here there = subst (λ (z : List DeskView). Each (λ (d : DeskView). events_by d.job u.front ≡ d.deeds) z) (sym row_is)
      (subst (λ (z : List Event). (events_by (hand_in s.me.0).job z ≡ (hand_in s.me.0).deeds)
      × Each (λ (d : DeskView). events_by d.job z ≡ d.deeds) back) (sym same) (here, there))

  -- the row after the seat is as before
  pub all_same : (s' : TableSeat LogView View) (back' : List DeskView) → s'.table_id ≡ s.table_id → s'.me ≡ s.me → back' ≡ back
      → set front 0 (seat_view k s') ++ back' ≡ l
  all_same s' back' table me later =
      (λ i. set (cut.1 i) 0 (seat_view_of k (table i) (me i)) ++ later i) ∙ sym row_is
