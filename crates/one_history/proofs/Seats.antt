-- Seats that are dealt, cut and joined keep the rule.
use Rattle.std.proofs.Common.{◌≡◌, ◌≢◌, ℕ, zero, suc, ◌+◌, ◌-◌, ◌<◌, ◌⊎◌, inl, inr, Bool, if◌then◌else◌, ◌==◌, eq-eqb, ne_eqb, List, [], ◌∷◌, ◌++◌, map, length, get_or, set, replicate, refl, sym, ap, ◌∙◌, subst, ⊎_elim, arith, append-nil}
use mathlib.Core.Option.{some, some-injective, some-ne-none}
use lib.ListN.{get_elem?}
use Rattle.atomic_table.specs.Table.{State as TableState, Splits, Joins, Enters, opening}
use Rattle.atomic_table.proofs.Lists.{at_set}
use Rattle.lab_plan.specs.LabPlan.{LabPlan}
use Rattle.legal_steps.specs.declared.event.Event.{Event}
use Rattle.instrument_log.specs.declared.entry.Entry.{Entry}
use Rattle.one_history.specs.declared.board.Hand.{Hand}
use Rattle.one_history.specs.declared.board.View.{View}
use Rattle.instrument_log.specs.InstrumentLog.{LogView}
use Rattle.lab_plan.specs.IsPlan.{IsPlan}
use Rattle.instrument_log.specs.InstrumentLog.{empty_log}
use Rattle.legal_steps.specs.State.{State}
use Rattle.legal_steps.specs.Opening.{the_opening}
use Rattle.legal_steps.specs.WholeLogs.{room_of, log_with_room}
use Rattle.one_history.specs.Rule.{hand_after, fresh, first_view, Spelled, Homed, Held, Sees, HasOneHistory}
use Rattle.turns.specs.History.{IsHistory, state_after}
use Rattle.turns.specs.Lists.{StartsWith, Each}
use Rattle.one_history.specs.Grow.{rest_hands}
use Rattle.one_history.specs.Seating.{first_hand, dealt_left, dealt_right, note_of, glued, nothing, undealt, all_dealt, lent_left, returned_left, returned_right, taken_back}
use Rattle.turns.proofs.Runs.{each_map, each-append}

module _ {A : Type 0} where
  pub snoc_at : (l : List A) (a b : A) (j : ℕ) → get_elem? (l ++ a ∷ []) j ≡ some b → (get_elem? l j ≡ some b) ⊎ ((j ≡ length l) × (a ≡ b))
  snoc_at [] a b zero e = inr (refl, some-injective a b e)
  snoc_at [] a b (suc j) e = absurd (some-ne-none b (sym e))
  snoc_at (x ∷ xs) a b zero e = inl e
  snoc_at (x ∷ xs) a b (suc j) e = ⊎_elim inl (λ t. inr (ap suc t.0, t.1)) (snoc_at xs a b j e)

module _ (p : LabPlan) where
  fresh_held : (past : List Event) (owner : ℕ → ℕ) (id j n : ℕ) → ((i : ℕ) → owner i ≡ id) → Each (Held p past owner id) (fresh p past j n)
  fresh_held past owner id j zero all = tt
  fresh_held past owner id j (suc n) all = ((refl, refl, all j), fresh_held past owner id (suc j) n all)

  pub fresh_apart : (past : List Event) (k j n : ℕ) → k < j → Each (λ (y : Hand). y.job ≢ k) (fresh p past j n)
  fresh_apart past k j zero l = tt
  fresh_apart past k j (suc n) l = ((λ e. absurd (omega arith)), fresh_apart past k (suc j) n (omega arith))

  first_seat : (past : List Event) (id : ℕ) (v : View) → get_elem? (first_view p past ∷ []) id ≡ some v → Sees p past (λ _. 0) id v
  first_seat past zero v e = subst (λ (z : View). Sees p past (λ _. 0) 0 z) (some-injective (first_view p past) v e)
      (record { front = ([], sym (append-nil past)); told = tt; hands = fresh_held past (λ _. 0) 0 0 (length p.jobs) (λ _. refl) })
  first_seat past (suc id) v e = absurd (some-ne-none v (sym e))

  -- the rule at the start: words and logs are those of the state after what came before
  pub opens : (past : List Event) (ws : List ℕ) (xs : List LogView) → IsPlan p → IsHistory p past → Spelled p (state_after p past) ws
      → Homed p (state_after p past) (map some xs) → HasOneHistory p (opening ws xs (first_view p past))
  opens past ws xs is legal spelled homed =
      record { is_plan = is; history = past; owner = λ _. 0; legal = legal; words = spelled; homes = homed; seats = first_seat past }

  cut : (s : TableState LogView View) (k : HasOneHistory p s) (id : ℕ) (v left right : View) (owner : ℕ → ℕ)
      → get_elem? s.views id ≡ some v → Sees p k.history owner id left
      → Sees p k.history owner (length (set s.views id left)) right
      → ((other : ℕ) (u : View) → other ≢ id → Sees p k.history k.owner other u → Sees p k.history owner other u)
      → HasOneHistory p record { words = s.words; homes = s.homes; views = set s.views id left ++ right ∷ [] }
  cut s k id v left right owner at here there others = record {
    is_plan = k.is_plan;
    history = k.history;
    owner = owner;
    legal = k.legal;
    words = k.words;
    homes = k.homes;
    seats = λ other u e. ⊎_elim
        (λ (q : get_elem? (set s.views id left) other ≡ some u). ⊎_elim
        (λ (r : (other ≡ id) × (left ≡ u)). subst (λ (z : ℕ × View). Sees p k.history owner z.0 z.1) (λ i. (sym r.0 i, r.1 i)) here)
        (λ (r : (other ≢ id) × (get_elem? s.views other ≡ some u)). others other u r.0 (k.seats other u r.1)) (at_set s.views id other left u q))
        (λ (q : (other ≡ length (set s.views id left)) × (right ≡ u)). subst (λ (z : ℕ × View). Sees p k.history owner z.0 z.1) (λ i. (sym q.0 i, q.1 i)) there)
        (snoc_at (set s.views id left) right u other e);
  }

  both_each : (P Q R : Hand → Type 0) → ((y : Hand) → P y → Q y → R y) → (l : List Hand) → Each P l → Each Q l → Each R l
  both_each P Q R f [] a b = tt
  both_each P Q R f (y ∷ l) a b = (f y a.0 b.0, both_each P Q R f l a.1 b.1)

  -- what a view has seen was seen by the part too
  abbrev pub Less : View → View → Type 0
  Less v part = (h : List Event) → StartsWith h v.front → Each (StartsWith h) v.told → StartsWith h part.front × Each (StartsWith h) part.told

  -- one hand of a view goes to a seat of its own
  pub moves_hand : (id : ℕ) (v left right : View) (x : Hand) → Less v left → Less v right
      → ((P : Hand → Type 0) → Each P v.hands → Each P left.hands) → ((P : Hand → Type 0) → Each P v.hands → P x) → right.hands ≡ x ∷ []
      → Each (λ (y : Hand). y.job ≢ x.job) left.hands → Splits (HasOneHistory p) id v left right
  moves_hand id v left right x less_left less_right hands_left hand_right is apart s k at = let h : List Event = k.history in let f = k.seats id v at in
      let mine : Held p h k.owner id x = hand_right (Held p h k.owner id) f.hands in
      let n : ℕ = length (set s.views id left) in let owner : ℕ → ℕ = λ j. if x.job == j then n else k.owner j in
      let new_else : (j i : ℕ) → j ≢ x.job → k.owner j ≡ i → owner j ≡ i =
      λ j i ne e. ap (λ (b : Bool). if b then n else k.owner j) (ne_eqb x.job j (λ q. ne (sym q))) ∙ e in
      let l = less_left h f.front f.told in let r = less_right h f.front f.told in
      cut s k id v left right owner at
      (record {
        front = l.0;
        told = l.1;
        hands = both_each (λ (y : Hand). y.job ≢ x.job) (Held p h k.owner id) (Held p h owner id)
            (λ y ne t. (t.0, t.1, new_else y.job id ne t.2)) left.hands apart (hands_left (Held p h k.owner id) f.hands);
      })
      (record {
        front = r.0;
        told = r.1;
        hands = subst (Each (Held p h owner n)) (sym is) ((mine.0, mine.1, ap (λ (b : Bool). if b then n else k.owner x.job) (eq-eqb x.job x.job refl)), tt);
      })
      (λ other u ne g. record {
        front = g.front;
        told = g.told;
        hands = each_map (Held p h k.owner other) (Held p h owner other)
            (λ y t. (t.0, t.1, new_else y.job other (λ q. ne (sym t.2 ∙ (ap k.owner q ∙ mine.2))) t.2)) u.hands g.hands;
      })

  -- the first hand of a view goes to a seat of its own
  pub deals : (id : ℕ) (v : View) (x : Hand) (xs : List Hand) → v.hands ≡ x ∷ xs
      → Each (λ (y : Hand). y.job ≢ x.job) xs → Splits (HasOneHistory p) id v (dealt_left v) (dealt_right v)
  deals id v x xs is apart = moves_hand id v (dealt_left v) (dealt_right v) x (λ h f t. (f, t)) (λ h f t. (f, t))
      (λ P e. subst (λ (z : List Hand). Each P (rest_hands z)) (sym is) (subst (Each P) is e).1) (λ P e. (subst (Each P) is e).0) (ap first_hand is)
      (subst (λ (z : List Hand). Each (λ (y : Hand). y.job ≢ x.job) (rest_hands z)) (sym is) apart)

  -- the one hand of a view is lent
  pub lends : (id : ℕ) (v : View) (x : Hand) → v.hands ≡ x ∷ [] → Splits (HasOneHistory p) id v (lent_left v) v
  lends id v x is = moves_hand id v (lent_left v) v x (λ h f t. (f, tt)) (λ h f t. (f, t)) (λ P e. tt) (λ P e. (subst (Each P) is e).0) is tt

  -- the hand that was lent goes back
  pub returns : (id : ℕ) (v : View) (x y : Hand) → v.hands ≡ x ∷ y ∷ [] → y.job ≢ x.job → Splits (HasOneHistory p) id v (returned_left v) (returned_right v)
  returns id v x y is apart = moves_hand id v (returned_left v) (returned_right v) y (λ h f t. (f, t)) (λ h f t. ((h, refl), tt))
      (λ P e. subst (λ (z : List Hand). Each P (first_hand z)) (sym is) ((subst (Each P) is e).0, tt)) (λ P e. (subst (Each P) is e).1.0) (ap rest_hands is)
      (subst (λ (z : List Hand). Each (λ (y' : Hand). y'.job ≢ y.job) (first_hand z)) (sym is) ((λ e. apart (sym e)), tt))

  -- what a seat has seen goes to a new seat
  pub notes : (id : ℕ) (v : View) → Splits (HasOneHistory p) id v v (note_of v)
  notes id v s k at = let f = k.seats id v at in cut s k id v v (note_of v) k.owner at f (record { front = f.front; told = tt; hands = tt }) (λ other u ne g. g)

  -- a seat takes over the hands of another
  joins : (id : ℕ) (v : View) (other : ℕ) (w both : View) → both.hands ≡ v.hands ++ w.hands → Less (glued v w) both → Joins (HasOneHistory p) id v other w both nothing
  joins id v other w both is less s k at apart there =
      let h : List Event = k.history in
      let owner : ℕ → ℕ = λ j. if k.owner j == other then id else k.owner j in
      let f = k.seats id v at in
      let g : Sees p h k.owner other w =
      ⊎_elim (λ (r : (other ≡ id) × (both ≡ w)). absurd (apart r.0))
      (λ (r : (other ≢ id) × (get_elem? s.views other ≡ some w)). k.seats other w r.1) (at_set s.views id other both w there) in
      let kept_else : (j i : ℕ) → i ≢ other → k.owner j ≡ i → owner j ≡ i =
      λ j i ne e. ap (λ (b : Bool). if b then id else k.owner j) (ne_eqb (k.owner j) other (λ q. ne (sym e ∙ q))) ∙ e in
      record {
        is_plan = k.is_plan;
        history = h;
        owner = owner;
        legal = k.legal;
        words = k.words;
        homes = k.homes;
        seats = λ i u e. ⊎_elim
            (λ (q : (i ≡ other) × (nothing ≡ u)). subst (λ (z : View). Sees p h owner i z) q.1 (record { front = (h, refl); told = tt; hands = tt }))
            (λ (q : (i ≢ other) × (get_elem? (set s.views id both) i ≡ some u)). ⊎_elim
            (λ (r : (i ≡ id) × (both ≡ u)). subst (λ (z : ℕ × View). Sees p h owner z.0 z.1) (λ l. (sym r.0 l, r.1 l)) (record {
              front = (less h f.front (each-append (StartsWith h) v.told (w.front ∷ w.told) f.told (g.front, g.told))).0;
              told = (less h f.front (each-append (StartsWith h) v.told (w.front ∷ w.told) f.told (g.front, g.told))).1;
              hands = subst (Each (Held p h owner id)) (sym is) (each-append (Held p h owner id) v.hands w.hands
                  (each_map (Held p h k.owner id) (Held p h owner id) (λ y t. (t.0, t.1, kept_else y.job id (λ q. apart (sym q)) t.2)) v.hands f.hands)
                  (each_map (Held p h k.owner other) (Held p h owner id)
                  (λ y t. (t.0, t.1, ap (λ (b : Bool). if b then id else k.owner y.job) (eq-eqb (k.owner y.job) other t.2))) w.hands g.hands));
            }))
            (λ (r : (i ≢ id) × (get_elem? s.views i ≡ some u)). let m = k.seats i u r.1 in
            record {
              front = m.front;
              told = m.told;
              hands = each_map (Held p h k.owner i) (Held p h owner i) (λ y t. (t.0, t.1, kept_else y.job i q.0 t.2)) u.hands m.hands;
            })
            (at_set s.views id i both u q.1))
            (at_set (set s.views id both) other i nothing u e);
      }

  -- and is told what that one has seen
  pub glues : (id : ℕ) (v : View) (other : ℕ) (w : View) → Joins (HasOneHistory p) id v other w (glued v w) nothing
  glues id v other w = joins id v other w (glued v w) refl (λ h f t. (f, t))

  each_front : (P : List Event → Type 0) (a b : List (List Event)) → Each P (a ++ b) → Each P a
  each_front P [] b e = tt
  each_front P (x ∷ a) b e = (e.0, each_front P a b e.1)

  pub takes_back : (id : ℕ) (v : View) (other : ℕ) (w : View) → Joins (HasOneHistory p) id v other w (taken_back v w) nothing
  takes_back id v other w = joins id v other w (taken_back v w) refl (λ h f t. (f, each_front (StartsWith h) v.told (w.front ∷ w.told) t))

  pub undealt_next : (past : List Event) (j : ℕ) → j < length p.jobs
      → (undealt p past j).hands ≡ hand_after p past j ∷ fresh p past (suc j) (length p.jobs - suc j)
  undealt_next past j l = let e : length p.jobs - j ≡ suc (length p.jobs - suc j) = omega arith in ap (fresh p past j) e

  pub dealt_next : (past : List Event) (j : ℕ) → j < length p.jobs → dealt_left (undealt p past j) ≡ undealt p past (j + 1)
  dealt_next past j l =
      let e : suc j ≡ j + 1 = omega arith in
      ap (λ (z : List Hand). let v : View = record { hands = rest_hands z; front = past; told = [] } in v) (undealt_next past j l) ∙ ap (undealt p past) e

  pub undealt_last : (past : List Event) → undealt p past (length p.jobs) ≡ all_dealt past
  undealt_last past =
      let e : length p.jobs - length p.jobs ≡ 0 = omega arith in
      ap (λ (z : ℕ). let v : View = record { hands = fresh p past (length p.jobs) z; front = past; told = [] } in v) e

  some_at : (xs : List LogView) (i : ℕ) (x : LogView) → get_elem? xs i ≡ some x → get_elem? (map some xs) i ≡ some (some x)
  some_at [] i x e = absurd (some-ne-none x (sym e))
  some_at (y ∷ xs) zero x e = ap some e
  some_at (y ∷ xs) (suc i) x e = some_at xs i x e

  some_length : (xs : List LogView) → length (map some xs) ≡ length xs
  some_length [] = refl
  some_length (x ∷ xs) = ap suc (some_length xs)

  -- all logs at home
  pub all_homed : (w : State) (xs : List LogView) → length xs ≡ length p.instruments
      → ((i : ℕ) → i < length p.instruments → get_elem? xs i ≡ some (log_with_room p w i)) → Homed p w (map some xs)
  all_homed w xs n e = record { deep = some_length xs ∙ n; slots = λ i l. inl (some_at xs i (log_with_room p w i) (e i l)) }

  pub fresh_homed : (xs : List LogView) → length xs ≡ length p.instruments
      → ((i : ℕ) → i < length p.instruments → get_elem? xs i ≡ some (empty_log (room_of p i))) → Homed p (the_opening p) (map some xs)
  fresh_homed xs n e = record {
    deep = some_length xs ∙ n;
    slots = λ i l. inl (some_at xs i (log_with_room p (the_opening p) i) (e i l
        ∙ ap (λ (y : List Entry). let z : LogView = record { entries = y; room = room_of p i } in some z) (sym (no_entries (length p.instruments) i))));
  } where
    no_entries : (n i : ℕ) → get_or (replicate n (let y : List Entry = [] in y)) i [] ≡ []
    no_entries zero i = refl
    no_entries (suc n) zero = refl
    no_entries (suc n) (suc i) = no_entries n i

  -- a new seat that knows nothing
  pub enters : (slots i : ℕ) → Enters (HasOneHistory p) slots i (λ n w. w ≡ nothing)
  enters slots i s k _ _ = (
    nothing,
    record {
      is_plan = k.is_plan;
      history = k.history;
      owner = k.owner;
      legal = k.legal;
      words = k.words;
      homes = k.homes;
      seats =
          λ other u e. ⊎_elim (k.seats other u)
          (λ (q : (other ≡ length s.views) × (nothing ≡ u)). subst (λ (z : View). Sees p k.history k.owner other z) q.1
          (record { front = (k.history, refl); told = tt; hands = tt })) (snoc_at s.views nothing u other e);
    },
    refl,
  )
