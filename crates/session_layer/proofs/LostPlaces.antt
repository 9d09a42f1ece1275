-- Where a lost exchange stands: between what the job did before it and what it did after.
use Rattle.std.proofs.Common.{◌≡◌, ◌≢◌, ℕ, ◌≤◌, Bool, true, false, if◌then◌else◌, cond, List, [], ◌∷◌, ◌++◌, length, refl, sym, ap, ◌∙◌, subst, arith, append_assoc, length-append}
use Rattle.std.proofs.lemmas.List.Elements.{filter-append}
use Rattle.lab_plan.specs.LabPlan.{LabPlan}
use Rattle.legal_steps.specs.declared.edge_state.EdgeState.{EdgeState}
use Rattle.legal_steps.specs.declared.event.Event.{Event}
use Rattle.legal_steps.specs.State.{State, edge}
use Rattle.legal_steps.specs.Run.{after_all}
use Rattle.turns.specs.History.{is_by, events_by}
use Rattle.turns.specs.Lists.{Each}
use Rattle.edge_rule.proofs.ManyHands.{each_begin, each_end}
use Rattle.turns.specs.Turns.{Group, Did, Lost, Stands, flat, but_glances, is_glance}
use Rattle.session_layer.specs.Grown.{IsLostAt, LosesInBetween}
use Rattle.session_layer.proofs.Grows.{but-append, after_both}

append_cancel : (a b c : List Event) → a ++ b ≡ a ++ c → b ≡ c
append_cancel [] b c e = e
append_cancel (x ∷ a) b c e = append_cancel a b c (cc)

-- nothing comes before what is already as long as the whole
none_first : (x y z : List Event) → x ++ y ≡ z → length z ≤ length y → x ≡ []
none_first [] y z is long = refl
none_first (e ∷ x) y z is long = let n = ap (λ (l : List Event). length l) is in let m = length-append x y in absurd (omega (arith, n, m, long))

module _ (j : ℕ) where
  -- what the job did there, but for Glances
  abbrev own : List Event → List Event
  own h = but_glances (events_by j h)

  own-append : (a b : List Event) → own (a ++ b) ≡ own a ++ own b
  own-append a b = ap but_glances (filter-append (is_by j) a b) ∙ but-append (events_by j a) (events_by j b)

  abbrev IsDeed : Event → Type 0
  IsDeed x = (is_by j x ≡ true) × (is_glance x ≡ false)

  own_deeds : (h : List Event) → Each IsDeed (own h)
  own_deeds [] = tt
  own_deeds (x ∷ h) = at (is_by j x) (is_glance x) refl refl (own_deeds h) where
    at : (b c : Bool) → is_by j x ≡ b → is_glance x ≡ c → Each IsDeed (own h) → Each IsDeed (but_glances (cond b (x ∷ events_by j h) (events_by j h)))
    at false c by is more = more
    at true true by is more = subst (λ (c : Bool). Each IsDeed (if c then own h else x ∷ own h)) (sym is) more
    at true false by is more = subst (λ (c : Bool). Each IsDeed (if c then own h else x ∷ own h)) (sym is) ((by, is), more)

  own_all : (g : List Event) → Each IsDeed g → own g ≡ g
  own_all [] all = refl
  own_all (x ∷ g) all = ap (λ (b : Bool). but_glances (cond b (x ∷ events_by j g) (events_by j g))) all.0.0
      ∙ (ap (λ (c : Bool). if c then own g else x ∷ own g) all.0.1 ∙ ap (λ l. x ∷ l) (own_all g all.1))

  own_parts : (h before g after : List Event) → h ≡ before ++ (g ++ after) → Each IsDeed g → own h ≡ own before ++ (g ++ own after)
  own_parts h before g after is all =
      ap own is ∙ (own-append before (g ++ after) ∙ ap (λ l. own before ++ l) (own-append g after ∙ ap (λ l. l ++ own after) (own_all g all)))

  module _ (plan : LabPlan) where
    -- the job did there at least what stands there
    stands_long : (s : State) (gs : List Group) (h : List Event) → Each IsDeed (flat gs) → Stands plan s gs h → length (flat gs) ≤ length (own h)
    stands_long s [] h all t = omega arith
    stands_long s (Did g ∷ gs) h all (before, after, is, rest) =
        let n = stands_long (after_all plan s (before ++ g)) gs after (each_end IsDeed g (flat gs) all) rest in
        let q = ap (λ (l : List Event). length l) (own_parts h before g after is (each_begin IsDeed g (flat gs) all)) in
        omega (arith, n, q, length-append (own before) (g ++ own after), length-append g (own after), length-append g (flat gs))
    stands_long s (Lost e saw ∷ gs) h all (before, after, is, other, rest) =
        let n = stands_long (after_all plan s before) gs after all rest in
        let q = ap (λ (l : List Event). length l) (ap own is ∙ own-append before after) in
        omega (arith, n, q, length-append (own before) (own after))

    lost_at : (s : State) (a b : List Group) (e : ℕ) (saw : EdgeState) (h : List Event) → own h ≡ flat (a ++ Lost e saw ∷ b)
        → Each IsDeed (flat (a ++ Lost e saw ∷ b)) → Stands plan s (a ++ Lost e saw ∷ b) h → IsLostAt plan j s a b e saw h
    lost_at s [] b e saw h is_own all (before, after, is, other, rest) =
        let parts : own before ++ own after ≡ flat b = sym (own-append before after) ∙ (ap own (sym is) ∙ is_own) in
        let none : own before ≡ [] = none_first (own before) (own after) (flat b) parts (stands_long (after_all plan s before) b after all rest) in
        record {
          before = before;
          after = after;
          splits = is;
          earlier = none;
          later = ap (λ l. l ++ own after) (sym none) ∙ parts;
          other = other;
        }
    lost_at s (Did g ∷ a) b e saw h is_own all (p, q, is, rest) =
        let gs : List Group = a ++ Lost e saw ∷ b in
        let mine : Each IsDeed g = each_begin IsDeed g (flat gs) all in
        let others : Each IsDeed (flat gs) = each_end IsDeed g (flat gs) all in
        let parts : own p ++ (g ++ own q) ≡ g ++ flat gs = sym (own_parts h p g q is mine) ∙ is_own in
        let long = stands_long (after_all plan s (p ++ g)) gs q others rest in
        let none : own p ≡ [] = none_first (own p) (g ++ own q) (g ++ flat gs) parts
        (omega (arith, long, length-append g (own q), length-append g (flat gs))) in
        let next = lost_at (after_all plan s (p ++ g)) a b e saw q
        (append_cancel g (own q) (flat gs) (ap (λ l. l ++ (g ++ own q)) (sym none) ∙ parts)) others rest in
        record {
          before = p ++ (g ++ next.before);
          after = next.after;
          splits = is ∙ (ap (λ l. p ++ (g ++ l)) next.splits ∙ (ap (λ l. p ++ l) (sym (append_assoc g next.before next.after))
              ∙ sym (append_assoc p (g ++ next.before) next.after)));
          earlier = own_parts (p ++ (g ++ next.before)) p g next.before refl mine ∙ (λ i. none i ++ (g ++ next.earlier i));
          later = next.later;
          other = subst (λ (z : State). edge z e ≢ saw)
              (sym (after_both plan s (p ++ (g ++ next.before)) (p ++ g) next.before (sym (append_assoc p g next.before)))) next.other;
        }
    lost_at s (Lost n was ∷ a) b e saw h is_own all (p, q, is, changed, rest) =
        let gs : List Group = a ++ Lost e saw ∷ b in
        let parts : own p ++ own q ≡ flat gs = sym (own-append p q) ∙ (ap own (sym is) ∙ is_own) in
        let none : own p ≡ [] = none_first (own p) (own q) (flat gs) parts (stands_long (after_all plan s p) gs q all rest) in
        let next = lost_at (after_all plan s p) a b e saw q (ap (λ l. l ++ own q) (sym none) ∙ parts) all rest in
        record {
          before = p ++ next.before;
          after = next.after;
          splits = is ∙ (ap (λ l. p ++ l) next.splits ∙ sym (append_assoc p next.before next.after));
          earlier = own-append p next.before ∙ (λ i. none i ++ next.earlier i);
          later = next.later;
          other = subst (λ (z : State). edge z e ≢ saw) (sym (after_both plan s (p ++ next.before) p next.before refl)) next.other;
        }

pub loses_in_between : LosesInBetween
loses_in_between = λ plan j s a b e saw h is t. lost_at j plan s a b e saw h is (subst (Each (IsDeed j)) is (own_deeds j h)) t
