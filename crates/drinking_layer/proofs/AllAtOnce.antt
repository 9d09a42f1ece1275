-- All bottles at once: whether there are some, and what an exchange of them is.
use Rattle.std.proofs.Common.{◌≡◌, ◌≢◌, ℕ, Bool, true, false, not, ◌==◌, [], ◌∷◌, length, refl, sym, ap, ◌∙◌, subst, arith}
use Rattle.std.proofs.lemmas.Bool.{false≢true, ne_eqb}
use Rattle.std.proofs.lemmas.Bool.Decides.{nat_tests}
use Rattle.lab_plan.specs.LabPlan.{LabPlan, bottles}
use Rattle.legal_steps.specs.declared.event.Event.TheVariants.{GiveBottles, AskBottles}
use Rattle.legal_steps.specs.declared.phase.Drinking.{Drinking}
use Rattle.legal_steps.specs.declared.phase.Drinking.TheVariants.{Tranquil, Thirsty, Drinking as Drinks, Reaching, Retired}
use Rattle.legal_steps.specs.State.{State, Has, IsOwn, drinking}
use Rattle.legal_steps.specs.Legal.{May, MayGiveBottle, MayAskBottle}
use Rattle.edge_word.specs.declared.moves.EdgeMoves.{EdgeMoves}
use Rattle.edge_word.specs.Moves.{on, events_of, is_nothing}
use Rattle.edge_rule.specs.declared.calls.Stepped.{Stepped}
use Rattle.edge_rule.specs.declared.calls.Stepped.TheVariants as stepped
use Rattle.turns.specs.Patience.{is_waiting}
use Rattle.edge_rule.specs.DeskView.{DeskView, known, Tried as SteppedTo}
use Rattle.turns.specs.Due.{IsGreatest}
use Rattle.legal_steps.proofs.BottleSets.{has_none, member_below, empty_set}
use Rattle.dining_layer.specs.declared.answers.Tried.TheVariants.{NotLegal}
use Rattle.dining_layer.specs.Tries.{tried_as}
use Rattle.dining_layer.proofs.Trying.{one_move}
use Rattle.drinking_layer.specs.Bottles.{Served, Wanted}

waits : (d : Drinking) → is_waiting d ≡ true → d ≡ Thirsty
waits Thirsty h = refl
waits Tranquil h = absurd (false≢true h)
waits Drinks h = absurd (false≢true h)
waits Reaching h = absurd (false≢true h)
waits Retired h = absurd (false≢true h)

-- a set that isn't empty is some move
pub gives_some : (set : ℕ) → set ≢ 0
    → is_nothing (record { give_fork = false; give_bottles = set; ask_fork = false; ask_bottles = 0; soil = false }) ≡ false
gives_some set some = let f : (set == 0) ≡ false = grind (arith, nat_tests) in rw f refl

pub asks_some : (set : ℕ) → set ≢ 0
    → is_nothing (record { give_fork = false; give_bottles = 0; ask_fork = false; ask_bottles = set; soil = false }) ≡ false
asks_some set some = let f : (set == 0) ≡ false = grind (arith, nat_tests) in rw f refl

module _ (plan : LabPlan) (s : State) (j e set : ℕ) where
  -- a set that isn't empty may be given
  pub may_give_all : IsOwn plan j e → IsGreatest plan e set (MayGiveBottle plan s j e) → set ≢ 0 → May plan s (GiveBottles j e set)
  may_give_all own g some =
      (own, record { not_empty = some; of_edge = g.of_edge }, λ k member. (g.just k (member_below set (length (bottles plan e)) k g.of_edge member)).0 member)

  -- where it is empty, none may be
  pub none_to_give : IsGreatest plan e set (MayGiveBottle plan s j e) → set ≡ 0 → (other : ℕ) → ¬ May plan s (GiveBottles j e other)
  none_to_give g none other may =
      may.1.not_empty (empty_set (length (bottles plan e)) other may.1.of_edge
      (λ k l member. has_none k (subst (λ z. Has z k) none ((g.just k l).1 (may.2 k member)))))

  thirsts : (b : Bool) → is_waiting (drinking s j) ≡ b
      → IsGreatest plan e set (λ k. (drinking s j ≡ Thirsty) × MayAskBottle plan s j e k) → set ≢ 0 → drinking s j ≡ Thirsty
  thirsts true is g some = waits (drinking s j) is
  thirsts false is g some =
      absurd (some (empty_set (length (bottles plan e)) set g.of_edge (λ k l member. false≢true (sym is ∙ ap is_waiting ((g.just k l).0 member).0))))

  pub may_ask_all : IsOwn plan j e → IsGreatest plan e set (λ k. (drinking s j ≡ Thirsty) × MayAskBottle plan s j e k)
      → set ≢ 0 → May plan s (AskBottles j e set)
  may_ask_all own g some = (
    own,
    thirsts (is_waiting (drinking s j)) refl g some,
    record { not_empty = some; of_edge = g.of_edge },
    λ k member. ((g.just k (member_below set (length (bottles plan e)) k g.of_edge member)).0 member).1,
  )

  pub none_to_ask : IsGreatest plan e set (λ k. (drinking s j ≡ Thirsty) × MayAskBottle plan s j e k)
      → set ≡ 0 → (other : ℕ) → ¬ May plan s (AskBottles j e other)
  none_to_ask g none other may =
      may.2.not_empty (empty_set (length (bottles plan e)) other may.2.of_edge
      (λ k l member. has_none k (subst (λ z. Has z k) none ((g.just k l).1 (may.1, may.3 k member)))))

-- no exchange that was tried answers that nothing was legal
tried_legal : (r : Stepped) → tried_as r ≢ NotLegal
tried_legal stepped.Done h = absurd (cc)
tried_legal (stepped.Moved x) h = absurd (cc)

module _ (d : DeskView) (e set : ℕ) where
  abbrev give_all : EdgeMoves
  give_all = record { give_fork = false; give_bottles = set; ask_fork = false; ask_bottles = 0; soil = false }

  abbrev ask_all : EdgeMoves
  ask_all = record { give_fork = false; give_bottles = 0; ask_fork = false; ask_bottles = set; soil = false }

  pub give_events : set ≢ 0 → events_of give_all d.job e ≡ GiveBottles d.job e set ∷ []
  give_events some = λ i. on (not (ne_eqb set 0 some i)) (GiveBottles d.job e set) []

  pub ask_events : set ≢ 0 → events_of ask_all d.job e ≡ AskBottles d.job e set ∷ []
  ask_events some = λ i. on (not (ne_eqb set 0 some i)) (AskBottles d.job e set) []

  module _ (own : IsOwn d.plan d.job e) where
    module _ (g : IsGreatest d.plan e set (MayGiveBottle d.plan (known d) d.job e)) where
      pub serves : (r : Stepped) (d' : DeskView) → set ≢ 0 → SteppedTo d give_all e r d' → Served d e (tried_as r) d'
      serves r d' some t = record {
        set = set;
        greatest = g;
        tries = one_move d give_all e (GiveBottles d.job e set) r d' (give_events some) (may_give_all d.plan (known d) d.job e set own g some) t;
        none = λ h. absurd (tried_legal r h);
      }

      pub serves_none : set ≡ 0 → Served d e NotLegal d
      serves_none none = record {
        set = set;
        greatest = g;
        tries = (none_to_give d.plan (known d) d.job e set g none set, refl);
        none = λ h. none_to_give d.plan (known d) d.job e set g none;
      }

    module _ (g : IsGreatest d.plan e set (λ k. (drinking (known d) d.job ≡ Thirsty) × MayAskBottle d.plan (known d) d.job e k)) where
      pub wants : (r : Stepped) (d' : DeskView) → set ≢ 0 → SteppedTo d ask_all e r d' → Wanted d e (tried_as r) d'
      wants r d' some t = record {
        set = set;
        greatest = g;
        tries = one_move d ask_all e (AskBottles d.job e set) r d' (ask_events some) (may_ask_all d.plan (known d) d.job e set own g some) t;
        none = λ h. absurd (tried_legal r h);
      }

      pub wants_none : set ≡ 0 → Wanted d e NotLegal d
      wants_none none = record {
        set = set;
        greatest = g;
        tries = (none_to_ask d.plan (known d) d.job e set g none set, refl);
        none = λ h. none_to_ask d.plan (known d) d.job e set g none;
      }
