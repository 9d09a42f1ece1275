-- Lists of events of one job.
use Rattle.std.proofs.Common.{◌≡◌, ℕ, zero, suc, Bool, true, false, not, ◌==◌, if◌then◌else◌, List, [], ◌∷◌, ◌++◌, refl, sym, subst, inl, inr}
use Rattle.lab_plan.specs.LabPlan.{LabPlan}
use Rattle.legal_steps.specs.declared.event.Event.{Event}
use Rattle.legal_steps.specs.declared.event.Event.TheVariants.{AskFork, GiveFork, Soil, AskBottles, GiveBottles, Reach, Act, Quit}
use Rattle.legal_steps.specs.declared.phase.Drinking.{Drinking}
use Rattle.legal_steps.specs.declared.phase.Drinking.TheVariants.{Tranquil, Thirsty, Drinking as Drinks, Reaching, Retired}
use Rattle.legal_steps.specs.State.{State}
use Rattle.legal_steps.specs.Run.{actor}
use Rattle.edge_word.specs.declared.moves.EdgeMoves.{EdgeMoves}
use Rattle.edge_word.specs.Moves.{on, events_of}
use Rattle.turns.specs.Lists.{Each}
use Rattle.turns.specs.Acts.{AreActs}
use Rattle.turns.specs.Turn.{Visit, visit_events, visits_events}
use Rattle.settling.specs.Left.{IsBy, IsBySelf}
use Rattle.live_lab.specs.Ends.{in_hand, commands_by, rest_of_session}

abbrev pub AreBy : ℕ → List Event → Type 0
AreBy j events = Each (IsBy j) events

pub by_both : (j : ℕ) (xs ys : List Event) → AreBy j xs → AreBy j ys → AreBy j (xs ++ ys)
by_both j [] ys a b = b
by_both j (x ∷ xs) ys a b = (a.0, by_both j xs ys a.1 b)

by_on : (j : ℕ) (b : Bool) (x : Event) (rest : List Event) → actor x ≡ j → AreBy j rest → AreBy j (on b x rest)
by_on j false x rest is a = a
by_on j true x rest is a = (is, a)

moves_by : (m : EdgeMoves) (j e : ℕ) → AreBy j (events_of m j e)
moves_by m j e =
    by_on j m.give_fork (GiveFork j e) _ refl (by_on j (not (m.give_bottles == 0)) (GiveBottles j e m.give_bottles) _ refl
    (by_on j m.ask_fork (AskFork j e) _ refl (by_on j (not (m.ask_bottles == 0)) (AskBottles j e m.ask_bottles) _ refl
    (by_on j m.soil (Soil j e) [] refl tt))))

by_if : (j : ℕ) (b : Bool) (xs : List Event) → AreBy j xs → AreBy j (if b then [] else xs)
by_if j true xs a = tt
by_if j false xs a = a

pub visits_by : (j : ℕ) (vs : List Visit) → AreBy j (visits_events j vs)
visits_by j [] = tt
visits_by j (v ∷ vs) = by_both j (visit_events j v) (visits_events j vs) (refl, by_if j v.lost (events_of v.moves j v.edge) (moves_by v.moves j v.edge))
    (visits_by j vs)

pub acts_by : (plan : LabPlan) (s : State) (j waited : ℕ) (events : List Event) → AreActs plan s j waited events → AreBy j events
acts_by plan s j waited events due = elim due [
  | inl a ↦ subst (AreBy j) (sym a.1) (refl, tt)
  | inr b ↦ elim b.1 [
    | inl a ↦ subst (AreBy j) (sym a.1) (refl, (refl, tt))
    | inr b ↦ elim b.1 [
      | inl a ↦ subst (AreBy j) (sym a.1) (refl, tt)
      | inr b ↦ elim b.1 [
        | inl a ↦ subst (AreBy j) (sym a.1) (refl, tt)
        | inr b ↦ elim b.1 [
          | inl a ↦ subst (AreBy j) (sym a.1) (refl, tt)
          | inr b ↦ elim b.1 [
            | inl a ↦ subst (AreBy j) (sym a.1) (refl, tt)
            | inr b ↦ elim b.1 [
              | inl a ↦ subst (AreBy j) (sym a.1) (refl, tt)
              | inr b ↦ elim b.1 [
                | inl a ↦ subst (AreBy j) (sym a.1) (refl, tt)
                | inr b ↦ elim b.1 [
                  | inl a ↦ subst (AreBy j) (sym a.1) (refl, tt)
                  | inr b ↦ subst (AreBy j) (sym b.1) tt
                ]
              ]
            ]
          ]
        ]
      ]
    ]
  ]
]

abbrev pub AreBySelf : ℕ → List Event → Type 0
AreBySelf j events = Each (IsBySelf j) events

self_both : (j : ℕ) (xs ys : List Event) → AreBySelf j xs → AreBySelf j ys → AreBySelf j (xs ++ ys)
self_both j [] ys a b = b
self_both j (x ∷ xs) ys a b = (a.0, self_both j xs ys a.1 b)

hand_self : (d : Drinking) (j : ℕ) → AreBySelf j (in_hand d j)
hand_self Reaching j = ((refl, tt), tt)
hand_self Tranquil j = tt
hand_self Thirsty j = tt
hand_self Drinks j = tt
hand_self Retired j = tt

commands_self : (j n : ℕ) → AreBySelf j (commands_by j n)
commands_self j zero = tt
commands_self j (suc n) = self_both j (commands_by j n) (Reach j ∷ Act j ∷ []) (commands_self j n) ((refl, tt), ((refl, tt), tt))

pub session_self : (d : Drinking) (j n : ℕ) → AreBySelf j (rest_of_session d j n)
session_self d j n =
    self_both j (in_hand d j ++ commands_by j n) (Quit j ∷ []) (self_both j (in_hand d j) (commands_by j n) (hand_self d j) (commands_self j n)) ((refl, tt), tt)

pub self_on : (j : ℕ) (b : Bool) (x : Event) → IsBySelf j x → AreBySelf j (on b x [])
self_on j false x is = tt
self_on j true x is = (is, tt)
