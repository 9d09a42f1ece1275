-- No phase act is due just where none is legal but giving the session up, and the patience isn't used up.
use Rattle.std.proofs.Common.{◌≡◌, ◌⊎◌, ℕ, List, [], ◌∷◌, inl, inr}
use Rattle.lab_plan.specs.LabPlan.{LabPlan}
use Rattle.legal_steps.specs.declared.event.Event.{Event}
use Rattle.legal_steps.specs.declared.event.Event.TheVariants.{Thirst, Hunger, Sit, Leave, Drink, Reach, Quit, Retire, Withdraw}
use Rattle.legal_steps.specs.State.{State}
use Rattle.turns.specs.Acts.{Counts, AreActs, AreFirst, IsSettled, whole_act}

-- an act that the list passes doesn't count
passed : (plan : LabPlan) (s : State) (j waited : ℕ) (x : Event) (later : List Event) → ¬ ([] ≡ whole_act x)
    → AreFirst plan s j waited (x ∷ later) [] → ¬ Counts plan s j waited x × AreFirst plan s j waited later []
passed plan s j waited x later some first = elim first [ inl a ↦ absurd (some a.1) | inr b ↦ b ]

pub none_due : (plan : LabPlan) (s : State) (j waited : ℕ) → AreActs plan s j waited [] → IsSettled plan s j
none_due plan s j waited first =
    let a = passed plan s j waited (Quit j) (Reach j ∷ Drink j ∷ Withdraw j ∷ Leave j ∷ Sit j ∷ Thirst j ∷ Hunger j ∷ Retire j ∷ []) (λ e. cc) first in
    let b = passed plan s j waited (Reach j) (Drink j ∷ Withdraw j ∷ Leave j ∷ Sit j ∷ Thirst j ∷ Hunger j ∷ Retire j ∷ []) (λ e. cc) a.1 in
    let c = passed plan s j waited (Drink j) (Withdraw j ∷ Leave j ∷ Sit j ∷ Thirst j ∷ Hunger j ∷ Retire j ∷ []) (λ e. cc) b.1 in
    let d = passed plan s j waited (Withdraw j) (Leave j ∷ Sit j ∷ Thirst j ∷ Hunger j ∷ Retire j ∷ []) (λ e. cc) c.1 in
    let f = passed plan s j waited (Leave j) (Sit j ∷ Thirst j ∷ Hunger j ∷ Retire j ∷ []) (λ e. cc) d.1 in
    let g = passed plan s j waited (Sit j) (Thirst j ∷ Hunger j ∷ Retire j ∷ []) (λ e. cc) f.1 in
    let h = passed plan s j waited (Thirst j) (Hunger j ∷ Retire j ∷ []) (λ e. cc) g.1 in
    let k = passed plan s j waited (Hunger j) (Retire j ∷ []) (λ e. cc) h.1 in
    let l = passed plan s j waited (Retire j) ([]) (λ e. cc) k.1 in
    record {
      no_quit = λ may. a.0 (may, tt);
      no_reach = λ may. b.0 (may, tt);
      no_drink = λ may. c.0 (may, tt);
      no_leave = λ may. f.0 (may, tt);
      no_sit = λ may. g.0 (may, tt);
      no_thirst = λ may. h.0 (may, tt);
      no_hunger = λ may. k.0 (may, tt);
      no_retire = λ may. l.0 (may, tt);
    }

pub settled_acts : (plan : LabPlan) (s : State) (j waited : ℕ) (events : List Event) → IsSettled plan s j
    → (Counts plan s j waited (Withdraw j) × (events ≡ Withdraw j ∷ [])) ⊎ (¬ Counts plan s j waited (Withdraw j) × (events ≡ []))
    → AreActs plan s j waited events
settled_acts plan s j waited events none which = inr (
  λ c. none.no_quit c.0,
  inr (
    λ c. none.no_reach c.0,
    inr (
      λ c. none.no_drink c.0,
      elim which [
        | inl up ↦ inl up
        | inr not_up ↦ inr (
          not_up.0,
          inr (
            λ c. none.no_leave c.0,
            inr (λ c. none.no_sit c.0, inr (λ c. none.no_thirst c.0, inr (λ c. none.no_hunger c.0, inr (λ c. none.no_retire c.0, not_up.1)))),
          ),
        )
      ],
    ),
  ),
)
