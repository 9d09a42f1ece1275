-- What became of serving bottles, of asking for them, and of drinking.
use Rattle.std.specs.Prelude.{◌≡◌, ℕ, Bool, true, false, [], ◌∷◌}
use Rattle.legal_steps.specs.declared.event.Event.TheVariants.{GiveBottles, AskBottles, Drink}
use Rattle.legal_steps.specs.declared.phase.Drinking.TheVariants.{Thirsty}
use Rattle.legal_steps.specs.State.{drinking}
use Rattle.legal_steps.specs.Legal.{May, MayGiveBottle, MayAskBottle}
use Rattle.edge_rule.specs.DeskView.{DeskView, Adds, known}
use Rattle.turns.specs.Due.{IsGreatest}
use Rattle.dining_layer.specs.declared.answers.Tried.{Tried}
use Rattle.dining_layer.specs.declared.answers.Tried.TheVariants.{NotLegal}
use Rattle.dining_layer.specs.Tries.{TriedTo}

-- The bottles that may be given by the word last seen, all at once; if there are none, no set of them may be given
pub record Served (d : DeskView) (e : ℕ) (r : Tried) (d' : DeskView) : Type 0 where
  pub set : ℕ
  pub greatest : IsGreatest d.plan e set (MayGiveBottle d.plan (known d) d.job e)
  pub tries : TriedTo d (GiveBottles d.job e set) e r d'
  pub none : r ≡ NotLegal → (other : ℕ) → ¬ May d.plan (known d) (GiveBottles d.job e other)

-- The bottles that may be asked for by the word last seen, all at once; if there are none, no set of them may be asked for
pub record Wanted (d : DeskView) (e : ℕ) (r : Tried) (d' : DeskView) : Type 0 where
  pub set : ℕ
  pub greatest : IsGreatest d.plan e set (λ k. (drinking (known d) d.job ≡ Thirsty) × MayAskBottle d.plan (known d) d.job e k)
  pub tries : TriedTo d (AskBottles d.job e set) e r d'
  pub none : r ≡ NotLegal → (other : ℕ) → ¬ May d.plan (known d) (AskBottles d.job e other)

-- it drank, or it may not
abbrev pub Drank : DeskView → Bool → DeskView → Type 0
Drank d true d' = May d.plan (known d) (Drink d.job) × Adds d (Drink d.job ∷ []) d'
Drank d false d' = ¬ May d.plan (known d) (Drink d.job) × (d' ≡ d)
