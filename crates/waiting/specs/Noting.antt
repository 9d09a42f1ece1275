-- What is noted of a job after a round, by how far it was before and how far it is then.
use Rattle.std.specs.Prelude.{ℕ, List, [], ◌∷◌, ◌++◌, if◌then◌else◌}
use Rattle.legal_steps.specs.declared.phase.Dining.{Dining}
use Rattle.legal_steps.specs.declared.phase.Drinking.{Drinking}
use Rattle.legal_steps.specs.declared.phase.JobState.{JobState}
use Rattle.legal_steps.specs.State.{idle_phase}
use Rattle.waiting.specs.declared.session.Session.{Session}
use Rattle.waiting.specs.declared.session.Meal.{Meal}
use Rattle.waiting.specs.OneRound.{begins_session, session_then, begins_meal, meal_then, begun_session, begun_meal}

-- the last of a list is changed, if there is one
abbrev pub on_last : {A : Type 0} → (A → A) → List A → List A
on_last f [] = []
on_last f (x ∷ []) = f x ∷ []
on_last f (x ∷ y ∷ l) = x ∷ on_last f (y ∷ l)

abbrev pub sessions_then : ℕ → Drinking → Drinking → List Session → List Session
sessions_then k a b l = if begins_session a b then l ++ begun_session k ∷ [] else on_last (session_then k a b) l

abbrev pub meals_then : ℕ → Dining → Dining → List Meal → List Meal
meals_then k a b l = if begins_meal a b then l ++ begun_meal k ∷ [] else on_last (meal_then k a b) l

-- what is known of a job: how far it was seen last, and the rounds of its sessions and meals
pub record LogView : Type 0 where
  pub phase : JobState
  pub sessions : List Session
  pub meals : List Meal

-- before the first round
abbrev pub fresh_log : LogView
fresh_log = record { phase = idle_phase; sessions = []; meals = [] }

abbrev pub log_then : ℕ → JobState → LogView → LogView
log_then k phase x = record {
  phase = phase;
  sessions = sessions_then k x.phase.drinking phase.drinking x.sessions;
  meals = meals_then k x.phase.dining phase.dining x.meals;
}
