-- What a round makes of a session and of a meal, by how far its job was before the round and how far it is then.
use Rattle.std.specs.Prelude.{ℕ, Bool, true, false, Option, None, Some}
use Rattle.legal_steps.specs.declared.phase.Dining.{Dining}
use Rattle.legal_steps.specs.declared.phase.Dining.TheVariants.{Thinking, Hungry, Eating}
use Rattle.legal_steps.specs.declared.phase.Drinking.{Drinking}
use Rattle.legal_steps.specs.declared.phase.Drinking.TheVariants.{Tranquil, Thirsty, Drinking as Drinks}
use Rattle.waiting.specs.declared.session.Session.{Session}
use Rattle.waiting.specs.declared.session.Meal.{Meal}

-- the first that was noted stays
abbrev pub noted : Option ℕ → ℕ → Option ℕ
noted (Some n) k = Some n
noted None k = Some k

abbrev pub begins_session : Drinking → Drinking → Bool
begins_session Tranquil Thirsty = true
begins_session _ _ = false

abbrev pub session_then : ℕ → Drinking → Drinking → Session → Session
session_then k Thirsty Drinks x = record x { drinks = noted x.drinks k }
session_then k Drinks Tranquil x = record x { done = noted x.done k }
session_then k Thirsty Tranquil x = record x { given_up = noted x.given_up k }
session_then k _ _ x = x

abbrev pub begins_meal : Dining → Dining → Bool
begins_meal Thinking Hungry = true
begins_meal _ _ = false

abbrev pub meal_then : ℕ → Dining → Dining → Meal → Meal
meal_then k Hungry Eating x = record x { sits = noted x.sits k }
meal_then k Eating Thinking x = record x { leaves = noted x.leaves k }
meal_then k _ _ x = x

abbrev pub begun_session : ℕ → Session
begun_session k = record { thirsty = k; drinks = None; done = None; given_up = None }

abbrev pub begun_meal : ℕ → Meal
begun_meal k = record { hungry = k; sits = None; leaves = None }
