-- What one event more makes of sessions and of meals.
use Rattle.std.proofs.Common.{◌≡◌, ℕ, Bool, true, false, List, [], ◌∷◌, ◌++◌, Option, None, Some, refl, ap, ◌∙◌, if◌then◌else◌}
use Rattle.legal_steps.specs.declared.event.Event.{Event}
use Rattle.legal_steps.specs.declared.phase.Dining.{Dining}
use Rattle.legal_steps.specs.declared.phase.Dining.TheVariants.{Thinking, Hungry, Eating}
use Rattle.legal_steps.specs.declared.phase.Drinking.{Drinking}
use Rattle.legal_steps.specs.declared.phase.Drinking.TheVariants.{Tranquil, Thirsty, Drinking as Drinks, Reaching, Retired}
use Rattle.waiting.specs.declared.session.Session.{Session}
use Rattle.waiting.specs.declared.session.Meal.{Meal}
use Rattle.waiting.specs.Sessions.{Deed, is_thirst, is_drink, is_quit, is_withdraw, is_hunger, is_sit, is_leave, first_round, session, sessions_of, meal, meals_of}
use Rattle.waiting.specs.Noting.{on_last, sessions_then, meals_then}
use Rattle.waiting.specs.OneRound.{noted}
use Rattle.waiting.proofs.Parts.{begins, changes}
use Rattle.waiting.proofs.Last.{on_last-same}

abbrev pub noted_if : Bool → Option ℕ → ℕ → Option ℕ
noted_if true o k = noted o k
noted_if false o k = o

first_if : (b c : Bool) (n k : ℕ) (r r' : Option ℕ) → r' ≡ noted_if c r k → (if b then Some n else r') ≡ noted_if c (if b then Some n else r) k
first_if true true n k r r' later = refl
first_if true false n k r r' later = refl
first_if false c n k r r' later = later

first_none : (b : Bool) (k : ℕ) → (if b then Some k else None) ≡ noted_if b None k
first_none true k = refl
first_none false k = refl

first_more : (kind : Event → Bool) (deed : Deed) (l : List Deed) → first_round kind (l ++ deed ∷ []) ≡ noted_if (kind deed.event) (first_round kind l) deed.round
first_more kind deed [] = first_none (kind deed.event) deed.round
first_more kind deed (x ∷ l) =
    first_if (kind x.event) (kind deed.event) x.round deed.round (first_round kind l) (first_round kind (l ++ deed ∷ [])) (first_more kind deed l)

abbrev pub mark_session : Deed → Session → Session
mark_session d x = record {
  thirsty = x.thirsty;
  drinks = noted_if (is_drink d.event) x.drinks d.round;
  done = noted_if (is_quit d.event) x.done d.round;
  given_up = noted_if (is_withdraw d.event) x.given_up d.round;
}

abbrev pub mark_meal : Deed → Meal → Meal
mark_meal d x = record { hungry = x.hungry; sits = noted_if (is_sit d.event) x.sits d.round; leaves = noted_if (is_leave d.event) x.leaves d.round }

made_session : (k : ℕ) (l : List Deed) (d : Deed) → session k (l ++ d ∷ []) ≡ mark_session d (session k l)
made_session k l d = λ i. record { thirsty = k; drinks = first_more is_drink d l i; done = first_more is_quit d l i; given_up = first_more is_withdraw d l i }

made_meal : (k : ℕ) (l : List Deed) (d : Deed) → meal k (l ++ d ∷ []) ≡ mark_meal d (meal k l)
made_meal k l d = λ i. record { hungry = k; sits = first_more is_sit d l i; leaves = first_more is_leave d l i }

abbrev pub deed : ℕ → Event → Deed
deed k x = record { round = k; event = x }

module _ (k : ℕ) (x : Event) (l : List Deed) where
  pub session_begins : is_thirst x ≡ true → sessions_of (l ++ deed k x ∷ []) ≡ sessions_of l ++ session k [] ∷ []
  session_begins is = begins is_thirst session mark_session made_session (deed k x) is l

  pub session_changes : is_thirst x ≡ false → sessions_of (l ++ deed k x ∷ []) ≡ on_last (mark_session (deed k x)) (sessions_of l)
  session_changes other = changes is_thirst session mark_session made_session (deed k x) other l

  pub session_stays : is_thirst x ≡ false → mark_session (deed k x) ≡ (λ y. y) → sessions_of (l ++ deed k x ∷ []) ≡ sessions_of l
  session_stays other same = session_changes other ∙ (ap (λ f. on_last f (sessions_of l)) same ∙ on_last-same (sessions_of l))

  pub meal_begins : is_hunger x ≡ true → meals_of (l ++ deed k x ∷ []) ≡ meals_of l ++ meal k [] ∷ []
  meal_begins is = begins is_hunger meal mark_meal made_meal (deed k x) is l

  pub meal_changes : is_hunger x ≡ false → meals_of (l ++ deed k x ∷ []) ≡ on_last (mark_meal (deed k x)) (meals_of l)
  meal_changes other = changes is_hunger meal mark_meal made_meal (deed k x) other l

  pub meal_stays : is_hunger x ≡ false → mark_meal (deed k x) ≡ (λ y. y) → meals_of (l ++ deed k x ∷ []) ≡ meals_of l
  meal_stays other same = meal_changes other ∙ (ap (λ f. on_last f (meals_of l)) same ∙ on_last-same (meals_of l))

-- nothing is noted of a job that stays as far as it is
pub sessions_still : (k : ℕ) (d : Drinking) (l : List Session) → sessions_then k d d l ≡ l
sessions_still k Tranquil l = on_last-same l
sessions_still k Thirsty l = on_last-same l
sessions_still k Drinks l = on_last-same l
sessions_still k Reaching l = on_last-same l
sessions_still k Retired l = on_last-same l

pub meals_still : (k : ℕ) (d : Dining) (l : List Meal) → meals_then k d d l ≡ l
meals_still k Thinking l = on_last-same l
meals_still k Hungry l = on_last-same l
meals_still k Eating l = on_last-same l
