-- For readers: what is drawn of a meal, below the sessions of its job.
use Rattle.std.specs.Prelude.{ℕ, List, ◌++◌, codes, decimal, Option, None, Some}
use Rattle.waiting.specs.declared.session.Meal.{Meal}
use Rattle.round_picture.specs.Scale.{place, width}
use Rattle.round_picture.specs.Shapes.{until}

-- a line from one round to another
unfoldable pub stretch : ℕ → ℕ → ℕ → List ℕ
stretch last a b = codes "<path d=\"M" ++ decimal (place last a) ++ codes " 28h" ++ decimal (width last a b)

-- while the job is hungry: dotted
unfoldable pub hungry_line : ℕ → ℕ → ℕ → List ℕ
hungry_line last a b = stretch last a b ++ codes "\" stroke=\"#777\" stroke-width=\"2\" stroke-dasharray=\"2 3\"/>"

-- while it eats: thick
unfoldable pub eating_line : ℕ → ℕ → ℕ → List ℕ
eating_line last a b = stretch last a b ++ codes "\" stroke=\"#222\" stroke-width=\"5\"/>"

-- of a job that was hungry in round a
abbrev pub lines : ℕ → ℕ → Option ℕ → Option ℕ → List ℕ
lines last a (Some b) leaves = hungry_line last a b ++ eating_line last b (until last leaves)
lines last a None leaves = hungry_line last a last

unfoldable pub meal_text : ℕ → Meal → List ℕ
meal_text last x = lines last x.hungry x.sits x.leaves ++ codes "\n"
