use Rattle.std.proofs.Common.{◌≡◌, ◌++◌, take}
use Rattle.std.specs.List.{flat_map}
use Rattle.round_picture.specs.Meals.{meal_text}
use Rattle.round_picture.proofs.meals.add_meals.Given as goal

-- so many meals are drawn
abbrev pub invariant-loop-meal : goal.invariant-loop-meal
invariant-loop-meal g l = l.out.items ≡ l.fn.out.items ++ flat_map (meal_text l.last) (take l.meal-index l.meals)
