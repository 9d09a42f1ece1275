use Rattle.std.proofs.Common.{◌++◌, List, ap, ◌∙◌}
use Rattle.std.specs.List.{flat_map}
use Rattle.std.proofs.lemmas.List.{take_all}
use Rattle.waiting.specs.declared.session.Meal.{Meal}
use Rattle.round_picture.specs.Meals.{meal_text}
use Rattle.round_picture.proofs.meals.add_meals.Goals as goal

pub returns : goal.returns
returns g c = c.loop-meal.invariant ∙ ap (λ (l : List Meal). c.args.out.now.items ++ flat_map (meal_text c.args.last) l)
    (take_all c.loop-meal.meal-index c.args.meals.now c.loop-meal-test.false)
