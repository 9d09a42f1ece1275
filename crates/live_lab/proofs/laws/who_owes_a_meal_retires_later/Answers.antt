use Rattle.live_lab.proofs.Owing.{who_owes}
use Rattle.live_lab.proofs.laws.who_owes_a_meal_retires_later.Goals as goal

pub returns : goal.returns
returns c = who_owes
