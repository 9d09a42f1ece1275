use Rattle.lab_views.proofs.OneRun.{has_one_picture, has_one_list}
use Rattle.lab_views.proofs.laws.drawn_once.Goals as goal

pub returns-clause-picture : goal.returns-clause-picture
returns-clause-picture c = has_one_picture c.one_meaning.ensures.plan

pub returns-clause-list : goal.returns-clause-list
returns-clause-list c = has_one_list c.one_meaning.ensures.plan
