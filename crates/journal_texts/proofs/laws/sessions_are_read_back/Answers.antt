use Rattle.lab_plan.proofs.OneMore.{granted}
use Rattle.journal_texts.proofs.SessionBack.{session_back}
use Rattle.journal_texts.proofs.laws.sessions_are_read_back.Goals as goal

pub returns : goal.returns
returns c = λ plan j session is there none. session_back plan j session is (granted plan j session none)
