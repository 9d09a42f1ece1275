-- For readers: a session's tooltip and its shapes.
use Rattle.std.specs.Prelude.{ℕ, ◌+◌, ◌==◌, nat_le, List, [], ◌∷◌, ◌++◌, codes, decimal, length, if◌then◌else◌}
use Rattle.std.specs.List.{flat_map}
use Rattle.lab_plan.specs.LabPlan.{LabPlan, sessions, part, instrument_numbers}
use Rattle.lab_plan.specs.Texts.{job_name, instrument_name}
use Rattle.waiting.specs.Text.{outcome_text}
use Rattle.waiting.specs.declared.session.Session.{Session}
use Rattle.block_lines.specs.declared.block.Block.{Block}
use Rattle.blocking.specs.Keepers.{KeptView, keepers_at}
use Rattle.round_picture.specs.Shapes.{shapes}
use Rattle.round_picture.specs.Keepers.{keepers_text}

-- ---- the tooltip

-- an instrument, if the session has commands on it
abbrev pub instrument_text : LabPlan → ℕ → ℕ → ℕ → List ℕ
instrument_text plan j s i = if part plan j s i == 0 then [] else codes " " ++ instrument_name plan i

-- the instruments of a session that the plan has
unfoldable pub instruments_text : LabPlan → ℕ → ℕ → List ℕ
instruments_text plan j s = if nat_le s (length (sessions plan j)) then flat_map (instrument_text plan j s) (instrument_numbers plan) else []

-- `J session S: I1 .. IK; thirsty A`, what became of it, and who kept it waiting
unfoldable pub title_text : LabPlan → List Block → ℕ → ℕ → Session → List ℕ
title_text plan kept j s x =
    codes "<g><title>" ++ job_name plan j ++ codes " session " ++ decimal s ++ codes ":" ++ instruments_text plan j s
    ++ codes "; thirsty " ++ decimal x.thirsty ++ outcome_text x.thirsty x.drinks x.done x.given_up ++ keepers_text plan kept ++ codes "</title>"

-- ---- the session

unfoldable pub session_text : LabPlan → KeptView → ℕ → ℕ → Session → List ℕ
session_text plan run j s x = title_text plan (keepers_at run j s) j s x ++ shapes run.run.number s x.thirsty x.drinks x.done x.given_up ++ codes "</g>\n"

-- of a job's sessions, of which the first has this number
abbrev pub sessions_text : LabPlan → KeptView → ℕ → ℕ → List Session → List ℕ
sessions_text plan run j s [] = []
sessions_text plan run j s (x ∷ later) = session_text plan run j s x ++ sessions_text plan run j (s + 1) later
