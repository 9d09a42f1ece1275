-- The commands of a job's sessions as one list, and the sessions cut from it.
use Rattle.std.specs.Prelude.{ℕ, ◌≤◌, List, [], ◌∷◌, length, take, slice_range, ⊤}
use Rattle.std.specs.List.{flat_map}
use Rattle.lab_plan.specs.declared.verb.Verb.{Verb}
use Rattle.lab_plan.specs.declared.job.Session.{Session}
use Rattle.lab_plan.specs.LabPlan.{SessionPlan}

-- the commands of some sessions, one session's behind the other's
abbrev pub commands_of : List SessionPlan → List (ℕ × Verb)
commands_of sessions = flat_map (λ session. session.commands) sessions

-- how many commands the first k sessions have
abbrev pub commands_before : List SessionPlan → ℕ → ℕ
commands_before sessions k = length (commands_of (take k sessions))

-- where the first of some sessions begins, or the end of all commands if there is none
abbrev pub first_start : List Session → ℕ → ℕ
first_start [] end = end
first_start (session ∷ sessions) end = session.start

-- a session's commands go from its start to that of the next
abbrev pub cut : List Session → List (ℕ × Verb) → List SessionPlan
cut [] all = []
cut (session ∷ sessions) all =
    record { patience = session.patience; commands = slice_range all session.start (first_start sessions (length all)) } ∷ cut sessions all

-- no session begins behind the next one, or behind the end
abbrev pub AreInOrder : List Session → ℕ → Type 0
AreInOrder [] end = ⊤
AreInOrder (session ∷ sessions) end = (session.start ≤ first_start sessions end) × AreInOrder sessions end
