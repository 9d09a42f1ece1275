-- For readers: for how many steps there has to be room.
use Rattle.std.specs.Prelude.{ℕ, zero, suc, ◌+◌, ◌-◌, ◌*◌, min, max, if◌then◌else◌, List, [], ◌∷◌, length, codes}
use Rattle.std.specs.Str.{bytes_eq}
use Rattle.lab_plan.specs.LabPlan.{LabPlan, edges, bottles, sessions, commands}
use Rattle.lab_plan.specs.Limits.{most_commands}
use Rattle.script_reader.specs.Script.{text_lines}
use Rattle.interleaving.specs.Kept.{TapeView}

-- ---- of a plan

-- the bottles of its first n edges
abbrev pub bottles_below : LabPlan → ℕ → ℕ
bottles_below plan zero = 0
bottles_below plan (suc e) = bottles_below plan e + length (bottles plan e)

-- the commands of the longest of a job's first n sessions
abbrev pub longest_of : LabPlan → ℕ → ℕ → ℕ
longest_of plan j zero = 0
longest_of plan j (suc n) = max (longest_of plan j n) (length (commands plan j (n + 1)))

-- of all sessions of its first n jobs
abbrev pub longest_below : LabPlan → ℕ → ℕ
longest_below plan zero = 0
longest_below plan (suc j) = max (longest_below plan j) (longest_of plan j (length (sessions plan j)))

-- The steps between two words of owners, as far as is known: at most 4 deeds of each job, 9 of each edge and 9 of each bottle, and before each a look that
-- changes marks; and at each edge 10 looks more, since each of its two jobs looks at it anew after its owner's word and each of its own 4 deeds
abbrev pub steps_between : LabPlan → ℕ
steps_between plan = 8 * length plan.jobs + 28 * length (edges plan) + 18 * bottles_below plan (length (edges plan))

-- The steps of two calls, where sessions may come that have at most so many commands: each call has those of five such times, and twice a session's commands,
-- to reach for each and to do it. That no call takes more isn't proved
abbrev pub room_for : LabPlan → ℕ → ℕ
room_for plan further =
    2 * (5 * steps_between plan + 2 * min most_commands (max (longest_below plan (length plan.jobs)) further)) + 64

-- ---- of a text

-- the longest run of lines without one `end`, where so many came before these
abbrev pub longest_from : ℕ → List (List ℕ) → ℕ
longest_from n [] = n
longest_from n (line ∷ lines) = if bytes_eq line (codes "end") then max n (longest_from 0 lines) else longest_from (n + 1) lines

-- no session of the text has more commands
abbrev pub longest_in : List ℕ → ℕ
longest_in text = longest_from 0 (text_lines text)

-- ---- of what is kept

-- for how many steps there is room, those that are kept among them
abbrev pub room_in : TapeView → ℕ
room_in kept = kept.room - length kept.events + length kept.events
