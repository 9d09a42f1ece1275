-- For readers: how long a session waits, and the longest of some waits.
use Rattle.std.specs.Prelude.{ℕ, ◌+◌, ◌-◌, nat_lt, max, List, [], ◌∷◌, Option, None, Some, if◌then◌else◌}
use Rattle.waiting.specs.declared.session.Session.{Session}
use Rattle.waiting.specs.declared.waits.Longest.{Longest}

-- a session waits from its thirst until it drinks or is given up, or up to the last round
abbrev pub waits_until : ℕ → Option ℕ → Option ℕ → ℕ
waits_until last (Some b) given_up = b
waits_until last None (Some g) = g
waits_until last None None = last

unfoldable pub waited : ℕ → Session → ℕ
waited last x = waits_until last x.drinks x.given_up - x.thirsty

abbrev pub longest_of : ℕ → List Session → ℕ
longest_of last [] = 0
longest_of last (x ∷ later) = max (waited last x) (longest_of last later)

-- ---- the longest of all

-- a later one only if it is longer
abbrev pub longer : Longest → Longest → Longest
longer best x = if nat_lt best.wait x.wait then x else best

-- the first of the longest, of one and then of a job's sessions, of which the first has this number
abbrev pub longest_after : ℕ → ℕ → Longest → ℕ → List Session → Longest
longest_after last j best n [] = best
longest_after last j best n (x ∷ later) = longest_after last j (longer best (record { wait = waited last x; job = j; session = n })) (n + 1) later

abbrev pub no_wait : Longest
no_wait = record { wait = 0; job = 0; session = 0 }
