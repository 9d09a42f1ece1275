-- For readers: when the time of an ask is over.
use Rattle.std.specs.Prelude.{ℕ, ◌+◌, ◌==◌, min, max, nat_le, Bool, true, false, ◌||◌, not, if◌then◌else◌, Option, None, Some}
use Rattle.std.specs.Int.{bit_at}
use Rattle.std.specs.Int.Bits.{bit_and}
use Rattle.bay_book.specs.declared.ask.Ask.{Ask}
use Rattle.bay_book.specs.declared.ask.End.{End}
use Rattle.bay_book.specs.declared.ask.End.TheVariants.{Lapsed, NotWritten}
use Rattle.bay_book.specs.declared.ask.Stage.{Stage}
use Rattle.bay_book.specs.declared.ask.Stage.TheVariants.{Waits, Holds, Over}
use Rattle.bay_book.specs.Asks.{is_written}

-- so long after a moment, and no later than the last moment of all
abbrev pub plus : ℕ → ℕ → ℕ
plus moment span = min (moment + span) 18446744073709551615

-- none, if there is no such moment, or no such span
abbrev pub after : Option ℕ → Option ℕ → Option ℕ
after None None = None
after None (Some span) = None
after (Some moment) None = None
after (Some moment) (Some span) = Some (plus moment span)

-- the later of the two; none, if there is none of one
abbrev pub later : Option ℕ → Option ℕ → Option ℕ
later None None = None
later None (Some b) = None
later (Some a) None = None
later (Some a) (Some b) = Some (max a b)

-- the sooner of those that there are
abbrev pub sooner : Option ℕ → Option ℕ → Option ℕ
sooner None None = None
sooner None (Some b) = Some b
sooner (Some a) None = Some a
sooner (Some a) (Some b) = Some (min a b)

-- the moment is over
abbrev pub is_past : ℕ → Option ℕ → Bool
is_past now None = false
is_past now (Some moment) = nat_le moment now

-- Until when it may wait; and once it holds, until when the disk may take to write that. A hold that is written has all the time, however late it is told
abbrev pub until_at : ℕ → Option ℕ → Ask → Stage → Option ℕ
until_at durable disk a Waits = a.deadline
until_at durable disk a Holds = if is_written durable a.hold_line then None else later a.deadline (after (Some a.since) disk)
until_at durable disk a (Over how) = None

abbrev pub until : ℕ → Option ℕ → Ask → Option ℕ
until durable disk a = until_at durable disk a a.stage

-- how it ends, if that is over
abbrev pub late_end : Stage → End
late_end Waits = Lapsed
late_end Holds = NotWritten
late_end (Over how) = how

-- a moment of one that holds
abbrev pub if_holds : Stage → Option ℕ → Option ℕ
if_holds Waits moment = None
if_holds Holds moment = moment
if_holds (Over how) moment = None

-- until when it holds though its client is gone
abbrev pub kept_until : Option ℕ → Ask → Option ℕ
kept_until grace a = if_holds a.stage (after a.gone grace)

-- until when it holds though somebody waits for what it has
abbrev pub limit_end : Ask → Option ℕ
limit_end a = if_holds a.stage (after (Some a.since) a.limit)

-- something is in both sets
abbrev pub common : ℕ → ℕ → Bool
common a b = not (bit_and a b == 0)

-- somebody waits for what it has: one of these instruments, or a place of one of these classes
abbrev pub is_wanted : ℕ → ℕ → Ask → Bool
is_wanted wanted full a = common a.needs wanted || bit_at full a.class == 1

-- the next moment at which something of it is over, whoever waits
abbrev pub due_at : Option ℕ → ℕ → Option ℕ → Ask → Option ℕ
due_at grace durable disk a = sooner (until durable disk a) (kept_until grace a)

-- if somebody waits for what it has, the moment at which its limit is over
abbrev pub wanted_moment : Bool → Option ℕ → Option ℕ
wanted_moment true moment = moment
wanted_moment false moment = None

abbrev pub limit_due_at : ℕ → ℕ → Ask → Option ℕ
limit_due_at wanted full a = wanted_moment (is_wanted wanted full a) (limit_end a)

-- ---- what is over at this moment

abbrev pub is_late : ℕ → ℕ → Option ℕ → Ask → Bool
is_late now durable disk a = is_past now (until durable disk a)

abbrev pub is_gone_too_long : ℕ → Option ℕ → Ask → Bool
is_gone_too_long now grace a = is_past now (kept_until grace a)

abbrev pub is_over_limit : ℕ → ℕ → ℕ → Ask → Bool
is_over_limit now wanted full a = is_past now (limit_due_at wanted full a)
