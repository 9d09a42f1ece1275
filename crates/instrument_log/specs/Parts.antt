-- For readers: the parts of a log. A part is what one session of a job leaves on the instrument: its places from 1 to their length, in order.
use Rattle.std.specs.Prelude.{◌≡◌, ℕ, ◌+◌, ◌≤◌, List, [], ◌++◌, length, All, slice_get, Option, Some, None, nat_lt, if◌then◌else◌}
use Rattle.std.specs.List.{last_or, flat_map}
use Rattle.std.specs.Option.{option_and_then, option_map_or, MatchOption}
use Rattle.instrument_log.specs.declared.entry.Entry.{Entry}

-- the entry, if more of its part is to come after it
abbrev pub if_open : Entry → Option Entry
if_open entry = if nat_lt entry.place entry.length then Some entry else None

-- the last entry of a log, if its part is unfinished
unfoldable pub open_entry : List Entry → Option Entry
open_entry entries = option_and_then if_open (last_or None entries)

-- how many entries the unfinished part has, 0 if there is none
abbrev pub unfinished_of : List Entry → ℕ
unfinished_of entries = option_map_or (λ entry. entry.place) (open_entry entries) 0

-- the entry is the next place of the part that the entry before it is of
pub record IsNextPlace (before entry : Entry) : Type 0 where
  pub same_job : entry.job ≡ before.job
  pub same_session : entry.session ≡ before.session
  pub same_length : entry.length ≡ before.length
  pub next : entry.place ≡ before.place + 1

-- the entry goes on with the unfinished part, or begins a part if none is unfinished
abbrev pub Follows : List Entry → Entry → Type 0
Follows entries entry = MatchOption (open_entry entries) (entry.place ≡ 1) (λ before. IsNextPlace before entry)

-- the entry stands at this place of the part that another entry is of
pub record IsAtPlace (other : Entry) (place : ℕ) (entry : Entry) : Type 0 where
  pub same_job : entry.job ≡ other.job
  pub same_session : entry.session ≡ other.session
  pub same_length : entry.length ≡ other.length
  pub at_place : entry.place ≡ place

-- the entries are those of one part, from its place 1 up to this last entry
pub record IsPartUpTo (last : Entry) (entries : List Entry) : Type 0 where
  pub up_to : length entries ≡ last.place
  pub in_order : (k : ℕ) (entry : Entry) → slice_get entries k ≡ Some entry → IsAtPlace last (k + 1) entry

-- the entries are one part, from its place 1 to its length, which is at least 1
pub record IsPart (entries : List Entry) : Type 0 where
  pub last : Entry
  pub not_empty : 1 ≤ last.place
  pub ends : last.place ≡ last.length
  pub up_to_last : IsPartUpTo last entries

-- a log is whole except for its end: parts, one after another, and then the beginning of one more, or nothing
pub record IsPartsButEnd (entries : List Entry) : Type 0 where
  pub parts : List (List Entry)
  pub rest : List Entry
  pub joined : entries ≡ flat_map (λ part. part) parts ++ rest
  pub whole : All IsPart parts
  pub ending : MatchOption (open_entry entries) (rest ≡ []) (λ last. IsPartUpTo last rest)
