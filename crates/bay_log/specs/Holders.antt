-- For readers: a list of asks that hold, each with what it holds.
use Rattle.std.specs.Prelude.{◌≡◌, ℕ, ◌==◌, not, if◌then◌else◌, filter, List, [], ◌∷◌, ◌++◌, Option, None, Some}
use Rattle.bay_log.specs.declared.line.Entry.{Entry}
use Rattle.bay_log.specs.declared.line.Line.{Line}
use Rattle.bay_log.specs.declared.line.Line.TheVariants.{Head, Hold, Back, End, Note}
use Rattle.bay_log.specs.declared.alive.Holder.{Holder}

-- what an ask holds by the list
abbrev pub entry_in : List Holder → ℕ → Option Entry
entry_in [] n = None
entry_in (holder ∷ holders) n = if holder.ask == n then Some holder.entry else entry_in holders n

-- no ask is in the list twice
abbrev pub AreApart : List Holder → Type 0
AreApart [] = Unit {0}
AreApart (holder ∷ holders) = (entry_in holders holder.ask ≡ None) × AreApart holders

-- the list says what each ask holds
pub record AreHolders (holders : List Holder) (held : ℕ → Option Entry) : Type 0 where
  pub each : (n : ℕ) → entry_in holders n ≡ held n
  pub apart : AreApart holders

-- ---- after a line

abbrev pub without : ℕ → List Holder → List Holder
without n holders = filter (λ holder. not (holder.ask == n)) holders

abbrev pub pushed : ℕ → Option Entry → List Holder → List Holder
pushed n None holders = holders
pushed n (Some entry) holders = holders ++ record { ask = n; entry = entry } ∷ []

abbrev pub taken : List Holder → Line → List Holder
taken holders (Head bay base next granted) = holders
taken holders (Hold ask entry) = pushed ask (Some entry) (without ask holders)
taken holders (Back from to) = pushed to (entry_in holders from) (without to (without from holders))
taken holders (End ask how at) = without ask holders
taken holders (Note ask text) = holders
