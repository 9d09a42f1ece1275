-- For readers: a book as contracts see it, and what its calls do.
use Rattle.std.specs.Prelude.{◌≡◌, ℕ, ◌+◌, max, ◌<◌, ◌≤◌, Bool, not, List, [], ◌∷◌, ◌++◌, map, filter, All, AllPairs, slice_set, Option}
use Rattle.std.specs.List.{count_by}
use Rattle.bay_book.specs.declared.ask.Ask.{Ask}
use Rattle.bay_book.specs.declared.ask.End.{End}
use Rattle.bay_book.specs.declared.ask.Outcome.{Outcome}
use Rattle.bay_book.specs.Asks.{ask_at, asker, restored, holding, over, gone_since, back_again, given, turned, hearing, is_done, IsSoundAsk, is_waiting}

-- the asks in the order of their numbers; the least number that the next may have; the largest token so far; and up to where the journal outlives a crash
pub record BookView : Type 0 where
  pub asks : List Ask
  pub next : ℕ
  pub granted : ℕ
  pub durable : ℕ

-- What is so of every book. Numbers rise, so no two asks have the same, and each is below the next; and each ask is as it can be
pub record IsSound (x : BookView) : Type 0 where
  pub rises : AllPairs (λ a b. a.number < b.number) x.asks
  pub below : All (λ a. a.number < x.next) x.asks
  pub each : All (IsSoundAsk x.durable) x.asks
  -- of two that hold or held, tokens differ; and none is larger than the largest so far
  pub tokens : AllPairs (λ a b. a.token ≡ b.token → a.token ≡ 0) x.asks
  pub within : All (λ a. a.token ≤ x.granted) x.asks
  -- there are no more tokens than numbers, also once all that wait have one: so there is always a next token
  pub room : x.granted + count_by is_waiting x.asks ≤ x.next

abbrev pub nobody : BookView
nobody = record { asks = []; next = 0; granted = 0; durable = 0 }

-- Nobody is in it. All numbers below this one were given, and all tokens up to that one. (There are no more tokens than numbers, so as many numbers were
-- given, too.)
abbrev pub behind : ℕ → ℕ → BookView
behind next granted = record { asks = []; next = max next granted; granted = granted; durable = 0 }

-- these are the asks now
abbrev pub with_asks : BookView → List Ask → BookView
with_asks x asks = record { asks = asks; next = x.next; granted = x.granted; durable = x.durable }

-- one ask is so now
abbrev pub with_ask : BookView → ℕ → Ask → BookView
with_ask x place a = with_asks x (slice_set x.asks place a)

-- somebody asks, and waits
abbrev pub add : BookView → ℕ → ℕ → ℕ → Option ℕ → Option ℕ → ℕ → BookView
add x number class owner deadline limit now = record {
  asks = x.asks ++ asker number class owner deadline limit now ∷ [];
  next = number + 1;
  granted = x.granted;
  durable = x.durable;
}

-- an ask holds again, as the journal says up to where it outlives a crash; its number and its token are given
abbrev pub restore : BookView → ℕ → ℕ → ℕ → Option ℕ → ℕ → ℕ → ℕ → ℕ → ℕ → BookView
restore x number class owner limit needs asked since gone token = record {
  asks = x.asks ++ restored number class owner limit needs asked since gone token x.durable ∷ [];
  next = max (max x.next (number + 1)) token;
  granted = max x.granted token;
  durable = x.durable;
}

-- one holds these instruments, from this moment on, with the next token
abbrev pub hold : BookView → ℕ → ℕ → ℕ → Bool → BookView
hold x place needs now keeps = record {
  asks = slice_set x.asks place (holding needs now keeps (x.granted + 1) (ask_at x.asks place));
  next = x.next;
  granted = x.granted + 1;
  durable = x.durable;
}

-- one is over, from this moment on
abbrev pub end : BookView → ℕ → End → ℕ → BookView
end x place how now = with_ask x place (over how now (ask_at x.asks place))

-- the client of one is gone since this moment
abbrev pub set_gone : BookView → ℕ → ℕ → BookView
set_gone x place moment = with_ask x place (gone_since moment (ask_at x.asks place))

-- it is there again
abbrev pub is_back : BookView → ℕ → BookView
is_back x place = with_ask x place (back_again (ask_at x.asks place))

-- all lines that are owed were given, and the journal is so long
abbrev pub give : BookView → ℕ → BookView
give x at = with_asks x (map (given at) x.asks)

-- the lines that one owes were given, and the journal is so long
abbrev pub give_one : BookView → ℕ → ℕ → BookView
give_one x place at = with_ask x place (given at (ask_at x.asks place))

-- the journal outlives a crash up to there, too
abbrev pub reach : BookView → ℕ → BookView
reach x position = record { asks = x.asks; next = x.next; granted = x.granted; durable = max x.durable position }

-- the journal goes on in a new file, which says of each that holds that it does, and outlives a crash up to this position
abbrev pub turn : BookView → ℕ → BookView
turn x at = record { asks = map (turned at) x.asks; next = x.next; granted = x.granted; durable = max x.durable at }

-- one was told this
abbrev pub heard : BookView → ℕ → Outcome → BookView
heard x place what = with_ask x place (hearing what (ask_at x.asks place))

-- those that are done aren't in the book any more
abbrev pub purge : BookView → BookView
purge x = with_asks x (filter (λ a. not (is_done a)) x.asks)
