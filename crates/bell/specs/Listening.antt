-- For readers: what a listener counts, and when it may sleep.
use Rattle.std.specs.Prelude.{◌≡◌, ◌⊎◌, ℕ, ◌+◌, ◌<◌, ◌≤◌, IsNone, IsSome}
use Rattle.bell.specs.declared.listener.Listener.{Listener}

-- how many idle rounds in a row it only yields after
abbrev pub yields : ℕ
yields = 200

-- something was done: it counts anew, and doesn't sleep
abbrev pub Acted : Listener → Listener → Type 0
Acted l m = (m.idle ≡ 0) × IsNone m.heard

-- a round was idle, and is counted; or many were, and then it may sleep; or it has slept, and counts anew if the bell was rung
abbrev pub Idled : Listener → Listener → Type 0
Idled l m =
    ((l.idle < yields) × (m.idle ≡ l.idle + 1) × (m.heard ≡ l.heard))
    ⊎ ((yields ≤ l.idle) × IsNone l.heard × (m.idle ≡ l.idle) × IsSome m.heard)
    ⊎ ((yields ≤ l.idle) × IsSome l.heard × ((m.idle ≡ 0) ⊎ (m.idle ≡ l.idle)) × IsNone m.heard)

-- it doesn't sleep, and counts on
abbrev pub Left : Listener → Listener → Type 0
Left l m = (m.idle ≡ l.idle) × IsNone m.heard
