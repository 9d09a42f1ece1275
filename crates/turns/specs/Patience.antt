-- For readers: the count of patience: in how many of its job's turns a session was thirsty at the start and at the end.
use Rattle.std.specs.Prelude.{ℕ, ◌+◌, ◌==◌, ◌&&◌, min, if◌then◌else◌, Bool, true, false}
use Rattle.legal_steps.specs.declared.phase.Drinking.{Drinking}
use Rattle.legal_steps.specs.declared.phase.Drinking.TheVariants.{Tranquil, Thirsty, Drinking as Drinks, Reaching, Retired}
use Rattle.legal_steps.specs.State.{State, session, drinking}

abbrev pub is_waiting : Drinking → Bool
is_waiting Thirsty = true
is_waiting Tranquil = false
is_waiting Drinks = false
is_waiting Reaching = false
is_waiting Retired = false

-- one more, up to the largest number of this many bits
abbrev pub one_more : ℕ → ℕ → ℕ
one_more top n = min (n + 1) top

-- a count, and the number of the session that it is of
pub record Waited : Type 0 where
  pub turns : ℕ
  pub session : ℕ

-- the count of session s: a count of an earlier session is none of its own, so it is 0 again at each Thirst
abbrev pub waited_in : Waited → ℕ → ℕ
waited_in w s = if w.session == s then w.turns else 0

-- the count after a turn that left job j in s, at whose start it was thirsty or not
abbrev pub waited_after : ℕ → Waited → Bool → State → Waited
waited_after j w thirsty s = record {
  turns = if thirsty && is_waiting (drinking s j) then one_more 4294967295 (waited_in w (session s j)) else waited_in w (session s j);
  session = session s j;
}

-- before the first turn
abbrev pub no_wait : Waited
no_wait = record { turns = 0; session = 0 }
