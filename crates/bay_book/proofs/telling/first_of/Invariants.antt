use Rattle.std.proofs.Common.{◌≡◌, ℕ, ◌<◌, ◌≤◌, Some}
use Rattle.bay_book.specs.declared.ask.Outcome.{Outcome}
use Rattle.bay_book.specs.Asks.{ask_at}
use Rattle.bay_book.specs.Telling.{to_tell, says_over}
use Rattle.bay_book.proofs.telling.first_of.Given as goal

abbrev pub invariant-loop-place : goal.invariant-loop-place
invariant-loop-place l = (j : ℕ) → l.from ≤ j → j < l.place → (what : Outcome) → to_tell l.durable (ask_at l.asks j) ≡ Some what → says_over what ≡ l.over → ⊥
