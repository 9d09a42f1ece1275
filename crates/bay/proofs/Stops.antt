-- All that wait end.
use Rattle.std.proofs.Common.{◌≡◌, ℕ, length, length-set, ap, ◌∙◌, inl, inr}
use Rattle.bay_book.specs.declared.ask.End.TheVariants.{Stopped}
use Rattle.bay_book.specs.Asks.{ask_at, over}
use Rattle.bay.specs.Cores.{Core}
use Rattle.bay.specs.Stopping.{StopsOne}

-- there are as many asks as before
pub as_many : (now place : ℕ) (old new : Core) → StopsOne now place old new → length new.book.asks ≡ length old.book.asks
as_many now place old new (inl h) =
    ap (λ (x : Core). length x.book.asks) h.1 ∙ length-set old.book.asks place (over Stopped now (ask_at old.book.asks place))
as_many now place old new (inr h) = ap (λ (x : Core). length x.book.asks) h.1
