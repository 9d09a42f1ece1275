-- Holds that are durable.
use Rattle.std.proofs.Common.{◌≡◌, ℕ, ◌≤◌, Bool, true, false, List, [], ◌∷◌, ◌++◌, refl, sym, ap, subst, ◌∙◌}
use Rattle.std.specs.Prelude.{◌||◌, count_by}
use Rattle.std.specs.List.{list_any}
use Rattle.bay_log.specs.declared.line.Line.{Line}
use Rattle.bay_log.specs.Alive.{alive, begins}
use Rattle.bay_log.specs.Laws.{DurableHoldsAreRead}
use Rattle.bay_log.proofs.Cuts.{cut, durable}
use Rattle.bay_log.proofs.Holding.{holds_once}

any_more : (n : ℕ) (a b : List Line) → list_any (begins n) a ≡ true → list_any (begins n) (a ++ b) ≡ true
any_more n [] b h = cc h
any_more n (x ∷ a) b h = at (begins n x) h (any_more n a b)
  where
    at : (t : Bool) → (t || list_any (begins n) a) ≡ true → (list_any (begins n) a ≡ true → list_any (begins n) (a ++ b) ≡ true)
        → (t || list_any (begins n) (a ++ b)) ≡ true
    at true here more = refl
    at false here more = more here

pub durable_holds : DurableHoldsAreRead
durable_holds log file back found s is up r some begin ends n entry here once holds =
    let first = cut.first log.lines file back found s.lines is r in
    let grown = durable log file back found s is up r some begin ends in
    let read : List Line = found.lines.items in
    let any : list_any (begins n) read ≡ true = ap (list_any (begins n)) grown.1 ∙ any_more n some grown.0 here in
    holds_once n entry read first.0 (ap (λ (l : List Line). alive l n) (sym first.1) ∙ holds)
    (subst (λ (l : List Line). count_by (begins n) l ≤ 1) first.1 once) any
