-- What stands at a place of a log.
use Rattle.std.proofs.Common.{rules, ◌≡◌, ℕ, zero, suc, ◌+◌, List, [], ◌∷◌, map, refl, sym, ap, ◌∙◌, subst, arith}
use Rattle.std.specs.Prelude.{None, Some, slice_get}
use Rattle.std.specs.List.{AllByRecursion}
use Rattle.lab_plan.specs.LabPlan.{LabPlan}
use Rattle.instrument_log.specs.declared.entry.Entry.{Entry as LogEntry}
use Rattle.legal_steps.specs.WholeLogs.{line_of}
use Rattle.report_reader.specs.Line.{EntryText}
use Rattle.printed_reports.specs.Printed.{printed_entry}
use Rattle.printed_reports.proofs.Orders.{Next, Chained}
use Rattle.printed_reports.proofs.Written.{IsWritten}

pub some_is : {X : Type 0} (x y : X) → Some x ≡ Some y → x ≡ y
some_is x y e = search (rules, e)

pub none_some : {X : Type 0} (x : X) → None ≡ Some x → ⊥
none_some x e = search (rules, e)

-- an entry of a log, of what is told of it
pub entry_at : (plan : LabPlan) (entries : List LogEntry) (k : ℕ) (x : EntryText) → slice_get (map (printed_entry plan) entries) k ≡ Some x
    → (entry : LogEntry) × (slice_get entries k ≡ Some entry) × (x ≡ printed_entry plan entry)
entry_at plan [] k x at = absurd (none_some x at)
entry_at plan (entry ∷ entries) zero x at = (entry, refl, sym (some_is (printed_entry plan entry) x at))
entry_at plan (entry ∷ entries) (suc k) x at = entry_at plan entries k x at

pub written_at : (plan : LabPlan) (entries : List LogEntry) (k : ℕ) (entry : LogEntry) → AllByRecursion (IsWritten plan) entries
    → slice_get entries k ≡ Some entry → IsWritten plan entry
written_at plan [] k entry all at = absurd (none_some entry at)
written_at plan (x ∷ entries) zero entry all at = subst (IsWritten plan) (some_is x entry at) all.0
written_at plan (x ∷ entries) (suc k) entry all at = written_at plan entries k entry all.1 at

-- the entry behind it goes on with its part, or is of a session of a higher rank
pub next_at : (r : ℕ × ℕ → ℕ) (entries : List LogEntry) (k : ℕ) (a b : LogEntry) → Chained r (map line_of entries)
    → slice_get entries k ≡ Some a → slice_get entries (k + 1) ≡ Some b → Next r (line_of a) (line_of b)
next_at r [] k a b chained at next = absurd (none_some a at)
next_at r (x ∷ []) zero a b chained at next = absurd (none_some b next)
next_at r (x ∷ []) (suc k) a b chained at next = absurd (none_some a at)
next_at r (x ∷ y ∷ more) zero a b chained at next =
    subst (λ z. Next r (line_of z) (line_of b)) (some_is x a at) (subst (λ z. Next r (line_of x) (line_of z)) (some_is y b next) chained.0)
next_at r (x ∷ y ∷ more) (suc k) a b chained at next =
    let one : suc (k + 1) ≡ suc k + 1 = omega arith in
    next_at r (y ∷ more) k a b chained.1 at (ap (slice_get (x ∷ y ∷ more)) one ∙ next)
