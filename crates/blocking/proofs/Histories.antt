-- The histories that rounds lead to.
use Rattle.std.proofs.Common.{◌≡◌, ℕ, zero, suc, ◌≤◌, List, [], ◌∷◌, ◌++◌, length, take, refl, sym, ap, ◌∙◌, append_assoc}
use Rattle.std.proofs.lemmas.List.{take-append-le}
use Rattle.lab_plan.specs.LabPlan.{LabPlan}
use Rattle.legal_steps.specs.declared.event.Event.{Event}
use Rattle.turns.specs.History.{IsHistory}
use Rattle.turns.specs.Lists.{StartsWith}
use Rattle.rounds.proofs.SameRun.{legal_from}
use Rattle.waiting.specs.Rounds.{joined}
use Rattle.blocking.specs.Blocks.{history_after}

pub starts : (rounds : List (List Event)) (k : ℕ) → StartsWith (joined rounds) (joined (take k rounds))
starts rounds zero = (joined rounds, refl)
starts [] (suc k) = ([], refl)
starts (r ∷ rounds) (suc k) = let s = starts rounds k in (s.0, ap (λ l. r ++ l) s.1 ∙ sym (append_assoc r (joined (take k rounds)) s.0))

pub legal_at : (plan : LabPlan) (rounds : List (List Event)) → IsHistory plan (joined rounds) → (k : ℕ) → IsHistory plan (joined (take k rounds))
legal_at plan rounds legal k = legal_from plan (joined rounds) (joined (take k rounds)) (starts rounds k) legal

-- one round more leaves those before it
pub same_before : (rounds : List (List Event)) (e : List Event) (k : ℕ) → k ≤ length rounds → history_after rounds k ≡ history_after (rounds ++ e ∷ []) k
same_before rounds e k few = ap joined (sym (take-append-le k rounds (e ∷ []) few))
