-- Logs that are noted desk by desk.
use Rattle.std.proofs.Common.{◌≡◌, ℕ, zero, suc, ◌+◌, ◌<◌, List, [], ◌∷◌, length, get_or, set, take, drop, ◌++◌, refl, sym, ap, ◌∙◌, arith, add-one}
use Rattle.legal_steps.specs.State.{phase}
use Rattle.edge_rule.specs.DeskView.{DeskView, known}
use Rattle.waiting.specs.Noting.{LogView, log_then}
use Rattle.waiting.specs.Watching.{logs_then}

next : (k : ℕ) (desks : List DeskView) (logs : List LogView) (p : ℕ) (d : DeskView) (x : LogView) → p < length desks → p < length logs
    → set (logs_then k (take p desks) logs) p
    (log_then k (phase (known (get_or desks p d)) (get_or desks p d).job) (get_or (logs_then k (take p desks) logs) p x)) ≡ logs_then k (take (suc p) desks) logs
next k [] logs p d x inside there = absurd (omega (arith, inside))
next k (e ∷ desks) [] p d x inside there = absurd (omega (arith, there))
next k (e ∷ desks) (y ∷ logs) zero d x inside there = refl
next k (e ∷ desks) (y ∷ logs) (suc p) d x inside there = ap (λ z. log_then k (phase (known e) e.job) y ∷ z) (next k desks logs p d x (omega arith) (omega arith))

-- one desk more
pub one_more : (k : ℕ) (desks : List DeskView) (logs now : List LogView) (p : ℕ) (d : DeskView) (x : LogView) (d_is : d ≡ get_or desks p d)
    → p < length desks → length logs ≡ length desks → now ≡ logs_then k (take p desks) logs
    → (y : LogView) → y ≡ log_then k (phase (known d) d.job) (get_or now p x) → set now p y ≡ logs_then k (take (p + 1) desks) logs
one_more k desks logs now p d x d_is inside long is y made =
    ap (set now p) (made ∙ (λ i. log_then k (phase (known (d_is i)) (d_is i).job) (get_or now p x)))
    ∙ (ap (λ l. set l p (log_then k (phase (known (get_or desks p d)) (get_or desks p d).job) (get_or l p x))) is
    ∙ (next k desks logs p d x inside (omega (arith, inside, long)) ∙ ap (λ n. logs_then k (take n desks) logs) (sym (add-one p))))

front_of : {A : Type 0} (a b : List A) → take (length a) (a ++ b) ≡ a
front_of [] b = refl
front_of (x ∷ a) b = ap (λ l. x ∷ l) (front_of a b)

-- a slice that was lent whole, written back
pub written_back : {A : Type 0} (old new : List A) (n : ℕ) → n ≡ length old → length new ≡ length old → take n (new ++ drop (length new) old) ≡ new
written_back old new n long same = ap (λ k. take k (new ++ drop (length new) old)) (long ∙ sym same) ∙ front_of new (drop (length new) old)
