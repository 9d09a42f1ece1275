-- Joining chains, and turning a cycle.
use Rattle.std.proofs.Common.{ℕ, suc, ◌<◌, ◌≤◌, List, [], ◌∷◌, ◌++◌, length, get_or, take, drop, sym, subst}
use Rattle.std.proofs.lemmas.List.{append-nil, take-append-drop}
use Rattle.std.proofs.lemmas.List.Elements.{All-append, All-drop, All-take}
use Rattle.std.proofs.Math.Seq.{drop-cons}
use Rattle.std.specs.List.{All}
use Rattle.cycles.specs.Cycles.{LeadsBackTo, IsCycleOf, BeginsWithSmallest}

pub LeadsBackTo-join : (R : ℕ → ℕ → Type 0) (first job : ℕ) (jobs : List ℕ) (met : ℕ) (rest : List ℕ)
    → LeadsBackTo R met job jobs → LeadsBackTo R first met rest → LeadsBackTo R first job (jobs ++ met ∷ rest)
LeadsBackTo-join R first job [] met rest a b = (a, b)
LeadsBackTo-join R first job (next ∷ jobs) met rest a b = (a.0, LeadsBackTo-join R first next jobs met rest a.1 b)

LeadsBackTo-split : (R : ℕ → ℕ → Type 0) (first job : ℕ) (jobs : List ℕ) (met : ℕ) (rest : List ℕ)
    → LeadsBackTo R first job (jobs ++ met ∷ rest) → LeadsBackTo R met job jobs × LeadsBackTo R first met rest
LeadsBackTo-split R first job [] met rest c = (c.0, c.1)
LeadsBackTo-split R first job (next ∷ jobs) met rest c = let h = LeadsBackTo-split R first next jobs met rest c.1 in ((c.0, h.0), h.1)

-- a cycle may begin anywhere
turned : (R : ℕ → ℕ → Type 0) (front back : List ℕ) → IsCycleOf R (front ++ back) → IsCycleOf R (back ++ front)
turned R [] back c = subst (λ jobs. IsCycleOf R jobs) (sym (append-nil back)) c
turned R (job ∷ jobs) [] c = subst (λ jobs. IsCycleOf R jobs) (append-nil (job ∷ jobs)) c
turned R (job ∷ jobs) (met ∷ rest) c = let h = LeadsBackTo-split R job job jobs met rest c in LeadsBackTo-join R met met rest job jobs h.1 h.0

pub rotated_cycle : (R : ℕ → ℕ → Type 0) (jobs : List ℕ) (k : ℕ) → IsCycleOf R jobs → IsCycleOf R (drop k jobs ++ take k jobs)
rotated_cycle R jobs k c = turned R (take k jobs) (drop k jobs) (subst (λ js. IsCycleOf R js) (sym (take-append-drop k jobs)) c)

begins : (first : ℕ) (jobs : List ℕ) → All (λ job. first ≤ job) jobs → BeginsWithSmallest (first ∷ jobs)
begins first jobs a = a

pub rotated_smallest : (jobs : List ℕ) (k : ℕ) → k < length jobs → All (λ job. get_or jobs k 0 ≤ job) jobs → BeginsWithSmallest (drop k jobs ++ take k jobs)
rotated_smallest jobs k l a =
    let P : ℕ → Type 0 = λ job. get_or jobs k 0 ≤ job in
    subst (λ js. BeginsWithSmallest (js ++ take k jobs)) (sym (drop-cons jobs k 0 l))
    (begins (get_or jobs k 0) (drop (suc k) jobs ++ take k jobs)
    (All-append P (drop (suc k) jobs) (take k jobs) (All-drop P (suc k) jobs a) (All-take P k jobs a)))
