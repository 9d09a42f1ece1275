-- What taking out a sink keeps.
use Rattle.std.proofs.Common.{◌≡◌, ℕ, zero, suc, ◌<◌, Bool, true, false, List, [], ◌∷◌, ◌++◌, get_or, inl, inr, refl, sym, ◌∙◌, ap, subst, arith, get_or-set_other, set}
use Rattle.std.proofs.lemmas.Bool.{cases_eq, cases_Bool}
use Rattle.std.specs.Prelude.{replicate}
use Rattle.cycles.specs.Cycles.{IsCycleOf, HasNoCycle, IsAmong, AreBelow}
use Rattle.cycles.specs.Peeling.{IsSink, NoCycleBeginsOut, NoneLeadsOn}
use Rattle.cycles.proofs.Turning.{LeadsBackTo-join}
use Rattle.cycles.proofs.Pairs.{IsAmong-below}

-- a sink is on no cycle
sink_on_no_cycle : (pairs : List (ℕ × ℕ)) (left : List Bool) (job : ℕ) → NoCycleBeginsOut pairs left
    → IsSink pairs left job → (jobs : List ℕ) → ¬ IsCycleOf (IsAmong pairs) (job ∷ jobs)
sink_on_no_cycle pairs left job out sink [] c = out job [] (sink job c) c
sink_on_no_cycle pairs left job out sink (next ∷ rest) c =
    out next (rest ++ job ∷ []) (sink next c.0) (LeadsBackTo-join (IsAmong pairs) next next rest job [] c.1 c.0)

pub taken_out : (pairs : List (ℕ × ℕ)) (left : List Bool) (job : ℕ) → NoCycleBeginsOut pairs left
    → IsSink pairs left job → NoCycleBeginsOut pairs (set left job false)
taken_out pairs left job out sink x jobs o c = elim (cases_eq x job) [
  | inl q ↦ sink_on_no_cycle pairs left job out sink jobs (subst (λ y. IsCycleOf (IsAmong pairs) (y ∷ jobs)) q c)
  | inr q ↦ out x jobs (sym (get_or-set_other left job x false false q) ∙ o) c
]

-- the first of a cycle leads on
leads_on : (R : ℕ → ℕ → Type 0) (job : ℕ) (jobs : List ℕ) → IsCycleOf R (job ∷ jobs) → (next : ℕ) × R job next
leads_on R job [] c = (job, c)
leads_on R job (next ∷ jobs) c = (next, c.0)

pub replicate_at : (n job : ℕ) → job < n → get_or (replicate n true) job false ≡ true
replicate_at zero job l = absurd (omega arith)
replicate_at (suc n) zero l = refl
replicate_at (suc n) (suc job) l = replicate_at n job (omega arith)

-- as long as all are left
pub none_out : (pairs : List (ℕ × ℕ)) (n : ℕ) (left : List Bool) → AreBelow n pairs → left ≡ replicate n true → NoCycleBeginsOut pairs left
none_out pairs n left b e job jobs o c =
    let on = leads_on (IsAmong pairs) job jobs c in
    let t : get_or left job false ≡ true = ap (λ z. get_or z job false) e ∙ replicate_at n job (IsAmong-below pairs n job on.0 b on.1).0 in cc

-- where no job that is left leads on, there is no cycle at all
pub no_cycle_left : (pairs : List (ℕ × ℕ)) (left : List Bool) → NoCycleBeginsOut pairs left → NoneLeadsOn pairs left → HasNoCycle (IsAmong pairs)
no_cycle_left pairs left out none [] c = c
no_cycle_left pairs left out none (job ∷ jobs) c = elim (cases_Bool (get_or left job false)) [
  | inl t ↦ let on = leads_on (IsAmong pairs) job jobs c in none job on.0 t on.1
  | inr o ↦ out job jobs o c
]
