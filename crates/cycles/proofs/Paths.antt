-- Walks that come back.
use Rattle.std.proofs.Common.{Bool, false, inl, inr, set, get_or-set_other, ◌≡◌, ℕ, zero, suc, ◌<◌, List, [], ◌∷◌, ◌++◌, length, get_or, drop, refl, sym, ◌∙◌, subst, arith}
use Rattle.std.specs.List.{Contains}
use Rattle.std.proofs.lemmas.List.Elements.{Contains-append_left, Contains-append_right}
use Rattle.cycles.specs.Cycles.{LeadsBackTo, IsCycleOf}
use Rattle.std.proofs.Math.ListN.{length-set}
use Rattle.std.proofs.lemmas.Bool.{cases_eq}
use Rattle.cycles.specs.Peeling.{IsOut}
use Rattle.cycles.specs.Walks.{LeadsTo}
use Rattle.cycles.proofs.Turning.{LeadsBackTo-join}

-- a walk goes on by one step
pub LeadsTo-snoc : (R : ℕ → ℕ → Type 0) (jobs : List ℕ) (at next : ℕ) → LeadsTo R jobs at → R at next → LeadsTo R (jobs ++ at ∷ []) next
LeadsTo-snoc R [] at next w r = r
LeadsTo-snoc R (job ∷ jobs) at next w r = LeadsBackTo-join R next job jobs at [] w r

pub Contains-last : (jobs : List ℕ) (job : ℕ) → Contains (jobs ++ job ∷ []) job
Contains-last jobs job = Contains-append_right jobs (job ∷ []) job (0, omega arith, refl)

-- from the place to which it comes back, a walk is a cycle
pub cycle_from : (R : ℕ → ℕ → Type 0) (jobs : List ℕ) (end k : ℕ) → LeadsTo R jobs end → k < length jobs → get_or jobs k 0 ≡ end → IsCycleOf R (drop k jobs)
cycle_from R [] end k w l e = absurd (omega arith)
cycle_from R (job ∷ jobs) end zero w l e = subst (λ v. LeadsBackTo R v job jobs) (sym e) w
cycle_from R (job ∷ []) end (suc k) w l e = absurd (omega arith)
cycle_from R (job ∷ next ∷ jobs) end (suc k) w l e = cycle_from R (next ∷ jobs) end k w.1 (omega arith) e

-- of a walk that goes on, each job that is no longer fresh is met
pub walked_met : (fresh : List Bool) (jobs : List ℕ) (at : ℕ) → ((job : ℕ) → job < length fresh → IsOut fresh job → Contains jobs job) →
    (job : ℕ) → job < length (set fresh at false) → IsOut (set fresh at false) job → Contains (jobs ++ at ∷ []) job
walked_met fresh jobs at met job l n = elim (cases_eq job at) [
  | inl q ↦ subst (λ z. Contains (jobs ++ at ∷ []) z) (sym q) (Contains-last jobs at)
  | inr q ↦ Contains-append_left jobs (at ∷ []) job
      (met job (omega (arith, l, length-set fresh at false)) (sym (get_or-set_other fresh at job false false q) ∙ n))
]
