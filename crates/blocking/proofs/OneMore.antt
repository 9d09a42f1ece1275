-- What is noted desk by desk.
use Rattle.std.proofs.Common.{◌≡◌, ℕ, ◌+◌, ◌<◌, List, length, get_or, set, sym, ◌∙◌, subst, arith}
use Rattle.std.proofs.lemmas.List.{get_or-set_same, get_or-set_other}
use borrow.Author.Count.{below_more}
use Rattle.lab_plan.specs.LabPlan.{LabPlan}
use Rattle.lab_plan.specs.InstrumentSets.{holds}
use Rattle.legal_steps.specs.declared.event.Event.{Event}
use Rattle.legal_steps.specs.State.{phase}
use Rattle.edge_rule.specs.DeskView.{DeskView, known}
use Rattle.rounds.specs.Rounds.{known_in}
use Rattle.waiting.specs.Holding.{holds_in}
use Rattle.waiting.specs.Watching.{DeskKnows, KnowAll}
use Rattle.blocking.specs.Watching.{set_at}

-- the set is what job j holds
abbrev pub Noted : LabPlan → List Event → ℕ → ℕ → Type 0
Noted plan h set j = (i : ℕ) → holds set i ≡ holds_in plan j (phase (known_in plan h j) j) i

-- what a desk says that its job holds
pub noted : (plan : LabPlan) (h : List Event) (desks : List DeskView) → KnowAll plan h desks → (j : ℕ) (d : DeskView) → j < length plan.jobs
    → d ≡ get_or desks j d → (set : ℕ) → ((i : ℕ) → holds set i ≡ holds_in plan d.job (phase (known d) d.job) i) → Noted plan h set j
noted plan h desks all j d inside is set held =
    let k : DeskKnows plan h j d = subst (DeskKnows plan h j) (sym is) (all.each j d inside) in
    λ i. held i ∙ (λ z. holds_in plan (k.job_is z) (phase (k.known_is z) (k.job_is z)) i)

-- one desk more
pub one_set : (plan : LabPlan) (h : List Event) (sets : List ℕ) (n v : ℕ) → n < length sets → ((j : ℕ) → j < n → Noted plan h (set_at sets j) j)
    → Noted plan h v n → (j : ℕ) → j < n + 1 → Noted plan h (set_at (set sets n v) j) j
one_set plan h sets n v inside all here =
    below_more (λ j. Noted plan h (set_at (set sets n v) j) j) n
    (λ j less. subst (λ s. Noted plan h s j) (sym (get_or-set_other sets n j v 0 (λ e. absurd (omega (arith, e, less))))) (all j less))
    (subst (λ s. Noted plan h s n) (sym (get_or-set_same sets n v 0 inside)) here)
