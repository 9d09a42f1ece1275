-- A text with steps has at most one meaning.
use Rattle.std.proofs.Common.{◌≡◌, ℕ, ◌+◌, ◌<◌, ◌≤◌, List, [], ◌∷◌, ◌++◌, length, suc, refl, sym, ap, ◌∙◌, subst, arith, ⊎_elim}
use Rattle.std.specs.Prelude.{Option, None, Some, map}
use Rattle.std.proofs.lemmas.Bool.{lt-leb}
use Rattle.lab_plan.specs.LabPlan.{LabPlan}
use Rattle.legal_steps.specs.declared.event.Step.{Step}
use Rattle.legal_steps.specs.declared.event.StepLine.{StepLine}
use Rattle.script_reader.specs.declared.fault.ScriptCause.{ScriptCause}
use Rattle.script_reader.specs.Script.{text_lines}
use Rattle.script_reader.specs.Steps.{script_part, steps_part, first_step, list_of, placed, step_cause, AreSteps, IsFaultInSteps, StepsMean, StepsFault}
use Rattle.script_reader.proofs.OneMeaning.{plans, apart, one_fault}

-- ---- lists of steps

placed_same : (s t : List StepLine) → map placed s ≡ map placed t → s ≡ t
placed_same [] [] e = refl
placed_same [] (y ∷ t) e = cc
placed_same (x ∷ s) [] e = cc
placed_same (x ∷ s) (y ∷ t) e =
    let head : placed x ≡ placed y = cc in
    let tail : map placed s ≡ map placed t = cc in
    let line : x.line ≡ y.line = ap (λ (p : ℕ × Option Step). p.0) head in
    let found : Some x.step ≡ Some y.step = ap (λ (p : ℕ × Option Step). p.1) head in
    let step : x.step ≡ y.step = cc in
    let more = placed_same s t tail in
    λ i. record { line = line i; step = step i } ∷ more i

no_cause : (count : ℕ) (step : Step) → count < 1000000 → step_cause count (Some step) ≡ None
no_cause count step below = rw (lt-leb 1000000 count below) refl

-- a line that is a step, with room for it, meets no cause
is_clean : (k : ℕ) (a : Option Step) (x : StepLine) (m : ℕ) (cause : ScriptCause) → (m, a) ≡ placed x → k + 0 < 1000000 → step_cause (k + 0) a ≡ Some cause → ⊥
is_clean k a x m cause e below met =
    let found : a ≡ Some x.step = ap (λ (p : ℕ × Option Step). p.1) e in
    let none : None ≡ Some cause = sym (ap (step_cause (k + 0)) found ∙ no_cause (k + 0) x.step below) ∙ met in
    cc

along : (k n : ℕ) → k + suc n ≡ k + 1 + n
along k n = omega arith

never : (k : ℕ) (s front : List StepLine) (n : ℕ) (found : Option Step) (back : List (ℕ × Option Step)) (cause : ScriptCause)
    → map placed s ≡ map placed front ++ (n, found) ∷ back → k + length s ≤ 1000000 → step_cause (k + length front) found ≡ Some cause → ⊥
never k [] [] n found back cause e few met = cc
never k [] (y ∷ front) n found back cause e few met = cc
never k (x ∷ s) [] n found back cause e few met = let head : (n, found) ≡ placed x = cc in is_clean k found x n cause head (omega (arith, few)) met
never k (x ∷ s) (y ∷ front) n found back cause e few met =
    let tail : map placed s ≡ map placed front ++ (n, found) ∷ back = cc in
    never (k + 1) s front n found back cause tail (omega (arith, few)) (ap (λ c. step_cause c found) (sym (along k (length front))) ∙ met)

two : (k : ℕ) (f g : List StepLine) (m n : ℕ) (a b : Option Step) (p q : List (ℕ × Option Step)) (cause other : ScriptCause)
    → map placed f ++ (m, a) ∷ p ≡ map placed g ++ (n, b) ∷ q → k + length f ≤ 1000000 → k + length g ≤ 1000000
    → step_cause (k + length f) a ≡ Some cause → step_cause (k + length g) b ≡ Some other → (m ≡ n) × (cause ≡ other)
two k [] [] m n a b p q cause other e few less met also =
    let head : (m, a) ≡ (n, b) = cc in
    let found : a ≡ b = ap (λ (x : ℕ × Option Step). x.1) head in
    let same : Some cause ≡ Some other = sym met ∙ ap (step_cause (k + 0)) found ∙ also in
    (ap (λ (x : ℕ × Option Step). x.0) head, cc)
two k [] (y ∷ g) m n a b p q cause other e few less met also =
    let head : (m, a) ≡ placed y = cc in
    absurd (is_clean k a y m cause head (omega (arith, less)) met)
two k (x ∷ f) [] m n a b p q cause other e few less met also =
    let head : (n, b) ≡ placed x = cc in
    absurd (is_clean k b x n other head (omega (arith, few)) also)
two k (x ∷ f) (y ∷ g) m n a b p q cause other e few less met also =
    let tail : map placed f ++ (m, a) ∷ p ≡ map placed g ++ (n, b) ∷ q = cc in
    two (k + 1) f g m n a b p q cause other tail (omega (arith, few)) (omega (arith, less))
    (ap (λ c. step_cause c a) (sym (along k (length f))) ∙ met) (ap (λ c. step_cause c b) (sym (along k (length g))) ∙ also)

from_none : (n : ℕ) → 0 + n ≡ n
from_none n = omega arith

never_in : (plan : LabPlan) (first : ℕ) (lines : List (List ℕ)) (steps : List StepLine) (n : ℕ) (cause : ScriptCause)
    → AreSteps plan first lines steps → IsFaultInSteps plan first lines n cause → ⊥
never_in plan first lines steps n cause are f =
    never 0 steps f.0 n f.1 f.2 cause (sym are.0 ∙ f.3) (let few = are.1 in omega (arith, few)) (ap (λ c. step_cause c f.1) (from_none (length f.0)) ∙ f.5)

two_in : (plan : LabPlan) (first : ℕ) (lines : List (List ℕ)) (m n : ℕ) (cause other : ScriptCause)
    → IsFaultInSteps plan first lines m cause → IsFaultInSteps plan first lines n other → (m ≡ n) × (cause ≡ other)
two_in plan first lines m n cause other f g =
    two 0 f.0 g.0 m n f.1 g.1 f.2 g.2 cause other (sym f.3 ∙ g.3) (let few = f.4 in omega (arith, few)) (let few = g.4 in omega (arith, few))
    (ap (λ c. step_cause c f.1) (from_none (length f.0)) ∙ f.5) (ap (λ c. step_cause c g.1) (from_none (length g.0)) ∙ g.5)

-- ---- texts

pub one_list : (text : List ℕ) (p q : LabPlan) (s t : List StepLine) → StepsMean text p s → StepsMean text q t → (p ≡ q) × (s ≡ t)
one_list text p q s t h k =
    let lines = text_lines text in
    let same = plans (script_part lines) p q h.0 k.0 in
    (same, placed_same s t (sym h.1.0 ∙ ap (λ plan. list_of plan (first_step lines) (steps_part lines)) same ∙ k.1.0))

pub list_or_fault : (text : List ℕ) (p : LabPlan) (s : List StepLine) (n : ℕ) (cause : ScriptCause) → StepsMean text p s → StepsFault text n cause → ⊥
list_or_fault text p s n cause h f =
    let lines = text_lines text in
    ⊎_elim
    (λ k. apart (script_part lines) p n cause h.0 k)
    (λ k.
    let same = plans (script_part lines) k.0 p k.1 h.0 in
    never_in p (first_step lines) (steps_part lines) s n cause h.1 (subst (λ plan. IsFaultInSteps plan (first_step lines) (steps_part lines) n cause) same k.2))
    f

pub one_step_fault : (text : List ℕ) (m n : ℕ) (cause other : ScriptCause) → StepsFault text m cause → StepsFault text n other → (m ≡ n) × (cause ≡ other)
one_step_fault text m n cause other f g =
    let lines = text_lines text in
    ⊎_elim
    (λ h. ⊎_elim (λ k. one_fault (script_part lines) m n cause other h k) (λ k. absurd (apart (script_part lines) k.0 m cause k.1 h)) g)
    (λ h.
    ⊎_elim
    (λ k. absurd (apart (script_part lines) h.0 n other h.1 k))
    (λ k.
    let same = plans (script_part lines) k.0 h.0 k.1 h.1 in
    two_in h.0 (first_step lines) (steps_part lines) m n cause other h.2
    (subst (λ plan. IsFaultInSteps plan (first_step lines) (steps_part lines) n other) same k.2))
    g)
    f
