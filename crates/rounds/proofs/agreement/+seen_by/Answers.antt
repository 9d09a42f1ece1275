use Rattle.std.proofs.Common.{◌≡◌, ℕ, ◌-◌, ◌<◌, ◌≤◌, ◌==◌, Bool, true, false, List, [], ◌∷◌, length, take, drop, get_or, refl, sym, ap, ◌∙◌, subst, inl, inr, arith}
use Rattle.std.proofs.lemmas.List.{take_all}
use Rattle.std.proofs.lemmas.Bool.{eq-eqb, false≢true}
use Rattle.lab_plan.specs.LabPlan.{LabPlan, edges, bottles}
use Rattle.legal_steps.specs.declared.edge_state.EdgeState.{EdgeState}
use Rattle.legal_steps.specs.State.{edge}
use Rattle.edge_word.specs.Words.{IsOfBottles}
use Rattle.edge_rule.specs.DeskView.{DeskView, BenchView, Owns, known}
use Rattle.edge_rule.specs.Ending.{Any}
use Rattle.edge_rule.specs.Company.{jobs_of}
use Rattle.turns.specs.Lists.{Each}
use Rattle.rounds.specs.Company.{seen_by}
use Rattle.rounds.proofs.agreement.+seen_by.Goals as goal

-- a list behind its first, as a slice pattern gives it
abbrev others : List DeskView → List DeskView
others l = take (length l - 1) (drop 1 l)

behind : (d : DeskView) (l : List DeskView) → others (d ∷ l) ≡ l
behind d l = take_all (length (d ∷ l) - 1) l (omega arith)

shorter : (l : List DeskView) → 1 ≤ length l → length (others l) < length l
shorter [] n = absurd (omega arith)
shorter (d ∷ l) n = let s = ap length (behind d l) in omega arith

own_others : (P : DeskView → Type 0) (l : List DeskView) → 1 ≤ length l → Each P l → Each P (others l)
own_others P [] n each = absurd (omega arith)
own_others P (d ∷ l) n each = subst (Each P) (sym (behind d l)) each.1

own_first : (P : DeskView → Type 0) (l : List DeskView) (d : DeskView) → 1 ≤ length l → d ≡ get_or l 0 d → Each P l → P d
own_first P [] d n is each = absurd (omega arith)
own_first P (x ∷ l) d n is each = subst P (sym is) each.0

there : (l : List DeskView) (j : ℕ) (d : DeskView) → 1 ≤ length l → d ≡ get_or l 0 d
    → (d.job == j) ≡ false → Any (λ k. k ≡ j) (jobs_of l) → Any (λ k. k ≡ j) (jobs_of (others l))
there [] j d n is other any = absurd (omega arith)
there (x ∷ l) j d n is other any =
    subst (λ (z : List DeskView). Any (λ k. k ≡ j) (jobs_of z)) (sym (behind x l))
    (elim any [ inl here ↦ absurd (false≢true (sym other ∙ eq-eqb d.job j (ap (λ (z : DeskView). z.job) is ∙ here))) | inr later ↦ later ])

seen_first : (l : List DeskView) (j e : ℕ) (d : DeskView) → 1 ≤ length l → d ≡ get_or l 0 d → (d.job == j) ≡ true → edge (known d) e ≡ seen_by l j e
seen_first [] j e d n is same = absurd (omega arith)
seen_first (x ∷ l) j e d n is same = subst (λ (z : DeskView). edge (known d) e ≡ seen_by (z ∷ l) j e) is (rw same refl)

seen_behind : (l : List DeskView) (j e : ℕ) (d : DeskView) → 1 ≤ length l → d ≡ get_or l 0 d → (d.job == j) ≡ false
    → seen_by (others l) j e ≡ seen_by l j e
seen_behind [] j e d n is other = absurd (omega arith)
seen_behind (x ∷ l) j e d n is other =
    ap (λ (z : List DeskView). seen_by z j e) (behind x l) ∙ subst (λ (z : DeskView). seen_by l j e ≡ seen_by (z ∷ l) j e) is (rw other refl)

inside : (b : BenchView) (d : DeskView) (e : ℕ) → Owns b d → e < length (edges b.plan) → e < length (edges d.plan)
inside b d e own here = subst (λ (z : LabPlan). e < length (edges z)) (sym own.1) here

fits : (b : BenchView) (d : DeskView) (e : ℕ) (x : EdgeState) → Owns b d → IsOfBottles (length (bottles d.plan e)) x → IsOfBottles (length (bottles b.plan e)) x
fits b d e x own here = subst (λ (z : LabPlan). IsOfBottles (length (bottles z e)) x) own.1 here

-- what the test of the desk's job says
told : (b v : Bool) (k j job : ℕ) → b ≡ (k == j) → k ≡ job → b ≡ v → (job == j) ≡ v
told b v k j job e same is = subst (λ n. (n == j) ≡ v) same (sym e ∙ is)

pub seen-requires : goal.seen-requires
seen-requires g t c = inside c.args.bench.now c.desk-item.result c.args.edge
    (own_first (Owns c.args.bench.now) c.args.desks.now c.desk-item.result c.in-len1-up.len_at_least c.desk-item.is c.requires.own) c.requires.edge

pub returns-then-eq-clause-word : goal.returns-then-eq-clause-word
returns-then-eq-clause-word g t c = c.seen.ensures.word ∙ seen_first c.args.desks.now c.args.job c.args.edge c.desk-item.result
    c.in-len1-up.len_at_least c.desk-item.is (told c.eq.result true c.job.result c.args.job c.desk-item.result.job c.eq.ensures c.job.ensures.job c.if-eq.true)

pub returns-then-eq-clause-fits : goal.returns-then-eq-clause-fits
returns-then-eq-clause-fits g t c = fits c.args.bench.now c.desk-item.result c.args.edge c.seen.result
    (own_first (Owns c.args.bench.now) c.args.desks.now c.desk-item.result c.in-len1-up.len_at_least c.desk-item.is c.requires.own) c.seen.ensures.fits

pub seen_by-requires : goal.seen_by-requires
seen_by-requires g t c = let l : List DeskView = c.args.desks.now in
    let some : 1 ≤ length l = c.in-len1-up.len_at_least in
    let fewer : length (others l) < t = let s = shorter l some in omega (arith, c.decreases) in
    let other = told c.eq.result false c.job.result c.args.job c.desk-item.result.job c.eq.ensures c.job.ensures.job c.if-eq.false in
    λ κs h. (
      fewer,
      (
        (λ a m. h a m),
        (
          own_others (Owns c.args.bench.now) l some c.requires.own,
          (there l c.args.job c.desk-item.result some c.desk-item.is other c.requires.job, c.requires.edge),
        ),
      ),
    )

pub returns-clause-word : goal.returns-clause-word
returns-clause-word g t c = c.seen_by.ensures.word ∙ seen_behind c.args.desks.now c.args.job c.args.edge c.desk-item.result
    c.in-len1-up.len_at_least c.desk-item.is (told c.eq.result false c.job.result c.args.job c.desk-item.result.job c.eq.ensures c.job.ensures.job c.if-eq.false)

pub returns-clause-fits : goal.returns-clause-fits
returns-clause-fits g t c = c.seen_by.ensures.fits
