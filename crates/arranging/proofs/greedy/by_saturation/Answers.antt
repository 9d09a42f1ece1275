use Rattle.std.proofs.Common.{◌≡◌, ◌∙◌, ◌<◌, ℕ, List, sym, ap, subst, slice_index}
use Rattle.std.specs.Prelude.{replicate}
use Rattle.std.proofs.Math.ListN.{set}
use Rattle.arranging.specs.Colours.{IsNear}
use Rattle.arranging.proofs.Colourings.{IsOnItsWay, begins, goes_on}
use Rattle.arranging.proofs.greedy.by_saturation.Goals as goal

pub loop-job-init : goal.loop-job-init
loop-job-init g c =
    begins c.args.plan.now c.in_ok-colours.colours.items
    (c.in_ok-colours.ensures.items_if_clones_equal (λ copy e. e) ∙ ap (λ (n : ℕ). replicate n 255) c.jobs.ensures.jobs)

pub loop-job-preserved : goal.loop-job-preserved
loop-job-preserved g c =
    let plan = c.args.plan.now in
    let colours = c.loop-job.colours.items in
    let job = c.in-Some.job in
    let v = c.least_free-colour.result in
    let same = c.deref-in-Some.ensures.value in
    let none : slice_index colours job ≡ 255 = subst (λ (cs : List ℕ). slice_index cs job ≡ 255) c.deref.ensures.value c.in-Some.ensures.1 in
    let free : IsNear plan colours job v → ⊥ = λ near. c.least_free-colour.ensures.free (subst (λ (cs : List ℕ). IsNear plan cs job v) (sym same) near) in
    let least : (colour : ℕ) → colour < v → IsNear plan colours job colour = λ colour less. subst (λ (cs : List ℕ). IsNear plan cs job colour) same (c.least_free-colour.ensures.least colour less) in
    subst (λ (n : ℕ). IsOnItsWay plan (set colours job v) n) (sym c.max-count.ensures)
    (goes_on plan colours c.loop-job.count job v c.loop-job.invariant c.in-Some.ensures.0 none c.jobs.ensures.plan.draft.few_jobs
    c.least_free-colour.ensures.most free least)
