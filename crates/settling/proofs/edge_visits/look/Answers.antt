use Rattle.std.proofs.Common.{◌≡◌, ℕ, Bool, true, false, not, ◌&&◌, ◌||◌, refl, sym, ap, ◌∙◌}
use mathlib.Core.Bool.{beq}
use Rattle.std.proofs.lemmas.Bool.{false≢true}
use Rattle.lab_plan.specs.LabPlan.{LabPlan}
use Rattle.legal_steps.specs.State.{dining, edge, end_of, bottles_at}
use Rattle.legal_steps.specs.declared.end.End.{End}
use Rattle.legal_steps.specs.declared.end.End.TheVariants.{Lower, Higher}
use Rattle.legal_steps.specs.declared.phase.Dining.{Dining}
use Rattle.legal_steps.specs.declared.phase.Dining.TheVariants.{Thinking, Hungry, Eating}
use Rattle.legal_steps.specs.declared.edge_state.EdgeState.{EdgeState}
use Rattle.legal_steps.specs.Legal.{fork_mark_seen, is_at}
use Rattle.legal_steps.proofs.FitsLaw.{own_is_job}
use Rattle.dining_layer.specs.Turned.{end_from, turned}
use Rattle.interleaving.specs.World.{WorldView}
use Rattle.settling.proofs.Visits.{calm_look}
use Rattle.settling.proofs.edge_visits.look.Goals as goal

same : (a b : Bool) → beq a b ≡ true → a ≡ b
same true true h = refl
same false false h = refl
same true false h = absurd (false≢true h)
same false true h = absurd (false≢true h)

at_from : (here thing : End) → is_at Higher (end_from here thing) ≡ is_at here thing
at_from Higher thing = refl
at_from Lower Lower = refl
at_from Lower Higher = refl

-- the mark that a look sets is the same, however the edge is turned
mark_from : (plan : LabPlan) (e : ℕ) (d : Dining) (here : End) (x : EdgeState) → fork_mark_seen d Higher (turned plan e here x) ≡ fork_mark_seen d here x
unfolding fork_mark_seen
mark_from plan e Eating here x = ap (λ b. b && x.dirty) (at_from here x.fork)
mark_from plan e Thinking here x = λ i. at_from here x.fork i && (not x.dirty || not (at_from here x.token i))
mark_from plan e Hungry here x = λ i. at_from here x.fork i && (not x.dirty || not (at_from here x.token i))

pub job-requires : goal.job-requires
job-requires g c = own_is_job c.args.world.now.plan c.args.job c.args.edge c.requires.own

pub returns-then-mine-bottle_marks : goal.returns-then-mine-bottle_marks
returns-then-mine-bottle_marks g c =
    let w : WorldView = c.args.world.now in
    let j = c.args.job in
    let e = c.args.edge in
    let here = end_of w.plan j e in
    let x : EdgeState = edge w.state e in
    let mine : c.args.mine ≡ turned w.plan e here x = c.requires.mine ∙ ap (turned w.plan e here) c.requires.seen in
    let mark : fork_mark_seen (dining w.state j) here x ≡ c.fork_mark-mark.result =
    sym (c.fork_mark-mark.ensures ∙ ((λ i. fork_mark_seen ((c.job.ensures.phase i).dining) Higher (mine i)) ∙ mark_from w.plan e (dining w.state j) here x)) in
    let marks : bottles_at w.plan e here x ≡ c.args.mine.bottles = sym (ap (λ (q : EdgeState). q.bottles) mine) in
    calm_look w j e c.requires.own (mark ∙ (same c.fork_mark-mark.result c.fork_mark.result c.if-mark-fork_mark.true ∙ c.fork_mark.ensures))
    (marks ∙ (c.if-mine-bottle_marks.true ∙ c.bottle_marks.ensures))
