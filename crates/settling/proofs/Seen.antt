-- What a look sets a fork mark to.
use Rattle.std.proofs.Common.{◌≡◌, ◌≢◌, ◌↔◌, ◌⊎◌, ℕ, Bool, true, false, not, ◌&&◌, ◌||◌, if◌then◌else◌, refl, sym, ap, ◌∙◌, inl, inr}
use Rattle.lab_plan.specs.LabPlan.{LabPlan}
use Rattle.legal_steps.specs.declared.end.End.{End}
use Rattle.legal_steps.specs.declared.end.End.TheVariants.{Lower, Higher}
use Rattle.legal_steps.specs.declared.phase.Dining.{Dining}
use Rattle.legal_steps.specs.declared.phase.Dining.TheVariants.{Thinking, Hungry, Eating}
use Rattle.legal_steps.specs.declared.phase.Drinking.{Drinking}
use Rattle.legal_steps.specs.declared.phase.Drinking.TheVariants.{Tranquil, Thirsty, Drinking as Drinks, Reaching, Retired}
use Rattle.legal_steps.specs.declared.phase.JobState.{JobState}
use Rattle.legal_steps.specs.declared.edge_state.EdgeState.{EdgeState}
use Rattle.legal_steps.specs.State.{State, opposite, edge, dining, drinking, end_of}
use Rattle.legal_steps.specs.Legal.{IsJob, fork_mark_seen, is_at, fork_given}
use Rattle.legal_steps.proofs.ReachedInvariant.{IsSound}
use Rattle.edge_word.specs.Moves.{when, end_moved}
use Rattle.edge_word.proofs.MoveLaws.{dirty_after}
use Rattle.turns.proofs.ForkGuards.{GiveAt, AskAt, SoilAt}
use Rattle.settling.specs.Left.{HasNothingToDo}

at_self : (here : End) → is_at here here ≡ true
at_self Lower = refl
at_self Higher = refl

is_here : (here thing : End) → thing ≡ here → is_at here thing ≡ true
is_here here thing h = ap (is_at here) h ∙ at_self here

not_here : (here thing : End) → thing ≢ here → is_at here thing ≡ false
not_here Lower Lower h = absurd (h refl)
not_here Higher Higher h = absurd (h refl)
not_here Lower Higher h = refl
not_here Higher Lower h = refl

moved_away : (here thing : End) → thing ≡ here → is_at here (opposite thing) ≡ false
moved_away here thing h = ap (λ z. is_at here (opposite z)) h ∙ away here where
  away : (x : End) → is_at x (opposite x) ≡ false
  away Lower = refl
  away Higher = refl

-- where the fork isn't there is no mark
pub seen_gone : (d : Dining) (here : End) (x : EdgeState) → is_at here x.fork ≡ false → fork_mark_seen d here x ≡ false
unfolding fork_mark_seen
seen_gone Eating here x h = ap (λ b. b && x.dirty) h
seen_gone Thinking here x h = ap (λ b. b && (not x.dirty || not (is_at here x.token))) h
seen_gone Hungry here x h = ap (λ b. b && (not x.dirty || not (is_at here x.token))) h

-- of a meal there is one for each fork that is here and dirty
eating_seen : (here : End) (x : EdgeState) → is_at here x.fork ≡ true → x.dirty ≡ true → fork_mark_seen Eating here x ≡ true
unfolding fork_mark_seen
eating_seen here x h dirty = λ i. h i && dirty i

seen_soiled : (d : Dining) (here : End) (x : EdgeState) → d ≡ Eating → is_at here x.fork ≡ true → x.dirty ≡ true → fork_mark_seen d here x ≡ true
seen_soiled d here x eats h dirty = ap (λ z. fork_mark_seen z here x) eats ∙ eating_seen here x h dirty

-- only the fork, whether it is dirty, and its token count
pub seen_alike : (d : Dining) (here : End) (x y : EdgeState) → y.fork ≡ x.fork → y.dirty ≡ x.dirty → y.token ≡ x.token → fork_mark_seen d here x ≡ fork_mark_seen d here y
unfolding fork_mark_seen
seen_alike Eating here x y f t k = λ i. is_at here (sym f i) && sym t i
seen_alike Thinking here x y f t k = λ i. is_at here (sym f i) && (not (sym t i) || not (is_at here (sym k i)))
seen_alike Hungry here x y f t k = λ i. is_at here (sym f i) && (not (sym t i) || not (is_at here (sym k i)))

-- the moves that were due at an edge leave the mark as a look would set it, if it was so before them
module _ (plan : LabPlan) (j e : ℕ) (x y : EdgeState) (ph : JobState) where
  abbrev left : Bool → EdgeState
  left given = when given fork_given x

  pub seen_after : (given asked soil mark : Bool) → (given ≡ true) ↔ GiveAt plan j e x ph → (asked ≡ true) ↔ AskAt plan j e (left given) ph →
      (soil ≡ true) ↔ SoilAt plan j e (left given) ph → y.fork ≡ end_moved given x.fork → y.dirty ≡ dirty_after given soil x.dirty → y.token ≡ end_moved asked x.token →
      mark ≡ fork_mark_seen ph.dining (end_of plan j e) x → (if soil then true else if given then false else mark) ≡ fork_mark_seen ph.dining (end_of plan j e) y
  seen_after true asked true mark g a so f t k is = absurd ((g.0 refl).1 (so.0 refl).1)
  seen_after false asked true mark g a so f t k is =
      sym (seen_soiled ph.dining (end_of plan j e) y (so.0 refl).1 (is_here (end_of plan j e) y.fork (f ∙ (so.0 refl).2)) t)
  seen_after true asked false mark g a so f t k is =
      sym (seen_gone ph.dining (end_of plan j e) y (ap (is_at (end_of plan j e)) f ∙ moved_away (end_of plan j e) x.fork (g.0 refl).2))
  seen_after false false false mark g a so f t k is = is ∙ seen_alike ph.dining (end_of plan j e) x y f t k
  seen_after false true false mark g a so f t k is =
      let out = not_here (end_of plan j e) x.fork (a.0 refl).2 in
      is ∙ (seen_gone ph.dining (end_of plan j e) x out ∙ sym (seen_gone ph.dining (end_of plan j e) y (ap (is_at (end_of plan j e)) f ∙ out)))

-- ---- who eats and has nothing to do is thirsty

thirsty_or : (d : Drinking) → (d ≡ Thirsty) ⊎ (d ≢ Thirsty)
thirsty_or Thirsty = inl refl
thirsty_or Tranquil = inr (λ h. absurd (cc))
thirsty_or Drinks = inr (λ h. absurd (cc))
thirsty_or Reaching = inr (λ h. absurd (cc))
thirsty_or Retired = inr (λ h. absurd (cc))

not_false : (b : Bool) → (b ≡ false → ⊥) → b ≡ true
not_false true h = refl
not_false false h = absurd (h refl)

pub no_dawdling : (plan : LabPlan) (s : State) (j : ℕ) → IsSound plan s → IsJob plan j → HasNothingToDo plan s j → dining s j ≡ Eating → drinking s j ≡ Thirsty
no_dawdling plan s j sound job nothing eats = elim (thirsty_or (drinking s j)) [
  | inl thirsty ↦ thirsty
  | inr other ↦ absurd (nothing.no_leave (
    job,
    eats,
    other,
    λ e own. let h = nothing.edges e own in let fork = sound.forks.eating j e own eats in
        h.looked ∙ seen_soiled (dining s j) (end_of plan j e) (edge s e) eats (is_here (end_of plan j e) (edge s e).fork fork)
        (not_false (edge s e).dirty (λ clean. h.calm.no_soil (own, eats, fork, clean))),
  ))
]
