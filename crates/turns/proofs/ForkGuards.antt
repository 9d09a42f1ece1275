-- What the fork moves ask of the edge and of the job's phase, also after the moves before them.
use Rattle.std.proofs.Common.{◌≡◌, ◌≢◌, ◌↔◌, ℕ, ◌<◌, Bool, true, false, not, ◌&&◌, length, refl, sym, ◌∙◌, subst}
use Rattle.std.proofs.lemmas.Bool.{false≢true}
use Rattle.lab_plan.specs.LabPlan.{LabPlan}
use Rattle.legal_steps.specs.declared.event.Event.TheVariants.{AskFork, Soil}
use Rattle.legal_steps.specs.declared.end.End.{End}
use Rattle.legal_steps.specs.declared.end.End.TheVariants.{Lower, Higher}
use Rattle.legal_steps.specs.declared.phase.Dining.TheVariants.{Hungry, Eating}
use Rattle.legal_steps.specs.declared.phase.JobState.{JobState}
use Rattle.legal_steps.specs.declared.edge_state.EdgeState.{EdgeState}
use Rattle.legal_steps.specs.State.{State, IsOwn, edge, phase, end_of}
use Rattle.legal_steps.specs.Legal.{May, is_at, fork_given, fork_asked}
use Rattle.edge_word.specs.declared.moves.EdgeMoves.{EdgeMoves}
use Rattle.edge_word.specs.Moves.{when}
use Rattle.turns.specs.Due.{bottles_gone, all_asked_for, AreForkMoves}
use Rattle.turns.proofs.Stages.{stage_two, stage_four, edge_two}

pub at_here : (here x : End) → is_at here x ≡ true → x ≡ here
at_here Lower Lower h = refl
at_here Higher Higher h = refl
at_here Lower Higher h = absurd (false≢true h)
at_here Higher Lower h = absurd (false≢true h)

pub here_at : (here x : End) → x ≡ here → is_at here x ≡ true
here_at Lower Lower h = refl
here_at Higher Higher h = refl
here_at Lower Higher h = absurd (cc)
here_at Higher Lower h = absurd (cc)

-- both parts of a test
pub both : (a b : Bool) → (a && b) ≡ true → (a ≡ true) × (b ≡ true)
both true b h = (refl, h)
both false b h = absurd (false≢true h)

pub untrue : (a : Bool) → not a ≡ true → a ≡ false
untrue true h = absurd (false≢true h)
untrue false h = refl

module _ (plan : LabPlan) (j e : ℕ) where
  abbrev here : End
  here = end_of plan j e

  -- what each event asks of the edge and the phase
  abbrev pub GiveAt : EdgeState → JobState → Type 0
  GiveAt x ph = IsOwn plan j e × (ph.dining ≢ Eating) × (x.fork ≡ here) × (x.dirty ≡ true) × (x.token ≡ here)

  abbrev pub AskAt : EdgeState → JobState → Type 0
  AskAt x ph = IsOwn plan j e × (ph.dining ≡ Hungry) × (x.fork ≢ here) × (x.token ≡ here)

  abbrev pub SoilAt : EdgeState → JobState → Type 0
  SoilAt x ph = IsOwn plan j e × (ph.dining ≡ Eating) × (x.fork ≡ here) × (x.dirty ≡ false)

  asked_same : (b : Bool) (x : EdgeState) → ((when b fork_asked x).fork ≡ x.fork) × ((when b fork_asked x).dirty ≡ x.dirty)
  asked_same true x = (refl, refl)
  asked_same false x = (refl, refl)

  module _ (s : State) (m : EdgeMoves) (he : e < length s.edges) (hj : j < length s.seats) where
    abbrev x : EdgeState
    x = edge s e

    abbrev ph : JobState
    ph = phase s j

    -- each guard, by the edge as it was seen
    pub ask_at : May plan (bottles_gone plan s j e m) (AskFork j e) ↔ AskAt (when m.give_fork fork_given x) ph
    ask_at = let a = stage_two plan s j e m he hj in (
      λ h. subst (λ (q : EdgeState × JobState). AskAt q.0 q.1) (λ i. (a.edge_is i, a.phase_is i)) h,
      λ h. subst (λ (q : EdgeState × JobState). AskAt q.0 q.1) (λ i. (sym a.edge_is i, sym a.phase_is i)) h,
    )

    pub soil_at : May plan (all_asked_for plan s j e m) (Soil j e) ↔ SoilAt (when m.give_fork fork_given x) ph
    soil_at = let a = stage_four plan s j e m he hj in let b = asked_same m.ask_fork (edge_two m x) in (
      λ h. let q = subst (λ (q : EdgeState × JobState). SoilAt q.0 q.1) (λ i. (a.edge_is i, a.phase_is i)) h in (q.0, q.1, sym b.0 ∙ q.2, sym b.1 ∙ q.3),
      λ h. subst (λ (q : EdgeState × JobState). SoilAt q.0 q.1) (λ i. (sym a.edge_is i, sym a.phase_is i)) (h.0, h.1, b.0 ∙ h.2, b.1 ∙ h.3),
    )

  -- moves with the same fork moves
  pub same_forks : (s : State) (m r : EdgeMoves) (he : e < length s.edges) (hj : j < length s.seats) → r.give_fork ≡ m.give_fork
      → r.ask_fork ≡ m.ask_fork → r.soil ≡ m.soil → AreForkMoves plan s j e m → AreForkMoves plan s j e r
  same_forks s m r he hj g a t due =
      let am = ask_at s m he hj in
      let ar = ask_at s r he hj in
      let sm = soil_at s m he hj in
      let sr = soil_at s r he hj in
      record {
        give_fork = (λ h. due.give_fork.0 (sym g ∙ h), λ h. g ∙ due.give_fork.1 h);
        ask_fork = (
          λ h. ar.1 (subst (λ b. AskAt (when b fork_given (edge s e)) (phase s j)) (sym g) (am.0 (due.ask_fork.0 (sym a ∙ h)))),
          λ h. a ∙ due.ask_fork.1 (am.1 (subst (λ b. AskAt (when b fork_given (edge s e)) (phase s j)) g (ar.0 h))),
        );
        soil = (
          λ h. sr.1 (subst (λ b. SoilAt (when b fork_given (edge s e)) (phase s j)) (sym g) (sm.0 (due.soil.0 (sym t ∙ h)))),
          λ h. t ∙ due.soil.1 (sm.1 (subst (λ b. SoilAt (when b fork_given (edge s e)) (phase s j)) g (sr.0 h))),
        );
      }
