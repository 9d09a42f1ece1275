-- What quiet says of one job: what it has asked for, and that it doesn't see all that it needs.
use Rattle.std.proofs.Common.{◌≡◌, ℕ, ◌^◌, ◌<◌, length, true, sym, subst, ap, ◌∙◌}
use Rattle.lab_plan.specs.LabPlan.{LabPlan, bottles, session_names}
use Rattle.legal_steps.specs.declared.phase.Dining.TheVariants.{Hungry}
use Rattle.legal_steps.specs.declared.phase.Drinking.TheVariants.{Thirsty}
use Rattle.legal_steps.specs.declared.phase.JobState.{JobState}
use Rattle.legal_steps.specs.declared.event.Event.TheVariants.{AskFork, AskBottles}
use Rattle.legal_steps.specs.State.{State, Has, IsOwn, IsInSession, edge, fork, token, dining, drinking, bottle_end, bottles_at, end_of}
use Rattle.legal_steps.specs.Fitting.{Fits}
use Rattle.legal_steps.specs.Legal.{There, IsJob, Needs, MayAskBottle, instrument_of}
use Rattle.legal_steps.proofs.BottleSets.{one_bottle, only_one}
use Rattle.reasons.specs.Quiet.{Waited, IsQuietFor, looked}
use Rattle.reasons.specs.Reasons.{Lacks}
use Rattle.reasons.proofs.Looks.{alike_looked, marked_looked}

module _ (plan : LabPlan) (s : State) (waited : Waited) (quiet : IsQuietFor plan s waited) where
  -- a hungry job has asked for each fork that is there
  pub fork_asked_for : (j e : ℕ) → IsOwn plan j e → dining s j ≡ Hungry → There plan j e (fork s e) → There plan j e (token s e)
  fork_asked_for j e own hungry there here = quiet.nothing_moves (AskFork j e) tt (own, hungry, there, here)

  -- a thirsty job has asked for each bottle that it lacks
  pub bottle_asked_for : (j e b : ℕ) → drinking s j ≡ Thirsty → Lacks plan s j e b → There plan j e (bottle_end (edge s e).bottle_tokens b)
  bottle_asked_for j e b thirsty lacks here =
      quiet.nothing_moves (AskBottles j e (2 ^ b)) tt (
        lacks.own,
        thirsty,
        one_bottle plan e b lacks.is_bottle,
        λ i has.
            subst (λ k. MayAskBottle plan s j e k) (sym (only_one b i has))
            (record { needed = lacks.needs; bottle_there = lacks.there; token_here = here }),
      )

  -- it needs what it needed before the looks
  needed_before : Fits plan s → (j i : ℕ) → IsJob plan j → Needs plan (looked plan s j) j i → Needs plan s j i
  needed_before fit j i job needs =
      let same = (alike_looked plan s j fit job).phase in
      record {
        in_session = subst (λ (p : JobState). IsInSession p.drinking) same needs.in_session;
        named = subst (λ (p : JobState). session_names plan j p.session i ≡ true) same needs.named;
      }

  -- a thirsty job whose owner waits doesn't see all that it needs, or it would drink
  pub not_all_seen : Fits plan s → (j : ℕ) → IsJob plan j → drinking s j ≡ Thirsty → waited j ≡ true
      → ((e : ℕ) → IsOwn plan j e → (b : ℕ) → b < length (bottles plan e) → Needs plan s j (instrument_of plan e b)
      → Has (bottles_at plan e (end_of plan j e) (edge s e)) b) → ⊥
  not_all_seen fit j job thirsty owner all =
      quiet.nobody_drinks j owner (
        job,
        ap (λ (p : JobState). p.drinking) (alike_looked plan s j fit job).phase ∙ thirsty,
        λ e own b small needs.
            subst (λ set. Has set b) (sym (marked_looked plan s j e fit job own))
            (all e own b small (needed_before fit j (instrument_of plan e b) job needs)),
      )
