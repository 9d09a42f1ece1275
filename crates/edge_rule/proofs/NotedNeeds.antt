-- The needed bottles that a desk keeps, from one phase to the next.
use Rattle.std.proofs.Common.{◌≡◌, ◌↔◌, ℕ, ◌+◌, ◌<◌, ◌≤◌, true, false, List, length, get_or, set, refl, sym, ap, ◌∙◌, subst, inl, inr, arith, get_or-set_same, get_or-set_other}
use Rattle.std.proofs.lemmas.Bool.{cases_eq, false≢true}
use Rattle.std.proofs.lemmas.Nat.{pow_pos}
use Rattle.lab_plan.specs.LabPlan.{LabPlan, edges, bottles, sessions, session_names}
use Rattle.lab_plan.specs.NeededBottles.{AreNamed}
use Rattle.legal_steps.specs.declared.phase.Drinking.{Drinking}
use Rattle.legal_steps.specs.declared.phase.Drinking.TheVariants.{Tranquil, Retired}
use Rattle.legal_steps.specs.declared.phase.JobState.{JobState}
use Rattle.legal_steps.specs.State.{State, Has, IsInSession, phase}
use Rattle.legal_steps.specs.Legal.{May, instrument_of}
use Rattle.legal_steps.proofs.BottleSets.{has_none}
use Rattle.one_history.specs.declared.phase_event.PhaseEvent.{PhaseEvent}
use Rattle.one_history.specs.declared.phase_event.PhaseEvent.TheVariants as events
use Rattle.one_history.specs.PhaseEvents.{event_of, phase_after}
use Rattle.edge_rule.specs.NeededBottles.{AreNeededIn, AreNeeded, changes_session}

-- ---- in a session and out of it

out_tranquil : (d : Drinking) → d ≡ Tranquil → ¬ IsInSession d
out_tranquil d is h = elim h [ inl a ↦ absurd (cc) | inr r ↦ elim r [ inl a ↦ absurd (cc) | inr b ↦ absurd (cc) ] ]

out_retired : ¬ IsInSession Retired
out_retired h = elim h [ inl a ↦ absurd (cc) | inr r ↦ elim r [ inl a ↦ absurd (cc) | inr b ↦ absurd (cc) ] ]

-- ---- one edge

-- in a session they are the bottles that it names
pub named_needed : (plan : LabPlan) (j e n : ℕ) (x : JobState) → IsInSession x.drinking → AreNamed plan j x.session e n → AreNeededIn plan j x e n
unfolding Has
named_needed plan j e n x in_session all = record {
  of_edge = all.of_edge;
  just = λ k l. let b = all.just k l in (λ h. record { in_session = in_session; named = b.0 h }, λ needs. b.1 needs.named);
}

-- out of it there are none
pub none_at : (plan : LabPlan) (j e : ℕ) (x : JobState) → ¬ IsInSession x.drinking → AreNeededIn plan j x e 0
none_at plan j e x out = record {
  of_edge = pow_pos (length (bottles plan e));
  just = λ k l. (λ h. absurd (has_none k h), λ needs. absurd (out needs.in_session));
}

-- ---- all edges

-- a phase of the same session has the same needs
pub needs_stay : (plan : LabPlan) (j : ℕ) (x y : JobState) (sets : List ℕ) → y.session ≡ x.session
    → IsInSession x.drinking ↔ IsInSession y.drinking → AreNeeded plan j x sets → AreNeeded plan j y sets
needs_stay plan j x y sets same inside all = record {
  wide = all.wide;
  each = λ e own. let a = all.each e own in record {
    of_edge = a.of_edge;
    just = λ k l. let b = a.just k l in (
      λ h. let n = b.0 h in record {
        in_session = inside.0 n.in_session;
        named = ap (λ s. session_names plan j s (instrument_of plan e k)) same ∙ n.named;
      },
      λ n. b.1 (record {
        in_session = inside.1 n.in_session;
        named = ap (λ s. session_names plan j s (instrument_of plan e k)) (sym same) ∙ n.named;
      }),
    );
  };
}

-- one set is written, and those of the edges before it stay
pub set_more : (plan : LabPlan) (j : ℕ) (x : JobState) (own sets : List ℕ) (i e n : ℕ) → length sets ≡ length (edges plan)
    → e ≡ get_or own i 0 → e < length (edges plan) → AreNeededIn plan j x e n
    → ((k : ℕ) → k < i → AreNeededIn plan j x (get_or own k 0) (get_or sets (get_or own k 0) 0))
    → (k : ℕ) → k < i + 1 → AreNeededIn plan j x (get_or own k 0) (get_or (set sets e n) (get_or own k 0) 0)
set_more plan j x own sets i e n wide is inside named before k l =
    let here : AreNeededIn plan j x e (get_or (set sets e n) e 0) =
    subst (AreNeededIn plan j x e) (sym (get_or-set_same sets e n 0 (omega (arith, wide, inside)))) named in
    elim (cases_eq k i) [
      | inl last ↦ subst (λ f. AreNeededIn plan j x f (get_or (set sets e n) f 0)) (is ∙ ap (λ m. get_or own m 0) (sym last)) here
      | inr other ↦ elim (cases_eq (get_or own k 0) e) [
        | inl again ↦ subst (λ f. AreNeededIn plan j x f (get_or (set sets e n) f 0)) (sym again) here
        | inr ne ↦ subst (AreNeededIn plan j x (get_or own k 0)) (sym (get_or-set_other sets e (get_or own k 0) n 0 ne)) (before k (omega (arith, l, other)))
      ]
    ]

-- ---- an event

-- one that neither begins nor ends a session leaves the needs as they are
pub session_stays : (what : PhaseEvent) (plan : LabPlan) (s : State) (j : ℕ) → May plan s (event_of what j) → changes_session what ≡ false
    → ((phase_after what (phase s j)).session ≡ (phase s j).session)
    × (IsInSession (phase s j).drinking ↔ IsInSession (phase_after what (phase s j)).drinking)
session_stays events.Thirst plan s j may stays = absurd (false≢true (sym stays))
session_stays events.Hunger plan s j may stays = (refl, ((λ h. h), (λ h. h)))
session_stays events.Sit plan s j may stays = (refl, ((λ h. h), (λ h. h)))
session_stays events.Leave plan s j may stays = (refl, ((λ h. h), (λ h. h)))
session_stays events.Drink plan s j may stays = (refl, ((λ h. inr (inl refl)), (λ h. inl may.1)))
session_stays events.Quit plan s j may stays = absurd (false≢true (sym stays))
session_stays events.Retire plan s j may stays = (refl, ((λ h. absurd (out_tranquil _ may.2 h)), (λ h. absurd (out_retired h))))
session_stays events.Withdraw plan s j may stays = absurd (false≢true (sym stays))

-- one that does leads into a session of the job, or into none
pub session_changes : (what : PhaseEvent) (plan : LabPlan) (s : State) (j : ℕ) → May plan s (event_of what j)
    → changes_session what ≡ true → IsInSession (phase_after what (phase s j)).drinking
    → (1 ≤ (phase_after what (phase s j)).session) × ((phase_after what (phase s j)).session ≤ length (sessions plan j))
session_changes events.Thirst plan s j may changes h = let left = may.3 in (omega arith, omega arith)
session_changes events.Hunger plan s j may changes h = absurd (false≢true changes)
session_changes events.Sit plan s j may changes h = absurd (false≢true changes)
session_changes events.Leave plan s j may changes h = absurd (false≢true changes)
session_changes events.Drink plan s j may changes h = absurd (false≢true changes)
session_changes events.Quit plan s j may changes h = absurd (out_tranquil Tranquil refl h)
session_changes events.Retire plan s j may changes h = absurd (false≢true changes)
session_changes events.Withdraw plan s j may changes h = absurd (out_tranquil Tranquil refl h)
