-- Each bottle that a thirsty job lacks is kept, where nothing moves.
use Rattle.std.proofs.Common.{◌≡◌, ◌≢◌, ◌⊎◌, ℕ, ◌^◌, true, refl, sym, subst, ◌∙◌, inl, inr}
use Rattle.std.proofs.lemmas.Bool.{cases_Bool, false≢true}
use Rattle.lab_plan.specs.LabPlan.{LabPlan, session_names}
use Rattle.legal_steps.specs.declared.end.End.{End}
use Rattle.legal_steps.specs.declared.end.End.TheVariants.{Lower, Higher}
use Rattle.legal_steps.specs.declared.phase.Drinking.{Drinking}
use Rattle.legal_steps.specs.declared.phase.Drinking.TheVariants.{Tranquil, Thirsty, Drinking as Drinks, Reaching, Retired}
use Rattle.legal_steps.specs.declared.event.Event.TheVariants.{AskBottles, GiveBottles}
use Rattle.legal_steps.specs.State.{State, IsOwn, IsInSession, IsDrinking, edge, fork, phase, drinking, session, bottle_end, end_of, opposite, neighbour}
use Rattle.legal_steps.specs.Legal.{Here, There, Needs, MayAskBottle, MayGiveBottle, instrument_of}
use Rattle.legal_steps.proofs.FitsLaw.{not_tranquil, not_retired, own_is_job}
use Rattle.legal_steps.proofs.ForkEnds.{own_at, end_at}
use Rattle.legal_steps.proofs.BottleSets.{one_bottle, only_one}
use Rattle.reasons.specs.Quiet.{Waited, IsQuietFor}
use Rattle.reasons.specs.Reasons.{Lacks, Keeps}
use Rattle.live_lab.specs.Keepers.{EachLackHasAKeeper}

-- ---- what is decided of a state

end_cases : (a b : End) → (a ≡ b) ⊎ (a ≢ b)
end_cases Lower Lower = inl refl
end_cases Higher Higher = inl refl
end_cases Lower Higher = inr (λ h. cc)
end_cases Higher Lower = inr (λ h. cc)

at_opposite : (a b : End) → a ≢ b → a ≡ opposite b
at_opposite Lower Lower h = absurd (h refl)
at_opposite Lower Higher h = refl
at_opposite Higher Lower h = refl
at_opposite Higher Higher h = absurd (h refl)

inside_or_not : (d : Drinking) → IsInSession d ⊎ ¬ IsInSession d
inside_or_not Thirsty = inl (inl refl)
inside_or_not Drinks = inl (inr (inl refl))
inside_or_not Reaching = inl (inr (inr refl))
inside_or_not Tranquil = inr not_tranquil
inside_or_not Retired = inr not_retired

drinks_or_not : (d : Drinking) → ((d ≡ Drinks) ⊎ (d ≡ Reaching)) ⊎ ¬ ((d ≡ Drinks) ⊎ (d ≡ Reaching))
drinks_or_not Drinks = inl (inl refl)
drinks_or_not Reaching = inl (inr refl)
drinks_or_not Thirsty = inr (λ h. elim h [ inl is ↦ cc | inr is ↦ cc ])
drinks_or_not Tranquil = inr (λ h. elim h [ inl is ↦ cc | inr is ↦ cc ])
drinks_or_not Retired = inr (λ h. elim h [ inl is ↦ cc | inr is ↦ cc ])

needs_or_not : (plan : LabPlan) (s : State) (j i : ℕ) → Needs plan s j i ⊎ ¬ Needs plan s j i
needs_or_not plan s j i = elim (cases_Bool (session_names plan j (session s j) i)) [
  | inr unnamed ↦ inr (λ need. false≢true (sym unnamed ∙ need.named))
  | inl named ↦ elim (inside_or_not (drinking s j)) [
    | inl inside ↦ inl (record { in_session = inside; named = named })
    | inr out ↦ inr (λ need. out need.in_session)
  ]
]

-- ---- the neighbour keeps it

-- what isn't at a job is at its neighbour
at_neighbour : (plan : LabPlan) (j e : ℕ) (thing : End) → IsOwn plan j e → There plan j e thing → Here plan (neighbour plan j e) e thing
at_neighbour plan j e thing own there = at_opposite thing (end_of plan j e) there ∙ sym (end_at plan e (opposite (end_of plan j e)) own.is_edge)

-- it has been asked for
asked_for : (plan : LabPlan) (s : State) (waited : Waited) → IsQuietFor plan s waited → (j e b : ℕ) → drinking s j ≡ Thirsty → Lacks plan s j e b
    → There plan j e (bottle_end (edge s e).bottle_tokens b)
asked_for plan s waited quiet j e b thirsty lacks here =
    quiet.nothing_moves (AskBottles j e (2 ^ b)) tt (
      lacks.own,
      thirsty,
      one_bottle plan e b lacks.is_bottle,
      λ i has.
          subst (λ k. MayAskBottle plan s j e k) (sym (only_one b i has))
          (record { needed = lacks.needs; bottle_there = lacks.there; token_here = here }),
    )

-- and wasn't given
kept : (plan : LabPlan) (s : State) (waited : Waited) → IsQuietFor plan s waited → (j e b : ℕ) → drinking s j ≡ Thirsty → Lacks plan s j e b
    → Keeps plan s (neighbour plan j e) e b
kept plan s waited quiet j e b thirsty lacks =
    let n = neighbour plan j e in
    let theirs = own_at plan e (opposite (end_of plan j e)) lacks.own.is_edge in
    let here = at_neighbour plan j e _ lacks.own lacks.there in
    let asked = at_neighbour plan j e _ lacks.own (asked_for plan s waited quiet j e b thirsty lacks) in
    let gives : ¬ (Needs plan s n (instrument_of plan e b) × (IsDrinking (phase s n) ⊎ Here plan n e (fork s e))) → ⊥ =
    λ not. quiet.nothing_moves (GiveBottles n e (2 ^ b)) tt (
      theirs,
      one_bottle plan e b lacks.is_bottle,
      λ i has. subst (λ x. MayGiveBottle plan s n e x) (sym (only_one b i has)) (record { bottle_here = here; token_here = asked; not_kept = not }),
    ) in
    elim (needs_or_not plan s n (instrument_of plan e b)) [
      | inr not ↦ absurd (gives (λ k. not k.0))
      | inl needs ↦ elim (drinks_or_not (drinking s n)) [
        | inl drinks ↦ record { own = theirs; here = here; needs = needs; keeps = inl drinks }
        | inr dry ↦ elim (end_cases (fork s e) (end_of plan n e)) [
          | inl fork_here ↦ record { own = theirs; here = here; needs = needs; keeps = inr fork_here }
          | inr away ↦ absurd (gives (λ k. elim k.1 [ inl drinks ↦ dry drinks | inr fork_here ↦ away fork_here ]))
        ]
      ]
    ]

pub each_lack_has_a_keeper : EachLackHasAKeeper
each_lack_has_a_keeper w rest j i thirsty lack =
    let e = lack.0 in
    let b = lack.1 in
    let keeps = kept w.plan w.state (λ k. true) (rest.quiet (λ k. true)) j e b thirsty lack.3 in
    (neighbour w.plan j e, own_is_job w.plan (neighbour w.plan j e) e keeps.own, (e, (b, (lack.2, lack.3, keeps))))
