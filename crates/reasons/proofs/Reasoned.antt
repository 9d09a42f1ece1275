-- In a quiet state each thirsty job has a reason.
use Rattle.std.proofs.Common.{◌≡◌, ◌≢◌, ◌⊎◌, ℕ, ◌^◌, ◌<◌, length, true, false, List, [], ◌∷◌, arith, refl, sym, subst, ap, ◌∙◌, inl, inr}
use Rattle.std.proofs.lemmas.Bool.{cases_Bool, cases_lt, false≢true}
use Rattle.lab_plan.specs.LabPlan.{LabPlan, edges, bottles}
use Rattle.std.specs.Int.{bit_at}
use Rattle.std.proofs.lemmas.Nat.Bits.{bit_at_xor, bit_at_ones}
use Rattle.lab_plan.proofs.Bits.{bit_cases}
use Rattle.legal_steps.specs.declared.end.End.{End}
use Rattle.legal_steps.specs.declared.end.End.TheVariants.{Lower, Higher}
use Rattle.legal_steps.specs.declared.edge_state.EdgeState.{EdgeState}
use Rattle.legal_steps.specs.declared.phase.Drinking.TheVariants.{Thirsty}
use Rattle.legal_steps.specs.declared.phase.Dining.{Dining}
use Rattle.legal_steps.specs.declared.phase.Dining.TheVariants.{Thinking, Hungry, Eating}
use Rattle.legal_steps.specs.declared.event.Event.TheVariants.{GiveFork, GiveBottles}
use Rattle.legal_steps.specs.State.{State, Has, IsOwn, IsDrinking, edge, fork, is_dirty, phase, dining, drinking, all_bottles}
use Rattle.legal_steps.specs.State.{end_of, opposite, neighbour, job_at_end, bottle_end, bottles_at}
use Rattle.legal_steps.specs.Legal.{Here, There, IsJob, Needs, MayGiveBottle, instrument_of}
use Rattle.legal_steps.specs.Precedence.{Precedes, IsAcyclic}
use Rattle.legal_steps.proofs.FitsLaw.{own_is_job}
use Rattle.legal_steps.proofs.ForkEnds.{at_own, opposite_twice}
use Rattle.legal_steps.proofs.ReachedInvariant.{IsSound}
use Rattle.legal_steps.proofs.BottleSets.{one_bottle, only_one}
use Rattle.overtaking.proofs.EdgeEnds.{end_cases, at_opposite, not_both, neighbour_own, neighbour_apart, at_neighbour}
use Rattle.overtaking.proofs.Seen.{bottle_seen}
use Rattle.overtaking.proofs.Wanted.{IsWanted}
use Rattle.reasons.specs.Quiet.{Waited, IsQuietFor}
use Rattle.reasons.specs.Reasons.{Lacks, Keeps, CouldDrink, IsReason}
use Rattle.reasons.proofs.Quiets.{fork_asked_for, bottle_asked_for, not_all_seen}
use Rattle.reasons.proofs.Walks.{Before, before_joined, GoesBack, goes_back}
use Rattle.reasons.proofs.Searches.{each_or_one, own_or_not, needs_or_not, drinks_or_not}

dining_cases : (d : Dining) → (d ≡ Thinking) ⊎ (d ≡ Hungry) ⊎ (d ≡ Eating)
dining_cases Thinking = inl refl
dining_cases Hungry = inr (inl refl)
dining_cases Eating = inr (inr refl)

thinking_eats : Thinking ≡ Eating → ⊥
thinking_eats h = cc

hungry_eats : Hungry ≡ Eating → ⊥
hungry_eats h = cc

low_end : (set k : ℕ) → bit_at set k ≡ 0 → bottle_end set k ≡ Lower
unfolding bottle_end
low_end set k none = rw none refl

high_end : (set k : ℕ) → bit_at set k ≡ 1 → bottle_end set k ≡ Higher
unfolding bottle_end
high_end set k one = rw one refl

-- a bottle that a look sees is here
seen_bottle : (plan : LabPlan) (e k : ℕ) (here : End) (x : EdgeState) → k < length (bottles plan e) → Has (bottles_at plan e here x) k
    → bottle_end x.bottles k ≡ here
unfolding Has bottles_at
seen_bottle plan e k Higher x small has = high_end x.bottles k has
seen_bottle plan e k Lower x small has = elim (bit_cases x.bottles k) [
  | inl none ↦ low_end x.bottles k none
  | inr one ↦ absurd (omega (arith, bit_at_xor (all_bottles plan e) x.bottles k, bit_at_ones (length (bottles plan e)) k small, one, has))
]

module _ (plan : LabPlan) (s : State) (sound : IsSound plan s) (wanted : IsWanted plan s) (acyclic : IsAcyclic plan s) (waited : Waited)
    (quiet : IsQuietFor plan s waited) where
  -- a job has a reason
  abbrev Reasoned : ℕ → Type 0
  Reasoned j = (chain : List ℕ) × IsReason plan s waited j chain

  -- a thirsty job of the plan
  abbrev Thirsts : ℕ → Type 0
  Thirsts j = IsJob plan j × (drinking s j ≡ Thirsty)

  -- the bottles of an edge that the job would see there
  abbrev seen_at : ℕ → ℕ → ℕ
  seen_at j e = bottles_at plan e (end_of plan j e) (edge s e)

  abbrev SeesNeeded : ℕ → ℕ → ℕ → Type 0
  SeesNeeded j e b = Needs plan s j (instrument_of plan e b) → Has (seen_at j e) b

  -- a needed bottle is seen, or it is lacked
  seen_or_lacked : (j e b : ℕ) → IsOwn plan j e → b < length (bottles plan e) → SeesNeeded j e b ⊎ Lacks plan s j e b
  seen_or_lacked j e b own small = elim (needs_or_not plan s j (instrument_of plan e b)) [
    | inr not ↦ inl (λ needs. absurd (not needs))
    | inl needs ↦ elim (end_cases (bottle_end (edge s e).bottles b) (end_of plan j e)) [
      | inr there ↦ inr (record { own = own; is_bottle = small; needs = needs; there = there })
      | inl here ↦ inl (λ _. bottle_seen plan e b (end_of plan j e) (edge s e) small here)
    ]
  ]

  seen_at_or_lacked : (j e : ℕ) → IsOwn plan j e
      → ((b : ℕ) → b < length (bottles plan e) → SeesNeeded j e b) ⊎ ((b : ℕ) × Lacks plan s j e b)
  seen_at_or_lacked j e own =
      elim (each_or_one (λ b. b < length (bottles plan e) → SeesNeeded j e b) (λ b. Lacks plan s j e b)
      (λ b. elim (cases_lt b (length (bottles plan e))) [
        | inl small ↦ elim (seen_or_lacked j e b own small) [ inl seen ↦ inl (λ _. seen) | inr lacks ↦ inr lacks ]
        | inr large ↦ inl (λ small. absurd (omega (arith, large, small)))
      ]) (length (bottles plan e))) [
        | inl all ↦ inl (λ b small. all b small small)
        | inr (b, small, lacks) ↦ inr (b, lacks)
      ]

  -- a bottle that is lacked isn't seen
  not_there : (j e b : ℕ) → Lacks plan s j e b → ¬ Has (seen_at j e) b
  not_there j e b lacks has = lacks.there (seen_bottle plan e b (end_of plan j e) (edge s e) lacks.is_bottle has)

  -- a thirsty job lacks a bottle, or could drink
  lacks_or_could : (j : ℕ) → Thirsts j → ((e : ℕ) × (b : ℕ) × Lacks plan s j e b) ⊎ CouldDrink plan s waited j
  lacks_or_could j thirsts =
      elim (each_or_one (λ e. IsOwn plan j e → (b : ℕ) → b < length (bottles plan e) → SeesNeeded j e b) (λ e. (b : ℕ) × Lacks plan s j e b)
      (λ e. elim (cases_lt e (length (edges plan))) [
        | inr past ↦ inl (λ own. absurd (omega (arith, past, own.is_edge)))
        | inl inside ↦ elim (own_or_not plan j e inside) [
          | inr not ↦ inl (λ own. absurd (not own))
          | inl own ↦ elim (seen_at_or_lacked j e own) [ inl seen ↦ inl (λ _. seen) | inr lacks ↦ inr lacks ]
        ]
      ]) (length (edges plan))) [
        | inr (e, inside, lacks) ↦ inl (e, lacks.0, lacks.1)
        | inl all ↦ elim (cases_Bool (waited j)) [
          | inl owner ↦ absurd (not_all_seen plan s waited quiet sound.fits j thirsts.0 thirsts.1 owner (λ e own. all e own.is_edge own))
          | inr away ↦ inr (record {
            thirsty = thirsts.1;
            lacks_nothing = λ e b lacks. not_there j e b lacks (all e lacks.own.is_edge lacks.own b lacks.is_bottle lacks.needs);
            owner_is_away = away;
          })
        ]
      ]

  -- the neighbour keeps a bottle that a thirsty job lacks: it has been asked for it
  kept : (j e b : ℕ) → Thirsts j → Lacks plan s j e b → Keeps plan s (neighbour plan j e) e b
  kept j e b thirsts lacks =
      let n = neighbour plan j e in
      let theirs = neighbour_own plan j e lacks.own in
      let here = at_neighbour plan j e _ lacks.own lacks.there in
      let asked = at_neighbour plan j e _ lacks.own (bottle_asked_for plan s waited quiet j e b thirsts.1 lacks) in
      let gives : ¬ (Needs plan s n (instrument_of plan e b) × (IsDrinking (phase s n) ⊎ Here plan n e (fork s e))) → ⊥ =
      λ not. quiet.nothing_moves (GiveBottles n e (2 ^ b)) tt (
        theirs,
        one_bottle plan e b lacks.is_bottle,
        λ i has. subst (λ x. MayGiveBottle plan s n e x) (sym (only_one b i has)) (record { bottle_here = here; token_here = asked; not_kept = not }),
      ) in
      elim (needs_or_not plan s n (instrument_of plan e b)) [
        | inr not ↦ absurd (gives (λ k. not k.0))
        | inl needs ↦ elim (drinks_or_not s n) [
          | inl drinks ↦ record { own = theirs; here = here; needs = needs; keeps = inl drinks }
          | inr dry ↦ elim (end_cases (fork s e) (end_of plan n e)) [
            | inl fork_here ↦ record { own = theirs; here = here; needs = needs; keeps = inr fork_here }
            | inr away ↦ absurd (gives (λ k. elim k.1 [ inl drinks ↦ dry drinks | inr fork_here ↦ away fork_here ]))
          ]
        ]
      ]

  -- a chain from the keeper is one from the job
  goes_on : (j e b : ℕ) → Thirsts j → Lacks plan s j e b → Reasoned (neighbour plan j e) → Reasoned j
  goes_on j e b thirsts lacks reason = (neighbour plan j e ∷ reason.0, (thirsts.1, (e, b, lacks, kept j e b thirsts lacks), reason.1))

  -- the keeper drinks, or it is thirsty and has the fork
  keeper : (j e b : ℕ) → Thirsts j → Lacks plan s j e b
      → Reasoned j ⊎ (Thirsts (neighbour plan j e) × Here plan (neighbour plan j e) e (fork s e))
  keeper j e b thirsts lacks =
      let keeps = kept j e b thirsts lacks in
      elim keeps.needs.in_session [
        | inr drinks ↦ inl (goes_on j e b thirsts lacks ([], inl drinks))
        | inl thirsty ↦ elim keeps.keeps [
          | inl drinks ↦ inl (goes_on j e b thirsts lacks ([], inl drinks))
          | inr fork_here ↦ inr ((own_is_job plan (neighbour plan j e) e keeps.own, thirsty), fork_here)
        ]
      ]

  -- where the neighbour has the fork, it isn't here
  not_here : (j e : ℕ) → IsOwn plan j e → Here plan (neighbour plan j e) e (fork s e) → There plan j e (fork s e)
  not_here j e own fork_here =
      not_both plan (neighbour plan j e) j e (fork s e) (neighbour_own plan j e own) own (λ same. neighbour_apart plan j e own (sym same)) fork_here

  -- who eats has all its forks, so each of its keepers drinks
  eater : (j : ℕ) → Thirsts j → dining s j ≡ Eating → Reasoned j
  eater j thirsts eats = elim (lacks_or_could j thirsts) [
    | inr could ↦ ([], inr could)
    | inl (e, b, lacks) ↦ elim (keeper j e b thirsts lacks) [
      | inl reasoned ↦ reasoned
      | inr found ↦ absurd (not_here j e lacks.own found.1 (sound.forks.eating j e lacks.own eats))
    ]
  ]

  -- who has a clean fork and doesn't eat precedes the neighbour
  precedes : (j e : ℕ) → IsOwn plan j e → There plan j e (fork s e) → dining s (neighbour plan j e) ≢ Eating → is_dirty s e ≡ false
      → Precedes plan s (neighbour plan j e) j
  precedes j e own there no_eater clean =
      let at : fork s e ≡ opposite (end_of plan j e) = at_opposite (fork s e) (end_of plan j e) there in (
        e,
        record {
          is_edge = own.is_edge;
          order = inr (
            (λ used. elim used [
              | inl eats ↦ no_eater (ap (λ x. dining s (job_at_end plan e x)) (sym at) ∙ eats)
              | inr dirty ↦ false≢true (sym clean ∙ dirty)
            ]),
            ap (job_at_end plan e) (sym at),
            sym (at_own plan j e own) ∙ ap (job_at_end plan e) (sym (ap opposite at ∙ opposite_twice (end_of plan j e))),
          );
        },
      )

  -- who has no fork that is used precedes the neighbour
  follows : (j e : ℕ) → IsOwn plan j e → There plan j e (fork s e) → is_dirty s e ≡ true → Precedes plan s j (neighbour plan j e)
  follows j e own there dirty =
      let at : fork s e ≡ opposite (end_of plan j e) = at_opposite (fork s e) (end_of plan j e) there in (
        e,
        record {
          is_edge = own.is_edge;
          order = inl (
            inr dirty,
            sym (at_own plan j e own) ∙ ap (job_at_end plan e) (sym (ap opposite at ∙ opposite_twice (end_of plan j e))),
            ap (job_at_end plan e) (sym at),
          );
        },
      )

  -- who doesn't eat gives a dirty fork that a hungry neighbour has asked for
  not_given : (j e : ℕ) → IsOwn plan j e → dining s j ≡ Hungry → There plan j e (fork s e) → dining s (neighbour plan j e) ≢ Eating
      → (is_dirty s e ≡ false → ⊥) → ⊥
  not_given j e own is_hungry there no_eater not_clean =
      let asked = at_neighbour plan j e _ own (fork_asked_for plan s waited quiet j e own is_hungry there) in
      elim (cases_Bool (is_dirty s e)) [
        | inr clean ↦ not_clean clean
        | inl dirty ↦ quiet.nothing_moves (GiveFork (neighbour plan j e) e) tt
            (neighbour_own plan j e own, no_eater, at_neighbour plan j e _ own there, dirty, asked)
      ]

  -- a hungry job's keeper that has the fork eats, or is hungry and precedes
  hungry_step : (j : ℕ) → j < length plan.jobs → Thirsts j × (dining s j ≡ Hungry)
      → GoesBack (Before (Precedes plan s)) (λ k. Thirsts k × (dining s k ≡ Hungry)) Reasoned (length plan.jobs) j
  hungry_step j inside (thirsts, is_hungry) = elim (lacks_or_could j thirsts) [
    | inr could ↦ inl ([], inr could)
    | inl (e, b, lacks) ↦ elim (keeper j e b thirsts lacks) [
      | inl reasoned ↦ inl reasoned
      | inr (theirs, fork_here) ↦
          let n = neighbour plan j e in
          let own = neighbour_own plan j e lacks.own in
          let there = not_here j e lacks.own fork_here in
          elim (dining_cases (dining s n)) [
            | inr (inr eats) ↦ inl (goes_on j e b thirsts lacks (eater n theirs eats))
            | inl thinks ↦ absurd (not_given j e lacks.own is_hungry there (λ eats. thinking_eats (sym thinks ∙ eats))
                (λ clean. wanted.clean n e own fork_here clean thinks))
            | inr (inl hungry) ↦ elim (cases_Bool (is_dirty s e)) [
              | inl dirty ↦ absurd (not_given j e lacks.own is_hungry there (λ eats. hungry_eats (sym hungry ∙ eats)) (λ clean. false≢true (sym clean ∙ dirty)))
              | inr clean ↦ inr (
                n,
                theirs.0,
                (theirs, hungry),
                ([], precedes j e lacks.own there (λ eats. hungry_eats (sym hungry ∙ eats)) clean),
                goes_on j e b thirsts lacks,
              )
            ]
          ]
    ]
  ]

  hungry : (j : ℕ) → Thirsts j → dining s j ≡ Hungry → Reasoned j
  hungry j thirsts is_hungry =
      goes_back (Before (Precedes plan s)) (λ x r. acyclic (x ∷ r.0) r.1) (before_joined (Precedes plan s))
      (λ k. Thirsts k × (dining s k ≡ Hungry)) Reasoned (length plan.jobs) hungry_step j thirsts.0 (thirsts, is_hungry)

  -- a thinking job's keeper that has the fork is hungry, eats, or thinks too and comes later
  thinking_step : (j : ℕ) → j < length plan.jobs → Thirsts j × (dining s j ≡ Thinking)
      → GoesBack (λ w t. Before (Precedes plan s) t w) (λ k. Thirsts k × (dining s k ≡ Thinking)) Reasoned (length plan.jobs) j
  thinking_step j inside (thirsts, thinks) = elim (lacks_or_could j thirsts) [
    | inr could ↦ inl ([], inr could)
    | inl (e, b, lacks) ↦ elim (keeper j e b thirsts lacks) [
      | inl reasoned ↦ inl reasoned
      | inr (theirs, fork_here) ↦
          let n = neighbour plan j e in
          elim (dining_cases (dining s n)) [
            | inr (inr eats) ↦ inl (goes_on j e b thirsts lacks (eater n theirs eats))
            | inr (inl is_hungry) ↦ inl (goes_on j e b thirsts lacks (hungry n theirs is_hungry))
            | inl theirs_thinks ↦ elim (cases_Bool (is_dirty s e)) [
              | inr clean ↦ absurd (wanted.clean n e (neighbour_own plan j e lacks.own) fork_here clean theirs_thinks)
              | inl dirty ↦ inr (
                n,
                theirs.0,
                (theirs, theirs_thinks),
                ([], follows j e lacks.own (not_here j e lacks.own fork_here) dirty),
                goes_on j e b thirsts lacks,
              )
            ]
          ]
    ]
  ]

  thinking : (j : ℕ) → Thirsts j → dining s j ≡ Thinking → Reasoned j
  thinking j thirsts thinks =
      goes_back (λ w t. Before (Precedes plan s) t w) (λ x r. acyclic (x ∷ r.0) r.1)
      (λ x y z a b. before_joined (Precedes plan s) z y x b a)
      (λ k. Thirsts k × (dining s k ≡ Thinking)) Reasoned (length plan.jobs) thinking_step j thirsts.0 (thirsts, thinks)

  pub has_reason : (j : ℕ) → Thirsts j → Reasoned j
  has_reason j thirsts = elim (dining_cases (dining s j)) [
    | inl thinks ↦ thinking j thirsts thinks
    | inr (inl is_hungry) ↦ hungry j thirsts is_hungry
    | inr (inr eats) ↦ eater j thirsts eats
  ]
