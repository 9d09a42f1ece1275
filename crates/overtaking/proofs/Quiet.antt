-- In a quiet state all jobs are retired.
use Rattle.std.proofs.Common.{◌≡◌, ◌≢◌, ◌⊎◌, ℕ, ◌^◌, ◌<◌, length, true, false, [], refl, sym, subst, ap, ◌∙◌, inl, inr}
use Rattle.std.proofs.lemmas.Bool.{cases_Bool, cases_lt, false≢true}
use Rattle.lab_plan.specs.LabPlan.{LabPlan, sessions, bottles}
use Rattle.legal_steps.specs.declared.phase.Dining.{Dining}
use Rattle.legal_steps.specs.declared.phase.Dining.TheVariants.{Thinking, Hungry, Eating}
use Rattle.legal_steps.specs.declared.phase.Drinking.{Drinking}
use Rattle.legal_steps.specs.declared.phase.Drinking.TheVariants.{Tranquil, Thirsty, Drinking as Drinks, Reaching, Retired}
use Rattle.legal_steps.specs.declared.event.Event.TheVariants.{AskFork, GiveFork, Soil, AskBottles, GiveBottles, Thirst, Hunger, Sit, Leave, Drink, Reach, Act, Quit, Retire}
use Rattle.legal_steps.specs.State.{State, Has, edge, fork, token, is_dirty, phase, dining, drinking, session, position, fork_mark, IsOwn, IsDrinking, end_of, opposite, neighbour, job_at_end, bottle_end}
use Rattle.legal_steps.specs.Legal.{Here, There, IsJob, Needs, MayAskBottle, MayGiveBottle, IsMarkedAll, HasNeeded, session_commands, instrument_of, fork_mark_seen}
use Rattle.legal_steps.specs.Precedence.{Precedes, IsUsed, IsAcyclic}
use Rattle.legal_steps.proofs.FitsLaw.{own_is_job}
use Rattle.legal_steps.proofs.ForkEnds.{at_own, opposite_twice}
use Rattle.legal_steps.proofs.ReachedInvariant.{IsSound}
use Rattle.overtaking.specs.Stuck.{IsQuiet, AllRetired}
use Rattle.overtaking.proofs.EdgeEnds.{end_cases, at_opposite, not_both, neighbour_own, neighbour_apart, at_neighbour}
use Rattle.overtaking.proofs.Wanted.{IsWanted}
use Rattle.legal_steps.proofs.BottleSets.{one_bottle, only_one}
use Rattle.overtaking.proofs.Seen.{eating_seen, hungry_seen, bottle_seen}
use Rattle.overtaking.proofs.Chains.{first}

hungry_eats : Hungry ≡ Eating → ⊥
hungry_eats h = cc

thinking_eats : Thinking ≡ Eating → ⊥
thinking_eats h = cc

dining_cases : (d : Dining) → (d ≡ Thinking) ⊎ (d ≡ Hungry) ⊎ (d ≡ Eating)
dining_cases Thinking = inl refl
dining_cases Hungry = inr (inl refl)
dining_cases Eating = inr (inr refl)

module _ (plan : LabPlan) (s : State) (sound : IsSound plan s) (wanted : IsWanted plan s) (quiet : IsQuiet plan s) where
  -- nobody drinks
  no_drinker : (j : ℕ) → IsJob plan j → IsDrinking (phase s j) → ⊥
  no_drinker j job drinks = elim drinks [
    | inl now ↦ elim (cases_lt (position s j) (length (session_commands plan s j))) [
      | inl left ↦ quiet.no_move (Reach j) tt (job, now, left)
      | inr done ↦ quiet.no_move (Quit j) tt (job, now, done)
    ]
    | inr reaching ↦ quiet.no_move (Act j) tt (job, reaching)
  ]

  -- an eating job has soiled its forks, and marked them
  soiled : (j e : ℕ) → IsOwn plan j e → dining s j ≡ Eating → is_dirty s e ≡ true
  soiled j e own eats = elim (cases_Bool (is_dirty s e)) [
    | inl dirty ↦ dirty
    | inr clean ↦ absurd (quiet.no_move (Soil j e) tt (own, eats, sound.forks.eating j e own eats, clean))
  ]

  eater_marked : (j : ℕ) → dining s j ≡ Eating → IsMarkedAll plan s j
  eater_marked j eats e own =
      (quiet.up_to_date j e own).fork ∙ (ap (λ d. fork_mark_seen d (end_of plan j e) (edge s e)) eats
      ∙ eating_seen (end_of plan j e) (edge s e) (sound.forks.eating j e own eats) (soiled j e own eats))

  -- an eating, thirsty job has the bottles that it needs, and has marked them
  bottle_here : (j e k : ℕ) → IsOwn plan j e → dining s j ≡ Eating → drinking s j ≡ Thirsty → k < length (bottles plan e)
      → Needs plan s j (instrument_of plan e k) → Here plan j e (bottle_end (edge s e).bottles k)
  bottle_here j e k own eats thirsty small need =
      let n = neighbour plan j e in
      let theirs = neighbour_own plan j e own in
      elim (end_cases (bottle_end (edge s e).bottles k) (end_of plan j e)) [
        | inl here ↦ here
        | inr there ↦ elim (end_cases (bottle_end (edge s e).bottle_tokens k) (end_of plan j e)) [
          | inl token ↦ absurd (quiet.no_move (AskBottles j e (2 ^ k)) tt (
            own,
            thirsty,
            one_bottle plan e k small,
            λ i has.
                subst (λ b. MayAskBottle plan s j e b) (sym (only_one k i has)) (record { needed = need; bottle_there = there; token_here = token }),
          ))
          | inr away ↦ absurd (quiet.no_move (GiveBottles n e (2 ^ k)) tt (
            theirs,
            one_bottle plan e k small,
            λ i has.
                subst (λ b. MayGiveBottle plan s n e b) (sym (only_one k i has)) (record {
                  bottle_here = at_neighbour plan j e _ own there;
                  token_here = at_neighbour plan j e _ own away;
                  not_kept = λ kept. elim kept.1 [
                    | inl drinks ↦ no_drinker n (own_is_job plan n e theirs) drinks
                    | inr fork_here ↦ not_both plan j n e (fork s e) own theirs (neighbour_apart plan j e own) (sound.forks.eating j e own eats) fork_here
                  ];
                }),
          ))
        ]
      ]

  has_needed : (j : ℕ) → dining s j ≡ Eating → drinking s j ≡ Thirsty → HasNeeded plan s j
  has_needed j eats thirsty e own k small need =
      subst (λ set. Has set k) (sym (quiet.up_to_date j e own).bottles)
      (bottle_seen plan e k (end_of plan j e) (edge s e) small (bottle_here j e k own eats thirsty small need))

  -- nobody eats: who isn't thirsty could leave, and who is could drink
  no_eater : (j : ℕ) → IsJob plan j → dining s j ≡ Eating → ⊥
  no_eater j job eats =
      quiet.no_move (Leave j) tt (job, eats, (λ thirsty. quiet.no_move (Drink j) tt (job, thirsty, has_needed j eats thirsty)), eater_marked j eats)

  -- who thinks is retired
  thinker : (j : ℕ) → IsJob plan j → dining s j ≡ Thinking → (d : Drinking) → drinking s j ≡ d → drinking s j ≡ Retired
  thinker j job thinks Retired is = is
  thinker j job thinks Thirsty is = absurd (quiet.no_move (Hunger j) tt (job, thinks, is))
  thinker j job thinks Tranquil is = elim (cases_lt (session s j) (length (sessions plan j))) [
    | inl left ↦ absurd (quiet.no_move (Thirst j) tt (job, is, (λ eats. thinking_eats (sym thinks ∙ eats)), left))
    | inr done ↦ absurd (quiet.no_move (Retire j) tt (job, thinks, is, done))
  ]
  thinker j job thinks Drinks is = absurd (no_drinker j job (inl is))
  thinker j job thinks Reaching is = absurd (no_drinker j job (inr is))

  -- where a clean fork is at the neighbour, the neighbour is hungry and precedes
  clean_there : (j e : ℕ) → IsOwn plan j e → There plan j e (fork s e) → is_dirty s e ≡ false
      → (dining s (neighbour plan j e) ≡ Hungry) × Precedes plan s (neighbour plan j e) j
  clean_there j e own there clean =
      let n = neighbour plan j e in
      let theirs = neighbour_own plan j e own in
      let job = own_is_job plan n e theirs in
      let at : fork s e ≡ opposite (end_of plan j e) = at_opposite (fork s e) (end_of plan j e) there in
      let unused : ¬ IsUsed plan s e = λ used. elim used [
        | inl eats ↦ no_eater n job (ap (λ x. dining s (job_at_end plan e x)) (sym at) ∙ eats)
        | inr dirty ↦ false≢true (sym clean ∙ dirty)
      ] in (
        elim (dining_cases (dining s n)) [
          | inl thinks ↦ absurd (wanted.clean n e theirs (at_neighbour plan j e (fork s e) own there) clean thinks)
          | inr other ↦ elim other [ inl hungry ↦ hungry | inr eats ↦ absurd (no_eater n job eats) ]
        ],
        (
          e,
          record {
            is_edge = own.is_edge;
            order = inr (
              unused,
              ap (job_at_end plan e) (sym at),
              sym (at_own plan j e own) ∙ ap (job_at_end plan e) (sym (ap opposite at ∙ opposite_twice (end_of plan j e))),
            );
          },
        ),
      )

  -- a hungry job that no hungry job precedes could sit
  hungry_marked : (j : ℕ) → dining s j ≡ Hungry → ((n : ℕ) → IsJob plan n → dining s n ≡ Hungry → ¬ Precedes plan s n j) → IsMarkedAll plan s j
  hungry_marked j hungry free e own =
      let n = neighbour plan j e in
      let theirs = neighbour_own plan j e own in
      let seen : (fork s e ≡ end_of plan j e) → (is_dirty s e ≡ false) ⊎ (token s e ≢ end_of plan j e) → fork_mark s j e ≡ true =
      λ here unasked. (quiet.up_to_date j e own).fork
      ∙ (ap (λ d. fork_mark_seen d (end_of plan j e) (edge s e)) hungry ∙ hungry_seen (end_of plan j e) (edge s e) here unasked) in
      elim (end_cases (fork s e) (end_of plan j e)) [
        | inl here ↦ elim (cases_Bool (is_dirty s e)) [
          | inr clean ↦ seen here (inl clean)
          | inl dirty ↦ elim (end_cases (token s e) (end_of plan j e)) [
            | inl token ↦ absurd (quiet.no_move (GiveFork j e) tt (own, (λ eats. hungry_eats (sym hungry ∙ eats)), here, dirty, token))
            | inr away ↦ seen here (inr away)
          ]
        ]
        | inr there ↦ elim (end_cases (token s e) (end_of plan j e)) [
          | inl token ↦ absurd (quiet.no_move (AskFork j e) tt (own, hungry, there, token))
          | inr away ↦ elim (cases_Bool (is_dirty s e)) [
            | inl dirty ↦ absurd (quiet.no_move (GiveFork n e) tt
                (theirs, no_eater n (own_is_job plan n e theirs), at_neighbour plan j e _ own there, dirty, at_neighbour plan j e _ own away))
            | inr clean ↦ let w = clean_there j e own there clean in absurd (free n (own_is_job plan n e theirs) w.0 w.1)
          ]
        ]
      ]

  -- so nobody is hungry
  no_hungry : IsAcyclic plan s → (j : ℕ) → IsJob plan j → dining s j ≡ Hungry → ⊥
  no_hungry acyclic j job hungry =
      first (Precedes plan s) acyclic (λ w. dining s w ≡ Hungry) (length plan.jobs) j job hungry
      (λ t inside waits free. quiet.no_move (Sit t) tt (inside, waits, hungry_marked t waits (λ n other wants before. free n other wants ([], before))))

  pub all_retired : IsAcyclic plan s → AllRetired plan s
  all_retired acyclic j job = elim (dining_cases (dining s j)) [
    | inl thinks ↦ thinker j job thinks (drinking s j) refl
    | inr other ↦ elim other [ inl hungry ↦ absurd (no_hungry acyclic j job hungry) | inr eats ↦ absurd (no_eater j job eats) ]
  ]
