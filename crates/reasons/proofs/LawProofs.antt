-- The laws, each as it is stated.
use Rattle.std.proofs.Common.{◌≡◌, ℕ, ◌+◌, ◌≤◌, Bool, true, false, cond, length, List, [], ◌∷◌, take, arith, refl, sym, ◌∙◌, inl, inr}
use Rattle.std.specs.List.{count_by}
use Rattle.std.proofs.lemmas.Bool.{false≢true}
use Rattle.std.proofs.lemmas.List.Sums.{sum_by-cons}
use Rattle.lab_plan.specs.LabPlan.{LabPlan, edges, ends, bottles}
use Rattle.legal_steps.specs.declared.event.Event.{Event}
use Rattle.legal_steps.specs.Legal.{after, instrument_of}
use Rattle.legal_steps.specs.declared.phase.Drinking.TheVariants.{Thirsty, Drinking as Drinks, Reaching}
use Rattle.legal_steps.specs.State.{State, edge, phase, dining, drinking, bottle_end}
use Rattle.legal_steps.specs.Run.{IsLegalFrom, after_all}
use Rattle.legal_steps.proofs.RunLemmas.{legal_take}
use Rattle.legal_steps.proofs.ReachedInvariant.{IsSound, sound_opening, sound_after, sound_after_all, acyclic_after_all}
use Rattle.overtaking.proofs.Wanted.{wanted_opening, wanted_after_all}
use Rattle.reasons.specs.Quiet.{Waited}
use Rattle.reasons.specs.Reasons.{IsReason, LeadsToHolder}
use Rattle.reasons.specs.Laws.{AllOwnersWait, NobodyHolds, EachWaitHasAReason, ChainEndsAtAHolder, NobodyWaitsWhereNobodyHolds, HasFewDeeds}
use Rattle.reasons.specs.Deeds.{AreBetween, is_deed, most_deeds}
use Rattle.reasons.proofs.Reasoned.{has_reason}
use Rattle.reasons.proofs.Sums.{sum_most, sum_nines}
use Rattle.reasons.proofs.Measures.{one_if, few_acts, few_soils, one_more, few_of_fork, few_of_bottle}
use Rattle.reasons.proofs.Left.{is_thirsty, need, soils_at, gives_at, bottle_part, left_at, left_for, deeds_left}
use Rattle.reasons.proofs.DeedLeaves.{deed_leaves}

pub each_wait_has_a_reason : EachWaitHasAReason
each_wait_has_a_reason plan opening events n opens acyclic legal waited j quiet job thirsty =
    let sound = sound_opening plan opening opens in
    let begun = legal_take plan opening events n legal in
    has_reason plan (after_all plan opening (take n events)) (sound_after_all plan opening (take n events) sound begun)
    (wanted_after_all plan opening (take n events) sound (wanted_opening plan opening opens) begun)
    (acyclic_after_all plan opening (take n events) sound acyclic begun) waited quiet j (job, thirsty)

thirsty_drinks : Thirsty ≡ Drinks → ⊥
thirsty_drinks h = cc

thirsty_reaches : Thirsty ≡ Reaching → ⊥
thirsty_reaches h = cc

-- if all owners wait, the last job holds
to_holder : (plan : LabPlan) (s : State) (waited : Waited) (j : ℕ) (chain : List ℕ) → AllOwnersWait s waited → drinking s j ≡ Thirsty
    → IsReason plan s waited j chain → LeadsToHolder plan s j chain
to_holder plan s waited j [] all thirsty reason = elim reason [
  | inl drinks ↦ elim drinks [ inl is ↦ thirsty_drinks (sym thirsty ∙ is) | inr is ↦ thirsty_reaches (sym thirsty ∙ is) ]
  | inr could ↦ absurd (false≢true (sym could.owner_is_away ∙ all j thirsty))
]
to_holder plan s waited j (k ∷ []) all thirsty reason =
    let (e, b, lacks, keeps) = reason.1 in (
      reason.1,
      elim reason.2 [
        | inl drinks ↦ (instrument_of plan e b, lacks.needs, record { drinks = drinks; named = keeps.needs.named })
        | inr could ↦ absurd (false≢true (sym could.owner_is_away ∙ all k could.thirsty))
      ],
    )
to_holder plan s waited j (k ∷ next ∷ later) all thirsty reason =
    (reason.1, reason.2.0, to_holder plan s waited k (next ∷ later) all reason.2.0 reason.2)

pub chain_ends_at_a_holder : ChainEndsAtAHolder
chain_ends_at_a_holder plan opening events n opens acyclic legal waited j quiet all job thirsty =
    let (chain, reason) = each_wait_has_a_reason plan opening events n opens acyclic legal waited j quiet job thirsty in
    (chain, to_holder plan (after_all plan opening (take n events)) waited j chain all thirsty reason)

-- a chain that leads to a holder has one
has_holder : (plan : LabPlan) (s : State) (j : ℕ) (chain : List ℕ) → LeadsToHolder plan s j chain → NobodyHolds s → ⊥
has_holder plan s j [] leads nobody = leads
has_holder plan s j (k ∷ []) leads nobody = nobody k leads.1.2.drinks
has_holder plan s j (k ∷ next ∷ later) leads nobody = has_holder plan s k (next ∷ later) leads.2 nobody

pub nobody_waits_where_nobody_holds : NobodyWaitsWhereNobodyHolds
nobody_waits_where_nobody_holds plan opening events n opens acyclic legal waited j quiet all nobody job thirsty =
    let (chain, leads) = chain_ends_at_a_holder plan opening events n opens acyclic legal waited j quiet all job thirsty in
    has_holder plan (after_all plan opening (take n events)) j chain leads nobody

-- no more than this is left
few_left : (plan : LabPlan) (s : State) → deeds_left plan s ≤ most_deeds plan
few_left plan s =
    let acts = sum_most (left_for s) 4 (length plan.jobs) (λ j inside. few_acts (dining s j) (is_thirsty (drinking s j))) in
    let there = sum_nines (left_at plan s) (λ e. length (bottles plan e)) (length (edges plan)) (λ e inside.
    let low = phase s (ends plan e).0 in
    let high = phase s (ends plan e).1 in
    let x = edge s e in
    let soils : soils_at low high x ≤ 2 =
    omega (arith, few_soils low.dining (is_thirsty low.drinking) x.dirty, few_soils high.dining (is_thirsty high.drinking) x.dirty) in
    let gives : gives_at low high x ≤ 3 = omega (arith, soils, one_more x.dirty) in
    omega (
      arith,
      few_of_fork (soils_at low high x) x.dirty x.fork x.token soils,
      sum_most (bottle_part plan e low high x) 9 (length (bottles plan e))
          (λ k small. few_of_bottle (need plan (ends plan e).0 low (instrument_of plan e k)) (need plan (ends plan e).1 high (instrument_of plan e k))
          (gives_at low high x) x.fork (bottle_end x.bottles k) (bottle_end x.bottle_tokens k) gives),
    )) in
    omega (arith, acts, there)

one_or_none : (b : Bool) (n : ℕ) → cond b 1 0 + n ≡ one_if b + n
one_or_none true n = refl
one_or_none false n = refl

counted : (event : Event) (events : List Event) → count_by is_deed (event ∷ events) ≡ one_if (is_deed event) + count_by is_deed events
counted event events = sum_by-cons (λ e. cond (is_deed e) 1 0) event events ∙ one_or_none (is_deed event) (count_by is_deed events)

deeds_below : (plan : LabPlan) (s : State) (events : List Event) → IsSound plan s → IsLegalFrom plan s events → AreBetween events
    → count_by is_deed events ≤ deeds_left plan s
deeds_below plan s [] sound legal between = omega arith
deeds_below plan s (event ∷ events) sound legal between =
    omega (
      arith,
      counted event events,
      deed_leaves plan s event sound.fits sound.forks legal.0 between.0,
      deeds_below plan (after plan s event) events (sound_after plan s event sound legal.0) legal.1 between.1,
    )

pub few_deeds : HasFewDeeds
few_deeds plan opening events later opens legal goes_on between =
    let s = after_all plan opening events in
    omega (arith, few_left plan s, deeds_below plan s later (sound_after_all plan opening events (sound_opening plan opening opens) legal) goes_on between)
