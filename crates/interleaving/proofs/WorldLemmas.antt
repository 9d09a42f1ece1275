-- A world stays reached by a step, and what follows from that.
use Rattle.std.proofs.Common.{◌≡◌, ℕ, ◌+◌, ◌<◌, ◌≤◌, List, [], ◌∷◌, ◌++◌, length, take, slice_index_or, arith, refl, sym, ap, ◌∙◌, subst}
use Rattle.std.specs.Prelude.{slice_get, Some}
use Rattle.std.proofs.lemmas.List.{take_more, take_all}
use Rattle.std.proofs.lemmas.Option.{slice_get_read}
use Rattle.lab_plan.specs.LabPlan.{LabPlan}
use Rattle.legal_steps.specs.declared.event.Event.{Event}
use Rattle.legal_steps.specs.declared.event.Event.TheVariants.{Act, Sit, Quit, Withdraw}
use Rattle.legal_steps.specs.State.{State}
use Rattle.legal_steps.specs.Legal.{May, IsLegal}
use Rattle.legal_steps.specs.Run.{StopsAt}
use Rattle.legal_steps.specs.Reached.{IsReached}
use Rattle.legal_steps.proofs.ReachedLemmas.{reached_legal}
use Rattle.legal_steps.proofs.RunLemmas.{runs_more}
use Rattle.legal_steps.proofs.AppendLaw.{act_appends, next_within_limits}
use Rattle.legal_steps.proofs.MealLaw.{meals_few}
use Rattle.legal_steps.proofs.CountLaw.{done_few}
use Rattle.legal_steps.specs.declared.counts.Counts.{Counts}
use Rattle.interleaving.specs.Step.{TakesEntry}
use Rattle.interleaving.specs.Counting.{GoOnBy, CanCount, HasFewCounts}
use Rattle.interleaving.specs.World.{WorldView, IsReachedWith, IsReachedBy, GoesOnBy, LeadsTo}
use Rattle.interleaving.proofs.CountLemmas.{goes_on_push, counts_push}
use Rattle.interleaving.proofs.GoingOn.{by_both, on_by, on_both}

-- in a reached state the log of a legal Act takes its entry
pub takes_entry : (plan : LabPlan) (s : State) (event : Event) → IsReached plan s → TakesEntry plan s event
takes_entry plan s (Act j) reached = λ may. record {
  may_append = act_appends plan s j reached may.0 may.1;
  within_limits = next_within_limits plan s j reached may.0 may.1;
}
takes_entry plan s event reached = tt

few_counts : (plan : LabPlan) (s : State) (counts : List Counts) (j : ℕ) → IsReachedWith plan s counts → j < length plan.jobs → HasFewCounts j counts
few_counts plan s counts j h job =
    let is = h.counted.counted j job in
    let r = h.reached in
    let done = done_few plan r.opening r.events j r.is_plan r.is_opening r.run.legal in
    record {
      is_job = omega (arith, job, h.counted.one_each);
      few_meals = omega (arith, ap (λ (x : Counts). x.meals) is, meals_few plan r.opening r.events j r.is_plan r.is_opening r.run.legal);
      few_sessions = omega (arith, ap (λ (x : Counts). x.sessions_done) is, done);
      few_withdrawn = omega (arith, ap (λ (x : Counts). x.withdrawn) is, done);
    }

-- a legal event can be counted
pub can_count : (plan : LabPlan) (s : State) (counts : List Counts) (event : Event) → IsReachedWith plan s counts → May plan s event → CanCount event counts
can_count plan s counts (Sit j) h may = few_counts plan s counts j h may.0
can_count plan s counts (Quit j) h may = few_counts plan s counts j h may.0
can_count plan s counts (Withdraw j) h may = few_counts plan s counts j h may.0
can_count plan s counts event h may = tt

-- a world is reached by its past
abbrev pub reached_by : (plan : LabPlan) (opening : State) (past : List Event) (s : State) (counts : List Counts)
    → IsReachedBy plan opening past s counts → IsReachedWith plan s counts
reached_by plan opening past s counts h = record {
  reached = record { is_plan = h.is_plan; opening = opening; is_opening = h.is_opening; acyclic = h.acyclic; events = past; run = h.run };
  counted = h.counted;
}

-- the world after a legal event
pub reached_with : (plan : LabPlan) (opening : State) (past past' : List Event) (s s' : State) (counts counts' : List Counts) (event : Event)
    → IsReachedBy plan opening past s counts → IsLegal plan s event s' → GoOnBy counts (event ∷ []) counts' → past' ≡ past ++ event ∷ []
    → IsReachedBy plan opening past' s' counts'
reached_with plan opening past past' s s' counts counts' event h step more grown =
    subst (λ (z : List Event). IsReachedBy plan opening z s' counts') (sym grown) (record {
      is_plan = h.is_plan;
      is_opening = h.is_opening;
      acyclic = h.acyclic;
      run = (reached_legal plan s event s' (reached_by plan opening past s counts h).reached step).run;
      counted = counts_push plan past event counts counts' h.counted more;
    })

-- ---- replays

pub leads_more : (w mid new : WorldView) (events : List Event) (n : ℕ) (event : Event)
    → n < length events → event ≡ slice_index_or events n event → LeadsTo w (take n events) mid
    → IsLegal mid.plan mid.state event new.state → GoOnBy mid.counts (event ∷ []) new.counts → new.plan ≡ mid.plan
    → GoesOnBy mid (event ∷ []) new → LeadsTo w (take (n + 1) events) new
leads_more w mid new events n event inside is led step more same on =
    let longer : take (n + 1) events ≡ take n events ++ event ∷ [] =
    subst (λ x. take (n + 1) events ≡ take n events ++ x ∷ []) (sym is) (take_more events n event inside) in
    record {
      run = runs_more w.plan w.state mid.state new.state events n event inside is led.run
          (subst (λ plan. IsLegal plan mid.state event new.state) led.same_plan step);
      counted = subst (λ xs. GoOnBy w.counts xs new.counts) (sym longer) (goes_on_push w.counts mid.counts new.counts (take n events) event led.counted more);
      same_plan = same ∙ led.same_plan;
      goes_on = on_both w mid new led.goes_on (on_by mid new (event ∷ []) on);
    }

pub goes_more : (w mid new : WorldView) (events : List Event) (n : ℕ) (event : Event)
    → n < length events → event ≡ slice_index_or events n event → GoesOnBy w (take n events) mid
    → GoesOnBy mid (event ∷ []) new → GoesOnBy w (take (n + 1) events) new
goes_more w mid new events n event inside is before on =
    let longer : take (n + 1) events ≡ take n events ++ event ∷ [] =
    subst (λ x. take (n + 1) events ≡ take n events ++ x ∷ []) (sym is) (take_more events n event inside) in
    subst (λ xs. GoesOnBy w xs new) (sym longer) (by_both w mid new (take n events) (event ∷ []) before on)

pub leads_all : (w new : WorldView) (events : List Event) (n : ℕ) → LeadsTo w (take n events) new → length events ≤ n → LeadsTo w events new
leads_all w new events n led past = subst (λ xs. LeadsTo w xs new) (take_all n events past) led

pub goes_all : (w new : WorldView) (events : List Event) (n : ℕ) → GoesOnBy w (take n events) new → length events ≤ n → GoesOnBy w events new
goes_all w new events n on past = subst (λ xs. GoesOnBy w xs new) (take_all n events past) on

-- a replay stops at an event that isn't legal
pub stops_here : (w mid new : WorldView) (events : List Event) (n place : ℕ) (event : Event)
    → place ≡ n → n < length events → event ≡ slice_index_or events n event
    → LeadsTo w (take n events) mid → GoesOnBy w (take n events) mid → ¬ May mid.plan mid.state event → new ≡ mid
    → StopsAt w.plan w.state events place new.state × LeadsTo w (take place events) new × GoesOnBy w (take place events) new
stops_here w mid new events n place event same inside is led on refused unchanged =
    let here : LeadsTo w (take place events) new =
    subst (λ k. LeadsTo w (take k events) new) (sym same) (subst (LeadsTo w (take n events)) (sym unchanged) led) in
    let at : slice_get events place ≡ Some event = ap (slice_get events) same ∙ slice_get_read events (length events) n event refl inside is in (
      record {
        before = here.run;
        inside = omega (arith, same, inside);
        not_legal = λ other is_other may.
            refused (subst (λ x. May mid.plan mid.state x) (some_is _ _ (sym is_other ∙ at))
            (subst (λ (x : WorldView). May x.plan x.state other) unchanged (subst (λ plan. May plan new.state other) (sym here.same_plan) may)));
      },
      here,
      subst (λ k. GoesOnBy w (take k events) new) (sym same) (subst (GoesOnBy w (take n events)) (sym unchanged) on),
    )
  where
    some_is : (a b : Event) → Some a ≡ Some b → a ≡ b
    some_is a b h = cc
