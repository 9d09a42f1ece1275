-- A run in rounds, from what was driven and what closing the bench gives.
use Rattle.std.proofs.Common.{◌≡◌, ◌≢◌, ℕ, ◌<◌, Bool, false, if◌then◌else◌, List, [], ◌∷◌, ◌++◌, length, refl, sym, ap, ◌∙◌, subst, append-nil}
use Rattle.std.proofs.lemmas.Bool.{eq-eqb}
use Rattle.std.proofs.lemmas.List.Elements.{filter-append}
use Rattle.lab_plan.specs.LabPlan.{LabPlan}
use Rattle.legal_steps.specs.declared.event.Event.{Event}
use Rattle.legal_steps.specs.Opening.{the_opening}
use Rattle.legal_steps.specs.Run.{actor}
use Rattle.turns.specs.History.{is_by, events_by}
use Rattle.turns.specs.Lists.{StartsWith, Each}
use Rattle.edge_rule.specs.DeskView.{DeskView, BenchView}
use Rattle.edge_rule.specs.ClosedView.{ClosedView}
use Rattle.edge_rule.specs.Ending.{HasAll, IsEnd}
use Rattle.report.specs.Events.{retired_after}
use Rattle.rounds.specs.declared.ended.Ended.{Ended}
use Rattle.rounds.specs.declared.ended.Ended.TheVariants as reasons
use Rattle.rounds.specs.Company.{first_front}
use Rattle.turns.specs.AtTheEnd.{AllRetired}
use Rattle.rounds.specs.Rounds.{Drove, Why}
use Rattle.rounds.proofs.Lists.{append_cancel, zip_each}
use Rattle.rounds.specs.OneRun.{RanRounds}
use Rattle.rounds.specs.FromOpening.{opened, fresh_players, DrivesFromOpening, NeverEndsQuiet}
use Rattle.rounds.proofs.Opened.{players_once}
use Rattle.rounds.proofs.Fresh.{each_any, fresh_player}
use Rattle.rounds.proofs.RoundTurns.{turns_in_rounds}
use Rattle.whole_runs.specs.Turns.{TakeTurns}
use Rattle.whole_runs.specs.Runs.{IsRunInRounds}
use Rattle.whole_runs.proofs.Ends.{taken, shows, not_retired}

-- ---- nobody did anything after the last round

own_first : (x : Event) (l : List Event) → events_by (actor x) (x ∷ l) ≡ x ∷ events_by (actor x) l
own_first x l = ap (λ (c : Bool). if c then x ∷ events_by (actor x) l else events_by (actor x) l) (eq-eqb (actor x) (actor x) refl)

nothing_more : (n : ℕ) (more : List Event) → Each (λ (x : Event). actor x < n) more → ((j : ℕ) → j < n → events_by j more ≡ []) → more ≡ []
nothing_more n [] each none = refl
nothing_more n (x ∷ more) each none = let q : x ∷ events_by (actor x) more ≡ [] = sym (own_first x more) ∙ none (actor x) each.0 in absurd (cc)

each_later : {A : Type 0} (P : A → Type 0) (a b : List A) → Each P (a ++ b) → Each P b
each_later P [] b each = each
each_later P (x ∷ a) b each = each_later P a b each.1

first_starts : (h : List Event) (desks : List DeskView) → Each (λ (d : DeskView). StartsWith h d.front) desks → StartsWith h (first_front desks)
first_starts h [] each = (h, refl)
first_starts h (d ∷ desks) each = each.0

module _ (b : BenchView) (desks : List DeskView) (c : ClosedView) (end : IsEnd b.plan desks c)
    (all : HasAll b.plan desks) (whole : Each (λ (d : DeskView). events_by d.job (first_front desks) ≡ d.deeds) desks) where
  -- each job did in all what it did in the first desk's front
  same_by : (j : ℕ) → j < length b.plan.jobs → events_by j end.history ≡ events_by j (first_front desks)
  same_by j inside =
      let found = each_any (λ (d : DeskView). events_by d.job end.history ≡ events_by d.job (first_front desks)) (λ (d : DeskView). d.job ≡ j) desks
      (zip_each (λ (d : DeskView). events_by d.job end.history ≡ d.deeds) (λ (d : DeskView). events_by d.job (first_front desks) ≡ d.deeds)
      (λ (d : DeskView). events_by d.job end.history ≡ events_by d.job (first_front desks)) (λ d p q. p ∙ sym q) desks end.records whole)
      (all.every j inside) in
      subst (λ i. events_by i end.history ≡ events_by i (first_front desks)) found.2 found.1

  pub same_history : end.history ≡ first_front desks
  same_history =
      let (more, goes_on) = first_starts end.history desks end.fronts in
      let none : (j : ℕ) → j < length b.plan.jobs → events_by j more ≡ [] = λ j inside. append_cancel (events_by j (first_front desks)) (events_by j more) []
      (sym (filter-append (is_by j) (first_front desks) more)
      ∙ (sym (ap (events_by j) goes_on) ∙ (same_by j inside ∙ sym (append-nil (events_by j (first_front desks)))))) in
      let nobody : Each (λ (x : Event). actor x < length b.plan.jobs) more =
      each_later (λ (x : Event). actor x < length b.plan.jobs) (first_front desks) more
      (subst (Each (λ (x : Event). actor x < length b.plan.jobs)) goes_on end.nobody_else) in
      goes_on ∙ (ap (λ l. first_front desks ++ l) (nothing_more (length b.plan.jobs) more nobody none) ∙ append-nil (first_front desks))

-- ---- the run

module _ (plan : LabPlan) (limit : ℕ) (ended : Ended) (n : ℕ) (h : List Event)
    (r : RanRounds plan limit (fresh_players (length plan.jobs)) [] ended n h) (not_quiet : ended ≢ reasons.Quiet) where
  full : (x : Ended) → ended ≡ x → Why plan h x r.idle n limit → retired_after plan (the_opening plan) h ≡ false → n ≡ limit
  full reasons.AllRetired is why so = absurd (not_retired plan h so why)
  full reasons.Quiet is why so = absurd (not_quiet is)
  full reasons.Limit is why so = why.1
  full reasons.NoMemory is why so = absurd why

  pub rounds_are_turns : TakeTurns plan h limit (retired_after plan (the_opening plan) h)
  rounds_are_turns j inside =
      let t = turns_in_rounds plan j (fresh_players (length plan.jobs)) r.players_then n r.idle h
      (players_once plan) (fresh_player (length plan.jobs) j inside) r.rounds in
      (n, r.most, (λ so. full ended refl r.why so), taken plan h j n t.waited t.groups t.grouped t.together t.unbroken)

pub ran_in_rounds : DrivesFromOpening → NeverEndsQuiet → (b : BenchView) (limit : ℕ) (ended : Ended) (n : ℕ) (desks : List DeskView) (c : ClosedView)
    → Drove b limit (opened b) ended n desks → HasAll b.plan desks → IsEnd b.plan desks c → IsRunInRounds b.plan limit c
ran_in_rounds drives never b limit ended n desks c drove all end =
    let not_quiet : ended ≢ reasons.Quiet = never b limit ended n desks drove in
    let r : RanRounds b.plan limit (fresh_players (length b.plan.jobs)) [] ended n end.history =
    subst (RanRounds b.plan limit (fresh_players (length b.plan.jobs)) [] ended n)
    (sym (same_history b desks c end all drove.company.whole)) (drives b limit ended n desks drove) in
    record {
      by_turns = record {
        of_plan = end.plan;
        within_limits = end.is_plan;
        history = end.history;
        legal = end.legal;
        shows = shows b.plan desks c end;
        takes_turns = rounds_are_turns b.plan limit ended n end.history r not_quiet;
      };
      ended = ended;
      number = n;
      rounds = r;
      not_quiet = not_quiet;
    }
