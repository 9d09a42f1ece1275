-- From what workers did to the history that closing the bench gives.
use Rattle.std.proofs.Common.{◌≡◌, ℕ, ◌≤◌, inl, inr, Bool, true, false, List, [], ◌∷◌, ◌++◌, refl, sym, ap, ◌∙◌, append_assoc, arith}
use Rattle.legal_steps.specs.declared.event.Event.{Event}
use Rattle.turns.specs.History.{events_by}
use Rattle.turns.specs.Lists.{StartsWith, Each}
use Rattle.edge_rule.specs.DeskView.{DeskView, BenchView, shown, waits}
use Rattle.edge_rule.specs.Ending.{Any}
use Rattle.session_layer.specs.Grown.{TookTurns}
use Rattle.session_layer.proofs.Grows.{stands_more}
use Rattle.rounds.specs.Company.{all_retired}
use Rattle.rounds.proofs.Lists.{zip_each}
use Rattle.workers.specs.Team.{TookUpTo}
use Rattle.workers.specs.Driven.{FromOne, Driven}
use Rattle.workers.specs.Closed.{TurnsSince, TurnsInHistory}

since : (n : ℕ) (d e : DeskView) (h : List Event) → TookTurns n d e → events_by e.job h ≡ e.deeds → StartsWith h e.front → TurnsSince n d h
since n d e h t is s = record {
  later = t.events;
  events = (λ i. events_by (sym t.grew.job i) h) ∙ (is ∙ t.grew.deeds);
  groups = t.groups;
  waited = waits e.clock;
  grouped = t.grouped;
  all = t.all;
  more = t.grew.more ++ s.0;
  goes_on = s.1 ∙ (ap (λ l. l ++ s.0) t.grew.front ∙ append_assoc d.front t.grew.more s.0);
  unbroken = stands_more d.plan (shown d) t.groups t.grew.more s.0 t.stands;
}

module _ (h : List Event) (turns : ℕ) (retired : Bool) where
  -- the desk of d is in the history
  abbrev Found : DeskView → DeskView → Type 0
  Found e d = (e.job ≡ d.job) × ((n : ℕ) × (n ≤ turns) × (retired ≡ false → n ≡ turns) × TurnsSince n d h)

  abbrev InHistory : DeskView → Type 0
  InHistory e = (events_by e.job h ≡ e.deeds) × StartsWith h e.front

  any_found : (R : DeskView → DeskView → Type 0) (e : DeskView) → InHistory e
      → ((d : DeskView) → R d e → InHistory e → Found e d) → (l : List DeskView) → Any (λ (d : DeskView). R d e) l → Any (Found e) l
  any_found R e at f [] any = absurd any
  any_found R e at f (d ∷ l) (inl r) = inl (f d r at)
  any_found R e at f (d ∷ l) (inr any) = inr (any_found R e at f l any)

  each_found : (R : DeskView → DeskView → Type 0) → ((d e : DeskView) → R d e → InHistory e → Found e d)
      → (old new : List DeskView) → FromOne R old new → Each InHistory new → Each (λ (e : DeskView). Any (Found e) old) new
  each_found R f old new from at =
      zip_each (λ (e : DeskView). Any (λ (d : DeskView). R d e) old) InHistory (λ (e : DeskView). Any (Found e) old)
      (λ e any here. any_found R e here (λ d r i. f d e r i) old any) new from at

  all_found : (b : BenchView) (old new : List DeskView) → retired ≡ all_retired new
      → Driven b turns old new → Each InHistory new → Each (λ (e : DeskView). Any (Found e) old) new
  all_found b old new is d at = by retired refl where
    by : (r : Bool) → retired ≡ r → Each (λ (e : DeskView). Any (Found e) old) new
    by true so =
        each_found (TookUpTo turns)
        (λ x e t here. (
          t.2.grew.job,
          (t.0, t.1, (λ not_all. let both : true ≡ false = sym so ∙ not_all in absurd (cc)), since t.0 x e h t.2 here.0 here.1),
        )) old new d.took at
    by false so = each_found (TookTurns turns)
        (λ x e t here. (t.grew.job, (turns, (omega arith), (λ not_all. refl), since turns x e h t here.0 here.1))) old new (d.full (sym is ∙ so)) at

pub turns_in_history : TurnsInHistory
turns_in_history = λ b turns old new c d end. all_found end.history turns (all_retired new) b old new refl d
    (zip_each (λ (e : DeskView). events_by e.job end.history ≡ e.deeds) (λ (e : DeskView). StartsWith end.history e.front)
    (InHistory end.history turns (all_retired new)) (λ e a s. (a, s)) new end.records end.fronts)
