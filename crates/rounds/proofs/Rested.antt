-- Rounds of all desks of a bench, whatever they did before: the desks' records say that no job is reaching.
use Rattle.std.proofs.Common.{◌≡◌, ◌≢◌, ℕ, List, [], ◌∷◌, refl, sym, ap, ◌∙◌, subst, inl, inr}
use Rattle.legal_steps.specs.declared.event.Event.{Event}
use Rattle.legal_steps.specs.declared.phase.Drinking.TheVariants.{Reaching}
use Rattle.legal_steps.specs.State.{Seat, drinking}
use Rattle.turns.specs.History.{events_by, known_by}
use Rattle.turns.specs.Lists.{Each}
use Rattle.turns.proofs.Runs.{own_known}
use Rattle.edge_rule.specs.DeskView.{DeskView, BenchView, Owns, known}
use Rattle.edge_rule.specs.Ending.{Any, Rests}
use Rattle.edge_rule.specs.Company.{Distinct, jobs_of}
use Rattle.rounds.specs.Company.{IsWhole, first_front}
use Rattle.rounds.specs.Rounds.{Rounds, players_of}
use Rattle.rounds.proofs.Driven.{all_of}
use Rattle.rounds.specs.QuietEnd.{jobs_in, HasAllPlayers, NoneReaches}
use Rattle.rounds.specs.FromRest.{NeverQuietFromRest}
use Rattle.rounds.proofs.QuietEnd.{no_quiet_end_from_rest}
use Rattle.rounds.proofs.Opened.{quiet_or}

players_jobs : (desks : List DeskView) → jobs_in (players_of desks) ≡ jobs_of desks
players_jobs [] = refl
players_jobs (d ∷ desks) = ap (λ (l : List ℕ). d.job ∷ l) (players_jobs desks)

-- a job whose desk rests isn't reaching in a history with its whole record
desk_rests : (b : BenchView) (h : List Event) (j : ℕ) (desks : List DeskView) → Any (λ (d : DeskView). d.job ≡ j) desks
    → Each (Owns b) desks → Each Rests desks → IsWhole h desks → drinking (known_by b.plan (events_by j h)) j ≢ Reaching
desk_rests b h j [] any own rests whole = absurd any
desk_rests b h j (d ∷ desks) (inl is) own rests whole = λ reaching. rests.0 (same ∙ reaching) where
  record_is : d.deeds ≡ events_by j h
  record_is = sym whole.0 ∙ ap (λ k. events_by k h) is

  same : drinking (known d) d.job ≡ drinking (known_by b.plan (events_by j h)) j
  same = λ i. drinking (known_by (own.0.1 i) (record_is i)) (is i)
desk_rests b h j (d ∷ desks) (inr any) own rests whole = desk_rests b h j desks any own.1 rests.1 whole.1

pub never_quiet_from_rest : NeverQuietFromRest
never_quiet_from_rest b limit old ended n new own all rests d is =
    let why = quiet_or ended b.plan (first_front new) d.idle n limit is d.why in
    let jobs : jobs_in (players_of old) ≡ jobs_of old = players_jobs old in
    let every : HasAllPlayers b.plan (players_of old) = λ j job. subst (Any (λ (i : ℕ). i ≡ j)) (sym jobs) (all_of b.plan old all j job) in
    let none : NoneReaches b.plan d.start = λ j job reaching.
    desk_rests b d.start j old (all.every j job) own rests d.whole (ap (λ (x : Seat). x.phase.drinking) (sym (own_known b.plan j d.start job)) ∙ reaching) in
    why.0 (no_quiet_end_from_rest b.plan (players_of old) (players_of new) n d.start (first_front new) every (subst Distinct (sym jobs) all.once) none
    d.company.legal (subst (λ z. Rounds b.plan (players_of old) n z d.start (first_front new) (players_of new)) why.1 d.rounds) why.2)
