-- Rounds from the initial state on go on as long as a job isn't retired.
use Rattle.std.proofs.Common.{ℕ, ◌+◌, Bool, List, [], length, sym, subst, inl, inr, add-one}
use Rattle.lab_plan.specs.LabPlan.{LabPlan}
use Rattle.legal_steps.specs.declared.event.Event.{Event}
use Rattle.turns.specs.History.{IsHistory}
use Rattle.turns.specs.AtTheEnd.{AllRetired}
use Rattle.rounds.specs.Rounds.{Player, Round, Rounds, IsOver}
use Rattle.rounds.specs.FromOpening.{fresh_players}
use Rattle.rounds.proofs.Opened.{all_players, players_once}
use Rattle.rounds.proofs.QuietEnd.{no_quiet_end}

module _ (plan : LabPlan) (players : List Player) (n : ℕ) (idle : Bool) (h : List Event) where
  abbrev all : List Player
  all = fresh_players (length plan.jobs)

  module _ (rounds_were : Rounds plan all n idle [] h players) where
    pub not_over : IsHistory plan h → ¬ AllRetired plan h → ¬ IsOver plan idle h
    not_over legal other (inl retired) = other retired
    not_over legal other (inr quiet) = other (no_quiet_end plan all players n h (all_players plan) (players_once plan) legal (subst
        (λ b. Rounds plan all n b [] h players) quiet.0 rounds_were) quiet.1)

    pub round_more : (players' : List Player) (idle' : Bool) (g : List Event) → IsHistory plan h → ¬ AllRetired plan h →
        Round plan players idle' h g players' → Rounds plan all (n + 1) idle' [] g players'
    round_more players' idle' g legal other round = subst (λ m. Rounds plan all m idle' [] g players') (sym (add-one n))
        (h, idle, players, rounds_were, not_over legal other, round)
