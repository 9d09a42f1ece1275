-- Rounds of all jobs, and why they end.
use Rattle.std.proofs.Common.{◌≡◌, ◌↔◌, ℕ, zero, suc, ◌+◌, ◌<◌, ◌≤◌, Bool, true, false, List, [], ◌∷◌, ◌++◌, length, get_or, set, take, drop, refl, sym, ap, ◌∙◌, subst, arith, length-set, ◌&&◌, inl, inr, add-one}
use Rattle.lab_plan.specs.LabPlan.{LabPlan}
use Rattle.legal_steps.specs.declared.event.Event.{Event}
use Rattle.legal_steps.specs.declared.phase.Drinking.TheVariants.{Retired}
use Rattle.legal_steps.specs.State.{State, drinking}
use Rattle.legal_steps.specs.Legal.{IsJob}
use Rattle.interleaving.specs.World.{WorldView}
use Rattle.turns.specs.History.{IsHistory, state_after}
use Rattle.turns.specs.Lists.{Each}
use Rattle.turns.specs.Patience.{no_wait}
use Rattle.turns.proofs.Runs.{each-append}
use Rattle.session_layer.specs.declared.turning.Turned.{Turned}
use Rattle.rounds.specs.Rounds as rounds
use Rattle.turns.specs.AtTheEnd.{AllRetired}
use Rattle.rounds.specs.Rounds.{Plays, Round, Rounds, IsOver, is_idle, no_player}
use Rattle.rounds.proofs.Lists.{take_set, drop_set, get_set, take_snoc, drop_next, get_same}
use Rattle.rounds.proofs.Snoc.{round-snoc}
use Rattle.rounds.specs.QuietEnd.{jobs_in, NoneReaches}
use Rattle.rounds.specs.FromOpening.{fresh_players}
use Rattle.rounds.specs.OneRun.{RanRounds, why_ended}
use Rattle.rounds.proofs.InRounds.{rounds_jobs}
use Rattle.rounds.proofs.Opened.{all_players, players_once}
use Rattle.rounds.proofs.QuietEnd.{no_quiet_end_from_rest}
use Rattle.round_trace.specs.declared.player.Player.{Player}
use Rattle.round_trace.specs.Players.{player_of, players_of, StandsAt, AreJobs}

-- ---- players by their place

players_set : (l : List Player) (k : ℕ) (y : Player) → players_of (set l k y) ≡ set (players_of l) k (player_of y)
players_set [] k y = refl
players_set (x ∷ l) zero y = refl
players_set (x ∷ l) (suc k) y = ap (λ z. player_of x ∷ z) (players_set l k y)

player_at : (l : List Player) (k : ℕ) (d : Player) (e : rounds.Player) → k < length l → get_or (players_of l) k e ≡ player_of (get_or l k d)
player_at [] k d e inside = absurd (omega arith)
player_at (x ∷ l) zero d e inside = refl
player_at (x ∷ l) (suc k) d e inside = player_at l k d e (omega arith)

length_players : (l : List Player) → length (players_of l) ≡ length l
length_players [] = refl
length_players (x ∷ l) = ap suc (length_players l)

each_get : {A : Type 0} (P : A → Type 0) (l : List A) (k : ℕ) (d : A) → k < length l → Each P l → P (get_or l k d)
each_get P [] k d inside each = absurd (omega arith)
each_get P (x ∷ l) zero d inside each = each.0
each_get P (x ∷ l) (suc k) d inside each = each_get P l k d (omega arith) each.1

module _ (plan : LabPlan) (now first : List Player) (k : ℕ) (d : Player) (inside : k < length now) (many : length now ≡ length first) (behind : drop k
    (players_of now) ≡ drop k (players_of first)) where
  abbrev firsts : List rounds.Player
  firsts = players_of first

  same_player : player_of (get_or now k d) ≡ get_or firsts k no_player
  same_player = sym (player_at now k d no_player inside) ∙ get_same (players_of now) firsts k no_player behind

  in_first : k < length firsts
  in_first = let n = length_players first in omega (arith, n, many, inside)

  pub job_at : AreJobs plan firsts → IsJob plan (get_or now k d).job
  job_at jobs = subst (λ (x : rounds.Player). x.job < length plan.jobs) (sym same_player) (each_get (λ
      (x : rounds.Player). x.job < length plan.jobs) firsts k no_player in_first jobs)

  module _ (y : Player) where
    pub behind_then : drop (k + 1) (players_of (set now k y)) ≡ drop (k + 1) firsts
    behind_then = ap (drop (k + 1)) (players_set now k y) ∙ (drop_set (players_of now) k (player_of y) ∙ drop_next (players_of now) firsts k behind)

    taken : take (k + 1) (players_of (set now k y)) ≡ take k (players_of now) ++ player_of y ∷ []
    taken =
        let new : List rounds.Player = set (players_of now) k (player_of y) in
        let n : length new ≡ length (players_of now) = ap length (sym (players_set now k y)) ∙ (length_players (set now k y) ∙ (length-set now k y ∙
        sym (length_players now))) in
        let m = length_players now in
        ap (take (k + 1)) (players_set now k y) ∙ (take_snoc new k no_player (omega (arith, n, m, inside)) ∙
        (λ i. take_set (players_of now) k (player_of y) i ++ get_set (players_of now) k (player_of y) no_player (omega (arith, m, inside)) i ∷ []))

    pub one_more : (h m g : List Event) (r : Turned) (idle : Bool) → Round plan (take k firsts) idle h m (take k (players_of now)) →
        Plays plan (player_of (get_or now k d)) m r g (player_of y)
        → (all : Bool) × Round plan (take (k + 1) firsts) all h g (take (k + 1) (players_of (set now k y)))
    one_more h m g r idle round plays =
        let more = round-snoc plan (take k firsts) (get_or firsts k no_player) h m g r idle (take k (players_of now)) (player_of y) round (subst (λ
        (x : rounds.Player). Plays plan x m r g (player_of y)) same_player plays) in (
          (idle && is_idle r),
          subst (λ (z : List rounds.Player × List rounds.Player). Round plan z.0 (idle && is_idle r) h g z.1) (λ i. (
            sym
                (take_snoc firsts k no_player in_first) i,
            sym taken i,
          )) more,
        )

-- ---- all jobs

fresh_jobs : (n top : ℕ) → n ≤ top → Each (λ (x : rounds.Player). x.job < top) (fresh_players n)
fresh_jobs zero top most = tt
fresh_jobs (suc n) top most = each-append (λ (x : rounds.Player). x.job < top) (fresh_players n) (record { job = n; waited = no_wait } ∷ [])
    (fresh_jobs n top (omega arith)) (omega arith, tt)

to_jobs : (top : ℕ) (players : List rounds.Player) → Each (λ (x : rounds.Player). x.job < top) players → Each (λ (j : ℕ). j < top) (jobs_in players)
to_jobs top [] each = tt
to_jobs top (x ∷ players) each = (each.0, to_jobs top players each.1)

of_jobs : (top : ℕ) (players : List rounds.Player) → Each (λ (j : ℕ). j < top) (jobs_in players) → Each (λ (x : rounds.Player). x.job < top) players
of_jobs top [] each = tt
of_jobs top (x ∷ players) each = (each.0, of_jobs top players each.1)

module _ (plan : LabPlan) (begun : List Event) where
  abbrev all : List rounds.Player
  all = fresh_players (length plan.jobs)

  module _ (players : List rounds.Player) (n : ℕ) (idle : Bool) (h : List Event) (rounds_were : Rounds plan all n idle begun h players) where
    pub are_jobs : AreJobs plan players
    are_jobs = of_jobs (length plan.jobs) players (subst (Each (λ (j : ℕ). j < length plan.jobs)) (sym
        (rounds_jobs plan all players n idle begun h rounds_were)) (to_jobs (length plan.jobs) all (fresh_jobs (length plan.jobs) (length plan.jobs)
        (omega arith))))

    module _ (rests : NoneReaches plan begun) (legal : IsHistory plan h) where
      -- as long as a job isn't retired
      not_over : ¬ AllRetired plan h → ¬ IsOver plan idle h
      not_over other (inl retired) = other retired
      not_over other (inr quiet) = other (no_quiet_end_from_rest plan all players n begun h (all_players plan) (players_once plan) rests legal
          (subst (λ b. Rounds plan all n b begun h players) quiet.0 rounds_were) quiet.1)

      pub round_more : (players' : List rounds.Player) (idle' : Bool) (g : List Event) → ¬ AllRetired plan h → Round plan players idle' h g players'
          → Rounds plan all (n + 1) idle' begun g players'
      round_more players' idle' g other round = subst (λ m. Rounds plan all m idle' begun g players') (sym (add-one n))
          (h, idle, players, rounds_were, not_over other, round)

      pub ran : (limit : ℕ) (retired : Bool) → n ≤ limit → (retired ≡ true) ↔ AllRetired plan h → (retired ≡ false → n ≡ limit) →
          (m : ℕ) × RanRounds plan limit all begun (why_ended retired) m h
      ran limit true most test end =
          (n, record { idle = idle; players_then = players; legal = legal; rounds = rounds_were; most = most; why = test.0 refl })
      ran limit false most test end = (
        n,
        record {
          idle = idle;
          players_then = players;
          legal = legal;
          rounds = rounds_were;
          most = most;
          why = (not_over (λ r. absurd (cannot (test.1 r))), end refl);
        },
      ) where
        cannot : false ≡ true → ⊥
        cannot is = cc

-- the test of a world is that of its history
pub retired_in : (plan : LabPlan) (w : WorldView) (h : List Event) (b : Bool) → StandsAt w h → w.plan ≡ plan → (b ≡ true) ↔ ((j : ℕ) →
    j < length w.plan.jobs → drinking w.state j ≡ Retired) → (b ≡ true) ↔ AllRetired plan h
retired_in plan w h b at same test = subst (λ (z : LabPlan × State). (b ≡ true) ↔ ((j : ℕ) → j < length z.0.jobs →
    drinking z.1 j ≡ Retired)) (λ i. (same i, (at.led ∙ ap (λ (p : LabPlan). state_after p h) same) i)) test
