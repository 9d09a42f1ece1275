-- What is known of a run once all is put away.
use Rattle.std.proofs.Common.{◌≡◌, ℕ, Bool, List, [], length, map, sym, ap, ◌∙◌, subst, arith}
use Rattle.std.specs.List.{range_with_len}
use Rattle.std.proofs.lemmas.List.{length-map, get_or-map}
use Rattle.std.proofs.lemmas.List.FromFn.{fill_by_all}
use Rattle.lab_plan.specs.LabPlan.{LabPlan}
use Rattle.waiting.specs.Rounds.{AreRoundsOf}
use Rattle.waiting.specs.Noting.{LogView}
use Rattle.waiting.specs.Waits.{RunView}
use Rattle.waiting.specs.Watching.{Watched, told}
use Rattle.waiting.proofs.LogsTell.{told_all}
use Rattle.blocking.specs.Keepers.{IsKeptRun, keepers_of}
use Rattle.blocking.specs.Tallying.{TallyView, EachThen, SessionsTell, IsPutAway, tally_at, kept_of, no_tally}
use Rattle.blocking.proofs.Tallies.{put_away_all}

module _ (plan : LabPlan) (limit n : ℕ) (retired : Bool) (before after : List ℕ) (logs : List LogView) (tallies : List TallyView)
    (w : Watched plan limit n retired (SessionsTell plan before after logs tallies)) (away : List TallyView)
    (each : EachThen (IsPutAway plan) tallies away) where
  kept_all : map kept_of away ≡ map (keepers_of plan w.rounds) (range_with_len 0 (length plan.jobs))
  kept_all =
      let many = w.told.many in let same = each.many in
      fill_by_all (keepers_of plan w.rounds) (map kept_of away) (length plan.jobs) [] (length-map away kept_of ∙ (each.many ∙ many))
      (λ j inside. get_or-map kept_of away j no_tally [] (omega (arith, inside, many, same))
      ∙ (ap kept_of (each.each j (omega (arith, inside, many))) ∙ put_away_all plan w.rounds j (tally_at tallies j) (w.told.tell j inside)))

  pub kept_run : (run : RunView) → run ≡ record { number = n; retired = retired; jobs = map told logs }
      → IsKeptRun plan limit (record { run = run; keepers = map kept_of away })
  kept_run run is =
      let ends : run.retired ≡ retired = ap (λ (x : RunView). x.retired) is in record {
        rounds = w.rounds;
        are_rounds = subst (λ (b : Bool). AreRoundsOf plan limit b w.rounds) (sym ends) w.are_rounds;
        known = is ∙ (λ i. record { number = w.number i; retired = sym ends i; jobs = told_all plan w.rounds logs w.told.logs_tell i });
        keepers = kept_all;
      }
