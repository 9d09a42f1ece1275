-- Tallies after rounds.
use Rattle.std.proofs.Common.{◌≡◌, ℕ, zero, suc, ◌+◌, ◌-◌, ◌==◌, ◌<◌, ◌≤◌, Bool, true, false, if◌then◌else◌, List, [], ◌∷◌, length, map, take, get_or, set, replicate, refl, sym, ap, ◌∙◌, inl, inr, arith, length-set}
use Rattle.std.specs.List.{All, AllZip, flat_map}
use Rattle.std.proofs.lemmas.Bool.{cases_eq, eq-eqb}
use Rattle.std.proofs.lemmas.Bool.Decides.{nat_tests}
use Rattle.std.proofs.lemmas.List.{get_or-set_same, get_or-set_other, length-replicate, get_or-replicate}
use Rattle.std.proofs.lemmas.List.Elements.{All-weaker}
use Rattle.std.proofs.lemmas.List.Folds.{flat_map-map}
use Rattle.std.proofs.lemmas.List.FromFn.{fill_by_all}
use Rattle.lab_plan.specs.LabPlan.{LabPlan, sessions}
use Rattle.legal_steps.specs.declared.event.Event.{Event}
use Rattle.legal_steps.specs.State.{neighbour, session, no_seat}
use Rattle.legal_steps.specs.Opening.{idle_seat}
use Rattle.turns.specs.History.{IsHistory}
use Rattle.turns.specs.Lists.{StartsWith}
use Rattle.rounds.specs.Rounds.{known_in}
use Rattle.block_lines.specs.declared.block.Block.{Block}
use Rattle.block_lines.specs.Largest.{largest_three}
use Rattle.block_lines.specs.Ranking.{count_at, ranked_below}
use Rattle.block_lines.specs.Sums.{rounds_of}
use Rattle.block_lines.specs.Text.{block_at}
use Rattle.waiting.specs.Rounds.{joined}
use Rattle.blocking.specs.declared.places.Place.{Place}
use Rattle.blocking.specs.Blocks.{history_after, places_of}
use Rattle.blocking.specs.Keepers.{session_block, keepers, keepers_of}
use Rattle.blocking.specs.Watching.{AreHeld, block_then}
use Rattle.blocking.specs.Owing.{side_places, all_settled, cleared, cleared_side, FitsSide, SideThen}
use Rattle.blocking.specs.Tallying.{TallyView, Tells, FitsTally, TallyThen, fresh_tally, kept_then, put_away, moved_to}
use Rattle.blocking.proofs.Placing.{IsPlaceOf, places_of_job, neighbour_inside}
use Rattle.blocking.proofs.Rises.{rises, within}
use Rattle.blocking.proofs.OfSessions.{all_more, all_same, none_counted}
use Rattle.blocking.proofs.Owing.{counts_of_job, places_are, sides_fit, all_fit, all_stay, all_counts, all_cleared, cleared_fit}

pub fits : (plan : LabPlan) (rounds : List (List Event)) (j : ℕ) (x : TallyView) → Tells plan rounds j x → FitsTally plan x
fits plan rounds j x t = record { fit = t.fit; there = let a = t.there in let b = t.many in omega (arith, a, b) }

jobs_are : (plan : LabPlan) (j : ℕ) → j < length plan.jobs → All (λ (x : Place). x.job ≡ j) (places_of plan j)
jobs_are plan j inside = All-weaker (IsPlaceOf plan j) (λ (x : Place). x.job ≡ j) (λ x is. is.1) (places_of plan j) (places_of_job plan j inside)

-- ---- on to another session

abbrev moved_if : LabPlan → ℕ → TallyView → Bool → TallyView
moved_if plan s x b = if b then x else record { session = s; sides = map (cleared_side plan) x.sides; kept = kept_then plan x }

fit_if : (plan : LabPlan) (s : ℕ) (x : TallyView) → FitsTally plan x → (b : Bool) → All (FitsSide plan) (moved_if plan s x b).sides
fit_if plan s x f true = f.fit
fit_if plan s x f false = cleared_fit plan x.sides f.fit

session_if : (plan : LabPlan) (s : ℕ) (x : TallyView) (b : Bool) → (x.session == s) ≡ b → (moved_if plan s x b).session ≡ s
session_if plan s x true is = grind (arith, nat_tests, is)
session_if plan s x false is = refl

pub moved_fit : (plan : LabPlan) (s : ℕ) (x : TallyView) → FitsTally plan x → All (FitsSide plan) (moved_to plan s x).sides
moved_fit plan s x f = fit_if plan s x f (x.session == s)

pub moved_session : (plan : LabPlan) (s : ℕ) (x : TallyView) → (moved_to plan s x).session ≡ s
moved_session plan s x = session_if plan s x (x.session == s) refl

-- ---- what is put away

-- who kept each session, once those of the present one are put away
module _ (plan : LabPlan) (rounds : List (List Event)) (j : ℕ) (x : TallyView) (t : Tells plan rounds j x) where
  abbrev most : List Block
  most = largest_three (all_settled plan x.sides)

  present : (b : Bool) → (x.session == 0) ≡ b → (i : ℕ) → i < length (sessions plan j)
      → get_or (if b then x.kept else set x.kept (x.session - 1) most) i [] ≡ keepers plan rounds j (i + 1)
  present true is i inside =
      let none : x.session ≡ 0 = grind (arith, nat_tests, is) in
      t.kept i inside (λ e. omega (arith, e, none))
  present false is i inside =
      let some : ¬ (x.session ≡ 0) = grind (arith, nat_tests, is) in
      elim (cases_eq i (x.session - 1)) [
        | inl here ↦
            let number : i + 1 ≡ x.session = omega (arith, here, some) in let long = t.many in
            ap (λ k. get_or (set x.kept (x.session - 1) most) k []) here
            ∙ (get_or-set_same x.kept (x.session - 1) most [] (omega (arith, here, inside, long))
            ∙ (ap largest_three t.counts ∙ ap (keepers plan rounds j) (sym number)))
        | inr other ↦
            get_or-set_other x.kept (x.session - 1) i most [] other
            ∙ t.kept i inside (λ e. other (omega (arith, e)))
      ]

  pub all_kept : (i : ℕ) → i < length (sessions plan j) → get_or (kept_then plan x) i [] ≡ keepers plan rounds j (i + 1)
  all_kept i inside = present (x.session == 0) refl i inside

  long : (b : Bool) → length (if b then x.kept else set x.kept (x.session - 1) most) ≡ length (sessions plan j)
  long true = t.many
  long false = length-set x.kept (x.session - 1) most ∙ t.many

  pub all_long : length (kept_then plan x) ≡ length (sessions plan j)
  all_long = long (x.session == 0)

  pub put_away_all : (put_away plan x).kept ≡ keepers_of plan rounds j
  put_away_all = fill_by_all (λ i. keepers plan rounds j (i + 1)) (kept_then plan x) (length (sessions plan j)) [] all_long all_kept

-- ---- before the first round

none_ranked : (counts : List ℕ) (n : ℕ) → ((k : ℕ) → count_at counts k ≡ 0) → ranked_below counts n ≡ []
none_ranked counts zero none = refl
none_ranked counts (suc n) none = let here : (count_at counts n == 0) ≡ true = eq-eqb (count_at counts n) 0 (none n) in rw here (none_ranked counts n none)

module _ (plan : LabPlan) where
  none_at : (s : ℕ) (places : List Place) (k : ℕ) → count_at (map rounds_of (map (session_block plan [] s) places)) k ≡ 0
  none_at s [] k = refl
  none_at s (x ∷ places) zero = refl
  none_at s (x ∷ places) (suc k) = none_at s places k

  nobody : (j s : ℕ) → keepers plan [] j s ≡ []
  nobody j s =
      let counts : List ℕ = map rounds_of (map (session_block plan [] s) (places_of plan j)) in
      ap (λ order. map (block_at (map (session_block plan [] s) (places_of plan j))) (take 3 order))
      (none_ranked counts (length counts) (none_at s (places_of plan j)))

  idle_at : (m j : ℕ) → (get_or (replicate m (idle_seat plan)) j no_seat).phase.session ≡ 0
  idle_at zero zero = refl
  idle_at zero (suc j) = refl
  idle_at (suc m) zero = refl
  idle_at (suc m) (suc j) = idle_at m j

  pub fresh_tells : (j : ℕ) → j < length plan.jobs → Tells plan [] j (fresh_tally plan j)
  fresh_tells j job = record {
    session = sym (idle_at (length plan.jobs) j);
    there = omega arith;
    fit = sides_fit plan j job;
    at_places = places_are plan j;
    counts = counts_of_job plan j;
    many = length-replicate (length (sessions plan j)) [];
    kept = λ i inside other. get_or-replicate (length (sessions plan j)) i [] [] inside ∙ sym (nobody j (i + 1));
  }

-- ---- one round more

module _ (plan : LabPlan) (old new : List (List Event)) (n : ℕ) (old_long : length old ≡ n) (new_long : length new ≡ n + 1)
    (same : (k : ℕ) → k ≤ n → history_after old k ≡ history_after new k) (small : n < 4294967295)
    (before after : List ℕ) (held_before : AreHeld plan (joined old) before) (held_after : AreHeld plan (joined new) after)
    (legal : IsHistory plan (joined new)) (grown : StartsWith (joined new) (joined old))
    (starts : (k : ℕ) → StartsWith (joined old) (history_after old k)) (j : ℕ) (inside : j < length plan.jobs) where
  abbrev now : ℕ
  now = session (known_in plan (joined new) j) j

  -- in the session in which the round ended, and nothing of this round is counted yet
  record InSession (y : TallyView) : Type 0 where
    session : y.session ≡ now
    fit : All (FitsSide plan) y.sides
    at_places : flat_map (side_places plan) y.sides ≡ places_of plan j
    counts : all_settled plan y.sides ≡ map (session_block plan old now) (places_of plan j)
    many : length y.kept ≡ length (sessions plan j)
    kept : (i : ℕ) → i < length (sessions plan j) → ¬ (i + 1 ≡ now) → get_or y.kept i [] ≡ keepers plan old j (i + 1)

  module _ (x : TallyView) (t : Tells plan old j x) where
    moves : (b : Bool) → (x.session == now) ≡ b
        → InSession (if b then x else record { session = now; sides = map (cleared_side plan) x.sides; kept = kept_then plan x })
    moves true is =
        let e : x.session ≡ now = grind (arith, nat_tests, is) in record {
          session = e;
          fit = t.fit;
          at_places = t.at_places;
          counts = t.counts ∙ ap (λ s. map (session_block plan old s) (places_of plan j)) e;
          many = t.many;
          kept = λ i there other. t.kept i there (λ q. other (q ∙ e));
        }
    moves false is =
        let other : ¬ (x.session ≡ now) = grind (arith, nat_tests, is) in
        let was = t.session in let up = rises plan j (joined new) (joined old) grown inside in
        let less : x.session < now = omega (arith, other, was, up) in record {
          session = refl;
          fit = cleared_fit plan x.sides t.fit;
          at_places = flat_map-map (side_places plan) (cleared_side plan) x.sides ∙ t.at_places;
          counts = all_cleared plan x.sides ∙ (ap (map cleared) t.counts ∙ none_counted plan old x.session now j
              (λ k few. let q = rises plan j (joined old) (history_after old k) (starts k) inside in omega (arith, q, was, less))
              (places_of plan j) (jobs_are plan j inside));
          many = all_long plan old j x t;
          kept = λ i there _. all_kept plan old j x t i there;
        }

  keepers_same : (i : ℕ) → ¬ (i + 1 ≡ now) → keepers plan old j (i + 1) ≡ keepers plan new j (i + 1)
  keepers_same i other = ap largest_three (all_same plan old new n old_long new_long same small before after held_before held_after (i + 1) j
      (λ e. other (sym e)) (places_of plan j) (jobs_are plan j inside))

  near : All (λ (x : Place). (neighbour plan x.job x.edge < length plan.jobs) × (x.job ≡ j)) (places_of plan j)
  near = All-weaker (IsPlaceOf plan j) (λ (x : Place). (neighbour plan x.job x.edge < length plan.jobs) × (x.job ≡ j))
      (λ x is. (neighbour_inside plan x is.0, is.1)) (places_of plan j) (places_of_job plan j inside)

  tells_on : (y z : TallyView) → InSession y → z.session ≡ now → AllZip (SideThen plan (block_then plan (joined new) before after)) y.sides z.sides
      → z.kept ≡ y.kept → Tells plan new j z
  tells_on y z m is zip stays =
      let change : Place → Block → Block = block_then plan (joined new) before after in record {
        session = is;
        there = let b = (within plan (joined new) j legal inside).session_there in omega (arith, is, b);
        fit = all_fit plan change y.sides z.sides m.fit zip;
        at_places = all_stay plan change y.sides z.sides zip ∙ m.at_places;
        counts = all_counts plan change (places_of plan j) (map (session_block plan old now) (places_of plan j)) y.sides z.sides m.fit zip m.at_places m.counts
            ∙ (all_more plan old new n old_long new_long same small before after held_before held_after now j refl (places_of plan j) near
            ∙ ap (λ s. map (session_block plan new s) (places_of plan j)) (sym is));
        many = ap length stays ∙ m.many;
        kept = λ i there other. ap (λ (l : List (List Block)). get_or l i []) stays
            ∙ (m.kept i there (λ e. other (e ∙ sym is)) ∙ keepers_same i (λ e. other (e ∙ sym is)));
      }

  pub tells_then : (x y : TallyView) → Tells plan old j x → TallyThen plan (joined new) before after now x y → Tells plan new j y
  tells_then x y t next = tells_on (moved_to plan now x) y (moves x t (x.session == now) refl) next.session next.sides next.kept
