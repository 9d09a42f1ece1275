-- What is owed at ends of edges.
use Rattle.std.proofs.Common.{◌≡◌, ℕ, ◌+◌, ◌<◌, ◌==◌, Bool, true, false, ◌&&◌, List, [], ◌∷◌, ◌++◌, length, map, min, get_or, refl, sym, ap, ◌∙◌, subst}
use Rattle.std.specs.Int.{bit_at}
use Rattle.std.specs.List.{All, AllZip, flat_map, range_with_len}
use Rattle.std.proofs.lemmas.Grind.{flat_map-append}
use Rattle.std.proofs.lemmas.List.{map-append, length-map}
use Rattle.std.proofs.lemmas.List.Elements.{All-map, All-weaker, All-nil, All-cons, All-head, All-tail}
use Rattle.std.proofs.lemmas.List.Folds.{flat_map-map}
use Rattle.lab_plan.specs.LabPlan.{LabPlan, edges_of}
use Rattle.lab_plan.specs.InstrumentSets.{holds}
use Rattle.legal_steps.specs.State.{IsOwn, neighbour}
use Rattle.legal_steps.specs.Legal.{instrument_of}
use Rattle.legal_steps.proofs.OwnEdges.{own_edges}
use Rattle.block_lines.specs.declared.block.Block.{Block}
use Rattle.blocking.specs.declared.counted.Wait.{Wait}
use Rattle.blocking.specs.declared.places.Place.{Place}
use Rattle.blocking.specs.Blocks.{block_of, places_on, places_of, places}
use Rattle.blocking.specs.Watching.{counted_if, rounds_then, each_by}
use Rattle.blocking.specs.Owing.{SideView, side_places, settled, all_settled, fresh_side, sides_of, fresh_sides, cleared, cleared_side, turned_to, FitsSide, SideThen}
use Rattle.blocking.proofs.Each.{both, same_by, long, joined}
use Rattle.blocking.proofs.Placing.{numbers_below, all_flat}
use Rattle.blocking.proofs.Waits.{one_more}

-- ---- before the first round

none_if : (b : Bool) → counted_if b 0 0 ≡ 0
none_if true = refl
none_if false = refl

module _ (plan : LabPlan) where
  none_owed : (w : Wait) (places : List Place) → each_by (rounds_then plan w 0) places (map (block_of plan []) places) ≡ map (block_of plan []) places
  none_owed w [] = refl
  none_owed w (x ∷ places) = λ i. record {
    job = x.job;
    neighbour = neighbour plan x.job x.edge;
    instrument = instrument_of plan x.edge x.bottle;
    rounds = none_if (bit_at w.bottles x.bottle == 1) i;
    held = none_if (bit_at w.bottles x.bottle == 1 && holds w.held (instrument_of plan x.edge x.bottle)) i;
  } ∷ none_owed w places i

  counts_on : (j : ℕ) (own : List ℕ)
      → all_settled plan (map (fresh_side plan j) own) ≡ map (block_of plan []) (flat_map (places_on plan j) own)
  counts_on j [] = refl
  counts_on j (e ∷ own) =
      (λ i. none_owed (record { bottles = 0; held = 0 }) (places_on plan j e) i ++ counts_on j own i)
      ∙ sym (map-append (block_of plan []) (places_on plan j e) (flat_map (places_on plan j) own))

  pub counts_of_job : (j : ℕ) → all_settled plan (sides_of plan j) ≡ map (block_of plan []) (places_of plan j)
  counts_of_job j = counts_on j (edges_of plan j)

  counts_of_jobs : (jobs : List ℕ) → all_settled plan (flat_map (sides_of plan) jobs) ≡ map (block_of plan []) (flat_map (places_of plan) jobs)
  counts_of_jobs [] = refl
  counts_of_jobs (j ∷ jobs) =
      flat_map-append (settled plan) (sides_of plan j) (flat_map (sides_of plan) jobs)
      ∙ ((λ i. counts_of_job j i ++ counts_of_jobs jobs i)
      ∙ sym (map-append (block_of plan []) (places_of plan j) (flat_map (places_of plan) jobs)))

  pub fresh_counts : all_settled plan (fresh_sides plan) ≡ map (block_of plan []) (places plan)
  fresh_counts = counts_of_jobs (range_with_len 0 (length plan.jobs))

  pub places_are : (j : ℕ) → flat_map (side_places plan) (sides_of plan j) ≡ places_of plan j
  places_are j = flat_map-map (side_places plan) (fresh_side plan j) (edges_of plan j)

  places_of_jobs : (jobs : List ℕ) → flat_map (side_places plan) (flat_map (sides_of plan) jobs) ≡ flat_map (places_of plan) jobs
  places_of_jobs [] = refl
  places_of_jobs (j ∷ jobs) =
      flat_map-append (side_places plan) (sides_of plan j) (flat_map (sides_of plan) jobs)
      ∙ (λ i. places_are j i ++ places_of_jobs jobs i)

  pub fresh_places : flat_map (side_places plan) (fresh_sides plan) ≡ places plan
  fresh_places = places_of_jobs (range_with_len 0 (length plan.jobs))

  fresh_fits : (j e : ℕ) → j < length plan.jobs → IsOwn plan j e → FitsSide plan (fresh_side plan j e)
  fresh_fits j e job own = record { job = job; own = own; many = length-map (places_on plan j e) (block_of plan []) }

  pub sides_fit : (j : ℕ) → j < length plan.jobs → All (FitsSide plan) (sides_of plan j)
  sides_fit j job = All-map (FitsSide plan) (fresh_side plan j) (edges_of plan j)
      (All-weaker (IsOwn plan j) (λ e. FitsSide plan (fresh_side plan j e)) (λ e own. fresh_fits j e job own) (edges_of plan j) (own_edges plan j))

  pub all_fresh_fit : All (FitsSide plan) (fresh_sides plan)
  all_fresh_fit = all_flat (FitsSide plan) (λ j. j < length plan.jobs) (sides_of plan) (range_with_len 0 (length plan.jobs)) sides_fit
      (numbers_below (length plan.jobs))

-- ---- one round more at one end of an edge

module _ (plan : LabPlan) (w : Wait) (s : SideView) where
  -- the job waits as in the rounds before
  pub waits_on : s.wait ≡ w → (new : SideView) → new ≡ record s { rounds = min (s.rounds + 1) 4294967295 } → SideThen plan (rounds_then plan w 1) s new
  waits_on same new is = subst (SideThen plan (rounds_then plan w 1) s) (sym is) (record {
    job = refl;
    edge = refl;
    many = refl;
    counts = same_by (rounds_then plan s.wait (min (s.rounds + 1) 4294967295)) (λ x b. rounds_then plan s.wait 1 x (rounds_then plan s.wait s.rounds x b))
        (side_places plan s) (λ k d inside b. one_more plan s.wait s.rounds (get_or (side_places plan s) k d) b) s.blocks
        ∙ (both (rounds_then plan s.wait 1) (rounds_then plan s.wait s.rounds) (side_places plan s) s.blocks
        ∙ ap (λ v. each_by (rounds_then plan v 1) (side_places plan s) (settled plan s)) same);
  })

  -- it waits in another way
  pub turns : (new : SideView) → new ≡ turned_to plan w s → SideThen plan (rounds_then plan w 1) s new
  turns new is = subst (SideThen plan (rounds_then plan w 1) s) (sym is) (record {
    job = refl;
    edge = refl;
    many = long (rounds_then plan s.wait s.rounds) (side_places plan s) s.blocks;
    counts = refl;
  })

-- two changes that are one at each place
pub same_change : (plan : LabPlan) (f g : Place → Block → Block) (old new : SideView)
    → All (λ (x : Place). (b : Block) → f x b ≡ g x b) (side_places plan old) → SideThen plan f old new → SideThen plan g old new
same_change plan f g old new same t = record {
  job = t.job;
  edge = t.edge;
  many = t.many;
  counts = t.counts ∙ same_by f g (side_places plan old) same (settled plan old);
}

-- ---- at all ends of edges

module _ (plan : LabPlan) (change : Place → Block → Block) where
  abbrev Then : SideView → SideView → Type 0
  Then old new = SideThen plan change old new

  stay : (old new : SideView) → Then old new → side_places plan new ≡ side_places plan old
  stay old new t = λ i. places_on plan (t.job i) (t.edge i)

  fits : (old new : SideView) → FitsSide plan old → Then old new → FitsSide plan new
  fits old new f t = record {
    job = subst (λ j. j < length plan.jobs) (sym t.job) f.job;
    own = subst (λ (z : ℕ × ℕ). IsOwn plan z.0 z.1) (λ i. (sym t.job i, sym t.edge i)) f.own;
    many = t.many ∙ (f.many ∙ sym (ap length (stay old new t)));
  }

  pub all_fit : (old new : List SideView) → All (FitsSide plan) old → AllZip Then old new → All (FitsSide plan) new
  all_fit [] [] all zip = All-nil (FitsSide plan)
  all_fit [] (y ∷ new) all zip = absurd zip
  all_fit (x ∷ old) [] all zip = absurd zip
  all_fit (x ∷ old) (y ∷ new) all zip =
      All-cons (FitsSide plan) y new (fits x y (All-head (FitsSide plan) x old all) zip.0) (all_fit old new (All-tail (FitsSide plan) x old all) zip.1)

  pub all_stay : (old new : List SideView) → AllZip Then old new → flat_map (side_places plan) new ≡ flat_map (side_places plan) old
  all_stay [] [] zip = refl
  all_stay [] (y ∷ new) zip = absurd zip
  all_stay (x ∷ old) [] zip = absurd zip
  all_stay (x ∷ old) (y ∷ new) zip = λ i. stay x y zip.0 i ++ all_stay old new zip.1 i

  each_counts : (old new : List SideView) → All (FitsSide plan) old → AllZip Then old new
      → all_settled plan new ≡ each_by change (flat_map (side_places plan) old) (all_settled plan old)
  each_counts [] [] all zip = refl
  each_counts [] (y ∷ new) all zip = absurd zip
  each_counts (x ∷ old) [] all zip = absurd zip
  each_counts (x ∷ old) (y ∷ new) all zip =
      (λ i. zip.0.counts i ++ each_counts old new (All-tail (FitsSide plan) x old all) zip.1 i)
      ∙ sym (joined change (side_places plan x) (flat_map (side_places plan) old) (settled plan x) (all_settled plan old)
      (long (rounds_then plan x.wait x.rounds) (side_places plan x) x.blocks ∙ (All-head (FitsSide plan) x old all).many))

  pub all_counts : (places : List Place) (blocks : List Block) (old new : List SideView) → All (FitsSide plan) old → AllZip Then old new
      → flat_map (side_places plan) old ≡ places → all_settled plan old ≡ blocks → all_settled plan new ≡ each_by change places blocks
  all_counts places blocks old new all zip at counts = each_counts old new all zip ∙ (λ i. each_by change (at i) (counts i))

-- ---- all ends are cleared

module _ (plan : LabPlan) where
  still : (w : Wait) (places : List Place) (blocks : List Block) → each_by (rounds_then plan w 0) places (map cleared blocks) ≡ map cleared blocks
  still w [] blocks = refl
  still w (x ∷ places) [] = refl
  still w (x ∷ places) (b ∷ blocks) = λ i. record {
    job = b.job;
    neighbour = b.neighbour;
    instrument = b.instrument;
    rounds = none_if (bit_at w.bottles x.bottle == 1) i;
    held = none_if (bit_at w.bottles x.bottle == 1 && holds w.held (instrument_of plan x.edge x.bottle)) i;
  } ∷ still w places blocks i

  pub all_cleared : (sides : List SideView) → all_settled plan (map (cleared_side plan) sides) ≡ map cleared (all_settled plan sides)
  all_cleared [] = refl
  all_cleared (s ∷ sides) =
      (λ i. still s.wait (side_places plan s) (settled plan s) i ++ all_cleared sides i)
      ∙ sym (map-append cleared (settled plan s) (all_settled plan sides))

  pub cleared_fit : (sides : List SideView) → All (FitsSide plan) sides → All (FitsSide plan) (map (cleared_side plan) sides)
  cleared_fit sides fit = All-map (FitsSide plan) (cleared_side plan) sides
      (All-weaker (FitsSide plan) (λ s. FitsSide plan (cleared_side plan s))
      (λ s f. record {
        job = f.job;
        own = f.own;
        many = length-map (settled plan s) cleared ∙ (long (rounds_then plan s.wait s.rounds) (side_places plan s) s.blocks ∙ f.many);
      }) sides fit)
