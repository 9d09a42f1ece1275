-- What is known of a run of a plan.
use Rattle.std.specs.List.{All, range_with_len}
use Rattle.std.proofs.Common.{◌≡◌, ℕ, zero, suc, ◌+◌, ◌-◌, ◌==◌, ◌<◌, Bool, true, false, List, [], ◌∷◌, length, map, take, get_or, nat_lt, ap, ◌∙◌, arith, if◌then◌else◌}
use Rattle.std.proofs.lemmas.List.{length-map}
use Rattle.std.proofs.lemmas.List.Elements.{All-map, All-weaker, All-same, All-nil, All-cons, All-head, All-tail, All-take, All-get_or, All-from_get_or}
use Rattle.std.proofs.lemmas.List.FromFn.{length-map-range_with_len, get_or-range_with_len, length-range_with_len}
use Rattle.lab_plan.specs.LabPlan.{LabPlan, sessions}
use Rattle.legal_steps.specs.declared.event.Event.{Event}
use Rattle.block_lines.specs.declared.block.Block.{Block}
use Rattle.block_lines.specs.Ranking.{count_at, inserted, ranked_below, ranked}
use Rattle.block_lines.specs.Sums.{rounds_of}
use Rattle.block_lines.specs.Text.{IsOfPlan, block_at}
use Rattle.waiting.proofs.Known.{many}
use Rattle.blocking.specs.declared.places.Place.{Place}
use Rattle.blocking.specs.Blocks.{RunView, IsBlockedRun, block_of, places, places_of}
use Rattle.blocking.specs.Keepers.{KeptView, IsKeptRun, IsKeptOf, session_block, keepers, keepers_of}
use Rattle.blocking.specs.Watching.{IsPlace}
use Rattle.blocking.proofs.Placing.{all_places, all_of_job, neighbour_inside, instrument_inside}

-- it names jobs and instruments of the plan
pub of_plan : (plan : LabPlan) (limit : ℕ) (run : RunView) → IsBlockedRun plan limit run → All (IsOfPlan plan) run.blocks
of_plan plan limit run is =
    All-same (IsOfPlan plan) run.blocks (map (block_of plan is.rounds) (places plan)) is.blocks
    (All-map (IsOfPlan plan) (block_of plan is.rounds) (places plan)
    (All-weaker (IsPlace plan) (λ (x : Place). IsOfPlan plan (block_of plan is.rounds x))
    (λ x place. record { job = place.job; neighbour = neighbour_inside plan x place; instrument = instrument_inside plan x place })
    (places plan) (all_places plan)))

-- ---- who kept sessions

module _ (P : ℕ → Type 0) (counts : List ℕ) where
  put_in : (b : Bool) (place other : ℕ) (order later : List ℕ) → P place → All P (other ∷ order) → All P later
      → All P (if b then place ∷ other ∷ order else other ∷ later)
  put_in true place other order later is all rest = All-cons P place (other ∷ order) is all
  put_in false place other order later is all rest = All-cons P other later (All-head P other order all) rest

  all_inserted : (place : ℕ) (order : List ℕ) → P place → All P order → All P (inserted counts place order)
  all_inserted place [] is all = All-cons P place [] is all
  all_inserted place (other ∷ order) is all =
      put_in (nat_lt (count_at counts other) (count_at counts place)) place other order (inserted counts place order) is all
      (all_inserted place order is (All-tail P other order all))

either : {A : Type 0} (P : List A → Type 0) (b : Bool) (x y : List A) → P x → P y → P (if b then x else y)
either P true x y a b = a
either P false x y a b = b

ranked_inside : (counts : List ℕ) (n : ℕ) → All (λ place. place < n) (ranked_below counts n)
ranked_inside counts zero = All-nil (λ place. place < 0)
ranked_inside counts (suc n) =
    let P : ℕ → Type 0 = λ place. place < suc n in
    let before : All P (ranked_below counts n) =
    All-weaker (λ place. place < n) P (λ place less. omega (arith, less)) (ranked_below counts n) (ranked_inside counts n) in
    either (All P) (count_at counts n == 0) (ranked_below counts n) (inserted counts n (ranked_below counts n)) before
    (all_inserted P counts n (ranked_below counts n) (omega arith) before)

at_any : {A : Type 0} (P : A → Type 0) (l : List A) (i : ℕ) (d : A) → P d → All P l → P (get_or l i d)
at_any P [] i d nothing all = nothing
at_any P (x ∷ l) zero d nothing all = All-head P x l all
at_any P (x ∷ l) (suc i) d nothing all = at_any P l i d nothing (All-tail P x l all)

module _ (plan : LabPlan) (rounds : List (List Event)) where
  abbrev AreOfPlan : List Block → Type 0
  AreOfPlan blocks = All (IsOfPlan plan) blocks

  keepers_of_plan : (j s : ℕ) → j < length plan.jobs → AreOfPlan (keepers plan rounds j s)
  keepers_of_plan j s inside =
      let blocks : List Block = map (session_block plan rounds s) (places_of plan j) in
      let counts : List ℕ = map rounds_of blocks in
      let all : AreOfPlan blocks =
      All-map (IsOfPlan plan) (session_block plan rounds s) (places_of plan j)
      (All-weaker (IsPlace plan) (λ (x : Place). IsOfPlan plan (session_block plan rounds s x))
      (λ x place. record { job = place.job; neighbour = neighbour_inside plan x place; instrument = instrument_inside plan x place })
      (places_of plan j) (all_of_job plan j inside)) in
      let many : length counts ≡ length blocks = length-map blocks rounds_of in
      All-map (IsOfPlan plan) (block_at blocks) (take 3 (ranked counts))
      (All-take (λ place. IsOfPlan plan (block_at blocks place)) 3 (ranked counts)
      (All-weaker (λ place. place < length counts) (λ place. IsOfPlan plan (block_at blocks place))
      (λ place less. All-get_or (IsOfPlan plan) blocks place _ (omega (arith, less, many)) all) (ranked counts) (ranked_inside counts (length counts))))

  all_of_plan : (j : ℕ) → j < length plan.jobs → All AreOfPlan (keepers_of plan rounds j)
  all_of_plan j inside =
      let numbers : List ℕ = range_with_len 0 (length (sessions plan j)) in
      All-map AreOfPlan (λ i. keepers plan rounds j (i + 1)) numbers
      (All-from_get_or (λ i. AreOfPlan (keepers plan rounds j (i + 1))) numbers 0 (λ k less. keepers_of_plan j (get_or numbers k 0 + 1) inside))

  job_inside : (k : ℕ) → k < length (range_with_len 0 (length plan.jobs)) → get_or (range_with_len 0 (length plan.jobs)) k 0 < length plan.jobs
  job_inside k less =
      let long = length-range_with_len 0 (length plan.jobs) in let at = get_or-range_with_len 0 (length plan.jobs) k 0 (omega (arith, less, long)) in
      omega (arith, less, long, at)

pub kept_of_plan : (plan : LabPlan) (limit : ℕ) (x : KeptView) → IsKeptRun plan limit x → IsKeptOf plan x
kept_of_plan plan limit x is =
    let numbers : List ℕ = range_with_len 0 (length plan.jobs) in
    let all : All (All (AreOfPlan plan is.rounds)) x.keepers =
    All-same (All (AreOfPlan plan is.rounds)) x.keepers (map (keepers_of plan is.rounds) numbers) is.keepers
    (All-map (All (AreOfPlan plan is.rounds)) (keepers_of plan is.rounds) numbers
    (All-from_get_or (λ j. All (AreOfPlan plan is.rounds) (keepers_of plan is.rounds j)) numbers 0
    (λ k less. all_of_plan plan is.rounds (get_or numbers k 0) (job_inside plan is.rounds k less)))) in
    record {
      jobs = many plan limit x.run (record { rounds = is.rounds; are_rounds = is.are_rounds; known = is.known });
      keepers = ap length is.keepers ∙ length-map-range_with_len (keepers_of plan is.rounds) 0 (length plan.jobs);
      of_plan = λ j s. at_any (AreOfPlan plan is.rounds) (get_or x.keepers j []) (s - 1) [] (All-nil (IsOfPlan plan))
          (at_any (All (AreOfPlan plan is.rounds)) x.keepers j [] (All-nil (AreOfPlan plan is.rounds)) all);
    }
