-- What is made of a script, and what follows.
use Rattle.std.proofs.Common.{◌≡◌, ◌≢◌, inl, inr, ℕ, ◌<◌, ◌≤◌, List, length, subst, sym, ap, ◌∙◌, arith}
use Rattle.std.specs.List.{All}
use Rattle.std.proofs.lemmas.List.FromFn.{length-range_with_len}
use Rattle.std.proofs.lemmas.List.Sorted.{length_permutation}
use Rattle.lab_plan.specs.LabPlan.{LabPlan}
use Rattle.legal_steps.specs.Opening.{the_opening}
use Rattle.arranging.specs.Colours.{ColouringView, IsColouring, IsGreedy, jobs_by_number, in_order}
use Rattle.arranging.specs.Chains.{IsChain}
use Rattle.arranging.specs.Reordered.{IsArrangement, ArrangedChainsAreShort}
use Rattle.arranging.proofs.Orders.{orders_keep_jobs}
use Rattle.arranging.proofs.Arrangements.{of_plan}
use Rattle.script_reader.specs.declared.fault.ScriptFault.{ScriptFault}
use Rattle.script_reader.specs.declared.fault.ScriptCause.TheVariants.{NoMemory}
use Rattle.script_reader.specs.Script.{ScriptMeans, Refuses, text_lines}
use Rattle.script_reader.specs.Laws.{HasOnePlan, HasPlanOrFault}
use Rattle.arranged_scripts.specs.Arranged.{with_line_end, MovesBlocks, HasOtherBlocks, IsUnfit, IsArranged, IsNotArranged, IsNoScript, ArrangedTextsHaveShortChains}

-- the jobs of the order are fewer than its length
pub within : (plan : LabPlan) (colours order : List ℕ) (count : ℕ) → IsColouring plan colours count → order ≡ in_order colours count
    → All (λ job. job < length order) order
within plan colours order count is by =
    let size = length_permutation (jobs_by_number colours) (in_order colours count) (orders_keep_jobs colours count is.few) in
    let all = length-range_with_len 0 (length colours) in
    subst (λ (l : List ℕ). All (λ job. job < length l) l) (sym by)
    (λ k d below. omega (arith, of_plan plan colours count is k d below, size, all, is.one_each))

pub arranged_as : (plan other : LabPlan) (made : ColouringView) (input whole order text sent : List ℕ) → IsColouring plan made.colours made.count
    → IsGreedy plan made.colours → whole ≡ with_line_end input → order ≡ in_order made.colours made.count → MovesBlocks whole order text → length text ≤ 16777216 → sent ≡ text
    → ScriptMeans sent other → IsArrangement plan made other → IsArranged plan input text
arranged_as plan other made input whole order text sent is greedy ended by moved short same means judged = record {
  made = made;
  is_colouring = is;
  is_greedy = greedy;
  moved = subst (λ (l : List ℕ). MovesBlocks l (in_order made.colours made.count) text) ended (subst (λ (l : List ℕ). MovesBlocks whole l text) by moved);
  short = short;
  arranged = other;
  read_back = subst (λ (l : List ℕ). ScriptMeans l other) same means;
  is_arrangement = judged;
}

-- a fault that isn't want of memory
pub no_script : HasPlanOrFault → (text : List ℕ) (fault : ScriptFault) → Refuses (text_lines text) fault → fault.cause ≢ NoMemory → IsNoScript text
no_script either text fault (inl short) other plan means = other short.0
no_script either text fault (inr faults) other plan means = either text plan fault.line fault.cause means faults

-- nothing is made of a script: its blocks are others, or they make an unfit text
pub other_blocks : (plan : LabPlan) (made : ColouringView) (input whole order : List ℕ) → IsColouring plan made.colours made.count → IsGreedy plan made.colours
    → whole ≡ with_line_end input → order ≡ in_order made.colours made.count → HasOtherBlocks whole (length order) → IsNotArranged plan input
other_blocks plan made input whole order is greedy ended by others =
    let size = length_permutation (jobs_by_number made.colours) (in_order made.colours made.count) (orders_keep_jobs made.colours made.count is.few) in
    let long : length order ≡ length plan.jobs = ap (λ (l : List ℕ). length l) by ∙ size ∙ length-range_with_len 0 (length made.colours) ∙ is.one_each in record {
      made = made;
      is_colouring = is;
      is_greedy = greedy;
      why = inl (subst (λ (l : List ℕ). HasOtherBlocks l (length plan.jobs)) ended (subst (λ (n : ℕ). HasOtherBlocks whole n) long others));
    }

pub unfit : (plan : LabPlan) (made : ColouringView) (input whole order text : List ℕ) → IsColouring plan made.colours made.count → IsGreedy plan made.colours
    → whole ≡ with_line_end input → order ≡ in_order made.colours made.count → MovesBlocks whole order text → IsUnfit plan made text → IsNotArranged plan input
unfit plan made input whole order text is greedy ended by moved why = record {
  made = made;
  is_colouring = is;
  is_greedy = greedy;
  why = inr (
    text,
    subst (λ (l : List ℕ). MovesBlocks l (in_order made.colours made.count) text) ended (subst (λ (l : List ℕ). MovesBlocks whole l text) by moved),
    why,
  );
}

-- what was read is judged, and a text has one plan
pub judged : HasOnePlan → (plan other : LabPlan) (made : ColouringView) (text sent : List ℕ) → sent ≡ text → ScriptMeans sent other
    → (IsArrangement plan made other → ⊥) → IsUnfit plan made text
judged one_plan plan other made text sent same means refused = inr (λ read reads is.
    refused (subst (λ (p : LabPlan). IsArrangement plan made p) (one_plan text read other reads (subst (λ (l : List ℕ). ScriptMeans l other) same means)) is))

pub unread : (plan : LabPlan) (made : ColouringView) (text sent : List ℕ) → sent ≡ text → IsNoScript sent → IsUnfit plan made text
unread plan made text sent same none = inr (λ read reads is. none read (subst (λ (l : List ℕ). ScriptMeans l read) (sym same) reads))

pub short_chains : HasOnePlan → ArrangedChainsAreShort → ArrangedTextsHaveShortChains
short_chains one_plan short plan input text is read means jobs chain =
    let same : read ≡ is.arranged = one_plan text read is.arranged means is.read_back in
    short plan is.made is.arranged is.is_arrangement jobs (subst (λ (p : LabPlan). IsChain p (the_opening p) jobs) same chain)
