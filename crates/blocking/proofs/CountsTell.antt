-- What is counted of all rounds, after one more.
use Rattle.std.proofs.Common.{◌≡◌, ◌<◌, ◌≤◌, ℕ, List, [], ◌∷◌, ◌++◌, length, map, replicate, refl, sym, ap, ◌∙◌, subst, arith}
use Rattle.std.specs.List.{All, AllZip, flat_map}
use Rattle.std.proofs.lemmas.List.Elements.{All-weaker, All-same}
use Rattle.std.proofs.lemmas.List.{length-replicate, get_or-replicate}
use Rattle.lab_plan.specs.LabPlan.{LabPlan}
use Rattle.lab_plan.specs.InstrumentSets.{holds}
use Rattle.lab_plan.proofs.Bits.{holds_none}
use Rattle.legal_steps.specs.declared.event.Event.{Event}
use Rattle.legal_steps.specs.declared.phase.JobState.{JobState}
use Rattle.legal_steps.specs.State.{neighbour}
use Rattle.edge_rule.specs.DeskView.{DeskView}
use Rattle.rounds.specs.Company.{first_front}
use Rattle.block_lines.specs.declared.block.Block.{Block}
use Rattle.waiting.specs.Rounds.{joined}
use Rattle.waiting.specs.Holding.{holds_in}
use Rattle.waiting.specs.Watching.{OneMore}
use Rattle.waiting.proofs.Stands.{length_more}
use Rattle.waiting.proofs.LogsTell.{idle_first}
use Rattle.blocking.specs.declared.places.Place.{Place}
use Rattle.blocking.specs.Blocks.{block_of, places}
use Rattle.blocking.specs.Watching.{AreHeld, IsPlace, block_then, blocks_then}
use Rattle.blocking.specs.Owing.{SideView, side_places, all_settled, fresh_sides, FitsSide, SideThen, CountsTell}
use Rattle.blocking.proofs.Placing.{all_places, neighbour_inside}
use Rattle.blocking.proofs.Counts.{all_blocks}
use Rattle.blocking.proofs.Owing.{fresh_counts, fresh_places, all_fresh_fit, all_fit, all_stay, all_counts}
use Rattle.blocking.proofs.Histories.{same_before}

-- before the first round no job holds any instrument
pub none_held : (plan : LabPlan) (n : ℕ) → n ≡ length plan.jobs → (sets : List ℕ) → sets ≡ replicate n 0 → AreHeld plan [] sets
none_held plan n n_is sets is = subst (AreHeld plan []) (sym (is ∙ ap (λ m. replicate m 0) n_is)) (record {
  many = length-replicate (length plan.jobs) 0;
  each = λ j inside i. ap (λ set. holds set i) (get_or-replicate (length plan.jobs) j 0 0 inside)
      ∙ (holds_none i ∙ sym (ap (λ (p : JobState). holds_in plan j p i) (idle_first plan j)));
})

pub tell_none : (plan : LabPlan) (n : ℕ) → n ≡ length plan.jobs → (before after : List ℕ) → before ≡ replicate n 0 → after ≡ replicate n 0
    → (sides : List SideView) → sides ≡ fresh_sides plan → CountsTell plan before after sides []
tell_none plan n n_is before after b_is a_is sides is = record {
  many_before = ap length b_is ∙ (length-replicate n 0 ∙ n_is);
  held = none_held plan n n_is after a_is;
  fit = All-same (FitsSide plan) sides (fresh_sides plan) is (all_fresh_fit plan);
  at_places = ap (flat_map (side_places plan)) is ∙ fresh_places plan;
  counts = ap (all_settled plan) is ∙ fresh_counts plan;
}

module _ (plan : LabPlan) (rounds : List (List Event)) (e : List Event) (round : ℕ) (desks : List DeskView) (m : OneMore plan rounds e round desks)
    (small : round ≤ 4294967295) (before after : List ℕ) (held_before : AreHeld plan (joined rounds) before)
    (held_after : AreHeld plan (first_front desks) after) where
  abbrev h : List Event
  h = first_front desks

  pub held_now : AreHeld plan (joined (rounds ++ e ∷ [])) after
  held_now = subst (λ z. AreHeld plan z after) m.front held_after

  blocks_more : (blocks : List Block) → blocks ≡ map (block_of plan rounds) (places plan)
      → blocks_then plan h before after (places plan) blocks ≡ map (block_of plan (rounds ++ e ∷ [])) (places plan)
  blocks_more blocks is =
      let inside = All-weaker (IsPlace plan) (λ (x : Place). neighbour plan x.job x.edge < length plan.jobs) (neighbour_inside plan) (places plan) (all_places plan) in
      let few : length rounds < 4294967295 = let n = m.number in omega (arith, n, small) in
      (λ i. blocks_then plan (m.front i) before after (places plan) (is i))
      ∙ all_blocks plan rounds (rounds ++ e ∷ []) (length rounds) refl (length_more rounds e) (same_before rounds e) few before after held_before held_now
      (places plan) inside

  pub tell_more : (old new : List SideView) → All (FitsSide plan) old → flat_map (side_places plan) old ≡ places plan
      → all_settled plan old ≡ map (block_of plan rounds) (places plan) → AllZip (SideThen plan (block_then plan h before after)) old new
      → length before ≡ length plan.jobs → CountsTell plan before after new (rounds ++ e ∷ [])
  tell_more old new fit at_places counts zip many =
      let change : Place → Block → Block = block_then plan h before after in record {
        many_before = many;
        held = held_now;
        fit = all_fit plan change old new fit zip;
        at_places = all_stay plan change old new zip ∙ at_places;
        counts = all_counts plan change (places plan) (all_settled plan old) old new fit zip at_places refl ∙ blocks_more (all_settled plan old) counts;
      }
