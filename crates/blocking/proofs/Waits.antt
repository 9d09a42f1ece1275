-- What rounds add to counts, by how a job waits in them.
use Rattle.std.proofs.Common.{◌≡◌, ℕ, ◌+◌, ◌==◌, Bool, true, false, ◌&&◌, List, min, refl, sym, ap, ◌∙◌, arith}
use Rattle.std.specs.Int.{bit_at}
use Rattle.std.specs.List.{All}
use Rattle.std.proofs.lemmas.Nat.Bits.{bit_at-zero}
use Rattle.lab_plan.specs.LabPlan.{LabPlan, bottles}
use Rattle.lab_plan.specs.InstrumentSets.{holds}
use Rattle.legal_steps.specs.declared.event.Event.{Event}
use Rattle.legal_steps.specs.Legal.{instrument_of}
use Rattle.rounds.specs.Rounds.{known_in}
use Rattle.block_lines.specs.declared.block.Block.{Block}
use Rattle.blocking.specs.declared.counted.Wait.{Wait}
use Rattle.blocking.specs.declared.places.Place.{Place}
use Rattle.blocking.specs.Waiting.{waits_at}
use Rattle.blocking.specs.Blocks.{place, places_on}
use Rattle.blocking.specs.Watching.{held_across, holds_then, counted_if, waited_then, rounds_then, block_then, AreWaitedFor, IsWait}
use Rattle.blocking.proofs.Placing.{all_on}

module _ (plan : LabPlan) (w : Wait) (n j e k : ℕ) where
  -- the job doesn't wait for this bottle
  pub unmoved : bit_at w.bottles k ≡ 0 → (b : Block) → rounds_then plan w n (place j e k) b ≡ b
  unmoved off b = λ i. record b {
    rounds = counted_if (off i == 1) n b.rounds;
    held = counted_if (off i == 1 && holds w.held (instrument_of plan e k)) n b.held;
  }

  -- it waits for it
  pub raised : bit_at w.bottles k ≡ 1 → (b : Block) → waited_then n w.held (instrument_of plan e k) b ≡ rounds_then plan w n (place j e k) b
  raised on b = sym (λ i. record b {
    rounds = counted_if (on i == 1) n b.rounds;
    held = counted_if (on i == 1 && holds w.held (instrument_of plan e k)) n b.held;
  })

-- ---- so many rounds and one more

more_if : (b : Bool) (n count : ℕ) → counted_if b (min (n + 1) 4294967295) count ≡ counted_if b 1 (counted_if b n count)
more_if true n count = omega arith
more_if false n count = refl

pub one_more : (plan : LabPlan) (w : Wait) (n : ℕ) (x : Place) (b : Block)
    → rounds_then plan w (min (n + 1) 4294967295) x b ≡ rounds_then plan w 1 x (rounds_then plan w n x b)
one_more plan w n x b = λ i. record b {
  rounds = more_if (bit_at w.bottles x.bottle == 1) n b.rounds i;
  held = more_if (bit_at w.bottles x.bottle == 1 && holds w.held (instrument_of plan x.edge x.bottle)) n b.held i;
}

-- ---- how a job waits in a round

module _ (plan : LabPlan) (h : List Event) (before after : List ℕ) (j e : ℕ) where
  abbrev waits : ℕ → Bool
  waits k = waits_at plan (known_in plan h j) (place j e k)

  -- by the bottles for which it waits, and what its neighbour holds
  is_wait : (w : Wait) (k : ℕ) → (bit_at w.bottles k == 1) ≡ waits k
      → (bit_at w.bottles k == 1 && holds w.held (instrument_of plan e k)) ≡ (waits k && holds_then plan before after (place j e k))
      → (b : Block) → rounds_then plan w 1 (place j e k) b ≡ block_then plan h before after (place j e k) b
  is_wait w k waits_is held_is b = λ i. record b { rounds = counted_if (waits_is i) 1 b.rounds; held = counted_if (held_is i) 1 b.held }

  pub waits_for_some : (bottles held : ℕ) → AreWaitedFor plan (known_in plan h j) j e bottles → held ≡ held_across plan before after j e
      → IsWait plan h before after j e (record { bottles = bottles; held = held })
  waits_for_some bottles held are held_is k inside =
      is_wait (record { bottles = bottles; held = held }) k (are k inside) (λ i. are k inside i && holds (held_is i) (instrument_of plan e k))

  pub waits_for_none : (bottles : ℕ) → AreWaitedFor plan (known_in plan h j) j e bottles → bottles ≡ 0
      → IsWait plan h before after j e (record { bottles = 0; held = 0 })
  waits_for_none bottles are none k inside =
      let off : (bit_at 0 k == 1) ≡ false = ap (λ n. n == 1) (bit_at-zero k) in
      let here : (bit_at 0 k == 1) ≡ waits k = ap (λ n. bit_at n k == 1) (sym none) ∙ are k inside in
      is_wait (record { bottles = 0; held = 0 }) k here
      (ap (λ (b : Bool). b && holds 0 (instrument_of plan e k)) off
      ∙ ap (λ (b : Bool). b && holds_then plan before after (place j e k)) (sym off ∙ here))

  -- at each bottle of the edge
  pub at_all : (w : Wait) → IsWait plan h before after j e w
      → All (λ (x : Place). (b : Block) → rounds_then plan w 1 x b ≡ block_then plan h before after x b) (places_on plan j e)
  at_all w is = all_on plan j e (λ (x : Place). (b : Block) → rounds_then plan w 1 x b ≡ block_then plan h before after x b) is
