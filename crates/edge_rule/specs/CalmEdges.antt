-- Which edges a desk has noted as calm, and what that rests on.
use Rattle.std.specs.Prelude.{◌≡◌, ◌≢◌, ℕ, false, List, [], ◌∷◌, length, slice_index_or, slice_set}
use Rattle.lab_plan.specs.LabPlan.{LabPlan, edges}
use Rattle.legal_steps.specs.declared.edge_state.EdgeState.{EdgeState}
use Rattle.legal_steps.specs.declared.event.Event.TheVariants.{Look}
use Rattle.legal_steps.specs.State.{State, IsOwn, edge, dining, fork_mark, bottle_marks, end_of, bottles_at}
use Rattle.legal_steps.specs.Legal.{fork_mark_seen}
use Rattle.edge_word.specs.Words.{word_of}
use Rattle.turns.specs.Due.{IsCalm}
use Rattle.edge_rule.specs.DeskView.{DeskView, Adds}

-- No move on the edge is legal, and the marks are those that a look at the word last seen sets. So a look that sees it again changes nothing, and nothing is
-- due
pub record IsStill (plan : LabPlan) (s : State) (j e : ℕ) : Type 0 where
  pub calm : IsCalm plan s j e
  pub fork : fork_mark s j e ≡ fork_mark_seen (dining s j) (end_of plan j e) (edge s e)
  pub bottles : bottle_marks s j e ≡ bottles_at plan e (end_of plan j e) (edge s e)

-- what stands where no word is noted: no edge has this word
abbrev pub no_word : ℕ
no_word = 18446744073709551615

-- each edge that has a note is so, and what is noted is its word. Other edges than the job's own have no note and no fork mark
pub record AreStill (plan : LabPlan) (s : State) (j : ℕ) (noted : List ℕ) : Type 0 where
  pub wide : length noted ≡ length (edges plan)
  pub each : (e : ℕ) → slice_index_or noted e no_word ≢ no_word → (slice_index_or noted e no_word ≡ word_of (edge s e)) × IsStill plan s j e
  pub unnoted : (e : ℕ) → ¬ IsOwn plan j e → slice_index_or noted e no_word ≡ no_word
  pub unmarked : (e : ℕ) → ¬ IsOwn plan j e → fork_mark s j e ≡ false

-- the list with x at each of these places
abbrev pub written_at : {X : Type 0} → List ℕ → X → List X → List X
written_at [] x l = l
written_at (k ∷ ks) x l = written_at ks x (slice_set l k x)

-- the last thing that the job did was a look at the edge
pub record HasJustLooked (d : DeskView) (e : ℕ) : Type 0 where
  pub before : DeskView
  pub seen : EdgeState
  pub look : Adds before (Look before.job e seen ∷ []) d
