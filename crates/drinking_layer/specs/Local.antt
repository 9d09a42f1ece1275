-- Which bottles are given and asked for, by the edge as it was seen from the job's own end, its phase and the bottles that it needs.
use Rattle.std.specs.Prelude.{ℕ, Bool, true, false, ◌||◌, bit_xor, bit_and, if◌then◌else◌}
use Rattle.legal_steps.specs.declared.end.End.TheVariants.{Higher}
use Rattle.legal_steps.specs.declared.phase.Drinking.{Drinking}
use Rattle.legal_steps.specs.declared.phase.Drinking.TheVariants.{Thirsty, Drinking as Drinks, Reaching}
use Rattle.legal_steps.specs.declared.phase.JobState.{JobState}
use Rattle.legal_steps.specs.declared.edge_state.EdgeState.{EdgeState}
use Rattle.legal_steps.specs.State.{without}
use Rattle.legal_steps.specs.Legal.{is_at, fork_given}
use Rattle.edge_word.specs.declared.moves.EdgeMoves.{EdgeMoves}
use Rattle.edge_word.specs.Moves.{when}

abbrev pub is_thirsty : Drinking → Bool
is_thirsty Thirsty = true
is_thirsty _ = false

abbrev pub has_instruments : Drinking → Bool
has_instruments Drinks = true
has_instruments Reaching = true
has_instruments _ = false

-- the bottles that are kept; given says whether the fork is sent away just before
abbrev pub kept : JobState → ℕ → EdgeState → Bool → ℕ
kept phase needed x given = if has_instruments phase.drinking || is_at Higher (when given fork_given x).fork then needed else 0

abbrev pub gifts : JobState → ℕ → EdgeState → Bool → ℕ
gifts phase needed x given = without (bit_and x.bottles x.bottle_tokens) (kept phase needed x given)

abbrev pub wishes : JobState → ℕ → EdgeState → ℕ → ℕ
wishes phase needed x sent = if is_thirsty phase.drinking then without (bit_and needed x.bottle_tokens) (bit_xor x.bottles sent) else 0

-- the moves with the bottles that are given and asked for
abbrev pub with_sets : JobState → ℕ → EdgeState → EdgeMoves → EdgeMoves
with_sets phase needed x m =
    record m {
      give_bottles = gifts phase needed x m.give_fork;
      ask_bottles = wishes phase needed x (gifts phase needed x m.give_fork);
    }
