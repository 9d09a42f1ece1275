-- For readers: how a job and its edges are, in words. "Here" is the job's own end of an edge.
use Rattle.std.specs.Prelude.{ℕ, Bool, List, ◌++◌, ◌==◌, length, codes, decimal, if◌then◌else◌}
use Rattle.std.specs.List.{flat_map, range_with_len}
use Rattle.std.specs.Int.{bit_at}
use Rattle.lab_plan.specs.LabPlan.{LabPlan, sessions, edges_of, bottles}
use Rattle.lab_plan.specs.Texts.{job_name}
use Rattle.legal_steps.specs.declared.end.End.{End}
use Rattle.legal_steps.specs.declared.end.End.TheVariants.{Lower, Higher}
use Rattle.legal_steps.specs.declared.phase.Dining.{Dining}
use Rattle.legal_steps.specs.declared.phase.Dining.TheVariants.{Thinking, Hungry, Eating}
use Rattle.legal_steps.specs.declared.phase.Drinking.{Drinking}
use Rattle.legal_steps.specs.declared.phase.Drinking.TheVariants.{Tranquil, Thirsty, Drinking as Drinks, Reaching, Retired}
use Rattle.legal_steps.specs.declared.phase.JobState.{JobState}
use Rattle.legal_steps.specs.State.{State, edge, fork, is_dirty, token, phase, session, position, fork_mark, bottle_marks, bottle_end, end_of}
use Rattle.step_texts.specs.Names.{other_name, bottle_name}

abbrev pub dining_text : Dining → List ℕ
dining_text Thinking = codes "thinking"
dining_text Hungry = codes "hungry"
dining_text Eating = codes "eating"

abbrev pub drinking_text : Drinking → List ℕ
drinking_text Tranquil = codes "in no session"
drinking_text Thirsty = codes "thirsty"
drinking_text Drinks = codes "drinking"
drinking_text Reaching = codes "reaching"
drinking_text Retired = codes "retired"

-- where a thing at an end is
abbrev pub at_text : End → End → List ℕ
at_text Lower Lower = codes "here"
at_text Higher Higher = codes "here"
at_text Lower Higher = codes "there"
at_text Higher Lower = codes "there"

abbrev pub mark_text : Bool → List ℕ
mark_text is_marked = if is_marked then codes "marked" else codes "not marked"

abbrev pub dirt_text : Bool → List ℕ
dirt_text is_dirty = if is_dirty then codes "dirty, " else codes "clean, "

-- what it does: `DINING, DRINKING`
unfoldable pub doing_text : JobState → List ℕ
doing_text phase = dining_text phase.dining ++ codes ", " ++ drinking_text phase.drinking

-- how far it is: `, session S of N`, and `, commands done: P`
unfoldable pub session_text : ℕ → ℕ → List ℕ
session_text session total = codes ", session " ++ decimal session ++ codes " of " ++ decimal total

unfoldable pub done_text : ℕ → List ℕ
done_text position = codes ", commands done: " ++ decimal position ++ codes "\n"

-- `JOB: DINING, DRINKING, session S of N, commands done: P`
unfoldable pub phase_line : LabPlan → State → ℕ → List ℕ
phase_line plan s j = job_name plan j ++ codes ": " ++ doing_text (phase s j) ++ session_text (session s j) (length (sessions plan j))
    ++ done_text (position s j)

-- where a thing and its request token are, and whether the job has a mark for it: `PLACE, token PLACE, MARK`
unfoldable pub places_text : End → End → End → List ℕ
places_text here thing token = at_text here thing ++ codes ", token " ++ at_text here token

unfoldable pub marks_text : Bool → List ℕ
marks_text is_marked = codes ", " ++ mark_text is_marked ++ codes "\n"

-- `  fork with JOB: DIRT, PLACE, token PLACE, MARK`
abbrev pub fork_head : LabPlan → ℕ → ℕ → List ℕ
fork_head plan j e = codes "  fork with " ++ other_name plan j e ++ codes ": "

unfoldable pub fork_line : LabPlan → State → ℕ → ℕ → List ℕ
fork_line plan s j e = fork_head plan j e ++ dirt_text (is_dirty s e) ++ places_text (end_of plan j e) (fork s e) (token s e) ++ marks_text (fork_mark s j e)

-- `  bottle of INSTRUMENT with JOB: PLACE, token PLACE, MARK`
abbrev pub bottle_head : LabPlan → ℕ → ℕ → ℕ → List ℕ
bottle_head plan j e k = codes "  bottle of " ++ bottle_name plan e k ++ codes " with " ++ other_name plan j e ++ codes ": "

unfoldable pub bottle_line : LabPlan → State → ℕ → ℕ → ℕ → List ℕ
bottle_line plan s j e k =
    bottle_head plan j e k ++ places_text (end_of plan j e) (bottle_end (edge s e).bottles k) (bottle_end (edge s e).bottle_tokens k)
    ++ marks_text (bit_at (bottle_marks s j e) k == 1)

-- an edge: its fork and its bottles
unfoldable pub edge_text : LabPlan → State → ℕ → ℕ → List ℕ
edge_text plan s j e = fork_line plan s j e ++ flat_map (bottle_line plan s j e) (range_with_len 0 (length (bottles plan e)))

-- a job: how far it is, and each of its edges
unfoldable pub job_text : LabPlan → State → ℕ → List ℕ
job_text plan s j = phase_line plan s j ++ flat_map (edge_text plan s j) (edges_of plan j)
