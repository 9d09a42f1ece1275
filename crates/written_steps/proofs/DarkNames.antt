-- The names of a plan have bytes, and none of them is a space or ends a line.
use Rattle.std.proofs.Common.{◌≡◌, ℕ, zero, suc, ◌+◌, ◌<◌, ◌≤◌, true, List, [], length, map, arith, ⊎_elim}
use Rattle.std.specs.Prelude.{◌==◌}
use Rattle.std.specs.List.{AllByRecursion}
use Rattle.std.specs.Int.{bit_at}
use Rattle.std.proofs.lemmas.Bool.{cases_Bool}
use Rattle.lab_plan.specs.LabPlan.{LabPlan, no_job, bottles}
use Rattle.lab_plan.specs.IsPlan.{IsPlan}
use Rattle.lab_plan.specs.Names.{is_name}
use Rattle.lab_plan.specs.Texts.{job_name}
use Rattle.legal_steps.specs.State.{IsOwn, neighbour}
use Rattle.legal_steps.specs.Legal.{IsJob, instrument_of}
use Rattle.script_reader.proofs.UpgradeForms.{name_parts}
use Rattle.script_reader.proofs.OfInstruments.{bottle_inside}
use Rattle.step_texts.specs.Names.{other_name, bottle_name}
use Rattle.written_steps.proofs.NamesBack.{other_is_job}
use Rattle.written_steps.proofs.SetsBack.{members, member_names}
use Rattle.written_steps.proofs.WrittenLines.{IsDark}

dark : (name : List ℕ) → is_name name ≡ true → IsDark name
dark name h = let parts = name_parts name h in (parts.some, parts.dark)

pub dark_job : (plan : LabPlan) (j : ℕ) → IsPlan plan → IsJob plan j → IsDark (job_name plan j)
dark_job plan j is job = dark (job_name plan j) (is.draft.job_names j no_job job)

pub dark_other : (plan : LabPlan) (j e : ℕ) → IsPlan plan → IsOwn plan j e → IsDark (other_name plan j e)
dark_other plan j e is own = dark_job plan (neighbour plan j e) is (other_is_job plan j e own)

dark_bottle : (plan : LabPlan) (e k : ℕ) → IsPlan plan → k < length (bottles plan e) → IsDark (bottle_name plan e k)
dark_bottle plan e k is inside = dark (bottle_name plan e k) (is.draft.instrument_names (instrument_of plan e k) [] (bottle_inside plan e k inside))

dark_from : (plan : LabPlan) (e set k n : ℕ) → IsPlan plan → k + n ≤ length (bottles plan e) → AllByRecursion IsDark (map (bottle_name plan e) (members set k n))
dark_from plan e set k zero is h = tt
dark_from plan e set k (suc n) is h =
    let more = dark_from plan e set (k + 1) n is (omega (arith, h)) in
    ⊎_elim (λ t. rw t (dark_bottle plan e k is (omega (arith, h)), more)) (λ t. rw t more) (cases_Bool (bit_at set k == 1))

pub dark_members : (plan : LabPlan) (e set : ℕ) → IsPlan plan → AllByRecursion IsDark (member_names plan e set)
dark_members plan e set is = dark_from plan e set 0 (length (bottles plan e)) is (omega arith)
