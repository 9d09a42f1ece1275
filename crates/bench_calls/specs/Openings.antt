-- For readers: how a lab is opened for a text, which is a script or stands for one.
use Rattle.std.specs.Prelude.{◌≡◌, ℕ, zero, suc, Bool, List, length, Option, slice_index}
use Rattle.script_reader.specs.Script.{ScriptMeans}
use Rattle.lab_program.specs.declared.faults.RunFault.{RunFault}
use Rattle.lab_program.specs.declared.faults.RunFault.TheVariants.{Script, NoMemory}
use Rattle.session_layer.specs.declared.turning.Turned.{Turned}
use Rattle.live_lab.specs.Labs.{LabView, fresh_lab, IsWhyNot}
use Rattle.live_lab.specs.Calls.{AtJob, TakesTurn, Withdraws}
use Rattle.bench_texts.specs.declared.script.NotScript.{NotScript}
use Rattle.bench_texts.specs.declared.script.NotScript.TheVariants as texts
use Rattle.bench_texts.specs.Texts.{lab_text, users, at_origin}

-- before its first event
abbrev pub IsFresh : LabView → Type 0
IsFresh l = l ≡ fresh_lab l.world.plan

-- ---- the first sessions of a text for a bench

-- the job took one turn, and what it waits for then was given up
abbrev pub GivesUpNext : ℕ → LabView → LabView → Type 0
GivesUpNext job a b = (m : LabView) × (turned : Option Turned) × (did : Option Bool) × AtJob TakesTurn job a turned m × AtJob Withdraws job m did b

-- the first so many of these jobs did so, in order, and nothing else was done
abbrev pub GiveUpNext : List ℕ → ℕ → LabView → LabView → Type 0
GiveUpNext jobs zero a b = b ≡ a
GiveUpNext jobs (suc k) a b = (m : LabView) × GiveUpNext jobs k a m × GivesUpNext (slice_index jobs k) m b

-- each job with a line `uses` gave up the session that this line stands for; a script has no such line
abbrev pub GivesUpFirst : List ℕ → LabView → LabView → Type 0
GivesUpFirst text a b = GiveUpNext (users text) (length (users text)) a b

-- ---- the opening

-- a lab of the plan that the text's script means: this held of it, and then the first sessions were given up
abbrev pub IsOpenedFor : (LabView → Type 0) → List ℕ → LabView → Type 0
IsOpenedFor Is text l = (o : LabView) × ScriptMeans (lab_text text) o.world.plan × Is o × GivesUpFirst text o l

-- the fault of the script, at the line of the text from which it came
abbrev pub from_script : List ℕ → RunFault → RunFault
from_script text (Script fault) = Script (at_origin text fault)
from_script text fault = fault

-- why no lab was opened: for the same reason as for the script that the text stands for
abbrev pub IsWhyNotFor : List ℕ → RunFault → Type 0
IsWhyNotFor text fault = (why : RunFault) × IsWhyNot (lab_text text) why × (fault ≡ from_script text why)

-- why there is no script, as the fault of an opening
abbrev pub fault_of : NotScript → RunFault
fault_of texts.NoMemory = NoMemory
fault_of (texts.Fault fault) = Script fault
