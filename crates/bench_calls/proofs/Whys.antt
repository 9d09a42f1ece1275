-- Why there is no script for a text is why no lab is opened for it.
use Rattle.std.proofs.Common.{ℕ, List, refl, ap}
use Rattle.lab_program.specs.declared.faults.RunFault.TheVariants.{Script, NoMemory}
use Rattle.bench_texts.specs.declared.script.NotScript.{NotScript}
use Rattle.bench_texts.specs.declared.script.NotScript.TheVariants as texts
use Rattle.bench_texts.specs.Texts.{IsWhyNoScript}
use Rattle.bench_calls.specs.Openings.{IsWhyNotFor, fault_of}

pub why_not : (text : List ℕ) (why : NotScript) → IsWhyNoScript text why → IsWhyNotFor text (fault_of why)
why_not text texts.NoMemory none = (NoMemory, tt, refl)
why_not text (texts.Fault fault) refused = (Script refused.0, refused.1, ap Script refused.2)
