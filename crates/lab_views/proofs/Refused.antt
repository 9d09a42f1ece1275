-- An input that is no report.
use Rattle.std.proofs.Common.{◌≡◌, ◌⊎◌, ℕ, List, [], ◌∷◌, ◌++◌, Option, Err, inl, inr, sym, ◌∙◌}
use Rattle.std.proofs.KnownBytes.{Keeps-refl}
use Rattle.report_reader.specs.declared.fault.ReportCause.{ReportCause}
use Rattle.report_reader.specs.declared.fault.ReportCause.TheVariants.{UnknownLine, OutOfPlace, OtherVersion, WrongEnd, NotWhole, NoMemory}
use Rattle.report_reader.specs.declared.fault.ReportFault.{ReportFault}
use Rattle.report_reader.specs.Report.{text_lines}
use Rattle.report_reader.specs.Reading.{Refuses, Answers}
use Rattle.timeline.specs.declared.fault.TimelineFault.{TimelineFault}
use Rattle.lab_views.specs.ReportViews.{IsNoReport, ReportAnswersFor}
use Rattle.lab_views.specs.Pictures.{for_report}

no_report : (input : List ℕ) (fault : ReportFault) → ¬ (fault.cause ≡ NoMemory)
    → (fault.cause ≡ NoMemory) ⊎ ((parts : List (List ℕ)) × (tail : List ℕ) × (text_lines input ≡ parts ++ tail ∷ []) × Refuses parts tail fault)
    → IsNoReport input fault
no_report input fault not (inl is) = absurd (not is)
no_report input fault not (inr r) = record { parts = r.0; tail = r.1; lines = r.2; refused = r.3 }

pub refused_for : (Writes : List ℕ → List ℕ → Type 0) (Lacks : List ℕ → TimelineFault → Type 0)
    (input : List ℕ) (old : Option (List ℕ)) (fault : ReportFault) (cause : ReportCause) → fault.cause ≡ cause → Answers input (Err fault)
    → ReportAnswersFor Writes Lacks input old old (Err (for_report cause fault))
refused_for W L input old fault UnknownLine is a = (no_report input fault (λ e. let bad : UnknownLine ≡ NoMemory = sym is ∙ e in cc) a, Keeps-refl old)
refused_for W L input old fault OutOfPlace is a = (no_report input fault (λ e. let bad : OutOfPlace ≡ NoMemory = sym is ∙ e in cc) a, Keeps-refl old)
refused_for W L input old fault OtherVersion is a = (no_report input fault (λ e. let bad : OtherVersion ≡ NoMemory = sym is ∙ e in cc) a, Keeps-refl old)
refused_for W L input old fault WrongEnd is a = (no_report input fault (λ e. let bad : WrongEnd ≡ NoMemory = sym is ∙ e in cc) a, Keeps-refl old)
refused_for W L input old fault NotWhole is a = (no_report input fault (λ e. let bad : NotWhole ≡ NoMemory = sym is ∙ e in cc) a, Keeps-refl old)
refused_for W L input old fault NoMemory is a = Keeps-refl old
