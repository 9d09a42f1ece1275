-- From what a run answers for a source and a sink to what a call answers for a script and a room.
use Rattle.std.proofs.Common.{◌≡◌, ℕ, ◌+◌, List, [], Option, Some, Result, Ok, Err, arith, sym, subst}
use Rattle.lab_program.specs.declared.faults.RunFault.{RunFault}
use Rattle.lab_program.specs.declared.faults.RunFault.TheVariants.{Script, Step, Read, TooLong, Write, NoMemory}
use Rattle.lab_program.specs.declared.faults.Outcome.{Outcome}
use Rattle.lab_program.specs.Faults.{failed_reads}
use Rattle.lab_program.specs.Answers.{AnswersTo}
use Rattle.c_tells.specs.declared.told.Told.{Told}
use Rattle.bench_c.specs.Runs.{Tells, Answers}

called : (Writes : List ℕ → List ℕ → Outcome → Type 0) (Refuses : List ℕ → RunFault → Type 0)
    (script text old new : List ℕ) (told : Told) (status : ℕ) (answer : Result Outcome RunFault)
    → AnswersTo Writes Refuses (Some script) (Some []) (Some text) answer → 0 ≡ failed_reads answer
    → Tells answer text old new told status → Answers Writes Refuses script old new told status
called W R script text old new told status (Ok outcome) a n t =
    let (input, is, sent) = a in
    let (out, wrote, whole) = sent in
    (Ok outcome, (text, subst (λ s. W s text outcome) is.whole (subst (λ x. W input x outcome) (sym whole) wrote), t))
called W R script text old new told status (Err (Script fault)) a n t =
    let (input, is, refused) = a in
    (Err (Script fault), (subst (λ s. R s (Script fault)) is.whole refused.0, t))
called W R script text old new told status (Err (Step line)) a n t =
    let (input, is, refused) = a in
    (Err (Step line), (subst (λ s. R s (Step line)) is.whole refused.0, t))
called W R script text old new told status (Err Read) a n t = absurd (omega (arith, n))
called W R script text old new told status (Err TooLong) a n t = (Err TooLong, (a.0, t))
called W R script text old new told status (Err Write) a n t = (Err NoMemory, t)
called W R script text old new told status (Err NoMemory) a n t = (Err NoMemory, t)

pub answered : (Writes : List ℕ → List ℕ → Outcome → Type 0) (Refuses : List ℕ → RunFault → Type 0)
    (script text old new : List ℕ) (told : Told) (status : ℕ) (answer : Result Outcome RunFault) (left empty taken : Option (List ℕ))
    → left ≡ Some script → empty ≡ Some [] → taken ≡ Some text → AnswersTo Writes Refuses left empty taken answer → 0 ≡ 0 + failed_reads answer
    → Tells answer text old new told status → Answers Writes Refuses script old new told status
answered W R script text old new told status answer left empty taken is_left is_empty is_taken a n t =
    called W R script text old new told status answer
    (subst (λ x. AnswersTo W R (Some script) (Some []) x answer) is_taken
    (subst (λ x. AnswersTo W R (Some script) x taken answer) is_empty
    (subst (λ x. AnswersTo W R x empty taken answer) is_left a)))
    (omega (arith, n)) t
