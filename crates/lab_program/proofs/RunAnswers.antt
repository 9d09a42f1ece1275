-- From what is answered for an input to what is answered for a source, and what a fault that is returned says.
use Rattle.std.proofs.Common.{◌≡◌, ℕ, ◌+◌, ◌≤◌, List, Option, Result, Ok, Err, length, refl, sym, ap, ◌∙◌, subst}
use Rattle.std.specs.Prelude.{IfSome}
use Rattle.std.specs.Result.{IsErrAnd}
use Rattle.std.proofs.KnownBytes.{Keeps-refl}
use Rattle.std.proofs.lemmas.Result.{err_from_is_err_and}
use Rattle.lab_program.specs.declared.input.ReadFault.{ReadFault}
use Rattle.lab_program.specs.declared.input.ReadFault.TheVariants as reading
use Rattle.lab_program.specs.declared.faults.RunFault.{RunFault}
use Rattle.lab_program.specs.declared.faults.RunFault.TheVariants.{Script, Step, Read, TooLong, Write, NoMemory}
use Rattle.lab_program.specs.declared.faults.Outcome.{Outcome}
use Rattle.lab_program.specs.Input.{IsTooLong}
use Rattle.lab_program.specs.Faults.{fault_of, failed_reads, reads_failed_by}
use Rattle.lab_program.specs.Answers.{AnswersFor, AnswersTo}

-- ---- faults that are returned

returned : (r : Result Outcome RunFault) (fault : RunFault) → IsErrAnd r (λ f. f ≡ fault) → r ≡ Err fault
returned r fault is = let p = err_from_is_err_and r is in let same : Err p.0 ≡ Err fault = ap (λ (f : RunFault). Err f) p.2 in p.1 ∙ same

pub ends_with : (Writes : List ℕ → List ℕ → Outcome → Type 0) (Refuses : List ℕ → RunFault → Type 0)
    (input : List ℕ) (old new : Option (List ℕ)) (r : Result Outcome RunFault) (fault : RunFault)
    → IsErrAnd r (λ f. f ≡ fault) → AnswersFor Writes Refuses input old new (Err fault) → AnswersFor Writes Refuses input old new r
ends_with W R input old new r fault is a = subst (λ x. AnswersFor W R input old new x) (sym (returned r fault is)) a

-- ---- inputs that are read

for_source : (Writes : List ℕ → List ℕ → Outcome → Type 0) (Refuses : List ℕ → RunFault → Type 0)
    (left old new : Option (List ℕ)) (input : List ℕ) (r : Result Outcome RunFault)
    → IfSome left (λ all. input ≡ all) → length input ≤ 16777216 → AnswersFor Writes Refuses input old new r → AnswersTo Writes Refuses left old new r
for_source W R left old new input (Ok outcome) whole within a = (input, record { whole = whole; within = within }, a)
for_source W R left old new input (Err (Script fault)) whole within a = (input, record { whole = whole; within = within }, a)
for_source W R left old new input (Err (Step line)) whole within a = (input, record { whole = whole; within = within }, a)
for_source W R left old new input (Err Write) whole within a = (input, record { whole = whole; within = within }, a)
for_source W R left old new input (Err Read) whole within a = absurd a
for_source W R left old new input (Err TooLong) whole within a = absurd a
for_source W R left old new input (Err NoMemory) whole within a = a

pub for_read : (Writes : List ℕ → List ℕ → Outcome → Type 0) (Refuses : List ℕ → RunFault → Type 0)
    (left old new : Option (List ℕ)) (seen input : List ℕ) (r : Result Outcome RunFault)
    → seen ≡ input → IfSome left (λ all. input ≡ all) → length input ≤ 16777216
    → AnswersFor Writes Refuses seen old new r → AnswersTo Writes Refuses left old new r
for_read W R left old new seen input r is whole within a = for_source W R left old new input r whole within (subst (λ t. AnswersFor W R t old new r) is a)

-- ---- inputs that are not read

by_fault : (Writes : List ℕ → List ℕ → Outcome → Type 0) (Refuses : List ℕ → RunFault → Type 0) (left old : Option (List ℕ)) (e : ReadFault)
    → (e ≡ reading.TooLong → IsTooLong left) → AnswersTo Writes Refuses left old old (Err (fault_of e))
by_fault W R left old reading.Read long = Keeps-refl old
by_fault W R left old reading.TooLong long = (long refl, Keeps-refl old)
by_fault W R left old reading.NoMemory long = Keeps-refl old

pub not_read : (Writes : List ℕ → List ℕ → Outcome → Type 0) (Refuses : List ℕ → RunFault → Type 0)
    (left old : Option (List ℕ)) (e : ReadFault) (r : Result Outcome RunFault)
    → IsErrAnd r (λ f. f ≡ fault_of e) → (e ≡ reading.TooLong → IsTooLong left) → AnswersTo Writes Refuses left old old r
not_read W R left old e r is long = subst (λ x. AnswersTo W R left old old x) (sym (returned r (fault_of e) is)) (by_fault W R left old e long)

count_is : (e : ReadFault) → reads_failed_by e ≡ failed_reads (Err (fault_of e))
count_is reading.Read = refl
count_is reading.TooLong = refl
count_is reading.NoMemory = refl

pub reads_of : (e : ReadFault) (r : Result Outcome RunFault) (before after : ℕ)
    → IsErrAnd r (λ f. f ≡ fault_of e) → after ≡ before + reads_failed_by e → after ≡ before + failed_reads r
reads_of e r before after is count =
    count ∙ ap (λ n. before + n) (count_is e) ∙ ap (λ x. before + failed_reads x) (sym (returned r (fault_of e) is))
