use Rattle.std.proofs.Common.{◌≡◌, false, List, [], ◌∷◌, ◌++◌, replicate, arith, ap, ◌∙◌, subst}
use Rattle.std.proofs.lemmas.List.{replicate_more}
use Rattle.legal_steps.specs.State.{Seat, idle_phase}
use Rattle.interleaving.proofs.opening_tables.idle_seats.Goals as goal

pub loop-job-preserved : goal.loop-job-preserved
loop-job-preserved g c =
    let idle : Seat = record { phase = idle_phase; fork_marks = replicate c.args.edges false; bottle_marks = replicate c.args.edges 0 } in
    c.in_ok-push.ensures.items ∙ (ap (λ (xs : List Seat). xs ++ c.in_ok-idle.field-0 ∷ []) c.loop-job.invariant
    ∙ (ap (λ (x : Seat). replicate c.loop-job._job idle ++ x ∷ []) c.in_ok-idle.ensures ∙ replicate_more c.loop-job._job idle))

pub returns : goal.returns
returns g c =
    let idle : Seat = record { phase = idle_phase; fork_marks = replicate c.args.edges false; bottle_marks = replicate c.args.edges 0 } in
    subst (λ n. c.loop-job.seats.items ≡ replicate n idle) (omega arith) c.loop-job.invariant
