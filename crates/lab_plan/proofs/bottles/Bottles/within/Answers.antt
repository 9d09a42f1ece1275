use Rattle.std.proofs.Common.{◌≡◌, ◌+◌, ℕ, true, slice_index_or, ap, ◌∙◌, sym, subst, arith}
use Rattle.std.proofs.lemmas.Bool.{false≢true}
use Rattle.lab_plan.specs.InstrumentSets.{holds}
use Rattle.lab_plan.proofs.Gathered.{Gathered, gathered_in, gathered_out}
use Rattle.lab_plan.proofs.bottles.Bottles.within.Goals as goal
use Rattle.lab_plan.proofs.bottles.Bottles.within.Goals.{then-holds, else-holds}

pub loop-bottle-preserved : goal.loop-bottle-preserved
loop-bottle-preserved g c =
    let P : ℕ → Type 0 = λ k. holds c.args.instruments (slice_index_or c.args.self.now k 0) ≡ true in
    let n = c.loop-bottle.bottle in
    let at_it : c.holds.inside.0 ≡ c.at.result = c.holds.view_is in
    let held : c.holds-in-loop-bottle.result ≡ holds c.args.instruments (slice_index_or c.args.self.now n 0) =
    c.holds-in-loop-bottle.ensures ∙ ap (λ i. holds c.args.instruments i) (at_it ∙ c.at.ensures) in
    elim c.if-holds.branch [
      | then-holds w ↦ subst (λ z. Gathered z (n + 1) P) (sym w.set-is)
          (gathered_in c.loop-bottle.set n P (omega arith) c.loop-bottle.invariant (sym held ∙ w.if-holds.true))
      | else-holds w ↦ subst (λ z. Gathered z (n + 1) P) (sym w.set-is)
          (gathered_out c.loop-bottle.set n P c.loop-bottle.invariant (λ p. false≢true (sym w.if-holds.false ∙ (held ∙ p))))
    ]
