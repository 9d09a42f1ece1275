use Rattle.std.proofs.Common.{◌/◌, ◌^◌, refl, sym, ap, ◌∙◌, arith}
use Rattle.std.specs.Int.{trailing_zeros, w64}
use Rattle.lab_plan.specs.InstrumentSets.{holds}
use Rattle.late_thirst.proofs.NextIn.{rest_fits, passed_over, found_there}
use Rattle.late_thirst.proofs.sets.next_of.Goals as goal

pub returns-clause-passed : goal.returns-clause-passed
returns-clause-passed c =
    λ k low high.
    let set = c.from.result in
    let from = c.args.from in
    let next = trailing_zeros w64 (set / 2 ^ from) in
    sym (ap (λ s. holds s k) c.from.ensures) ∙ passed_over set from (rest_fits set from c.from.type_inv) next refl k low (omega (arith, high, c.min.ensures))

pub returns-clause-found : goal.returns-clause-found
returns-clause-found c =
    λ less.
    let set = c.from.result in
    let from = c.args.from in
    let next = trailing_zeros w64 (set / 2 ^ from) in
    let there = c.min.ensures in
    let few = c.requires.few in
    sym (ap (λ s. holds s c.min.result) c.from.ensures) ∙ ap (holds set) (omega (arith, less, there))
    ∙ found_there set from (rest_fits set from c.from.type_inv) next refl (omega (arith, less, there, few))
