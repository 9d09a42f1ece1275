use Rattle.std.proofs.Common.{◌≡◌, ◌∙◌, subst, sym, length, arith}
use Rattle.lab_plan.specs.LabPlan.{bottles}
use Rattle.edge_word.specs.Words.{IsOfBottles}
use Rattle.edge_word.proofs.WordLemmas.{IsOfBottles-28}
use Rattle.edge_word.proofs.WordBits.{no_two_edges}
use Rattle.edge_rule.proofs.words.unpacked.Goals as goal

pub spelled-requires : goal.spelled-requires
spelled-requires g c =
    let edge = c.requires.spelled in
    (edge.0, edge.1, IsOfBottles-28 _ edge.0 (omega (arith, c.bottles.ensures.bottles, c.bottles.ensures.few)) edge.2)

pub returns-clause-fits : goal.returns-clause-fits
returns-clause-fits g c =
    let edge = c.requires.spelled in
    let few = IsOfBottles-28 _ edge.0 (omega (arith, c.bottles.ensures.bottles, c.bottles.ensures.few)) edge.2 in
    let same : edge.0 ≡ c.spelled.result = no_two_edges edge.0 c.spelled.result few c.spelled.ensures.fits (sym edge.1 ∙ sym c.spelled.ensures.word) in
    subst (IsOfBottles (length (bottles c.args.plan.now c.args.edge))) same edge.2
