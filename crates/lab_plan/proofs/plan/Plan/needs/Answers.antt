use Rattle.std.proofs.Common.{◌≡◌, ◌^◌, ◌<◌, ◌==◌, Bool, true, false, if◌then◌else◌, length, refl, sym, ap, ◌∙◌, subst}
use Rattle.std.specs.Int.{bit_at}
use Rattle.lab_plan.specs.LabPlan.{session_names}
use Rattle.lab_plan.specs.InstrumentSets.{holds}
use Rattle.lab_plan.proofs.Readers.{needs_bit, needs_below}
use Rattle.lab_plan.proofs.plan.Plan.needs.Goals as goal

one_if : (b : Bool) → ((if b then 1 else 0) == 1) ≡ b
one_if true = refl
one_if false = refl

pub returns-clause-needs : goal.returns-clause-needs
returns-clause-needs g c i =
    ap (λ n. bit_at n i) c.bits.ensures ∙ needs_bit c.args.self.now c.args.job c.args.session i c.needed.result c.needed.ensures.needs

pub returns-clause-few : goal.returns-clause-few
returns-clause-few g c =
    subst (λ n. n < 2 ^ length c.args.self.now.instruments) (sym c.bits.ensures)
    (needs_below c.args.self.now c.args.job c.args.session c.needed.result c.needed.ensures.plan c.needed.ensures.needs)

pub returns-clause-names : goal.returns-clause-names
unfolding holds
returns-clause-names g c i =
    ap (λ n. n == 1) (ap (λ n. bit_at n i) c.bits.ensures ∙ needs_bit c.args.self.now c.args.job c.args.session i c.needed.result c.needed.ensures.needs)
    ∙ one_if (session_names c.args.self.now c.args.job c.args.session i)
