-- The plan of a world, whoever owns it.
use Rattle.lab_plan.specs.LabPlan.{LabPlan}
use Rattle.interleaving.specs.declared.kept_plan.Whose.{Whose}
use Rattle.interleaving.specs.declared.kept_plan.Whose.TheVariants.{Lent, Own}

abbrev pub the_plan : {A : Type 0} → Whose A → LabPlan
the_plan (Lent plan) = plan.now
the_plan (Own plan) = plan
