use Rattle.std.proofs.Common.{◌≡◌, ◌+◌, ◌&&◌, ◌==◌, Bool, true, false, min, refl, sym, ap, ◌∙◌, eqb-true}
use Rattle.blocking.specs.declared.counted.Wait.{Wait}
use Rattle.blocking.specs.Owing.{SideView}
use Rattle.blocking.proofs.Owing.{waits_on, turns}
use Rattle.blocking.proofs.sides.Side.count.Goals as goal

both_true : (a b : Bool) → (a && b) ≡ true → (a ≡ true) × (b ≡ true)
both_true true b is = (refl, is)
both_true false b is = absurd (cc)

same_wait : (a b : Wait) → (a.bottles == b.bottles && a.held == b.held) ≡ true → a ≡ b
same_wait a b is =
    let both = both_true (a.bottles == b.bottles) (a.held == b.held) is in
    λ i. record { bottles = eqb-true a.bottles b.bottles both.0 i; held = eqb-true a.held b.held both.1 i }

pub returns-then-eq : goal.returns-then-eq
returns-then-eq g c =
    let was : SideView = record {
      job = c.self.inside.job;
      edge = c.self.inside.edge;
      wait = c.self.inside.wait;
      rounds = c.self.inside.rounds;
      blocks = c.self.inside.blocks.items;
    } in
    let view : was ≡ c.args.self.now = c.self.view_is in
    let same : c.self.inside.wait ≡ c.args.wait = same_wait c.self.inside.wait c.args.wait (sym c.eq.ensures ∙ c.if-eq.true) in
    waits_on c.args.plan.now c.args.wait c.args.self.now (ap (λ (x : SideView). x.wait) (sym view) ∙ same)
    (record was { rounds = c.saturating_add-self-inside.result })
    (ap (λ n. record was { rounds = n }) c.saturating_add-self-inside.ensures ∙ (λ i. record (view i) { rounds = min ((view i).rounds + 1) 4294967295 }))

pub returns : goal.returns
returns g c = turns c.args.plan.now c.args.wait c.args.self.now c.turn_to.new.self c.turn_to.ensures
