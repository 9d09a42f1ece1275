use Rattle.std.proofs.Common.{sym}
use Rattle.std.proofs.lemmas.Bool.{false≢true}
use Rattle.interleaving.proofs.PrecedenceLemmas.{acyclic_of, cyclic_of}
use Rattle.interleaving.proofs.tables.Tables.has_cycle.Goals as goal

pub returns-in-Some-clause-cyclic : goal.returns-in-Some-clause-cyclic
returns-in-Some-clause-cyclic g c =
    let found = rw c.in-Some.is at c.in_ok-cycle_in.ensures.cycle in
    λ t. cyclic_of c.args.self.now.plan c.args.self.now.state _ _ _ c.deref.ensures.value c.in_ok-pairs.ensures.pairs found

pub returns-in-Some-clause-acyclic : goal.returns-in-Some-clause-acyclic
returns-in-Some-clause-acyclic g c = λ t. absurd (false≢true (sym t))

pub returns-clause-cyclic : goal.returns-clause-cyclic
returns-clause-cyclic g c = λ t. absurd (false≢true t)

pub returns-clause-acyclic : goal.returns-clause-acyclic
returns-clause-acyclic g c =
    let none = rw c.in-None.is at c.in_ok-cycle_in.ensures.cycle in
    λ t. acyclic_of c.args.self.now.plan c.args.self.now.state _ _ c.deref.ensures.value c.in_ok-pairs.ensures.pairs none
