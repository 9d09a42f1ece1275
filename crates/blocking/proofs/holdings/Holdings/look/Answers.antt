use Rattle.std.proofs.Common.{◌≡◌, ℕ, List, length, sym, ap, ◌∙◌, subst}
use Rattle.rounds.specs.Company.{first_front}
use Rattle.waiting.proofs.Logs.{written_back}
use Rattle.blocking.specs.Watching.{AreHeld}
use Rattle.blocking.proofs.holdings.Holdings.look.Goals as goal

pub note_held-requires-clause-many : goal.note_held-requires-clause-many
note_held-requires-clause-many g c =
    ap length c.as_mut_slice.ensures.value ∙ (ap (λ v. length v.items) c.swap.ensures.y_after ∙ c.requires.many)

pub returns-clause-before : goal.returns-clause-before
returns-clause-before g c = ap (λ v. v.items) c.swap.ensures.x_after

pub returns-clause-after : goal.returns-clause-after
returns-clause-after g c =
    let sets = c.swap.new.y in let new : List ℕ = c.note_held.new.sets in
    let same : length new ≡ length sets.items = c.note_held.auto.sets ∙ ap length c.as_mut_slice.ensures.value in
    subst (AreHeld c.args.plan.now (first_front c.args.desks.now)) (sym (written_back sets.items new sets.len sets.ok.0 same)) c.note_held.ensures
