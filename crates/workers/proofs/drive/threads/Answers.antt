use Rattle.std.proofs.Common.{◌≡◌, ℕ, ◌==◌, true, List, [], ◌∷◌, length, refl, sym, ap, ◌∙◌, arith}
use Rattle.std.proofs.lemmas.Bool.{false≢true}
use Rattle.std.proofs.lemmas.Bool.Decides.{nat_tests}
use Rattle.edge_rule.specs.DeskView.{BenchView, DeskView}
use Rattle.edge_rule.specs.Ending.{HasAll}
use Rattle.rounds.specs.Company.{all_retired}
use Rattle.workers.specs.Driven.{Driven}
use Rattle.workers.proofs.drive.threads.Goals as goal

-- where there are no jobs, nobody has a turn
no_desks : (b : BenchView) (turns : ℕ) (l : List DeskView) → (length l == 0) ≡ true → HasAll b.plan l → Driven b turns l l × (all_retired l ≡ true)
no_desks b turns [] none all = (
  record {
    order = tt;
    all = all;
    took = tt;
    full = λ h. absurd (false≢true (sym h));
    company = record { own = tt; rest = tt; legal = tt; starts = tt; whole = tt };
  },
  refl,
)
no_desks b turns (d ∷ l) none all = absurd (grind (arith, nat_tests))

pub returns-then-is_empty : goal.returns-then-is_empty
returns-then-is_empty g c =
    no_desks c.args.bench.now c.args.turns c.args.desks.items
    (ap (λ n. n == 0) (sym c.args.desks.ok.0) ∙ (sym c.is_empty.ensures ∙ c.if-is_empty.true)) c.requires.all
