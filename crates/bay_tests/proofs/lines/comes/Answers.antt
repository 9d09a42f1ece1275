use Rattle.std.proofs.Common.{ℕ, ◌+◌, List, [], ◌∷◌, ◌++◌, Option, sym, subst, arith}
use Rattle.bay_line.specs.declared.wish.Wish.{Wish}
use Rattle.bay_line.specs.Lines.{LineView, Below, wishes_of}
use Rattle.bay_tests.proofs.lines.comes.Goals as goal

below_more : (ask : ℕ) (ws vs : List Wish) → Below ask ws → Below (ask + 1) vs → Below (ask + 1) (ws ++ vs)
below_more ask [] vs h rest = rest
below_more ask (w ∷ ws) vs h rest = let less = h.0 in (omega (arith, less), below_more ask ws vs h.1 rest)

below_wishes : (ask : ℕ) (sets : List ℕ) (classes : ℕ) (d : Option ℕ) → Below (ask + 1) (wishes_of ask sets classes d)
below_wishes ask [] classes d = tt
below_wishes ask (s ∷ sets) classes d = (omega arith, below_wishes ask sets classes d)

pub returns : goal.returns
returns g c =
    let a = c.args in let ws = c.args.line.now.wishes in
    subst (λ (x : LineView). Below (a.ask + 1) x.wishes) (sym c.in-Ok.ensures.asks)
    (below_more a.ask ws (wishes_of a.ask a.sets.now a.classes a.deadline) c.requires (below_wishes a.ask a.sets.now a.classes a.deadline))
