use Rattle.std.proofs.Common.{◌≡◌, List, ℕ, [], ◌∷◌, sym, subst}
use Rattle.std.proofs.lemmas.Result.{IfOk-weaker}
use Rattle.chains.specs.Chains.{IsLongestFrom}
use Rattle.chains.proofs.Longest.{from_none}
use Rattle.chains.proofs.chain.longest_from.Goals as goal

pub returns-in-None : goal.returns-in-None
returns-in-None g c =
    let plan = c.args.plan.now in
    IfOk-weaker c.of-in-None.result (λ (chain : List ℕ). chain ≡ c.args.job ∷ []) (λ chain. IsLongestFrom plan c.args.job chain)
    (λ chain is. subst (IsLongestFrom plan c.args.job) (sym is) (from_none plan c.args.chains.now c.args.job c.requires.inside c.in-None.ensures))
    c.of-in-None.ensures
