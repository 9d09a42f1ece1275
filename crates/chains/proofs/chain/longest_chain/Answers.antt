use Rattle.std.proofs.Common.{ℕ, ◌<◌, ◌≤◌, List, [], length, sym, ◌∙◌, subst}
use Rattle.chains.specs.Chains.{chain_at}
use Rattle.chains.proofs.Longest.{of_all, of_none, any_default}
use Rattle.chains.proofs.chain.longest_chain.Goals as goal

pub returns : goal.returns
returns g c =
    let chains : List (List ℕ) = c.in_ok-chains.chains.items in let best = c.longest_place-best.result in
    let inside : best < length chains = subst (λ (l : List (List ℕ)). best < length l) c.deref.ensures.value c.longest_place-best.ensures.place in
    let most : (k : ℕ) → k < length chains → length (chain_at chains k) ≤ length (chain_at chains best) =
    subst (λ (l : List (List ℕ)). (k : ℕ) → k < length l → length (chain_at l k) ≤ length (chain_at l best)) c.deref.ensures.value
    c.longest_place-best.ensures.longest in
    of_all c.args.plan.now chains best c.swap_remove.result c.in_ok-chains.ensures.longest c.in_ok-chains.ensures.all inside most
    (c.swap_remove.ensures.value ∙ any_default chains best c.swap_remove.result [] inside)

pub returns-then-jobs-eq0 : goal.returns-then-jobs-eq0
returns-then-jobs-eq0 g c = of_none c.args.plan.now c.new.result.items (sym c.jobs.ensures.jobs ∙ c.if-jobs-eq0.true) c.new.ensures.items
