use Rattle.std.proofs.Common.{◌≡◌, ◌∙◌, not, ap, arith, rules}
use Rattle.std.specs.List.{filter}
use Rattle.std.proofs.lemmas.Fn.{filter_same}
use Rattle.bay_book.specs.declared.ask.Ask.{Ask}
use Rattle.bay_book.specs.Asks.{is_done}
use Rattle.bay_book.proofs.row.Row.purge.Goals as goal

pub invariant_of-self : goal.invariant_of-self
invariant_of-self c = omega arith

pub returns : goal.returns
returns c =
    let kept : c.retain.new.self.items ≡ filter (λ (a : Ask). not (is_done a)) c.move_up.new.asks.items =
    filter_same _ _ _ (λ a b f' k. search rules) _ _ c.retain.ensures.filtered in
    kept ∙ ap (filter (λ (a : Ask). not (is_done a))) (c.move_up.ensures ∙ c.self.view_is)
