use Rattle.std.proofs.Common.{◌≡◌, ◌++◌, ◌==◌, ℕ, Bool, true, false, List, [], sym, ap, ◌∙◌, append_assoc, append-nil, if◌then◌else◌}
use Rattle.std.specs.Prelude.{codes}
use Rattle.std.specs.Int.{bit_at}
use Rattle.step_texts.specs.Names.{bottle_name}
use Rattle.step_texts.proofs.Members.{member}
use Rattle.step_texts.proofs.steps.add_member.Goals as goal

-- what a test chooses, where its answer is known
chosen : (x y : Bool) (a b : List ℕ) → x ≡ y → (if x then a else b) ≡ (if y then a else b)
chosen x y a b same = ap (λ z. if z then a else b) same

pub returns-in_ok-add_bottle : goal.returns-in_ok-add_bottle
returns-in_ok-add_bottle g c =
    let plan = c.args.plan.now in
    let name = bottle_name plan c.args.edge c.args.bottle in
    let inside : (bit_at c.args.set c.args.bottle == 1) ≡ true = sym (member c.has.result c.args.set c.args.bottle c.has.ensures) ∙ c.if-has.true in
    c.in_ok-add_bottle.ensures ∙ ap (λ l. l ++ name) c.in_ok-extend_from_slice.ensures.items ∙ append_assoc c.args.out.now.items (codes " ") name
    ∙ ap (λ l. c.args.out.now.items ++ l) (sym (chosen _ true (codes " " ++ name) [] inside))

pub returns-else-has : goal.returns-else-has
returns-else-has g c =
    let plan = c.args.plan.now in
    let name = bottle_name plan c.args.edge c.args.bottle in
    let outside : (bit_at c.args.set c.args.bottle == 1) ≡ false = sym (member c.has.result c.args.set c.args.bottle c.has.ensures) ∙ c.if-has.false in
    sym (append-nil c.args.out.now.items) ∙ ap (λ l. c.args.out.now.items ++ l) (sym (chosen _ false (codes " " ++ name) [] outside))
