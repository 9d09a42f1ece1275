use Rattle.std.proofs.Common.{[], ◌∷◌, ◌++◌, sym, ap, ◌∙◌, subst}
use Rattle.std.specs.Prelude.{bit_and, bit_or}
use Rattle.script_reader.specs.Fields.{fields}
use Rattle.script_reader.specs.Steps.{bottle_named, bottle_set}
use Rattle.script_reader.proofs.BottleSets.{IsSet, one_bit, begins, goes_on, ends, missing, twice}
use Rattle.script_reader.proofs.bottles.bottle_set.Goals as goal

pub loop-name-init : goal.loop-name-init
loop-name-init g c = ([], [], begins (bottle_named c.args.plan.now c.args.edge) (fields c.args.names.now))

pub returns-in_err-bottle : goal.returns-in_err-bottle
unfolding bottle_set
returns-in_err-bottle g c =
    let f = bottle_named c.args.plan.now c.args.edge in
    let names = fields c.args.names.now in
    let done = c.loop-name.invariant.0 in
    let ks = c.loop-name.invariant.1 in
    let rest = fields c.in-Some.others.now in
    let name = c.in-Some.name.now in
    let before = subst (λ l. IsSet f names done l ks c.loop-name.set) c.in-Some.ensures.fields.0 c.loop-name.invariant.2 in
    c.from_residual.ensures ∙ sym (missing f names done rest ks c.loop-name.set name before c.in_err-bottle.ensures)

pub returns-then-set-bit-ne0 : goal.returns-then-set-bit-ne0
unfolding bottle_set
returns-then-set-bit-ne0 g c =
    let f = bottle_named c.args.plan.now c.args.edge in
    let names = fields c.args.names.now in
    let done = c.loop-name.invariant.0 in
    let ks = c.loop-name.invariant.1 in
    let rest = fields c.in-Some.others.now in
    let name = c.in-Some.name.now in
    let k = c.in_ok-bottle.bottle in
    let found = c.in_ok-bottle.ensures in
    let before = subst (λ l. IsSet f names done l ks c.loop-name.set) c.in-Some.ensures.fields.0 c.loop-name.invariant.2 in
    sym (twice f names done rest ks c.loop-name.set name k before found.0 (λ e. c.if-set-bit-ne0.true (ap (bit_and c.loop-name.set) (one_bit k found.1) ∙ e)))

pub loop-name-preserved : goal.loop-name-preserved
loop-name-preserved g c =
    let f = bottle_named c.args.plan.now c.args.edge in
    let names = fields c.args.names.now in
    let done = c.loop-name.invariant.0 in
    let ks = c.loop-name.invariant.1 in
    let rest = fields c.in-Some.others.now in
    let name = c.in-Some.name.now in
    let k = c.in_ok-bottle.bottle in
    let found = c.in_ok-bottle.ensures in
    let set = c.loop-name.set in
    let before = subst (λ l. IsSet f names done l ks set) c.in-Some.ensures.fields.0 c.loop-name.invariant.2 in
    let bit = one_bit k found.1 in
    let more = goes_on f names done rest ks set name k before found.0 (ap (bit_and set) (sym bit) ∙ c.if-set-bit-ne0.false) in
    (done ++ name ∷ [], ks ++ k ∷ [], subst (λ b. IsSet f names (done ++ name ∷ []) rest (ks ++ k ∷ []) (bit_or set b)) (sym bit) more)

pub returns : goal.returns
unfolding bottle_set
returns g c =
    let f = bottle_named c.args.plan.now c.args.edge in
    let names = fields c.args.names.now in
    let done = c.loop-name.invariant.0 in
    let ks = c.loop-name.invariant.1 in
    sym (ends f names done ks c.loop-name.set (subst (λ l. IsSet f names done l ks c.loop-name.set) c.in_default.ensures.fields c.loop-name.invariant.2))
