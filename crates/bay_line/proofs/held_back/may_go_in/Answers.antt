use Rattle.std.proofs.Common.{◌∙◌, sym}
use Rattle.bay_line.proofs.HeldBack.{nothing_kept, says_may_go}
use Rattle.bay_line.proofs.held_back.may_go_in.Goals as goal

pub returns-then-not-common : goal.returns-then-not-common
returns-then-not-common c =
    let a = c.args in
    nothing_kept a.most a.in_use a.free a.wishes.now a.place a.end a.kept c.requires.others c.requires.kept c.requires.free
    (sym c.common.ensures ∙ c.if-not-common.true)

pub returns : goal.returns
returns c =
    let a = c.args in
    says_may_go a.most a.in_use a.free a.wishes.now a.place a.end a.kept c.only_its_own.result c.requires.others c.requires.kept c.requires.free
    (sym c.common.ensures ∙ c.if-not-common.false) c.only_its_own.ensures
