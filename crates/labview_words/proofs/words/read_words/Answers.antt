use Rattle.std.proofs.Common.{◌≡◌, ◌∙◌, ◌⊎◌, [], ap, sym, subst, map}
use Rattle.clap.specs.Words.{App, IsAmong, fault_of, is_simple, is_simple_and_free, kind_of, subcommand_of}
use Rattle.clap.specs.declared.error.kind.ErrorKind.TheVariants as kind
use Rattle.command_line.proofs.Programs.{by_error, by_none}
use Rattle.labview_words.specs.Command.{labview_app, task_found}
use Rattle.labview_words.specs.Words.{task_of}
use Rattle.labview_words.proofs.ByClap.{free, program, right, simple}
use Rattle.labview_words.proofs.words.read_words.Goals as goal

pub returns-in-Some : goal.returns-in-Some
returns-in-Some g c =
    let words = map g.S.AsStr.text c.args.words.now in
    let app = c.in_ok-command.ensures in
    let stop = (c.in-Ok.ensures.matches (ap is_simple app ∙ simple)).1 ∙ ap (λ (a : App). subcommand_of a words) app in
    let fault : fault_of labview_app words ≡ [] = ap (λ (a : App). fault_of a words) (sym app) ∙ c.in-Ok.ensures.kinds (ap is_simple_and_free app ∙ free) in
    sym ((right words).0 fault) ∙ sym (ap task_found stop) ∙ sym c.task_of.ensures ∙ c.in-Some.is

pub returns-in-Ok : goal.returns-in-Ok
returns-in-Ok g c =
    let words = map g.S.AsStr.text c.args.words.now in
    let app = c.in_ok-command.ensures in
    let stop = (c.in-Ok.ensures.matches (ap is_simple app ∙ simple)).1 ∙ ap (λ (a : App). subcommand_of a words) app in
    let fault : fault_of labview_app words ≡ [] = ap (λ (a : App). fault_of a words) (sym app) ∙ c.in-Ok.ensures.kinds (ap is_simple_and_free app ∙ free) in
    by_none task_of program words c.refused.result c.refused.ensures fault (sym ((right words).0 fault) ∙ sym (ap task_found stop) ∙ sym c.task_of.ensures ∙ c.in-None.is)

pub returns : goal.returns
returns g c =
    let words = map g.S.AsStr.text c.args.words.now in
    let app = c.in_ok-command.ensures in
    by_error task_of program words (right words).1 (kind_of c.in-Err.error) c.why_no_task.result c.why_no_task.ensures
    (subst (λ (a : App). (kind_of c.in-Err.error ≡ kind.OutOfMemory) ⊎ IsAmong (kind_of c.in-Err.error) (fault_of a words)) app
    (c.in-Err.ensures.kinds (ap is_simple_and_free app ∙ free)))
