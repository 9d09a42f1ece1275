use Rattle.std.proofs.Common.{◌≡◌, ◌++◌}
use Rattle.std.specs.Option.{option_map}
use Rattle.script_reader.specs.Script.{text_lines}
use Rattle.journal_texts.specs.Additions.{session_in}
use Rattle.journal_texts.proofs.added.session_in.Given as goal

-- what is left gives the rest of the session
abbrev pub invariant-loop-line : goal.invariant-loop-line
invariant-loop-line g l = session_in (text_lines l.fn.text) ≡ option_map (λ more. l.session.items ++ more) (session_in l.line-iterator)
