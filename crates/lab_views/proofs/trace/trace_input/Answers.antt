use Rattle.std.proofs.Common.{sym, ◌∙◌, inl}
use denote.Enum.Bare.{differs_true, differs_false}
use Rattle.std.proofs.KnownBytes.{Keeps-refl}
use Rattle.script_reader.specs.contracts.fault.ScriptCause.{the_type}
use Rattle.lab_views.proofs.Traced.{not_alone}
use Rattle.lab_views.proofs.trace.trace_input.Goals as goal

pub returns-then-ne-clause-answer : goal.returns-then-ne-clause-answer
returns-then-ne-clause-answer g c = (inl (c.in-Err.ensures, differs_true the_type _ _ (sym c.ne.ensures ∙ c.if-ne.true)), Keeps-refl _)

pub trace_further-requires : goal.trace_further-requires
trace_further-requires g c = not_alone c.one_meaning.ensures.either c.args.input.now c.in-Err.fault c.in-Err.ensures
    (differs_false the_type tt _ _ (sym c.ne.ensures ∙ c.if-ne.false))
