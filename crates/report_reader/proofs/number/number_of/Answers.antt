use Rattle.std.proofs.Common.{rules, arith, ◌<◌, ◌^◌, sym, ap, ◌∙◌, subst}
use Rattle.std.specs.Prelude.{decimal}
use Rattle.std.proofs.lemmas.Fmt.{IsAscii-decimal}
use Rattle.std.proofs.lemmas.Str.{IsUtf8-from_ascii}
use Rattle.std.proofs.lemmas.Slice.Eq.{bytes_eq-Decides}
use Rattle.std.specs.Str.{IsAscii}
use Rattle.std.proofs.lemmas.Bool.{false≢true}
use Rattle.report_reader.proofs.Numbers.{number_is, no_number, never_refused, read_so}
use Rattle.report_reader.proofs.number.number_of.Goals as goal

pub returns-in_default : goal.returns-in_default
returns-in_default c =
    sym (no_number c.args.word.now (λ n small is. c.in_default.ensures.cases.0
    (IsUtf8-from_ascii _ (subst IsAscii (sym is) (IsAscii-decimal n (omega (arith, small)))))))

pub returns-in_default-parse : goal.returns-in_default-parse
returns-in_default-parse c =
    sym (no_number c.args.word.now (λ n small is. never_refused n c.in-Ok.text.now small (c.in-Ok.ensures.cases.0 ∙ is) c.in_default-parse.ensures.value.0))

pub returns-then-eq : goal.returns-then-eq
returns-then-eq c =
    let same = (bytes_eq-Decides c.as_bytes.result.now c.args.word.now).0 (sym c.eq.ensures ∙ c.if-eq.true) in
    let small : c.in-Ok-parse.number < 2 ^ 32 = search (rules, c.in-Ok-parse.ensures.value) in
    sym (number_is c.args.word.now c.in-Ok-parse.number small (sym same ∙ c.as_bytes.ensures.value ∙ c.format.ensures.text))

pub returns-else-eq : goal.returns-else-eq
returns-else-eq c =
    sym (no_number c.args.word.now (λ n small is.
    let number = read_so c.in-Ok-parse.number n c.in-Ok.text.now small (c.in-Ok.ensures.cases.0 ∙ is) c.in-Ok-parse.ensures.value.0 in
    let same = (bytes_eq-Decides c.as_bytes.result.now c.args.word.now).1 (c.as_bytes.ensures.value ∙ c.format.ensures.text ∙ ap decimal number ∙ sym is) in
    false≢true (sym c.if-eq.false ∙ c.eq.ensures ∙ same)))
