use Rattle.std.proofs.Common.{◌+◌, ◌-◌, ◌∷◌, take, sym, ap, ◌∙◌}
use Rattle.std.proofs.lemmas.List.{take_rest}
use Rattle.script_reader.specs.Fields.{fields}
use Rattle.script_reader.proofs.FieldLemmas.{field_to_gap, gap_to_gap, field_to_end}
use Rattle.bench_texts.proofs.fields.cut_at_gap.Goals as goal

pub returns-in-Some-clause-field : goal.returns-in-Some-clause-field
returns-in-Some-clause-field c = λ some.
    let line = c.args.line.now in
    let n = c.in-Some.end in
    let found = c.in-Some.ensures in
    field_to_gap line n found.0.high found.0.before found.1 some ∙ ap (λ l. take n line ∷ fields l) (sym (take_rest line (n + 1)))

pub returns-in-Some-clause-no_field : goal.returns-in-Some-clause-no_field
returns-in-Some-clause-no_field c = λ none.
    let line = c.args.line.now in
    let n = c.in-Some.end in
    let found = c.in-Some.ensures in
    gap_to_gap line n found.0.high found.0.before found.1 none ∙ ap fields (sym (take_rest line (n + 1)))

pub returns-in-None-clause-field : goal.returns-in-None-clause-field
returns-in-None-clause-field c = λ some. field_to_end c.args.line.now c.in-None.ensures some
