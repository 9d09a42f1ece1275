use Rattle.std.proofs.Common.{ap, ◌∙◌, take}
use Rattle.hex.specs.Hex.{encode_lower}
use Rattle.journal_texts.proofs.SumLines.{wrong_digits}
use Rattle.journal_texts.proofs.sums.is_other.Goals as goal

pub returns : goal.returns
returns c = λ text same.
    wrong_digits text c.args.line.now c.as_slice.result.now c.ne.result c.requires
    (c.as_slice.ensures ∙ (c.digits_of-digits.ensures ∙ ap (λ l. encode_lower (take 8 l)) same)) c.ne.ensures
