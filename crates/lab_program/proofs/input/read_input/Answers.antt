use Rattle.std.proofs.Common.{◌++◌, length-append, arith}
use Rattle.std.proofs.KnownBytes.{Consumes-trans}
use Rattle.lab_program.proofs.input.read_input.Goals as goal

pub returns-in_err-read_piece-clause-most : goal.returns-in_err-read_piece-clause-most
returns-in_err-read_piece-clause-most g c =
    let (front, within, well) = c.loop-source.invariant in
    let (piece, few, taken) = c.read_piece.ensures.most in
    let before = c.loop-source.bytes in (
      before.items ++ piece,
      omega (arith, length-append before.items piece, before.ok.0, few, within, c.loop-source-test.true),
      Consumes-trans _ _ _ _ _ front taken,
    )
