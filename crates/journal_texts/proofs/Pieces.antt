-- Texts that were taken one after another are pieces.
use Rattle.std.proofs.Common.{List, [], ◌∷◌, ◌++◌, refl, ap}
use Rattle.legal_steps.specs.declared.event.Event.{Event}
use Rattle.journal_texts.specs.Texts.{batch_text}
use Rattle.journal_texts.specs.Reading.{TextsArePieces}

pub texts_are_pieces : TextsArePieces
texts_are_pieces plan [] = (refl, refl)
texts_are_pieces plan ([] ∷ lists) = texts_are_pieces plan lists
texts_are_pieces plan ((event ∷ events) ∷ lists) =
    let more = texts_are_pieces plan lists in
    (ap (λ l. batch_text plan (event ∷ events) ++ l) more.0, ap (λ (l : List Event). (event ∷ events) ++ l) more.1)
