-- A text and its lines.
use Rattle.std.proofs.Common.{◌≡◌, ℕ, zero, suc, ◌+◌, ◌≤◌, List, [], ◌∷◌, ◌++◌, length, take, drop, sym, ap, ◌∙◌, arith, take-append-drop, length-append, length-drop, length-take-le}
use Rattle.std.specs.List.{concat}
use Rattle.std.proofs.lemmas.List.{drop-drop}
use Rattle.std.proofs.lemmas.List.Folds.{concat-append}
use Rattle.bstr.specs.Text.{line_len, lines_of}
use Rattle.bstr.proofs.lemmas.LineLemmas.{lines-nil, lines-step, line_len-bounds}

-- a text is its lines, one after another
whole_from : (n : ℕ) (text : List ℕ) → length text ≤ n → concat (lines_of text) ≡ text
whole_from n [] few = ap concat lines-nil
whole_from zero (x ∷ xs) few = absurd (omega arith)
whole_from (suc n) (x ∷ xs) few =
    let text = x ∷ xs in
    let bounds = line_len-bounds text (omega arith) in
    let less = length-drop (line_len text) text in
    ap concat (lines-step text (omega arith))
    ∙ ap (λ (l : List ℕ). take (line_len text) text ++ l) (whole_from n (drop (line_len text) text) (omega arith))
    ∙ take-append-drop (line_len text) text

pub whole : (text : List ℕ) → concat (lines_of text) ≡ text
whole text = whole_from (length text) text (omega arith)

-- a text, cut between two lines
pub halves : (text : List ℕ) (above below : List (List ℕ)) → lines_of text ≡ above ++ below → text ≡ concat above ++ concat below
halves text above below is = sym (whole text) ∙ ap concat is ∙ concat-append above below

pub within : (text : List ℕ) (above below : List (List ℕ)) → lines_of text ≡ above ++ below → length (concat above) ≤ length text
within text above below is = omega (arith, ap length (halves text above below is), length-append (concat above) (concat below))

-- what is behind the lines that are cut off
pub lines_behind : (above below : List (List ℕ)) (text : List ℕ) → lines_of text ≡ above ++ below → lines_of (drop (length (concat above)) text) ≡ below
lines_behind [] below text is = is
lines_behind (line ∷ above) below [] is = absurd (cc (sym lines-nil ∙ is))
lines_behind (line ∷ above) below (x ∷ xs) is =
    let text = x ∷ xs in
    let len = line_len text in
    let bounds = line_len-bounds text (omega arith) in
    let both : take len text ∷ lines_of (drop len text) ≡ line ∷ (above ++ below) = sym (lines-step text (omega arith)) ∙ is in
    let first : take len text ≡ line = cc in
    let others : lines_of (drop len text) ≡ above ++ below = cc in
    let long : length line ≡ len = ap length (sym first) ∙ length-take-le len text bounds.1 in
    let place : length (line ++ concat above) ≡ len + length (concat above) = omega (arith, length-append line (concat above)) in
    ap (λ (n : ℕ). lines_of (drop n text)) place ∙ ap lines_of (sym (drop-drop (length (concat above)) len text))
    ∙ lines_behind above below (drop len text) others
