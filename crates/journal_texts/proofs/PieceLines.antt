-- The lines of what was taken.
use Rattle.std.proofs.Common.{◌≡◌, ℕ, zero, suc, ◌-◌, Bool, true, false, not, ◌&&◌, if◌then◌else◌, List, [], ◌∷◌, ◌++◌, length, map, get_or, take, refl, sym, ap, ◌∙◌, append_assoc}
use Rattle.std.specs.Prelude.{◌/◌, ◌%◌, codes, ◌==◌, nat_lt}
use Rattle.std.specs.List.{AllByRecursion, flat_map, list_all}
use Rattle.std.specs.Io.BufRead.{ends_with_byte}
use Rattle.std.proofs.lemmas.Bool.{and_parts}
use Rattle.sha2.specs.Sha256.{sha256}
use Rattle.hex.specs.Hex.{encode_lower, encode_with, lower_digits}
use Rattle.lab_plan.specs.LabPlan.{LabPlan}
use Rattle.lab_plan.specs.IsPlan.{IsPlan}
use Rattle.legal_steps.specs.declared.event.Event.{Event}
use Rattle.legal_steps.specs.declared.event.Step.{Step}
use Rattle.round_trace.specs.StepsOf.{step_of}
use Rattle.script_reader.specs.Script.{text_lines}
use Rattle.script_reader.proofs.UpgradeText.{one_more_line, no_text}
use Rattle.step_texts.specs.StepTexts.{step_text}
use Rattle.written_steps.specs.ReadBack.{IsNameable}
use Rattle.written_steps.specs.StepLists.{step_line, step_lines}
use Rattle.written_steps.proofs.TextLines.{IsOneLine, first_line, read_plain}
use Rattle.written_steps.proofs.ListsBack.{step_shown}
use Rattle.journal_texts.specs.Parts.{is_plain}
use Rattle.journal_texts.specs.Texts.{Piece, lines_text, sum_line, end_text, piece_text}

-- ---- a sum is one line

plain_at : (l : List ℕ) (n : ℕ) → list_all is_plain l ≡ true → is_plain (get_or l n 0) ≡ true
plain_at [] n h = refl
plain_at (x ∷ l) zero h = (and_parts (is_plain x) (list_all is_plain l) h).0
plain_at (x ∷ l) (suc n) h = plain_at l n (and_parts (is_plain x) (list_all is_plain l) h).1

digits_plain : (bytes : List ℕ) → list_all is_plain (encode_lower bytes) ≡ true
unfolding encode_with
digits_plain [] = refl
digits_plain (b ∷ bytes) = λ i. plain_at lower_digits (b / 16) refl i && (plain_at lower_digits (b % 16) refl i && digits_plain bytes i)

sum_plain : (text : List ℕ) → list_all is_plain (sum_line text) ≡ true
unfolding sum_line encode_with
sum_plain text = digits_plain (take 8 (sha256 text))

pub plain_one : (line : List ℕ) → list_all is_plain line ≡ true → IsOneLine line
plain_one [] h = refl
plain_one (b ∷ line) h =
    let parts = and_parts (is_plain b) (list_all is_plain line) h in
    let here = (and_parts (not (b == 10)) (not (b == 13)) parts.0).0 in
    λ i. here i && plain_one line parts.1 i

-- so a sum is
pub sum_one : (text : List ℕ) → IsOneLine (sum_line text)
sum_one text = plain_one (sum_line text) (sum_plain text)

plain_ended : (line : List ℕ) → list_all is_plain line ≡ true → ends_with_byte 13 line ≡ false
plain_ended line h =
    let last = no (get_or line (length line - 1) 0 == 13) (and_parts (not (get_or line (length line - 1) 0 == 10)) _ (plain_at line (length line - 1) h)).1 in
    (λ i. nat_lt 0 (length line) && last i) ∙ never (nat_lt 0 (length line))
  where
    no : (t : Bool) → not t ≡ true → t ≡ false
    no true e = cc
    no false e = refl

    never : (t : Bool) → (t && false) ≡ false
    never true = refl
    never false = refl

-- ---- the lines of a piece

abbrev pub end_lines : LabPlan → Piece → List (List ℕ)
end_lines plan piece = if piece.ended then sum_line (lines_text plan piece.events) ∷ [] else []

abbrev pub inner_lines : LabPlan → Piece → List (List ℕ)
inner_lines plan piece = map (step_text plan) (map step_of piece.events) ++ end_lines plan piece

abbrev pub piece_lines : LabPlan → Piece → List (List ℕ)
piece_lines plan piece = codes "#steps" ∷ inner_lines plan piece

abbrev pub all_lines : LabPlan → List Piece → List (List ℕ)
all_lines plan pieces = flat_map (piece_lines plan) pieces

steps_then : (plan : LabPlan) (steps : List Step) (rest : List ℕ) → IsPlan plan → AllByRecursion (IsNameable plan) steps
    → text_lines (step_lines plan steps ++ rest) ≡ map (step_text plan) steps ++ text_lines rest
unfolding step_line
steps_then plan [] rest is all = refl
steps_then plan (step ∷ steps) rest is all =
    ap text_lines (append_assoc (step_text plan step ++ codes "\n") (step_lines plan steps) rest ∙ append_assoc (step_text plan step) (codes "\n") (step_lines plan steps ++ rest))
    ∙ one_more_line (step_text plan step) (step_lines plan steps ++ rest) (step_shown plan step is all.0)
    ∙ ap (λ l. step_text plan step ∷ l) (steps_then plan steps rest is all.1)

-- a line without either is read as it is
pub plain_then : (line rest : List ℕ) → list_all is_plain line ≡ true → text_lines ((line ++ codes "\n") ++ rest) ≡ line ∷ text_lines rest
plain_then line rest plain =
    ap text_lines (append_assoc line (codes "\n") rest) ∙ first_line line rest (plain_one line plain)
    ∙ ap (λ l. l ∷ text_lines rest) (read_plain line (plain_ended line plain))

pub sum_then : (text rest : List ℕ) → text_lines ((sum_line text ++ codes "\n") ++ rest) ≡ sum_line text ∷ text_lines rest
sum_then text rest = plain_then (sum_line text) rest (sum_plain text)

end_then : (plan : LabPlan) (events : List Event) (ended : Bool) (rest : List ℕ)
    → text_lines ((if ended then end_text plan events else []) ++ rest) ≡ (if ended then sum_line (lines_text plan events) ∷ [] else []) ++ text_lines rest
end_then plan events true rest = sum_then (lines_text plan events) rest
end_then plan events false rest = refl

pub piece_then : (plan : LabPlan) (piece : Piece) (rest : List ℕ) → IsPlan plan → AllByRecursion (IsNameable plan) (map step_of piece.events)
    → text_lines (piece_text plan piece ++ rest) ≡ piece_lines plan piece ++ text_lines rest
piece_then plan piece rest is all =
    let lines = lines_text plan piece.events in
    let end : List ℕ = if piece.ended then end_text plan piece.events else [] in
    let own : List (List ℕ) = map (step_text plan) (map step_of piece.events) in
    ap text_lines (append_assoc (codes "#steps\n" ++ lines) end rest ∙ append_assoc (codes "#steps\n") lines (end ++ rest))
    ∙ one_more_line (codes "#steps") (lines ++ (end ++ rest)) refl
    ∙ ap (λ l. codes "#steps" ∷ l) (steps_then plan (map step_of piece.events) (end ++ rest) is all
    ∙ ap (λ l. own ++ l) (end_then plan piece.events piece.ended rest) ∙ sym (append_assoc own (end_lines plan piece) (text_lines rest)))

-- the steps of each piece can be named
abbrev pub AreNameable : LabPlan → List Piece → Type 0
AreNameable plan pieces = AllByRecursion (λ (piece : Piece). AllByRecursion (IsNameable plan) (map step_of piece.events)) pieces

pub lines_of_pieces : (plan : LabPlan) (pieces : List Piece) → IsPlan plan → AreNameable plan pieces
    → text_lines (flat_map (piece_text plan) pieces) ≡ all_lines plan pieces
lines_of_pieces plan [] is all = no_text
lines_of_pieces plan (piece ∷ pieces) is all =
    piece_then plan piece (flat_map (piece_text plan) pieces) is all.0 ∙ ap (λ l. piece_lines plan piece ++ l) (lines_of_pieces plan pieces is all.1)
