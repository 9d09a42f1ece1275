-- What was handed out is a beginning of the text of all lines.
use Rattle.std.proofs.Common.{◌≡◌, ℕ, zero, suc, ◌+◌, ◌-◌, ◌≤◌, List, [], ◌∷◌, ◌++◌, length, take, refl, sym, ◌∙◌, arith}
use Rattle.std.proofs.lemmas.List.{take-append-drop, take-append-le}
use Rattle.bay_log.specs.Lines.{line_text, last_sum, log_text, base_of}
use Rattle.bay_log.specs.Logs.{unsent_of}
use Rattle.bay_log.specs.Laws.{handed_of, FilesAreBeginnings}
use Rattle.bay_log.proofs.Appended.{base_both, text_more}
use Rattle.bay_log.proofs.Back.{take_all_of}

taken_of : (l : List ℕ) (m n : ℕ) → m ≤ n → (rest : List ℕ) × (take n l ≡ take m l ++ rest)
taken_of l zero n h = (take n l, refl)
taken_of l (suc m) zero h = absurd (omega arith)
taken_of [] (suc m) (suc n) h = ([], refl)
taken_of (x ∷ l) (suc m) (suc n) h = let more = taken_of l m n (omega arith) in (more.0, λ i. x ∷ more.1 i)

pub beginnings : FilesAreBeginnings
beginnings log s =
    let base : ℕ = base_of log.lines in
    let text : List ℕ = log_text log.lines in
    let n : ℕ = log.sent - base in
    let all : text ≡ handed_of log ++ unsent_of log = sym (take-append-drop n text) in
    record {
      all = all;
      added =
          λ line.
          (λ i. take (log.sent - base_both log.lines (line ∷ []) s.begun i) (text_more log.lines line i))
          ∙ take-append-le n text (line_text (last_sum log.lines) line) (omega (arith, s.sent));
      sent = take_all_of text (base + length text - base) (omega arith) ∙ all;
      reached = λ position. refl;
      failed = refl;
      durable = taken_of text (log.durable - base) n (omega (arith, s.durable));
    }
