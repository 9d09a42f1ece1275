-- A line more.
use Rattle.std.proofs.Common.{◌≡◌, ℕ, ◌+◌, List, [], ◌∷◌, ◌++◌, length, ap, ◌∙◌, arith, None, length-append}
use Rattle.std.specs.Prelude.{codes, cond}
use Rattle.std.proofs.lemmas.List.Sums.{sum_by_push}
use Rattle.bay_log.specs.Lines.{line_words, line_text, last_sum, log_text}
use Rattle.bay_log.specs.Alive.{begins}
use Rattle.bay_log.specs.Laws.{GrowsByALine}
use Rattle.bay_log.proofs.Appended.{base_both, text_more}
use Rattle.bay_log.proofs.Holding.{alive_both}

pub grows : GrowsByALine
grows log line s =
    let words = line_words (last_sum log.lines) line in
    let size : length (log_text (log.lines ++ line ∷ [])) ≡ length (log_text log.lines) + length (line_text (last_sum log.lines) line) =
    ap (λ (l : List ℕ). length l) (text_more log.lines line) ∙ length-append (log_text log.lines) (line_text (last_sum log.lines) line) in
    record {
      held = λ n. ap (λ f. f n) (alive_both (λ m. None) log.lines (line ∷ []));
      counted = λ n. sum_by_push (λ l. cond (begins n l) 1 0) log.lines line;
      later = omega (arith, size, base_both log.lines (line ∷ []) s.begun, length-append words (codes "\n"));
    }
