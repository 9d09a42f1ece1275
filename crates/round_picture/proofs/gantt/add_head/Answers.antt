use Rattle.std.proofs.Common.{◌≡◌, ℕ, List, ◌++◌, codes, ap, ◌∙◌}
use Rattle.std.proofs.lemmas.Result.{IfOk-weaker}
use Rattle.waiting.specs.Text.{rounds_line}
use Rattle.round_picture.proofs.Pieces.{two}
use Rattle.round_picture.specs.Gantt.{full_width, full_height, size_text, legend, thin, head_text}
use Rattle.round_picture.proofs.gantt.add_head.Goals as goal

pub returns : goal.returns
unfolding head_text
returns g c =
    let old : List ℕ = c.args.out.now.items in
    let run = c.args.run.now in
    let q1 : List ℕ = size_text (full_width run.number) (full_height c.args.jobs) in
    let e1 : c.add_canvas.new.out.items ≡ old ++ q1 =
    c.in_ok-add_canvas.ensures ∙ ap (λ (n : ℕ). old ++ size_text (full_width n) (full_height c.args.jobs)) c.rounds-last.ensures in
    let q2 : List ℕ = q1 ++ legend in
    let e2 : c.add_legend.new.out.items ≡ old ++ q2 =
    two old c.add_canvas.new.out.items c.add_legend.new.out.items q1 legend e1 c.in_ok-add_legend.ensures in
    let t3 : List ℕ = codes "<text x=\"10\" y=\"50\" font-size=\"13\">" in
    let q3 : List ℕ = q2 ++ t3 in
    let e3 : c.add_text.new.out.items ≡ old ++ q3 = two old c.add_legend.new.out.items c.add_text.new.out.items q2 t3 e2 c.in_ok-add_text.ensures in
    let q4 : List ℕ = q3 ++ rounds_line run in
    let e4 : c.add_rounds.new.out.items ≡ old ++ q4 =
    two old c.add_text.new.out.items c.add_rounds.new.out.items q3 (rounds_line run) e3 c.in_ok-add_rounds.ensures in
    let t5 : List ℕ = codes "</text>\n<g transform=\"translate(150 90)\"" in
    let q5 : List ℕ = q4 ++ t5 in
    let e5 : c.add_text-2.new.out.items ≡ old ++ q5 =
    two old c.add_rounds.new.out.items c.add_text-2.new.out.items q4 t5 e4 c.in_ok-add_text-2.ensures in
    let q6 : List ℕ = q5 ++ thin run.number in
    let e6 : c.add_text-3.new.out.items ≡ old ++ q6 =
    two old c.add_text-2.new.out.items c.add_text-3.new.out.items q5 (thin run.number) e5
    (c.in_ok-add_text-3.ensures ∙ ap (λ (l : List ℕ). c.add_text-2.new.out.items ++ l) (c.thin.ensures ∙ ap thin c.rounds-last.ensures)) in
    let t : List ℕ = codes ">\n" in
    let end : List ℕ = c.add_text-4.new.out.items in
    IfOk-weaker c.add_text-4.result (λ _. end ≡ c.add_text-3.new.out.items ++ t) (λ _. end ≡ old ++ head_text c.args.jobs run)
    (λ _ last. two old c.add_text-3.new.out.items end q6 t e6 last) c.add_text-4.ensures
