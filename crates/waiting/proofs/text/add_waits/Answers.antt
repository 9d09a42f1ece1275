use Rattle.std.proofs.Common.{◌≡◌, ◌++◌, List, ℕ, length, ap, ◌∙◌}
use Rattle.std.specs.List.{flat_map}
use Rattle.std.proofs.lemmas.Result.{IfOk-weaker}
use Rattle.waiting.specs.declared.waits.Longest.{Longest}
use Rattle.waiting.specs.Text.{rounds_line, sessions_text, job_text, jobs, longest_line, longest_below, chain_line, waits_text}
use Rattle.waiting.proofs.Pieces.{five}
use Rattle.waiting.proofs.text.add_waits.Goals as goal

pub returns : goal.returns
unfolding waits_text
returns g c =
    let plan = c.args.plan.now in let run = c.args.run.now in let chain : List ℕ = c.args.chain.now in
    let before : List ℕ = c.add_longest.new.out.items in let end : List ℕ = c.add_chain.new.out.items in
    let old : List ℕ = c.args.out.now.items in
    let longest = c.in_ok-add_longest.ensures ∙ ap (λ (x : Longest). c.add_jobs.new.out.items ++ longest_line plan x)
    (c.longest_below.ensures.longest ∙ ap (longest_below run) c.jobs.ensures.jobs) in
    IfOk-weaker c.add_chain.result (λ _. end ≡ before ++ chain_line plan chain) (λ _. end ≡ old ++ waits_text plan run chain)
    (λ _ last. five old c.add_rounds.new.out.items c.add_all_sessions.new.out.items c.add_jobs.new.out.items before end (rounds_line run)
    (flat_map (sessions_text plan run) (jobs plan)) (flat_map (job_text plan run) (jobs plan)) (longest_line plan (longest_below run (length plan.jobs)))
    (chain_line plan chain) c.in_ok-add_rounds.ensures c.in_ok-add_all_sessions.ensures c.in_ok-add_jobs.ensures longest last)
    c.add_chain.ensures
