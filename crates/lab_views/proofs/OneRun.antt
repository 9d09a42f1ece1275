-- The rounds of a plan's run are the same, whoever tells of them.
use Rattle.std.proofs.Common.{◌≡◌, List, [], length, map, sym, ◌∙◌, subst}
use Rattle.std.specs.List.{range_with_len}
use Rattle.lab_plan.specs.LabPlan.{LabPlan}
use Rattle.legal_steps.specs.declared.event.Event.{Event}
use Rattle.legal_steps.specs.Opening.{the_opening}
use Rattle.script_reader.specs.Laws.{HasOnePlan}
use Rattle.report.specs.Events.{report_after, retired_after}
use Rattle.rounds.specs.OneRun.{RanRounds, OneRun}
use Rattle.rounds.specs.FromOpening.{fresh_players}
use Rattle.rounds.specs.OneRun.{why_ended}
use Rattle.waiting.specs.Rounds.{joined}
use Rattle.waiting.specs.Waits as waits
use Rattle.waiting.proofs.OneRun.{one_rounds}
use Rattle.blocking.specs.Blocks as blocks
use Rattle.blocking.specs.Keepers as keeping
use Rattle.block_lines.specs.Text.{blocks_text}
use Rattle.round_picture.specs.Gantt.{gantt_of}
use Rattle.lab_program.specs.Reports.{outcome_of}
use Rattle.lab_views.specs.OneRun.{RoundsAreReported, HasOnePicture, HasOneListOfBlocks}

pub rounds_are_reported : HasOnePlan → OneRun → RoundsAreReported
rounds_are_reported one_plan one limit input report ended plan retired rounds means are r =
    let p : LabPlan = r.by_turns.plan in
    let h : List Event = r.by_turns.history in
    let same_plan : p ≡ plan = one_plan input p plan r.by_turns.means means in
    let moved : RanRounds plan limit (fresh_players (length plan.jobs)) [] r.ended r.number h =
    subst (λ (z : LabPlan). RanRounds z limit (fresh_players (length z.jobs)) [] r.ended r.number h) same_plan r.rounds in
    let same = one plan limit (fresh_players (length plan.jobs)) [] r.ended (why_ended retired) r.number (length rounds) h (joined rounds) moved are.ran in
    record {
      number_is = sym same.1;
      report_is = r.by_turns.reported.report ∙ (λ i. report_after (same_plan i) (the_opening (same_plan i)) (same.2 i));
      ended_is = r.by_turns.reported.ends ∙ (λ i. outcome_of (retired_after (same_plan i) (the_opening (same_plan i)) (same.2 i)));
    }

pub has_one_picture : HasOnePlan → HasOnePicture
has_one_picture one_plan limit input text text' outcome outcome' a b =
    let same_plan : a.plan ≡ b.plan = one_plan input a.plan b.plan a.means b.means in
    let moved : keeping.IsKeptRun b.plan limit a.run = subst (λ (z : LabPlan). keeping.IsKeptRun z limit a.run) same_plan a.is_run in
    let same = one_rounds b.plan limit a.run.run.retired b.run.run.retired moved.rounds b.is_run.rounds moved.are_rounds b.is_run.are_rounds in
    let retired : a.run.run.retired ≡ b.run.run.retired = same.0 in
    let run : a.run.run ≡ b.run.run = moved.known ∙ ((λ i. waits.run_of (length b.plan.jobs) (retired i) (same.1 i)) ∙ sym b.is_run.known) in
    let kept : a.run.keepers ≡ b.run.keepers =
    moved.keepers ∙ ((λ i. map (keeping.keepers_of b.plan (same.1 i)) (range_with_len 0 (length b.plan.jobs))) ∙ sym b.is_run.keepers) in
    let all : a.run ≡ b.run = λ i. record { run = run i; keepers = kept i } in
    a.written ∙ ((λ i. gantt_of (same_plan i) (all i)) ∙ sym b.written)

pub has_one_list : HasOnePlan → HasOneListOfBlocks
has_one_list one_plan limit input text text' outcome outcome' a b =
    let same_plan : a.plan ≡ b.plan = one_plan input a.plan b.plan a.means b.means in
    let moved : blocks.IsBlockedRun b.plan limit a.run = subst (λ (z : LabPlan). blocks.IsBlockedRun z limit a.run) same_plan a.is_run in
    let same = one_rounds b.plan limit a.run.retired b.run.retired moved.rounds b.is_run.rounds moved.are_rounds b.is_run.are_rounds in
    let retired : a.run.retired ≡ b.run.retired = same.0 in
    let number : a.run.number ≡ b.run.number = moved.number ∙ ((λ i. length (same.1 i)) ∙ sym b.is_run.number) in
    let all : a.run.blocks ≡ b.run.blocks =
    moved.blocks ∙ ((λ i. map (blocks.block_of b.plan (same.1 i)) (blocks.places b.plan)) ∙ sym b.is_run.blocks) in
    a.written ∙ ((λ i. blocks_text (same_plan i) (number i) (retired i) (all i)) ∙ sym b.written)
