use Rattle.std.proofs.Common.{ℕ, List, length, refl, sym, ◌∙◌, subst, arith, add-one}
use Rattle.lab_plan.specs.LabPlan.{edges}
use Rattle.rounds.specs.Company.{AllOf, IsAgreed}
use Rattle.turns.specs.AtTheEnd.{BothKnow}
use Rattle.rounds.specs.Rounds.{Player, Rounds, players_of}
use Rattle.rounds.proofs.Together.{company_of}
use Rattle.rounds.proofs.Reasons.{ended_all, ended_quiet, ended_limit, going, agreed_then, then_agreed, quiet_then, quiet_else}
use Rattle.rounds.proofs.drive.play.Goals as goal
use Rattle.rounds.proofs.drive.play.Goals.{then-idle, else-idle}

pub returns-then-all_retired-clause-played : goal.returns-then-all_retired-clause-played
returns-then-all_retired-clause-played g c = λ whole. let inv = c.loop-number.invariant in let q = inv.3 whole in (
  q.0,
  ended_all c.args.bench.now c.args.limit (players_of c.args.desks.now) c.args.news.front c.loop-number.last.front
      c.loop-number.desks c.loop-number.number c.loop-number.quiet (subst (AllOf c.args.bench.now.plan) (sym inv.2) c.requires.all)
      (company_of c.args.bench.now c.loop-number.last.front c.loop-number.desks inv.0 whole) q.1
      c.loop-number.number refl (let l = c.loop-number-test.true in omega arith) (sym c.all_retired.ensures ∙ c.if-all_retired.true),
)

pub returns-then-quiet-clause-played : goal.returns-then-quiet-clause-played
returns-then-quiet-clause-played g c = λ whole. let inv = c.loop-number.invariant in let q = inv.3 whole in (
  q.0,
  ended_quiet c.args.bench.now c.args.limit (players_of c.args.desks.now) c.args.news.front c.loop-number.last.front
      c.loop-number.desks c.loop-number.number c.loop-number.quiet (subst (AllOf c.args.bench.now.plan) (sym inv.2) c.requires.all)
      (company_of c.args.bench.now c.loop-number.last.front c.loop-number.desks inv.0 whole) q.1
      c.loop-number.number refl (let l = c.loop-number-test.true in omega arith) (sym c.all_retired.ensures ∙ c.if-all_retired.false) c.if-quiet.true,
)

pub round-idle-requires-clause-all : goal.round-idle-requires-clause-all
round-idle-requires-clause-all g c = subst (AllOf c.args.bench.now.plan) (sym c.loop-number.invariant.2) c.requires.all

pub is_agreed-quiet-requires-clause-all : goal.is_agreed-quiet-requires-clause-all
is_agreed-quiet-requires-clause-all g c = subst (AllOf c.args.bench.now.plan) (sym (c.round-idle.ensures.jobs ∙ c.loop-number.invariant.2)) c.requires.all

pub loop-number-preserved : goal.loop-number-preserved
loop-number-preserved g c =
    let inv = c.loop-number.invariant in
    let r = c.round-idle.ensures in
    let b = c.args.bench.now in
    let first : List Player = players_of c.args.desks.now in
    let result = c.round-idle.result in
    let new = c.round-idle.new.desks in
    let jobs = r.jobs ∙ inv.2 in (
      r.spread,
      r.news,
      jobs,
      λ whole. let t = r.plays whole in
          let q = inv.3 t.0 in
          let all = subst (AllOf b.plan) (sym jobs) c.requires.all in
          let joint = company_of b result.1.front new r.spread whole in (
            q.0,
            (
              result.0,
              subst (λ (n : ℕ). Rounds b.plan first n result.0 c.args.news.front result.1.front (players_of new)) (sym (add-one c.loop-number.number)) (
                c.loop-number.last.front,
                q.1.0,
                players_of c.loop-number.desks,
                q.1.1,
                going b c.args.limit first c.args.news.front c.loop-number.last.front c.loop-number.desks c.loop-number.number
                    c.loop-number.quiet (subst (AllOf b.plan) (sym inv.2) c.requires.all)
                    (company_of b c.loop-number.last.front c.loop-number.desks inv.0 t.0) q.1
                    (sym c.all_retired.ensures ∙ c.if-all_retired.false) c.if-quiet.false,
                t.1,
              ),
              elim c.if-idle.branch [
                | then-idle w ↦ quiet_then result.0 w.is_agreed-quiet.result c.if-idle.quiet (IsAgreed new b.plan (length (edges b.plan)))
                    (BothKnow b.plan result.1.front) w.if-idle.true w.quiet-is w.is_agreed-quiet.ensures
                    (agreed_then b result.1.front new joint all) (then_agreed b result.1.front new joint all)
                | else-idle w ↦ quiet_else result.0 c.if-idle.quiet (BothKnow b.plan result.1.front) w.if-idle.false w.quiet-is
              ],
            ),
          ),
    )

pub returns-then-all_retired-2-clause-played : goal.returns-then-all_retired-2-clause-played
returns-then-all_retired-2-clause-played g c = λ whole. let inv = c.loop-number.invariant in let q = inv.3 whole in (
  q.0,
  ended_all c.args.bench.now c.args.limit (players_of c.args.desks.now) c.args.news.front c.loop-number.last.front
      c.loop-number.desks c.loop-number.number c.loop-number.quiet (subst (AllOf c.args.bench.now.plan) (sym inv.2) c.requires.all)
      (company_of c.args.bench.now c.loop-number.last.front c.loop-number.desks inv.0 whole) q.1
      c.args.limit (let l = c.loop-number-test.false in let m = c.loop-number.auto.number-end in omega arith) (omega arith) (sym c.all_retired-2.ensures
      ∙ c.if-all_retired-2.true),
)

pub returns-then-quiet-2-clause-played : goal.returns-then-quiet-2-clause-played
returns-then-quiet-2-clause-played g c = λ whole. let inv = c.loop-number.invariant in let q = inv.3 whole in (
  q.0,
  ended_quiet c.args.bench.now c.args.limit (players_of c.args.desks.now) c.args.news.front c.loop-number.last.front
      c.loop-number.desks c.loop-number.number c.loop-number.quiet (subst (AllOf c.args.bench.now.plan) (sym inv.2) c.requires.all)
      (company_of c.args.bench.now c.loop-number.last.front c.loop-number.desks inv.0 whole) q.1
      c.args.limit (let l = c.loop-number-test.false in let m = c.loop-number.auto.number-end in omega arith)
      (omega arith) (sym c.all_retired-2.ensures ∙ c.if-all_retired-2.false) c.if-quiet-2.true,
)

pub returns-clause-played : goal.returns-clause-played
returns-clause-played g c = λ whole. let inv = c.loop-number.invariant in let q = inv.3 whole in (
  q.0,
  ended_limit c.args.bench.now c.args.limit (players_of c.args.desks.now) c.args.news.front c.loop-number.last.front
      c.loop-number.desks c.loop-number.number c.loop-number.quiet (subst (AllOf c.args.bench.now.plan) (sym inv.2) c.requires.all)
      (company_of c.args.bench.now c.loop-number.last.front c.loop-number.desks inv.0 whole) q.1
      (let l = c.loop-number-test.false in let m = c.loop-number.auto.number-end in omega arith)
      (sym c.all_retired-2.ensures ∙ c.if-all_retired-2.false) c.if-quiet-2.false,
)
