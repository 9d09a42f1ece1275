use Rattle.std.proofs.Common.{◌≡◌, ℕ, ◌+◌, ◌-◌, length, map, slice_index_or, arith, refl, sym, ap, ◌∙◌}
use Rattle.std.proofs.lemmas.Slice.Eq.{bytes_eq-Decides}
use Rattle.lab_plan.specs.LabPlan.{LabPlan, session_at, sessions, no_session, job_at}
use Rattle.arranging.specs.Reordered.{named_session}
use Rattle.arranging.proofs.Arrangements.{maps_meet, maps_same}
use Rattle.arranging.proofs.same_jobs.is_same_job.Goals as goal

here : (plan : LabPlan) (j k : ℕ) → named_session plan (session_at plan j (k + 1)) ≡ named_session plan (slice_index_or (sessions plan j) k no_session)
here plan j k = let place : (k + 1) - 1 ≡ k = omega arith in ap (λ n. named_session plan (slice_index_or (sessions plan j) n no_session)) place

pub returns-then-not-is_same_session : goal.returns-then-not-is_same_session
returns-then-not-is_same_session g c =
    let p = c.args.plan.now in
    let q = c.args.other.now in
    let i = c.args.mine in
    let j = c.args.yours in
    let k = c.loop-before.before in (
      λ no. cc,
      λ all.
          let maps : map (named_session p) (sessions p i) ≡ map (named_session q) (sessions q j) = ap (λ job. job.sessions) all in
          let same = maps_same (named_session p) (named_session q) (sessions p i) (sessions q j) k no_session no_session maps
          (omega (arith, c.loop-before-test.true, c.sessions-before-end.ensures.sessions)) in
          sym c.if-not-is_same_session.true ∙ c.is_same_session.ensures.1 (here p i k ∙ same ∙ sym (here q j k)),
    )

pub returns : goal.returns
returns g c =
    let p = c.args.plan.now in
    let q = c.args.other.now in
    let i = c.args.mine in
    let j = c.args.yours in
    let long : length (sessions p i) ≡ length (sessions q j) = omega (arith, c.if-sessions.false, c.sessions.ensures.sessions, c.sessions-2.ensures.sessions) in
    let all : map (named_session p) (sessions p i) ≡ map (named_session q) (sessions q j) =
    maps_meet (named_session p) (named_session q) (sessions p i) (sessions q j) no_session no_session long
    (λ k below.
    sym (here p i k) ∙ c.loop-before.invariant k (omega (arith, below, c.loop-before-test.false, c.sessions-before-end.ensures.sessions)) ∙ here q j k) in
    let name : (job_at p i).name ≡ (job_at q j).name =
    sym c.job_name.ensures.value ∙ (bytes_eq-Decides c.job_name.result.now c.job_name-2.result.now).0 (sym c.if-not-is_same_name.ensures) ∙ c.job_name-2.ensures.value in
    (λ _ n. record { name = name n; sessions = all n }, λ _. refl)
