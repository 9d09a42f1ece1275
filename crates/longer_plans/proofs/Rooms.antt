-- One more session takes as much more room in a log as it has commands on its instrument.
use Rattle.std.proofs.Common.{◌≡◌, ◌≢◌, ℕ, zero, suc, ◌+◌, ◌<◌, List, [], ◌∷◌, ◌++◌, length, refl, sym, ap, ◌∙◌, subst, inl, inr, arith, length-set, get_or-set_same, get_or-set_other}
use Rattle.std.specs.List.{flat_map}
use Rattle.std.proofs.lemmas.Bool.{cases_eq}
use Rattle.std.proofs.lemmas.List.{append-nil}
use Rattle.std.proofs.lemmas.List.Concat.{flat_map-append}
use Rattle.lab_plan.specs.declared.verb.Verb.{Verb}
use Rattle.lab_plan.specs.LabPlan.{LabPlan, SessionPlan, JobPlan, no_job, job_at, sessions, count_on}
use Rattle.legal_steps.proofs.RoomShares.{sum_to, room_is_sum, count_on-append}
use Rattle.lab_plan.specs.Longer.{with_session, with_one_more}
use Rattle.longer_plans.specs.OneMore.{NeedsMoreRoom}

sum_to-same : (f g : ℕ → ℕ) (n : ℕ) → ((k : ℕ) → k < n → g k ≡ f k) → sum_to g n ≡ sum_to f n
sum_to-same f g zero h = refl
sum_to-same f g (suc n) h = let rest = sum_to-same f g n (λ k below. h k (omega arith)) in let last = h n (omega arith) in omega arith

-- one term is larger by d
sum_to-one : (f g : ℕ → ℕ) (n j d : ℕ) → j < n → ((k : ℕ) → k ≢ j → g k ≡ f k) → g j ≡ f j + d → sum_to g n ≡ sum_to f n + d
sum_to-one f g zero j d inside same more = absurd (omega arith)
sum_to-one f g (suc n) j d inside same more = elim (cases_eq j n) [
  | inl last ↦
      let here : g n ≡ f n + d = subst (λ k. g k ≡ f k + d) last more in
      let rest = sum_to-same f g n (λ k below. same k (λ is. absurd (omega arith))) in
      omega arith
  | inr other ↦
      let rest = sum_to-one f g n j d (omega arith) same more in
      let here = same n (λ is. other (sym is)) in
      omega arith
]

-- the commands of a job on an instrument
abbrev on_by : LabPlan → ℕ → ℕ → ℕ
on_by plan i j = count_on i (flat_map (λ session. session.commands) (sessions plan j))

on_own : (l : List SessionPlan) (session : SessionPlan) (i : ℕ)
    → count_on i (flat_map (λ x. x.commands) (l ++ session ∷ [])) ≡ count_on i (flat_map (λ x. x.commands) l) + count_on i session.commands
on_own l session i =
    let f : SessionPlan → List (ℕ × Verb) = λ x. x.commands in
    ap (count_on i) (flat_map-append f l (session ∷ []) ∙ ap (λ xs. flat_map f l ++ xs) (append-nil session.commands))
    ∙ count_on-append i (flat_map f l) session.commands

pub needs_more_room : NeedsMoreRoom
needs_more_room p j session i there =
    let q : LabPlan = with_one_more p j session in
    let many : length q.jobs ≡ length p.jobs = length-set p.jobs j (with_session (job_at p j) session) in
    let own : on_by q i j ≡ on_by p i j + count_on i session.commands =
    ap (λ (x : JobPlan). count_on i (flat_map (λ y. y.commands) x.sessions)) (get_or-set_same p.jobs j (with_session (job_at p j) session) no_job there)
    ∙ on_own (sessions p j) session i in
    let same : (k : ℕ) → k ≢ j → on_by q i k ≡ on_by p i k =
    λ k other. ap (λ (x : JobPlan). count_on i (flat_map (λ y. y.commands) x.sessions)) (get_or-set_other p.jobs j k (with_session (job_at p j) session) no_job other) in
    room_is_sum q i ∙ ap (sum_to (on_by q i)) many
    ∙ sum_to-one (on_by p i) (on_by q i) (length p.jobs) j (count_on i session.commands) there same own
    ∙ ap (λ n. n + count_on i session.commands) (sym (room_is_sum p i))
