-- The sessions of a draft are small.
use Rattle.std.proofs.Common.{◌≡◌, ℕ, zero, suc, ◌+◌, ◌-◌, ◌<◌, ◌≤◌, Bool, ◌||◌, List, [], ◌∷◌, length, slice_index_or, arith, refl, ap, ◌∙◌, subst, length-append}
use Rattle.std.specs.List.{All, flat_map, list_any}
use Rattle.std.proofs.lemmas.List.Elements.{All-nil, All-head, All-tail, All-append}
use Rattle.std.proofs.lemmas.List.Folds.{list_any-append}
use Rattle.std.proofs.lemmas.List.{get_or_default}
use Rattle.lab_plan.specs.declared.verb.Verb.{Verb}
use Rattle.lab_plan.specs.LabPlan.{SessionPlan, JobPlan, LabPlan, no_job, no_session, commands, sessions}
use Rattle.lab_plan.specs.IsPlan.{IsDraft}
use Rattle.lab_plan.specs.Cuts.{commands_of}
use Rattle.lab_plan.specs.NamedBy.{HasSmall}

-- a piece is no longer than the whole
piece : {X Y : Type 0} (f : X → List Y) (xs : List X) (k : ℕ) (d : X) → k < length xs → length (f (slice_index_or xs k d)) ≤ length (flat_map f xs)
piece f [] k d h = absurd (omega (arith, h))
piece f (x ∷ xs) zero d h = omega (arith, length-append (f x) (flat_map f xs))
piece f (x ∷ xs) (suc k) d h = let rest = piece f xs k d (omega (arith, h)) in omega (arith, length-append (f x) (flat_map f xs), rest)

-- the commands of all sessions together
pub all_commands_are : (P : ℕ × Verb → Type 0) (sessions : List SessionPlan) → All (λ session. All P session.commands) sessions → All P (commands_of sessions)
all_commands_are P [] h = All-nil P
all_commands_are P (s ∷ sessions) h =
    let Q : SessionPlan → Type 0 = λ session. All P session.commands in
    All-append P s.commands (commands_of sessions) (All-head Q s sessions h) (all_commands_are P sessions (All-tail Q s sessions h))

pub any_command_is : (p : ℕ × Verb → Bool) (sessions : List SessionPlan) → list_any p (commands_of sessions) ≡ list_any (λ session. list_any p session.commands) sessions
any_command_is p [] = refl
any_command_is p (s ∷ sessions) = list_any-append p s.commands (commands_of sessions) ∙ ap (λ b. list_any p s.commands || b) (any_command_is p sessions)

pub small : (plan : LabPlan) → IsDraft plan → All HasSmall plan.jobs
small plan draft j d in_jobs s e in_sessions =
    let job : JobPlan = slice_index_or plan.jobs j d in
    let session : SessionPlan = slice_index_or job.sessions s e in
    let same_job : slice_index_or plan.jobs j no_job ≡ job = get_or_default plan.jobs j no_job d in_jobs in
    let before : s + 1 - 1 ≡ s = omega arith in
    let same : commands plan j (s + 1) ≡ session.commands =
    ap (λ k. (slice_index_or (sessions plan j) k no_session).commands) before
    ∙ ap (λ x. (slice_index_or x.sessions s no_session).commands) same_job
    ∙ ap (λ x. x.commands) (get_or_default job.sessions s no_session e in_sessions) in
    let one = piece (λ x. x.commands) job.sessions s e in_sessions in
    let all = piece (λ x. flat_map (λ y. y.commands) x.sessions) plan.jobs j d in_jobs in
    record {
      numbered = λ k c within. let few = draft.few_instruments in
          let below = subst (λ cs. All (λ command. command.0 < length plan.instruments) cs) same (draft.named j (s + 1)) k c within in
          omega (arith, below, few);
      few = omega (arith, one, all, draft.few_commands);
    }

pub few_in_job : (plan : LabPlan) (j : ℕ) → IsDraft plan → j < length plan.jobs → length (commands_of (sessions plan j)) ≤ 100000
few_in_job plan j draft inside = let all = piece (λ x. commands_of x.sessions) plan.jobs j no_job inside in omega (arith, all, draft.few_commands)

pub few_in_session : (plan : LabPlan) (j s : ℕ) → IsDraft plan → j < length plan.jobs → 1 ≤ s → s ≤ length (sessions plan j) → length (commands plan j s) ≤ 100000
few_in_session plan j s draft in_jobs begun is_session =
    let one = piece (λ x. x.commands) (sessions plan j) (s - 1) no_session (omega (arith, begun, is_session)) in
    omega (arith, one, few_in_job plan j draft in_jobs)
