-- What the end of a script answers, by what its builder answers.
use Rattle.std.proofs.Common.{◌≡◌, Bool, true, false, if◌then◌else◌, refl, sym, ◌∙◌}
use Rattle.std.specs.Prelude.{Option, None, Some, Err}
use Rattle.lab_plan.specs.Building.{is_bare, has_too_many_in_common, finish_refusal, but_memory}
use Rattle.lab_plan.specs.declared.refusal.PlanRefusal.{PlanRefusal}
use Rattle.lab_plan.specs.declared.refusal.PlanRefusal.TheVariants as refusals
use Rattle.script_reader.specs.declared.fault.ScriptCause.{ScriptCause}
use Rattle.script_reader.specs.declared.fault.ScriptCause.TheVariants.{NoHeader, SessionNotClosed, TooManyInCommon}
use Rattle.script_reader.specs.Refused.{cause_of}
use Rattle.script_reader.specs.State.{State, IsTied, Ends, at, end_cause_in}

abbrev refusal : Bool → Bool → Option PlanRefusal
refusal bare many = if bare then Some refusals.SessionEmpty else (if many then Some refusals.TooManyInCommon else None)

abbrev end_cause : Bool → Bool → Bool → Option ScriptCause
end_cause fresh within many = at fresh NoHeader (at within SessionNotClosed (at many TooManyInCommon None))

met : (fresh within bare many : Bool) → fresh ≡ false → within ≡ false → bare ≡ false → refusal bare many ≡ None → end_cause fresh within many ≡ None
met false false false false f o b n = refl
met false false false true f o b n = cc
met false false true many f o b n = cc
met false true bare many f o b n = cc
met true within bare many f o b n = cc

crowded : (fresh within bare many : Bool) → fresh ≡ false → within ≡ false → bare ≡ false → refusal bare many ≡ Some refusals.TooManyInCommon
    → end_cause fresh within many ≡ Some TooManyInCommon
crowded false false false true f o b n = refl
crowded false false false false f o b n = cc
crowded false false true many f o b n = cc
crowded false true bare many f o b n = cc
crowded true within bare many f o b n = cc

no_limit : (bare many : Bool) → bare ≡ false → refusal bare many ≡ Some refusals.LimitPassed → ⊥
no_limit true many b n = cc
no_limit false true b n = cc
no_limit false false b n = cc

no_empty : (bare many : Bool) → bare ≡ false → refusal bare many ≡ Some refusals.SessionEmpty → ⊥
no_empty true many b n = cc
no_empty false true b n = cc
no_empty false false b n = cc

no_twice : (bare many : Bool) → bare ≡ false → refusal bare many ≡ Some refusals.JobTwice → ⊥
no_twice true many b n = cc
no_twice false true b n = cc
no_twice false false b n = cc

not_bare : (s : State) → IsTied s → s.in_session ≡ false → is_bare s.plan ≡ false
not_bare s tied closed = sym tied.bare ∙ tied.closed closed

-- a builder that gives its plan has met no cause
pub gives : (s : State) → IsTied s → s.fresh ≡ false → s.in_session ≡ false → finish_refusal s.plan ≡ None → end_cause_in s ≡ None
gives s tied f o n = met s.fresh s.in_session (is_bare s.plan) (has_too_many_in_common s.plan) f o (not_bare s tied o) n

-- and one that refuses tells the cause that the end meets
pub refuses : (s : State) → IsTied s → s.fresh ≡ false → s.in_session ≡ false → (cause : PlanRefusal) → finish_refusal s.plan ≡ but_memory cause
    → Ends s (Err (cause_of cause))
refuses s tied f o refusals.NoMemory n = gives s tied f o n
refuses s tied f o refusals.TooManyInCommon n = crowded s.fresh s.in_session (is_bare s.plan) (has_too_many_in_common s.plan) f o (not_bare s tied o) n
refuses s tied f o refusals.LimitPassed n = absurd (no_limit (is_bare s.plan) (has_too_many_in_common s.plan) (not_bare s tied o) n)
refuses s tied f o refusals.SessionEmpty n = absurd (no_empty (is_bare s.plan) (has_too_many_in_common s.plan) (not_bare s tied o) n)
refuses s tied f o refusals.JobTwice n = absurd (no_twice (is_bare s.plan) (has_too_many_in_common s.plan) (not_bare s tied o) n)
