-- A job has at most one meal for each session that it began.
use Rattle.std.proofs.Common.{◌≡◌, ◌≢◌, ℕ, ◌+◌, ◌<◌, ◌≤◌, cond, List, [], ◌∷◌, sym, ap, subst, ◌∙◌, refl, arith, add-zero}
use Rattle.std.proofs.lemmas.Bool.{eq-eqb, ne_eqb}
use Rattle.std.proofs.lemmas.List.Sums.{sum_by-cons}
use Rattle.lab_plan.specs.LabPlan.{LabPlan}
use Rattle.lab_plan.specs.IsPlan.{IsPlan}
use Rattle.legal_steps.specs.declared.phase.Dining.TheVariants.{Thinking, Hungry}
use Rattle.legal_steps.specs.declared.phase.Drinking.TheVariants.{Thirsty}
use Rattle.legal_steps.specs.declared.phase.JobState.{JobState}
use Rattle.legal_steps.specs.declared.event.Event.{Event}
use Rattle.legal_steps.specs.declared.event.Event.TheVariants.{Look, AskFork, GiveFork, Soil, AskBottles, GiveBottles, Thirst, Hunger, Sit, Leave, Drink, Reach, Act, Quit, Retire, Glance, Withdraw}
use Rattle.legal_steps.specs.State.{State, phase, session}
use Rattle.legal_steps.specs.Fitting.{Fits}
use Rattle.legal_steps.specs.Legal.{May, after}
use Rattle.legal_steps.specs.Run.{IsLegalFrom, after_all, is_sit, meals_of, actor}
use Rattle.legal_steps.specs.Opening.{IsOpening}
use Rattle.legal_steps.proofs.FitsLaw.{fits_after}
use Rattle.legal_steps.proofs.OpeningLemmas.{fits_opening}
use Rattle.legal_steps.proofs.LogBooks.{put-cases}
use Rattle.legal_steps.proofs.LogRun.{opening_phase}
use Rattle.legal_steps.proofs.CountLaw.{begun_few}
use Rattle.legal_steps.proofs.CountPhases.{phased, phases_after}

-- a job in this phase had m meals: at most one for each session, and none yet for this one where it is hungry, or thirsty and thinks
record HasEaten (x : JobState) (m : ℕ) : Type 0 where
  most : m ≤ x.session
  hungry : x.dining ≡ Hungry → m < x.session
  thirsty : x.dining ≡ Thinking → x.drinking ≡ Thirsty → m < x.session

-- how many meals of the job the event begins
abbrev begins : ℕ → Event → ℕ
begins j event = cond (is_sit j event) 1 0

-- the job is not thirsty, and dines as before
not_thirsty : (x y : JobState) (m : ℕ) → HasEaten x m → y.dining ≡ x.dining → y.session ≡ x.session → y.drinking ≢ Thirsty → HasEaten y m
not_thirsty x y m h dining session sated = record {
  most = omega (arith, h.most, session);
  hungry = λ e. omega (arith, h.hungry (sym dining ∙ e), session);
  thirsty = λ e thirst. absurd (sated thirst);
}

nothing : (x : JobState) (m : ℕ) → HasEaten x m → HasEaten x (m + 0)
nothing x m h = subst (HasEaten x) (sym (add-zero m)) h

-- the event's own job
eaten_own : (plan : LabPlan) (s : State) (event : Event) (m : ℕ) → May plan s event
    → HasEaten (phase s (actor event)) m → HasEaten (phased event (phase s (actor event))) (m + begins (actor event) event)
eaten_own plan s (Look j e seen) m may h = nothing _ m h
eaten_own plan s (AskFork j e) m may h = nothing _ m h
eaten_own plan s (GiveFork j e) m may h = nothing _ m h
eaten_own plan s (Soil j e) m may h = nothing _ m h
eaten_own plan s (AskBottles j e set) m may h = nothing _ m h
eaten_own plan s (GiveBottles j e set) m may h = nothing _ m h
eaten_own plan s (Thirst j) m may h =
    nothing _ m (record { most = omega (arith, h.most); hungry = λ e. omega (arith, h.most); thirsty = λ e thirst. omega (arith, h.most) })
eaten_own plan s (Hunger j) m may h = nothing _ m (record { most = h.most; hungry = λ e. h.thirsty may.1 may.2; thirsty = λ e thirst. absurd (cc) })
eaten_own plan s (Sit j) m may h =
    let one : begins j (Sit j) ≡ 1 = ap (λ b. cond b 1 0) (eq-eqb j j refl) in
    record { most = omega (arith, one, h.hungry may.1); hungry = λ e. absurd (cc); thirsty = λ e thirst. absurd (cc) }
eaten_own plan s (Leave j) m may h = nothing _ m (record { most = h.most; hungry = λ e. absurd (cc); thirsty = λ e thirst. absurd (may.2 thirst) })
eaten_own plan s (Drink j) m may h = nothing _ m (not_thirsty _ _ m h refl refl (λ e. cc))
eaten_own plan s (Reach j) m may h = nothing _ m (not_thirsty _ _ m h refl refl (λ e. cc))
eaten_own plan s (Act j) m may h = nothing _ m (not_thirsty _ _ m h refl refl (λ e. cc))
eaten_own plan s (Quit j) m may h = nothing _ m (not_thirsty _ _ m h refl refl (λ e. cc))
eaten_own plan s (Retire j) m may h = nothing _ m (not_thirsty _ _ m h refl refl (λ e. cc))
eaten_own plan s (Glance j other seen) m may h = nothing _ m h
eaten_own plan s (Withdraw j) m may h = nothing _ m (not_thirsty _ _ m h refl refl (λ e. cc))

-- another job's events
begins_none : (j : ℕ) (event : Event) → j ≢ actor event → begins j event ≡ 0
begins_none j (Sit k) other = ap (λ b. cond b 1 0) (ne_eqb k j (λ e. other (sym e)))
begins_none j _ other = refl

eaten_after : (plan : LabPlan) (s : State) (event : Event) (j m : ℕ) → Fits plan s → May plan s event
    → HasEaten (phase s j) m → HasEaten (phase (after plan s event) j) (m + begins j event)
eaten_after plan s event j m fit may h =
    subst (λ (x : JobState). HasEaten x (m + begins j event)) (sym (phases_after plan s event fit may j))
    (put-cases (λ k (x : JobState). HasEaten (phase s k) m → HasEaten x (m + begins k event))
    (λ k. phase s k) (actor event) (phased event (phase s (actor event))) j
    (λ here. eaten_own plan s event m may)
    (λ other before. subst (HasEaten (phase s j)) (omega (arith, begins_none j event other)) before) h)

meals_from : (plan : LabPlan) (s : State) (events : List Event) (j m : ℕ) → Fits plan s
    → IsLegalFrom plan s events → HasEaten (phase s j) m → m + meals_of j events ≤ session (after_all plan s events) j
meals_from plan s [] j m fit legal h = omega (arith, h.most)
meals_from plan s (event ∷ events) j m fit legal h =
    let later = meals_from plan (after plan s event) events j (m + begins j event)
    (fits_after plan s event fit legal.0) legal.1 (eaten_after plan s event j m fit legal.0 h) in
    omega (arith, later, sum_by-cons (λ e. cond (is_sit j e) 1 0) event events)

pub meals_bounded : (plan : LabPlan) (opening : State) (events : List Event) (j : ℕ) → IsOpening plan opening
    → IsLegalFrom plan opening events → meals_of j events ≤ session (after_all plan opening events) j
meals_bounded plan opening events j opens legal =
    let idle = opening_phase plan opening j opens in
    let none : HasEaten (phase opening j) 0 =
    subst (λ (x : JobState). HasEaten x 0) (sym idle) (record { most = omega arith; hungry = λ e. absurd (cc); thirsty = λ e thirst. absurd (cc) }) in
    omega (arith, meals_from plan opening events j 0 (fits_opening plan opening opens) legal none)

-- and so at most 1000
pub meals_few : (plan : LabPlan) (opening : State) (events : List Event) (j : ℕ) → IsPlan plan
    → IsOpening plan opening → IsLegalFrom plan opening events → meals_of j events ≤ 1000
meals_few plan opening events j is_plan opens legal =
    omega (arith, meals_bounded plan opening events j opens legal, begun_few plan opening events j is_plan opens legal)
