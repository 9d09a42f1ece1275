-- How many commands on an instrument the jobs have done: never more than the plan has there.
use Rattle.std.proofs.Common.{◌≡◌, ℕ, zero, suc, ◌+◌, ◌-◌, ◌<◌, ◌≤◌, ◌==◌, true, false, cond, if◌then◌else◌, length, List, [], ◌∷◌, ◌++◌, take, drop, slice_index_or, sym, ap, subst, ◌∙◌, inl, inr, refl, arith, sum_by, add-one}
use Rattle.std.specs.List.{flat_map}
use Rattle.std.proofs.lemmas.Bool.{cases_eq, cases_Bool}
use Rattle.std.proofs.lemmas.List.{take_more, take_all, append-nil, take-append-drop}
use Rattle.std.proofs.lemmas.List.Sums.{sum_by-append, sum_by-cons, sum_by_more, sum_by-take-le}
use Rattle.std.proofs.lemmas.List.Concat.{flat_map-append}
use Rattle.lab_plan.specs.declared.verb.Verb.{Verb}
use Rattle.lab_plan.specs.declared.verb.Verb.TheVariants.{Read}
use Rattle.lab_plan.specs.LabPlan.{LabPlan, SessionPlan, JobPlan, no_session, no_job, sessions, commands, count_on, part}
use Rattle.legal_steps.specs.WholeLogs.{room_of}
use Rattle.legal_steps.proofs.LogBooks.{Stage, is_in_session}
use Rattle.legal_steps.proofs.LogEnded.{IsStageOf}

-- ---- sums over the numbers below a number

abbrev pub sum_to : (ℕ → ℕ) → ℕ → ℕ
sum_to f zero = 0
sum_to f (suc n) = sum_to f n + f n

pub sum_to-le : (f g : ℕ → ℕ) (n : ℕ) → ((k : ℕ) → k < n → f k ≤ g k) → sum_to f n ≤ sum_to g n
sum_to-le f g zero h = omega arith
sum_to-le f g (suc n) h = omega (arith, sum_to-le f g n (λ k below. h k (omega (arith, below))), h n (omega arith))

-- one term is larger by d
pub sum_to-more : (f g : ℕ → ℕ) (n j d : ℕ) → j < n → ((k : ℕ) → k < n → f k ≤ g k) → f j + d ≤ g j → sum_to f n + d ≤ sum_to g n
sum_to-more f g zero j d inside h more = absurd (omega (arith, inside))
sum_to-more f g (suc n) j d inside h more = elim (cases_eq j n) [
  | inl last ↦
      let here : f n + d ≤ g n = subst (λ k. f k + d ≤ g k) last more in
      omega (arith, sum_to-le f g n (λ k below. h k (omega (arith, below))), here)
  | inr other ↦ omega (arith, sum_to-more f g n j d (omega (arith, inside, other)) (λ k below. h k (omega (arith, below))) more, h n (omega arith))
]

-- the sum over a list, by places
pub sum_to_by : {X : Type 0} (f : X → ℕ) (xs : List X) (d : X) (n : ℕ) → n ≤ length xs → sum_by f (take n xs) ≡ sum_to (λ k. f (slice_index_or xs k d)) n
sum_to_by f xs d zero below = refl
sum_to_by f xs d (suc n) below =
    ap (λ m. sum_by f (take m xs)) (sym (add-one n)) ∙ sum_by_more f xs n d (omega (arith, below))
    ∙ ap (λ s. s + f (slice_index_or xs n d)) (sum_to_by f xs d n (omega (arith, below)))

-- ---- what one job has done

pub count_on-append : (i : ℕ) (xs ys : List (ℕ × Verb)) → count_on i (xs ++ ys) ≡ count_on i xs + count_on i ys
count_on-append i xs ys = sum_by-append (λ (command : ℕ × Verb). cond (command.0 == i) 1 0) xs ys

pub count_on-take : (i n : ℕ) (xs : List (ℕ × Verb)) → count_on i (take n xs) ≤ count_on i xs
count_on-take i n xs = sum_by-take-le (λ (command : ℕ × Verb). cond (command.0 == i) 1 0) xs n

pub count_on-more : (i : ℕ) (all : List (ℕ × Verb)) (k : ℕ) → k < length all
    → count_on i (take (k + 1) all) ≡ count_on i (take k all) + cond ((slice_index_or all k (0, Read)).0 == i) 1 0
count_on-more i all k inside = sum_by_more (λ (command : ℕ × Verb). cond (command.0 == i) 1 0) all k (0, Read) inside

-- how many commands on the instrument are in a job's first n sessions
abbrev pub first_on : LabPlan → ℕ → ℕ → ℕ → ℕ
first_on plan i j n = count_on i (flat_map (λ session. session.commands) (take n (sessions plan j)))

pub first_on-more : (plan : LabPlan) (i j n : ℕ) → n < length (sessions plan j) → first_on plan i j (n + 1) ≡ first_on plan i j n + part plan j (n + 1) i
first_on-more plan i j n inside =
    let all : List SessionPlan = sessions plan j in
    let session : SessionPlan = slice_index_or all n no_session in
    let f : SessionPlan → List (ℕ × Verb) = λ x. x.commands in
    let m : n + 1 - 1 ≡ n = omega arith in
    ap (λ xs. count_on i (flat_map f xs)) (take_more all n no_session inside)
    ∙ ap (count_on i) (flat_map-append f (take n all) (session ∷ []) ∙ ap (λ xs. flat_map f (take n all) ++ xs) (append-nil session.commands))
    ∙ count_on-append i (flat_map f (take n all)) session.commands
    ∙ ap (λ k. first_on plan i j n + count_on i (slice_index_or all k no_session).commands) (sym m)

pub first_on-le : (plan : LabPlan) (i j n : ℕ) → first_on plan i j n ≤ count_on i (flat_map (λ session. session.commands) (sessions plan j))
first_on-le plan i j n =
    let f : SessionPlan → List (ℕ × Verb) = λ x. x.commands in
    let all : List SessionPlan = sessions plan j in
    let split = ap (λ xs. count_on i (flat_map f xs)) (sym (take-append-drop n all))
    ∙ ap (count_on i) (flat_map-append f (take n all) (drop n all)) ∙ count_on-append i (flat_map f (take n all)) (flat_map f (drop n all)) in
    omega (arith, split)

-- how many commands on the instrument a job at this stage may have done: all of its earlier sessions', and those of its own up to its position
abbrev pub share : LabPlan → ℕ → ℕ → Stage → ℕ
share plan i j x =
    if is_in_session x.drinking
    then first_on plan i j (x.session - 1) + count_on i (take x.position (commands plan j x.session))
    else first_on plan i j x.session

pub share-in : (plan : LabPlan) (i j : ℕ) (x : Stage) → is_in_session x.drinking ≡ true
    → share plan i j x ≡ first_on plan i j (x.session - 1) + count_on i (take x.position (commands plan j x.session))
share-in plan i j x inside =
    ap (λ b. if b then first_on plan i j (x.session - 1) + count_on i (take x.position (commands plan j x.session)) else first_on plan i j x.session) inside

pub share-out : (plan : LabPlan) (i j : ℕ) (x : Stage) → is_in_session x.drinking ≡ false → share plan i j x ≡ first_on plan i j x.session
share-out plan i j x outside =
    ap (λ b. if b then first_on plan i j (x.session - 1) + count_on i (take x.position (commands plan j x.session)) else first_on plan i j x.session) outside

-- what is done in a session is part of it
pub share-le-first : (plan : LabPlan) (i j : ℕ) (x : Stage) → IsStageOf plan j x → share plan i j x ≤ first_on plan i j x.session
share-le-first plan i j x fit = elim (cases_Bool (is_in_session x.drinking)) [
  | inl inside ↦
      let one : 1 ≤ x.session = fit.begun inside in
      let back : x.session - 1 + 1 ≡ x.session = omega (arith, one) in
      let more : first_on plan i j x.session ≡ first_on plan i j (x.session - 1) + part plan j x.session i =
      subst (λ n. first_on plan i j n ≡ first_on plan i j (x.session - 1) + part plan j n i) back
      (first_on-more plan i j (x.session - 1) (omega (arith, one, fit.session_there))) in
      omega (arith, more, share-in plan i j x inside, count_on-take i x.position (commands plan j x.session))
  | inr outside ↦ omega (arith, share-out plan i j x outside)
]

-- ---- what all jobs have done

count_on-flat_map : {X : Type 0} (i : ℕ) (f : X → List (ℕ × Verb)) (xs : List X) → count_on i (flat_map f xs) ≡ sum_by (λ x. count_on i (f x)) xs
count_on-flat_map i f [] = refl
count_on-flat_map i f (x ∷ xs) =
    count_on-append i (f x) (flat_map f xs) ∙ ap (λ n. count_on i (f x) + n) (count_on-flat_map i f xs) ∙ sym (sum_by-cons (λ y. count_on i (f y)) x xs)

-- the room of a log is the sum of all jobs' commands on its instrument
pub room_is_sum : (plan : LabPlan) (i : ℕ)
    → room_of plan i ≡ sum_to (λ j. count_on i (flat_map (λ session. session.commands) (sessions plan j))) (length plan.jobs)
room_is_sum plan i =
    let f : JobPlan → List (ℕ × Verb) = λ job. flat_map (λ session. session.commands) job.sessions in
    count_on-flat_map i f plan.jobs
    ∙ ap (sum_by (λ job. count_on i (f job))) (sym (take_all (length plan.jobs) plan.jobs (omega arith)))
    ∙ sum_to_by (λ job. count_on i (f job)) plan.jobs no_job (length plan.jobs) (omega arith)

-- all that jobs at fitting stages have done fits the room
pub shares_fit : (plan : LabPlan) (i : ℕ) (stages : ℕ → Stage) → ((j : ℕ) → j < length plan.jobs → IsStageOf plan j (stages j))
    → sum_to (λ j. share plan i j (stages j)) (length plan.jobs) ≤ room_of plan i
shares_fit plan i stages fit =
    let total : ℕ → ℕ = λ j. count_on i (flat_map (λ session. session.commands) (sessions plan j)) in
    omega (
      arith,
      room_is_sum plan i,
      sum_to-le (λ j. share plan i j (stages j)) total (length plan.jobs) (λ j below.
          omega (arith, share-le-first plan i j (stages j) (fit j below), first_on-le plan i j (stages j).session)),
    )
