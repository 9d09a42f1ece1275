-- The last element changed, as a write at the last place.
use Rattle.std.proofs.Common.{◌≡◌, ℕ, ◌-◌, ◌<◌, Bool, true, false, if◌then◌else◌, List, [], ◌∷◌, length, get_or, set, suc, refl, ap, ◌∙◌, arith}
use Rattle.std.proofs.lemmas.List.{set-get_or}
use Rattle.lab_plan.specs.LabPlan.{JobPlan, LabPlan}
use Rattle.lab_plan.specs.Building.{on_last, has_session}

pub on_last-write : {X : Type 0} (change : X → X) (xs : List X) (d : X) → 0 < length xs
    → set xs (length xs - 1) (change (get_or xs (length xs - 1) d)) ≡ on_last change xs
on_last-write change [] d inside = absurd (omega arith)
on_last-write change (x ∷ []) d inside = refl
on_last-write change (x ∷ y ∷ xs) d inside =
    let less : length (x ∷ y ∷ xs) - 1 ≡ suc (length (y ∷ xs) - 1) = omega arith in
    rw less (ap (λ l. x ∷ l) (on_last-write change (y ∷ xs) d (omega arith)))

-- the write of a call that may be refused
written : {X : Type 0} (change : X → X) (xs : List X) (x : X) (done : Bool) → 0 < length xs → x ≡ get_or xs (length xs - 1) x
    → set xs (length xs - 1) (if done then change x else x) ≡ (if done then on_last change xs else xs)
written change xs x true inside is = ap (λ z. set xs (length xs - 1) (change z)) is ∙ on_last-write change xs x inside
written change xs x false inside is = ap (λ z. set xs (length xs - 1) z) is ∙ set-get_or xs (length xs - 1) x

pub on_last-item : {X : Type 0} (change : X → X) (xs : List X) (n : ℕ) (x y : X) (done : Bool)
    → n ≡ length xs → 0 < length xs → x ≡ get_or xs (n - 1) x → y ≡ (if done then change x else x)
    → set xs (n - 1) y ≡ (if done then on_last change xs else xs)
on_last-item change xs n x y done e inside is changed =
    rw e (ap (λ z. set xs (length xs - 1) z) changed ∙ written change xs x done inside (is ∙ ap (λ k. get_or xs (k - 1) x) e))

if_made : {X Y : Type 0} (make : X → Y) (done : Bool) (a b : X) → make (if done then a else b) ≡ (if done then make a else make b)
if_made make true a b = refl
if_made make false a b = refl

pub last_job_changed : (version : ℕ) (xs : List JobPlan) (instruments : List (List ℕ))
    (plan : LabPlan) (change : JobPlan → JobPlan) (n : ℕ) (x y : JobPlan) (done : Bool)
    → (let p : LabPlan = record { version = version; jobs = xs; instruments = instruments } in p ≡ plan)
    → 0 < length plan.jobs → n ≡ length xs → x ≡ get_or xs (n - 1) x → y ≡ (if done then change x else x)
    → (let p : LabPlan = record { version = version; jobs = set xs (n - 1) y; instruments = instruments } in
    p ≡ (if done then record plan { jobs = on_last change plan.jobs } else plan))
last_job_changed version xs instruments plan change n x y done is some len item changed =
    let make : List JobPlan → LabPlan = λ jobs. record { version = version; jobs = jobs; instruments = instruments } in
    let there : length xs ≡ length plan.jobs = ap (λ (p : LabPlan). length p.jobs) is in
    let wanted : LabPlan → LabPlan = λ p. if done then record p { jobs = on_last change p.jobs } else p in
    ap make (on_last-item change xs n x y done len (omega arith) item changed)
    ∙ if_made make done (on_last change xs) xs
    ∙ ap wanted is

pub has_job : (plan : LabPlan) → has_session plan ≡ true → 0 < length plan.jobs
has_job plan h = jobs plan.jobs h
  where
    jobs : (all : List JobPlan) → has_session (record { version = 0; jobs = all; instruments = [] }) ≡ true → 0 < length all
    jobs [] h = cc
    jobs (x ∷ xs) h = omega arith
