-- How many deeds are left on one edge and for one job, and what each deed leaves.
use Rattle.std.proofs.Common.{◌≡◌, ◌≢◌, ℕ, ◌+◌, ◌*◌, ◌≤◌, Bool, true, false, not, arith, refl}
use Rattle.legal_steps.specs.declared.end.End.{End}
use Rattle.legal_steps.specs.declared.end.End.TheVariants.{Lower, Higher}
use Rattle.legal_steps.specs.declared.phase.Dining.{Dining}
use Rattle.legal_steps.specs.declared.phase.Dining.TheVariants.{Thinking, Hungry, Eating}
use Rattle.legal_steps.specs.State.{opposite}
use Rattle.legal_steps.specs.Legal.{is_at}

abbrev pub one_if : Bool → ℕ
one_if true = 1
one_if false = 0

-- the acts of a job: hunger, sit, drink, leave
abbrev pub acts_left : Dining → Bool → ℕ
acts_left Thinking true = 4
acts_left Hungry true = 3
acts_left Eating true = 2
acts_left Thinking false = 0
acts_left Hungry false = 2
acts_left Eating false = 1

pub few_acts : (d : Dining) (thirsty : Bool) → acts_left d thirsty ≤ 4
few_acts Thinking true = omega arith
few_acts Hungry true = omega arith
few_acts Eating true = omega arith
few_acts Thinking false = omega arith
few_acts Hungry false = omega arith
few_acts Eating false = omega arith

-- how often a job may yet soil a fork that is dirty or not
abbrev pub soils_left : Dining → Bool → Bool → ℕ
soils_left Thinking true dirty = 1
soils_left Thinking false dirty = 0
soils_left Hungry thirsty dirty = 1
soils_left Eating thirsty true = 0
soils_left Eating thirsty false = 1

pub few_soils : (d : Dining) (thirsty dirty : Bool) → soils_left d thirsty dirty ≤ 1
few_soils Thinking true dirty = omega arith
few_soils Thinking false dirty = omega arith
few_soils Hungry thirsty dirty = omega arith
few_soils Eating thirsty true = omega arith
few_soils Eating thirsty false = omega arith

-- a soiled fork isn't soiled more often
pub soiled_less : (d : Dining) (thirsty : Bool) → soils_left d thirsty true ≤ soils_left d thirsty false
soiled_less Thinking true = omega arith
soiled_less Thinking false = omega arith
soiled_less Hungry thirsty = omega arith
soiled_less Eating thirsty = omega arith

-- who doesn't eat soils as often, dirty or clean
pub soils_same : (d : Dining) (thirsty : Bool) → d ≢ Eating → soils_left d thirsty true ≡ soils_left d thirsty false
soils_same Thinking true other = refl
soils_same Thinking false other = refl
soils_same Hungry thirsty other = refl
soils_same Eating thirsty other = absurd (other refl)

pub one_more : (b : Bool) → one_if b ≤ 1
one_more true = omega arith
one_more false = omega arith

-- how often a bottle may yet be given that one job alone needs: from which end, where the bottle is, where its token
abbrev pub lone_gives : End → End → End → ℕ
lone_gives Lower Lower Lower = 2
lone_gives Lower Lower Higher = 0
lone_gives Lower Higher t = 1
lone_gives Higher Higher Higher = 2
lone_gives Higher Higher Lower = 0
lone_gives Higher Lower t = 1

-- how often it may yet be given: whether the lower and the higher job need it, how often the fork may yet be given, and where the fork is
abbrev pub gives_left : Bool → Bool → ℕ → End → End → End → ℕ
gives_left true true g f b t = g + one_if (not (is_at f b))
gives_left true false g f b t = lone_gives Lower b t
gives_left false true g f b t = lone_gives Higher b t
gives_left false false g f b t = one_if (is_at b t)

-- each give may be followed by a request
abbrev pub bottle_left : Bool → Bool → ℕ → End → End → End → ℕ
bottle_left nl nh g f b t = 2 * gives_left nl nh g f b t + one_if (not (is_at b t))

few_lone : (j b t : End) → lone_gives j b t ≤ 2
few_lone Lower Lower Lower = omega arith
few_lone Lower Lower Higher = omega arith
few_lone Lower Higher t = omega arith
few_lone Higher Higher Higher = omega arith
few_lone Higher Higher Lower = omega arith
few_lone Higher Lower t = omega arith

few_gives : (nl nh : Bool) (g : ℕ) (f b t : End) → g ≤ 3 → gives_left nl nh g f b t ≤ 4
few_gives true true g f b t few = omega (arith, few, one_more (not (is_at f b)))
few_gives true false g f b t few = omega (arith, few_lone Lower b t)
few_gives false true g f b t few = omega (arith, few_lone Higher b t)
few_gives false false g f b t few = omega (arith, one_more (is_at b t))

pub few_of_bottle : (nl nh : Bool) (g : ℕ) (f b t : End) → g ≤ 3 → bottle_left nl nh g f b t ≤ 9
few_of_bottle nl nh g f b t few = omega (arith, few_gives nl nh g f b t few, one_more (not (is_at b t)))

-- as often or less if the fork is given as often or less
gives_less : (nl nh : Bool) (g less : ℕ) (f b t : End) → less ≤ g → gives_left nl nh less f b t ≤ gives_left nl nh g f b t
gives_less true true g less f b t h = omega (arith, h)
gives_less true false g less f b t h = omega arith
gives_less false true g less f b t h = omega arith
gives_less false false g less f b t h = omega arith

pub bottle_less : (nl nh : Bool) (g less : ℕ) (f b t : End) → less ≤ g → bottle_left nl nh less f b t ≤ bottle_left nl nh g f b t
bottle_less nl nh g less f b t h = omega (arith, gives_less nl nh g less f b t h)

-- also after the fork went to the other end
gives_moved : (nl nh : Bool) (g less : ℕ) (f b t : End) → less + 1 ≤ g → gives_left nl nh less (opposite f) b t ≤ gives_left nl nh g f b t
gives_moved true true g less f b t h = omega (arith, h, one_more (not (is_at (opposite f) b)))
gives_moved true false g less f b t h = omega arith
gives_moved false true g less f b t h = omega arith
gives_moved false false g less f b t h = omega arith

pub bottle_moved : (nl nh : Bool) (g less : ℕ) (f b t : End) → less + 1 ≤ g → bottle_left nl nh less (opposite f) b t ≤ bottle_left nl nh g f b t
bottle_moved nl nh g less f b t h = omega (arith, gives_moved nl nh g less f b t h)

-- what the job at an end has
abbrev pub pick : End → Bool → Bool → Bool
pick Lower low high = low
pick Higher low high = high

-- a bottle is given by the job at an end
give_one : (nl nh : Bool) (g : ℕ) (f z : End) → (pick z nl nh ≡ true → f ≡ z → ⊥)
    → bottle_left nl nh g f (opposite z) z + 1 ≤ bottle_left nl nh g f z z
give_one true true g Lower Lower h = absurd (h refl refl)
give_one true true g Higher Higher h = absurd (h refl refl)
give_one true true g Lower Higher h = omega arith
give_one true true g Higher Lower h = omega arith
give_one true false g f Lower h = omega arith
give_one true false g f Higher h = omega arith
give_one false true g f Lower h = omega arith
give_one false true g f Higher h = omega arith
give_one false false g f Lower h = omega arith
give_one false false g f Higher h = omega arith

pub bottle_given : (nl nh : Bool) (g : ℕ) (f z b t b' : End) → b ≡ z → t ≡ z → b' ≡ opposite b → (pick z nl nh ≡ true → f ≡ z → ⊥)
    → bottle_left nl nh g f b' t + 1 ≤ bottle_left nl nh g f b t
bottle_given nl nh g f z b t b' here token moved h = rw moved (rw here (rw token (give_one nl nh g f z h)))

-- it is asked for by the job at an end
ask_one : (nl nh : Bool) (g : ℕ) (f z : End) → pick z nl nh ≡ true
    → bottle_left nl nh g f (opposite z) (opposite z) + 1 ≤ bottle_left nl nh g f (opposite z) z
ask_one true true g Lower Lower h = omega arith
ask_one true true g Higher Higher h = omega arith
ask_one true true g Lower Higher h = omega arith
ask_one true true g Higher Lower h = omega arith
ask_one true false g f Lower h = omega arith
ask_one true false g f Higher h = absurd (cc)
ask_one false true g f Lower h = absurd (cc)
ask_one false true g f Higher h = omega arith
ask_one false false g f Lower h = absurd (cc)
ask_one false false g f Higher h = absurd (cc)

pub bottle_asked : (nl nh : Bool) (g : ℕ) (f z b t t' : End) → b ≡ opposite z → t ≡ z → t' ≡ opposite t → pick z nl nh ≡ true
    → bottle_left nl nh g f b t' + 1 ≤ bottle_left nl nh g f b t
bottle_asked nl nh g f z b t t' there token moved h = rw moved (rw there (rw token (ask_one nl nh g f z h)))

-- ---- the fork: where it is and its token, whether it is dirty, and the soils that are left

abbrev pub forks_left : ℕ → Bool → End → End → ℕ
forks_left soils dirty f t = soils + 2 * (soils + one_if dirty) + one_if (not (is_at f t))

pub few_of_fork : (soils : ℕ) (dirty : Bool) (f t : End) → soils ≤ 2 → forks_left soils dirty f t ≤ 9
few_of_fork soils dirty f t few = omega (arith, few, one_more dirty, one_more (not (is_at f t)))

pub forks_less : (soils less : ℕ) (dirty : Bool) (f t : End) → less ≤ soils → forks_left less dirty f t ≤ forks_left soils dirty f t
forks_less soils less dirty f t h = omega (arith, h)

pub fork_asked_one : (soils : ℕ) (dirty : Bool) (z f t : End) → f ≢ z → t ≡ z → forks_left soils dirty f (opposite t) + 1 ≤ forks_left soils dirty f t
fork_asked_one soils dirty Lower Lower t there token = absurd (there refl)
fork_asked_one soils dirty Higher Higher t there token = absurd (there refl)
fork_asked_one soils dirty Lower Higher t there token = rw token (omega arith)
fork_asked_one soils dirty Higher Lower t there token = rw token (omega arith)

pub fork_given_one : (soils less : ℕ) (dirty : Bool) (z f t : End) → less ≤ soils → dirty ≡ true → f ≡ z → t ≡ z
    → forks_left less false (opposite f) t + 1 ≤ forks_left soils dirty f t
fork_given_one soils less dirty Lower f t h is here token = rw is (rw here (rw token (omega (arith, h))))
fork_given_one soils less dirty Higher f t h is here token = rw is (rw here (rw token (omega (arith, h))))

pub soiled_one : (soils less : ℕ) (dirty : Bool) (f t : End) → less + 1 ≤ soils → dirty ≡ false → forks_left less true f t + 1 ≤ forks_left soils dirty f t
soiled_one soils less dirty f t h is = rw is (omega (arith, h))
