-- What an owner says is as legal after another owner said something.
use Rattle.std.proofs.Common.{◌≡◌, ◌≢◌, ℕ, ◌+◌, ◌<◌, Bool, true, false, if◌then◌else◌, IsSome, List, [], ◌∷◌, ◌++◌, append-nil, length, refl, sym, ap, ◌∙◌, subst, arith, add-one}
use Rattle.std.specs.List.{count_by}
use Rattle.lab_plan.specs.LabPlan.{LabPlan, sessions, patience}
use Rattle.lab_plan.specs.InstrumentSets.{holds}
use Rattle.legal_steps.specs.declared.event.Event.{Event}
use Rattle.legal_steps.specs.declared.phase.Dining.TheVariants.{Eating}
use Rattle.legal_steps.specs.declared.phase.Drinking.TheVariants.{Tranquil, Thirsty}
use Rattle.legal_steps.specs.State.{State, Seat, seat}
use Rattle.legal_steps.specs.Legal.{May, IsJob}
use Rattle.legal_steps.specs.Run.{actor}
use Rattle.interleaving.specs.World.{WorldView, LeadsTo}
use Rattle.reasons.specs.Deeds.{is_deed}
use Rattle.turns.proofs.Frame.{other_seat}
use Rattle.settling.specs.Left.{IsBySelf}
use Rattle.settling.proofs.Worlds.{leads_both}
use Rattle.settling.proofs.Deeds.{deeds_both}
use Rattle.live_lab.specs.declared.words.Word.{Word}
use Rattle.live_lab.specs.declared.words.Word.TheVariants.{Begins, GivesUp}
use Rattle.live_lab.specs.Sets.{events_below}
use Rattle.live_lab.specs.Doing.{said}

said_by : (word : Word) (j : ℕ) → actor (said word j) ≡ j
said_by Begins j = refl
said_by GivesUp j = refl

pub said_self : (word : Word) (j : ℕ) → IsBySelf j (said word j)
said_self Begins j = (refl, tt)
said_self GivesUp j = (refl, tt)

abbrev MayBegin : LabPlan → ℕ → Seat → Type 0
MayBegin plan k x = IsJob plan k × (x.phase.drinking ≡ Tranquil) × (x.phase.dining ≢ Eating) × (x.phase.session < length (sessions plan k))

abbrev MayGiveUp : LabPlan → ℕ → Seat → Type 0
MayGiveUp plan k x = IsJob plan k × (x.phase.drinking ≡ Thirsty) × IsSome (patience plan k x.phase.session)

single : (word : Word) (j : ℕ) → count_by is_deed (said word j ∷ []) ≡ 1
single Begins j = refl
single GivesUp j = refl

-- whether it is legal depends on the seat of its job alone
may_by_seat : (plan : LabPlan) (s t : State) (word : Word) (k : ℕ) → seat t k ≡ seat s k → May plan s (said word k) → May plan t (said word k)
may_by_seat plan s t Begins k same may = subst (λ (x : Seat). MayBegin plan k x) (sym same) may
may_by_seat plan s t GivesUp k same may = subst (λ (x : Seat). MayGiveUp plan k x) (sym same) may

pub still_may : (old new : WorldView) (word : Word) (j k : ℕ) → k ≢ j → LeadsTo old (said word j ∷ []) new → May old.plan old.state (said word k)
    → May new.plan new.state (said word k)
still_may old new word j k other l may =
    let same : seat new.state k ≡ seat old.state k = ap (λ (s : State). seat s k) l.run.leads
    ∙ other_seat old.plan old.state (said word j) k (λ is. other (is ∙ said_by word j)) in
    subst (λ (p : LabPlan). May p new.state (said word k)) (sym l.same_plan) (may_by_seat old.plan old.state new.state word k same may)

-- ---- the jobs of a set, one after another

below_more : (ev : ℕ → Event) (set n : ℕ) → events_below ev set (n + 1) ≡ events_below ev set n ++ (if holds set n then ev n ∷ [] else [])
below_more ev set n = ap (events_below ev set) (add-one n)

below_in : (ev : ℕ → Event) (set n : ℕ) → holds set n ≡ true → events_below ev set (n + 1) ≡ events_below ev set n ++ ev n ∷ []
below_in ev set n has = below_more ev set n ∙ ap (λ (b : Bool). events_below ev set n ++ (if b then ev n ∷ [] else [])) has

below_out : (ev : ℕ → Event) (set n : ℕ) → holds set n ≡ false → events_below ev set (n + 1) ≡ events_below ev set n
below_out ev set n out = below_more ev set n ∙ (ap (λ (b : Bool). events_below ev set n ++ (if b then ev n ∷ [] else [])) out ∙ append-nil (events_below ev set n))

-- one job more did so
pub one_said : (old mid new : WorldView) (word : Word) (set n : ℕ) → holds set n ≡ true → LeadsTo old (events_below (said word) set n) mid
    → LeadsTo mid (said word n ∷ []) new → LeadsTo old (events_below (said word) set (n + 1)) new
one_said old mid new word set n has before l =
    subst (λ (xs : List Event). LeadsTo old xs new) (sym (below_in (said word) set n has))
    (leads_both old mid new (events_below (said word) set n) (said word n ∷ []) before l)

pub one_deed : (word : Word) (set n m : ℕ) → holds set n ≡ true → m ≡ count_by is_deed (events_below (said word) set n)
    → m + 1 ≡ count_by is_deed (events_below (said word) set (n + 1))
one_deed word set n m has before =
    let both = deeds_both (events_below (said word) set n) (said word n ∷ []) in
    let one : count_by is_deed (said word n ∷ []) ≡ 1 = single word n in
    let all : count_by is_deed (events_below (said word) set (n + 1)) ≡ count_by is_deed (events_below (said word) set n ++ said word n ∷ []) =
    ap (count_by is_deed) (below_in (said word) set n has) in
    omega (arith, both, one, all, before)

-- or was passed
pub one_passed : (old new : WorldView) (word : Word) (set n : ℕ) → holds set n ≡ false → LeadsTo old (events_below (said word) set n) new
    → LeadsTo old (events_below (said word) set (n + 1)) new
one_passed old new word set n out before = subst (λ (xs : List Event). LeadsTo old xs new) (sym (below_out (said word) set n out)) before

pub no_deed : (word : Word) (set n m : ℕ) → holds set n ≡ false → m ≡ count_by is_deed (events_below (said word) set n)
    → m ≡ count_by is_deed (events_below (said word) set (n + 1))
no_deed word set n m out before = before ∙ ap (count_by is_deed) (sym (below_out (said word) set n out))
