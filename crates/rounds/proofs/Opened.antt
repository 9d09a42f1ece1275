-- Rounds of all desks of a bench that was just opened.
use Rattle.std.proofs.Common.{◌≡◌, ◌≢◌, ◌⊎◌, ℕ, zero, suc, ◌<◌, Bool, true, if◌then◌else◌, List, [], ◌∷◌, ◌++◌, length, map, refl, sym, ap, ◌∙◌, subst, inl, inr, arith}
use Rattle.std.proofs.lemmas.Bool.{cases_eq, eq-eqb}
use Rattle.atomic_table.specs.Seated.{TableId}
use Rattle.lab_plan.specs.LabPlan.{LabPlan}
use Rattle.legal_steps.specs.declared.event.Event.{Event}
use Rattle.legal_steps.specs.declared.event.Event.TheVariants.{Look, AskFork, GiveFork, Soil, AskBottles, GiveBottles, Thirst, Hunger, Sit, Leave, Drink, Reach, Act, Quit, Retire, Glance, Withdraw}
use Rattle.legal_steps.specs.State.{State}
use Rattle.legal_steps.specs.Legal.{May, IsJob}
use Rattle.legal_steps.specs.Run.{IsLegalFrom, actor}
use Rattle.legal_steps.specs.Opening.{the_opening}
use Rattle.legal_steps.proofs.FitsLaw.{own_is_job}
use Rattle.turns.specs.History.{IsHistory, events_by}
use Rattle.turns.specs.Lists.{Each}
use Rattle.turns.specs.Patience.{no_wait}
use Rattle.turns.proofs.Runs.{each_map, each-append}
use Rattle.edge_rule.specs.DeskView.{DeskView, fresh_desk, fresh_desks}
use Rattle.edge_rule.specs.Ending.{Any}
use Rattle.edge_rule.specs.Company.{Distinct}
use Rattle.rounds.specs.declared.ended.Ended.{Ended}
use Rattle.rounds.specs.declared.ended.Ended.TheVariants.{Quiet}
use Rattle.rounds.specs.Company.{first_front}
use Rattle.turns.specs.AtTheEnd.{AllRetired, BothKnow}
use Rattle.rounds.specs.Rounds.{Player, player_of, players_of, Rounds, Why}
use Rattle.rounds.specs.QuietEnd.{jobs_in, HasAllPlayers}
use Rattle.rounds.specs.OneRun.{RanRounds}
use Rattle.rounds.specs.FromOpening.{opened, fresh_players, DrivesFromOpening, NeverEndsQuiet, OneRunOfAPlan}
use Rattle.rounds.proofs.QuietEnd.{no_quiet_end}
use Rattle.rounds.proofs.SameRun.{rounds_start, legal_from, one_run}

-- ---- who acts is a job

may_job : (plan : LabPlan) (s : State) (x : Event) → May plan s x → IsJob plan (actor x)
may_job plan s (Look j e seen) may = own_is_job plan j e may.0
may_job plan s (AskFork j e) may = own_is_job plan j e may.0
may_job plan s (GiveFork j e) may = own_is_job plan j e may.0
may_job plan s (Soil j e) may = own_is_job plan j e may.0
may_job plan s (AskBottles j e set) may = own_is_job plan j e may.0
may_job plan s (GiveBottles j e set) may = own_is_job plan j e may.0
may_job plan s (Thirst j) may = may.0
may_job plan s (Hunger j) may = may.0
may_job plan s (Sit j) may = may.0
may_job plan s (Leave j) may = may.0
may_job plan s (Drink j) may = may.0
may_job plan s (Reach j) may = may.0
may_job plan s (Act j) may = may.0
may_job plan s (Quit j) may = may.0
may_job plan s (Retire j) may = may.0
may_job plan s (Glance j other seen) may = may.0
may_job plan s (Withdraw j) may = may.0

-- nobody did anything
none_left : (plan : LabPlan) (s : State) (l : List Event) → IsLegalFrom plan s l → ((m : ℕ) → IsJob plan m → events_by m l ≡ []) → l ≡ []
none_left plan s [] legal none = refl
none_left plan s (x ∷ l) legal none =
    let q : x ∷ events_by (actor x) l ≡ [] =
    sym (ap (λ (c : Bool). if c then x ∷ events_by (actor x) l else events_by (actor x) l) (eq-eqb (actor x) (actor x) refl))
    ∙ none (actor x) (may_job plan s x legal.0) in
    absurd (cc)

-- ---- the desks and players at the start

module _ {A : Type 0} (P : A → Type 0) where
  each_left : (a b : List A) → Each P (a ++ b) → Each P a
  each_left [] b e = tt
  each_left (x ∷ a) b e = (e.0, each_left a b e.1)

  each_right : (a b : List A) → Each P (a ++ b) → Each P b
  each_right [] b e = e
  each_right (x ∷ a) b e = each_right a b e.1

map_append : {A B : Type 0} (f : A → B) (a b : List A) → map f (a ++ b) ≡ map f a ++ map f b
map_append f [] b = refl
map_append f (x ∷ a) b = ap (λ l. f x ∷ l) (map_append f a b)

module _ (t : TableId) (plan : LabPlan) where
  fresh_whole : (h : List Event) (n m : ℕ) → Each (λ (d : DeskView). events_by d.job h ≡ d.deeds) (fresh_desks t plan n) → m < n → events_by m h ≡ []
  fresh_whole h zero m whole less = absurd (omega (arith, less))
  fresh_whole h (suc n) m whole less = elim (cases_eq m n) [
    | inl is ↦ subst (λ k. events_by k h ≡ []) (sym is)
        (each_right (λ (d : DeskView). events_by d.job h ≡ d.deeds) (fresh_desks t plan n) (fresh_desk t plan n ∷ []) whole).0
    | inr other ↦ fresh_whole h n m
        (each_left (λ (d : DeskView). events_by d.job h ≡ d.deeds) (fresh_desks t plan n) (fresh_desk t plan n ∷ []) whole) (omega (arith, less, other))
  ]

  pub players_fresh : (n : ℕ) → players_of (fresh_desks t plan n) ≡ fresh_players n
  players_fresh zero = refl
  players_fresh (suc n) = map_append player_of (fresh_desks t plan n) (fresh_desk t plan n ∷ [])
      ∙ ap (λ l. l ++ record { job = n; waited = no_wait } ∷ []) (players_fresh n)

jobs_more : (n : ℕ) → jobs_in (fresh_players (suc n)) ≡ jobs_in (fresh_players n) ++ n ∷ []
jobs_more n = map_append (λ (x : Player). x.job) (fresh_players n) (record { job = n; waited = no_wait } ∷ [])

any_append : (j : ℕ) (a b : List ℕ) → Any (λ (i : ℕ). i ≡ j) a ⊎ Any (λ (i : ℕ). i ≡ j) b → Any (λ (i : ℕ). i ≡ j) (a ++ b)
any_append j [] b (inl h) = absurd h
any_append j [] b (inr h) = h
any_append j (x ∷ a) b (inl (inl h)) = inl h
any_append j (x ∷ a) b (inl (inr h)) = inr (any_append j a b (inl h))
any_append j (x ∷ a) b (inr h) = inr (any_append j a b (inr h))

fresh_all : (n j : ℕ) → j < n → Any (λ (i : ℕ). i ≡ j) (jobs_in (fresh_players n))
fresh_all zero j less = absurd (omega (arith, less))
fresh_all (suc n) j less = subst (Any (λ (i : ℕ). i ≡ j)) (sym (jobs_more n)) (any_append j (jobs_in (fresh_players n)) (n ∷ []) (elim (cases_eq n j) [
  | inl is ↦ inr (inl is)
  | inr other ↦ inl (fresh_all n j (omega (arith, less, other)))
]))

distinct_more : (js : List ℕ) (j : ℕ) → Distinct js → Each (λ (i : ℕ). i ≢ j) js → Distinct (js ++ j ∷ [])
distinct_more [] j apart e = (tt, tt)
distinct_more (i ∷ js) j apart e = (each-append (λ (k : ℕ). k ≢ i) js (j ∷ []) apart.0 ((λ q. e.0 (sym q)), tt), distinct_more js j apart.1 e.1)

fresh_below : (n k : ℕ) → n < suc k → Each (λ (i : ℕ). i < k) (jobs_in (fresh_players n))
fresh_below zero k less = tt
fresh_below (suc n) k less =
    subst (Each (λ (i : ℕ). i < k)) (sym (jobs_more n))
    (each-append (λ (i : ℕ). i < k) (jobs_in (fresh_players n)) (n ∷ []) (fresh_below n k (omega (arith, less))) (omega (arith, less), tt))

fresh_once : (n : ℕ) → Distinct (jobs_in (fresh_players n))
fresh_once zero = tt
fresh_once (suc n) = subst Distinct (sym (jobs_more n)) (distinct_more (jobs_in (fresh_players n)) n (fresh_once n)
    (each_map (λ (i : ℕ). i < n) (λ (i : ℕ). i ≢ n) (λ i less e. absurd (omega (arith, less, e))) (jobs_in (fresh_players n)) (fresh_below n n (omega arith))))

pub all_players : (plan : LabPlan) → HasAllPlayers plan (fresh_players (length plan.jobs))
all_players plan j job = fresh_all (length plan.jobs) j job

pub players_once : (plan : LabPlan) → Distinct (jobs_in (fresh_players (length plan.jobs)))
players_once plan = fresh_once (length plan.jobs)

-- ---- what is driven from the opening

pub drives_from_opening : DrivesFromOpening
drives_from_opening b limit ended n desks d =
    let before : IsHistory b.plan d.start =
    legal_from b.plan (first_front desks) d.start
    (rounds_start b.plan (players_of (opened b)) (players_of desks) n d.idle d.start (first_front desks) d.rounds) d.company.legal in
    let none : d.start ≡ [] =
    none_left b.plan (the_opening b.plan) d.start before (λ m job. fresh_whole b.table b.plan d.start (length b.plan.jobs) m d.whole job) in
    record {
      idle = d.idle;
      players_then = players_of desks;
      legal = d.company.legal;
      rounds = subst (λ (z : List Player × List Event). Rounds b.plan z.0 n d.idle z.1 (first_front desks) (players_of desks))
          (λ i. (players_fresh b.table b.plan (length b.plan.jobs) i, none i)) d.rounds;
      most = d.most;
      why = d.why;
    }

pub quiet_or : (x : Ended) (plan : LabPlan) (h : List Event) (idle : Bool) (n limit : ℕ)
    → x ≡ Quiet → Why plan h x idle n limit → ¬ AllRetired plan h × (idle ≡ true) × BothKnow plan h
quiet_or x plan h idle n limit is why = subst (λ z. Why plan h z idle n limit) is why

pub never_ends_quiet : NeverEndsQuiet
never_ends_quiet b limit ended n desks d is =
    let r : RanRounds b.plan limit (fresh_players (length b.plan.jobs)) [] ended n (first_front desks) = drives_from_opening b limit ended n desks d in
    let why = quiet_or ended b.plan (first_front desks) r.idle n limit is r.why in
    why.0 (no_quiet_end b.plan (fresh_players (length b.plan.jobs)) r.players_then n (first_front desks) (all_players b.plan) (players_once b.plan) r.legal
    (subst (λ z. Rounds b.plan (fresh_players (length b.plan.jobs)) n z [] (first_front desks) r.players_then) why.1 r.rounds) why.2)

pub one_run_of_a_plan : OneRunOfAPlan
one_run_of_a_plan a b limit ended ended' n n' desks desks' same c d =
    one_run b.plan limit (fresh_players (length b.plan.jobs)) [] ended ended' n n' (first_front desks) (first_front desks')
    (subst (λ (p : LabPlan). RanRounds p limit (fresh_players (length p.jobs)) [] ended n (first_front desks)) same
    (drives_from_opening a limit ended n desks c))
    (drives_from_opening b limit ended' n' desks' d)
