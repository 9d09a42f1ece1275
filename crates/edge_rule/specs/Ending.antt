-- What a bench leaves when it is closed.
use Rattle.std.specs.Prelude.{◌≡◌, ◌≢◌, ℕ, ◌<◌, ◌⊎◌, List, [], ◌∷◌, ◌++◌, length, slice_index_or}
use Rattle.lab_plan.specs.LabPlan.{LabPlan, edges}
use Rattle.lab_plan.specs.IsPlan.{IsPlan}
use Rattle.legal_steps.specs.declared.phase.Drinking.TheVariants.{Reaching}
use Rattle.legal_steps.specs.State.{edge, phase, drinking}
use Rattle.legal_steps.specs.declared.event.Event.{Event}
use Rattle.legal_steps.specs.WholeLogs.{log_with_room}
use Rattle.one_history.specs.declared.board.Hand.{Hand}
use Rattle.one_history.specs.declared.board.View.{View}
use Rattle.legal_steps.specs.Run.{actor}
use Rattle.turns.specs.History.{state_after, IsHistory, events_by}
use Rattle.one_history.specs.Groups.{all_of, StandUnbroken}
use Rattle.turns.specs.Lists.{StartsWith, Each}
use Rattle.edge_rule.specs.DeskView.{DeskView, known}
use Rattle.edge_rule.specs.ClosedView.{ClosedView, edge_in, phase_in, log_in, counts_in}
use Rattle.legal_steps.specs.Counting.{no_counts, counts_of}
use Rattle.legal_steps.specs.declared.counts.Counts.{Counts}
use Rattle.edge_rule.specs.Company.{Distinct, jobs_of}

abbrev pub hand_of : DeskView → Hand
hand_of d = record { plan = d.plan; job = d.job; deeds = d.deeds; groups = d.groups }

-- the hands and the fronts of desks, the last desk first
abbrev pub hands_of : List DeskView → List Hand
hands_of [] = []
hands_of (d ∷ desks) = hands_of desks ++ hand_of d ∷ []

abbrev pub fronts_of : List DeskView → List (List Event)
fronts_of [] = []
fronts_of (d ∷ desks) = fronts_of desks ++ d.front ∷ []

-- the view of a seat that took over all hands of these desks
abbrev pub gathered : List DeskView → View
gathered desks = record { hands = hands_of desks; front = []; told = fronts_of desks }

abbrev pub Any : {A : Type 0} → (A → Type 0) → List A → Type 0
Any P [] = ⊥
Any P (x ∷ xs) = P x ⊎ Any P xs

-- each of the jobs below n has a desk
abbrev pub HasEach : ℕ → List DeskView → Type 0
HasEach n desks = (j : ℕ) → j < n → Any (λ (d : DeskView). d.job ≡ j) desks

-- each job of the plan has one desk there, and no job a second
pub record HasAll (p : LabPlan) (desks : List DeskView) : Type 0 where
  pub every : HasEach (length p.jobs) desks
  pub once : Distinct (jobs_of desks)

-- a record is its groups, one after another, and in the history each of them stands unbroken, in this order
abbrev pub IsInGroups : List Event → DeskView → Type 0
IsInGroups h d = (all_of d.groups ≡ d.deeds) × StandUnbroken d.groups h

-- a desk at rest doesn't reach for a log
abbrev pub Rests : DeskView → Type 0
Rests d = drinking (known d) d.job ≢ Reaching

-- and its record is in groups in what it has seen
pub record RestsInGroups (d : DeskView) : Type 0 where
  pub not_reaching : Rests d
  pub in_groups : IsInGroups d.front d

-- the counts of each desk's record stand at its job
abbrev pub AreCounted : List Counts → List DeskView → Type 0
AreCounted counts desks = Each (λ (d : DeskView). slice_index_or counts d.job no_counts ≡ counts_of d.job d.deeds) desks

-- There is one history, for exactly the records of these desks: it is legal from the initial state, the events of each job in it are its desk's record,
-- in order, and nothing else is in it; each group of a record stands unbroken; each desk saw a beginning of it; and it ends as the closed bench shows
pub record IsEnd (p : LabPlan) (desks : List DeskView) (c : ClosedView) : Type 0 where
  pub is_plan : IsPlan p
  pub plan : c.plan ≡ p
  pub history : List Event
  pub legal : IsHistory p history
  pub records : Each (λ (d : DeskView). events_by d.job history ≡ d.deeds) desks
  pub groups : Each (IsInGroups history) desks
  pub nobody_else : Each (λ (event : Event). actor event < length p.jobs) history
  pub fronts : Each (λ (d : DeskView). StartsWith history d.front) desks
  pub edges : (e : ℕ) → e < length (edges p) → edge_in c e ≡ edge (state_after p history) e
  pub phases : (j : ℕ) → j < length p.jobs → phase_in c j ≡ phase (state_after p history) j
  pub logs : (i : ℕ) → i < length p.instruments → log_in c i ≡ log_with_room p (state_after p history) i
  pub counts : (j : ℕ) → j < length p.jobs → counts_in c j ≡ counts_of j history

-- the logs of a closed bench are those at the end of a list of events that is legal from the initial state
pub record HasLegalLogs (p : LabPlan) (c : ClosedView) : Type 0 where
  pub is_plan : IsPlan p
  pub history : List Event
  pub legal : IsHistory p history
  pub logs : (i : ℕ) → i < length p.instruments → log_in c i ≡ log_with_room p (state_after p history) i
