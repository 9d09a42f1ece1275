-- One turn of a job, as a chain of steps on its desk.
use Rattle.std.specs.Prelude.{◌≡◌, ◌≢◌, ℕ, ◌+◌, ◌<◌, Bool, true, false, if◌then◌else◌, List, [], ◌∷◌, ◌++◌, map}
use Rattle.lab_plan.specs.LabPlan.{edges_of}
use Rattle.legal_steps.specs.declared.event.Event.{Event}
use Rattle.legal_steps.specs.declared.event.Event.TheVariants.{Look}
use Rattle.legal_steps.specs.State.{edge, drinking}
use Rattle.edge_word.specs.Moves.{events_of, is_nothing}
use Rattle.edge_rule.specs.DeskView.{DeskView, Adds, known, shown, waited, noted}
use Rattle.turns.specs.Patience.{is_waiting}
use Rattle.session_layer.specs.declared.turning.Visited.{Visited}
use Rattle.session_layer.specs.declared.turning.Visited.TheVariants as answers
use Rattle.session_layer.specs.declared.turning.Turned.{Turned}
use Rattle.session_layer.specs.declared.turning.Turned.TheVariants.{Acted, Moved, Idle}
use Rattle.turns.specs.Due.{AreDue}
use Rattle.turns.specs.Acts.{AreActs}
use Rattle.turns.specs.Turn.{Visit, is_done, is_lost, count, once, AreVisits, IsTurn, IsIdleTurn}
use Rattle.turns.specs.Turns.{Stands, visits_groups}

-- P if the test is true, Q if it is false
abbrev pub Chosen : Bool → Type 0 → Type 0 → Type 0
Chosen true P Q = P
Chosen false P Q = Q

-- the moves were done, as one group; or their exchange found another word; or none was due
abbrev pub Tries : DeskView → Visit → DeskView → Type 0
Tries d v d' = Chosen (is_nothing v.moves) (d' ≡ d)
    (Chosen v.lost (Adds d [] d' × (edge (shown d') v.edge ≢ edge (known d) v.edge)) (Adds d (events_of v.moves d.job v.edge) d'))

-- the edge was looked at, and what was due after the look was tried
pub record Visits (d : DeskView) (v : Visit) (d' : DeskView) : Type 0 where
  pub looked : DeskView
  pub look : Adds d (Look d.job v.edge v.saw ∷ []) looked
  pub due : AreDue looked.plan (known looked) looked.job v.edge v.moves
  pub tries : Tries looked v d'

-- visits one after another
abbrev pub VisitsAll : DeskView → List Visit → DeskView → Type 0
VisitsAll d [] d' = d' ≡ d
VisitsAll d (v ∷ vs) d' = (m : DeskView) × Visits d v m × VisitsAll m vs d'

-- events one after another, each a group of its own
abbrev pub DoesAll : DeskView → List Event → DeskView → Type 0
DoesAll d [] d' = d' ≡ d
DoesAll d (event ∷ events) d' = (m : DeskView) × Adds d (event ∷ []) m × DoesAll m events d'

-- what the answer says of this many exchanges and acts that were done, and that many exchanges that found another word
abbrev pub Says : Turned → ℕ → ℕ → Type 0
Says (Acted n) acts lost = (n ≡ acts) × (0 < n)
Says Moved acts lost = (acts ≡ 0) × (0 < lost)
Says Idle acts lost = (acts ≡ 0) × (lost ≡ 0)

abbrev pub done_by : Visited → ℕ
done_by answers.Done = 1
done_by answers.Lost = 0
done_by answers.Calm = 0

abbrev pub lost_by : Visited → ℕ
lost_by answers.Done = 0
lost_by answers.Lost = 1
lost_by answers.Calm = 0

-- one edge was visited, with this answer
pub record IsVisited (d : DeskView) (e : ℕ) (r : Visited) (d' : DeskView) : Type 0 where
  pub visit : Visit
  pub edge : visit.edge ≡ e
  pub visits : Visits d visit d'
  pub done : (if is_done visit then 1 else 0) ≡ done_by r
  pub lost : (if is_lost visit then 1 else 0) ≡ lost_by r

-- the edges of the list were visited in its order, with this many exchanges done, and that many that found another word
pub record Along (d : DeskView) (es : List ℕ) (done lost : ℕ) (d' : DeskView) : Type 0 where
  pub visits : List Visit
  pub edges : map (λ (v : Visit). v.edge) visits ≡ es
  pub all : VisitsAll d visits d'
  pub done_is : done ≡ count is_done visits
  pub lost_is : lost ≡ count is_lost visits
  pub plan : d'.plan ≡ d.plan
  pub job : d'.job ≡ d.job
  pub table : d'.table ≡ d.table

-- the phase act that was due was done
pub record IsActed (d : DeskView) (waited : ℕ) (n : ℕ) (d' : DeskView) : Type 0 where
  pub events : List Event
  pub due : AreActs d.plan (known d) d.job waited events
  pub does : DoesAll d events d'
  pub says : n ≡ once events

-- One turn: each own edge in ascending order is visited, then comes the phase act that is due by the count at the turn's start, and the turn is noted
pub record Took (d : DeskView) (r : Turned) (d' : DeskView) : Type 0 where
  pub visits : List Visit
  pub edges : map (λ (v : Visit). v.edge) visits ≡ edges_of d.plan d.job
  pub visited : DeskView
  pub all : VisitsAll d visits visited
  pub acts : List Event
  pub due : AreActs visited.plan (known visited) visited.job (waited d) acts
  pub acted : DeskView
  pub does : DoesAll visited acts acted
  pub noted_is : d' ≡ noted acted (is_waiting (drinking (known d) d.job))
  pub says : Says r (count is_done visits + once acts) (count is_lost visits)

-- what a desk did in a turn is a turn of its record
abbrev pub TookIsTurn : Type 0
TookIsTurn = (d : DeskView) (r : Turned) (d' : DeskView) → Took d r d'
    → (events : List Event) × IsTurn d.plan d.job (waited d) (known d) events × (d'.deeds ≡ d.deeds ++ events)

-- the answer Idle is given for an idle turn alone
abbrev pub IdleIsIdle : Type 0
IdleIsIdle = (d d' : DeskView) → Took d Idle d' → (events : List Event) × IsIdleTurn d.plan d.job (waited d) (known d) events × (d'.deeds ≡ d.deeds ++ events)

-- The answer Moved is given only if looks alone were added to the record, one at each own edge, and an exchange that was due by what its look saw was lost.
-- Each that was lost found another word: what the desk saw meanwhile has a place for it after its look, where the edge is another than the look saw
pub record OnlyLooked (d d' : DeskView) : Type 0 where
  pub visits : List Visit
  pub edges : map (λ (v : Visit). v.edge) visits ≡ edges_of d.plan d.job
  pub looks : d'.deeds ≡ d.deeds ++ map (λ (v : Visit). Look d.job v.edge v.saw) visits
  pub due : AreVisits d.plan d.job (known d) visits
  pub lost : 0 < count is_lost visits
  pub more : List Event
  pub front : d'.front ≡ d.front ++ more
  pub stand : Stands d.plan (shown d) (visits_groups d.job visits) more

abbrev pub LostDidNothing : Type 0
LostDidNothing = (d d' : DeskView) → Took d Moved d' → OnlyLooked d d'
