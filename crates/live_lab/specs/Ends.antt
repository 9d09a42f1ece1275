-- For readers: the end of a session.
use Rattle.std.specs.Prelude.{◌≡◌, ℕ, zero, suc, List, [], ◌∷◌, ◌++◌}
use Rattle.std.specs.List.{count_by}
use Rattle.legal_steps.specs.declared.event.Event.{Event}
use Rattle.legal_steps.specs.declared.event.Event.TheVariants.{Reach, Act, Quit}
use Rattle.legal_steps.specs.declared.phase.Drinking.{Drinking}
use Rattle.legal_steps.specs.declared.phase.Drinking.TheVariants.{Tranquil, Thirsty, Drinking as Drinks, Reaching, Retired}
use Rattle.legal_steps.specs.State.{IsDrinking, phase, drinking}
use Rattle.interleaving.specs.World.{WorldView, LeadsTo}
use Rattle.reasons.specs.Deeds.{is_deed}
use Rattle.session_layer.specs.declared.turning.Turned.{Turned}
use Rattle.session_layer.specs.Turn.{Says}
use Rattle.live_lab.specs.declared.end.Release.{Release}
use Rattle.live_lab.specs.declared.end.Release.TheVariants.{NotHeld, LetGo}
use Rattle.live_lab.specs.Labs.{LabView}
use Rattle.live_lab.specs.Rests.{ComesToRest}

-- a command that is in hand is done
abbrev pub in_hand : Drinking → ℕ → List Event
in_hand Reaching j = Act j ∷ []
in_hand Tranquil j = []
in_hand Thirsty j = []
in_hand Drinks j = []
in_hand Retired j = []

-- this many commands of the job, one after another
abbrev pub commands_by : ℕ → ℕ → List Event
commands_by j zero = []
commands_by j (suc n) = commands_by j n ++ Reach j ∷ Act j ∷ []

-- Commands are legal only as long as the session has any, and its end only when none is left. So these are all that are left
abbrev pub rest_of_session : Drinking → ℕ → ℕ → List Event
rest_of_session d j n = in_hand d j ++ commands_by j n ++ Quit j ∷ []

-- the job held. It did the commands that were left and ended its session, and then all was done that this made due
pub record EndsHeld (j : ℕ) (old : LabView) (r : Turned) (new : LabView) : Type 0 where
  pub held : IsDrinking (phase old.world.state j)
  pub left : ℕ
  pub mid : WorldView
  pub ends : LeadsTo old.world (rest_of_session (drinking old.world.state j) j left) mid
  pub later : List Event
  pub rests : ComesToRest mid later new.world
  pub says : Says r (count_by is_deed (rest_of_session (drinking old.world.state j) j left ++ later)) 0
  pub clocks : new.clocks ≡ old.clocks
  pub line : new.line ≡ old.line

-- so it was; or it didn't hold, and nothing changed
abbrev pub EndsSession : ℕ → LabView → Release → LabView → Type 0
EndsSession j old (LetGo r) new = EndsHeld j old r new
EndsSession j old NotHeld new = (IsDrinking (phase old.world.state j) → ⊥) × (new ≡ old)
