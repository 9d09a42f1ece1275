-- The events of a group, one by one: the states between them, and where each is legal.
use Rattle.std.proofs.Common.{◌≡◌, ℕ, ◌<◌, Bool, true, false, not, ◌==◌, List, [], length, arith, refl, ap, ◌∙◌, inl, inr}
use Rattle.std.proofs.lemmas.Bool.{cases_eq, false≢true}
use Rattle.std.proofs.lemmas.Bool.Decides.{nat_tests}
use Rattle.std.specs.Int.Bits.{xor_zero_r}
use Rattle.lab_plan.specs.LabPlan.{LabPlan}
use Rattle.legal_steps.specs.declared.event.Event.{Event}
use Rattle.legal_steps.specs.declared.event.Event.TheVariants.{AskFork, GiveFork, Soil, AskBottles, GiveBottles}
use Rattle.legal_steps.specs.State.{State, edge}
use Rattle.legal_steps.specs.Legal.{May, after, fork_asked, fork_given, fork_soiled, bottles_asked, bottles_given}
use Rattle.legal_steps.specs.Run.{IsLegalFrom, after_all}
use Rattle.edge_word.specs.declared.moves.EdgeMoves.{EdgeMoves}
use Rattle.edge_word.specs.Moves.{when, after_moves, on, events_of}
use Rattle.edge_word.proofs.EventLemmas.{Changes, GiveFork-changes, AskFork-changes, Soil-changes, AskBottles-changes, GiveBottles-changes}

-- the state after one event of a group, or without it
abbrev pub after_if : LabPlan → Bool → Event → State → State
after_if plan false event s = s
after_if plan true event s = after plan s event

after_on : (plan : LabPlan) (s : State) (b : Bool) (event : Event) (rest : List Event)
    → after_all plan s (on b event rest) ≡ after_all plan (after_if plan b event s) rest
after_on plan s false event rest = refl
after_on plan s true event rest = refl

legal_on : (plan : LabPlan) (s : State) (b : Bool) (event : Event) (rest : List Event)
    → IsLegalFrom plan s (on b event rest) → (b ≡ true → May plan s event) × IsLegalFrom plan (after_if plan b event s) rest
legal_on plan s false event rest h = ((λ e. absurd (false≢true e)), h)
legal_on plan s true event rest h = ((λ e. h.0), h.1)

-- each event of a group, or none
give_fork_if : (plan : LabPlan) (s : State) (j e : ℕ) (b : Bool) → e < length s.edges → Changes s (after_if plan b (GiveFork j e) s) e (when b fork_given)
give_fork_if plan s j e false h = record { changed = refl; as_many = refl }
give_fork_if plan s j e true h = GiveFork-changes plan s j e h

ask_fork_if : (plan : LabPlan) (s : State) (j e : ℕ) (b : Bool) → e < length s.edges → Changes s (after_if plan b (AskFork j e) s) e (when b fork_asked)
ask_fork_if plan s j e false h = record { changed = refl; as_many = refl }
ask_fork_if plan s j e true h = AskFork-changes plan s j e h

soil_if : (plan : LabPlan) (s : State) (j e : ℕ) (b : Bool) → e < length s.edges → Changes s (after_if plan b (Soil j e) s) e (when b fork_soiled)
soil_if plan s j e false h = record { changed = refl; as_many = refl }
soil_if plan s j e true h = Soil-changes plan s j e h

give_bottles_if : (plan : LabPlan) (s : State) (j e set : ℕ) → e < length s.edges
    → Changes s (after_if plan (not (set == 0)) (GiveBottles j e set) s) e (bottles_given set)
give_bottles_if plan s j e set h = elim (cases_eq set 0) [
  | inl none ↦ rw none (record { changed = rw (xor_zero_r (edge s e).bottles) refl; as_many = refl })
  | inr some ↦ let f : (set == 0) ≡ false = grind (arith, nat_tests) in rw f (GiveBottles-changes plan s j e set h)
]

ask_bottles_if : (plan : LabPlan) (s : State) (j e set : ℕ) → e < length s.edges
    → Changes s (after_if plan (not (set == 0)) (AskBottles j e set) s) e (bottles_asked set)
ask_bottles_if plan s j e set h = elim (cases_eq set 0) [
  | inl none ↦ rw none (record { changed = rw (xor_zero_r (edge s e).bottle_tokens) refl; as_many = refl })
  | inr some ↦ let f : (set == 0) ≡ false = grind (arith, nat_tests) in rw f (AskBottles-changes plan s j e set h)
]

-- the states between the events of a group
abbrev pub fork_left : LabPlan → State → ℕ → ℕ → EdgeMoves → State
fork_left plan s j e m = after_if plan m.give_fork (GiveFork j e) s

abbrev pub bottles_left : LabPlan → State → ℕ → ℕ → EdgeMoves → State
bottles_left plan s j e m = after_if plan (not (m.give_bottles == 0)) (GiveBottles j e m.give_bottles) (fork_left plan s j e m)

abbrev pub fork_wanted : LabPlan → State → ℕ → ℕ → EdgeMoves → State
fork_wanted plan s j e m = after_if plan m.ask_fork (AskFork j e) (bottles_left plan s j e m)

abbrev pub bottles_wanted : LabPlan → State → ℕ → ℕ → EdgeMoves → State
bottles_wanted plan s j e m = after_if plan (not (m.ask_bottles == 0)) (AskBottles j e m.ask_bottles) (fork_wanted plan s j e m)

-- the edge before the last event of a group
pub all_but_soil : (plan : LabPlan) (s : State) (j e : ℕ) (m : EdgeMoves) → e < length s.edges
    → Changes s (bottles_wanted plan s j e m) e
    (λ x. bottles_asked m.ask_bottles (when m.ask_fork fork_asked (bottles_given m.give_bottles (when m.give_fork fork_given x))))
all_but_soil plan s j e m h =
    let a = give_fork_if plan s j e m.give_fork h in
    let b = give_bottles_if plan (fork_left plan s j e m) j e m.give_bottles (omega (arith, a.as_many)) in
    let c = ask_fork_if plan (bottles_left plan s j e m) j e m.ask_fork (omega (arith, a.as_many, b.as_many)) in
    let d = ask_bottles_if plan (fork_wanted plan s j e m) j e m.ask_bottles (omega (arith, a.as_many, b.as_many, c.as_many)) in
    record {
      changed = d.changed ∙ ap (bottles_asked m.ask_bottles) (c.changed
          ∙ ap (when m.ask_fork fork_asked) (b.changed ∙ ap (bottles_given m.give_bottles) a.changed));
      as_many = d.as_many ∙ (c.as_many ∙ (b.as_many ∙ a.as_many));
    }

-- the state after a group
pub after_group : (plan : LabPlan) (s : State) (j e : ℕ) (m : EdgeMoves)
    → after_all plan s (events_of m j e) ≡ after_if plan m.soil (Soil j e) (bottles_wanted plan s j e m)
after_group plan s j e m =
    after_on plan s m.give_fork (GiveFork j e) _
    ∙ (after_on plan (fork_left plan s j e m) (not (m.give_bottles == 0)) (GiveBottles j e m.give_bottles) _
    ∙ (after_on plan (bottles_left plan s j e m) m.ask_fork (AskFork j e) _
    ∙ (after_on plan (fork_wanted plan s j e m) (not (m.ask_bottles == 0)) (AskBottles j e m.ask_bottles) _
    ∙ after_on plan (bottles_wanted plan s j e m) m.soil (Soil j e) [])))

-- its events lead to the edge that `after_moves` says
pub after_all-moves : (plan : LabPlan) (s : State) (j e : ℕ) (m : EdgeMoves)
    → e < length s.edges → edge (after_all plan s (events_of m j e)) e ≡ after_moves m (edge s e)
after_all-moves plan s j e m h =
    let b = all_but_soil plan s j e m h in
    let last = soil_if plan (bottles_wanted plan s j e m) j e m.soil (omega (arith, b.as_many)) in
    ap (λ t. edge t e) (after_group plan s j e m) ∙ (last.changed ∙ ap (when m.soil fork_soiled) b.changed)

-- where each event of a legal group is legal
pub record AreLegal (plan : LabPlan) (s : State) (j e : ℕ) (m : EdgeMoves) : Type 0 where
  pub give_fork : m.give_fork ≡ true → May plan s (GiveFork j e)
  pub give_bottles : not (m.give_bottles == 0) ≡ true → May plan (fork_left plan s j e m) (GiveBottles j e m.give_bottles)
  pub ask_fork : m.ask_fork ≡ true → May plan (bottles_left plan s j e m) (AskFork j e)
  pub ask_bottles : not (m.ask_bottles == 0) ≡ true → May plan (fork_wanted plan s j e m) (AskBottles j e m.ask_bottles)
  pub soil : m.soil ≡ true → May plan (bottles_wanted plan s j e m) (Soil j e)

pub each_legal : (plan : LabPlan) (s : State) (j e : ℕ) (m : EdgeMoves) → IsLegalFrom plan s (events_of m j e) → AreLegal plan s j e m
each_legal plan s j e m legal =
    let l1 = legal_on plan s m.give_fork (GiveFork j e) _ legal in
    let l2 = legal_on plan (fork_left plan s j e m) (not (m.give_bottles == 0)) (GiveBottles j e m.give_bottles) _ l1.1 in
    let l3 = legal_on plan (bottles_left plan s j e m) m.ask_fork (AskFork j e) _ l2.1 in
    let l4 = legal_on plan (fork_wanted plan s j e m) (not (m.ask_bottles == 0)) (AskBottles j e m.ask_bottles) _ l3.1 in
    let l5 = legal_on plan (bottles_wanted plan s j e m) m.soil (Soil j e) [] l4.1 in
    record { give_fork = l1.0; give_bottles = l2.0; ask_fork = l3.0; ask_bottles = l4.0; soil = l5.0 }
