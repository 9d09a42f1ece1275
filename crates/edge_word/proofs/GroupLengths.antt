-- How many events a legal group has, and the word of a job before its first event.
use Rattle.std.proofs.Common.{◌≡◌, ℕ, suc, ◌≤◌, Bool, true, false, not, ◌&&◌, ◌==◌, List, [], length, arith, refl, sym, ap, ◌∙◌}
use Rattle.std.proofs.lemmas.Bool.{false≢true}
use Rattle.lab_plan.specs.LabPlan.{LabPlan}
use Rattle.legal_steps.specs.declared.event.Event.{Event}
use Rattle.legal_steps.specs.declared.event.Event.TheVariants.{AskFork, GiveFork, Soil, AskBottles, GiveBottles}
use Rattle.legal_steps.specs.declared.phase.Dining.{Dining}
use Rattle.legal_steps.specs.declared.phase.Dining.TheVariants.{Hungry, Eating}
use Rattle.legal_steps.specs.declared.phase.JobState.{JobState}
use Rattle.legal_steps.specs.State.{State}
use Rattle.legal_steps.specs.Run.{IsLegalFrom}
use Rattle.edge_word.specs.declared.moves.EdgeMoves.{EdgeMoves}
use Rattle.edge_word.specs.Moves.{on, events_of}
use Rattle.edge_word.specs.Phases.{phase_word_of}
use Rattle.edge_word.specs.WordLaws.{LegalGroupsAreShort, OpensAtZero}
use Rattle.edge_word.proofs.MoveLemmas.{bottles_left, fork_wanted, each_legal}
use Rattle.edge_word.proofs.MoveFrame.{ask_fork_only, ask_bottles_only}

pub opens_at_zero : OpensAtZero
unfolding phase_word_of
opens_at_zero = refl

-- one more event at most, and none where it isn't done
at_most : (b : Bool) (event : Event) (rest : List Event) (n : ℕ) → length rest ≤ n → length (on b event rest) ≤ suc n
at_most false event rest n h = omega (arith, h)
at_most true event rest n h = omega (arith, h)

without : (b : Bool) (event : Event) (rest : List Event) (n : ℕ) → b ≡ false → length rest ≤ n → length (on b event rest) ≤ n
without false event rest n isnt h = h
without true event rest n isnt h = absurd (false≢true (sym isnt))

no_fork_asked : (m : EdgeMoves) (j e : ℕ) → m.ask_fork ≡ false → length (events_of m j e) ≤ 4
no_fork_asked m j e isnt = at_most m.give_fork (GiveFork j e) _ 3 (at_most (not (m.give_bottles == 0)) (GiveBottles j e m.give_bottles) _ 2
    (without m.ask_fork (AskFork j e) _ 2 isnt (at_most (not (m.ask_bottles == 0)) (AskBottles j e m.ask_bottles) _ 1 (at_most m.soil (Soil j e) [] 0 (omega arith)))))

none_soiled : (m : EdgeMoves) (j e : ℕ) → m.soil ≡ false → length (events_of m j e) ≤ 4
none_soiled m j e isnt = at_most m.give_fork (GiveFork j e) _ 3 (at_most (not (m.give_bottles == 0)) (GiveBottles j e m.give_bottles) _ 2
    (at_most m.ask_fork (AskFork j e) _ 1 (at_most (not (m.ask_bottles == 0)) (AskBottles j e m.ask_bottles) _ 0 (without m.soil (Soil j e) [] 0 isnt (omega arith)))))

not_both_phases : (x : Dining) → x ≡ Hungry → x ≡ Eating → ⊥
not_both_phases x hungry eating = cc

-- it is hungry at the one and eats at the other, and its phase stays between them
not_both : (plan : LabPlan) (s : State) (j e : ℕ) (m : EdgeMoves) → IsLegalFrom plan s (events_of m j e) → m.ask_fork ≡ true → m.soil ≡ true → ⊥
not_both plan s j e m legal asks soils =
    let are = each_legal plan s j e m legal in
    let asked = ask_fork_only plan (bottles_left plan s j e m) j e m.ask_fork in
    let wanted = ask_bottles_only plan (fork_wanted plan s j e m) j e m.ask_bottles (not (m.ask_bottles == 0)) in
    let stays = ap (λ (x : JobState). x.dining) (wanted.own_phase ∙ asked.own_phase) in
    not_both_phases _ (are.ask_fork asks).1 (sym stays ∙ (are.soil soils).1)

at_most_four : (plan : LabPlan) (s : State) (j e : ℕ) (m : EdgeMoves) (asks soils : Bool) → IsLegalFrom plan s (events_of m j e)
    → m.ask_fork ≡ asks → m.soil ≡ soils → length (events_of m j e) ≤ 4
at_most_four plan s j e m false soils legal asked soiled = no_fork_asked m j e asked
at_most_four plan s j e m true false legal asked soiled = none_soiled m j e soiled
at_most_four plan s j e m true true legal asked soiled = absurd (not_both plan s j e m legal asked soiled)

one_at_least : (give given ask asked soil : Bool) (v w x y z : Event) → (not give && given && not ask && asked && not soil) ≡ false
    → 1 ≤ length (on give v (on (not given) w (on ask x (on (not asked) y (on soil z [])))))
one_at_least true given ask asked soil v w x y z some = omega arith
one_at_least false false ask asked soil v w x y z some = omega arith
one_at_least false true true asked soil v w x y z some = omega arith
one_at_least false true false false soil v w x y z some = omega arith
one_at_least false true false true true v w x y z some = omega arith
one_at_least false true false true false v w x y z some = absurd (false≢true (sym some))

pub legal_groups_are_short : LegalGroupsAreShort
legal_groups_are_short = λ plan s j e m legal some. (
  one_at_least m.give_fork (m.give_bottles == 0) m.ask_fork (m.ask_bottles == 0) m.soil _ _ _ _ _ some,
  at_most_four plan s j e m m.ask_fork m.soil legal refl refl,
)
