-- How far a job is after a command and after words of owners.
use Rattle.std.proofs.Common.{◌≡◌, ℕ, ◌+◌, ◌<◌, [], ◌∷◌, length, sym, ap, ◌∙◌, subst, arith}
use Rattle.lab_plan.specs.LabPlan.{commands}
use Rattle.legal_steps.specs.declared.event.Event.{Event}
use Rattle.legal_steps.specs.declared.event.Event.TheVariants.{Reach, Act}
use Rattle.legal_steps.specs.declared.phase.JobState.{JobState}
use Rattle.legal_steps.specs.declared.phase.Drinking.TheVariants.{Drinking as Drinks, Reaching}
use Rattle.legal_steps.specs.State.{State, Seat, seat, phase, drinking, position}
use Rattle.legal_steps.specs.Legal.{after, IsJob, with_phase, with_entry, next_command, next_entry, session_commands}
use Rattle.legal_steps.proofs.FitsWrites.{seat_same}
use Rattle.turns.proofs.Frame.{as_many_seats}
use Rattle.interleaving.specs.World.{WorldView, LeadsTo, IsReachedWith}
use Rattle.settling.proofs.Worlds.{reached_fits}

abbrev pub HasSeat : State → ℕ → Type 0
HasSeat s j = j < length s.seats

pub has_seat : (w : WorldView) (j : ℕ) → IsReachedWith w.plan w.state w.counts → IsJob w.plan j → HasSeat w.state j
has_seat w j r job = subst (λ n. j < n) (sym (reached_fits w r).seats_there) job

pub phase_set : (s : State) (j : ℕ) (p : JobState) → HasSeat s j → phase (with_phase s j p) j ≡ p
phase_set s j p inside = ap (λ (x : Seat). x.phase) (seat_same s j (record (seat s j) { phase = p }) inside)

-- the phase after one event that leads from one world to the next
pub phase_after : (old new : WorldView) (x : Event) (j : ℕ) → LeadsTo old (x ∷ []) new → phase new.state j ≡ phase (after old.plan old.state x) j
phase_after old new x j l = ap (λ (s : State). phase s j) l.run.leads

pub seat_after : (old new : WorldView) (x : Event) (j : ℕ) → LeadsTo old (x ∷ []) new → HasSeat old.state j → HasSeat new.state j
seat_after old new x j l inside = subst (λ n. j < n) (sym (ap (λ (s : State). length s.seats) l.run.leads ∙ as_many_seats old.plan old.state x)) inside

-- a command leaves the job where it was, but for one command more
pub commanded : (old a b : WorldView) (j : ℕ) → HasSeat old.state j → LeadsTo old (Reach j ∷ []) a → LeadsTo a (Act j ∷ []) b
    → phase b.state j ≡ record (phase old.state j) { drinking = Drinks; position = position old.state j + 1 }
commanded old a b j inside first then =
    let mid : phase a.state j ≡ record (phase old.state j) { drinking = Reaching } = phase_after old a (Reach j) j first
    ∙ phase_set old.state j (record (phase old.state j) { drinking = Reaching }) inside in
    let s : State = a.state in
    phase_after a b (Act j) j then
    ∙ (phase_set (with_entry s (next_command a.plan s j).0 (next_entry a.plan s j)) j (record (phase s j) { drinking = Drinks; position = position s j + 1 })
    (seat_after old a (Reach j) j first inside)
    ∙ ap (λ (p : JobState). record p { drinking = Drinks; position = p.position + 1 }) mid)

-- ---- commands one after another

pub plus_none : (n : ℕ) → n ≡ n + 0
plus_none n = omega arith

-- the session's commands are as many as before
pub left_same : (old w : WorldView) (j : ℕ) {n : ℕ} → phase w.state j ≡ record (phase old.state j) { position = n } → w.plan ≡ old.plan
    → length (session_commands w.plan w.state j) ≡ length (session_commands old.plan old.state j)
left_same old w j at same = λ i. length (commands (same i) j (at i).session)

-- n commands, and one more
pub further : (p n : ℕ) (s : State) (j : ℕ) (t m : State) → drinking s j ≡ Drinks → phase m j ≡ record (phase s j) { position = p + n }
    → phase t j ≡ record (phase m j) { drinking = Drinks; position = position m j + 1 } → phase t j ≡ record (phase s j) { position = p + (n + 1) }
further p n s j t m drinks before more =
    let one : p + n + 1 ≡ p + (n + 1) = omega arith in
    more ∙ (ap (λ (x : JobState). record x { drinking = Drinks; position = x.position + 1 }) before
    ∙ (λ i. record (phase s j) { drinking = sym drinks i; position = one i }))
