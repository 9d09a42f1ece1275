-- What each event does to the books: seven kinds of event move one job to another stage, and Act adds an entry; the others leave the books as they are.
use Rattle.std.proofs.Common.{◌≡◌, ℕ, ◌+◌, ◌<◌, ◌≤◌, length, List, [], ◌∷◌, ◌++◌, slice_set, slice_index_or, sym, ap, subst, ◌∙◌, inl, inr, refl, arith, get_or-set_same, get_or-set_other}
use Rattle.std.proofs.lemmas.Bool.{cases_eq, cases_lt}
use Rattle.std.proofs.lemmas.List.{set_past}
use Rattle.std.proofs.lemmas.List.Elements.{All-get_or}
use Rattle.lab_plan.specs.declared.verb.Verb.{Verb}
use Rattle.lab_plan.specs.LabPlan.{LabPlan, sessions, commands, command_at}
use Rattle.lab_plan.specs.IsPlan.{IsNamed}
use Rattle.instrument_log.specs.declared.entry.Entry.{Entry}
use Rattle.legal_steps.specs.declared.phase.Drinking.TheVariants.{Tranquil, Thirsty, Drinking as Drinks, Reaching, Retired}
use Rattle.legal_steps.specs.declared.event.Event.{Event}
use Rattle.legal_steps.specs.declared.event.Event.TheVariants.{Look, AskFork, GiveFork, Soil, AskBottles, GiveBottles, Thirst, Hunger, Sit, Leave, Drink, Reach, Act, Quit, Retire, Glance, Withdraw}
use Rattle.legal_steps.specs.State.{State, Seat, seat, phase, log}
use Rattle.legal_steps.specs.Fitting.{Fits}
use Rattle.legal_steps.specs.Legal.{May, after, with_seat, next_command, entry_after, next_entry, IsJob}
use Rattle.legal_steps.proofs.LogBooks.{Stage, Books, stage_of, books, put, put-same, put-other}

-- ---- where each kind is legal, as far as the books say it, and the books after it

abbrev pub commands_of : LabPlan → Books → ℕ → List (ℕ × Verb)
commands_of plan b j = commands plan j (b.stages j).session

-- the next command of a job, and its entry
abbrev pub next_of : LabPlan → Books → ℕ → ℕ × Verb
next_of plan b j = command_at plan j (b.stages j).session (b.stages j).position

abbrev pub entry_of : LabPlan → Books → ℕ → Entry
entry_of plan b j = entry_after plan j (b.stages j).session (b.stages j).position (b.logs (next_of plan b j).0)

abbrev pub Can : LabPlan → Books → Event → Type 0
Can plan b (Thirst j) = IsJob plan j × ((b.stages j).drinking ≡ Tranquil) × ((b.stages j).session < length (sessions plan j))
Can plan b (Drink j) = IsJob plan j × ((b.stages j).drinking ≡ Thirsty)
Can plan b (Reach j) = IsJob plan j × ((b.stages j).drinking ≡ Drinks) × ((b.stages j).position < length (commands_of plan b j))
Can plan b (Act j) = IsJob plan j × ((b.stages j).drinking ≡ Reaching)
Can plan b (Quit j) = IsJob plan j × ((b.stages j).drinking ≡ Drinks) × (length (commands_of plan b j) ≤ (b.stages j).position)
Can plan b (Retire j) = IsJob plan j × ((b.stages j).drinking ≡ Tranquil)
Can plan b (Withdraw j) = IsJob plan j × ((b.stages j).drinking ≡ Thirsty)
Can plan b _ = Unit {0}

-- a job moves to another stage
abbrev pub with_stage : Books → ℕ → Stage → Books
with_stage b j x = record b { stages = put b.stages j x }

abbrev pub booked : LabPlan → Books → Event → Books
booked plan b (Thirst j) = with_stage b j (record { drinking = Thirsty; session = (b.stages j).session + 1; position = 0 })
booked plan b (Drink j) = with_stage b j (record (b.stages j) { drinking = Drinks })
booked plan b (Reach j) = with_stage b j (record (b.stages j) { drinking = Reaching })
booked plan b (Act j) = record {
  stages = put b.stages j (record (b.stages j) { drinking = Drinks; position = (b.stages j).position + 1 });
  logs = put b.logs (next_of plan b j).0 (b.logs (next_of plan b j).0 ++ entry_of plan b j ∷ []);
}
booked plan b (Quit j) = with_stage b j (record (b.stages j) { drinking = Tranquil; position = 0 })
booked plan b (Retire j) = with_stage b j (record (b.stages j) { drinking = Retired })
booked plan b (Withdraw j) = with_stage b j (record (b.stages j) { drinking = Tranquil; position = 0 })
booked plan b _ = b

-- ---- that this is what the events do

pub can_from : (plan : LabPlan) (s : State) (event : Event) → May plan s event → Can plan (books s) event
can_from plan s (Thirst j) may = (may.0, may.1, may.3)
can_from plan s (Drink j) may = (may.0, may.1)
can_from plan s (Reach j) may = may
can_from plan s (Act j) may = may
can_from plan s (Quit j) may = may
can_from plan s (Retire j) may = (may.0, may.2)
can_from plan s (Withdraw j) may = (may.0, may.1)
can_from plan s _ may = tt

-- a seat that is replaced by one of which the same is read
pub read-same : {X : Type 0} (f : Seat → X) (s : State) (j : ℕ) (x : Seat) → f x ≡ f (seat s j) → (k : ℕ) → f (seat (with_seat s j x) k) ≡ f (seat s k)
read-same f s j x same k = elim (cases_eq k j) [
  | inl here ↦ elim (cases_lt j (length s.seats)) [
    | inl inside ↦ subst (λ n. f (seat (with_seat s j x) n) ≡ f (seat s n)) (sym here) (ap f (get_or-set_same s.seats j x _ inside) ∙ same)
    | inr past ↦ ap (λ seats. f (seat (record s { seats = seats }) k)) (set_past s.seats j x past)
  ]
  | inr other ↦ ap f (get_or-set_other s.seats j k x _ other)
]

-- a seat that is replaced
pub read-put : {X : Type 0} (f : Seat → X) (s : State) (j : ℕ) (x : Seat) → j < length s.seats
    → (k : ℕ) → f (seat (with_seat s j x) k) ≡ put (λ n. f (seat s n)) j (f x) k
read-put f s j x inside k = elim (cases_eq k j) [
  | inl here ↦ subst (λ n. f (seat (with_seat s j x) n) ≡ put (λ m. f (seat s m)) j (f x) n) (sym here)
      (ap f (get_or-set_same s.seats j x _ inside) ∙ sym (put-same (λ m. f (seat s m)) j (f x)))
  | inr other ↦ ap f (get_or-set_other s.seats j k x _ other) ∙ sym (put-other (λ m. f (seat s m)) j (f x) k other)
]

-- the stage of a seat's job
abbrev stage_in : Seat → Stage
stage_in x = stage_of x.phase

-- a log that is replaced
log-put : (logs : List (List Entry)) (i : ℕ) (entries : List Entry) → i < length logs → (k : ℕ)
    → slice_index_or (slice_set logs i entries) k [] ≡ put (λ n. slice_index_or logs n []) i entries k
log-put logs i entries inside k = elim (cases_eq k i) [
  | inl here ↦ subst (λ n. slice_index_or (slice_set logs i entries) n [] ≡ put (λ m. slice_index_or logs m []) i entries n) (sym here)
      (get_or-set_same logs i entries _ inside ∙ sym (put-same (λ m. slice_index_or logs m []) i entries))
  | inr other ↦ get_or-set_other logs i k entries _ other ∙ sym (put-other (λ m. slice_index_or logs m []) i entries k other)
]

with_seat-same : (s : State) (j : ℕ) (x : Seat) → stage_of x.phase ≡ stage_of (phase s j) → books (with_seat s j x) ≡ books s
with_seat-same s j x same = λ n. record { stages = λ k. read-same stage_in s j x same k n; logs = λ i. log s i }

with_seat-put : (s : State) (j : ℕ) (x : Seat) → j < length s.seats → books (with_seat s j x) ≡ with_stage (books s) j (stage_of x.phase)
with_seat-put s j x inside = λ n. record { stages = λ k. read-put stage_in s j x inside k n; logs = λ i. log s i }

-- the instrument of a reaching job's next command is one of the plan's
pub next-inside : (plan : LabPlan) (s : State) (j : ℕ) → IsNamed plan → Fits plan s → Can plan (books s) (Act j) → (next_command plan s j).0 < length s.logs
next-inside plan s j named fit can =
    let x = phase s j in
    let P : ℕ × Verb → Type 0 = λ command. command.0 < length plan.instruments in
    let left : x.position < length (commands plan j x.session) = (fit.seats_fit j can.0).phase_within.command_left can.1 in
    let here : P (next_command plan s j) = All-get_or P (commands plan j x.session) x.position _ left (named j x.session) in
    omega (arith, here, fit.logs_there)

act_booked : (plan : LabPlan) (s : State) (j : ℕ) → IsNamed plan → Fits plan s
    → Can plan (books s) (Act j) → books (after plan s (Act j)) ≡ booked plan (books s) (Act j)
unfolding next_entry
act_booked plan s j named fit can = λ n. record {
  stages = λ k. read-put stage_in s j (record (seat s j) { phase = record (phase s j) { drinking = Drinks; position = (phase s j).position + 1 } })
      (omega (arith, can.0, fit.seats_there)) k n;
  logs = λ i. log-put s.logs (next_command plan s j).0 (log s (next_command plan s j).0 ++ next_entry plan s j ∷ []) (next-inside plan s j named fit can) i n;
}

-- the books after a legal event
pub books_after : (plan : LabPlan) (s : State) (event : Event) → IsNamed plan → Fits plan s
    → May plan s event → books (after plan s event) ≡ booked plan (books s) event
books_after plan s (Look j e seen) named fit may = with_seat-same s j _ refl
books_after plan s (AskFork j e) named fit may = refl
books_after plan s (GiveFork j e) named fit may = with_seat-same s j _ refl
books_after plan s (Soil j e) named fit may = with_seat-same s j _ refl
books_after plan s (AskBottles j e set) named fit may = refl
books_after plan s (GiveBottles j e set) named fit may = with_seat-same s j _ refl
books_after plan s (Thirst j) named fit may = with_seat-put s j _ (omega (arith, may.0, fit.seats_there))
books_after plan s (Hunger j) named fit may = with_seat-same s j _ refl
books_after plan s (Sit j) named fit may = with_seat-same s j _ refl
books_after plan s (Leave j) named fit may = with_seat-same s j _ refl
books_after plan s (Drink j) named fit may = with_seat-put s j _ (omega (arith, may.0, fit.seats_there))
books_after plan s (Reach j) named fit may = with_seat-put s j _ (omega (arith, may.0, fit.seats_there))
books_after plan s (Act j) named fit may = act_booked plan s j named fit may
books_after plan s (Quit j) named fit may = with_seat-put s j _ (omega (arith, may.0, fit.seats_there))
books_after plan s (Retire j) named fit may = with_seat-put s j _ (omega (arith, may.0, fit.seats_there))
books_after plan s (Glance j other seen) named fit may = refl
books_after plan s (Withdraw j) named fit may = with_seat-put s j _ (omega (arith, may.0, fit.seats_there))
