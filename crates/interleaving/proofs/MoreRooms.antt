-- Room that is made in logs one after another, and given back.
use Rattle.std.proofs.Common.{◌≡◌, ℕ, ◌+◌, ◌-◌, ◌<◌, ◌≤◌, List, length, length-set, slice_set, get_or-set_same, get_or-set_other, arith, refl, sym, ap, ◌∙◌, subst, inl, inr}
use Rattle.std.proofs.lemmas.Bool.{cases_eq, cases_lt}
use Rattle.std.proofs.lemmas.List.{ext_get_or, set-get_or}
use Rattle.lab_plan.specs.declared.verb.Verb.{Verb}
use Rattle.lab_plan.specs.LabPlan.{count_on}
use Rattle.instrument_log.specs.declared.entry.Entry.{Entry}
use Rattle.instrument_log.specs.InstrumentLog.{LogView, empty_log, with_room}
use Rattle.interleaving.specs.Rooms.{log_at, more_room, HaveMoreBelow, HaveMore, MaySpareBelow}

-- the room of a log that gets as much more is the same that gets the same
more_is_one : (a b : LogView) (i : ℕ) (commands : List (ℕ × Verb)) → more_room a i commands ≡ more_room b i commands → a ≡ b
more_is_one a b i commands same =
    let rooms : a.room + count_on i commands ≡ b.room + count_on i commands = ap (λ (l : LogView). l.room) same in
    let make : List Entry → ℕ → LogView = λ entries room. record { entries = entries; room = room } in
    ap (λ (entries : List Entry). make entries a.room) (ap (λ (l : LogView). l.entries) same) ∙ ap (make b.entries) (omega arith)

-- what was made and what was given back are the same
pub given_back : (commands : List (ℕ × Verb)) (n : ℕ) (old now new : List LogView)
    → HaveMoreBelow n commands old now → HaveMoreBelow n commands new now → new ≡ old
given_back commands n old now new made given = ext_get_or (empty_log 0) new old (sym given.as_many ∙ made.as_many) (λ i inside. elim (cases_lt i n) [
  | inl below ↦ more_is_one (log_at new i) (log_at old i) i commands
      (sym (given.more i below inside) ∙ made.more i below (let a = given.as_many in let b = made.as_many in omega arith))
  | inr past ↦ sym (given.others i past) ∙ made.others i past
])

-- the log at a place is replaced by itself
pub same_logs : (logs : List LogView) (n : ℕ) (log : LogView) → log ≡ log_at logs n → slice_set logs n log ≡ logs
same_logs logs n log is = ap (slice_set logs n) is ∙ set-get_or logs n (empty_log 0)

-- all that was made was given back
pub undone : (commands : List (ℕ × Verb)) (old now new : List LogView) → HaveMore commands old now → HaveMore commands new now → new ≡ old
undone commands old now new made given =
    given_back commands (length old) old now new made
    (subst (λ n. HaveMoreBelow n commands new now) (sym given.as_many ∙ made.as_many) given)

-- ---- one log after another

-- before the first log
pub more_none : (commands : List (ℕ × Verb)) (logs : List LogView) → HaveMoreBelow 0 commands logs logs
more_none commands logs = record { as_many = refl; more = λ i below inside. absurd (omega (arith, below)); others = λ i past. refl }

pub spare_none : (commands : List (ℕ × Verb)) (logs : List LogView) → MaySpareBelow 0 commands logs
spare_none commands logs i below inside = absurd (omega (arith, below))

-- one more log has its room
pub more_one : (commands : List (ℕ × Verb)) (n : ℕ) (old now : List LogView) (log : LogView) → n < length now
    → log ≡ more_room (log_at now n) n commands → HaveMoreBelow n commands old now → HaveMoreBelow (n + 1) commands old (slice_set now n log)
more_one commands n old now log within is before = record {
  as_many = length-set now n log ∙ before.as_many;
  more = λ i below inside. elim (cases_eq i n) [
    | inl here ↦ subst (λ k. log_at (slice_set now n log) k ≡ more_room (log_at old k) k commands) (sym here)
        (get_or-set_same now n log (empty_log 0) within ∙ is ∙ ap (λ (l : LogView). more_room l n commands) (before.others n (omega arith)))
    | inr other ↦ get_or-set_other now n i log (empty_log 0) other ∙ before.more i (omega (arith, below, other)) inside
  ];
  others = λ i past. get_or-set_other now n i log (empty_log 0) (λ same. omega (arith, past, same)) ∙ before.others i (omega (arith, past));
}

pub spare_one : (commands : List (ℕ × Verb)) (n : ℕ) (now : List LogView) (log : LogView) → n < length now
    → length (log_at now n).entries ≤ (log_at now n).room → log ≡ more_room (log_at now n) n commands
    → MaySpareBelow n commands now → MaySpareBelow (n + 1) commands (slice_set now n log)
spare_one commands n now log within fits is before i below inside = elim (cases_eq i n) [
  | inl here ↦
      let read : log_at (slice_set now n log) n ≡ more_room (log_at now n) n commands = get_or-set_same now n log (empty_log 0) within ∙ is in
      subst (λ k. length (log_at (slice_set now n log) k).entries + count_on k commands ≤ (log_at (slice_set now n log) k).room) (sym here)
      (omega (arith, fits, ap (λ (l : LogView). length l.entries) read, ap (λ (l : LogView). l.room) read))
  | inr other ↦ subst (λ (l : LogView). length l.entries + count_on i commands ≤ l.room) (sym (get_or-set_other now n i log (empty_log 0) other))
      (before i (omega (arith, below, other)) (omega (arith, inside, length-set now n log)))
]

-- one more log has given its room back
pub less_one : (commands : List (ℕ × Verb)) (n : ℕ) (now old : List LogView) (log : LogView) → n < length now
    → count_on n commands ≤ (log_at now n).room → log ≡ with_room ((log_at now n).room - count_on n commands) (log_at now n)
    → HaveMoreBelow n commands now old → HaveMoreBelow (n + 1) commands (slice_set now n log) old
less_one commands n now old log within enough is before = record {
  as_many = before.as_many ∙ sym (length-set now n log);
  more = λ i below inside. elim (cases_eq i n) [
    | inl here ↦
        let before_it = log_at now n in
        let again : more_room (log_at (slice_set now n log) n) n commands ≡ before_it =
        ap (λ (l : LogView). more_room l n commands) (get_or-set_same now n log (empty_log 0) within ∙ is)
        ∙ ap (λ (room : ℕ). with_room room before_it) (omega (arith, enough)) in
        subst (λ k. log_at old k ≡ more_room (log_at (slice_set now n log) k) k commands) (sym here) (before.others n (omega arith) ∙ sym again)
    | inr other ↦ before.more i (omega (arith, below, other)) (omega (arith, inside, length-set now n log))
        ∙ ap (λ (l : LogView). more_room l i commands) (sym (get_or-set_other now n i log (empty_log 0) other))
  ];
  others = λ i past. before.others i (omega (arith, past)) ∙ sym (get_or-set_other now n i log (empty_log 0) (λ same. omega (arith, past, same)));
}
