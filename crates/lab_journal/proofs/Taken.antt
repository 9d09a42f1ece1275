-- What was taken of a lab stays taken.
use Rattle.std.proofs.Common.{◌≡◌, ℕ, ◌+◌, ◌-◌, ◌≤◌, Bool, true, false, ltb, if◌then◌else◌, List, [], ◌∷◌, ◌++◌, length, take, refl, sym, ap, ◌∙◌, arith, append_assoc, append-nil, length-append}
use Rattle.std.proofs.lemmas.Bool.{false≢true}
use Rattle.std.proofs.lemmas.Bool.Decides.{Decides-ltb}
use Rattle.std.proofs.lemmas.List.{take_at}
use Rattle.legal_steps.specs.declared.event.Event.{Event}
use Rattle.interleaving.specs.Kept.{TapeView, after_kept}
use Rattle.interleaving.specs.World.{WorldView}
use Rattle.lab_journal.specs.Taking.{taken}
use Rattle.lab_journal.specs.Laws.{JournalsFollow}

-- the events before those that are kept
pub taken_is : (w : WorldView) (before : List Event) → w.past ≡ before ++ w.kept.events → taken w ≡ before
taken_is w before is =
    let n : length w.past - length w.kept.events ≡ length before =
    (let all = ap (λ (l : List Event). length l) is in let sum = length-append before w.kept.events in omega (arith, all, sum)) in
    (λ i. take (n i) (is i)) ∙ take_at before w.kept.events (length before) refl

-- if none was left out, all are there
abbrev pub AreAllKept : TapeView → List Event → Type 0
AreAllKept kept events = (after_kept kept events).whole ≡ true → (kept.whole ≡ true) × ((after_kept kept events).events ≡ kept.events ++ events)

one_kept : (kept : TapeView) (event : Event) (events : List Event) (b : Bool) → ((k : TapeView) → AreAllKept k events)
    → (after_kept (if b then record kept { events = kept.events ++ event ∷ [] } else record kept { whole = false }) events).whole ≡ true
    → (kept.whole ≡ true) × ((after_kept (if b then record kept { events = kept.events ++ event ∷ [] } else record kept { whole = false }) events).events
    ≡ kept.events ++ event ∷ events)
one_kept kept event events true more whole =
    let all = more (record kept { events = kept.events ++ event ∷ [] }) whole in (all.0, all.1 ∙ append_assoc kept.events (event ∷ []) events)
one_kept kept event events false more whole = absurd (false≢true (more (record kept { whole = false }) whole).0)

pub all_kept : (kept : TapeView) (events : List Event) → AreAllKept kept events
all_kept kept [] = λ whole. (whole, sym (append-nil kept.events))
all_kept kept (event ∷ events) = one_kept kept event events (ltb (length kept.events) kept.room) (λ k. all_kept k events)

pub journals_follow : JournalsFollow
journals_follow x y events led is whole =
    let go = led.goes_on in
    let all = all_kept x.kept go.more (ap (λ (k : TapeView). k.whole) (sym go.kept) ∙ whole) in
    let ends = is all.0 in
    let kept : y.kept.events ≡ x.kept.events ++ go.more = ap (λ (k : TapeView). k.events) go.kept ∙ all.1 in
    let past : y.past ≡ ends.0 ++ y.kept.events =
    go.past ∙ (ap (λ (l : List Event). l ++ go.more) ends.1 ∙ (append_assoc ends.0 x.kept.events go.more ∙ ap (λ (l : List Event). ends.0 ++ l) (sym kept))) in
    taken_is y ends.0 past ∙ sym (taken_is x ends.0 ends.1)

-- few events find room
pub few_kept : (room : ℕ) (events more : List Event) → length events + length more ≤ room
    → after_kept (record { room = room; events = events; whole = true }) more ≡ record { room = room; events = events ++ more; whole = true }
few_kept room events [] few = ap (λ (l : List Event). record { room = room; events = l; whole = true }) (sym (append-nil events))
few_kept room events (x ∷ more) few =
    let here : ltb (length events) room ≡ true = there (length events) room (omega (arith, few)) in
    let size = length-append events (x ∷ []) in
    ap (λ (b : Bool). after_kept (if b then record { room = room; events = events ++ x ∷ []; whole = true } else record { room = room; events = events; whole = false }) more) here
    ∙ (few_kept room (events ++ x ∷ []) more (omega (arith, few, size))
    ∙ ap (λ (l : List Event). record { room = room; events = l; whole = true }) (append_assoc events (x ∷ []) more))
  where
    there : (m n : ℕ) → m + 1 ≤ n → ltb m n ≡ true
    there m n h = (Decides-ltb m n).1 (omega (arith, h))
