-- The logs of a state and their room.
use Rattle.std.proofs.Common.{◌≡◌, ℕ, zero, suc, ◌+◌, ◌<◌, List, [], ◌∷◌, ◌++◌, length, map, replicate, slice_index_or, slice_set, length-set, arith, refl, sym, ap, ◌∙◌, subst}
use Rattle.std.specs.List.{range_with_len}
use Rattle.std.proofs.lemmas.List.FromFn.{get_or-map-range_with_len, length-map-range_with_len}
use Rattle.lab_plan.specs.LabPlan.{LabPlan}
use Rattle.instrument_log.specs.declared.entry.Entry.{Entry}
use Rattle.instrument_log.specs.InstrumentLog.{LogView, empty_log, with_entry as with_log_entry}
use Rattle.legal_steps.specs.declared.edge_state.EdgeState.{EdgeState}
use Rattle.legal_steps.specs.State.{State, Seat, Setting}
use Rattle.legal_steps.specs.Fitting.{Fits}
use Rattle.legal_steps.specs.Legal.{with_entry}
use Rattle.legal_steps.specs.WholeLogs.{room_of, log_with_room}
use Rattle.interleaving.specs.Rooms.{log_at, HasRooms}
use Rattle.legal_steps.proofs.FitsWrites.{fits_with_log}
use Rattle.interleaving.proofs.FitLemmas.{set_cases}

-- the entries of the log of an instrument
pub entries_at : (logs : List LogView) (i : ℕ) → slice_index_or (map (λ (l : LogView). l.entries) logs) i [] ≡ (log_at logs i).entries
entries_at [] i = refl
entries_at (l ∷ logs) zero = refl
entries_at (l ∷ logs) (suc i) = entries_at logs i

-- there are as many of their entries as of them
pub logs_wide : (logs : List LogView) → length logs ≡ length (map (λ (l : LogView). l.entries) logs)
logs_wide [] = refl
logs_wide (l ∷ logs) = ap suc (logs_wide logs)

-- one log is replaced
pub entries_set : (logs : List LogView) (i : ℕ) (log : LogView)
    → map (λ (l : LogView). l.entries) (slice_set logs i log) ≡ slice_set (map (λ (l : LogView). l.entries) logs) i log.entries
entries_set [] i log = refl
entries_set (l ∷ logs) zero log = refl
entries_set (l ∷ logs) (suc i) log = ap (λ xs. l.entries ∷ xs) (entries_set logs i log)

-- the state that tables show, by its parts
abbrev pub shown : List EdgeState → List Seat → List LogView → State
shown edges seats logs = record { edges = edges; seats = seats; logs = map (λ (l : LogView). l.entries) logs }

log_is : (plan : LabPlan) (edges : List EdgeState) (seats : List Seat) (logs : List LogView) (i : ℕ)
    → HasRooms plan logs → i < length logs → log_at logs i ≡ log_with_room plan (shown edges seats logs) i
log_is plan edges seats logs i rooms inside =
    let make : List Entry → ℕ → LogView = λ entries room. record { entries = entries; room = room } in
    ap (make (log_at logs i).entries) (rooms i inside) ∙ ap (λ entries. make entries (room_of plan i)) (sym (entries_at logs i))

-- a log as it is read from the tables
pub log_read : (w : Setting) (plan : LabPlan) (edges : List EdgeState) (seats : List Seat) (logs : List LogView) (i n : ℕ) (log : LogView)
    → record { plan = plan; state = shown edges seats logs } ≡ w → HasRooms plan logs
    → i < length logs → i ≡ n → log ≡ log_at logs i → log ≡ log_with_room w.plan w.state n
log_read w plan edges seats logs i n log view rooms inside same is =
    is ∙ (log_is plan edges seats logs i rooms inside ∙ (ap (λ (x : Setting). log_with_room x.plan x.state i) view ∙ ap (log_with_room w.plan w.state) same))

-- the state after one more entry
pub pushed : (w : Setting) (plan : LabPlan) (edges : List EdgeState) (seats : List Seat) (logs : List LogView) (i n : ℕ) (old new : LogView) (entry : Entry)
    → record { plan = plan; state = shown edges seats logs } ≡ w → i ≡ n → old ≡ log_at logs i
    → new ≡ with_log_entry old entry → shown edges seats (slice_set logs i new) ≡ with_entry w.state n entry
pushed w plan edges seats logs i n old new entry view same was is =
    let make : List (List Entry) → State = λ all. record { edges = edges; seats = seats; logs = all } in
    let entries : new.entries ≡ slice_index_or (map (λ (l : LogView). l.entries) logs) i [] ++ entry ∷ [] =
    ap (λ (l : LogView). l.entries) is ∙ (ap (λ (l : LogView). l.entries ++ entry ∷ []) was ∙ ap (λ xs. xs ++ entry ∷ []) (sym (entries_at logs i))) in
    ap make (entries_set logs i new ∙ ap (slice_set (map (λ (l : LogView). l.entries) logs) i) entries)
    ∙ (ap (λ (x : Setting). with_entry x.state i entry) view ∙ ap (λ k. with_entry w.state k entry) same)

-- the tables fit after it
pub fits_pushed : (plan : LabPlan) (edges : List EdgeState) (seats : List Seat) (logs : List LogView) (i : ℕ) (new : LogView)
    → Fits plan (shown edges seats logs) → Fits plan (shown edges seats (slice_set logs i new))
fits_pushed plan edges seats logs i new h =
    let make : List (List Entry) → State = λ all. record { edges = edges; seats = seats; logs = all } in
    subst (λ all. Fits plan (make all)) (sym (entries_set logs i new)) (fits_with_log plan (shown edges seats logs) i new.entries h)

pub rooms_pushed : (plan : LabPlan) (logs : List LogView) (i : ℕ) (old new : LogView) (entry : Entry) → HasRooms plan logs
    → i < length logs → old ≡ log_at logs i → new ≡ with_log_entry old entry → HasRooms plan (slice_set logs i new)
rooms_pushed plan logs i old new entry rooms inside was is k below =
    set_cases (λ n (l : LogView). l.room ≡ room_of plan n) logs i new (empty_log 0) k
    inside (ap (λ (l : LogView). l.room) (is ∙ ap (λ l. with_log_entry l entry) was) ∙ rooms i inside)
    (λ _. rooms k (omega (arith, below, length-set {A = LogView})))

-- ---- the logs of an opening

pub have_rooms : (plan : LabPlan) (n : ℕ) → HasRooms plan (map (λ i. empty_log (room_of plan i)) (range_with_len 0 n))
have_rooms plan n i below =
    let f : ℕ → LogView = λ k. empty_log (room_of plan k) in
    ap (λ (l : LogView). l.room) (get_or-map-range_with_len f 0 n i i (empty_log 0) (omega (arith, below, length-map-range_with_len f 0 n)) (omega arith))

pub are_empty : (plan : LabPlan) (a n : ℕ) → map (λ (l : LogView). l.entries) (map (λ i. empty_log (room_of plan i)) (range_with_len a n)) ≡ replicate n []
are_empty plan a zero = refl
are_empty plan a (suc n) = ap (λ (xs : List (List Entry)). [] ∷ xs) (are_empty plan (a + 1) n)
