-- The sessions that are cut from the list of all commands of a job.
use Rattle.std.proofs.Common.{◌≡◌, ℕ, zero, suc, ◌+◌, ◌-◌, ◌<◌, ◌≤◌, Bool, true, ◌==◌, ◌&&◌, nat_lt, List, [], ◌∷◌, ◌++◌, length, take, drop, slice_range, slice_index_or, arith, refl, sym, ap, ◌∙◌, length-append, append-nil}
use Rattle.std.specs.Prelude.{Option}
use Rattle.std.proofs.lemmas.Bool.Decides.{Decides-ltb, nat_tests}
use Rattle.std.proofs.lemmas.List.{length-take, length-drop, drop_all, drop_more, take_more, take_rest, take-append-drop, take_at, drop_at, take-append-le, drop-append-le}
use Rattle.std.proofs.lemmas.List.Concat.{flat_map-append}
use Rattle.std.proofs.lemmas.List.Folds.{drop_split}
use Rattle.lab_plan.specs.declared.verb.Verb.{Verb}
use Rattle.lab_plan.specs.declared.job.Session.{Session}
use Rattle.lab_plan.specs.LabPlan.{SessionPlan, JobPlan, no_session}
use Rattle.lab_plan.specs.Building.{on_last, and_command}
use Rattle.lab_plan.specs.Cuts.{commands_of, commands_before, first_start, cut, AreInOrder}

abbrev pub job_of : List ℕ → List SessionPlan → JobPlan
job_of name sessions = record { name = name; sessions = sessions }

abbrev pub begun : Option ℕ → ℕ → Session
begun patience start = record { patience = patience; start = start }

abbrev session_of : Option ℕ → List (ℕ × Verb) → SessionPlan
session_of patience commands = record { patience = patience; commands = commands }

-- ---- what the sessions say of the list

pub length-cut : (sessions : List Session) (all : List (ℕ × Verb)) → length (cut sessions all) ≡ length sessions
length-cut [] all = refl
length-cut (s ∷ sessions) all = ap suc (length-cut sessions all)

first_within : (sessions : List Session) (end : ℕ) → AreInOrder sessions end → first_start sessions end ≤ end
first_within [] end order = omega arith
first_within (s ∷ sessions) end order = let rest = first_within sessions end order.1 in omega (arith, rest, order.0)

-- the list from the first session on is that of all their commands
cut_from : (sessions : List Session) (all : List (ℕ × Verb)) → AreInOrder sessions (length all)
    → commands_of (cut sessions all) ≡ drop (first_start sessions (length all)) all
cut_from [] all order = sym (drop_all (length all) all (omega arith))
cut_from (s ∷ sessions) all order =
    ap (λ l. slice_range all s.start (first_start sessions (length all)) ++ l) (cut_from sessions all order.1)
    ∙ sym (drop_split all s.start (first_start sessions (length all)) order.0)

pub cut_all : (sessions : List Session) (all : List (ℕ × Verb)) → first_start sessions (length all) ≡ 0
    → AreInOrder sessions (length all) → commands_of (cut sessions all) ≡ all
cut_all sessions all whole order = cut_from sessions all order ∙ ap (λ k. drop k all) whole

length_range : (all : List (ℕ × Verb)) (from to : ℕ) → from ≤ to → to ≤ length all → length (slice_range all from to) + from ≡ to
length_range all from to order within =
    omega (arith, length-take (to - from) (drop from all), length-drop from all, order, within)

-- the commands of the first k sessions end where the next one begins
before_from : (sessions : List Session) (all : List (ℕ × Verb)) (k : ℕ) → AreInOrder sessions (length all)
    → commands_before (cut sessions all) k + first_start sessions (length all) ≡ first_start (drop k sessions) (length all)
before_from sessions all zero order = omega arith
before_from [] all (suc k) order = omega arith
before_from (s ∷ sessions) all (suc k) order =
    let next = first_start sessions (length all) in
    let piece = slice_range all s.start next in
    let long = length_range all s.start next order.0 (first_within sessions (length all) order.1) in
    omega (arith, before_from sessions all k order.1, length-append piece (commands_of (take k (cut sessions all))), long)

pub cut_before : (sessions : List Session) (all : List (ℕ × Verb)) (k : ℕ) → first_start sessions (length all) ≡ 0
    → AreInOrder sessions (length all) → first_start (drop k sessions) (length all) ≡ commands_before (cut sessions all) k
cut_before sessions all k whole order = let from = before_from sessions all k order in omega (arith, from, whole)

pub cut_patience : (sessions : List Session) (all : List (ℕ × Verb)) (k : ℕ) (d : Session) → k < length sessions
    → (slice_index_or sessions k d).patience ≡ (slice_index_or (cut sessions all) k no_session).patience
cut_patience [] all k d inside = absurd (omega (arith, inside))
cut_patience (s ∷ sessions) all zero d inside = refl
cut_patience (s ∷ sessions) all (suc k) d inside = cut_patience sessions all k d (omega (arith, inside))

pub cut_start : (sessions : List Session) (all : List (ℕ × Verb)) (k : ℕ) (d : Session) → k < length sessions → first_start sessions (length all) ≡ 0
    → AreInOrder sessions (length all) → (slice_index_or sessions k d).start ≡ commands_before (cut sessions all) k
cut_start sessions all k d inside whole order =
    ap (λ l. first_start l (length all)) (sym (drop_more sessions k d inside)) ∙ cut_before sessions all k whole order

-- past the last session all commands are behind
pub cut_end : (sessions : List Session) (all : List (ℕ × Verb)) (k : ℕ) → length sessions ≤ k → first_start sessions (length all) ≡ 0
    → AreInOrder sessions (length all) → length all ≡ commands_before (cut sessions all) k
cut_end sessions all k past whole order =
    ap (λ l. first_start l (length all)) (sym (drop_all k sessions past)) ∙ cut_before sessions all k whole order

-- ---- the list between two starts

pub before_more : (sessions : List SessionPlan) (k : ℕ) → k < length sessions
    → commands_before sessions (k + 1) ≡ commands_before sessions k + length (slice_index_or sessions k no_session).commands
before_more sessions k inside =
    let one : SessionPlan = slice_index_or sessions k no_session in
    ap (λ l. length (commands_of l)) (take_more sessions k no_session inside)
    ∙ ap length (flat_map-append (λ (s : SessionPlan). s.commands) (take k sessions) (one ∷ []) ∙ ap (λ l. commands_of (take k sessions) ++ l) (append-nil one.commands))
    ∙ length-append (commands_of (take k sessions)) one.commands

pub before_le : (sessions : List SessionPlan) (k : ℕ) → commands_before sessions k ≤ length (commands_of sessions)
before_le sessions k =
    let split = ap (λ l. length (commands_of l)) (sym (take-append-drop k sessions))
    ∙ ap length (flat_map-append (λ (s : SessionPlan). s.commands) (take k sessions) (drop k sessions))
    ∙ length-append (commands_of (take k sessions)) (commands_of (drop k sessions)) in
    omega (arith, split)

piece_between : (sessions : List SessionPlan) (k : ℕ) → k < length sessions
    → slice_range (commands_of sessions) (commands_before sessions k) (commands_before sessions (k + 1)) ≡ (slice_index_or sessions k no_session).commands
piece_between sessions k inside =
    let one : SessionPlan = slice_index_or sessions k no_session in
    let behind = commands_of (drop (k + 1) sessions) in
    let n = commands_before sessions k in
    let m = commands_before sessions (k + 1) in
    let whole : commands_of sessions ≡ commands_of (take k sessions) ++ (one.commands ++ behind) =
    ap commands_of (sym (take-append-drop k sessions)) ∙ flat_map-append (λ (s : SessionPlan). s.commands) (take k sessions) (drop k sessions)
    ∙ ap (λ l. commands_of (take k sessions) ++ commands_of l) (drop_more sessions k no_session inside) in
    let long : length one.commands ≡ m - n = omega (arith, before_more sessions k inside) in
    ap (λ l. slice_range l n m) whole
    ∙ ap (take (m - n)) (drop_at (commands_of (take k sessions)) (one.commands ++ behind) n refl)
    ∙ take_at one.commands behind (m - n) long

-- what is read between the start of a session and its end
pub piece_read : (sessions : List SessionPlan) (k : ℕ) (all : List (ℕ × Verb)) (from to : ℕ) → k < length sessions → all ≡ commands_of sessions
    → from ≡ commands_before sessions k → to ≡ commands_before sessions (k + 1) → slice_range all from to ≡ (slice_index_or sessions k no_session).commands
piece_read sessions k all from to inside all_is from_is to_is =
    ap (λ l. slice_range l from to) all_is
    ∙ ap (λ n. slice_range (commands_of sessions) n to) from_is
    ∙ ap (slice_range (commands_of sessions) (commands_before sessions k)) to_is
    ∙ piece_between sessions k inside

last_bare : (sessions : List Session) (all : List (ℕ × Verb)) (k : ℕ) (d : Session) → k + 1 ≡ length sessions → first_start sessions (length all) ≡ 0
    → AreInOrder sessions (length all)
    → ((slice_index_or sessions k d).start == length all) ≡ (length (slice_index_or (cut sessions all) k no_session).commands == 0)
last_bare sessions all k d last whole order =
    let start = cut_start sessions all k d (omega (arith, last)) whole order in
    let end = cut_end sessions all (k + 1) (omega (arith, last)) whole order in
    let more = before_more (cut sessions all) k (omega (arith, last, length-cut sessions all)) in
    grind (arith, nat_tests, start, end, more)

-- the last session has no command
abbrev pub is_last_bare : List SessionPlan → Bool
is_last_bare sessions = nat_lt 0 (length sessions) && (length (slice_index_or sessions (length sessions - 1) no_session).commands == 0)

pub bare_is : (sessions : List Session) (all : List (ℕ × Verb)) (k : ℕ) (d : Session) → k + 1 ≡ length sessions → first_start sessions (length all) ≡ 0
    → AreInOrder sessions (length all) → ((slice_index_or sessions k d).start == length all) ≡ is_last_bare (cut sessions all)
bare_is sessions all k d last whole order =
    let long = length-cut sessions all in
    let some : nat_lt 0 (length (cut sessions all)) ≡ true = (Decides-ltb 0 (length (cut sessions all))).1 (omega (arith, last, long)) in
    let at : length (cut sessions all) - 1 ≡ k = omega (arith, last, long) in
    rw (some, at) (last_bare sessions all k d last whole order)

-- ---- one more session

first_begun : (sessions : List Session) (end : ℕ) (patience : Option ℕ)
    → first_start (sessions ++ begun patience end ∷ []) end ≡ first_start sessions end
first_begun [] end patience = refl
first_begun (s ∷ sessions) end patience = refl

pub cut_begun : (sessions : List Session) (all : List (ℕ × Verb)) (patience : Option ℕ)
    → cut (sessions ++ begun patience (length all) ∷ []) all ≡ cut sessions all ++ record { patience = patience; commands = [] } ∷ []
cut_begun [] all patience = ap (λ l. session_of patience l ∷ []) (take_rest all (length all) ∙ drop_all (length all) all (omega arith))
cut_begun (s ∷ sessions) all patience =
    ap (λ end. session_of s.patience (slice_range all s.start end) ∷ cut (sessions ++ begun patience (length all) ∷ []) all)
    (first_begun sessions (length all) patience)
    ∙ ap (λ l. session_of s.patience (slice_range all s.start (first_start sessions (length all))) ∷ l) (cut_begun sessions all patience)

pub whole_begun : (sessions : List Session) (end : ℕ) (patience : Option ℕ) → first_start sessions end ≡ 0
    → first_start (sessions ++ begun patience end ∷ []) end ≡ 0
whole_begun sessions end patience whole = first_begun sessions end patience ∙ whole

pub order_begun : (sessions : List Session) (end : ℕ) (patience : Option ℕ) → AreInOrder sessions end
    → AreInOrder (sessions ++ begun patience end ∷ []) end
order_begun [] end patience order = (omega arith, tt)
order_begun (s ∷ sessions) end patience order =
    (omega (arith, order.0, first_begun sessions end patience), order_begun sessions end patience order.1)

-- ---- one more session with its commands

range_added : (all more : List (ℕ × Verb)) (from to : ℕ) → from ≤ to → to ≤ length all → slice_range (all ++ more) from to ≡ slice_range all from to
range_added all more from to order within =
    ap (take (to - from)) (drop-append-le from all more (omega (arith, order, within)))
    ∙ take-append-le (to - from) (drop from all) more (omega (arith, length-drop from all, within))

pub first_added : (sessions : List Session) (end end' : ℕ) (patience : Option ℕ)
    → first_start (sessions ++ begun patience end ∷ []) end' ≡ first_start sessions end
first_added [] end end' patience = refl
first_added (s ∷ sessions) end end' patience = refl

pub cut_added : (sessions : List Session) (all more : List (ℕ × Verb)) (patience : Option ℕ) → AreInOrder sessions (length all)
    → cut (sessions ++ begun patience (length all) ∷ []) (all ++ more) ≡ cut sessions all ++ session_of patience more ∷ []
cut_added [] all more patience order =
    ap (λ l. session_of patience l ∷ []) (take_rest (all ++ more) (length all) ∙ drop-append-le (length all) all more (omega arith)
    ∙ ap (λ l. l ++ more) (drop_all (length all) all (omega arith)))
cut_added (s ∷ sessions) all more patience order =
    ap (λ end. session_of s.patience (slice_range (all ++ more) s.start end) ∷ cut (sessions ++ begun patience (length all) ∷ []) (all ++ more))
    (first_added sessions (length all) (length (all ++ more)) patience)
    ∙ ap (λ l. session_of s.patience l ∷ cut (sessions ++ begun patience (length all) ∷ []) (all ++ more))
    (range_added all more s.start (first_start sessions (length all)) order.0 (first_within sessions (length all) order.1))
    ∙ ap (λ l. session_of s.patience (slice_range all s.start (first_start sessions (length all))) ∷ l) (cut_added sessions all more patience order.1)

pub order_added : (sessions : List Session) (end more : ℕ) (patience : Option ℕ) → end ≤ more → AreInOrder sessions end
    → AreInOrder (sessions ++ begun patience end ∷ []) more
order_added [] end more patience later order = (later, tt)
order_added (s ∷ sessions) end more patience later order =
    (omega (arith, order.0, first_added sessions end more patience), order_added sessions end more patience later order.1)

-- ---- one more command

range_more : (all : List (ℕ × Verb)) (command : ℕ × Verb) (from : ℕ) → from ≤ length all
    → slice_range (all ++ command ∷ []) from (length (all ++ command ∷ [])) ≡ slice_range all from (length all) ++ command ∷ []
range_more all command from within =
    take_rest (all ++ command ∷ []) from ∙ drop-append-le from all (command ∷ []) within ∙ ap (λ l. l ++ command ∷ []) (sym (take_rest all from))

range_kept : (all : List (ℕ × Verb)) (command : ℕ × Verb) (from to : ℕ) → from ≤ to → to ≤ length all
    → slice_range (all ++ command ∷ []) from to ≡ slice_range all from to
range_kept all command from to order within =
    ap (take (to - from)) (drop-append-le from all (command ∷ []) (omega (arith, order, within)))
    ∙ take-append-le (to - from) (drop from all) (command ∷ []) (omega (arith, length-drop from all, within))

pub cut_pushed : (sessions : List Session) (all : List (ℕ × Verb)) (i : ℕ) (verb : Verb) → 0 < length sessions → AreInOrder sessions (length all)
    → cut sessions (all ++ (i, verb) ∷ []) ≡ on_last (and_command i verb) (cut sessions all)
cut_pushed [] all i verb some order = absurd (omega (arith, some))
cut_pushed (s ∷ []) all i verb some order = ap (λ l. session_of s.patience l ∷ []) (range_more all (i, verb) s.start order.0)
cut_pushed (s ∷ t ∷ sessions) all i verb some order =
    ap (λ l. session_of s.patience l ∷ cut (t ∷ sessions) (all ++ (i, verb) ∷ []))
    (range_kept all (i, verb) s.start t.start order.0 (first_within (t ∷ sessions) (length all) order.1))
    ∙ ap (λ l. session_of s.patience (slice_range all s.start t.start) ∷ l) (cut_pushed (t ∷ sessions) all i verb (omega arith) order.1)

pub whole_pushed : (sessions : List Session) (end more : ℕ) → 0 < length sessions → first_start sessions end ≡ 0 → first_start sessions more ≡ 0
whole_pushed [] end more some whole = absurd (omega (arith, some))
whole_pushed (s ∷ sessions) end more some whole = whole

first_later : (sessions : List Session) (end more : ℕ) → end ≤ more → first_start sessions end ≤ first_start sessions more
first_later [] end more later = later
first_later (s ∷ sessions) end more later = omega arith

pub order_pushed : (sessions : List Session) (end more : ℕ) → end ≤ more → AreInOrder sessions end → AreInOrder sessions more
order_pushed [] end more later order = tt
order_pushed (s ∷ sessions) end more later order = (omega (arith, order.0, first_later sessions end more later), order_pushed sessions end more later order.1)
