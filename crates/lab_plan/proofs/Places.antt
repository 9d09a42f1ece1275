-- The places of the commands of all sessions of a job, one session's behind the other's.
use Rattle.std.proofs.Common.{◌≡◌, ℕ, ◌+◌, ◌<◌, ◌≤◌, List, [], ◌∷◌, ◌++◌, length, take, slice_index_or, arith, refl, sym, ap, ◌∙◌, length-append, append-nil}
use Rattle.std.proofs.lemmas.List.{take_more}
use Rattle.std.proofs.lemmas.List.Concat.{flat_map-append, get_or-flat_map}
use Rattle.std.proofs.lemmas.List.FromFn.{length-map-range_with_len, get_or-map-range_with_len}
use Rattle.std.proofs.lemmas.List.Folds.{length-flat_map-take}
use Rattle.lab_plan.specs.LabPlan.{SessionPlan, no_session}
use Rattle.lab_plan.specs.Cuts.{commands_of, commands_before}
use Rattle.lab_plan.specs.SessionTables.{places_of, place_of, all_places, no_place}

-- as many places as commands
pub length-places : (sessions : List SessionPlan) → length (all_places sessions) ≡ length (commands_of sessions)
length-places [] = refl
length-places (s ∷ sessions) =
    omega (
      arith,
      length-places sessions,
      length-append (places_of s.commands) (all_places sessions),
      length-append s.commands (commands_of sessions),
      length-map-range_with_len (place_of s.commands) 0 (length s.commands),
    )

-- a command of a session is one of the job
pub place_within : (sessions : List SessionPlan) (k n : ℕ) → k < length sessions → n < length (slice_index_or sessions k no_session).commands
    → commands_before sessions k + n < length (commands_of sessions)
place_within sessions k n inside within =
    omega (arith, length-flat_map-take (λ (s : SessionPlan). s.commands) sessions k no_session inside, within)

-- the places of one more session
pub places_more : (sessions : List SessionPlan) (k : ℕ) → k < length sessions
    → all_places (take (k + 1) sessions) ≡ all_places (take k sessions) ++ places_of (slice_index_or sessions k no_session).commands
places_more sessions k inside =
    let one : SessionPlan = slice_index_or sessions k no_session in
    ap all_places (take_more sessions k no_session inside)
    ∙ flat_map-append (λ (s : SessionPlan). places_of s.commands) (take k sessions) (one ∷ [])
    ∙ ap (λ l. all_places (take k sessions) ++ l) (append-nil (places_of one.commands))

pub room_left : (sessions : List SessionPlan) (k : ℕ) → k < length sessions
    → length (all_places (take k sessions)) + length (slice_index_or sessions k no_session).commands ≤ length (commands_of sessions)
room_left sessions k inside =
    omega (arith, length-flat_map-take (λ (s : SessionPlan). s.commands) sessions k no_session inside, length-places (take k sessions))

pub place_read : (sessions : List SessionPlan) (k n : ℕ) → k < length sessions → n < length (slice_index_or sessions k no_session).commands
    → slice_index_or (all_places sessions) (commands_before sessions k + n) no_place ≡ place_of (slice_index_or sessions k no_session).commands n
place_read sessions k n inside within =
    let commands = (slice_index_or sessions k no_session).commands in
    let long = length-map-range_with_len (place_of commands) 0 (length commands) in
    ap (λ m. slice_index_or (all_places sessions) (m + n) no_place) (sym (length-places (take k sessions)))
    ∙ get_or-flat_map (λ (s : SessionPlan). places_of s.commands) sessions k n no_session no_place inside (omega (arith, long, within))
    ∙ get_or-map-range_with_len (place_of commands) 0 (length commands) n n no_place within (omega arith)
