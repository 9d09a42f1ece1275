-- How many deeds the rest of a session is.
use Rattle.std.proofs.Common.{◌≡◌, ℕ, zero, suc, ◌+◌, ◌*◌, List, [], ◌∷◌, ◌++◌, refl, arith}
use Rattle.std.specs.List.{count_by}
use Rattle.legal_steps.specs.declared.event.Event.{Event}
use Rattle.legal_steps.specs.declared.event.Event.TheVariants.{Reach, Act, Quit}
use Rattle.legal_steps.specs.declared.phase.Drinking.{Drinking}
use Rattle.reasons.specs.Deeds.{is_deed}
use Rattle.settling.proofs.Deeds.{deeds_both}
use Rattle.live_lab.specs.Ends.{in_hand, commands_by, rest_of_session}

abbrev deeds : List Event → ℕ
deeds xs = count_by is_deed xs

two : (j : ℕ) → deeds (Reach j ∷ Act j ∷ []) ≡ 2
two j = refl

one : (j : ℕ) → deeds (Quit j ∷ []) ≡ 1
one j = refl

command_deeds : (j n : ℕ) → deeds (commands_by j n) ≡ 2 * n
command_deeds j zero = refl
command_deeds j (suc n) =
    let before = command_deeds j n in let more = deeds_both (commands_by j n) (Reach j ∷ Act j ∷ []) in let t = two j in omega (arith, before, more, t)

pub session_deeds : (d : Drinking) (j n hand : ℕ) → hand ≡ count_by is_deed (in_hand d j) → hand + 2 * n + 1 ≡ count_by is_deed (rest_of_session d j n)
session_deeds d j n hand is =
    let all : deeds (rest_of_session d j n) ≡ deeds (in_hand d j ++ commands_by j n) + deeds (Quit j ∷ []) = deeds_both (in_hand d j ++ commands_by j n) (Quit j ∷ []) in
    let first : deeds (in_hand d j ++ commands_by j n) ≡ deeds (in_hand d j) + deeds (commands_by j n) = deeds_both (in_hand d j) (commands_by j n) in
    let c : deeds (commands_by j n) ≡ 2 * n = command_deeds j n in let q : deeds (Quit j ∷ []) ≡ 1 = one j in
    let h : hand ≡ deeds (in_hand d j) = is in omega (arith, h, first, all, c, q)
