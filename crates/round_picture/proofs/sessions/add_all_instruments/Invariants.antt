use Rattle.std.proofs.Common.{◌≡◌, ◌++◌}
use Rattle.std.specs.List.{flat_map, range_with_len}
use Rattle.round_picture.specs.Sessions.{instrument_text}
use Rattle.round_picture.proofs.sessions.add_all_instruments.Given as goal

-- so many instruments are told
abbrev pub invariant-loop-number : goal.invariant-loop-number
invariant-loop-number g l = l.out.items ≡ l.fn.out.items ++ flat_map (instrument_text l.plan l.job l.session) (range_with_len 0 l.number)
