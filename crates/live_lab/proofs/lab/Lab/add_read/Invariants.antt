use Rattle.std.proofs.Common.{◌≡◌, take}
use Rattle.live_lab.specs.Adding.{longer_by}
use Rattle.live_lab.proofs.lab.Lab.add_read.Given as goal

abbrev pub invariant-loop-session : goal.invariant-loop-session
invariant-loop-session l = record {
  all : l.added ≡ l.session-index;
  longer : l.self ≡ longer_by l.fn.self l.fn.job (take l.session-index l.further);
}
