-- For readers: what a waiting thread counts after each turn, and when it may sleep.
use Rattle.std.specs.Prelude.{◌≡◌}
use Rattle.bell.specs.declared.listener.Listener.{Listener}
use Rattle.bell.specs.Listening.{Acted, Idled}
use Rattle.session_layer.specs.declared.turning.Turned.{Turned}
use Rattle.session_layer.specs.declared.turning.Turned.TheVariants as turns
use Rattle.desk_user.specs.declared.pause.How.{How}
use Rattle.desk_user.specs.declared.pause.How.TheVariants.{Spin, Yield, Sleep}

-- after an idle turn: who sleeps counts it, and may sleep after many of them; nobody else counts
abbrev pub Waits : How → Listener → Listener → Type 0
Waits Spin l m = m ≡ l
Waits Yield l m = m ≡ l
Waits Sleep l m = Idled l m

-- after any turn: one that did something ends the count, and one that lost an exchange isn't counted
abbrev pub Heeds : How → Turned → Listener → Listener → Type 0
Heeds how (turns.Acted n) l m = Acted l m
Heeds how turns.Moved l m = m ≡ l
Heeds how turns.Idle l m = Waits how l m
