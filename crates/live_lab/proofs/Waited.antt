-- A settle is a time in which whoever is outside behind it waits.
use Rattle.std.proofs.Common.{◌≡◌, ℕ, zero, suc, List, None, sym, ap, ◌∙◌, subst, inl}
use Rattle.legal_steps.specs.declared.event.Event.{Event}
use Rattle.interleaving.specs.World.{WorldView}
use Rattle.late_thirst.specs.Outside.{LineView, place, IsOutside}
use Rattle.late_thirst.specs.Overtaking.{Waits}
use Rattle.late_thirst.proofs.Gone.{not_both, outside_if, before_in}
use Rattle.live_lab.specs.declared.settle.Came.{Came}
use Rattle.live_lab.specs.Labs.{LabView}
use Rattle.live_lab.specs.Admitting.{Admits}
use Rattle.live_lab.specs.Settles.{Settles}

pub lettings_in : (waiting m j : ℕ) (old : WorldView) (line : LineView) (events : List Event) (new : WorldView) (line' : LineView)
    → Admits waiting m old line events new line' → IsOutside line'.places j → Waits j m line line'
lettings_in waiting zero j old line events new line' (none, same, is) out = is
lettings_in waiting (suc m) j old line events new line' (mid, there, before, set, last, earlier, next, is) out =
    let lets = next.lets in
    let was = outside_if (place there.places j) (λ none. not_both (place line'.places j) out.0 out.1
    (before_in there.most lets.ready lets.used there.places set line'.places lets.lets.places j none)) in
    (there, lettings_in waiting m j old line before mid there earlier was, inl (lets.ready, lets.used, set, lets.lets), out)

both : (j m n : ℕ) (a b c : LineView) → Waits j m a b → Waits j n b c → (k : ℕ) × Waits j k a c
both j m zero a b c first same = (m, subst (λ (x : LineView). Waits j m a x) (sym same) first)
both j m (suc n) a b c first (mid, before, once, out) =
    let all = both j m n a b mid first before in
    (suc all.0, (mid, all.1, once, out))

-- who isn't outside is not behind letting-ins either
pub none_after : (waiting m : ℕ) (old : WorldView) (line : LineView) (events : List Event) (new : WorldView) (line' : LineView)
    → Admits waiting m old line events new line' → (j : ℕ) → place line.places j ≡ None → place line'.places j ≡ None
none_after waiting zero old line events new line' (no_events, same, is) j none = ap (λ (x : LineView). place x.places j) is ∙ none
none_after waiting (suc m) old line events new line' (mid, there, before, set, last, earlier, next, is) j none =
    let lets = next.lets in
    before_in there.most lets.ready lets.used there.places set line'.places lets.lets.places j (none_after waiting m old line before mid there earlier j none)

pub settles : (waiting j : ℕ) (old : LabView) (came : Came) (new : LabView) (s : Settles waiting old came new) → IsOutside new.line.places j
    → (n : ℕ) × Waits j n s.asking new.line
settles waiting j old came new s out =
    let later = lettings_in waiting s.rejoins.times j s.left s.left_out s.fourth new.world new.line s.rejoins.one_by_one out in
    let was = outside_if (place s.left_out.places j)
    (λ none. not_both (place new.line.places j) out.0 out.1
    (none_after waiting s.rejoins.times s.left s.left_out s.fourth new.world new.line s.rejoins.one_by_one j none)) in
    both j s.joins.times s.rejoins.times s.asking s.left_out new.line
    (lettings_in waiting s.joins.times j s.rested s.asking s.second s.joined s.left_out s.joins.one_by_one was) later
