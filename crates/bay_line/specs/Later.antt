-- For readers: how many that asked later are let in before somebody that waits in line.
use Rattle.std.specs.Prelude.{◌≡◌, ℕ, zero, suc, ◌+◌, ◌≤◌, ◌&&◌, nat_lt}
use Rattle.std.proofs.Common.{inl, inr}
use Rattle.bay_line.specs.declared.wish.Wish.{Wish}
use Rattle.bay_line.specs.Wishes.{passes}
use Rattle.bay_line.specs.Lines.{LineView, IsInOrder, kept_in_order}
use Rattle.bay_line.specs.Bounds.{Stands, WaitsOnce, Waits, one_if}

-- one more, if somebody was let in that asked later and needs one of the instruments of the wish, while a place was free for it
abbrev pub goes_later : (ask : ℕ) (old new : LineView) → WaitsOnce ask old new → Wish → ℕ
goes_later ask old new (inl (in_use, free, s, lets, other)) w = one_if (passes free s.needs w && nat_lt w.ask s.ask)
goes_later ask old new (inr same) w = 0

-- all that did
abbrev pub go_later : (ask n : ℕ) (old new : LineView) → Waits ask n old new → Wish → ℕ
go_later ask zero old new same w = 0
go_later ask (suc n) old new (mid, before, once) w = go_later ask n old mid before w + goes_later ask mid new once w

-- As long as a wish waits, at most `most` that asked later and need one of its instruments are let in while a place is free for it: from its asking on, and
-- from any moment on so many fewer as it was passed by till then
abbrev pub FewLaterGoBefore : Type 0
FewLaterGoBefore =
    (ask n : ℕ) (old new : LineView) (w : Wish) (place : ℕ) → IsInOrder old → w.ask ≡ ask → Stands w place old.wishes → (waits : Waits ask n old new)
    → go_later ask n old new waits w + w.passed ≤ old.most

-- Once the order was kept: as long as a wish waits that stood in line then, nobody that asked later and needs one of its instruments is let in while a place
-- is free for it
abbrev pub NobodyLaterGoesBefore : Type 0
NobodyLaterGoesBefore =
    (ask n : ℕ) (old new : LineView) (w : Wish) (place : ℕ) → IsInOrder old → w.ask ≡ ask → Stands w place (kept_in_order old).wishes
    → (waits : Waits ask n (kept_in_order old) new) → go_later ask n (kept_in_order old) new waits w ≡ 0
