-- Calls are times of waiting.
use Rattle.std.proofs.Common.{◌≡◌, ◌≢◌, ℕ, zero, suc, ◌+◌, ◌<◌, ◌≤◌, max, Bool, false, List, length, length-append, Option, Some, None, refl, sym, ap, ◌∙◌, subst, inl, inr, arith}
use Rattle.std.proofs.lemmas.List.{length-map}
use Rattle.bay_line.specs.declared.wish.Wish.{Wish}
use Rattle.bay_line.specs.Turns.{pass_all, others}
use Rattle.bay_line.specs.Lines.{LineView, LetsIn as LineLetsIn, NextIsLetIn, asking, leaving, kept_in_order, wishes_of}
use Rattle.bay_line.specs.Bounds.{Waits, WaitsOnce}
use Rattle.bay_line.specs.Chains.{EachReasonEnds}
use Rattle.bay_book.specs.declared.ask.End.{End}
use Rattle.bay_book.specs.Asks.{ask_at}
use Rattle.bay_book.specs.Books.{BookView}
use Rattle.bay.specs.declared.classes.Class.{Class}
use Rattle.bay.specs.declared.request.Request.{Request}
use Rattle.bay.specs.declared.request.Urgency.{Urgency}
use Rattle.bay.specs.declared.request.Urgency.TheVariants.{Usual, Urgent}
use Rattle.bay.specs.declared.terms.Terms.{Terms}
use Rattle.bay.specs.Classes.{class_bit}
use Rattle.bay.specs.Cores.{Core, core, AreFree, ended}
use Rattle.bay.specs.Following.{Step, Steps}
use Rattle.bay.specs.Requests.{why_not, ordered, asked}
use Rattle.bay.specs.Standings.{MarksGone}
use Rattle.bay.specs.Views.{RoomView, core_of, GoesOn}
use Rattle.bay.specs.Rooms.{IsKept, Asks}
use Rattle.bay.specs.LineLaws.{HasWish, IsCall, CallsAreWaited, UrgentKeepsOrder, EachHasAReason, NumbersRise}
use Rattle.bay.proofs.InLine.{others_cases, passed_cases}
use Rattle.bay.proofs.Askers.{if_none, fits_of, fits_next, tied_below}

-- ---- one is let in, or leaves

left_before : (n ask : ℕ) (ws : List Wish) → HasWish (others n ws) ask → HasWish ws ask × (n ≢ ask)
left_before n ask ws h = let o = others_cases n ws h.0 h.1 in ((h.0, o.0, h.2), λ e. o.1 (h.2 ∙ sym e))

gone_before : (n ask most free needs : ℕ) (ws : List Wish) → HasWish (others n (pass_all most free needs ws)) ask → HasWish ws ask × (n ≢ ask)
gone_before n ask most free needs ws h =
    let o = left_before n ask (pass_all most free needs ws) h in
    let p = passed_cases most free needs ws o.0.0 o.0.1 in ((p.0, p.1, p.2.ask ∙ o.0.2), o.1)

-- the line waits once
record Once (ask : ℕ) (old new : LineView) : Type 0 where
  before : HasWish old.wishes ask
  once : WaitsOnce ask old new

step_once : (classes : List Class) (terms : Terms) (now ask : ℕ) (old new : Core) → NextIsLetIn → Step classes terms now old new
    → HasWish new.line.wishes ask → Once ask old.line new.line
step_once classes terms now ask old new is (inl l) h =
    let g = gone_before l.it.ask ask old.line.most l.free l.it.needs old.line.wishes (subst (λ (x : LineView). HasWish x.wishes ask) l.line h) in
    record {
      before = g.0;
      once = inl (l.used, l.free, l.it, subst (LineLetsIn l.used l.free old.line (Some l.it)) (sym l.line) (is l.used l.free old.line l.in_line l.it l.next), g.1);
    }
step_once classes terms now ask old new is (inr e) h =
    let n = (ask_at old.book.asks e.place).number in
    let same : new.line ≡ leaving old.line n = ap (λ (x : Core). x.line) e.then in
    let g = left_before n ask old.line.wishes (subst (λ (x : LineView). HasWish x.wishes ask) same h) in
    record { before = g.0; once = inr (inr (inl (n, g.1, same))) }

-- and so many times
record Times (ask : ℕ) (old new : LineView) : Type 0 where
  before : HasWish old.wishes ask
  many : ℕ
  waits : Waits ask many old new

steps_times : (classes : List Class) (terms : Terms) (now ask n : ℕ) (old new : Core) → NextIsLetIn → Steps classes terms now n old new
    → HasWish new.line.wishes ask → Times ask old.line new.line
steps_times classes terms now ask zero old new is s h =
    let same : new.line ≡ old.line = ap (λ (x : Core). x.line) s in
    record { before = subst (λ (x : LineView). HasWish x.wishes ask) same h; many = zero; waits = same }
steps_times classes terms now ask (suc n) old new is s h =
    let o = step_once classes terms now ask s.0 new is s.2 h in
    let t = steps_times classes terms now ask n old s.0 is s.1 o.before in
    record { before = t.before; many = suc t.many; waits = (s.0.line, t.waits, o.once) }

goes_times : (now ask : ℕ) (mid : Core) (old new : RoomView) → NextIsLetIn → GoesOn now mid old new → HasWish new.line.wishes ask → Times ask mid.line new.line
goes_times now ask mid old new is g h =
    steps_times old.classes old.terms new.moment ask g.follows.many mid (core_of new) is g.follows.steps h

-- ---- before that

waits_first : (ask n : ℕ) (old mid new : LineView) → WaitsOnce ask old mid → Waits ask n mid new → (k : ℕ) × Waits ask k old new
waits_first ask zero old mid new o w = (suc zero, (old, refl, subst (WaitsOnce ask old) (sym w) o))
waits_first ask (suc n) old mid new o w = let r = waits_first ask n old mid w.0 o w.1 in (suc r.0, (w.0, r.1, w.2))

ended_waits : (now ask : ℕ) (how : End) (place : ℕ) (old new : RoomView) → NextIsLetIn → GoesOn now (ended (core_of old) place how (max old.moment now)) old new
    → HasWish new.line.wishes ask → (n : ℕ) × Waits ask n old.line new.line
ended_waits now ask how place old new is g h =
    let t = goes_times now ask (ended (core_of old) place how (max old.moment now)) old new is g h in
    let n = (ask_at old.book.asks place).number in
    let b = left_before n ask old.line.wishes t.before in
    waits_first ask t.many old.line (leaving old.line n) new.line (inr (inr (inl (n, b.1, refl)))) t.waits

pub same_waits : (now ask : ℕ) (book : BookView) (old new : RoomView) → NextIsLetIn → GoesOn now (core old.line book) old new → HasWish new.line.wishes ask
    → (n : ℕ) × Waits ask n old.line new.line
same_waits now ask book old new is g h = let t = goes_times now ask (core old.line book) old new is g h in (t.many, t.waits)

-- a line that somebody joined has room for that
room_of : (x : LineView) (ask : ℕ) (sets : List ℕ) (classes : ℕ) (d : Option ℕ) → length x.wishes + length sets ≤ x.limit
    → length (asking x ask sets classes d).wishes ≤ (asking x ask sets classes d).limit
room_of x ask sets classes d room =
    let sum = length-append x.wishes (wishes_of ask sets classes d) in
    let many : length (wishes_of ask sets classes d) ≡ length sets = length-map sets _ in
    omega (arith, sum, many, room)

not_stopped : (old : RoomView) (sets : List ℕ) (r : Request) → why_not old.classes old.book old.stopped sets r ≡ None → old.stopped ≡ false
not_stopped old sets r h = (if_none old.stopped _ _ h).0

asks_below : (old : RoomView) (sets : List ℕ) (r : Request) → IsKept old → why_not old.classes old.book old.stopped sets r ≡ None
    → old.book.next ≤ r.number
asks_below old sets r k h =
    let f = fits_of old.classes old.book sets r (subst (λ (b : Bool). why_not old.classes old.book b sets r ≡ None) (not_stopped old sets r h) h) in
    fits_next old.classes old.book sets r f

-- the order is kept first
ordered_waits : (urgency : Urgency) (ask n : ℕ) (line new : LineView) → Waits ask n (ordered urgency line) new → (k : ℕ) × Waits ask k line new
ordered_waits Usual ask n line new w = (n, w)
ordered_waits Urgent ask n line new w = waits_first ask n line (kept_in_order line) new (inr (inr (inr refl))) w

pub calls_waited : NextIsLetIn → CallsAreWaited
calls_waited is old new now ask k (inl (sets, r, c)) h =
    let t = goes_times now ask (asked (core_of old) sets r (max old.moment now)) old new is c.goes_on h in
    let joins = asking old.line r.number sets (class_bit r.class) r.deadline in
    let below = tied_below old.classes (core_of old) r.number k.book k.room.tied (asks_below old sets r k c.fits) in
    let w = ordered_waits r.urgency ask t.many joins new.line t.waits in
    waits_first ask w.0 old.line joins new.line
    (inr (inl (r.number, sets, class_bit r.class, r.deadline, below, refl, room_of old.line r.number sets (class_bit r.class) r.deadline c.room))) w.1
calls_waited is old new now ask k (inr (inl (how, number, c))) h = ended_waits now ask how c.place old new is c.goes_on h
calls_waited is old new now ask k (inr (inr (inl (number, inl c)))) h = ended_waits now ask _ c.0 old new is c.2 h
calls_waited is old new now ask k (inr (inr (inl (number, inr c)))) h = same_waits now ask old.book old new is c.1 h
calls_waited is old new now ask k (inr (inr (inr (inl (number, c))))) h = same_waits now ask c.0 old new is c.2 h
calls_waited is old new now ask k (inr (inr (inr (inr (inl (number, owner, needs, c)))))) h = same_waits now ask c.0 old new is c.2 h
calls_waited is old new now ask k (inr (inr (inr (inr (inr c))))) h = same_waits now ask old.book old new is c h

-- an urgent one begins with the order kept
pub urgent_keeps_order : NextIsLetIn → UrgentKeepsOrder
urgent_keeps_order is old new sets r now ask c urgent h =
    let t = goes_times now ask (asked (core_of old) sets r (max old.moment now)) old new is c.goes_on h in
    let joins = asking old.line r.number sets (class_bit r.class) r.deadline in
    (t.many, subst (λ (u : Urgency). Waits ask t.many (ordered u joins) new.line) urgent t.waits)

-- ---- reasons

pub each_reason : EachReasonEnds → (old new : RoomView) (now : ℕ) (mid : Core) → GoesOn now mid old new → EachHasAReason new
each_reason ends old new now mid g =
    let n = g.follows.nobody_waits in
    record {
      used = n.used;
      free = n.free;
      are_used = n.are_used;
      are_free = subst (λ (k : List Class). AreFree k new.book.asks n.free) (sym (ap (λ (x : RoomView). x.classes) g.same)) n.are_free;
      reasons = ends new.line.most n.used n.free new.line.wishes n.reasons;
    }

-- ---- numbers

in_next : (classes : List Class) (terms : Terms) (now : ℕ) (old new : Core) → Step classes terms now old new → new.book.next ≡ old.book.next
in_next classes terms now old new (inl l) = ap (λ (b : BookView). b.next) l.book
in_next classes terms now old new (inr e) = ap (λ (x : Core). x.book.next) e.then

steps_next : (classes : List Class) (terms : Terms) (now n : ℕ) (old new : Core) → Steps classes terms now n old new → new.book.next ≡ old.book.next
steps_next classes terms now zero old new s = ap (λ (x : Core). x.book.next) s
steps_next classes terms now (suc n) old new s = in_next classes terms now s.0 new s.2 ∙ steps_next classes terms now n old s.0 s.1

pub goes_next : (now : ℕ) (mid : Core) (old new : RoomView) → GoesOn now mid old new → new.book.next ≡ mid.book.next
goes_next now mid old new g = steps_next old.classes old.terms new.moment g.follows.many mid (core_of new) g.follows.steps

asks_next : (old new : RoomView) (sets : List ℕ) (r : Request) (now : ℕ) → Asks sets r now old new → (old.book.next ≤ r.number) × (r.number < new.book.next)
asks_next old new sets r now c =
    let f = fits_of old.classes old.book sets r (subst (λ (b : Bool). why_not old.classes old.book b sets r ≡ None) (not_stopped old sets r c.fits) c.fits) in
    let e : new.book.next ≡ r.number + 1 = goes_next now _ old new c.goes_on in
    (fits_next old.classes old.book sets r f, omega (arith, e))

marked_next : (number moment : ℕ) (old new : BookView) → MarksGone number moment old new → new.next ≡ old.next
marked_next number moment old new (inl m) = ap (λ (b : BookView). b.next) m.2
marked_next number moment old new (inr m) = ap (λ (b : BookView). b.next) m.1

calls_next : (old new : RoomView) (now : ℕ) → IsCall now old new → old.book.next ≤ new.book.next
calls_next old new now (inl (sets, r, c)) = let n = asks_next old new sets r now c in omega (arith, n)
calls_next old new now (inr (inl (how, number, c))) = let e = goes_next now _ old new c.goes_on in omega (arith, e)
calls_next old new now (inr (inr (inl (number, inl c)))) = let e = goes_next now _ old new c.2 in omega (arith, e)
calls_next old new now (inr (inr (inl (number, inr c)))) = let e = goes_next now _ old new c.1 in omega (arith, e)
calls_next old new now (inr (inr (inr (inl (number, c))))) =
    let e = goes_next now _ old new c.2 in let f = marked_next number (max old.moment now) old.book c.0 c.1 in omega (arith, e, f)
calls_next old new now (inr (inr (inr (inr (inl (number, owner, needs, c)))))) =
    let e = goes_next now _ old new c.2 in let f = ap (λ (b : BookView). b.next) c.1.6 in omega (arith, e, f)
calls_next old new now (inr (inr (inr (inr (inr c))))) = let e = goes_next now _ old new c in omega (arith, e)

pub numbers_rise : NumbersRise
numbers_rise = record { asks = asks_next; calls = calls_next }
