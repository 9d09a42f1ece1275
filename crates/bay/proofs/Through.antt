-- What each change of a book keeps, each call of a room does.
use Rattle.std.proofs.Common.{◌≡◌, ℕ, zero, suc, ◌<◌, ◌≤◌, max, Bool, true, false, if◌then◌else◌, List, length, length-set, Option, Some, None, Result, Ok, Err, OnOk, OnErr, refl, sym, ap, ◌∙◌, subst, inl, inr, arith}
use Rattle.bay_book.specs.declared.ask.End.{End}
use Rattle.bay_book.specs.declared.ask.End.TheVariants.{Left, Stopped as EndStopped}
use Rattle.bay_book.specs.declared.ask.Outcome.{Outcome}
use Rattle.bay_book.specs.declared.ask.Stage.TheVariants.{Waits}
use Rattle.bay_book.specs.Asks.{ask_at, is_over, over}
use Rattle.bay_book.specs.Telling.{to_tell}
use Rattle.bay_book.specs.Books.{BookView, add, hold, end, set_gone, is_back, heard, purge}
use Rattle.bay.specs.declared.classes.Class.{Class}
use Rattle.bay.specs.declared.request.Request.{Request}
use Rattle.bay.specs.declared.request.NotAsked.{NotAsked}
use Rattle.bay.specs.declared.request.NotAsked.TheVariants.{Stopped, Number}
use Rattle.bay.specs.declared.telling.Told.{Told}
use Rattle.bay.specs.declared.terms.Terms.{Terms}
use Rattle.bay.specs.Cores.{Core}
use Rattle.bay.specs.Following.{Step, Steps}
use Rattle.bay.specs.Requests.{is_no_number}
use Rattle.bay.specs.Standings.{MarksGone}
use Rattle.bay.specs.Stopping.{StopsOne, StopsTo}
use Rattle.bay.specs.Tellings.{TellsNext}
use Rattle.bay.specs.Views.{RoomView, core_of, GoesOn}
use Rattle.bay.specs.Rooms.{Asks, Ends, Leaves, Goes, ComesBack, Passes, Stops, stopping, Tells}
use Rattle.bay.proofs.Due.{due_open}

-- each change of a book keeps it, in a bay that keeps a log or doesn't
pub record IsKeptByChanges (keeps : Bool) (P : BookView → Type 0) : Type 0 where
  pub adds :
      (x : BookView) (number class owner : ℕ) (deadline limit : Option ℕ) (now : ℕ) → is_no_number x number ≡ false → P x
      → P (add x number class owner deadline limit now)
  pub holds :
      (x : BookView) (place needs now : ℕ) → place < length x.asks → (ask_at x.asks place).stage ≡ Waits → P x → P (hold x place needs now keeps)
  pub ends :
      (x : BookView) (place : ℕ) (how : End) (now : ℕ) → place < length x.asks → is_over (ask_at x.asks place).stage ≡ false → P x → P (end x place how now)
  pub goes : (x : BookView) (place moment : ℕ) → place < length x.asks → P x → P (set_gone x place moment)
  pub comes : (x : BookView) (place : ℕ) → place < length x.asks → P x → P (is_back x place)
  pub hears :
      (x : BookView) (place : ℕ) (what : Outcome) → place < length x.asks → to_tell x.durable (ask_at x.asks place) ≡ Some what → P x → P (heard x place what)
  pub purges : (x : BookView) → P x → P (purge x)

-- ---- all that follows

through_step : (P : BookView → Type 0) → (terms : Terms) → IsKeptByChanges terms.keeps P → (classes : List Class) (now : ℕ) (old new : Core) → Step classes terms now old new
    → P old.book → P new.book
through_step P terms k classes now old new (inl l) t = subst P (sym l.book) (k.holds old.book l.place l.it.needs now l.inside l.waits t)
through_step P terms k classes now old new (inr e) t =
    subst (λ (x : Core). P x.book) (sym e.then)
    (k.ends old.book e.place e.how now e.inside (due_open classes terms now old (ask_at old.book.asks e.place) e.how e.due) t)

through_steps : (P : BookView → Type 0) → (terms : Terms) → IsKeptByChanges terms.keeps P → (classes : List Class) (now n : ℕ) (old new : Core)
    → Steps classes terms now n old new → P old.book → P new.book
through_steps P terms k classes now zero old new s t = subst (λ (x : Core). P x.book) (sym s) t
through_steps P terms k classes now (suc n) old new s t =
    through_step P terms k classes now s.0 new s.2 (through_steps P terms k classes now n old s.0 s.1 t)

pub goes_on : (P : BookView → Type 0) → (old : RoomView) → IsKeptByChanges old.terms.keeps P → (now : ℕ) (mid : Core) (new : RoomView) → GoesOn now mid old new → P mid.book → P new.book
goes_on P old k now mid new g t = through_steps P old.terms k old.classes new.moment g.follows.many mid (core_of new) g.follows.steps t

-- ---- the calls

no_number : (stopped number : Bool) (more : Option NotAsked) → (if stopped then Some Stopped else if number then Some Number else more) ≡ None → number ≡ false
no_number true number more h = let no : ⊥ = cc in absurd no
no_number false true more h = let no : ⊥ = cc in absurd no
no_number false false more h = refl

pub through_asks : (P : BookView → Type 0) → (old : RoomView) → IsKeptByChanges old.terms.keeps P → (sets : List ℕ) (r : Request) (now : ℕ) (new : RoomView) → Asks sets r now old new
    → P old.book → P new.book
through_asks P old k sets r now new c t =
    goes_on P old k now _ new c.goes_on
    (k.adds old.book r.number r.class r.owner r.deadline r.limit (max old.moment now) (no_number old.stopped (is_no_number old.book r.number) _ c.fits) t)

pub through_ends : (P : BookView → Type 0) → (old : RoomView) → IsKeptByChanges old.terms.keeps P → (how : End) (number now : ℕ) (new : RoomView) → Ends how number now old new
    → P old.book → P new.book
through_ends P old k how number now new c t =
    goes_on P old k now _ new c.goes_on (k.ends old.book c.place how (max old.moment now) c.stands.inside (ap is_over c.stands.is) t)

pub through_leaves : (P : BookView → Type 0) → (old : RoomView) → IsKeptByChanges old.terms.keeps P → (number now : ℕ) (new : RoomView) → Leaves number now old new → P old.book → P new.book
through_leaves P old k number now new (inl c) t = goes_on P old k now _ new c.2 (k.ends old.book c.0 Left (max old.moment now) c.1.inside c.1.is_open t)
through_leaves P old k number now new (inr c) t = goes_on P old k now _ new c.1 t

pub through_passes : (P : BookView → Type 0) → (old : RoomView) → IsKeptByChanges old.terms.keeps P → (now : ℕ) (new : RoomView) → Passes now old new → P old.book → P new.book
through_passes P old k now new c t = goes_on P old k now _ new c t

through_marks : (P : BookView → Type 0) → (keeps : Bool) → IsKeptByChanges keeps P → (number moment : ℕ) (old new : BookView) → MarksGone number moment old new → P old → P new
through_marks P keeps k number moment old new (inl m) t = subst P (sym m.2) (k.goes old m.0 moment m.1.found.0 t)
through_marks P keeps k number moment old new (inr m) t = subst P (sym m.1) t

pub through_goes : (P : BookView → Type 0) → (old : RoomView) → IsKeptByChanges old.terms.keeps P → (number now : ℕ) (new : RoomView) → Goes number now old new → P old.book → P new.book
through_goes P old k number now new c t = goes_on P old k now _ new c.2 (through_marks P old.terms.keeps k number (max old.moment now) old.book c.0 c.1 t)

pub through_comes_back : (P : BookView → Type 0) → (old : RoomView) → IsKeptByChanges old.terms.keeps P → (number owner now : ℕ) (new : RoomView) (r : Option ℕ)
    → ComesBack number owner now old r new → P old.book → P new.book
through_comes_back P old k number owner now new (Some needs) c t =
    let m = c.1 in goes_on P old k now _ new c.2 (subst P (sym m.6) (k.comes old.book m.0 m.2.inside t))
through_comes_back P old k number owner now new None c t = subst (λ (x : RoomView). P x.book) (sym c.1) t

-- as many are in the book as before, and it is kept
record IsKeptByStops (P : BookView → Type 0) (old new : Core) : Type 0 where
  many : length new.book.asks ≡ length old.book.asks
  kept : P new.book

through_stop : (P : BookView → Type 0) → (keeps : Bool) → IsKeptByChanges keeps P → (now place : ℕ) (old new : Core) → StopsOne now place old new → place < length old.book.asks → P old.book
    → IsKeptByStops P old new
through_stop P keeps k now place old new (inl s) inside t =
    subst (IsKeptByStops P old) (sym s.1) (record {
      many = length-set old.book.asks place (over EndStopped now (ask_at old.book.asks place));
      kept = k.ends old.book place EndStopped now inside (ap is_over s.0) t;
    })
through_stop P keeps k now place old new (inr s) inside t = subst (IsKeptByStops P old) (sym s.1) (record { many = refl; kept = t })

through_stops_to : (P : BookView → Type 0) → (keeps : Bool) → IsKeptByChanges keeps P → (now n : ℕ) (old new : Core) → StopsTo now n old new → n ≤ length old.book.asks → P old.book
    → IsKeptByStops P old new
through_stops_to P keeps k now zero old new s inside t = subst (IsKeptByStops P old) (sym s) (record { many = refl; kept = t })
through_stops_to P keeps k now (suc n) old new s inside t =
    let first = through_stops_to P keeps k now n old s.0 s.1 (omega (arith, inside)) t in
    let same = first.many in
    let one = through_stop P keeps k now n s.0 new s.2 (omega (arith, inside, same)) first.kept in
    record { many = one.many ∙ first.many; kept = one.kept }

pub through_stops : (P : BookView → Type 0) → (old : RoomView) → IsKeptByChanges old.terms.keeps P → (now : ℕ) (new : RoomView) → Stops now old new → P old.book → P new.book
through_stops P old k now new c t =
    goes_on P (stopping old) k now _ new c.2 (through_stops_to P old.terms.keeps k (max old.moment now) (length old.book.asks) (core_of old) c.0 c.1 (omega arith) t).kept

through_tells_next : (P : BookView → Type 0) → (keeps : Bool) → IsKeptByChanges keeps P → (serial s : ℕ) (old new : BookView) (r : Option Told) → TellsNext serial old (r, s) new
    → P old → P new
through_tells_next P keeps k serial s old new (Some told) c t =
    let is = c.0.1 in subst P (sym is.then) (k.hears old c.0.0 told.outcome is.next.0 is.next.1 t)
through_tells_next P keeps k serial s old new None c t = subst P (sym c.1) (k.purges old t)

pub through_tells : (P : BookView → Type 0) → (old : RoomView) → IsKeptByChanges old.terms.keeps P → (done : ℕ) (new : RoomView) (r : Option Told) → Tells done old r new → P old.book → P new.book
through_tells P old k done new r (inl c) t = subst (λ (x : RoomView). P x.book) (sym c.2) t
through_tells P old k done new r (inr c) t = through_tells_next P old.terms.keeps k old.serial new.serial old.book new.book r c.1 t

-- ---- what comes of a call

pub through_result : {E : Type 0} (P : BookView → Type 0) (Q : Type 0) (r : Result (Unit {0}) E) (old new : RoomView) → OnOk r Q → (Q → P old.book → P new.book)
    → OnErr r (new ≡ old) → P old.book → P new.book
through_result P Q (Ok u) old new ok does err t = does ok t
through_result P Q (Err e) old new ok does err t = subst (λ (x : RoomView). P x.book) (sym err) t
