-- Steps one after another.
use Rattle.std.proofs.Common.{◌≡◌, ℕ, zero, suc, ◌+◌, ◌<◌, Bool, true, false, not, if◌then◌else◌, List, length, sym, ap, ◌∙◌, subst, inl, inr, arith}
use Rattle.std.specs.List.{count_by}
use Rattle.bay_book.specs.declared.ask.Ask.{Ask}
use Rattle.bay_book.specs.declared.ask.End.{End}
use Rattle.bay_book.specs.declared.ask.Stage.{Stage}
use Rattle.bay_book.specs.declared.ask.Stage.TheVariants.{Waits}
use Rattle.bay_book.specs.Asks.{ask_at, is_over, holding, over}
use Rattle.bay_book.specs.Books.{BookView}
use Rattle.bay.specs.declared.classes.Class.{Class}
use Rattle.bay.specs.declared.terms.Terms.{Terms}
use Rattle.bay.specs.Cores.{Core, LetsIn, ended}
use Rattle.bay.specs.Following.{LetIn, LetsAllIn, EndsInTime, Steps, HasSteps}
use Rattle.bay.proofs.Tied.{count_set}

-- it isn't over yet
abbrev pub is_open : Ask → Bool
is_open a = not (is_over a.stage)

-- ---- how many aren't over

open_waits : (s : Stage) → s ≡ Waits → not (is_over s) ≡ true
open_waits s e = ap (λ (t : Stage). not (is_over t)) e

abbrev one_if : Bool → ℕ
one_if b = if b then 1 else 0

if_true : (b : Bool) → b ≡ true → one_if b ≡ 1
if_true b e = ap one_if e

pub in_open : (classes : List Class) (now : ℕ) (keeps : Bool) (old new : Core) → LetsIn classes now keeps old new
    → count_by is_open new.book.asks ≡ count_by is_open old.book.asks
in_open classes now keeps old new l =
    let e = count_set is_open old.book.asks l.place (holding l.it.needs now keeps (old.book.granted + 1) (ask_at old.book.asks l.place)) l.inside in
    let one = if_true (is_open (ask_at old.book.asks l.place)) (open_waits (ask_at old.book.asks l.place).stage l.waits) in
    ap (λ (b : BookView). count_by is_open b.asks) l.book ∙ omega (arith, e, one)

pub all_in_open : (classes : List Class) (now : ℕ) (keeps : Bool) (n : ℕ) (old new : Core) → LetIn classes now keeps n old new
    → count_by is_open new.book.asks ≡ count_by is_open old.book.asks
all_in_open classes now keeps zero old new h = ap (λ (x : Core). count_by is_open x.book.asks) h
all_in_open classes now keeps (suc n) old new h = in_open classes now keeps h.0 new h.2 ∙ all_in_open classes now keeps n old h.0 h.1

pub ended_open : (x : Core) (place : ℕ) (how : End) (now : ℕ) → place < length x.book.asks → is_over (ask_at x.book.asks place).stage ≡ false
    → count_by is_open (ended x place how now).book.asks < count_by is_open x.book.asks
ended_open x place how now inside still =
    let e = count_set is_open x.book.asks place (over how now (ask_at x.book.asks place)) inside in
    let one = if_true (is_open (ask_at x.book.asks place)) (ap not still) in
    omega (arith, e, one)

-- ---- one after another

pub in_steps : (classes : List Class) (terms : Terms) (now n : ℕ) (old new : Core) → LetIn classes now terms.keeps n old new → Steps classes terms now n old new
in_steps classes terms now zero old new h = h
in_steps classes terms now (suc n) old new h = (h.0, in_steps classes terms now n old h.0 h.1, inl h.2)

pub more_steps : (classes : List Class) (terms : Terms) (now n : ℕ) (old mid new : Core) → HasSteps classes terms now old mid → Steps classes terms now n mid new
    → HasSteps classes terms now old new
more_steps classes terms now zero old mid new h g = subst (HasSteps classes terms now old) (sym g) h
more_steps classes terms now (suc n) old mid new h g =
    let r = more_steps classes terms now n old mid g.0 h g.1 in (suc r.0, (g.0, r.1, g.2))

pub lets_more : (classes : List Class) (terms : Terms) (now : ℕ) (old mid new : Core) → HasSteps classes terms now old mid
    → LetsAllIn classes now terms.keeps mid new → HasSteps classes terms now old new
lets_more classes terms now old mid new h g = more_steps classes terms now g.0 old mid new h (in_steps classes terms now g.0 mid new g.1)

pub ends_more : (classes : List Class) (terms : Terms) (now : ℕ) (old mid new : Core) → HasSteps classes terms now old mid → EndsInTime classes terms now mid new
    → HasSteps classes terms now old new
ends_more classes terms now old mid new h e = (suc h.0, (mid, h.1, inr e))
