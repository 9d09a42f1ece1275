-- Who holds goes on to hold, and who waits to wait.
use Rattle.std.proofs.Common.{◌≡◌, ℕ, zero, suc, ◌+◌, Bool, true, List, set, Some, refl, sym, ap, ◌∙◌, subst, inl, inr}
use Rattle.std.proofs.lemmas.Bool.{false≢true}
use Rattle.bay_book.specs.declared.ask.Ask.{Ask}
use Rattle.bay_book.specs.declared.ask.End.{End}
use Rattle.bay_book.specs.declared.ask.End.TheVariants.{LetGo, Left, Lapsed, NotWritten, Limit, Grace, TakenAway, Replaced, Stopped}
use Rattle.bay_book.specs.declared.ask.Stage.{Stage}
use Rattle.bay_book.specs.declared.ask.Stage.TheVariants.{Waits, Holds}
use Rattle.bay_book.specs.Asks.{ask_at, no_ask, holding, over, is_holding, is_over}
use Rattle.bay_book.specs.Moments.{is_past, until_at, if_holds, after}
use Rattle.bay_book.specs.Books.{BookView}
use Rattle.bay.specs.declared.classes.Class.{Class}
use Rattle.bay.specs.declared.terms.Terms.{Terms}
use Rattle.bay.specs.Members.{Has}
use Rattle.bay.specs.Cores.{Core, LetsIn}
use Rattle.bay.specs.Following.{IsDue, Step, Steps}
use Rattle.bay.specs.Laws.{EndedInTime, HoldsOn, WaitsOn}
use Rattle.bay.proofs.Members.{set_new, set_other}
use Rattle.bay.proofs.Due.{due_open}

-- one that isn't the one at this place is in the book still
pub kept_set : (asks : List Ask) (place : ℕ) (v a : Ask) → Has asks a → (ask_at asks place ≡ a → ⊥) → Has (set asks place v) a
kept_set asks place v a h other = elim (set_other asks place v a no_ask h) [ inl is ↦ absurd (other is) | inr there ↦ there ]

in_book : (asks : List Ask) (x : Core) (a : Ask) → x.book.asks ≡ asks → Has asks a → Has x.book.asks a
in_book asks x a e h = subst (λ (l : List Ask). Has l a) (sym e) h

-- whoever is let in waited
pub in_keeps : (classes : List Class) (now : ℕ) (keeps : Bool) (old new : Core) (a : Ask) → LetsIn classes now keeps old new → (a.stage ≡ Waits → ⊥)
    → Has old.book.asks a → Has new.book.asks a
in_keeps classes now keeps old new a l ne h =
    in_book _ new a (ap (λ (b : BookView). b.asks) l.book)
    (kept_set old.book.asks l.place _ a h (λ e. ne (ap (λ (b : Ask). b.stage) (sym e) ∙ l.waits)))

-- how far the journal outlives a crash stays as it is
step_durable : (classes : List Class) (terms : Terms) (now : ℕ) (old new : Core) → Step classes terms now old new → old.book.durable ≡ new.book.durable
step_durable classes terms now old new (inl l) = ap (λ (b : BookView). b.durable) (sym l.book)
step_durable classes terms now old new (inr e) = ap (λ (x : Core). x.book.durable) (sym e.then)

-- whoever ends wasn't over
pub over_keeps : (classes : List Class) (terms : Terms) (now : ℕ) (old new : Core) (a : Ask) → Step classes terms now old new → is_over a.stage ≡ true
    → Has old.book.asks a → Has new.book.asks a
over_keeps classes terms now old new a (inl l) o h =
    in_keeps classes now terms.keeps old new a l (λ w. false≢true (ap is_over (sym w) ∙ o)) h
over_keeps classes terms now old new a (inr e) o h =
    in_book _ new a (ap (λ (x : Core). x.book.asks) e.then)
    (kept_set old.book.asks e.place _ a h (λ is.
    false≢true (sym (due_open classes terms now old (ask_at old.book.asks e.place) e.how e.due) ∙ (ap (λ (b : Ask). is_over b.stage) is ∙ o))))

ended_keeps : (classes : List Class) (terms : Terms) (now : ℕ) (old new : Core) (a : Ask) → Step classes terms now old new
    → EndedInTime classes terms now old.book a → EndedInTime classes terms now new.book a
ended_keeps classes terms now old new a s h = (
  h.0,
  h.1,
  h.2 ∙ step_durable classes terms now old new s,
  h.3,
  over_keeps classes terms now old new (over h.0 now a) s refl h.4,
)

pub holds_not_waits : (s : Stage) → is_holding s ≡ true → s ≡ Waits → ⊥
holds_not_waits s h w = false≢true (ap is_holding (sym w) ∙ h)

step_holds : (classes : List Class) (terms : Terms) (now : ℕ) (old new : Core) (a : Ask) → Step classes terms now old new → is_holding a.stage ≡ true
    → Has old.book.asks a → HoldsOn classes terms now new.book a
step_holds classes terms now old new a (inl l) holds h = inl (in_keeps classes now terms.keeps old new a l (holds_not_waits a.stage holds) h)
step_holds classes terms now old new a (inr e) holds h =
    let v : Ask = over e.how now (ask_at old.book.asks e.place) in
    let same = ap (λ (x : Core). x.book.asks) e.then in
    elim (set_other old.book.asks e.place v a no_ask h) [
      | inl is ↦
          inr (
            e.how,
            old,
            step_durable classes terms now old new (inr e),
            subst (λ (b : Ask). IsDue classes terms now old b e.how) is e.due,
            in_book _ new (over e.how now a) same
                (subst (λ (b : Ask). Has (set old.book.asks e.place v) (over e.how now b)) is (set_new old.book.asks e.place v e.inside)),
          )
      | inr there ↦ inl (in_book _ new a same there)
    ]

pub step_on : (classes : List Class) (terms : Terms) (now : ℕ) (old new : Core) (a : Ask) → Step classes terms now old new → is_holding a.stage ≡ true
    → HoldsOn classes terms now old.book a → HoldsOn classes terms now new.book a
step_on classes terms now old new a s holds (inl h) = step_holds classes terms now old new a s holds h
step_on classes terms now old new a s holds (inr h) = inr (ended_keeps classes terms now old new a s h)

pub steps_on : (classes : List Class) (terms : Terms) (now n : ℕ) (old new : Core) (a : Ask) → Steps classes terms now n old new → is_holding a.stage ≡ true
    → HoldsOn classes terms now old.book a → HoldsOn classes terms now new.book a
steps_on classes terms now zero old new a s holds h = subst (λ (x : Core). HoldsOn classes terms now x.book a) (sym s) h
steps_on classes terms now (suc n) old new a s holds h =
    step_on classes terms now s.0 new a s.2 holds (steps_on classes terms now n old s.0 a s.1 holds h)

-- ---- who waits

-- one that waits ends by its deadline alone
waits_due : (classes : List Class) (terms : Terms) (now : ℕ) (x : Core) (a : Ask) (how : End) → a.stage ≡ Waits → IsDue classes terms now x a how
    → (how ≡ Lapsed) × (is_past now a.deadline ≡ true)
waits_due classes terms now x a LetGo w h = absurd h
waits_due classes terms now x a Left w h = absurd h
waits_due classes terms now x a Lapsed w h = (refl, subst (λ (s : Stage). is_past now (until_at x.book.durable terms.disk a s) ≡ true) w h.1)
waits_due classes terms now x a NotWritten w h = absurd (let e : Waits ≡ Holds = sym w ∙ h.0 in let no : ⊥ = cc in no)
waits_due classes terms now x a Limit w h =
    absurd (false≢true (ap (λ (s : Stage). is_past now (if_holds s (after (Some a.since) a.limit))) (sym w) ∙ h.1))
waits_due classes terms now x a Grace w h = absurd (false≢true (ap (λ (s : Stage). is_past now (if_holds s (after a.gone terms.grace))) (sym w) ∙ h))
waits_due classes terms now x a TakenAway w h = absurd h
waits_due classes terms now x a Replaced w h = absurd h
waits_due classes terms now x a Stopped w h = absurd h

step_waits : (classes : List Class) (terms : Terms) (now : ℕ) (old new : Core) (a : Ask) → Step classes terms now old new → a.stage ≡ Waits
    → Has old.book.asks a → WaitsOn classes terms now new.book a
step_waits classes terms now old new a (inl l) w h =
    let token = old.book.granted + 1 in
    let v : Ask = holding l.it.needs now terms.keeps token (ask_at old.book.asks l.place) in
    let same = ap (λ (b : BookView). b.asks) l.book in
    elim (set_other old.book.asks l.place v a no_ask h) [
      | inl is ↦
          inr (inr (
            l.it.needs,
            token,
            inl (in_book _ new (holding l.it.needs now terms.keeps token a) same
                (subst (λ (b : Ask). Has (set old.book.asks l.place v) (holding l.it.needs now terms.keeps token b)) is (set_new old.book.asks l.place v l.inside))),
          ))
      | inr there ↦ inl (in_book _ new a same there)
    ]
step_waits classes terms now old new a (inr e) w h =
    let v : Ask = over e.how now (ask_at old.book.asks e.place) in
    let same = ap (λ (x : Core). x.book.asks) e.then in
    elim (set_other old.book.asks e.place v a no_ask h) [
      | inl is ↦
          let d = waits_due classes terms now old a e.how w (subst (λ (b : Ask). IsDue classes terms now old b e.how) is e.due) in
          inr (inl (
            d.1,
            in_book _ new (over Lapsed now a) same
                (subst (λ (b : Ask). Has (set old.book.asks e.place v) b) (ap (over e.how now) is ∙ ap (λ (how : End). over how now a) d.0)
                (set_new old.book.asks e.place v e.inside)),
          ))
      | inr there ↦ inl (in_book _ new a same there)
    ]

pub step_waits_on : (classes : List Class) (terms : Terms) (now : ℕ) (old new : Core) (a : Ask) → Step classes terms now old new → a.stage ≡ Waits
    → WaitsOn classes terms now old.book a → WaitsOn classes terms now new.book a
step_waits_on classes terms now old new a s w (inl h) = step_waits classes terms now old new a s w h
step_waits_on classes terms now old new a s w (inr (inl h)) = inr (inl (h.0, over_keeps classes terms now old new (over Lapsed now a) s refl h.1))
step_waits_on classes terms now old new a s w (inr (inr h)) =
    inr (inr (h.0, h.1, step_on classes terms now old new (holding h.0 now terms.keeps h.1 a) s refl h.2))

pub steps_waits_on : (classes : List Class) (terms : Terms) (now n : ℕ) (old new : Core) (a : Ask) → Steps classes terms now n old new → a.stage ≡ Waits
    → WaitsOn classes terms now old.book a → WaitsOn classes terms now new.book a
steps_waits_on classes terms now zero old new a s w h = subst (λ (x : Core). WaitsOn classes terms now x.book a) (sym s) h
steps_waits_on classes terms now (suc n) old new a s w h =
    step_waits_on classes terms now s.0 new a s.2 w (steps_waits_on classes terms now n old s.0 a s.1 w h)
