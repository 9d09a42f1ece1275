-- How asks go on over calls: what is so of one after a call was so before it.
use Rattle.std.proofs.Common.{◌≡◌, ◌⊎◌, ℕ, zero, suc, ◌+◌, ◌<◌, ◌≤◌, Bool, true, false, not, cond, List, [], ◌∷◌, ◌++◌, length, map, set, Option, Some, refl, sym, ap, ◌∙◌, subst, inl, inr, arith, length-set, length-append}
use Rattle.std.specs.List.{filter}
use Rattle.std.proofs.lemmas.Bool.{cases_eq}
use Rattle.std.proofs.lemmas.List.{get_or-set_same, get_or-set_other, get_or-map, get_or_append_left, get_or_push, length-map}
use Rattle.bay_book.specs.declared.ask.Ask.{Ask}
use Rattle.bay_book.specs.declared.ask.End.{End}
use Rattle.bay_book.specs.declared.ask.Outcome.{Outcome}
use Rattle.bay_book.specs.declared.ask.Stage.TheVariants.{Waits}
use Rattle.bay_book.specs.Asks.{no_ask, ask_at, is_over, asker, holding, over, gone_since, back_again, given, turned, hearing, is_done}
use Rattle.bay_book.specs.Telling.{to_tell}
use Rattle.bay_book.specs.Books.{BookView, IsSound, with_ask, add, purge}
use Rattle.bay_book.specs.Runs.{Call, IsAllowed, after_call}
use Rattle.bay_book.specs.Runs.Call.{Add, Hold, Finish, SetGone, IsBack, Give, Turn, Reach, Tell, Purge}
use Rattle.bay_book.proofs.Sound.{sound_over, sound_gone, sound_back, sound_hearing, sound_set, sound_add, sound_give, sound_turn, sound_reach, sound_purge, sound_hold}

-- ---- soundness

pub sound_call : (x : BookView) (call : Call) → IsAllowed x call → IsSound x → IsSound (after_call x call)
sound_call x (Add number class owner deadline limit now) new h = sound_add x number class owner deadline limit now new h
sound_call x (Hold place needs now keeps) ok h =
    sound_hold x place needs now keeps ok.0 ok.1 h
sound_call x (Finish place how now) ok h =
    sound_set x place (over how now (ask_at x.asks place)) ok.0 refl refl (omega arith) (sound_over x.durable how now (ask_at x.asks place)) h
sound_call x (SetGone place moment) inside h =
    sound_set x place (gone_since moment (ask_at x.asks place)) inside refl refl (omega arith)
    (sound_gone x.durable moment (ask_at x.asks place) (h.each place no_ask inside)) h
sound_call x (IsBack place) inside h =
    sound_set x place (back_again (ask_at x.asks place)) inside refl refl (omega arith)
    (sound_back x.durable (ask_at x.asks place) (h.each place no_ask inside)) h
sound_call x (Give at) ok h = sound_give x at h
sound_call x (Turn at) ok h = sound_turn x at h
sound_call x (Reach position) ok h = sound_reach x position h
sound_call x (Tell place what) ok h =
    sound_set x place (hearing what (ask_at x.asks place)) ok.0 refl refl (omega arith)
    (sound_hearing x.durable (ask_at x.asks place) what ok.1 (h.each place no_ask ok.0)) h
sound_call x Purge ok h = sound_purge x h

-- ---- what was so before

-- what no call makes true of an ask
pub record ComesNot (Q : Ask → Type 0) : Type 0 where
  pub by_hold : (a : Ask) (needs now : ℕ) (keeps : Bool) (token : ℕ) → a.stage ≡ Waits → Q (holding needs now keeps token a) → Q a
  pub by_end : (a : Ask) (how : End) (now : ℕ) → is_over a.stage ≡ false → Q (over how now a) → Q a
  pub by_gone : (a : Ask) (moment : ℕ) → Q (gone_since moment a) → Q a
  pub by_back : (a : Ask) → Q (back_again a) → Q a
  pub by_give : (a : Ask) (at : ℕ) → Q (given at a) → Q a
  pub by_turn : (a : Ask) (at : ℕ) → Q (turned at a) → Q a
  pub by_tell : (a : Ask) (durable : ℕ) (what : Outcome) → to_tell durable a ≡ Some what → Q (hearing what a) → Q a

-- the ask with this number isn't there yet, or this is so of it
abbrev pub May : (Ask → Type 0) → ℕ → BookView → Type 0
May Q number x = (x.next ≤ number) ⊎ ((j : ℕ) × (j < length x.asks) × ((ask_at x.asks j).number ≡ number) × Q (ask_at x.asks j))

came_set : (Q : Ask → Type 0) (number : ℕ) (x : BookView) (place : ℕ) (a : Ask) → place < length x.asks → a.number ≡ (ask_at x.asks place).number
    → (Q a → Q (ask_at x.asks place)) → May Q number (with_ask x place a) → May Q number x
came_set Q number x place a inside is back (inl above) = inl above
came_set Q number x place a inside is back (inr (j, within, same_number, q)) =
    let in_j : j < length x.asks = omega (arith, within, length-set x.asks place a) in
    elim (cases_eq j place) [
      | inl same ↦
          let here : ask_at (set x.asks place a) j ≡ a = ap (ask_at (set x.asks place a)) same ∙ get_or-set_same x.asks place a no_ask inside in
          inr (place, inside, sym is ∙ (ap (λ (b : Ask). b.number) (sym here) ∙ same_number), back (subst Q here q))
      | inr other ↦
          let there : ask_at (set x.asks place a) j ≡ ask_at x.asks j = get_or-set_other x.asks place j a no_ask other in
          inr (j, in_j, ap (λ (b : Ask). b.number) (sym there) ∙ same_number, subst Q there q)
    ]

came_add : (Q : Ask → Type 0) (number : ℕ) (x : BookView) (n class owner : ℕ) (deadline limit : Option ℕ) (now : ℕ) → x.next ≤ n
    → May Q number (add x n class owner deadline limit now) → May Q number x
came_add Q number x n class owner deadline limit now new (inl above) = inl (omega (arith, above, new))
came_add Q number x n class owner deadline limit now new (inr (j, within, same_number, q)) =
    let a : Ask = asker n class owner deadline limit now in
    elim (cases_eq j (length x.asks)) [
      | inl last ↦
          let here : ask_at (x.asks ++ a ∷ []) j ≡ a = get_or_push x.asks a no_ask j (sym last) in
          inl (omega (arith, new, same_number, ap (λ (b : Ask). b.number) here))
      | inr other ↦
          let in_j : j < length x.asks = omega (arith, within, length-append x.asks (a ∷ []), other) in
          let there : ask_at (x.asks ++ a ∷ []) j ≡ ask_at x.asks j = get_or_append_left x.asks (a ∷ []) no_ask j in_j in
          inr (j, in_j, ap (λ (b : Ask). b.number) (sym there) ∙ same_number, subst Q there q)
    ]

came_give : (Q : Ask → Type 0) (number : ℕ) (x : BookView) (at : ℕ) → ((a : Ask) → Q (given at a) → Q a) → May Q number (after_call x (Give at))
    → May Q number x
came_give Q number x at back (inl above) = inl above
came_give Q number x at back (inr (j, within, same_number, q)) =
    let in_j : j < length x.asks = omega (arith, within, length-map x.asks (given at)) in
    let there : ask_at (map (given at) x.asks) j ≡ given at (ask_at x.asks j) = get_or-map (given at) x.asks j no_ask no_ask in_j in
    inr (j, in_j, ap (λ (b : Ask). b.number) (sym there) ∙ same_number, back (ask_at x.asks j) (subst Q there q))

came_turn : (Q : Ask → Type 0) (number : ℕ) (x : BookView) (at : ℕ) → ((a : Ask) → Q (turned at a) → Q a) → May Q number (after_call x (Turn at))
    → May Q number x
came_turn Q number x at back (inl above) = inl above
came_turn Q number x at back (inr (j, within, same_number, q)) =
    let in_j : j < length x.asks = omega (arith, within, length-map x.asks (turned at)) in
    let there : ask_at (map (turned at) x.asks) j ≡ turned at (ask_at x.asks j) = get_or-map (turned at) x.asks j no_ask no_ask in_j in
    inr (j, in_j, ap (λ (b : Ask). b.number) (sym there) ∙ same_number, back (ask_at x.asks j) (subst Q there q))

-- each that a filter leaves was there before
abbrev pub IsThere : List Ask → Ask → Type 0
IsThere asks a = (k : ℕ) × (k < length asks) × (ask_at asks k ≡ a)

there_later : (b : Ask) (asks : List Ask) (a : Ask) → IsThere asks a → IsThere (b ∷ asks) a
there_later b asks a (k, within, is) = (suc k, omega (arith, within), is)

kept_or_not : (b : Ask) (asks rest : List Ask) → ((i : ℕ) → i < length rest → IsThere asks (ask_at rest i)) → (t : Bool) (i : ℕ)
    → i < length (cond t (b ∷ rest) rest) → IsThere (b ∷ asks) (ask_at (cond t (b ∷ rest) rest) i)
kept_or_not b asks rest kept true zero h = (0, omega arith, refl)
kept_or_not b asks rest kept true (suc i) h = there_later b asks (ask_at rest i) (kept i (omega (arith, h)))
kept_or_not b asks rest kept false i h = there_later b asks (ask_at rest i) (kept i h)

kept_there : (p : Ask → Bool) (asks : List Ask) (j : ℕ) → j < length (filter p asks) → IsThere asks (ask_at (filter p asks) j)
kept_there p [] j inside = absurd (omega (arith, inside))
kept_there p (b ∷ asks) j inside = kept_or_not b asks (filter p asks) (λ i h. kept_there p asks i h) (p b) j inside

came_purge : (Q : Ask → Type 0) (number : ℕ) (x : BookView) → May Q number (purge x) → May Q number x
came_purge Q number x (inl above) = inl above
came_purge Q number x (inr (j, within, same_number, q)) =
    let w = kept_there (λ a. not (is_done a)) x.asks j within in
    inr (w.0, w.1, ap (λ (b : Ask). b.number) w.2 ∙ same_number, subst Q (sym w.2) q)

pub came_before : (Q : Ask → Type 0) → ComesNot Q → (number : ℕ) (x : BookView) (call : Call) → IsAllowed x call → May Q number (after_call x call)
    → May Q number x
came_before Q c number x (Add n class owner deadline limit now) new h = came_add Q number x n class owner deadline limit now new h
came_before Q c number x (Hold place needs now keeps) ok h =
    came_set Q number x place (holding needs now keeps (x.granted + 1) (ask_at x.asks place)) ok.0 refl
    (c.by_hold (ask_at x.asks place) needs now keeps (x.granted + 1) ok.1) h
came_before Q c number x (Finish place how now) ok h =
    came_set Q number x place (over how now (ask_at x.asks place)) ok.0 refl (c.by_end (ask_at x.asks place) how now ok.1) h
came_before Q c number x (SetGone place moment) inside h =
    came_set Q number x place (gone_since moment (ask_at x.asks place)) inside refl (c.by_gone (ask_at x.asks place) moment) h
came_before Q c number x (IsBack place) inside h =
    came_set Q number x place (back_again (ask_at x.asks place)) inside refl (c.by_back (ask_at x.asks place)) h
came_before Q c number x (Give at) ok h = came_give Q number x at (λ a. c.by_give a at) h
came_before Q c number x (Turn at) ok h = came_turn Q number x at (λ a. c.by_turn a at) h
came_before Q c number x (Reach position) ok h = h
came_before Q c number x (Tell place what) ok h =
    came_set Q number x place (hearing what (ask_at x.asks place)) ok.0 refl (c.by_tell (ask_at x.asks place) x.durable what ok.1) h
came_before Q c number x Purge ok h = came_purge Q number x h
