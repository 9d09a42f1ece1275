-- Tokens differ, and rise.
use Rattle.std.proofs.Common.{◌≡◌, ◌≢◌, ◌⊎◌, ℕ, ◌+◌, ◌<◌, ◌≤◌, Bool, true, not, [], ◌∷◌, length, set, Option, Some, refl, sym, ap, ◌∙◌, subst, inl, inr, arith}
use Rattle.std.proofs.lemmas.Bool.{cases_eq}
use Rattle.bay_book.specs.declared.ask.Ask.{Ask}
use Rattle.bay_book.specs.declared.ask.Stage.{Stage}
use Rattle.bay_book.specs.declared.ask.Stage.TheVariants.{Waits, Holds, Over}
use Rattle.bay_book.specs.Asks.{ask_at, no_ask, is_holding, is_done, asker, holding, over, gone_since, back_again, hearing, IsSoundAt, IsSoundAsk}
use Rattle.bay_book.specs.Books.{BookView, IsSound}
use Rattle.bay.specs.declared.telling.Told.{Told}
use Rattle.bay.specs.Members.{Has}
use Rattle.bay.specs.Views.{RoomView}
use Rattle.bay.specs.Rooms.{Stops, Tells}
use Rattle.bay.specs.Laws.{HaveTokens}
use Rattle.bay.specs.LineLaws.{IsCall, HadToken, Rises, TokensRise}
use Rattle.bay.proofs.Members.{has_at, place_of, set_cases, append_cases, filter_cases}
use Rattle.bay.proofs.Through.{IsKeptByChanges, through_asks, through_ends, through_leaves, through_goes, through_comes_back, through_passes, through_stops, through_tells}

-- ---- in each book

holds_some : (d : ℕ) (a : Ask) (s : Stage) → IsSoundAt d a s → is_holding s ≡ true → 1 ≤ a.token
holds_some d a Waits h e = let no : ⊥ = cc in absurd no
holds_some d a Holds h e = h.3
holds_some d a (Over how) h e = let no : ⊥ = cc in absurd no

holding_token : (x : BookView) (a : Ask) → IsSound x → Has x.asks a → is_holding a.stage ≡ true → 1 ≤ a.token
holding_token x a s h holds =
    let p = place_of x.asks a no_ask h in
    holds_some x.durable a a.stage (subst (IsSoundAsk x.durable) p.2 (s.each p.0 no_ask p.1)) holds

pub has_token : (x : BookView) (a : Ask) → IsSound x → Has x.asks a → a.stage ≡ Holds → 1 ≤ a.token
has_token x a s h holds = holding_token x a s h (ap is_holding holds)

less_or_more : (a b : ℕ) → a ≢ b → (a < b) ⊎ (b < a)
less_or_more a b e = grind (arith, e)

pub one_token : (x : BookView) (a b : Ask) → IsSound x → Has x.asks a → Has x.asks b → 1 ≤ a.token → a.token ≡ b.token → a ≡ b
one_token x a b s ha hb some same =
    let p = place_of x.asks a no_ask ha in let q = place_of x.asks b no_ask hb in
    let at_p = ap (λ (c : Ask). c.token) p.2 in let at_q = ap (λ (c : Ask). c.token) q.2 in
    elim (cases_eq p.0 q.0) [
      | inl is ↦ sym p.2 ∙ (ap (ask_at x.asks) is ∙ q.2)
      | inr other ↦ elim (less_or_more p.0 q.0 other) [
        | inl less ↦ let zero_ = s.tokens p.0 q.0 no_ask less q.1 (at_p ∙ (same ∙ sym at_q)) in absurd (omega (arith, zero_, at_p, some))
        | inr more ↦ let zero_ = s.tokens q.0 p.0 no_ask more p.1 (at_q ∙ (sym same ∙ sym at_p)) in absurd (omega (arith, zero_, at_q, same, some))
      ]
    ]

pub have_tokens : (x : BookView) → IsSound x → HaveTokens x
have_tokens x s = record {
  differ = λ a b ha hb some same. one_token x a b s ha hb some same;
  holds = λ a h. holding_token x a s h.0 h.1;
  within = λ a h. let p = place_of x.asks a no_ask h in subst (λ (c : Ask). c.token ≤ x.granted) p.2 (s.within p.0 no_ask p.1);
}

-- ---- by each call

-- tokens rose since this book, and no less is durable
pub record Rose (old x : BookView) : Type 0 where
  pub rises : Rises old x
  pub durable : old.durable ≤ x.durable

abbrev IsRisen : BookView → Ask → Type 0
IsRisen old b = HadToken old.asks b ⊎ (b.token ≡ 0) ⊎ (old.granted < b.token)

had : (old : BookView) (a b : Ask) → a.number ≡ b.number → a.token ≡ b.token → IsRisen old a → IsRisen old b
had old a b number token (inl h) = inl (h.0, h.1, h.2 ∙ number, h.3 ∙ token)
had old a b number token (inr (inl none)) = inr (inl (sym token ∙ none))
had old a b number token (inr (inr more)) = inr (inr (subst (λ n. old.granted < n) token more))

rise_set : (old x : BookView) (place : ℕ) (v : Ask) → place < length x.asks → (ask_at x.asks place).number ≡ v.number
    → (ask_at x.asks place).token ≡ v.token → Rises old x → (b : Ask) → Has (set x.asks place v) b → IsRisen old b
rise_set old x place v inside number token r b h = elim (set_cases x.asks place v b h) [
  | inl is ↦
      had old (ask_at x.asks place) b (number ∙ ap (λ (c : Ask). c.number) is) (token ∙ ap (λ (c : Ask). c.token) is)
      (r.each (ask_at x.asks place) (has_at x.asks place no_ask inside))
  | inr was ↦ r.each b was
]

one_of : (a b : Ask) → Has (a ∷ []) b → a ≡ b
one_of a b (inl is) = is
one_of a b (inr h) = absurd h

pub rose_kept : (keeps : Bool) (old : BookView) → IsKeptByChanges keeps (Rose old)
rose_kept keeps old = record {
  adds = λ x number class owner deadline limit now fits t.
      let v : Ask = asker number class owner deadline limit now in
      record {
        rises = record {
          largest = t.rises.largest;
          each = λ b h. elim (append_cases x.asks (v ∷ []) b h) [
            | inl was ↦ t.rises.each b was
            | inr now ↦ inr (inl (ap (λ (c : Ask). c.token) (sym (one_of v b now))))
          ];
        };
        durable = t.durable;
      };
  holds = λ x place needs now inside w t.
      let v : Ask = holding needs now keeps (x.granted + 1) (ask_at x.asks place) in let less = t.rises.largest in
      record {
        rises = record {
          largest = omega (arith, less);
          each = λ b h. elim (set_cases x.asks place v b h) [
            | inl is ↦ inr (inr (subst (λ (c : Ask). old.granted < c.token) is (omega (arith, less))))
            | inr was ↦ t.rises.each b was
          ];
        };
        durable = t.durable;
      };
  ends = λ x place how now inside goes t.
      let v : Ask = over how now (ask_at x.asks place) in
      record { rises = record { largest = t.rises.largest; each = rise_set old x place v inside refl refl t.rises }; durable = t.durable };
  goes = λ x place moment inside t.
      let v : Ask = gone_since moment (ask_at x.asks place) in
      record { rises = record { largest = t.rises.largest; each = rise_set old x place v inside refl refl t.rises }; durable = t.durable };
  comes = λ x place inside t.
      let v : Ask = back_again (ask_at x.asks place) in
      record { rises = record { largest = t.rises.largest; each = rise_set old x place v inside refl refl t.rises }; durable = t.durable };
  hears = λ x place what inside due t.
      let v : Ask = hearing what (ask_at x.asks place) in
      record { rises = record { largest = t.rises.largest; each = rise_set old x place v inside refl refl t.rises }; durable = t.durable };
  purges = λ x t. record {
    rises = record { largest = t.rises.largest; each = λ b h. t.rises.each b (filter_cases (λ (a : Ask). not (is_done a)) x.asks b h).0 };
    durable = t.durable;
  };
}

pub rose_none : (x : BookView) → Rose x x
rose_none x = record { rises = record { largest = omega arith; each = λ b h. inl (b, h, refl, refl) }; durable = omega arith }

pub rose_by_call : (old new : RoomView) (now : ℕ) → IsCall now old new ⊎ Stops now old new → Rose old.book new.book
rose_by_call old new now (inl (inl c)) = through_asks _ old (rose_kept old.terms.keeps old.book) c.0 c.1 now new c.2 (rose_none old.book)
rose_by_call old new now (inl (inr (inl c))) = through_ends _ old (rose_kept old.terms.keeps old.book) c.0 c.1 now new c.2 (rose_none old.book)
rose_by_call old new now (inl (inr (inr (inl c)))) = through_leaves _ old (rose_kept old.terms.keeps old.book) c.0 now new c.1 (rose_none old.book)
rose_by_call old new now (inl (inr (inr (inr (inl c))))) = through_goes _ old (rose_kept old.terms.keeps old.book) c.0 now new c.1 (rose_none old.book)
rose_by_call old new now (inl (inr (inr (inr (inr (inl c)))))) =
    through_comes_back _ old (rose_kept old.terms.keeps old.book) c.0 c.1 now new (Some c.2) c.3 (rose_none old.book)
rose_by_call old new now (inl (inr (inr (inr (inr (inr c)))))) = through_passes _ old (rose_kept old.terms.keeps old.book) now new c (rose_none old.book)
rose_by_call old new now (inr c) = through_stops _ old (rose_kept old.terms.keeps old.book) now new c (rose_none old.book)

pub rose_by_tell : (old new : RoomView) (done : ℕ) (told : Option Told) → Tells done old told new → Rose old.book new.book
rose_by_tell old new done told c = through_tells _ old (rose_kept old.terms.keeps old.book) done new told c (rose_none old.book)

pub tokens_rise : TokensRise
tokens_rise = record {
  calls = λ old new now c. (rose_by_call old new now c).rises;
  tells = λ old new done told c. (rose_by_tell old new done told c).rises;
}
