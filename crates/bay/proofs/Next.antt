-- When something is due next.
use Rattle.std.proofs.Common.{◌≡◌, ℕ, ◌<◌, ◌≤◌, min, Bool, true, false, nat_le, List, length, Option, Some, None, refl, sym, ◌∙◌, arith, rules, ◌⊎◌, ap, inl, inr, subst}
use Rattle.std.proofs.lemmas.Bool.{false≢true}
use Rattle.bay_line.specs.Wanted.{AreWanted}
use Rattle.bay_book.specs.declared.ask.Ask.{Ask}
use Rattle.bay_book.specs.declared.ask.End.{End}
use Rattle.bay_book.specs.declared.ask.End.TheVariants.{LetGo, Left, Lapsed, NotWritten, Limit, Grace, TakenAway, Replaced, Stopped}
use Rattle.bay_book.specs.Asks.{ask_at}
use Rattle.bay_book.specs.Moments.{sooner, is_past, until, kept_until, limit_end, due_at, limit_due_at, is_wanted, wanted_moment, late_end}
use Rattle.bay_book.specs.Finding.{IsLeast}
use Rattle.bay.specs.declared.classes.Class.{Class}
use Rattle.bay.specs.declared.terms.Terms.{Terms}
use Rattle.bay.specs.Cores.{Core}
use Rattle.bay.specs.Following.{AreFull, IsDue, IsNextMoment}
use Rattle.bay.proofs.Due.{is_wanted_so, wanted_is, late_so}
use Rattle.bay.proofs.Members.{cases_lt}

le_of : (a b : ℕ) → nat_le a b ≡ true → a ≤ b
le_of a b h = search (rules, h)

-- it is over at this moment: so there is such a moment, and it isn't later
pub record IsBy (t : ℕ) (o : Option ℕ) : Type 0 where
  pub at : ℕ
  pub is : o ≡ Some at
  pub by : at ≤ t

past_by : (t : ℕ) (o : Option ℕ) → is_past t o ≡ true → IsBy t o
past_by t None h = absurd (false≢true h)
past_by t (Some u) h = record { at = u; is = refl; by = le_of u t h }

sooner_first : (t : ℕ) (a b : Option ℕ) → IsBy t a → IsBy t (sooner a b)
sooner_first t None b h = absurd (let e = h.is in let no : ⊥ = cc in no)
sooner_first t (Some u) None h = h
sooner_first t (Some u) (Some v) h =
    let e = h.is in let same : u ≡ h.at = cc in let by = h.by in record { at = min u v; is = refl; by = omega (arith, same, by) }

sooner_second : (t : ℕ) (a b : Option ℕ) → IsBy t b → IsBy t (sooner a b)
sooner_second t a None h = absurd (let e = h.is in let no : ⊥ = cc in no)
sooner_second t None (Some v) h = h
sooner_second t (Some u) (Some v) h =
    let e = h.is in let same : v ≡ h.at = cc in let by = h.by in record { at = min u v; is = refl; by = omega (arith, same, by) }

-- the least of all is by then, too
least_by : (f : Ask → Option ℕ) (asks : List Ask) (place t : ℕ) (r : Option ℕ) → IsLeast f asks r → place < length asks → IsBy t (f (ask_at asks place)) → IsBy t r
least_by f asks place t None least inside h = absurd (let e : None ≡ Some h.at = sym (least place inside) ∙ h.is in let no : ⊥ = cc in no)
least_by f asks place t (Some m) least inside h =
    let le = least.1 place h.at inside h.is in let by = h.by in record { at = m; is = refl; by = omega (arith, le, by) }

wanted_by : (t : ℕ) (b : Bool) (o : Option ℕ) → b ≡ true → is_past t o ≡ true → IsBy t (wanted_moment b o)
wanted_by t true o e h = past_by t o h
wanted_by t false o e h = absurd (false≢true e)

due_by : (classes : List Class) (terms : Terms) (x : Core) (wanted full : ℕ) (one two : Option ℕ) (t place : ℕ) (how : End) → AreWanted x.line.wishes wanted
    → AreFull classes x full → IsLeast (due_at terms.grace x.book.durable terms.disk) x.book.asks one → IsLeast (limit_due_at wanted full) x.book.asks two
    → place < length x.book.asks → IsDue classes terms t x (ask_at x.book.asks place) how → IsBy t (sooner one two)
due_by classes terms x wanted full one two t place LetGo w f a b inside due = absurd due
due_by classes terms x wanted full one two t place Left w f a b inside due = absurd due
due_by classes terms x wanted full one two t place Lapsed w f a b inside due =
    let k = ask_at x.book.asks place in
    sooner_first t one two (least_by (due_at terms.grace x.book.durable terms.disk) x.book.asks place t one a inside
    (sooner_first t (until x.book.durable terms.disk k) (kept_until terms.grace k) (past_by t (until x.book.durable terms.disk k) due.1)))
due_by classes terms x wanted full one two t place NotWritten w f a b inside due =
    let k = ask_at x.book.asks place in
    sooner_first t one two (least_by (due_at terms.grace x.book.durable terms.disk) x.book.asks place t one a inside
    (sooner_first t (until x.book.durable terms.disk k) (kept_until terms.grace k) (past_by t (until x.book.durable terms.disk k) due.1)))
due_by classes terms x wanted full one two t place Limit w f a b inside due =
    let k = ask_at x.book.asks place in
    sooner_second t one two (least_by (limit_due_at wanted full) x.book.asks place t two b inside
    (wanted_by t (is_wanted wanted full k) (limit_end k) (is_wanted_so classes x wanted full k w f due.0) due.1))
due_by classes terms x wanted full one two t place Grace w f a b inside due =
    let k = ask_at x.book.asks place in
    sooner_first t one two (least_by (due_at terms.grace x.book.durable terms.disk) x.book.asks place t one a inside
    (sooner_second t (until x.book.durable terms.disk k) (kept_until terms.grace k) (past_by t (kept_until terms.grace k) due)))
due_by classes terms x wanted full one two t place TakenAway w f a b inside due = absurd due
due_by classes terms x wanted full one two t place Replaced w f a b inside due = absurd due
due_by classes terms x wanted full one two t place Stopped w f a b inside due = absurd due

not_by : (t next : ℕ) (o : Option ℕ) → o ≡ Some next → t < next → IsBy t o → ⊥
not_by t next o e less h = let is = h.is in let by = h.by in let same : next ≡ h.at = cc in omega (arith, same, by, less)

none_by : (t : ℕ) (o : Option ℕ) → o ≡ None → IsBy t o → ⊥
none_by t o e h = let is = h.is in let no : ⊥ = cc in no

-- ---- and somebody is due then

le_self : (n : ℕ) → nat_le n n ≡ true
le_self n = search (rules, n)

lesser : (u v : ℕ) → (min u v ≡ u) ⊎ (min u v ≡ v)
lesser u v = elim (cases_lt u v) [ inl h ↦ inl (omega (arith, h)) | inr h ↦ inr (omega (arith, h)) ]

sooner_from : (m : ℕ) (a b : Option ℕ) → sooner a b ≡ Some m → (a ≡ Some m) ⊎ (b ≡ Some m)
sooner_from m None None h = inl h
sooner_from m None (Some v) h = inr h
sooner_from m (Some u) None h = inl h
sooner_from m (Some u) (Some v) h = elim (lesser u v) [
  | inl e ↦ inl (ap (λ n. Some n) (sym e) ∙ h)
  | inr e ↦ inr (ap (λ n. Some n) (sym e) ∙ h)
]

past_at : (m : ℕ) (o : Option ℕ) → o ≡ Some m → is_past m o ≡ true
past_at m o e = ap (is_past m) e ∙ le_self m

-- one whose time is over
abbrev pub SomebodyIsDue : List Class → Terms → ℕ → Core → Type 0
SomebodyIsDue classes terms next x = (place : ℕ) × (how : End) × (place < length x.book.asks) × IsDue classes terms next x (ask_at x.book.asks place) how

due_then : (classes : List Class) (terms : Terms) (x : Core) (m : ℕ) → IsLeast (due_at terms.grace x.book.durable terms.disk) x.book.asks (Some m)
    → SomebodyIsDue classes terms m x
due_then classes terms x m least =
    let j = least.0.0 in let a = ask_at x.book.asks j in
    elim (sooner_from m (until x.book.durable terms.disk a) (kept_until terms.grace a) least.0.2) [
      | inl e ↦ let late = past_at m (until x.book.durable terms.disk a) e in (j, late_end a.stage, least.0.1, late_so classes terms m x a a.stage refl late late)
      | inr e ↦ (j, Grace, least.0.1, past_at m (kept_until terms.grace a) e)
    ]

none_some : (m : ℕ) → None ≡ Some m → ⊥
none_some m e = cc

wanted_from : (m : ℕ) (b : Bool) (o : Option ℕ) → wanted_moment b o ≡ Some m → (b ≡ true) × (o ≡ Some m)
wanted_from m true o h = (refl, h)
wanted_from m false o h = absurd (none_some m h)

limit_then : (classes : List Class) (terms : Terms) (x : Core) (wanted full m : ℕ) → AreWanted x.line.wishes wanted → AreFull classes x full
    → IsLeast (limit_due_at wanted full) x.book.asks (Some m) → SomebodyIsDue classes terms m x
limit_then classes terms x wanted full m w f least =
    let j = least.0.0 in let a = ask_at x.book.asks j in let both = wanted_from m (is_wanted wanted full a) (limit_end a) least.0.2 in
    (j, Limit, least.0.1, (wanted_is classes x wanted full a w f both.0, past_at m (limit_end a) both.1))

somebody : (classes : List Class) (terms : Terms) (x : Core) (wanted full m : ℕ) (one two : Option ℕ) → AreWanted x.line.wishes wanted
    → AreFull classes x full → IsLeast (due_at terms.grace x.book.durable terms.disk) x.book.asks one → IsLeast (limit_due_at wanted full) x.book.asks two
    → sooner one two ≡ Some m → SomebodyIsDue classes terms m x
somebody classes terms x wanted full m one two w f a b is = elim (sooner_from m one two is) [
  | inl e ↦ due_then classes terms x m (subst (IsLeast (due_at terms.grace x.book.durable terms.disk) x.book.asks) e a)
  | inr e ↦ limit_then classes terms x wanted full m w f (subst (IsLeast (limit_due_at wanted full) x.book.asks) e b)
]

pub next_is : (classes : List Class) (terms : Terms) (x : Core) (wanted full : ℕ) (one two r : Option ℕ) → AreWanted x.line.wishes wanted
    → AreFull classes x full → IsLeast (due_at terms.grace x.book.durable terms.disk) x.book.asks one → IsLeast (limit_due_at wanted full) x.book.asks two
    → sooner one two ≡ r → IsNextMoment classes terms x r
next_is classes terms x wanted full one two (Some next) w f a b is = (
  λ t less place how inside due. not_by t next (sooner one two) is less (due_by classes terms x wanted full one two t place how w f a b inside due),
  somebody classes terms x wanted full next one two w f a b is,
)
next_is classes terms x wanted full one two None w f a b is = λ t place how inside due.
    none_by t (sooner one two) is (due_by classes terms x wanted full one two t place how w f a b inside due)
