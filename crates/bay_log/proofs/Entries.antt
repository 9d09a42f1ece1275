-- The list of those that hold, line by line.
use Rattle.std.proofs.Common.{◌≡◌, ℕ, ◌+◌, ◌<◌, Bool, true, false, if◌then◌else◌, List, [], ◌∷◌, length, get_or, take, refl, sym, ap, ◌∙◌, arith, Option, Some, None}
use Rattle.std.specs.Prelude.{◌==◌, not}
use Rattle.std.proofs.lemmas.List.{take_more}
use Rattle.std.proofs.lemmas.Bool.Decides.{nat_tests}
use Rattle.bay_log.specs.declared.line.Entry.{Entry}
use Rattle.bay_log.specs.declared.line.Line.{Line}
use Rattle.bay_log.specs.declared.line.Line.TheVariants.{Head, Hold, Back, End, Note}
use Rattle.bay_log.specs.declared.alive.Holder.{Holder}
use Rattle.bay_log.specs.Alive.{after, alive}
use Rattle.bay_log.proofs.Holding.{alive_both}
use Rattle.bay_log.specs.Holders.{entry_in, AreApart, AreHolders, without, pushed, taken}

abbrev none_if : Bool → Option Entry → Option Entry
none_if t y = if t then None else y

same_test : (a b : ℕ) → (a == b) ≡ (b == a)
same_test a b = grind (arith, nat_tests)

is_same : (a : ℕ) → (a == a) ≡ true
is_same a = grind (arith, nat_tests)

-- ---- one that was taken out isn't there, and the others are as they were

front : (b : Bool) (h : Holder) (hs : List Holder) (n : ℕ)
    → entry_in (if b then h ∷ hs else hs) n ≡ (if b then (if h.ask == n then Some h.entry else entry_in hs n) else entry_in hs n)
front true h hs n = refl
front false h hs n = refl

pick : (b c d : Bool) (x y : Option Entry) → (b ≡ true → c ≡ true → d ≡ true) → (c ≡ true → d ≡ true → b ≡ true)
    → (if not b then (if c then x else (if d then None else y)) else (if d then None else y)) ≡ (if d then None else (if c then x else y))
pick true c true x y p q = refl
pick true true false x y p q = let e : false ≡ true = p refl refl in cc e
pick true false false x y p q = refl
pick false true true x y p q = let e : false ≡ true = q refl refl in cc e
pick false false true x y p q = refl
pick false true false x y p q = refl
pick false false false x y p q = refl

none_either : (t : Bool) → none_if t None ≡ None
none_either true = refl
none_either false = refl

entry_without : (hs : List Holder) (m n : ℕ) → entry_in (without m hs) n ≡ none_if (n == m) (entry_in hs n)
entry_without [] m n = sym (none_either (n == m))
entry_without (h ∷ hs) m n =
    front (not (h.ask == m)) h (without m hs) n
    ∙ ((λ i. if not (h.ask == m) then (if h.ask == n then Some h.entry else entry_without hs m n i) else entry_without hs m n i)
    ∙ pick (h.ask == m) (h.ask == n) (n == m) (Some h.entry) (entry_in hs n) (first h.ask m n) (second h.ask m n))
  where
    first : (a m n : ℕ) → (a == m) ≡ true → (a == n) ≡ true → (n == m) ≡ true
    first a m n p q = grind (arith, nat_tests)

    second : (a m n : ℕ) → (a == n) ≡ true → (n == m) ≡ true → (a == m) ≡ true
    second a m n p q = grind (arith, nat_tests)

apart_front : (b : Bool) (h : Holder) (hs : List Holder) → entry_in hs h.ask ≡ None → AreApart hs → AreApart (if b then h ∷ hs else hs)
apart_front true h hs none apart = (none, apart)
apart_front false h hs none apart = apart

apart_without : (hs : List Holder) (m : ℕ) → AreApart hs → AreApart (without m hs)
apart_without [] m apart = tt
apart_without (h ∷ hs) m apart =
    apart_front (not (h.ask == m)) h (without m hs)
    (entry_without hs m h.ask ∙ (ap (none_if (h.ask == m)) apart.0 ∙ none_either (h.ask == m))) (apart_without hs m apart.1)

-- ---- one more

swapped : (c d : Bool) (x y z : Option Entry) → (c ≡ true → d ≡ true → ⊥)
    → (if c then x else (if d then z else y)) ≡ (if d then z else (if c then x else y))
swapped true true x y z differ = absurd (differ refl refl)
swapped true false x y z differ = refl
swapped false true x y z differ = refl
swapped false false x y z differ = refl

not_this : (t : Bool) (e : Entry) (y : Option Entry) → (if t then Some e else y) ≡ None → (t ≡ false) × (y ≡ None)
not_this true e y h = cc h
not_this false e y h = (refl, h)

entry_pushed : (hs : List Holder) (m : ℕ) (e : Entry) (n : ℕ) → entry_in hs m ≡ None
    → entry_in (pushed m (Some e) hs) n ≡ (if n == m then Some e else entry_in hs n)
entry_pushed [] m e n none = ap (λ (t : Bool). if t then Some e else None) (same_test m n)
entry_pushed (h ∷ hs) m e n none =
    let parts = not_this (h.ask == m) h.entry (entry_in hs m) none in
    ap (λ (y : Option Entry). if h.ask == n then Some h.entry else y) (entry_pushed hs m e n parts.1)
    ∙ swapped (h.ask == n) (n == m) (Some h.entry) (entry_in hs n) (Some e) (other h.ask m n parts.0)
  where
    other : (a m n : ℕ) → (a == m) ≡ false → (a == n) ≡ true → (n == m) ≡ true → ⊥
    other a m n p q r = grind (arith, nat_tests)

apart_pushed : (hs : List Holder) (m : ℕ) (e : Entry) → entry_in hs m ≡ None → AreApart hs → AreApart (pushed m (Some e) hs)
apart_pushed [] m e none apart = (refl, tt)
apart_pushed (h ∷ hs) m e none apart =
    let parts = not_this (h.ask == m) h.entry (entry_in hs m) none in (
      entry_pushed hs m e h.ask parts.1 ∙ ((λ i. if parts.0 i then Some e else entry_in hs h.ask) ∙ apart.0),
      apart_pushed hs m e parts.1 apart.1,
    )

-- ---- one is set

gone : (hs : List Holder) (m : ℕ) → entry_in (without m hs) m ≡ None
gone hs m = entry_without hs m m ∙ ap (λ (t : Bool). none_if t (entry_in hs m)) (is_same m)

covered : (t : Bool) (x y : Option Entry) → (if t then x else none_if t y) ≡ (if t then x else y)
covered true x y = refl
covered false x y = refl

entry_set : (hs : List Holder) (m : ℕ) (v : Option Entry) (n : ℕ)
    → entry_in (pushed m v (without m hs)) n ≡ (if n == m then v else entry_in hs n)
entry_set hs m None n = entry_without hs m n
entry_set hs m (Some e) n =
    entry_pushed (without m hs) m e n (gone hs m)
    ∙ (ap (λ (y : Option Entry). if n == m then Some e else y) (entry_without hs m n) ∙ covered (n == m) (Some e) (entry_in hs n))

apart_set : (hs : List Holder) (m : ℕ) (v : Option Entry) → AreApart hs → AreApart (pushed m v (without m hs))
apart_set hs m None apart = apart_without hs m apart
apart_set hs m (Some e) apart = apart_pushed (without m hs) m e (gone hs m) (apart_without hs m apart)

-- one line more
pub taken_holders : (hs : List Holder) (held : ℕ → Option Entry) (line : Line) → AreHolders hs held → AreHolders (taken hs line) (after held line)
taken_holders hs held (Head bay base next granted) are = record { each = are.each; apart = are.apart }
taken_holders hs held (Note ask text) are = record { each = are.each; apart = are.apart }
taken_holders hs held (Hold ask e) are =
    record {
      each = λ n. entry_set hs ask (Some e) n ∙ ap (λ (y : Option Entry). if n == ask then Some e else y) (are.each n);
      apart = apart_set hs ask (Some e) are.apart;
    }
taken_holders hs held (End ask how at) are =
    record {
      each = λ n. entry_without hs ask n ∙ ap (none_if (n == ask)) (are.each n);
      apart = apart_without hs ask are.apart;
    }
taken_holders hs held (Back from to) are =
    record {
      each =
          λ n.
          entry_set (without from hs) to (entry_in hs from) n
          ∙ λ i. if n == to then are.each from i else (entry_without hs from n ∙ ap (none_if (n == from)) (are.each n)) i;
      apart = apart_set (without from hs) to (entry_in hs from) (apart_without hs from are.apart);
    }

-- a line more was read
pub alive_more : (lines : List Line) (i : ℕ) (d : Line) → i < length lines → alive (take (i + 1) lines) ≡ after (alive (take i lines)) (get_or lines i d)
alive_more lines i d h =
    ap alive (take_more lines i d h) ∙ alive_both (λ n. None) (take i lines) (get_or lines i d ∷ [])
