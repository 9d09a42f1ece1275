-- By the lines that are given no two hold a common instrument.
use Rattle.std.proofs.Common.{◌≡◌, ◌≢◌, ◌⊎◌, ℕ, zero, suc, ◌+◌, ◌<◌, ◌≤◌, Bool, true, false, if◌then◌else◌, ◌&&◌, List, [], ◌∷◌, ◌++◌, length, get_or, Option, Some, None, refl, sym, ap, ◌∙◌, subst, inl, inr, arith, append_assoc, length-set}
use Rattle.std.specs.Prelude.{◌==◌, AllPairs}
use Rattle.std.specs.List.{count_by}
use Rattle.std.proofs.lemmas.Bool.{cases_eq, false≢true, eq-eqb}
use Rattle.std.proofs.lemmas.List.{get_or-set_same, get_or-set_other}
use Rattle.std.proofs.lemmas.List.Sums.{sum_by-append}
use Rattle.bay_line.specs.Lines.{LineView}
use Rattle.bay_book.specs.declared.ask.Ask.{Ask}
use Rattle.bay_book.specs.declared.ask.Mark.{Mark}
use Rattle.bay_book.specs.declared.ask.Mark.TheVariants.{None as NoLine, Due, At}
use Rattle.bay_book.specs.declared.ask.Stage.{Stage}
use Rattle.bay_book.specs.declared.ask.Stage.TheVariants.{Waits, Holds, Over}
use Rattle.bay_book.specs.Asks.{ask_at, no_ask, given, is_holding, is_over, holds_class, IsSoundAt, IsSoundAsk}
use Rattle.bay_book.specs.Books.{BookView, IsSound, give_one}
use Rattle.bay_book.specs.Moments.{common}
use Rattle.bay_log.specs.declared.line.Entry.{Entry}
use Rattle.bay_log.specs.declared.line.Line.{Line}
use Rattle.bay_log.specs.Lines.{is_none, AreLines}
use Rattle.bay_log.specs.declared.line.Line.TheVariants.{Head, Note}
use Rattle.bay_log.specs.Alive.{alive, begins}
use Rattle.bay_log.specs.Laws.{BeginsWith}
use Rattle.bay_log.specs.Logs.{adding, end_of, IsStanding}
use Rattle.bay.specs.declared.classes.Class.{Class}
use Rattle.bay.specs.Members.{Has}
use Rattle.bay.specs.Classes.{class_at, is_within}
use Rattle.bay.specs.Cores.{core, IsTied}
use Rattle.bay.specs.Written.{entry_of, is_given, IsWritten, BeginOnce}
use Rattle.bay.specs.Giving.{Kept, given_line, end_line, hold_line, how_over, GivesEnd, GivesHold, Gives, NoEndIsDue}
use Rattle.bay.specs.Safe.{AreSafe, StaySafe, HavePlaces}
use Rattle.bay.specs.Keeping.{StaysSafe, IsAsBefore, GivesOnly, GivenIsWritten}
use Rattle.bay.proofs.Members.{place_of}
use Rattle.bay.proofs.Tokens.{has_token, one_token}
use Rattle.bay.proofs.LogLines.{count_no, base_more, alive_more, stands_alive}
use Rattle.bay.proofs.GivingLines.{still_none}
use Rattle.bay.proofs.WrittenLines.{Both, once_end, once_hold}
use Rattle.bay.proofs.Stays.{begun_of, both_steps, both_hold, sound_steps, tied_steps, tied_give}

-- ---- a beginning of some lines and one more

tail_of : List Line → List Line
tail_of [] = []
tail_of (x ∷ xs) = xs

head_of : Line → List Line → Line
head_of d [] = d
head_of d (x ∷ xs) = x

same_tail : (x y : Line) (xs ys : List Line) → x ∷ xs ≡ y ∷ ys → xs ≡ ys
unfolding tail_of
same_tail x y xs ys h = ap tail_of h

same_head : (x y : Line) (xs ys : List Line) → x ∷ xs ≡ y ∷ ys → x ≡ y
unfolding head_of
same_head x y xs ys h = ap (head_of x) h

pub cancel : (a b c : List Line) → a ++ b ≡ a ++ c → b ≡ c
cancel [] b c h = h
cancel (x ∷ a) b c h = cancel a b c (same_tail x x (a ++ b) (a ++ c) h)

pub nothing_both : (a b : List Line) → [] ≡ a ++ b → a ≡ []
nothing_both [] b h = refl
nothing_both (x ∷ a) b h = let no : ⊥ = cc in absurd no

pub beginnings : (front rest lines : List Line) (line : Line) → lines ++ line ∷ [] ≡ front ++ rest → BeginsWith lines front ⊎ (front ≡ lines ++ line ∷ [])
beginnings [] rest lines line h = inl (lines, refl)
beginnings (f ∷ front) rest [] line h =
    inr (λ i. sym (same_head line f [] (front ++ rest) h) i ∷ nothing_both front rest (same_tail line f [] (front ++ rest) h) i)
beginnings (f ∷ front) rest (l ∷ lines) line h = elim (beginnings front rest lines line (same_tail l f (lines ++ line ∷ []) (front ++ rest) h)) [
  | inl b ↦ inl (b.0, (λ i. same_head l f (lines ++ line ∷ []) (front ++ rest) h i ∷ b.1 i))
  | inr is ↦ inr ((λ i. sym (same_head l f (lines ++ line ∷ []) (front ++ rest) h) i ∷ is i))
]

-- ---- who holds by the lines, once no end is owed

not_none : (a : Ask) (m : Mark) → m ≡ NoLine → is_given m ≡ true → ⊥
not_none a m e g = false≢true (sym (ap is_given e) ∙ g)

holds_at : (d : ℕ) (a : Ask) (s : Stage) → IsSoundAt d a s → is_given a.hold_line ≡ true → (is_over s ≡ true → ⊥) → s ≡ Holds
holds_at d a Waits h g o = absurd (not_none a a.hold_line h.2 g)
holds_at d a Holds h g o = refl
holds_at d a (Over how) h g o = absurd (o refl)

mark_cases : (m : Mark) → is_given m ≡ false → m ≢ NoLine → m ≡ Due
mark_cases NoLine g n = absurd (n refl)
mark_cases Due g n = refl
mark_cases (At p) g n = absurd (false≢true (sym g))

at_of : (m : Mark) → is_given m ≡ true → (p : ℕ) × (m ≡ At p)
at_of NoLine g = absurd (false≢true g)
at_of Due g = absurd (false≢true g)
at_of (At p) g = (p, refl)

entry_or : Entry → Option Entry → Entry
entry_or d None = d
entry_or d (Some e) = e

pub same_entry : (a b : Entry) → Some a ≡ Some b → a ≡ b
unfolding entry_or
same_entry a b h = ap (entry_or a) h

-- one that holds, by the book, what the lines say
pub record HoldsBy (x : BookView) (n : ℕ) (e : Entry) : Type 0 where
  pub ask : Ask
  pub has : Has x.asks ask
  pub holds : ask.stage ≡ Holds
  pub number : ask.number ≡ n
  pub entry : entry_of ask ≡ e

pub holder : (lines : List Line) (x : BookView) (n : ℕ) (e : Entry) → IsSound x → IsWritten lines x → NoEndIsDue x → alive lines n ≡ Some e → HoldsBy x n e
holder lines x n e s w none h =
    let o = w.only n e h in
    let a = o.0 in
    let p = place_of x.asks a no_ask o.1 in
    let sound : IsSoundAsk x.durable a = subst (IsSoundAsk x.durable) p.2 (s.each p.0 no_ask p.1) in
    let not_over : is_over a.stage ≡ true → ⊥ =
    λ over. none p.0 p.1 (ap (λ (b : Ask). b.end_line) p.2 ∙ mark_cases a.end_line o.3.goes_on (w.ends a o.1 over o.3.begun)) in
    let holds : a.stage ≡ Holds = holds_at x.durable a a.stage sound o.3.begun not_over in
    let at = at_of a.hold_line o.3.begun in
    let st = w.stand a at.0 o.1 at.1 o.3.goes_on in
    let there : alive lines a.number ≡ Some st.entry = stands_alive lines at.0 a.number st.entry st.stands in
    let same : st.entry ≡ e = same_entry st.entry e (sym there ∙ (ap (alive lines) o.2 ∙ h)) in
    record { ask = a; has = o.1; holds = holds; number = o.2; entry = sym (st.same holds) ∙ same }

-- ---- how many hold

abbrev one_if : Bool → ℕ
one_if b = if b then 1 else 0

count_cons : (p : Ask → Bool) (a : Ask) (asks : List Ask) → count_by p (a ∷ asks) ≡ one_if (p a) + count_by p asks
count_cons p a asks = let e = sum_by-append (λ (x : Ask). if p x then 1 else 0) (a ∷ []) asks in omega (arith, e)

one_yes : (b : Bool) → b ≡ true → one_if b ≡ 1
one_yes b h = ap one_if h

pub record Found (p : Ask → Bool) (asks : List Ask) (n : ℕ) : Type 0 where
  pub ask : Ask
  pub has : Has asks ask
  pub number : ask.number ≡ n
  pub passes : p ask ≡ true

not_first : (p : Ask → Bool) (a : Ask) (asks : List Ask) (n : ℕ) → n ≢ a.number → Found p (a ∷ asks) n → Found p asks n
not_first p a asks n ne f = elim f.has [
  | inl is ↦ absurd (ne (sym f.number ∙ ap (λ (b : Ask). b.number) (sym is)))
  | inr there ↦ record { ask = f.ask; has = there; number = f.number; passes = f.passes }
]

pub first_below : (a : Ask) (asks : List Ask) (b : Ask) → AllPairs (λ (x y : Ask). x.number < y.number) (a ∷ asks) → Has asks b → a.number < b.number
first_below a asks b rises h =
    let p = place_of asks b no_ask h in
    let r = rises zero (suc p.0) no_ask (omega arith) (omega (arith, p.1)) in
    subst (λ (c : Ask). a.number < c.number) p.2 r

pub rises_tail : (a : Ask) (asks : List Ask) → AllPairs (λ (x y : Ask). x.number < y.number) (a ∷ asks) → AllPairs (λ (x y : Ask). x.number < y.number) asks
rises_tail a asks rises = λ i k d less inside. rises (suc i) (suc k) d (omega (arith, less)) (omega (arith, inside))

up_tail : (n : ℕ) (numbers : List ℕ) → AllPairs (λ (x y : ℕ). x < y) (n ∷ numbers) → AllPairs (λ (x y : ℕ). x < y) numbers
up_tail n numbers up = λ i k d less inside. up (suc i) (suc k) d (omega (arith, less)) (omega (arith, inside))

-- ascending numbers, each of one that passes: no more than pass
pub no_more_than : (p : Ask → Bool) (asks : List Ask) (numbers : List ℕ) → AllPairs (λ (x y : Ask). x.number < y.number) asks
    → AllPairs (λ (x y : ℕ). x < y) numbers → ((i : ℕ) → i < length numbers → Found p asks (get_or numbers i 0)) → length numbers ≤ count_by p asks
no_more_than p asks [] rises up found = omega arith
no_more_than p [] (n ∷ numbers) rises up found = absurd (found zero (omega arith)).has
no_more_than p (a ∷ asks) (n ∷ numbers) rises up found =
    let f = found zero (omega arith) in
    let counts = count_cons p a asks in
    elim f.has [
      | inl is ↦
          let here : a.number ≡ n = ap (λ (b : Ask). b.number) is ∙ f.number in
          let yes : one_if (p a) ≡ 1 = one_yes (p a) (ap p is ∙ f.passes) in
          let more =
          no_more_than p asks numbers (rises_tail a asks rises) (up_tail n numbers up)
          (λ i inside.
          let above = up zero (suc i) 0 (omega arith) (omega (arith, inside)) in
          let ne : get_or numbers i 0 ≢ a.number = omega (arith, above, here) in
          not_first p a asks (get_or numbers i 0) ne (found (suc i) (omega (arith, inside)))) in
          omega (arith, counts, yes, more)
      | inr there ↦
          let low = first_below a asks f.ask rises there in
          let low_n : a.number < n = omega (arith, low, f.number) in
          let more =
          no_more_than p asks (n ∷ numbers) (rises_tail a asks rises) up
          (λ i inside. not_first p a asks (get_or (n ∷ numbers) i 0) (above_first i inside low_n) (found i inside)) in
          omega (arith, counts, more)
    ]
  where
    above_first : (i : ℕ) → i < length (n ∷ numbers) → a.number < n → get_or (n ∷ numbers) i 0 ≢ a.number
    above_first zero inside low = omega (arith, low)
    above_first (suc i) inside low = (let above = up zero (suc i) 0 (omega arith) inside in omega (arith, above, low))

-- ---- safe lines

and_yes : (a b : Bool) → a ≡ true → b ≡ true → (a && b) ≡ true
and_yes a b h g = λ i. h i && g i

pub safe_now : (classes : List Class) (line : LineView) (lines : List Line) (x : BookView) → IsSound x → IsTied classes (core line x)
    → ((n : ℕ) (e : Entry) → alive lines n ≡ Some e → HoldsBy x n e) → AreSafe classes lines
safe_now classes line lines x s t by = record {
  apart = λ n m e f he hf ne.
      let a = by n e he in let b = by m f hf in
      let r =
      t.apart a.ask b.ask (a.has, ap is_holding a.holds) (b.has, ap is_holding b.holds) (λ same. ne (sym a.number ∙ (same ∙ b.number))) in
      (λ i. common (sym (ap (λ (y : Entry). y.needs) a.entry) i) (sym (ap (λ (y : Entry). y.needs) b.entry) i)) ∙ r;
  within = λ n e he.
      let a = by n e he in
      subst (λ (y : Entry). is_within (class_at classes y.class).uses y.needs ≡ true) a.entry (t.within a.ask (a.has, ap is_holding a.holds));
  few = λ k numbers have.
      let le =
      no_more_than (holds_class k) x.asks numbers s.rises have.0
      (λ i inside.
      let place = have.1 i 0 inside in
      let a = by (get_or numbers i 0) place.0 place.1 in
      record {
        ask = a.ask;
        has = a.has;
        number = a.number;
        passes =
            and_yes (is_holding a.ask.stage) (a.ask.class == k) (ap is_holding a.holds)
            (eq-eqb a.ask.class k (ap (λ (y : Entry). y.class) a.entry ∙ place.2));
      }) in
      let room = t.few k in omega (arith, le, room);
  some = λ n e he. let a = by n e he in subst (λ (y : Entry). 1 ≤ y.token) a.entry (has_token x a.ask s a.has a.holds);
  tokens = λ n m e f he hf ne same.
      let a = by n e he in let b = by m f hf in
      let token : a.ask.token ≡ b.ask.token =
      ap (λ (y : Entry). y.token) a.entry ∙ (same ∙ ap (λ (y : Entry). y.token) (sym b.entry)) in
      ne (sym a.number ∙ (ap (λ (c : Ask). c.number) (one_token x a.ask b.ask s a.has b.has (has_token x a.ask s a.has a.holds) token) ∙ b.number));
}

-- fewer hold
pub fewer_safe : (classes : List Class) (lines more : List Line) → ((n : ℕ) (e : Entry) → alive more n ≡ Some e → alive lines n ≡ Some e)
    → AreSafe classes lines → AreSafe classes more
fewer_safe classes lines more back s = record {
  apart = λ n m e f he hf ne. s.apart n m e f (back n e he) (back m f hf) ne;
  within = λ n e he. s.within n e (back n e he);
  few = λ k numbers have. s.few k numbers (have.0, λ i d inside. let place = have.1 i d inside in (place.0, back (get_or numbers i d) place.0 place.1, place.2));
  some = λ n e he. s.some n e (back n e he);
  tokens = λ n m e f he hf ne. s.tokens n m e f (back n e he) (back m f hf) ne;
}

pub always_more : (classes : List Class) (lines : List Line) (line : Line) (durable : ℕ) → is_none lines ≡ false → StaySafe classes lines durable
    → AreSafe classes (lines ++ line ∷ []) → StaySafe classes (lines ++ line ∷ []) durable
always_more classes lines line durable begun always now = record {
  sure = always.sure;
  begins = (
    always.begins.0 ++ line ∷ [],
    ap (λ (l : List Line). l ++ line ∷ []) always.begins.1 ∙ append_assoc always.sure always.begins.0 (line ∷ []),
  );
  within = let b = base_more lines (line ∷ []) begun in omega (arith, b, always.within);
  safe = λ front b from. elim (beginnings front b.0 lines line b.1) [
    | inl was ↦ always.safe front was from
    | inr is ↦ subst (AreSafe classes) (sym is) now
  ];
}

pub append_none : (l : List Line) → l ++ [] ≡ l
append_none [] = refl
append_none (x ∷ l) = ap (λ (r : List Line). x ∷ r) (append_none l)

pub safe_all : (classes : List Class) (lines : List Line) (durable : ℕ) → StaySafe classes lines durable → AreSafe classes lines
safe_all classes lines durable always = always.safe lines ([], sym (append_none lines)) always.begins

if_same : {A : Type 0} (b : Bool) (x : A) (y : Option A) → (if b then None else y) ≡ Some x → y ≡ Some x
if_same true x y h = let no : ⊥ = cc in absurd no
if_same false x y h = h

after_end : (lines : List Line) (a : Ask) (n : ℕ) (e : Entry) → alive (lines ++ end_line a ∷ []) n ≡ Some e → alive lines n ≡ Some e
after_end lines a n e h = if_same (n == a.number) e (alive lines n) (sym (alive_more lines (end_line a) n) ∙ h)

safe_step : (classes : List Class) (line : LineView) (x y : Kept) → GivesEnd x y ⊎ GivesHold x y → Both x → IsTied classes (core line x.book)
    → StaySafe classes x.log.lines x.book.durable → StaySafe classes y.log.lines y.book.durable
safe_step classes line x y (inl g) b t safe =
    let a0 = ask_at x.book.asks g.place in
    subst (λ (z : Kept). StaySafe classes z.log.lines z.book.durable) (sym g.then)
    (always_more classes x.log.lines (end_line a0) x.book.durable b.begun safe
    (fewer_safe classes x.log.lines (x.log.lines ++ end_line a0 ∷ []) (after_end x.log.lines a0) (safe_all classes x.log.lines x.book.durable safe)))
safe_step classes line x y (inr g) b t safe =
    let a0 = ask_at x.book.asks g.place in
    let z = given_line x g.place (hold_line a0) in
    let at = end_of (adding x.log (hold_line a0)) in
    let both : Both z = both_hold x z (record { place = g.place; inside = g.inside; due = g.due; ended = g.ended; then = refl }) b in
    let ended : NoEndIsDue z.book = still_none x.book g.place at g.inside g.ended in
    let tied : IsTied classes (core line z.book) = tied_give classes line x.book g.place at b.sound g.inside t in
    subst (λ (z : Kept). StaySafe classes z.log.lines z.book.durable) (sym g.then)
    (always_more classes x.log.lines (hold_line a0) x.book.durable b.begun safe
    (safe_now classes line z.log.lines z.book both.sound tied (λ n e h. holder z.log.lines z.book n e both.sound both.written ended h)))

pub safe_steps : (classes : List Class) (line : LineView) (n : ℕ) (x y : Kept) → Gives n x y → Both x → IsTied classes (core line x.book)
    → StaySafe classes x.log.lines x.book.durable → StaySafe classes y.log.lines y.book.durable
safe_steps classes line zero x y g b t safe = subst (λ (z : Kept). StaySafe classes z.log.lines z.book.durable) (sym g) safe
safe_steps classes line (suc n) x y g b t safe =
    safe_step classes line g.0 y g.2 (both_steps n x g.0 g.1 b) (tied_steps classes line n x g.0 g.1 b.sound t)
    (safe_steps classes line n x g.0 g.1 b t safe)

once_step : (x y : Kept) → GivesEnd x y ⊎ GivesHold x y → Both x → BeginOnce x.log.lines → BeginOnce y.log.lines
once_step x y (inl g) b once =
    let a0 = ask_at x.book.asks g.place in
    subst (λ (z : Kept). BeginOnce z.log.lines) (sym g.then) (once_end x.log.lines a0.number (how_over a0.stage) a0.since once)
once_step x y (inr g) b once =
    subst (λ (z : Kept). BeginOnce z.log.lines) (sym g.then) (once_hold x.log.lines x.book g.place g.inside g.due b.written once)

once_steps : (n : ℕ) (x y : Kept) → Gives n x y → Both x → BeginOnce x.log.lines → BeginOnce y.log.lines
once_steps zero x y g b once = subst (λ (z : Kept). BeginOnce z.log.lines) (sym g) once
once_steps (suc n) x y g b once = once_step g.0 y g.2 (both_steps n x g.0 g.1 b) (once_steps n x g.0 g.1 b once)

-- ---- what lines leave as it was

only_none : (x : Kept) → GivesOnly x x
only_none x = record {
  lines = ([], sym (append_none x.log.lines));
  log_durable = refl;
  sent = refl;
  next = refl;
  granted = refl;
  durable = refl;
  many = refl;
  asks = λ j inside. refl;
}

as_before : (a b c : Ask) → IsAsBefore a b → IsAsBefore b c → IsAsBefore a c
as_before a b c h g = h ∙ ap (λ (d : Ask). record d { hold_line = a.hold_line; end_line = a.end_line }) g

one_given : (x : BookView) (place at j : ℕ) → place < length x.asks → IsAsBefore (ask_at (give_one x place at).asks j) (ask_at x.asks j)
one_given x place at j inside = elim (cases_eq j place) [
  | inl same ↦
      let v : Ask = given at (ask_at x.asks place) in
      let here : ask_at (give_one x place at).asks j ≡ v = ap (ask_at (give_one x place at).asks) same ∙ get_or-set_same x.asks place v no_ask inside in
      subst (λ (a : Ask). IsAsBefore a (ask_at x.asks j)) (sym here) (subst (λ k. IsAsBefore v (ask_at x.asks k)) (sym same) refl)
  | inr other ↦
      let there = get_or-set_other x.asks place j (given at (ask_at x.asks place)) no_ask other in
      subst (λ (a : Ask). IsAsBefore a (ask_at x.asks j)) (sym there) refl
]

only_line : (x y : Kept) (place : ℕ) (line : Line) → place < length y.book.asks → GivesOnly x y → GivesOnly x (given_line y place line)
only_line x y place line inside o =
    let at = end_of (adding y.log line) in
    record {
      lines = (
        o.lines.0 ++ line ∷ [],
        ap (λ (l : List Line). l ++ line ∷ []) o.lines.1 ∙ append_assoc x.log.lines o.lines.0 (line ∷ []),
      );
      log_durable = o.log_durable;
      sent = o.sent;
      next = o.next;
      granted = o.granted;
      durable = o.durable;
      many = length-set y.book.asks place (given at (ask_at y.book.asks place)) ∙ o.many;
      asks = λ j within.
          as_before (ask_at (give_one y.book place at).asks j) (ask_at y.book.asks j) (ask_at x.book.asks j) (one_given y.book place at j inside) (o.asks j within);
    }

only_step : (x y z : Kept) → GivesEnd y z ⊎ GivesHold y z → GivesOnly x y → GivesOnly x z
only_step x y z (inl g) o = subst (GivesOnly x) (sym g.then) (only_line x y g.place (end_line (ask_at y.book.asks g.place)) g.inside o)
only_step x y z (inr g) o = subst (GivesOnly x) (sym g.then) (only_line x y g.place (hold_line (ask_at y.book.asks g.place)) g.inside o)

only_steps : (n : ℕ) (x y : Kept) → Gives n x y → GivesOnly x y
only_steps zero x y g = subst (GivesOnly x) (sym g) (only_none x)
only_steps (suc n) x y g = only_step x g.0 y g.2 (only_steps n x g.0 g.1)

-- ---- a bay that begins, and notes

none_alive : (bay : List ℕ) (base next granted n : ℕ) (e : Entry) → alive (Head bay base next granted ∷ []) n ≡ Some e → ⊥
none_alive bay base next granted n e h = cc

safe_none : (classes : List Class) (lines : List Line) → ((n : ℕ) (e : Entry) → alive lines n ≡ Some e → ⊥) → AreSafe classes lines
safe_none classes lines none = record {
  apart = λ n m e f he hf ne. absurd (none n e he);
  within = λ n e he. absurd (none n e he);
  few = few_none;
  some = λ n e he. absurd (none n e he);
  tokens = λ n m e f he hf ne. absurd (none n e he);
}
  where
    few_none : (k : ℕ) (numbers : List ℕ) → HavePlaces lines k numbers → length numbers ≤ (class_at classes k).places
    few_none k [] have = omega arith
    few_none k (n ∷ numbers) have = (let place = have.1 zero 0 (omega arith) in absurd (none n place.0 place.1))

some_of_one : (head : Line) (front rest : List Line) → head ∷ [] ≡ front ++ rest → (front ≡ []) ⊎ (front ≡ head ∷ [])
some_of_one head [] rest h = inl refl
some_of_one head (f ∷ front) rest h = elim (beginnings (f ∷ front) rest [] head h) [
  | inl b ↦ absurd (not_empty f front b.0 b.1)
  | inr is ↦ inr is
]
  where
    not_empty : (f : Line) (front rest : List Line) → [] ≡ (f ∷ front) ++ rest → ⊥
    not_empty f front rest h = cc

safe_fresh : (classes : List Class) (bay : List ℕ) (base next granted durable : ℕ) → base ≤ durable → StaySafe classes (Head bay base next granted ∷ []) durable
safe_fresh classes bay base next granted durable le = record {
  sure = [];
  begins = (Head bay base next granted ∷ [], refl);
  within = omega (arith, le);
  safe = λ front b from. elim (some_of_one (Head bay base next granted) front b.0 b.1) [
    | inl none ↦ subst (AreSafe classes) (sym none) (safe_none classes [] (λ n e h. nobody_alive n e h))
    | inr all ↦ subst (AreSafe classes) (sym all) (safe_none classes (Head bay base next granted ∷ []) (none_alive bay base next granted))
  ];
}
  where
    nobody_alive : (n : ℕ) (e : Entry) → alive [] n ≡ Some e → ⊥
    nobody_alive n e h = cc

safe_note : (classes : List Class) (lines : List Line) (ask : ℕ) (text : List ℕ) (durable : ℕ) → AreLines (lines ++ Note ask text ∷ [])
    → StaySafe classes lines durable → StaySafe classes (lines ++ Note ask text ∷ []) durable
safe_note classes lines ask text durable are safe =
    always_more classes lines (Note ask text) durable (begun_of lines (Note ask text) refl are) safe
    (fewer_safe classes lines (lines ++ Note ask text ∷ []) (λ n e h. sym (alive_more lines (Note ask text) n) ∙ h) (safe_all classes lines durable safe))

pub stays_safe : StaysSafe
stays_safe = record {
  once_begins = λ bay base next granted n. omega arith;
  once_note = λ lines ask text once n. subst (λ k. k ≤ 1) (sym (count_no (begins n) lines (Note ask text) refl)) (once n);
  safe_begins = safe_fresh;
  safe_note = safe_note;
  safe_later = λ classes lines durable later le safe.
      record { sure = safe.sure; begins = safe.begins; within = (let w = safe.within in omega (arith, w, le)); safe = safe.safe };
}

-- ---- the law

both_of : (x : Kept) → IsStanding x.log → IsSound x.book → IsWritten x.log.lines x.book → Both x
both_of x st s w = record { begun = st.begun; sound = s; written = w }

pub given_is_written : GivenIsWritten
given_is_written = record {
  only = λ x y g. only_steps g.0 x y g.1;
  sound = λ x y s g. sound_steps g.0 x y g.1 s;
  written = λ x y st s w g. (both_steps g.0 x y g.1 (both_of x st s w)).written;
  tied = λ classes line x y s t g. tied_steps classes line g.0 x y g.1 s t;
  safe = λ classes line x y st s w t safe g. safe_steps classes line g.0 x y g.1 (both_of x st s w) t safe;
  once = λ x y st s w once g. once_steps g.0 x y g.1 (both_of x st s w) once;
}
