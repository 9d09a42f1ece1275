-- Told is kept.
use Rattle.std.proofs.Common.{◌≡◌, ◌≢◌, ◌⊎◌, ℕ, zero, suc, ◌+◌, ◌<◌, ◌≤◌, Bool, true, false, if◌then◌else◌, List, [], ◌∷◌, ◌++◌, length, Option, Some, None, refl, sym, ap, ◌∙◌, subst, inl, inr, arith, append_assoc}
use Rattle.std.specs.Prelude.{◌==◌, ◌||◌}
use Rattle.std.specs.List.{list_any, count_by}
use Rattle.std.proofs.lemmas.Bool.{false≢true, leb-true}
use Rattle.std.proofs.lemmas.List.Folds.{list_any-append}
use Rattle.std.proofs.lemmas.List.Sums.{sum_by-append}
use Rattle.bay_book.specs.declared.ask.Ask.{Ask}
use Rattle.bay_book.specs.declared.ask.Heard.TheVariants.{Holds as HeardHolds}
use Rattle.bay_book.specs.declared.ask.Mark.{Mark}
use Rattle.bay_book.specs.declared.ask.Mark.TheVariants.{None as NoLine, Due, At}
use Rattle.bay_book.specs.declared.ask.Stage.TheVariants.{Holds}
use Rattle.bay_book.specs.Asks.{no_ask, is_written, IsSoundAt, IsSoundAsk}
use Rattle.bay_book.specs.Books.{BookView, IsSound}
use Rattle.bay_log.specs.declared.line.Entry.{Entry}
use Rattle.bay_log.specs.declared.line.Line.{Line}
use Rattle.bay_log.specs.declared.line.Line.TheVariants.{Head, Hold, Back, End, Note}
use Rattle.bay_log.specs.declared.reading.Found.{Found}
use Rattle.bay_log.specs.Lines.{log_text, base_of, AreLines}
use Rattle.bay_log.specs.Alive.{after, alive, alive_from, begins}
use Rattle.bay_log.specs.Laws.{BeginsWith}
use Rattle.bay_log.proofs.Cuts.{cut}
use Rattle.bay.specs.Members.{Has}
use Rattle.bay.specs.Written.{entry_of, is_given, touches, Stands, IsWritten}
use Rattle.bay.specs.Keeping.{IsCut, ToldIsKept}
use Rattle.bay.proofs.Members.{place_of}
use Rattle.bay.proofs.LogLines.{none_begins, still_alive, left_no, left_yes, right_yes}
use Rattle.bay.proofs.SafeLines.{cancel}

-- ---- what is durable is read

-- the ask stands in the lines that are read, if its line is within the file
pub still_stands : (lines : List Line) (at n : ℕ) (e : Entry) (found : Found) (file back : List ℕ) → BeginsWith lines found.lines.items
    → ((some : List Line) → BeginsWith lines some → length (log_text some) ≤ length file → BeginsWith found.lines.items some)
    → at ≤ base_of lines + length file → Stands lines at n e → alive found.lines.items n ≡ Some e
still_stands lines at n e found file back first whole far s =
    let early = s.early in
    let b = whole early (s.later, s.split) (let w = s.within in omega (arith, w, far)) in
    let split : early ++ s.later ≡ early ++ (b.0 ++ first.0) =
    sym s.split ∙ (first.1 ∙ (ap (λ (l : List Line). l ++ first.0) b.1 ∙ append_assoc early b.0 first.0)) in
    let rest : s.later ≡ b.0 ++ first.0 = cancel early s.later (b.0 ++ first.0) split in
    let no : list_any (touches n) b.0 ≡ false =
    left_no (list_any (touches n) b.0) (list_any (touches n) first.0)
    (sym (list_any-append (touches n) b.0 first.0) ∙ (ap (list_any (touches n)) (sym rest) ∙ s.still)) in
    ap (λ (l : List Line). alive l n) b.1 ∙ (still_alive early b.0 n no ∙ s.holds)

mark_at : (m : Mark) (durable : ℕ) → m ≢ NoLine → is_written durable m ≡ true → (p : ℕ) × (m ≡ At p) × (p ≤ durable)
mark_at NoLine durable n w = absurd (n refl)
mark_at Due durable n w = absurd (false≢true w)
mark_at (At p) durable n w = (p, refl, leb-true p durable w)

pub told_at : (lines : List Line) (x : BookView) (found : Found) → AreLines lines → IsSound x → IsWritten lines x → IsCut lines x found
    → (a : Ask) → Has x.asks a → a.stage ≡ Holds → a.heard ≡ HeardHolds → alive found.lines.items a.number ≡ Some (entry_of a)
told_at lines x found are s w c a has holds heard =
    let p = place_of x.asks a no_ask has in
    let sound : IsSoundAt x.durable a Holds = subst (IsSoundAt x.durable a) holds (subst (IsSoundAsk x.durable) p.2 (s.each p.0 no_ask p.1)) in
    let m = mark_at a.hold_line x.durable (w.kept a has holds) (sound.1 heard) in
    let st = w.stand a m.0 has m.1 (ap is_given sound.2) in
    let far = c.durable in let le = m.2 in
    still_stands lines m.0 a.number st.entry found c.file c.back (cut.first lines c.file c.back found are c.text c.read)
    (cut.whole lines c.file c.back found are c.text c.read) (omega (arith, far, le)) st.stands
    ∙ ap (λ (e : Entry). Some e) (st.same holds)

-- ---- whoever holds began

if_none : {A : Type 0} (b : Bool) (x : A) (y : Option A) → (if b then None else y) ≡ Some x → y ≡ Some x
if_none true x y h = let no : ⊥ = cc in absurd no
if_none false x y h = h

if_some : {A : Type 0} (b : Bool) (x : A) (u y : Option A) → (if b then u else y) ≡ Some x → (b ≡ true) ⊎ (y ≡ Some x)
if_some true x u y h = inl refl
if_some false x u y h = inr h

began_line : (held : ℕ → Option Entry) (line : Line) (n : ℕ) (e : Entry) → after held line n ≡ Some e → (held n ≡ Some e) ⊎ (begins n line ≡ true)
began_line held (Head bay base next granted) n e h = inl h
began_line held (Hold ask entry) n e h = elim (if_some (n == ask) e (Some entry) (held n) h) [ inl so ↦ inr so | inr was ↦ inl was ]
began_line held (Back from to) n e h = elim (if_some (n == to) e (held from) (if n == from then None else held n) h) [
  | inl so ↦ inr so
  | inr was ↦ inl (if_none (n == from) e (held n) was)
]
began_line held (End ask how at) n e h = inl (if_none (n == ask) e (held n) h)
began_line held (Note ask text) n e h = inl h

began_from : (held : ℕ → Option Entry) (lines : List Line) (n : ℕ) (e : Entry) → alive_from held lines n ≡ Some e
    → (held n ≡ Some e) ⊎ (list_any (begins n) lines ≡ true)
began_from held [] n e h = inl h
began_from held (line ∷ lines) n e h = elim (began_from (after held line) lines n e h) [
  | inl now ↦ elim (began_line held line n e now) [
    | inl was ↦ inl was
    | inr so ↦ inr (left_yes (begins n line) (list_any (begins n) lines) so)
  ]
  | inr later ↦ inr (right_yes (begins n line) (list_any (begins n) lines) later)
]

pub began : (lines : List Line) (n : ℕ) (e : Entry) → alive lines n ≡ Some e → list_any (begins n) lines ≡ true
began lines n e h = elim (began_from (λ m. None) lines n e h) [ inl was ↦ (let no : ⊥ = cc in absurd no) | inr so ↦ so ]

abbrev one_if : Bool → ℕ
one_if b = if b then 1 else 0

count_cons : (p : Line → Bool) (a : Line) (lines : List Line) → count_by p (a ∷ lines) ≡ one_if (p a) + count_by p lines
count_cons p a lines = let e = sum_by-append (λ (x : Line). if p x then 1 else 0) (a ∷ []) lines in omega (arith, e)

one_more : (b : Bool) (n m : ℕ) → m ≡ one_if b + n → (b ≡ true) ⊎ (1 ≤ n) → 1 ≤ m
one_more b n m is (inl h) = let one : one_if b ≡ 1 = ap one_if h in omega (arith, is, one)
one_more b n m is (inr h) = omega (arith, is, h)

either : (a b : Bool) → (a || b) ≡ true → (a ≡ true) ⊎ (b ≡ true)
either true b h = inl refl
either false b h = inr h

pub some_counted : (p : Line → Bool) (lines : List Line) → list_any p lines ≡ true → 1 ≤ count_by p lines
some_counted p [] h = absurd (false≢true h)
some_counted p (a ∷ lines) h =
    one_more (p a) (count_by p lines) (count_by p (a ∷ lines)) (count_cons p a lines)
    (elim (either (p a) (list_any p lines) h) [ inl so ↦ inl so | inr more ↦ inr (some_counted p lines more) ])

count_both : (p : Line → Bool) (a b : List Line) → count_by p (a ++ b) ≡ count_by p a + count_by p b
count_both p a b = sum_by-append (λ (x : Line). if p x then 1 else 0) a b

pub lt_or : (n m : ℕ) → (n < m) ⊎ (m ≤ n)
lt_or zero zero = inr (omega arith)
lt_or zero (suc m) = inl (omega arith)
lt_or (suc n) zero = inr (omega arith)
lt_or (suc n) (suc m) = elim (lt_or n m) [ inl h ↦ inl (omega (arith, h)) | inr h ↦ inr (omega (arith, h)) ]

-- whoever holds by a beginning of a bay's lines has a number that was given
pub below_next : (lines front : List Line) (x : BookView) → IsWritten lines x → BeginsWith lines front → (n : ℕ) (e : Entry) → alive front n ≡ Some e
    → n < x.next
below_next lines front x w b n e h = elim (lt_or n x.next) [
  | inl less ↦ less
  | inr more ↦
      let none = none_begins lines n x.next w.below more in
      let some = some_counted (begins n) front (began front n e h) in
      let all : count_by (begins n) lines ≡ count_by (begins n) front + count_by (begins n) b.0 =
      ap (count_by (begins n)) b.1 ∙ count_both (begins n) front b.0 in
      absurd (omega (arith, none, some, all))
]

-- ---- the law

pub told_is_kept : ToldIsKept
told_is_kept = record {
  told = told_at;
  began = began;
  below =
      λ lines x found are w c n e h. below_next lines found.lines.items x w (cut.first lines c.file c.back found are c.text c.read) n e h;
}
