-- Who holds by some lines, and by one line more.
use Rattle.std.proofs.Common.{◌≡◌, ◌≢◌, ℕ, ◌+◌, ◌≤◌, Bool, true, false, if◌then◌else◌, List, [], ◌∷◌, ◌++◌, length, Option, Some, None, refl, sym, ap, ◌∙◌, subst, inl, inr, arith, append_assoc}
use Rattle.std.specs.Prelude.{◌||◌, ◌==◌}
use Rattle.std.specs.List.{list_any, count_by}
use Rattle.std.proofs.lemmas.Bool.{ne_eqb, eq-eqb, false≢true}
use Rattle.std.proofs.lemmas.List.Folds.{list_any-append}
use Rattle.std.proofs.lemmas.List.Sums.{sum_by-append}
use Rattle.bay_log.specs.declared.line.Entry.{Entry}
use Rattle.bay_log.specs.declared.line.Line.{Line}
use Rattle.bay_log.specs.declared.line.Line.TheVariants.{Head, Hold, Back, End, Note}
use Rattle.bay_log.specs.Lines.{log_text, base_of, is_none}
use Rattle.bay_log.specs.Alive.{after, alive, alive_from, begins}
use Rattle.bay.specs.Written.{touches, bound_of, Stands}
use Rattle.bay.specs.Members.{Has}
use Rattle.bay.proofs.Members.{append_cases}

-- ---- tests

if_yes : {A : Type 0} (b : Bool) (x y : A) → b ≡ true → (if b then x else y) ≡ x
if_yes true x y h = refl
if_yes false x y h = absurd (false≢true h)

if_no : {A : Type 0} (b : Bool) (x y : A) → b ≡ false → (if b then x else y) ≡ y
if_no true x y h = absurd (false≢true (sym h))
if_no false x y h = refl

pub left_no : (a b : Bool) → (a || b) ≡ false → a ≡ false
left_no true b h = h
left_no false b h = refl

pub right_no : (a b : Bool) → (a || b) ≡ false → b ≡ false
right_no true b h = absurd (false≢true (sym h))
right_no false b h = h

pub left_yes : (a b : Bool) → a ≡ true → (a || b) ≡ true
left_yes true b h = refl
left_yes false b h = absurd (false≢true h)

pub right_yes : (a b : Bool) → b ≡ true → (a || b) ≡ true
right_yes true b h = refl
right_yes false b h = h

-- ---- some lines, and some more

pub alive_both : (held : ℕ → Option Entry) (a b : List Line) → alive_from held (a ++ b) ≡ alive_from (alive_from held a) b
alive_both held [] b = refl
alive_both held (line ∷ a) b = alive_both (after held line) a b

pub alive_more : (lines : List Line) (line : Line) (n : ℕ) → alive (lines ++ line ∷ []) n ≡ after (alive lines) line n
alive_more lines line n = ap (λ (f : ℕ → Option Entry). f n) (alive_both (λ m. None) lines (line ∷ []))

pub untouched : (held : ℕ → Option Entry) (line : Line) (n : ℕ) → touches n line ≡ false → after held line n ≡ held n
untouched held (Head bay base next granted) n h = refl
untouched held (Hold ask entry) n h = if_no (n == ask) (Some entry) (held n) h
untouched held (Back from to) n h =
    if_no (n == to) (held from) (if n == from then None else held n) (right_no (n == from) (n == to) h)
    ∙ if_no (n == from) None (held n) (left_no (n == from) (n == to) h)
untouched held (End ask how at) n h = if_no (n == ask) None (held n) h
untouched held (Note ask text) n h = refl

pub all_untouched : (held : ℕ → Option Entry) (lines : List Line) (n : ℕ) → list_any (touches n) lines ≡ false → alive_from held lines n ≡ held n
all_untouched held [] n h = refl
all_untouched held (line ∷ lines) n h =
    all_untouched (after held line) lines n (right_no (touches n line) (list_any (touches n) lines) h)
    ∙ untouched held line n (left_no (touches n line) (list_any (touches n) lines) h)

-- lines that don't touch the ask leave it as it was
pub still_alive : (early later : List Line) (n : ℕ) → list_any (touches n) later ≡ false → alive (early ++ later) n ≡ alive early n
still_alive early later n h =
    ap (λ (f : ℕ → Option Entry). f n) (alive_both (λ m. None) early later) ∙ all_untouched (alive early) later n h

-- ---- counts

-- one of the line, if it passes the test
one_of : (p : Line → Bool) → Line → ℕ
one_of p line = if p line then 1 else 0

count_more : (p : Line → Bool) (lines : List Line) (line : Line) → count_by p (lines ++ line ∷ []) ≡ count_by p lines + one_of p line
unfolding one_of
count_more p lines line =
    let e = sum_by-append (λ (x : Line). if p x then 1 else 0) lines (line ∷ []) in
    omega (arith, e)

one_no : (p : Line → Bool) (line : Line) → p line ≡ false → one_of p line ≡ 0
unfolding one_of
one_no p line h = if_no (p line) 1 0 h

one_yes : (p : Line → Bool) (line : Line) → p line ≡ true → one_of p line ≡ 1
unfolding one_of
one_yes p line h = if_yes (p line) 1 0 h

pub count_no : (p : Line → Bool) (lines : List Line) (line : Line) → p line ≡ false → count_by p (lines ++ line ∷ []) ≡ count_by p lines
count_no p lines line h = let e = count_more p lines line in let z = one_no p line h in omega (arith, e, z)

pub count_yes : (p : Line → Bool) (lines : List Line) (line : Line) → p line ≡ true → count_by p (lines ++ line ∷ []) ≡ count_by p lines + 1
count_yes p lines line h = let e = count_more p lines line in let z = one_yes p line h in omega (arith, e, z)

-- ---- one who stands in the lines

pub base_more : (a b : List Line) → is_none a ≡ false → base_of (a ++ b) ≡ base_of a
base_more [] b h = absurd (false≢true (sym h))
base_more (Head bay base next granted ∷ a) b h = refl
base_more (Hold ask entry ∷ a) b h = refl
base_more (Back from to ∷ a) b h = refl
base_more (End ask how at ∷ a) b h = refl
base_more (Note ask text ∷ a) b h = refl

pub stands_alive : (lines : List Line) (at n : ℕ) (e : Entry) → Stands lines at n e → alive lines n ≡ Some e
stands_alive lines at n e s = ap (λ (l : List Line). alive l n) s.split ∙ (still_alive s.early s.later n s.still ∙ s.holds)

pub stands_more : (lines : List Line) (line : Line) (at n : ℕ) (e : Entry) → is_none lines ≡ false → touches n line ≡ false → Stands lines at n e
    → Stands (lines ++ line ∷ []) at n e
stands_more lines line at n e begun apart s = record {
  early = s.early;
  later = s.later ++ line ∷ [];
  split = ap (λ (l : List Line). l ++ line ∷ []) s.split ∙ append_assoc s.early s.later (line ∷ []);
  within = let b = base_more lines (line ∷ []) begun in omega (arith, b, s.within);
  holds = s.holds;
  still =
      list_any-append (touches n) s.later (line ∷ [])
      ∙ ((λ i. s.still i || (apart i || false)));
}

append_none : (l : List Line) → l ++ [] ≡ l
append_none [] = refl
append_none (x ∷ l) = ap (λ (r : List Line). x ∷ r) (append_none l)

pub stands_now : (lines : List Line) (at n : ℕ) (e : Entry) → base_of lines + length (log_text lines) ≤ at → alive lines n ≡ Some e → Stands lines at n e
stands_now lines at n e within holds =
    record { early = lines; later = []; split = sym (append_none lines); within = within; holds = holds; still = refl }

-- ---- the lines of a bay

pub other_number : (n m : ℕ) → n ≢ m → (n == m) ≡ false
other_number n m h = ne_eqb n m h

pub hold_here : (held : ℕ → Option Entry) (n m : ℕ) (e : Entry) → n ≡ m → after held (Hold m e) n ≡ Some e
hold_here held n m e h = if_yes (n == m) (Some e) (held n) (eq-eqb n m h)

-- ---- numbers that were never given

begun_below : (line : Line) (n next : ℕ) → bound_of line ≤ next → next ≤ n → begins n line ≡ false
begun_below (Head bay base next' granted) n next le above = refl
begun_below (Hold ask entry) n next le above = ne_eqb n ask (omega (arith, le, above))
begun_below (Back from to) n next le above = ne_eqb n to (omega (arith, le, above))
begun_below (End ask how at) n next le above = refl
begun_below (Note ask text) n next le above = refl

count_first : (p : Line → Bool) (a : Line) (lines : List Line) → count_by p (a ∷ lines) ≡ one_of p a + count_by p lines
unfolding one_of
count_first p a lines = let e = sum_by-append (λ (x : Line). if p x then 1 else 0) (a ∷ []) lines in omega (arith, e)

pub none_begins : (lines : List Line) (n next : ℕ) → ((line : Line) → Has lines line → bound_of line ≤ next) → next ≤ n → count_by (begins n) lines ≡ 0
none_begins [] n next below above = refl
none_begins (a ∷ lines) n next below above =
    let e = count_first (begins n) a lines in
    let z = one_no (begins n) a (begun_below a n next (below a (inl refl)) above) in
    let more = none_begins lines n next (λ line h. below line (inr h)) above in
    omega (arith, e, z, more)

-- one line more, with its numbers below the next
pub below_more : (lines : List Line) (line : Line) (next : ℕ) → ((l : Line) → Has lines l → bound_of l ≤ next) → bound_of line ≤ next
    → (l : Line) → Has (lines ++ line ∷ []) l → bound_of l ≤ next
below_more lines line next below here l h = elim (append_cases lines (line ∷ []) l h) [
  | inl was ↦ below l was
  | inr last ↦ elim last [ inl is ↦ subst (λ (x : Line). bound_of x ≤ next) is here | inr none ↦ absurd none ]
]
