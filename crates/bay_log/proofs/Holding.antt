-- Who holds at a cut.
use Rattle.std.proofs.Common.{◌≡◌, ℕ, ◌≤◌, Bool, true, false, if◌then◌else◌, List, [], ◌∷◌, ◌++◌, refl, sym, ap, ◌∙◌, arith, Option, Some, None}
use Rattle.std.specs.Prelude.{◌==◌, ◌||◌, cond, count_by}
use Rattle.std.specs.List.{list_any}
use Rattle.std.proofs.lemmas.List.Sums.{sum_by-cons, sum_by-append}
use Rattle.bay_log.specs.declared.line.Entry.{Entry}
use Rattle.bay_log.specs.declared.line.Line.{Line}
use Rattle.bay_log.specs.declared.line.Line.TheVariants.{Head, Hold, Back, End, Note}
use Rattle.bay_log.specs.Alive.{after, alive_from, alive, begins}
use Rattle.bay_log.specs.Laws.{HoldsAtTheCut}

pub alive_both : (held : ℕ → Option Entry) (a b : List Line) → alive_from held (a ++ b) ≡ alive_from (alive_from held a) b
alive_both held [] b = refl
alive_both held (x ∷ a) b = alive_both (after held x) a b

neither : (a b : Bool) → (a || b) ≡ false → (a ≡ false) × (b ≡ false)
neither true b e = cc e
neither false b e = (refl, e)

chosen : (t : Bool) (x y : Option Entry) (entry : Entry) → t ≡ false → (if t then x else y) ≡ Some entry → y ≡ Some entry
chosen true x y entry e h = cc e
chosen false x y entry e h = h

kept : (t : Bool) (y : Option Entry) (entry : Entry) → (if t then None else y) ≡ Some entry → y ≡ Some entry
kept true y entry h = cc h
kept false y entry h = h

-- whoever holds after a line that doesn't begin it held before it
before_line : (held : ℕ → Option Entry) (line : Line) (n : ℕ) (entry : Entry) → begins n line ≡ false → after held line n ≡ Some entry
    → held n ≡ Some entry
before_line held (Head bay base next granted) n entry none h = h
before_line held (Hold ask e) n entry none h = chosen (n == ask) (Some e) (held n) entry none h
before_line held (Back from to) n entry none h =
    kept (n == from) (held n) entry (chosen (n == to) (held from) (if n == from then None else held n) entry none h)
before_line held (End ask how at) n entry none h = kept (n == ask) (held n) entry h
before_line held (Note ask text) n entry none h = h

before_lines : (held : ℕ → Option Entry) (lines : List Line) (n : ℕ) (entry : Entry) → list_any (begins n) lines ≡ false
    → alive_from held lines n ≡ Some entry → held n ≡ Some entry
before_lines held [] n entry none h = h
before_lines held (line ∷ lines) n entry none h =
    let parts = neither (begins n line) (list_any (begins n) lines) none in
    before_line held line n entry parts.0 (before_lines (after held line) lines n entry parts.1 h)

abbrev one : ℕ → Line → ℕ
one n line = cond (begins n line) 1 0

abbrev counts : Bool → ℕ
counts b = cond b 1 0

counted : {b t : Bool} → b ≡ t → counts b ≡ counts t
counted e = ap counts e

some_count : (n : ℕ) (lines : List Line) → list_any (begins n) lines ≡ true → 1 ≤ count_by (begins n) lines
some_count n [] h = cc h
some_count n (line ∷ lines) h = at (begins n line) refl h (some_count n lines)
  where
    at : (t : Bool) → begins n line ≡ t → (t || list_any (begins n) lines) ≡ true
        → (list_any (begins n) lines ≡ true → 1 ≤ count_by (begins n) lines) → 1 ≤ count_by (begins n) (line ∷ lines)
    at true e here more = omega (arith, sum_by-cons (one n) line lines, counted e)
    at false e here more = omega (arith, sum_by-cons (one n) line lines, more here)

holds_behind : (n : ℕ) (entry : Entry) (front back : List Line) → alive (front ++ back) n ≡ Some entry → list_any (begins n) back ≡ false
    → alive front n ≡ Some entry
holds_behind n entry front back h none =
    let held : ℕ → Option Entry = λ m. None in
    before_lines (alive front) back n entry none (sym (ap (λ (f : ℕ → Option Entry). f n) (alive_both held front back)) ∙ h)

pub holds_once : (n : ℕ) (entry : Entry) (front back : List Line) → alive (front ++ back) n ≡ Some entry → count_by (begins n) (front ++ back) ≤ 1
    → list_any (begins n) front ≡ true → alive front n ≡ Some entry
holds_once n entry front back h few some = at (list_any (begins n) back) refl
  where
    at : (t : Bool) → list_any (begins n) back ≡ t → alive front n ≡ Some entry
    at false none = holds_behind n entry front back h none
    at true more = absurd (omega (arith, sum_by-append (one n) front back, some_count n front some, some_count n back more, few))

pub holds : HoldsAtTheCut
holds = record { behind = holds_behind; once = holds_once }
