-- Lines that are given one after another.
use Rattle.std.proofs.Common.{◌≡◌, ℕ, zero, suc, ◌+◌, ◌<◌, ◌≤◌, true, false, length, refl, sym, ap, ◌∙◌, subst, inl, inr, arith, length-set}
use Rattle.std.proofs.lemmas.Bool.{cases_eq, false≢true}
use Rattle.std.proofs.lemmas.List.{get_or-set_same, get_or-set_other}
use Rattle.bay_book.specs.declared.ask.Ask.{Ask}
use Rattle.bay_book.specs.declared.ask.Mark.{Mark}
use Rattle.bay_book.specs.declared.ask.Mark.TheVariants.{None as NoLine, Due, At}
use Rattle.bay_book.specs.Asks.{ask_at, no_ask, given, given_mark, is_owed}
use Rattle.bay_book.specs.Books.{BookView, give_one}
use Rattle.bay_log.specs.Logs.{adding, end_of}
use Rattle.bay.specs.Giving.{Kept, given_line, end_line, hold_line, Gives, GivesLines, NoEndIsDue}

-- ---- marks

pub owed_due : (m : Mark) → is_owed m ≡ true → m ≡ Due
owed_due NoLine h = absurd (false≢true h)
owed_due Due h = refl
owed_due (At p) h = absurd (false≢true h)

pub isnt_due : (m : Mark) → is_owed m ≡ false → m ≡ Due → ⊥
isnt_due m h e = false≢true (sym h ∙ ap is_owed e)

pub given_isnt_due : (at : ℕ) (m : Mark) → given_mark at m ≡ Due → ⊥
given_isnt_due at NoLine e = let no : ⊥ = cc in no
given_isnt_due at Due e = let no : ⊥ = cc in no
given_isnt_due at (At p) e = let no : ⊥ = cc in no

-- ---- the first n asks owe no line of a kind

abbrev pub NoneTo : (Ask → Mark) → BookView → ℕ → Type 0
NoneTo mark x n = (j : ℕ) → j < length x.asks → j < n → mark (ask_at x.asks j) ≡ Due → ⊥

abbrev pub ends : Ask → Mark
ends a = a.end_line

abbrev pub holds : Ask → Mark
holds a = a.hold_line

-- one more owes none
pub one_more : (mark : Ask → Mark) (x : BookView) (n m : ℕ) → m ≡ n + 1 → NoneTo mark x n → is_owed (mark (ask_at x.asks n)) ≡ false → NoneTo mark x m
one_more mark x n m is none owes j inside less due = elim (cases_eq j n) [
  | inl same ↦ isnt_due (mark (ask_at x.asks n)) owes (ap (λ k. mark (ask_at x.asks k)) (sym same) ∙ due)
  | inr other ↦ none j inside (omega (arith, less, is, other)) due
]

-- one is given its line: of both kinds it owes none then, and the others are as they were
pub after_give : (mark : Ask → Mark) → ((a : Ask) (at : ℕ) → mark (given at a) ≡ Due → ⊥) → (x : BookView) (place at j : ℕ) → place < length x.asks
    → mark (ask_at (give_one x place at).asks j) ≡ Due → (j ≡ place → ⊥) × (mark (ask_at x.asks j) ≡ Due)
after_give mark never x place at j inside due = elim (cases_eq j place) [
  | inl same ↦
      let here : ask_at (give_one x place at).asks j ≡ given at (ask_at x.asks place) =
      ap (ask_at (give_one x place at).asks) same ∙ get_or-set_same x.asks place (given at (ask_at x.asks place)) no_ask inside in
      absurd (never (ask_at x.asks place) at (ap mark (sym here) ∙ due))
  | inr other ↦ (
    other,
    ap mark (sym (get_or-set_other x.asks place j (given at (ask_at x.asks place)) no_ask other)) ∙ due,
  )
]

pub no_end_given : (a : Ask) (at : ℕ) → ends (given at a) ≡ Due → ⊥
no_end_given a at e = given_isnt_due at a.end_line e

pub no_hold_given : (a : Ask) (at : ℕ) → holds (given at a) ≡ Due → ⊥
no_hold_given a at e = given_isnt_due at a.hold_line e

pub more_given : (mark : Ask → Mark) → ((a : Ask) (at : ℕ) → mark (given at a) ≡ Due → ⊥) → (x : BookView) (at n m : ℕ) → n < length x.asks → m ≡ n + 1
    → NoneTo mark x n → NoneTo mark (give_one x n at) m
more_given mark never x at n m inside is none j within less due =
    let r = after_give mark never x n at j inside due in
    none j (omega (arith, within, length-set x.asks n (given at (ask_at x.asks n)))) (let other = r.0 in omega (arith, less, is, other)) r.1

pub still_none : (x : BookView) (place at : ℕ) → place < length x.asks → NoEndIsDue x → NoEndIsDue (give_one x place at)
still_none x place at inside none j within due =
    let r = after_give ends no_end_given x place at j inside due in
    none j (omega (arith, within, length-set x.asks place (given at (ask_at x.asks place)))) r.1

pub all_none : (mark : Ask → Mark) (x : BookView) (n : ℕ) → length x.asks ≤ n → NoneTo mark x n → (j : ℕ) → j < length x.asks → mark (ask_at x.asks j) ≡ Due → ⊥
all_none mark x n le none j inside due = none j inside (omega (arith, inside, le)) due

-- ---- lines

pub no_lines : (x : Kept) → GivesLines x x
no_lines x = (zero, refl)

pub gives_end : (old mid new : Kept) (place : ℕ) → GivesLines old mid → place < length mid.book.asks → is_owed (ask_at mid.book.asks place).end_line ≡ true
    → new ≡ given_line mid place (end_line (ask_at mid.book.asks place)) → GivesLines old new
gives_end old mid new place g inside due is =
    (suc g.0, (mid, g.1, inl (record { place = place; inside = inside; due = owed_due (ask_at mid.book.asks place).end_line due; then = is })))

pub gives_hold : (old mid new : Kept) (place : ℕ) → GivesLines old mid → NoEndIsDue mid.book → place < length mid.book.asks
    → is_owed (ask_at mid.book.asks place).hold_line ≡ true → new ≡ given_line mid place (hold_line (ask_at mid.book.asks place)) → GivesLines old new
gives_hold old mid new place g ended inside due is = (
  suc g.0,
  (mid, g.1, inr (record { place = place; inside = inside; due = owed_due (ask_at mid.book.asks place).hold_line due; ended = ended; then = is })),
)

gives_both : (n m : ℕ) (old mid new : Kept) → Gives n old mid → Gives m mid new → GivesLines old new
gives_both n zero old mid new a b = (n, subst (Gives n old) (sym b) a)
gives_both n (suc m) old mid new a b = let r = gives_both n m old mid b.0 a b.1 in (suc r.0, (b.0, r.1, b.2))

pub gives_more : (old mid new : Kept) → GivesLines old mid → GivesLines mid new → GivesLines old new
gives_more old mid new a b = gives_both a.0 b.0 old mid new a.1 b.1

-- ---- the loops

-- what is so after some lines: the first n asks owe none
pub record Far (mark : Ask → Mark) (old : Kept) (n : ℕ) (new : Kept) : Type 0 where
  pub gives : GivesLines old new
  pub long : length new.book.asks ≡ length old.book.asks
  pub none : NoneTo mark new.book n

pub far_end : (old mid new : Kept) (n m : ℕ) → m ≡ n + 1 → n < length old.book.asks → is_owed (ask_at mid.book.asks n).end_line ≡ true
    → new ≡ given_line mid n (end_line (ask_at mid.book.asks n)) → Far ends old n mid → Far ends old m new
far_end old mid new n m next inside due is f =
    let line = end_line (ask_at mid.book.asks n) in
    let here : n < length mid.book.asks = omega (arith, inside, f.long) in
    subst (Far ends old m) (sym is)
    (record {
      gives = gives_end old mid (given_line mid n line) n f.gives here due refl;
      long = length-set mid.book.asks n (given (end_of (adding mid.log line)) (ask_at mid.book.asks n)) ∙ f.long;
      none = more_given ends no_end_given mid.book (end_of (adding mid.log line)) n m here next f.none;
    })

pub far_hold : (old mid new : Kept) (n m : ℕ) → m ≡ n + 1 → n < length old.book.asks → is_owed (ask_at mid.book.asks n).hold_line ≡ true
    → NoEndIsDue mid.book → new ≡ given_line mid n (hold_line (ask_at mid.book.asks n)) → Far holds old n mid → Far holds old m new × NoEndIsDue new.book
far_hold old mid new n m next inside due ended is f =
    let line = hold_line (ask_at mid.book.asks n) in
    let here : n < length mid.book.asks = omega (arith, inside, f.long) in
    subst (λ (x : Kept). Far holds old m x × NoEndIsDue x.book) (sym is) (
      record {
        gives = gives_hold old mid (given_line mid n line) n f.gives ended here due refl;
        long = length-set mid.book.asks n (given (end_of (adding mid.log line)) (ask_at mid.book.asks n)) ∙ f.long;
        none = more_given holds no_hold_given mid.book (end_of (adding mid.log line)) n m here next f.none;
      },
      still_none mid.book n (end_of (adding mid.log line)) here ended,
    )

pub far_same : (mark : Ask → Mark) (old mid new : Kept) (n m : ℕ) → m ≡ n + 1 → is_owed (mark (ask_at mid.book.asks n)) ≡ false → new ≡ mid
    → Far mark old n mid → Far mark old m new
far_same mark old mid new n m next owes is f =
    subst (Far mark old m) (sym is) (record { gives = f.gives; long = f.long; none = one_more mark mid.book n m next f.none owes })
