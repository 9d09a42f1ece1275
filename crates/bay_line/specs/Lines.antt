-- For readers: the line as contracts see it, and what its calls do to it.
use Rattle.std.specs.Prelude.{◌≡◌, ℕ, ◌+◌, ◌<◌, ◌≤◌, List, [], ◌∷◌, ◌++◌, map, length, Option, Some, None, true, false}
use Rattle.bay_line.specs.declared.wish.Wish.{Wish}
use Rattle.bay_line.specs.declared.line.NotInLine.{NotInLine}
use Rattle.bay_line.specs.declared.line.NotInLine.TheVariants.{Full, NoMemory}
use Rattle.bay_line.specs.declared.going_in.Seated.{Seated}
use Rattle.bay_line.specs.Wishes.{wish_at, is_late, passed_most}
use Rattle.bay_line.specs.Turns.{IsFirst, HasReason, IsFreeClass, others, pass_all, after}

-- the wishes in the order of asking; for how many there is room; and how often one is passed by at most
pub record LineView : Type 0 where
  pub wishes : List Wish
  pub limit : ℕ
  pub most : ℕ

-- none has a lower number than this
abbrev pub Above : ℕ → List Wish → Type 0
Above ask [] = Unit {0}
Above ask (w ∷ wishes) = (ask ≤ w.ask) × Above ask wishes

-- each has a lower number than this
abbrev pub Below : ℕ → List Wish → Type 0
Below ask [] = Unit {0}
Below ask (w ∷ wishes) = (w.ask < ask) × Below ask wishes

-- asks stand in the order of their numbers
abbrev pub Rises : List Wish → Type 0
Rises [] = Unit {0}
Rises (w ∷ wishes) = Above w.ask wishes × Rises wishes

-- none was passed by more often than this
abbrev pub Seldom : ℕ → List Wish → Type 0
Seldom most [] = Unit {0}
Seldom most (w ∷ wishes) = (w.passed ≤ most) × Seldom most wishes

-- none of these that wants the same, on places of the same classes, counts more
abbrev pub NotMore : Wish → List Wish → Type 0
NotMore w [] = Unit {0}
NotMore w (v ∷ wishes) = (v.needs ≡ w.needs → v.classes ≡ w.classes → v.passed ≤ w.passed) × NotMore w wishes

-- of those that want the same, on places of the same classes, whoever came first counts no less
abbrev pub IsFair : List Wish → Type 0
IsFair [] = Unit {0}
IsFair (w ∷ wishes) = NotMore w wishes × IsFair wishes

-- What is true of every line: asks stand in the order of their numbers, none was passed by more often than may be, of those that want the same whoever came
-- first was passed by no less often, and there are no more wishes than there is room for
pub record IsInOrder (x : LineView) : Type 0 where
  pub rises : Rises x.wishes
  pub seldom : Seldom x.most x.wishes
  pub fair : IsFair x.wishes
  pub few : length x.wishes ≤ x.limit

abbrev pub nobody : ℕ → ℕ → LineView
nobody limit most = record { wishes = []; limit = limit; most = most }

abbrev pub with_wishes : LineView → List Wish → LineView
with_wishes x wishes = record { wishes = wishes; limit = x.limit; most = x.most }

-- the wishes of one that asks
abbrev pub wishes_of : ℕ → List ℕ → ℕ → Option ℕ → List Wish
wishes_of ask sets classes deadline = map (λ needs. record { ask = ask; needs = needs; classes = classes; deadline = deadline; passed = 0 }) sets

-- it stands behind all others
abbrev pub asking : LineView → ℕ → List ℕ → ℕ → Option ℕ → LineView
asking x ask sets classes deadline = with_wishes x (x.wishes ++ wishes_of ask sets classes deadline)

-- why it isn't in line: there is no room for so many wishes; or there is, and no memory
abbrev pub IsWhyNot : LineView → List ℕ → NotInLine → Type 0
IsWhyNot x sets Full = x.limit < length x.wishes + length sets
IsWhyNot x sets NoMemory = length x.wishes + length sets ≤ x.limit

-- it isn't in line, and all others stand as they stood
abbrev pub leaving : LineView → ℕ → LineView
leaving x ask = with_wishes x (others ask x.wishes)

-- each that stands in line counts as passed by as often as may be: so nobody that comes later goes before it
abbrev pub kept_in_order : LineView → LineView
kept_in_order x = with_wishes x (map (passed_most x.most) x.wishes)

-- an ask in line whose time is over; or no ask's is
abbrev pub IsLate : ℕ → List Wish → Option ℕ → Type 0
IsLate now wishes (Some ask) = (k : ℕ) × (k < length wishes) × ((wish_at wishes k).ask ≡ ask) × (is_late now (wish_at wishes k) ≡ true)
IsLate now wishes None = (k : ℕ) → k < length wishes → is_late now (wish_at wishes k) ≡ false

-- it isn't in line any more
abbrev pub TakesLate : ℕ → LineView → Option ℕ → LineView → Type 0
TakesLate now old (Some ask) new = IsLate now old.wishes (Some ask) × (new ≡ leaving old ask)
TakesLate now old None new = IsLate now old.wishes None × (new ≡ old)

-- the first that may go in, and the class of a place that is free
pub record IsNext (most in_use free : ℕ) (wishes : List Wish) (place : ℕ) (s : Seated) : Type 0 where
  pub first : IsFirst most in_use free wishes (Some place)
  pub ask : s.ask ≡ (wish_at wishes place).ask
  pub needs : s.needs ≡ (wish_at wishes place).needs
  pub class : IsFreeClass free (wish_at wishes place) s.class
  pub deadline : s.deadline ≡ (wish_at wishes place).deadline

-- or nobody is, and each that waits has a reason
abbrev pub IsChosen : ℕ → ℕ → ℕ → List Wish → Option (ℕ × Seated) → Type 0
IsChosen most in_use free wishes (Some c) = IsNext most in_use free wishes c.0 c.1
IsChosen most in_use free wishes None = (k : ℕ) → k < length wishes → HasReason most in_use free wishes k

-- it is let in
pub record GoesIn (most in_use free : ℕ) (old : List Wish) (s : Seated) (new : List Wish) : Type 0 where
  pub place : ℕ
  pub next : IsNext most in_use free old place s
  pub then : new ≡ after most free place old

-- or nobody is, and each that waits has a reason
abbrev pub GoIn : ℕ → ℕ → ℕ → List Wish → Option Seated → List Wish → Type 0
GoIn most in_use free old (Some s) new = GoesIn most in_use free old s new
GoIn most in_use free old None new = ((k : ℕ) → k < length old → HasReason most in_use free old k) × (new ≡ old)

-- the one that was next isn't in line any more, and all others are passed by, as far as they are
abbrev pub gone : LineView → Seated → ℕ → LineView
gone x s free = with_wishes x (others s.ask (pass_all x.most free s.needs x.wishes))

-- so it is with the line, and the rest stays the same
pub record LetsIn (in_use free : ℕ) (old : LineView) (s : Option Seated) (new : LineView) : Type 0 where
  pub goes : GoIn old.most in_use free old.wishes s new.wishes
  pub same : new ≡ with_wishes old new.wishes

-- to see who is next, and to let it go in, is to let it in
abbrev pub NextIsLetIn : Type 0
NextIsLetIn =
    (in_use free : ℕ) (x : LineView) (place : ℕ) (s : Seated) → IsNext x.most in_use free x.wishes place s → LetsIn in_use free x (Some s) (gone x s free)
