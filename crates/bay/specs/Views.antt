-- For readers: a room as contracts see it, and what is true of every room.
use Rattle.std.specs.Prelude.{◌≡◌, ℕ, ◌≤◌, max, Bool, List, length, Option}
use Rattle.bay_line.specs.Lines.{LineView}
use Rattle.bay_book.specs.Books.{BookView}
use Rattle.bay.specs.declared.classes.Class.{Class}
use Rattle.bay.specs.declared.telling.Told.{Told}
use Rattle.bay.specs.declared.terms.Terms.{Terms}
use Rattle.bay.specs.Cores.{Core, core, IsTied}
use Rattle.bay.specs.Following.{Follows}

-- its classes and terms; who waits; who asked; what time it is; whether it has stopped; what is being told; and how much was told before
pub record RoomView : Type 0 where
  pub classes : List Class
  pub terms : Terms
  pub line : LineView
  pub book : BookView
  pub moment : ℕ
  pub stopped : Bool
  pub telling : Option Told
  pub serial : ℕ

abbrev pub core_of : RoomView → Core
core_of x = core x.line x.book

-- there are at most 32 classes, and line and book are tied
pub record IsRoom (x : RoomView) : Type 0 where
  pub few : length x.classes ≤ 32
  pub tied : IsTied x.classes (core_of x)

-- the same room with this line and this book, at this moment
abbrev pub with_core : RoomView → ℕ → Core → RoomView
with_core x moment y = record {
  classes = x.classes;
  terms = x.terms;
  line = y.line;
  book = y.book;
  moment = moment;
  stopped = x.stopped;
  telling = x.telling;
  serial = x.serial;
}

-- It is this moment, unless it was later before. From this line and this book on all follows, and the rest stays the same
pub record GoesOn (now : ℕ) (mid : Core) (old new : RoomView) : Type 0 where
  pub moment_is : new.moment ≡ max old.moment now
  pub follows : Follows old.classes old.terms new.moment mid (core_of new)
  pub same : new ≡ with_core old new.moment (core_of new)
