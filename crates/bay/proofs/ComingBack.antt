-- A bay comes back from its own lines.
use Rattle.std.proofs.Common.{◌≡◌, ℕ, zero, suc, ◌+◌, ◌<◌, ◌≤◌, List, [], ◌∷◌, ◌++◌, length, length-append, take, get_or, Some, refl, sym, ap, ◌∙◌, subst, inl, inr, arith}
use Rattle.std.proofs.lemmas.Bool.{false≢true}
use Rattle.std.proofs.lemmas.List.{length-take}
use Rattle.bay_log.specs.declared.line.Entry.{Entry}
use Rattle.bay_log.specs.declared.line.Line as line
use Rattle.bay_log.specs.declared.line.Line.TheVariants.{Head, Hold as HoldLine, Back, End as EndLine, Note}
use Rattle.bay_log.specs.Lines.{base_of, log_text}
use Rattle.bay_log.specs.Alive.{alive}
use Rattle.bay_log.specs.Laws.{BeginsWith, CutLinesAreRead}
use Rattle.bay.specs.declared.classes.Class.{Class}
use Rattle.bay.specs.declared.restoring.NotBack.{NotBack}
use Rattle.bay.specs.declared.restoring.NotBack.TheVariants.{NoMemory, NoPlace, Line, Another, Classes, MayNot}
use Rattle.bay.specs.Classes.{class_at}
use Rattle.bay.specs.Restoring.{IsOf}
use Rattle.bay.specs.Safe.{AreSafe, HasPlace, HavePlaces}
use Rattle.bay.specs.Refusals.{HoldsAndMayNot, IsWhyNotBack}
use Rattle.bay.specs.Bays.{BayView, IsKept, IsWhole, ComesBack}
use Rattle.bay_log.specs.Logs.{LogView}
use Rattle.bay.specs.Members.{Has}
use Rattle.bay.proofs.Members.{append_first}
use Rattle.bay.proofs.Whole.{stays_whole}
use Rattle.bay.proofs.ToldKept.{below_next}

-- ---- the head

of_more : (head : List ℕ) (front rest : List line.Line) → IsOf head front → IsOf head (front ++ rest)
of_more head [] rest h = absurd h
of_more head (Head bay base next granted ∷ front) rest h = h
of_more head (HoldLine ask entry ∷ front) rest h = absurd h
of_more head (Back from to ∷ front) rest h = absurd h
of_more head (EndLine ask how at ∷ front) rest h = absurd h
of_more head (Note ask text ∷ front) rest h = absurd h

base_same : (head : List ℕ) (front rest : List line.Line) → IsOf head front → base_of (front ++ rest) ≡ base_of front
base_same head [] rest h = absurd h
base_same head (Head bay base next granted ∷ front) rest h = refl
base_same head (HoldLine ask entry ∷ front) rest h = absurd h
base_same head (Back from to ∷ front) rest h = absurd h
base_same head (EndLine ask how at ∷ front) rest h = absurd h
base_same head (Note ask text ∷ front) rest h = absurd h

-- ---- by safe lines everybody may hold

no_places : (classes : List Class) (k : ℕ) → length classes ≤ k → (class_at classes k).places ≡ 0
no_places [] k h = refl
no_places (c ∷ classes) zero h = absurd (omega (arith, h))
no_places (c ∷ classes) (suc k) h = no_places classes k (omega (arith, h))

one_place : (lines : List line.Line) (k n : ℕ) → HasPlace lines k n → HavePlaces lines k (n ∷ [])
one_place lines k n h = (λ i j d less inside. absurd (omega (arith, less, inside)), at)
  where
    at : (i : ℕ) (d : ℕ) → i < 1 → HasPlace lines k (get_or (n ∷ []) i d)
    at zero d inside = h
    at (suc i) d inside = absurd (omega (arith, inside))

may_hold : (classes : List Class) (lines : List line.Line) (n : ℕ) → AreSafe classes lines
    → ((e : Entry) → alive lines n ≡ Some e → n < 18446744073709551615) → HoldsAndMayNot classes lines n → ⊥
may_hold classes lines n safe less h =
    let e = h.0 in
    elim h.2 [
      | inl last ↦ (let low = less e h.1 in omega (arith, low, last))
      | inr a ↦ elim a [
        | inl none ↦
            (let few = safe.few e.class (n ∷ []) (one_place lines e.class n (e, h.1, refl)) in let zero_ = no_places classes e.class none in
            omega (arith, few, zero_))
        | inr b ↦ elim b [
          | inl wide ↦ false≢true (sym wide ∙ safe.within n e h.1)
          | inr d ↦ elim d [
            | inl other ↦ false≢true (sym (safe.apart n other.0 e other.1 h.1 other.2 other.3) ∙ other.4)
            | inr f ↦ elim f [
              | inl many ↦ (let few = safe.few e.class many.0 many.1 in let more = many.3 in omega (arith, few, more))
              | inr g ↦ elim g [
                | inl none ↦ (let some = safe.some n e h.1 in omega (arith, some, none))
                | inr other ↦ safe.tokens n other.0 e other.1 h.1 other.2 other.3 other.4
              ]
            ]
          ]
        ]
      ]
    ]

-- ---- the law

refused : (x : BayView) → IsKept x → CutLinesAreRead → x.room.book.next ≤ 18446744073709551615 → IsWhole x → (head file lost : List ℕ)
    (front : List line.Line) → log_text x.log.lines ≡ file ++ lost → x.room.book.durable ≤ base_of x.log.lines + length file
    → BeginsWith x.log.lines front → IsOf head front → base_of x.log.lines + length (log_text front) ≤ x.room.book.durable → (why : NotBack)
    → IsWhyNotBack x.room.classes head file why → why ≡ NoMemory
refused x k cut next whole_bay head file lost front is enough begins of short NoMemory w = refl
refused x k cut next whole_bay head file lost front is enough begins of short NoPlace w =
    let found = w.0 in let read = w.1 in let lines = x.log.lines in
    let first = cut.first lines file lost found k.standing.lines is read in
    let base : base_of lines ≡ base_of found.lines.items = ap base_of first.1 ∙ base_same head found.lines.items first.0 w.2 in
    let used = read.sound.used in let room = k.standing.room in
    let some : length (take found.used file) ≡ length (log_text found.lines.items) = ap length read.whole in
    let all : length (log_text lines) ≡ length file + length lost = ap length is ∙ length-append file lost in
    let far = w.3 in
    absurd (let part = length-take found.used file in omega (arith, base, used, room, some, all, far, part))
refused x k cut next whole_bay head file lost front is enough begins of short (Line n) w =
    absurd (cut.fault x.log.lines file lost n k.standing.lines is w)
refused x k cut next whole_bay head file lost front is enough begins of short Another w =
    let found = w.0 in
    let whole = cut.whole x.log.lines file lost found k.standing.lines is w.1 front begins (omega (arith, enough, short)) in
    absurd (w.2 (subst (IsOf head) (sym whole.1) (of_more head front whole.0 of)))
refused x k cut next whole_bay head file lost front is enough begins of short Classes w = let few = k.room.room.few in absurd (omega (arith, few, w))
refused x k cut next whole_bay head file lost front is enough begins of short (MayNot n) w =
    let found = w.0 in let lines = x.log.lines in
    let first = cut.first lines file lost found k.standing.lines is w.1 in
    let within = whole_bay.safe.within in
    let sure = cut.whole lines file lost found k.standing.lines is w.1 whole_bay.safe.sure whole_bay.safe.begins (omega (arith, enough, within)) in
    absurd (may_hold x.room.classes found.lines.items n (whole_bay.safe.safe found.lines.items first sure)
    (λ e h. let low = below_next lines found.lines.items x.room.book whole_bay.written first n e h in omega (arith, low, next)) w.3)

pub comes_back : (x : BayView) → IsKept x → CutLinesAreRead → x.room.book.next ≤ 18446744073709551615 → ComesBack x
comes_back x k cut next = record {
  refused = refused x k cut next;
  again = λ w classes terms limit most head file lost now used y is enough r ky.
      let first = cut.first x.log.lines file lost r.found k.standing.lines is r.read in
      let same : r.found.lines.items ≡ y.log.lines = ap (λ (l : LogView). l.lines) (sym r.log) in
      stays_whole.back classes terms limit most head file now used y ky r
      (λ l h.
      let there = append_first r.found.lines.items first.0 l (subst (λ (ls : List line.Line). Has ls l) (sym same) h) in
      let below = w.written.below l (subst (λ (ls : List line.Line). Has ls l) (sym first.1) there) in
      omega (arith, below, next));
}
