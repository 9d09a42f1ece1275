-- Why no bay comes back.
use Rattle.std.proofs.Common.{◌≡◌, ◌⊎◌, ℕ, ◌+◌, ◌<◌, Bool, true, false, ◌&&◌, ◌||◌, nat_le, nat_eq, if◌then◌else◌, List, [], ◌∷◌, ◌++◌, length, length-append, get_or, Some, Result, Ok, Err, IfErr, refl, sym, ap, ◌∙◌, subst, inl, inr, arith}
use Rattle.std.specs.Prelude.{All, AllPairs}
use Rattle.std.specs.Result.{IsErrAnd}
use Rattle.std.specs.List.{count_by}
use Rattle.std.proofs.lemmas.Bool.{false≢true, cases_Bool, leb-true}
use Rattle.std.proofs.lemmas.List.Sums.{sum_by-cons}
use Rattle.std.proofs.lemmas.List.Kept.{AllPairs-cons}
use Rattle.std.proofs.lemmas.List.Quantifiers.{all_pairs_push}
use Rattle.bay_book.specs.declared.ask.Ask.{Ask}
use Rattle.bay_book.specs.Asks.{ask_at, no_ask, is_holding, is_waiting, holds_class}
use Rattle.bay_book.specs.Finding.{IsInUse}
use Rattle.bay_book.specs.Moments.{common}
use Rattle.bay_book.specs.Books.{BookView, IsSound}
use Rattle.bay_book.specs.Restoring.{is_against, MayNotBeRestored}
use Rattle.bay_log.specs.declared.alive.Holder.{Holder}
use Rattle.bay_log.specs.declared.line.Line as line
use Rattle.bay_log.specs.declared.reading.Found.{Found}
use Rattle.bay_log.specs.Lines.{is_none}
use Rattle.bay_log.specs.Logs.{HasNoPlace}
use Rattle.bay_log.specs.Reads.{IsRead}
use Rattle.bay_log.specs.Alive.{alive}
use Rattle.bay_log.specs.Holders.{AreHolders}
use Rattle.bay.specs.declared.classes.Class.{Class}
use Rattle.bay.specs.declared.restoring.NotBack.{NotBack}
use Rattle.bay.specs.declared.restoring.NotBack.TheVariants.{NoMemory, NoPlace, Line, Another, Classes, MayNot}
use Rattle.bay.specs.Members.{Has}
use Rattle.bay.specs.Classes.{class_at}
use Rattle.bay.specs.Cores.{IsFreeClass}
use Rattle.bay.specs.Pages.{entry_of}
use Rattle.bay.specs.Restoring.{holder_at, AreLow, IsNextTo, AreRestored, IsOf}
use Rattle.bay.specs.Safe.{HasPlace}
use Rattle.bay.specs.Refusals.{IsUsed, IsOldToken, MayNotHold, IsWhyNotOne, AnotherHolds, TooManyHold, HasNoTokenOfItsOwn, HoldsAndMayNot, IsWhyNotRestored, IsWhyNotBack}
use Rattle.bay.proofs.Members.{has_at, append_cases, append_second, cases_lt}
use Rattle.bay.proofs.SafeLines.{first_below, rises_tail}
use Rattle.bay.proofs.Restored.{holder_entry, test_is}

pub used_by : (asks : List Ask) (used needs : ℕ) → IsInUse asks used → common needs used ≡ true → IsUsed asks needs
used_by asks used needs u h = let j = u.why needs h in (ask_at asks j.0, has_at asks j.0 no_ask j.1.inside, j.1.holds, j.1.has)

either_true : (a b : Bool) → (a || b) ≡ true → (a ≡ true) ⊎ (b ≡ true)
either_true true b h = inl refl
either_true false b h = inr h

-- whoever speaks against one whose number is larger, and doesn't wait, has its token
has_its_token : (number token : ℕ) (a : Ask) → a.number < number → is_waiting a ≡ false → is_against number token a ≡ true → a.token ≡ token
has_its_token number token a low not h = elim (either_true (nat_le number a.number || is_waiting a) (nat_eq a.token token) h) [
  | inl first ↦ elim (either_true (nat_le number a.number) (is_waiting a) first) [
    | inl no_less ↦ (let le = leb-true number a.number no_less in absurd (omega (arith, le, low)))
    | inr waits ↦ absurd (false≢true (sym not ∙ waits))
  ]
  | inr same ↦ test_is a.token token same
]

-- where nobody waits, and all have smaller numbers, one that may not be restored has the last of all numbers, or no token of its own
pub may_not_hold : (classes : List Class) (asks : List Ask) (h : Holder) → AreLow h.ask asks → All (λ (a : Ask). is_waiting a ≡ false) asks
    → MayNotBeRestored asks h.ask h.entry.token → (h.ask ≡ 18446744073709551615) ⊎ MayNotHold classes asks h
may_not_hold classes asks h low none (inl last) = inl last
may_not_hold classes asks h low none (inr (inl no_token)) = inr (inr (inr (inr (inr (inl no_token)))))
may_not_hold classes asks h low none (inr (inr (j, inside, against))) =
    let a = ask_at asks j in let has = has_at asks j no_ask inside in
    inr (inr (inr (inr (inr (inr (a, has, has_its_token h.ask h.entry.token a (low a has) (none j no_ask inside) against))))))

-- ---- the numbers of those that hold places of a class

record OfClass (k : ℕ) (asks : List Ask) : Type 0 where
  numbers : List ℕ
  up : AllPairs (λ (a b : ℕ). a < b) numbers
  each : (n : ℕ) → Has numbers n → (a : Ask) × Has asks a × (a.number ≡ n) × (holds_class k a ≡ true)
  many : length numbers ≡ count_by (holds_class k) asks

abbrev one_if : Bool → ℕ
one_if b = if b then 1 else 0

one_more : (b : Bool) (n m c : ℕ) → m ≡ one_if b + n → b ≡ true → c ≡ n → c + 1 ≡ m
one_more b n m c is h same = let one : one_if b ≡ 1 = ap one_if h in omega (arith, is, one, same)

none_more : (b : Bool) (n m c : ℕ) → m ≡ one_if b + n → b ≡ false → c ≡ n → c ≡ m
none_more b n m c is h same = let one : one_if b ≡ 0 = ap one_if h in omega (arith, is, one, same)

of_class : (k : ℕ) (asks : List Ask) → AllPairs (λ (x y : Ask). x.number < y.number) asks → OfClass k asks
of_class k [] rises = record { numbers = []; up = λ i j d less inside. absurd (omega (arith, inside)); each = λ n h. absurd h; many = refl }
of_class k (a ∷ asks) rises =
    let more = of_class k asks (rises_tail a asks rises) in
    let count = sum_by-cons (λ (x : Ask). if holds_class k x then 1 else 0) a asks in
    elim (cases_Bool (holds_class k a)) [
      | inl is ↦ record {
        numbers = a.number ∷ more.numbers;
        up = AllPairs-cons (λ (x y : ℕ). x < y) a.number more.numbers
            (λ i d inside.
            let m = more.each (get_or more.numbers i d) (has_at more.numbers i d inside) in
            subst (λ n. a.number < n) m.2 (first_below a asks m.0 rises m.1))
            more.up;
        each = λ n h. elim h [
          | inl here ↦ (a, inl refl, here, is)
          | inr there ↦ (let m = more.each n there in (m.0, inr m.1, m.2, m.3))
        ];
        many = let same = one_more (holds_class k a) _ _ (length more.numbers) count is more.many in omega (arith, same);
      }
      | inr not ↦ record {
        numbers = more.numbers;
        up = more.up;
        each = λ n h. let m = more.each n h in (m.0, inr m.1, m.2, m.3);
        many = none_more (holds_class k a) _ _ (length more.numbers) count not more.many;
      }
    ]

-- ---- by the lines

and_true : (a b : Bool) → (a && b) ≡ true → b ≡ true
and_true true b h = h
and_true false b h = absurd (false≢true h)

one_of : (n m : ℕ) → Has (n ∷ []) m → n ≡ m
one_of n m (inl is) = is
one_of n m (inr h) = absurd h

too_many : (classes : List Class) (lines : List line.Line) (moment position : ℕ) (book : BookView) (h : Holder) → IsSound book
    → AreRestored lines moment position book → AreLow h.ask book.asks → alive lines h.ask ≡ Some h.entry → (IsFreeClass classes book.asks h.entry.class → ⊥)
    → TooManyHold classes lines h.ask h.entry
too_many classes lines moment position book h s r below holds full =
    let k = h.entry.class in let n = h.ask in
    let o = of_class k book.asks s.rises in
    let numbers = o.numbers ++ n ∷ [] in
    let each : (m : ℕ) → Has numbers m → HasPlace lines k m = λ m g. elim (append_cases o.numbers (n ∷ []) m g) [
      | inl was ↦
          let a = o.each m was in (
            entry_of a.0,
            subst (λ j. alive lines j ≡ Some (entry_of a.0)) a.2 (r.1 a.0 a.1).by_log,
            test_is a.0.class k (and_true (is_holding a.0.stage) (nat_eq a.0.class k) a.3),
          )
      | inr last ↦ subst (HasPlace lines k) (one_of n m last) (h.entry, holds, refl)
    ] in
    let rises = all_pairs_push (λ (x y : ℕ). x < y) o.numbers n o.up
    (λ i d inside. let a = o.each (get_or o.numbers i d) (has_at o.numbers i d inside) in subst (λ j. j < n) a.2 (below a.0 a.1)) in
    let long : length numbers ≡ length o.numbers + 1 = length-append o.numbers (n ∷ []) in
    let many = o.many in
    let some : (class_at classes k).places < length numbers = elim (cases_lt (count_by (holds_class k) book.asks) (class_at classes k).places) [
      | inl free ↦ absurd (full free)
      | inr more ↦ omega (arith, more, long, many)
    ] in
    (numbers, (rises, λ i d inside. each (get_or numbers i d) (has_at numbers i d inside)), append_second o.numbers (n ∷ []) n (inl refl), some)

another : (lines : List line.Line) (moment position : ℕ) (book : BookView) (h : Holder) → AreRestored lines moment position book
    → AreLow h.ask book.asks → IsUsed book.asks h.entry.needs → AnotherHolds lines h.ask h.entry
another lines moment position book h r below u =
    let b = u.0 in
    let low = below b u.1 in
    (b.number, entry_of b, (r.1 b u.1).by_log, omega (arith, low), u.3)

not_its_own : (lines : List line.Line) (moment position : ℕ) (book : BookView) (h : Holder) → AreRestored lines moment position book
    → AreLow h.ask book.asks → IsOldToken book.asks h.entry.token → HasNoTokenOfItsOwn lines h.ask h.entry
not_its_own lines moment position book h r below (inl none) = inl none
not_its_own lines moment position book h r below (inr u) =
    let b = u.0 in let low = below b u.1 in inr (b.number, entry_of b, (r.1 b u.1).by_log, omega (arith, low), sym u.2)

pub why_lines : (classes : List Class) (lines : List line.Line) (moment position from : ℕ) (holders : List Holder) (book : BookView) (place : ℕ)
    (why : NotBack) → AreHolders holders (alive lines) → IsSound book → AreRestored lines moment position book → AreLow from book.asks
    → IsNextTo from holders (length holders) (Some place) → IsWhyNotOne classes book.asks (holder_at holders place) why → IsWhyNotRestored classes lines why
why_lines classes lines moment position from holders book place NoMemory are s r low next w = tt
why_lines classes lines moment position from holders book place NoPlace are s r low next w = absurd w
why_lines classes lines moment position from holders book place (Line n) are s r low next w = absurd w
why_lines classes lines moment position from holders book place Another are s r low next w = absurd w
why_lines classes lines moment position from holders book place Classes are s r low next w = absurd w
why_lines classes lines moment position from holders book place (MayNot n) are s r low next w =
    let h = holder_at holders place in
    let below : AreLow h.ask book.asks = λ a g. let less = low a g in let above = next.1 in omega (arith, less, above) in
    let holds : alive lines h.ask ≡ Some h.entry = sym (are.each h.ask) ∙ holder_entry holders place are.apart next.0 in
    subst (HoldsAndMayNot classes lines) (sym w.0) (
      h.entry,
      holds,
      elim w.1 [
        | inl last ↦ inl last
        | inr may ↦ elim may [
          | inl none ↦ inr (inl none)
          | inr b ↦ elim b [
            | inl wide ↦ inr (inr (inl wide))
            | inr d ↦ elim d [
              | inl used ↦ inr (inr (inr (inl (another lines moment position book h r below used))))
              | inr f ↦ elim f [
                | inl full ↦ inr (inr (inr (inr (inl (too_many classes lines moment position book h s r below holds full)))))
                | inr old ↦ inr (inr (inr (inr (inr (not_its_own lines moment position book h r below old)))))
              ]
            ]
          ]
        ]
      ],
    )

-- ---- of a file

has_a_line : (head : List ℕ) (lines : List line.Line) → IsOf head lines → is_none lines ≡ true → ⊥
has_a_line head [] of none = of
has_a_line head (l ∷ lines) of none = false≢true none

pub why_no_place : (head bytes : List ℕ) (classes : List Class) (found : Found) → IsRead bytes found → IsOf head found.lines.items → HasNoPlace found
    → IsWhyNotBack classes head bytes NoPlace
why_no_place head bytes classes found read of (inl none) = absurd (has_a_line head found.lines.items of none)
why_no_place head bytes classes found read of (inr far) = (found, read, of, far)

pub why_room : (head bytes : List ℕ) (classes : List Class) (found : Found) (why : NotBack) → IsRead bytes found → IsOf head found.lines.items
    → IsWhyNotRestored classes found.lines.items why → IsWhyNotBack classes head bytes why
why_room head bytes classes found NoMemory read of w = tt
why_room head bytes classes found NoPlace read of w = absurd w
why_room head bytes classes found (Line n) read of w = absurd w
why_room head bytes classes found Another read of w = absurd w
why_room head bytes classes found Classes read of w = w
why_room head bytes classes found (MayNot n) read of w = (found, read, of, w)

-- what is handed on is why
pub handed_on : {T : Type 0} (P : NotBack → Type 0) (r : Result T NotBack) (why : NotBack) → IsErrAnd r (λ e. e ≡ why) → P why → IfErr r P
handed_on P (Ok x) why is p = tt
handed_on P (Err e) why is p = subst P (sym is) p
