-- Somebody asks.
use Rattle.std.proofs.Common.{◌≡◌, ◌≢◌, ℕ, ◌<◌, ◌≤◌, Bool, true, false, ◌||◌, not, nat_eq, nat_lt, nat_le, if◌then◌else◌, List, [], ◌∷◌, ◌++◌, length, get_or, Option, Some, None, refl, sym, ap, ◌∙◌, subst, inl, inr, arith, rules}
use Rattle.std.specs.List.{list_any}
use Rattle.std.proofs.lemmas.Bool.{eq-eqb, ne_eqb, false≢true}
use Rattle.std.proofs.lemmas.List.Sums.{sum_by_push}
use Rattle.bay_line.specs.declared.wish.Wish.{Wish}
use Rattle.bay_line.specs.Turns.{others}
use Rattle.bay_line.specs.Lines.{LineView, Below, wishes_of, asking, leaving}
use Rattle.bay_book.specs.declared.ask.Ask.{Ask}
use Rattle.bay_book.specs.Asks.{asker, is_holding, holds_class, no_ask}
use Rattle.bay_book.specs.Books.{BookView, IsSound}
use Rattle.bay.specs.declared.classes.Class.{Class}
use Rattle.bay.specs.declared.request.Request.{Request}
use Rattle.bay.specs.declared.request.NotAsked.{NotAsked}
use Rattle.bay.specs.declared.request.Urgency.{Urgency}
use Rattle.bay.specs.declared.request.Urgency.TheVariants.{Usual, Urgent}
use Rattle.bay.specs.Members.{Has}
use Rattle.bay.specs.Classes.{class_at, class_bit, is_within, has_no_set, leaves}
use Rattle.bay.specs.Cores.{Core, core, IsTied}
use Rattle.bay.specs.Requests.{why_not, is_no_number, joined, ordered}
use Rattle.bay.proofs.Members.{append_cases, append_first, append_second, place_of}
use Rattle.bay.proofs.InLine.{most_cases, most_has, wishes_cases, below_of}

-- ---- the request fits

pub if_none : (b : Bool) (why : NotAsked) (rest : Option NotAsked) → (if b then Some why else rest) ≡ None → (b ≡ false) × (rest ≡ None)
if_none true why rest h = absurd (cc)
if_none false why rest h = (refl, h)

pub record Fits (classes : List Class) (book : BookView) (sets : List ℕ) (r : Request) : Type 0 where
  pub number : is_no_number book r.number ≡ false
  pub class : nat_le (length classes) r.class ≡ false
  pub some : has_no_set sets ≡ false
  pub within : leaves (class_at classes r.class).uses sets ≡ false

pub fits_of : (classes : List Class) (book : BookView) (sets : List ℕ) (r : Request) → why_not classes book false sets r ≡ None → Fits classes book sets r
fits_of classes book sets r h =
    let one = if_none (is_no_number book r.number) _ _ h in
    let two = if_none (nat_le (length classes) r.class) _ _ one.1 in
    let three = if_none (has_no_set sets) _ _ two.1 in
    let four = if_none (leaves (class_at classes r.class).uses sets) _ _ three.1 in
    record { number = one.0; class = two.0; some = three.0; within = four.0 }

or_none : (a b : Bool) → (a || b) ≡ false → (a ≡ false) × (b ≡ false)
or_none false b h = (refl, h)
or_none true b h = absurd (false≢true (sym h))

not_lt : (a b : ℕ) → nat_lt a b ≡ false → b ≤ a
not_lt a b h = search (rules, h)

pub fits_next : (classes : List Class) (book : BookView) (sets : List ℕ) (r : Request) → Fits classes book sets r → book.next ≤ r.number
fits_next classes book sets r f = not_lt r.number book.next (or_none (nat_lt r.number book.next) (nat_eq r.number 18446744073709551615) f.number).0

-- ---- numbers

pub tied_below : (classes : List Class) (x : Core) (number : ℕ) → IsSound x.book → IsTied classes x → x.book.next ≤ number → Below number x.line.wishes
tied_below classes x number s t le = below_of number x.line.wishes (λ w h.
    let a = t.by_book w h in
    let p = place_of x.book.asks a.0 no_ask a.1 in
    let less : (get_or x.book.asks p.0 no_ask).number < x.book.next = s.below p.0 no_ask p.1 in
    let same : (get_or x.book.asks p.0 no_ask).number ≡ w.ask = ap (λ (b : Ask). b.number) p.2 ∙ a.3.number in
    omega (arith, less, same, le))

-- ---- who asks, and finds no memory, leaves the line as it was

if_yes : {A : Type 0} (b : Bool) (x y : A) → b ≡ true → (if b then x else y) ≡ x
if_yes true x y h = refl
if_yes false x y h = absurd (false≢true h)

if_no : {A : Type 0} (b : Bool) (x y : A) → b ≡ false → (if b then x else y) ≡ y
if_no false x y h = refl
if_no true x y h = absurd (false≢true (sym h))

none_new : (ask : ℕ) (sets : List ℕ) (classes : ℕ) (d : Option ℕ) → others ask (wishes_of ask sets classes d) ≡ []
none_new ask [] classes d = refl
none_new ask (s ∷ sets) classes d =
    if_no (not (nat_eq ask ask)) _ (others ask (wishes_of ask sets classes d)) (ap not (eq-eqb ask ask refl)) ∙ none_new ask sets classes d

without_new : (ask : ℕ) (ws : List Wish) (sets : List ℕ) (classes : ℕ) (d : Option ℕ) → Below ask ws → others ask (ws ++ wishes_of ask sets classes d) ≡ ws
without_new ask [] sets classes d h = none_new ask sets classes d
without_new ask (w ∷ ws) sets classes d h =
    let ne : w.ask ≢ ask = (λ e. let less = h.0 in omega (arith, less, e)) in
    if_yes (not (nat_eq w.ask ask)) (w ∷ others ask (ws ++ wishes_of ask sets classes d)) _ (ap not (ne_eqb w.ask ask ne))
    ∙ ap (λ (l : List Wish). w ∷ l) (without_new ask ws sets classes d h.1)

pub left_again : (x : LineView) (ask : ℕ) (sets : List ℕ) (classes : ℕ) (d : Option ℕ) → Below ask x.wishes → leaving (asking x ask sets classes d) ask ≡ x
left_again x ask sets classes d h =
    ap (λ (l : List Wish). let y : LineView = record { wishes = l; limit = x.limit; most = x.most } in y) (without_new ask x.wishes sets classes d h)

-- ---- what is true of line and book stays so

any_none : {X : Type 0} (p : X → Bool) (xs : List X) (x : X) → list_any p xs ≡ false → Has xs x → p x ≡ false
any_none p [] x h g = absurd g
any_none {X} p (y ∷ ys) x h (inl is) = subst (λ (z : X). p z ≡ false) is (or_none (p y) (list_any p ys) h).0
any_none p (y ∷ ys) x h (inr there) = any_none p ys x (or_none (p y) (list_any p ys) h).1 there

not_not : (b : Bool) → not b ≡ false → b ≡ true
not_not true h = refl
not_not false h = absurd (false≢true (sym h))

-- it has a wish, since it asks for a set
new_in_line : (x : LineView) (ask : ℕ) (sets : List ℕ) (classes : ℕ) (d : Option ℕ) → has_no_set sets ≡ false
    → (w : Wish) × Has (asking x ask sets classes d).wishes w × (w.ask ≡ ask)
new_in_line x ask [] classes d h = absurd (false≢true (sym h))
new_in_line x ask (s ∷ sets) classes d h =
    let w : Wish = record { ask = ask; needs = s; classes = classes; deadline = d; passed = 0 } in
    (w, append_second x.wishes (wishes_of ask (s ∷ sets) classes d) w (inl refl), refl)

one_of : (a b : Ask) → Has (a ∷ []) b → a ≡ b
one_of a b (inl is) = is
one_of a b (inr h) = absurd h

pub joined_tied : (classes : List Class) (x : Core) (sets : List ℕ) (r : Request) (now : ℕ) → Fits classes x.book sets r → IsTied classes x
    → IsTied classes (joined x sets r now)
joined_tied classes x sets r now f t =
    let asks = x.book.asks in let v : Ask = asker r.number r.class r.owner r.deadline r.limit now in
    let new = wishes_of r.number sets (class_bit r.class) r.deadline in
    let held : (a : Ask) → Has (asks ++ v ∷ []) a → is_holding a.stage ≡ true → Has asks a = λ a h holds. elim (append_cases asks (v ∷ []) a h) [
      | inl was ↦ was
      | inr now ↦ absurd (false≢true (ap (λ (b : Ask). is_holding b.stage) (one_of v a now) ∙ holds))
    ] in
    record {
      in_line = λ a h waits. elim (append_cases asks (v ∷ []) a h) [
        | inl was ↦ let l = t.in_line a was waits in (l.0, append_first x.line.wishes new l.0 l.1, l.2)
        | inr now ↦
            let l = new_in_line x.line r.number sets (class_bit r.class) r.deadline f.some in
            (l.0, l.1, l.2 ∙ ap (λ (b : Ask). b.number) (one_of v a now))
      ];
      by_book = λ w h. elim (append_cases x.line.wishes new w h) [
        | inl was ↦ let b = t.by_book w was in (b.0, append_first asks (v ∷ []) b.0 b.1, b.2, b.3)
        | inr now ↦
            let is = wishes_cases r.number sets (class_bit r.class) r.deadline w now in (
              v,
              append_second asks (v ∷ []) v (inl refl),
              refl,
              record {
                number = sym is.ask_is;
                class = is.classes_are;
                within = not_not (is_within (class_at classes r.class).uses w.needs)
                    (any_none (λ set. not (is_within (class_at classes r.class).uses set)) sets w.needs f.within is.its);
                deadline = is.deadline_is;
              },
            )
      ];
      apart = λ a b h g ne. t.apart a b (held a h.0 h.1, h.1) (held b g.0 g.1, g.1) ne;
      few = λ k. let e = sum_by_push (λ (a : Ask). if holds_class k a then 1 else 0) asks v in let le = t.few k in omega (arith, e, le);
      within = λ a h. t.within a (held a h.0 h.1, h.1);
    }

-- ---- an urgent one keeps the order

pub ordered_tied : (classes : List Class) (urgency : Urgency) (line : LineView) (book : BookView) → IsTied classes (core line book)
    → IsTied classes (core (ordered urgency line) book)
ordered_tied classes Usual line book t = t
ordered_tied classes Urgent line book t = record {
  in_line = λ a h waits. let l = t.in_line a h waits in let m = most_has line.most line.wishes l.0 l.1 in (m.0, m.1, sym m.2.ask ∙ l.2);
  by_book = λ w h.
      let m = most_cases line.most line.wishes w h in let b = t.by_book m.0 m.1 in (
        b.0,
        b.1,
        b.2,
        record {
          number = b.3.number ∙ m.2.ask;
          class = sym m.2.classes ∙ b.3.class;
          within = subst (λ n. is_within (class_at classes b.0.class).uses n ≡ true) m.2.needs b.3.within;
          deadline = sym m.2.deadline ∙ b.3.deadline;
        },
      );
  apart = t.apart;
  few = t.few;
  within = t.within;
}
