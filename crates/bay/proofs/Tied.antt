-- What is true of line and book stays true.
use Rattle.std.proofs.Common.{◌≡◌, ◌≢◌, ◌⊎◌, ℕ, ◌+◌, ◌<◌, ◌≤◌, Bool, true, false, ◌&&◌, nat_eq, if◌then◌else◌, List, length, set, refl, sym, ap, ◌∙◌, subst, inl, inr, arith}
use Rattle.std.specs.List.{count_by}
use Rattle.std.specs.Int.{bit_at}
use Rattle.std.proofs.lemmas.Bool.{cases_eq, ne_eqb, false≢true}
use Rattle.std.proofs.lemmas.List.Sums.{sum_by-set}
use Rattle.bay_line.specs.declared.going_in.Seated.{Seated}
use Rattle.bay_line.specs.Wishes.{wish_at, no_wish}
use Rattle.bay_line.specs.Turns.{pass_all}
use Rattle.bay_line.specs.Lines.{LineView, IsNext, gone}
use Rattle.bay_book.specs.declared.ask.Ask.{Ask}
use Rattle.bay_book.specs.declared.ask.End.{End}
use Rattle.bay_book.specs.declared.ask.Stage.{Stage}
use Rattle.bay_book.specs.declared.ask.Stage.TheVariants.{Waits, Holds, Over}
use Rattle.bay_book.specs.Asks.{ask_at, no_ask, holding, over, is_holding, holds_class}
use Rattle.bay_book.specs.Moments.{common}
use Rattle.bay_book.specs.Finding.{IsInUse}
use Rattle.bay_book.specs.Books.{BookView, IsSound, hold}
use Rattle.bay.specs.declared.classes.Class.{Class}
use Rattle.bay.specs.Members.{Has}
use Rattle.bay.specs.Classes.{class_at, class_bit, is_within}
use Rattle.bay.specs.Cores.{Core, core, HoldsIn, IsTied, AreFree, IsFreeClass, ended}
use Rattle.bay.proofs.Members.{has_at, place_of, set_others, set_other, one_number}
use Rattle.bay.proofs.InLine.{passed_cases, passed_has, others_cases, others_has}
use Rattle.bay.proofs.Sets.{common_comm, one_class}

pub same_core : (l k : LineView) (b d : BookView) → l ≡ k → b ≡ d → core l b ≡ core k d
same_core l k b d e f = ap (λ (m : LineView). core m b) e ∙ ap (core k) f

-- ---- all but the one that was changed

pub other_asks : (x : BookView) (place : ℕ) (v a : Ask) → IsSound x → place < length x.asks → Has (set x.asks place v) a
    → (v ≡ a) ⊎ (Has x.asks a × (a.number ≢ (ask_at x.asks place).number))
other_asks x place v a s inside h = set_others (λ (b : Ask). b.number) x.asks place v a no_ask s.rises inside h

pub still_asks : (x : BookView) (place : ℕ) (v a : Ask) → Has x.asks a → a.number ≢ (ask_at x.asks place).number → Has (set x.asks place v) a
still_asks x place v a h ne = elim (set_other x.asks place v a no_ask h) [
  | inl is ↦ absurd (ne (sym (ap (λ (b : Ask). b.number) is)))
  | inr there ↦ there
]

pub same_ask : (x : BookView) (a b : Ask) → IsSound x → Has x.asks a → Has x.asks b → a.number ≡ b.number → a ≡ b
same_ask x a b s h g same = one_number (λ (c : Ask). c.number) x.asks a b no_ask s.rises h g same

-- ---- counts

pub count_set : (p : Ask → Bool) (asks : List Ask) (place : ℕ) (v : Ask) → place < length asks
    → count_by p (set asks place v) + (if p (ask_at asks place) then 1 else 0) ≡ count_by p asks + (if p v then 1 else 0)
count_set p asks place v inside = sum_by-set (λ (a : Ask). if p a then 1 else 0) asks place v no_ask inside

no_more : (m n : ℕ) (b : Bool) → m + (if b then 1 else 0) ≡ n + 0 → m ≤ n
no_more m n true e = omega (arith, e)
no_more m n false e = omega (arith, e)

-- ---- one ends

pub ended_tied : (classes : List Class) (x : Core) (place : ℕ) (how : End) (now : ℕ) → IsSound x.book → place < length x.book.asks → IsTied classes x
    → IsTied classes (ended x place how now)
ended_tied classes x place how now s inside t =
    let asks = x.book.asks in let a0 = ask_at asks place in let v : Ask = over how now a0 in
    record {
      in_line = λ a h waits. elim (other_asks x.book place v a s inside h) [
        | inl is ↦ let no : ⊥ = (let e : v.stage ≡ Waits = ap (λ (b : Ask). b.stage) is ∙ waits in cc) in absurd no
        | inr was ↦ let l = t.in_line a was.0 waits in (l.0, others_has a0.number x.line.wishes l.0 l.1 (λ e. was.1 (sym l.2 ∙ e)), l.2)
      ];
      by_book = λ w h.
          let was = others_cases a0.number x.line.wishes w h in
          let b = t.by_book w was.0 in
          (b.0, still_asks x.book place v b.0 b.1 (λ e. was.1 (sym b.3.number ∙ e)), b.2, b.3);
      apart = λ a b h g ne. elim (other_asks x.book place v a s inside h.0) [
        | inl is ↦ absurd (false≢true (ap (λ (c : Ask). is_holding c.stage) is ∙ h.1))
        | inr was ↦ elim (other_asks x.book place v b s inside g.0) [
          | inl is ↦ absurd (false≢true (ap (λ (c : Ask). is_holding c.stage) is ∙ g.1))
          | inr there ↦ t.apart a b (was.0, h.1) (there.0, g.1) ne
        ]
      ];
      few = λ k.
          let e = count_set (holds_class k) asks place v inside in let le = t.few k in
          let less = no_more _ _ (holds_class k a0) e in omega (arith, less, le);
      within = λ a h. elim (other_asks x.book place v a s inside h.0) [
        | inl is ↦ absurd (false≢true (ap (λ (c : Ask). is_holding c.stage) is ∙ h.1))
        | inr was ↦ t.within a (was.0, h.1)
      ];
    }

-- ---- one is let in

abbrev pub in_core : Core → Seated → ℕ → ℕ → ℕ → Bool → Core
in_core x it free place now keeps = record { line = gone x.line it free; book = hold x.book place it.needs now keeps }

more_of_class : (m n c : ℕ) (held same : Bool) → held ≡ false → m + (if (held && same) then 1 else 0) ≡ n + (if same then 1 else 0) → n ≤ c
    → (same ≡ true → n < c) → m ≤ c
more_of_class m n c held true not_held e le room =
    let less = room refl in
    let e' : m + 0 ≡ n + 1 = subst (λ (h : Bool). m + (if (h && true) then 1 else 0) ≡ n + 1) not_held e in omega (arith, e', less)
more_of_class m n c held false not_held e le room =
    let e' : m + 0 ≡ n + 0 = subst (λ (h : Bool). m + (if (h && false) then 1 else 0) ≡ n + 0) not_held e in omega (arith, e', le)

waits_not : (s : Stage) → s ≡ Waits → is_holding s ≡ false
waits_not Waits e = refl
waits_not Holds e = let no : ⊥ = cc in absurd no
waits_not (Over how) e = refl

test_is : (a b : ℕ) → nat_eq a b ≡ true → a ≡ b
test_is a b h = elim (cases_eq a b) [ inl is ↦ is | inr ne ↦ absurd (false≢true (sym (ne_eqb a b ne) ∙ h)) ]

pub let_in_tied : (classes : List Class) (x : Core) (now : ℕ) (keeps : Bool) (used free in_line : ℕ) (it : Seated) (place : ℕ) → IsSound x.book
    → IsInUse x.book.asks used → AreFree classes x.book.asks free → IsNext x.line.most used free x.line.wishes in_line it → place < length x.book.asks
    → (ask_at x.book.asks place).number ≡ it.ask → (ask_at x.book.asks place).stage ≡ Waits → IsTied classes x
    → IsTied classes (in_core x it free place now keeps)
let_in_tied classes x now keeps used free in_line it place s are_used are_free next inside number waits t =
    let asks = x.book.asks in let a0 = ask_at asks place in let v : Ask = holding it.needs now keeps (x.book.granted + 1) a0 in let w0 = wish_at x.line.wishes in_line in
    let has0 : Has asks a0 = has_at asks place no_ask inside in
    let its = t.by_book w0 (has_at x.line.wishes in_line no_wish next.first.0) in
    let is : its.0 ≡ a0 = same_ask x.book its.0 a0 s its.1 has0 (its.3.number ∙ (sym next.ask ∙ sym number)) in
    let class : it.class ≡ a0.class =
    one_class a0.class it.class (subst (λ n. bit_at n it.class ≡ 1) (its.3.class ∙ ap (λ (a : Ask). class_bit a.class) is) next.class.its) in
    let room : IsFreeClass classes asks a0.class = subst (IsFreeClass classes asks) class ((are_free it.class).0 next.class.is_free).1 in
    let unused : (b : Ask) → HoldsIn x.book b → common it.needs b.needs ≡ false = λ b h.
    let p = place_of asks b no_ask h.0 in
    subst (λ (c : Ask). common it.needs c.needs ≡ false) p.2
    (are_used.apart it.needs (subst (λ n. common n used ≡ false) (sym next.needs) next.first.1.unused) p.0 p.1
    (subst (λ (c : Ask). is_holding c.stage ≡ true) (sym p.2) h.1)) in
    record {
      in_line = λ a h w. elim (other_asks x.book place v a s inside h) [
        | inl same ↦ let e : Holds ≡ Waits = ap (λ (b : Ask). b.stage) same ∙ w in let no : ⊥ = cc in absurd no
        | inr was ↦
            let l = t.in_line a was.0 w in let m = passed_has x.line.most free it.needs x.line.wishes l.0 l.1 in
            (m.0, others_has it.ask (pass_all x.line.most free it.needs x.line.wishes) m.0 m.1 (λ e. was.1 (sym l.2 ∙ (m.2.ask ∙ (e ∙ sym number)))), sym m.2.ask ∙ l.2)
      ];
      by_book = λ w h.
          let was = others_cases it.ask (pass_all x.line.most free it.needs x.line.wishes) w h in
          let old = passed_cases x.line.most free it.needs x.line.wishes w was.0 in
          let b = t.by_book old.0 old.1 in (
            b.0,
            still_asks x.book place v b.0 b.1 (λ e. was.1 (sym old.2.ask ∙ (sym b.3.number ∙ (e ∙ number)))),
            b.2,
            record {
              number = b.3.number ∙ old.2.ask;
              class = sym old.2.classes ∙ b.3.class;
              within = subst (λ n. is_within (class_at classes b.0.class).uses n ≡ true) old.2.needs b.3.within;
              deadline = sym old.2.deadline ∙ b.3.deadline;
            },
          );
      apart = λ a b h g ne. elim (other_asks x.book place v a s inside h.0) [
        | inl same ↦ elim (other_asks x.book place v b s inside g.0) [
          | inl too ↦ absurd (ne (ap (λ (c : Ask). c.number) (sym same ∙ too)))
          | inr there ↦ subst (λ (c : Ask). common c.needs b.needs ≡ false) same (unused b (there.0, g.1))
        ]
        | inr was ↦ elim (other_asks x.book place v b s inside g.0) [
          | inl too ↦ subst (λ (c : Ask). common a.needs c.needs ≡ false) too (common_comm a.needs it.needs ∙ unused a (was.0, h.1))
          | inr there ↦ t.apart a b (was.0, h.1) (there.0, g.1) ne
        ]
      ];
      few = λ k.
          more_of_class _ _ _ (is_holding a0.stage) (nat_eq a0.class k) (waits_not a0.stage waits) (count_set (holds_class k) asks place v inside) (t.few k)
          (λ h. subst (IsFreeClass classes asks) (test_is a0.class k h) room);
      within = λ a h. elim (other_asks x.book place v a s inside h.0) [
        | inl same ↦ subst (λ (c : Ask). is_within (class_at classes c.class).uses c.needs ≡ true) same
            (subst (λ n. is_within (class_at classes a0.class).uses n ≡ true) (sym next.needs)
            (subst (λ (c : Ask). is_within (class_at classes c.class).uses w0.needs ≡ true) is its.3.within))
        | inr was ↦ t.within a (was.0, h.1)
      ];
    }
