-- Asks that are as far as they were.
use Rattle.std.proofs.Common.{◌≡◌, ℕ, ◌+◌, ◌<◌, ◌≤◌, Bool, true, ◌&&◌, ◌||◌, not, nat_eq, if◌then◌else◌, is_some, List, [], ◌∷◌, length, set, ◌^◌, Option, Some, None, refl, sym, ap, ◌∙◌, subst, inl, inr, arith}
use Rattle.std.specs.List.{count_by, filter}
use Rattle.std.proofs.lemmas.Bool.{cases_Bool}
use Rattle.std.proofs.lemmas.List.Sums.{sum_by-cons}
use Rattle.bay_line.specs.Lines.{LineView}
use Rattle.bay_book.specs.declared.ask.Ask.{Ask}
use Rattle.bay_book.specs.declared.ask.Outcome.{Outcome}
use Rattle.bay_book.specs.declared.ask.Stage.{Stage}
use Rattle.bay_book.specs.declared.ask.Stage.TheVariants.{Waits}
use Rattle.bay_book.specs.Asks.{ask_at, is_holding, is_over, holds_class, given, hearing, gone_since, back_again, is_done, has_heard_end, has_left, is_owed}
use Rattle.bay_book.specs.Moments.{common}
use Rattle.bay_book.specs.Books.{BookView, IsSound, heard, set_gone, is_back, purge}
use Rattle.bay.specs.declared.classes.Class.{Class}
use Rattle.bay.specs.declared.telling.Told.{Told}
use Rattle.bay.specs.Members.{Has}
use Rattle.bay.specs.Classes.{class_at, is_within}
use Rattle.bay.specs.Cores.{core, IsTied}
use Rattle.bay.specs.Standings.{MarksGone, MarksBack}
use Rattle.bay.specs.Tellings.{TellsNext}
use Rattle.bay.proofs.Members.{has_at, set_cases, set_new, set_other, filter_cases, filter_has}
use Rattle.bay.proofs.Tied.{count_set}

-- both are the same ask, as far as each other
pub record AsFar (a b : Ask) : Type 0 where
  pub number : a.number ≡ b.number
  pub class : a.class ≡ b.class
  pub needs : a.needs ≡ b.needs
  pub stage : a.stage ≡ b.stage
  pub deadline : a.deadline ≡ b.deadline

pub as_far : (a : Ask) → AsFar a a
as_far a = record { number = refl; class = refl; needs = refl; stage = refl; deadline = refl }

pub far_given : (at : ℕ) (a : Ask) → AsFar a (given at a)
far_given at a = record { number = refl; class = refl; needs = refl; stage = refl; deadline = refl }

far_hearing : (what : Outcome) (a : Ask) → AsFar a (hearing what a)
far_hearing what a = record { number = refl; class = refl; needs = refl; stage = refl; deadline = refl }

far_gone : (moment : ℕ) (a : Ask) → AsFar a (gone_since moment a)
far_gone moment a = record { number = refl; class = refl; needs = refl; stage = refl; deadline = refl }

far_back : (a : Ask) → AsFar a (back_again a)
far_back a = record { number = refl; class = refl; needs = refl; stage = refl; deadline = refl }

-- each in the second was in the first; each that waits is in the second still; and of no class more hold
pub record AreAsFar (old new : List Ask) : Type 0 where
  pub from : (b : Ask) → Has new b → (a : Ask) × Has old a × AsFar a b
  pub to : (a : Ask) → Has old a → a.stage ≡ Waits → (b : Ask) × Has new b × AsFar a b
  pub few : (k : ℕ) → count_by (holds_class k) new ≤ count_by (holds_class k) old

pub as_far_tied : (classes : List Class) (line : LineView) (old new : BookView) → AreAsFar old.asks new.asks → IsTied classes (core line old)
    → IsTied classes (core line new)
as_far_tied classes line old new h t = record {
  in_line = λ b g w. let a = h.from b g in let l = t.in_line a.0 a.1 (a.2.stage ∙ w) in (l.0, l.1, l.2 ∙ a.2.number);
  by_book = λ w g.
      let a = t.by_book w g in let b = h.to a.0 a.1 a.2 in let is = a.3 in (
        b.0,
        b.1,
        sym b.2.stage ∙ a.2,
        record {
          number = sym b.2.number ∙ is.number;
          class = subst (λ k. w.classes ≡ 2 ^ k) b.2.class is.class;
          within = subst (λ k. is_within (class_at classes k).uses w.needs ≡ true) b.2.class is.within;
          deadline = is.deadline ∙ b.2.deadline;
        },
      );
  apart = λ b d g e ne.
      let a = h.from b g.0 in let c = h.from d e.0 in
      ap (λ n. common n d.needs) (sym a.2.needs)
      ∙ (ap (common a.0.needs) (sym c.2.needs)
      ∙ t.apart a.0 c.0 (a.1, ap is_holding a.2.stage ∙ g.1) (c.1, ap is_holding c.2.stage ∙ e.1) (λ same. ne (sym a.2.number ∙ (same ∙ c.2.number))));
  few = λ k. let less = h.few k in let le = t.few k in omega (arith, less, le);
  within = λ b g.
      let a = h.from b g.0 in
      subst (λ k. is_within (class_at classes k).uses b.needs ≡ true) a.2.class
      (subst (λ n. is_within (class_at classes a.0.class).uses n ≡ true) a.2.needs (t.within a.0 (a.1, ap is_holding a.2.stage ∙ g.1)));
}

-- ---- one of them was written over

same_class : (k : ℕ) (a b : Ask) → AsFar a b → holds_class k a ≡ holds_class k b
same_class k a b h = ap (λ (s : Stage). is_holding s && nat_eq a.class k) h.stage ∙ ap (λ n. is_holding b.stage && nat_eq n k) h.class

same_sum : (m n : ℕ) (b c : Bool) → b ≡ c → m + (if b then 1 else 0) ≡ n + (if c then 1 else 0) → m ≤ n
same_sum m n b c e h = let g : m + (if c then 1 else 0) ≡ n + (if c then 1 else 0) = subst (λ (d : Bool). m + (if d then 1 else 0) ≡ n + (if c then 1 else 0)) e h in omega (arith, g)

pub as_far_set : (x : BookView) (place : ℕ) (v : Ask) → place < length x.asks → AsFar (ask_at x.asks place) v → AreAsFar x.asks (set x.asks place v)
as_far_set x place v inside far =
    let a0 = ask_at x.asks place in
    record {
      from = λ b h. elim (set_cases x.asks place v b h) [
        | inl is ↦ (a0, has_at x.asks place _ inside, subst (AsFar a0) is far)
        | inr was ↦ (b, was, as_far b)
      ];
      to = λ a h w. elim (set_other x.asks place v a _ h) [
        | inl is ↦ (v, set_new x.asks place v inside, subst (λ (c : Ask). AsFar c v) is far)
        | inr there ↦ (a, there, as_far a)
      ];
      few = λ k. same_sum _ _ (holds_class k a0) (holds_class k v) (same_class k a0 v far) (count_set (holds_class k) x.asks place v inside);
    }

-- ---- lines were given

-- ---- some are in the book no more

count_kept : (p q : Ask → Bool) (asks : List Ask) → count_by p (filter q asks) ≤ count_by p asks
count_kept p q [] = omega arith
count_kept p q (a ∷ asks) =
    let f : Ask → ℕ = λ b. if p b then 1 else 0 in let ih = count_kept p q asks in let more = sum_by-cons f a asks in
    elim (cases_Bool (q a)) [
      | inl keeps ↦
          let e = ap (λ (b : Bool). count_by p (if b then a ∷ filter q asks else filter q asks)) keeps in
          let here = sum_by-cons f a (filter q asks) in omega (arith, e, here, ih, more)
      | inr leaves ↦
          let e = ap (λ (b : Bool). count_by p (if b then a ∷ filter q asks else filter q asks)) leaves in omega (arith, e, ih, more)
    ]

waits_not_done : (a : Ask) → a.stage ≡ Waits → not (is_done a) ≡ true
waits_not_done a w =
    ap (λ (s : Stage). not (is_over s && (has_heard_end a.heard || has_left s || is_some a.gone) && not (is_owed a.end_line))) w

pub as_far_purged : (asks : List Ask) → AreAsFar asks (filter (λ a. not (is_done a)) asks)
as_far_purged asks = record {
  from = λ b h. let r = filter_cases (λ (a : Ask). not (is_done a)) asks b h in (b, r.0, as_far b);
  to = λ a h w. (a, filter_has (λ (b : Ask). not (is_done b)) asks a h (waits_not_done a w), as_far a);
  few = λ k. count_kept (holds_class k) (λ a. not (is_done a)) asks;
}

-- ---- the calls that do so

pub heard_tied : (classes : List Class) (line : LineView) (x : BookView) (place : ℕ) (what : Outcome) → IsSound x → place < length x.asks
    → IsTied classes (core line x) → IsTied classes (core line (heard x place what))
heard_tied classes line x place what s inside t =
    as_far_tied classes line x (heard x place what) (as_far_set x place (hearing what (ask_at x.asks place)) inside (far_hearing what (ask_at x.asks place))) t

pub gone_tied : (classes : List Class) (line : LineView) (x : BookView) (place moment : ℕ) → IsSound x → place < length x.asks
    → IsTied classes (core line x) → IsTied classes (core line (set_gone x place moment))
gone_tied classes line x place moment s inside t =
    as_far_tied classes line x (set_gone x place moment)
    (as_far_set x place (gone_since moment (ask_at x.asks place)) inside (far_gone moment (ask_at x.asks place))) t

pub purged_tied : (classes : List Class) (line : LineView) (x : BookView) → IsTied classes (core line x) → IsTied classes (core line (purge x))
purged_tied classes line x t = as_far_tied classes line x (purge x) (as_far_purged x.asks) t

pub marked_tied : (classes : List Class) (line : LineView) (number moment : ℕ) (old new : BookView) → IsSound old → MarksGone number moment old new
    → IsTied classes (core line old) → IsTied classes (core line new)
marked_tied classes line number moment old new s (inl h) t =
    subst (λ (b : BookView). IsTied classes (core line b)) (sym h.2) (gone_tied classes line old h.0 moment s h.1.found.0 t)
marked_tied classes line number moment old new s (inr h) t = subst (λ (b : BookView). IsTied classes (core line b)) (sym h.1) t

pub told_tied : (classes : List Class) (line : LineView) (serial s : ℕ) (old new : BookView) (r : Option Told) → IsSound old
    → TellsNext serial old (r, s) new → IsTied classes (core line old) → IsTied classes (core line new)
told_tied classes line serial s old new (Some told) sound h t =
    let is = h.0.1 in
    subst (λ (b : BookView). IsTied classes (core line b)) (sym is.then) (heard_tied classes line old h.0.0 told.outcome sound is.next.0 t)
told_tied classes line serial s old new None sound h t =
    subst (λ (b : BookView). IsTied classes (core line b)) (sym h.1) (purged_tied classes line old t)

pub back_tied : (classes : List Class) (line : LineView) (number owner : ℕ) (old new : BookView) (needs : ℕ) → MarksBack number owner old (Some needs) new
    → IsTied classes (core line old) → IsTied classes (core line new)
back_tied classes line number owner old new needs m t =
    subst (λ (b : BookView). IsTied classes (core line b)) (sym m.6)
    (as_far_tied classes line old (is_back old m.0)
    (as_far_set old m.0 (back_again (ask_at old.asks m.0)) m.2.inside (far_back (ask_at old.asks m.0))) t)
