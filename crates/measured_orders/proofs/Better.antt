-- Which of two measures is better.
use Rattle.std.proofs.Common.{◌≡◌, ℕ, Bool, true, false, refl, arith, subst}
use Rattle.std.proofs.lemmas.Bool.Decides.{nat_tests}
use Rattle.measured_orders.specs.declared.measure.Measure.{Measure}
use Rattle.measured_orders.specs.Measures.{is_better, takes_less, NoWorse}

abbrev made : Bool → ℕ → ℕ → Measure
made f r w = record { finished = f; rounds = r; waited = w }

less_then : (r s t w x y : ℕ) → takes_less (made true s x) (made true r w) ≡ false → takes_less (made true t y) (made true s x) ≡ false
    → takes_less (made true t y) (made true r w) ≡ false
less_then r s t w x y p q = grind (arith, nat_tests)

less_once : (r s w x : ℕ) → takes_less (made true r w) (made true s x) ≡ true → takes_less (made true s x) (made true r w) ≡ false
less_once r s w x p = grind (arith, nat_tests)

then_of : (f g h : Bool) (r s t w x y : ℕ) → NoWorse (made f r w) (made g s x) → NoWorse (made g s x) (made h t y) → NoWorse (made f r w) (made h t y)
then_of true true true r s t w x y p q = less_then r s t w x y p q
then_of true true false r s t w x y p q = refl
then_of true false true r s t w x y p q = absurd (cc)
then_of true false false r s t w x y p q = refl
then_of false true h r s t w x y p q = absurd (cc)
then_of false false true r s t w x y p q = absurd (cc)
then_of false false false r s t w x y p q = less_then r s t w x y p q

once_of : (f g : Bool) (r s w x : ℕ) → is_better (made f r w) (made g s x) ≡ true → NoWorse (made f r w) (made g s x)
once_of true true r s w x p = less_once r s w x p
once_of true false r s w x p = refl
once_of false true r s w x p = absurd (cc)
once_of false false r s w x p = less_once r s w x p

pub no_worse_then : (a b c : Measure) → NoWorse a b → NoWorse b c → NoWorse a c
no_worse_then a b c p q = then_of a.finished b.finished c.finished a.rounds b.rounds c.rounds a.waited b.waited c.waited p q

pub better_no_worse : (a b : Measure) → is_better a b ≡ true → NoWorse a b
better_no_worse a b p = once_of a.finished b.finished a.rounds b.rounds a.waited b.waited p

-- what was answered of two measures, said of the same two
pub as_viewed : (answer : Bool) (a b c d : Measure) → a ≡ b → c ≡ d → is_better a c ≡ answer → is_better b d ≡ answer
as_viewed answer a b c d first second is =
    subst (λ m. is_better b m ≡ answer) second (subst (λ m. is_better m c ≡ answer) first is)
