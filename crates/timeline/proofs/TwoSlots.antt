-- Two entries' slots, if they are two.
use Rattle.std.proofs.Common.{◌≡◌, ◌==◌, ℕ, Bool, true, false, if◌then◌else◌, List, Option, None, Some, refl, sym, ◌∙◌, subst, arith, eqb-true}
use Rattle.std.specs.Prelude.{IfSome}
use Rattle.std.proofs.lemmas.Bool.{false≢true}
use Rattle.std.proofs.lemmas.Bool.Decides.{nat_tests}
use Rattle.report_reader.specs.Line.{EntryText, JobText}
use Rattle.timeline.specs.Spans.{slot_of}
use Rattle.timeline.specs.Orders.{AreOf}
use Rattle.timeline.specs.TwoSlots.{two_slots}
use Rattle.timeline.proofs.Failing.{some_none}
use Rattle.timeline.proofs.Slots.{some_one}

equal_is : (a b : ℕ) → a ≡ b → (a == b) ≡ true
equal_is a b h = grind (arith, nat_tests, h)

-- both slots are those of two sessions
pub slots_some : (jobs : List JobText) (a b : EntryText) (one two : Option ℕ) (found : Option (ℕ × ℕ)) → slot_of jobs a ≡ one → slot_of jobs b ≡ two
    → found ≡ two_slots one two → IfSome found (λ (x, y). AreOf jobs a b x y)
slots_some jobs a b None two found first second is = subst (λ o. IfSome o (λ (x, y). AreOf jobs a b x y)) (sym is) tt
slots_some jobs a b (Some x) None found first second is = subst (λ o. IfSome o (λ (x, y). AreOf jobs a b x y)) (sym is) tt
slots_some jobs a b (Some x) (Some y) found first second is = subst (λ o. IfSome o (λ (x, y). AreOf jobs a b x y)) (sym is) (by_test (x == y) refl)
  where
    by_test : (t : Bool) → (x == y) ≡ t → IfSome (if t then None else Some (x, y)) (λ (v, w). AreOf jobs a b v w)
    by_test true e = tt
    by_test false e = record { of_first = first; of_second = second; other = λ same. false≢true (sym e ∙ equal_is x y same) }

abbrev chosen : Bool → ℕ → ℕ → Option (ℕ × ℕ)
chosen t v w = if t then None else Some (v, w)

-- or they aren't
pub slots_none : (jobs : List JobText) (a b : EntryText) (one two : Option ℕ) (found : Option (ℕ × ℕ)) → slot_of jobs a ≡ one → slot_of jobs b ≡ two
    → found ≡ two_slots one two → found ≡ None → (x y : ℕ) → AreOf jobs a b x y → ⊥
slots_none jobs a b None two found first second is none x y are = some_none x (sym are.of_first ∙ first)
slots_none jobs a b (Some v) None found first second is none x y are = some_none y (sym are.of_second ∙ second)
slots_none jobs a b (Some v) (Some w) found first second is none x y are =
    are.other (some_one x v (sym are.of_first ∙ first) ∙ by_test (v == w) refl (sym is ∙ none) ∙ some_one w y (sym second ∙ are.of_second))
  where
    by_test : (t : Bool) → (v == w) ≡ t → chosen t v w ≡ None → v ≡ w
    by_test true e so = eqb-true v w e
    by_test false e so = some_none (v, w) so
