-- Commands in hand: their acts are legal, and then no job reaches.
use Rattle.std.proofs.Common.{◌≡◌, ◌≢◌, ℕ, zero, suc, ◌<◌, ◌≤◌, List, [], ◌∷◌, ◌++◌, length, take, refl, sym, ap, ◌∙◌, subst, inl, inr, arith, append-nil}
use Rattle.std.specs.Prelude.{Some, slice_get}
use Rattle.std.proofs.lemmas.Bool.{cases_eq}
use Rattle.lab_plan.specs.LabPlan.{LabPlan}
use Rattle.legal_steps.specs.declared.event.Event.{Event}
use Rattle.legal_steps.specs.declared.event.Event.TheVariants.{Act}
use Rattle.legal_steps.specs.declared.phase.Drinking.{Drinking}
use Rattle.legal_steps.specs.declared.phase.Drinking.TheVariants.{Tranquil, Thirsty, Drinking as Drinks, Reaching, Retired}
use Rattle.legal_steps.specs.State.{Seat, State, seat, drinking}
use Rattle.legal_steps.specs.Legal.{May, after}
use Rattle.legal_steps.specs.Run.{IsLegalFrom, StopsAt, after_all}
use Rattle.legal_steps.proofs.RunLemmas.{after_all_push, legal_push}
use Rattle.turns.proofs.Frame.{as_many_seats, own_seat, other_seat}
use Rattle.round_trace.specs.InHand.{act_of, acts_below, acts_in_hand, BringsToRest}

module _ (plan : LabPlan) (s : State) (wide : length s.seats ≡ length plan.jobs) where
  -- after the acts of the jobs below n
  record Acted (acts : List Event) (n : ℕ) : Type 0 where
    many : length (after_all plan s acts).seats ≡ length s.seats
    others : (j : ℕ) → n ≤ j → seat (after_all plan s acts) j ≡ seat s j
    legal : IsLegalFrom plan s acts
    rests : (j : ℕ) → j < n → drinking (after_all plan s acts) j ≢ Reaching

  -- one that doesn't reach
  none_more : (acts : List Event) (n : ℕ) → drinking s n ≢ Reaching → Acted acts n → Acted acts (suc n)
  none_more acts n other a = record {
    many = a.many;
    others = λ j l. a.others j (omega arith);
    legal = a.legal;
    rests = λ j l is. elim (cases_eq j n) [
      | inl same ↦ other (ap (λ (x : Seat). x.phase.drinking) (sym (a.others n (omega arith))) ∙ (ap (drinking (after_all plan s acts)) (sym same) ∙ is))
      | inr apart ↦ a.rests j (omega arith) is
    ];
  }

  -- one that does
  one_more : (acts : List Event) (n : ℕ) → n < length plan.jobs → drinking s n ≡ Reaching → Acted acts n → Acted (acts ++ Act n ∷ []) (suc n)
  one_more acts n l reaches a = record {
    many = ap (λ (z : State). length z.seats) then ∙ (as_many_seats plan before (Act n) ∙ a.many);
    others = λ j beyond. ap (λ (z : State). seat z j) then ∙ (other_seat plan before (Act n) j (λ same. omega arith) ∙ a.others j (omega arith));
    legal = legal_push plan s acts (Act n) a.legal (l, here);
    rests = λ j less is. elim (cases_eq j n) [
      | inl same ↦ drinks_on (sym (ap (λ (x : Seat). x.phase.drinking) (own_seat plan before (Act n) (omega arith)))
          ∙ (ap (drinking (after plan before (Act n))) (sym same) ∙ (ap (λ (z : State). drinking z j) (sym then) ∙ is)))
      | inr apart ↦ a.rests j (omega arith) (ap (λ (x : Seat). x.phase.drinking) (sym (other_seat plan before (Act n) j apart))
          ∙ (ap (λ (z : State). drinking z j) (sym then) ∙ is))
    ];
  } where
    before : State
    before = after_all plan s acts

    here : drinking before n ≡ Reaching
    here = ap (λ (x : Seat). x.phase.drinking) (a.others n (omega arith)) ∙ reaches

    then : after_all plan s (acts ++ Act n ∷ []) ≡ after plan before (Act n)
    then = after_all_push plan s acts (Act n)

    inside : n < length before.seats
    inside = let m = a.many in omega arith

    drinks_on : Drinks ≡ Reaching → ⊥
    drinks_on is = cc

  next : (acts : List Event) (n : ℕ) (d : Drinking) → n < length plan.jobs → drinking s n ≡ d → Acted acts n → Acted (acts ++ act_of n d) (suc n)
  next acts n Reaching l is a = one_more acts n l is a
  next acts n Tranquil l is a = subst (λ z. Acted z (suc n)) (sym (append-nil acts)) (none_more acts n (λ e. let both : Tranquil ≡ Reaching = sym is ∙ e in cc) a)
  next acts n Thirsty l is a = subst (λ z. Acted z (suc n)) (sym (append-nil acts)) (none_more acts n (λ e. let both : Thirsty ≡ Reaching = sym is ∙ e in cc) a)
  next acts n Drinks l is a = subst (λ z. Acted z (suc n)) (sym (append-nil acts)) (none_more acts n (λ e. let both : Drinks ≡ Reaching = sym is ∙ e in cc) a)
  next acts n Retired l is a = subst (λ z. Acted z (suc n)) (sym (append-nil acts)) (none_more acts n (λ e. let both : Retired ≡ Reaching = sym is ∙ e in cc) a)

  below : (n : ℕ) → n ≤ length plan.jobs → Acted (acts_below s n) n
  below zero l = record { many = refl; others = λ j m. refl; legal = tt; rests = λ j less. absurd (omega arith) }
  below (suc n) l = next (acts_below s n) n (drinking s n) (omega arith) refl (below n (omega arith))

  pub brings_to_rest : BringsToRest plan s (acts_in_hand plan s)
  brings_to_rest = let a = below (length plan.jobs) (omega arith) in record { legal = a.legal; rests = a.rests }

-- ---- a legal list never stops

some_at : (xs : List Event) (k : ℕ) → k < length xs → (x : Event) × (slice_get xs k ≡ Some x)
some_at [] k less = absurd (omega arith)
some_at (x ∷ xs) zero less = (x, refl)
some_at (x ∷ xs) (suc k) less = some_at xs k (omega arith)

legal_at : (plan : LabPlan) (s : State) (events : List Event) (place : ℕ) (event : Event) → IsLegalFrom plan s events → slice_get events place ≡ Some event
    → May plan (after_all plan s (take place events)) event
legal_at plan s [] place event legal there = cc
legal_at plan s (x ∷ events) zero event legal there = let is : x ≡ event = cc in subst (May plan s) is legal.0
legal_at plan s (x ∷ events) (suc place) event legal there = legal_at plan (after plan s x) events place event legal.1 there

pub never_stops : (plan : LabPlan) (s s' : State) (events : List Event) (place : ℕ) → IsLegalFrom plan s events → StopsAt plan s events place s' → ⊥
never_stops plan s s' events place legal stops =
    let there = some_at events place stops.inside in
    stops.not_legal there.0 there.1 (subst (λ z. May plan z there.0) (sym stops.before.leads) (legal_at plan s events place there.0 legal there.1))
