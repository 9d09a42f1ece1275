-- What stays true of the wishes in line.
use Rattle.std.proofs.Common.{◌≡◌, ℕ, List, [], ◌∷◌, map, Option, Some, None, not, ◌==◌, refl, sym, subst, true}
use Rattle.std.specs.List.{All}
use Rattle.std.proofs.lemmas.List.Elements.{All-nil, All-cons, All-head, All-tail, All-append, All-filter}
use Rattle.bay_line.specs.declared.wish.Wish.{Wish}
use Rattle.bay_line.specs.declared.going_in.Seated.{Seated}
use Rattle.bay_line.specs.Wishes.{no_wish, wish_at, counts, passed_by, passed_most}
use Rattle.bay_line.specs.Turns.{pass_all, others}
use Rattle.bay_line.specs.Lines.{LineView, IsNext, GoIn, TakesLate, wishes_of}
use Rattle.bay_line.specs.InLine.{as_asked, asked_by, Within, IsSeatedWithin, StaysWithin, WhatWasAskedStays}
use Rattle.bay_line.proofs.Standing.{either}

-- whoever is passed by asked for the same
same_asked : (most free needs : ℕ) (w : Wish) → as_asked (passed_by most free needs w) ≡ as_asked w
same_asked most free needs w = either (λ (v : Wish). as_asked v ≡ as_asked w) (counts most free needs w) _ w refl refl

module _ (P : Wish → Type 0) where
  within_others : (ask : ℕ) (ws : List Wish) → Within P ws → Within P (others ask ws)
  within_others ask ws h = All-filter (λ (w : Wish). not (w.ask == ask)) (λ w. P (as_asked w)) ws h

  within_passed : (most free needs : ℕ) (ws : List Wish) → Within P ws → Within P (pass_all most free needs ws)
  within_passed most free needs [] h = All-nil (λ w. P (as_asked w))
  within_passed most free needs (w ∷ ws) h =
      All-cons (λ v. P (as_asked v)) (passed_by most free needs w) (pass_all most free needs ws)
      (subst P (sym (same_asked most free needs w)) (All-head (λ v. P (as_asked v)) w ws h))
      (within_passed most free needs ws (All-tail (λ v. P (as_asked v)) w ws h))

  within_most : (most : ℕ) (ws : List Wish) → Within P ws → Within P (map (passed_most most) ws)
  within_most most [] h = All-nil (λ w. P (as_asked w))
  within_most most (w ∷ ws) h =
      All-cons (λ v. P (as_asked v)) (passed_most most w) (map (passed_most most) ws) (All-head (λ v. P (as_asked v)) w ws h)
      (within_most most ws (All-tail (λ v. P (as_asked v)) w ws h))

  within_new : (ask : ℕ) (sets : List ℕ) (classes : ℕ) (d : Option ℕ) → All P (wishes_of ask sets classes d) → Within P (wishes_of ask sets classes d)
  within_new ask [] classes d h = All-nil (λ w. P (as_asked w))
  within_new ask (needs ∷ sets) classes d h =
      let w : Wish = record { ask = ask; needs = needs; classes = classes; deadline = d; passed = 0 } in let ws : List Wish = wishes_of ask sets classes d in
      All-cons (λ v. P (as_asked v)) w ws (All-head P w ws h) (within_new ask sets classes d (All-tail P w ws h))

  within_next : (most in_use free : ℕ) (wishes : List Wish) (place : ℕ) (s : Seated) → IsNext most in_use free wishes place s → Within P wishes
      → IsSeatedWithin P free s
  within_next most in_use free wishes place s next h =
      let w = wish_at wishes place in
      let same : as_asked w ≡ asked_by s w.classes =
      sym (λ i. record { ask = next.ask i; needs = next.needs i; classes = w.classes; deadline = next.deadline i; passed = 0 }) in
      record {
        classes = w.classes;
        asked = subst P same (h place no_wish next.first.0);
        class = record { is_free = next.class.is_free; its = next.class.its; small = next.class.small };
      }

  within_goes : (most in_use free : ℕ) (old : List Wish) (s : Option Seated) (new : List Wish) → GoIn most in_use free old s new → Within P old → Within P new
  within_goes most in_use free old (Some s) new g h =
      let w = wish_at old g.place in
      subst (Within P) (sym g.then) (within_others w.ask (pass_all most free w.needs old) (within_passed most free w.needs old h))
  within_goes most in_use free old None new g h = subst (Within P) (sym g.1) h

  within_late : (now : ℕ) (old : LineView) (ask : Option ℕ) (new : LineView) → TakesLate now old ask new → Within P old.wishes → Within P new.wishes
  within_late now old (Some ask) new late h = subst (λ (v : LineView). Within P v.wishes) (sym late.1) (within_others ask old.wishes h)
  within_late now old None new late h = subst (λ (v : LineView). Within P v.wishes) (sym late.1) h

  pub stays_within : StaysWithin P
  stays_within = record {
    nobody = λ limit most. All-nil (λ w. P (as_asked w));
    asks = λ x ask sets classes d h its.
        All-append (λ w. P (as_asked w)) x.wishes (wishes_of ask sets classes d) h (within_new ask sets classes d its);
    leaves = λ x ask h. within_others ask x.wishes h;
    keeps_order = λ x h. within_most x.most x.wishes h;
    late = within_late;
    next = within_next;
    goes = λ x s free h. within_others s.ask (pass_all x.most free s.needs x.wishes) (within_passed x.most free s.needs x.wishes h);
    let_in = λ in_use free old s new lets h. within_goes old.most in_use free old.wishes s new.wishes lets.goes h;
  }

pub what_was_asked_stays : WhatWasAskedStays
what_was_asked_stays p = stays_within (λ w. p w ≡ true)
