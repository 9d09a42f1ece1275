-- Which asks are in line.
use Rattle.std.proofs.Common.{◌≡◌, ◌≢◌, ◌⊎◌, ℕ, zero, suc, ◌<◌, List, [], ◌∷◌, ◌++◌, map, length, Option, Some, refl, sym, ◌∙◌, subst, inl, inr, arith}
use Rattle.std.proofs.lemmas.Bool.{cases_eq}
use Rattle.bay_line.specs.declared.wish.Wish.{Wish}
use Rattle.bay_line.specs.declared.going_in.Seated.{Seated}
use Rattle.bay_line.specs.Wishes.{wish_at, passed_most}
use Rattle.bay_line.specs.Turns.{pass_all, others}
use Rattle.bay_line.specs.Lines.{LineView, Below, IsNext, GoesIn, LetsIn, TakesLate, wishes_of}
use Rattle.bay_line.specs.InLine.{InLine, Comes, GoesOut, AreBelow, StaysInLine}
use Rattle.bay_line.proofs.Standing.{same_ask, fewer_others}
use Rattle.bay_line.proofs.PassedBy.{as_many}
use Rattle.bay_line.proofs.Overtaken.{stays, goes}

-- it is the first in line, or one behind it
abbrev IsIn : ℕ → List Wish → Type 0
IsIn ask [] = ⊥
IsIn ask (w ∷ ws) = (w.ask ≡ ask) ⊎ IsIn ask ws

is_in : (ask : ℕ) (ws : List Wish) → InLine ws ask → IsIn ask ws
is_in ask [] h = absurd (omega (arith, h.1))
is_in ask (w ∷ ws) (zero, inside, at) = inl at
is_in ask (w ∷ ws) (suc k, inside, at) = inr (is_in ask ws (k, omega (arith, inside), at))

in_line : (ask : ℕ) (ws : List Wish) → IsIn ask ws → InLine ws ask
in_line ask [] h = absurd h
in_line ask (w ∷ ws) (inl at) = (0, omega arith, at)
in_line ask (w ∷ ws) (inr h) = let it = in_line ask ws h in (suc it.0, omega (arith, it.1), it.2)

-- ---- whoever leaves

still_in : (ask other : ℕ) (ws : List Wish) → other ≢ ask → IsIn other ws → IsIn other (others ask ws)
still_in ask other [] apart h = h
still_in ask other (w ∷ ws) apart h = elim (cases_eq w.ask ask) [
  | inl same ↦ subst (IsIn other) (sym (goes ask w ws same)) (elim h [
    | inl at ↦ absurd (apart (sym at ∙ same))
    | inr more ↦ still_in ask other ws apart more
  ])
  | inr differs ↦ subst (IsIn other) (sym (stays ask w ws differs)) (elim h [
    | inl at ↦ inl at
    | inr more ↦ inr (still_in ask other ws apart more)
  ])
]

was_in : (ask other : ℕ) (ws : List Wish) → IsIn other (others ask ws) → IsIn other ws
was_in ask other [] h = h
was_in ask other (w ∷ ws) h = elim (cases_eq w.ask ask) [
  | inl same ↦ inr (was_in ask other ws (subst (IsIn other) (goes ask w ws same) h))
  | inr differs ↦
      let it : (w.ask ≡ other) ⊎ IsIn other (others ask ws) = subst (IsIn other) (stays ask w ws differs) h in
      elim it [
        | inl at ↦ inl at
        | inr more ↦ inr (was_in ask other ws more)
      ]
]

isnt_in : (ask : ℕ) (ws : List Wish) → IsIn ask (others ask ws) → ⊥
isnt_in ask [] h = h
isnt_in ask (w ∷ ws) h = elim (cases_eq w.ask ask) [
  | inl same ↦ isnt_in ask ws (subst (IsIn ask) (goes ask w ws same) h)
  | inr differs ↦
      let it : (w.ask ≡ ask) ⊎ IsIn ask (others ask ws) = subst (IsIn ask) (stays ask w ws differs) h in
      elim it [
        | inl at ↦ differs at
        | inr more ↦ isnt_in ask ws more
      ]
]

fewer : (ask : ℕ) (ws : List Wish) → IsIn ask ws → length (others ask ws) < length ws
fewer ask [] h = absurd h
fewer ask (w ∷ ws) h = elim (cases_eq w.ask ask) [
  | inl same ↦
      let few = fewer_others ask ws in
      subst (λ (l : List Wish). length l < suc (length ws)) (sym (goes ask w ws same)) (omega (arith, few))
  | inr differs ↦ elim h [
    | inl at ↦ absurd (differs at)
    | inr more ↦
        let few = fewer ask ws more in
        subst (λ (l : List Wish). length l < suc (length ws)) (sym (stays ask w ws differs)) (omega (arith, few))
  ]
]

goes_out : (ask : ℕ) (ws : List Wish) → GoesOut ask ws (others ask ws)
goes_out ask ws = record {
  it = λ h. isnt_in ask ws (is_in ask (others ask ws) h);
  others = record {
    still = λ other apart h. in_line other (others ask ws) (still_in ask other ws apart (is_in other ws h));
    before = λ other apart h. in_line other ws (was_in ask other ws (is_in other (others ask ws) h));
  };
  fewer = λ h. fewer ask ws (is_in ask ws h);
}

-- ---- whoever is passed by

passed_in : (most free needs ask : ℕ) (ws : List Wish) → IsIn ask ws → IsIn ask (pass_all most free needs ws)
passed_in most free needs ask [] h = h
passed_in most free needs ask (w ∷ ws) (inl at) = inl (same_ask most free needs w ∙ at)
passed_in most free needs ask (w ∷ ws) (inr h) = inr (passed_in most free needs ask ws h)

in_passed : (most free needs ask : ℕ) (ws : List Wish) → IsIn ask (pass_all most free needs ws) → IsIn ask ws
in_passed most free needs ask [] h = h
in_passed most free needs ask (w ∷ ws) (inl at) = inl (sym (same_ask most free needs w) ∙ at)
in_passed most free needs ask (w ∷ ws) (inr h) = inr (in_passed most free needs ask ws h)

goes_out_after : (most free needs ask : ℕ) (ws : List Wish) → GoesOut ask ws (others ask (pass_all most free needs ws))
goes_out_after most free needs ask ws =
    let all : List Wish = pass_all most free needs ws in
    record {
      it = λ h. isnt_in ask all (is_in ask (others ask all) h);
      others = record {
        still = λ other apart h. in_line other (others ask all) (still_in ask other all apart (passed_in most free needs other ws (is_in other ws h)));
        before = λ other apart h. in_line other ws (in_passed most free needs other ws (was_in ask other all (is_in other (others ask all) h)));
      };
      fewer = λ h.
          let few = fewer ask all (passed_in most free needs ask ws (is_in ask ws h)) in let many = as_many most free needs ws in omega (arith, few, many);
    }

-- ---- whoever counts as passed by as often as may be

most_in : (most ask : ℕ) (ws : List Wish) → IsIn ask ws → IsIn ask (map (passed_most most) ws)
most_in most ask [] h = h
most_in most ask (w ∷ ws) (inl at) = inl at
most_in most ask (w ∷ ws) (inr h) = inr (most_in most ask ws h)

in_most : (most ask : ℕ) (ws : List Wish) → IsIn ask (map (passed_most most) ws) → IsIn ask ws
in_most most ask [] h = h
in_most most ask (w ∷ ws) (inl at) = inl at
in_most most ask (w ∷ ws) (inr h) = inr (in_most most ask ws h)

-- ---- whoever asks

in_first : (ask : ℕ) (ws more : List Wish) → IsIn ask ws → IsIn ask (ws ++ more)
in_first ask [] more h = absurd h
in_first ask (w ∷ ws) more (inl at) = inl at
in_first ask (w ∷ ws) more (inr h) = inr (in_first ask ws more h)

in_second : (ask : ℕ) (ws more : List Wish) → IsIn ask more → IsIn ask (ws ++ more)
in_second ask [] more h = h
in_second ask (w ∷ ws) more h = inr (in_second ask ws more h)

in_one : (ask : ℕ) (ws more : List Wish) → IsIn ask (ws ++ more) → IsIn ask ws ⊎ IsIn ask more
in_one ask [] more h = inr h
in_one ask (w ∷ ws) more (inl at) = inl (inl at)
in_one ask (w ∷ ws) more (inr h) = elim (in_one ask ws more h) [
  | inl before ↦ inl (inr before)
  | inr behind ↦ inr behind
]

own_wish : (ask : ℕ) (sets : List ℕ) (classes : ℕ) (d : Option ℕ) → 0 < length sets → IsIn ask (wishes_of ask sets classes d)
own_wish ask [] classes d some = absurd (omega (arith, some))
own_wish ask (needs ∷ sets) classes d some = inl refl

only_own : (ask other : ℕ) (sets : List ℕ) (classes : ℕ) (d : Option ℕ) → IsIn other (wishes_of ask sets classes d) → other ≡ ask
only_own ask other [] classes d h = absurd h
only_own ask other (needs ∷ sets) classes d (inl at) = sym at
only_own ask other (needs ∷ sets) classes d (inr h) = only_own ask other sets classes d h

comes : (ask : ℕ) (sets : List ℕ) (classes : ℕ) (d : Option ℕ) (ws : List Wish) → 0 < length sets → Comes ask ws (ws ++ wishes_of ask sets classes d)
comes ask sets classes d ws some =
    let own : List Wish = wishes_of ask sets classes d in
    record {
      it = in_line ask (ws ++ own) (in_second ask ws own (own_wish ask sets classes d some));
      others = record {
        still = λ other apart h. in_line other (ws ++ own) (in_first other ws own (is_in other ws h));
        before = λ other apart h. elim (in_one other ws own (is_in other (ws ++ own) h)) [
          | inl before ↦ in_line other ws before
          | inr its ↦ absurd (apart (only_own ask other sets classes d its))
        ];
      };
    }

-- ---- numbers

below : (next : ℕ) (ws : List Wish) → AreBelow next ws → Below next ws
below next [] h = tt
below next (w ∷ ws) h = (h w.ask (0, omega arith, refl), below next ws (λ ask at. h ask (suc at.0, omega (arith, at.1), at.2)))

are_below : (next : ℕ) (ws : List Wish) → Below next ws → AreBelow next ws
are_below next [] h ask at = absurd (omega (arith, at.1))
are_below next (w ∷ ws) h ask (zero, inside, at) = subst (λ n. n < next) at h.0
are_below next (w ∷ ws) h ask (suc k, inside, at) = are_below next ws h.1 ask (k, omega (arith, inside), at)

-- ---- all of it

next_in : (most in_use free : ℕ) (wishes : List Wish) (place : ℕ) (s : Seated) → IsNext most in_use free wishes place s → InLine wishes s.ask
next_in most in_use free wishes place s next = (place, next.first.0, sym next.ask)

late_goes : (now : ℕ) (old : LineView) (ask : ℕ) (new : LineView) → TakesLate now old (Some ask) new → InLine old.wishes ask × GoesOut ask old.wishes new.wishes
late_goes now old ask new (late, is) = (
  (late.0, late.1, late.2),
  subst (λ (v : LineView). GoesOut ask old.wishes v.wishes) (sym is) (goes_out ask old.wishes),
)

lets_in_goes : (in_use free : ℕ) (old : LineView) (s : Seated) (new : LineView) → LetsIn in_use free old (Some s) new
    → InLine old.wishes s.ask × GoesOut s.ask old.wishes new.wishes
lets_in_goes in_use free old s new lets =
    let g : GoesIn old.most in_use free old.wishes s new.wishes = lets.goes in
    let w = wish_at old.wishes g.place in (
      next_in old.most in_use free old.wishes g.place s g.next,
      subst (λ n. GoesOut n old.wishes new.wishes) (sym g.next.ask) (subst (GoesOut w.ask old.wishes) (sym g.then) (goes_out_after old.most free w.needs w.ask old.wishes)),
    )

pub stays_in_line : StaysInLine
stays_in_line = record {
  asks = λ x ask sets classes d some. comes ask sets classes d x.wishes some;
  leaves = λ x ask. goes_out ask x.wishes;
  late = late_goes;
  next = next_in;
  goes = λ x s free. goes_out_after x.most free s.needs s.ask x.wishes;
  let_in = lets_in_goes;
  keeps_order = λ x ask h. in_line ask (map (passed_most x.most) x.wishes) (most_in x.most ask x.wishes (is_in ask x.wishes h));
  kept_order = λ x ask h. in_line ask x.wishes (in_most x.most ask x.wishes (is_in ask (map (passed_most x.most) x.wishes) h));
  below = below;
  are_below = are_below;
}
