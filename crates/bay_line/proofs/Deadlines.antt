-- Whose time is over, by the earliest deadline.
use Rattle.std.proofs.Common.{◌≡◌, ℕ, ◌≤◌, false, nat_le, Option, Some, None, refl, sym, ap, ◌∙◌, inl, inr, arith}
use Rattle.std.proofs.lemmas.Bool.{cases_Bool, false≢true}
use Rattle.bay_line.specs.Wishes.{wish_at, is_past}
use Rattle.bay_line.specs.Wanted.{IsLateFromFirst}
use Rattle.bay_line.proofs.Fair.{le_is, is_le}

-- what is over at a moment is no later than it
no_later : (now end : ℕ) (d : Option ℕ) → ((other : ℕ) → d ≡ Some other → end ≤ other) → nat_le end now ≡ false → is_past now d ≡ false
no_later now end None h isnt = refl
no_later now end (Some other) h isnt = elim (cases_Bool (nat_le other now)) [
  | inl is ↦
      let a = h other refl in let b = le_is other now is in
      absurd (false≢true (sym isnt ∙ is_le end now (omega (arith, a, b))))
  | inr is ↦ is
]

pub is_late_from_first : IsLateFromFirst
is_late_from_first wishes (Some end) first = record {
  before = λ now isnt k inside. no_later now end (wish_at wishes k).deadline (λ other is. first.1 k other inside is) isnt;
  after = λ now is. ((wish_at wishes first.0.0).ask, (first.0.0, first.0.1, refl, ap (is_past now) first.0.2 ∙ is));
}
is_late_from_first wishes None first = record {
  before = λ now isnt k inside. ap (is_past now) (first k inside);
  after = λ now is. absurd (false≢true is);
}
