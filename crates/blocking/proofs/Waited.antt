-- The bottles for which a job waits, by the bits of sets.
use Rattle.std.proofs.Common.{◌≡◌, ◌↔◌, ℕ, ◌==◌, ◌<◌, Bool, true, false, ◌&&◌, bit_and, bit_xor, List, length, get_or, subst, refl, sym, ap, ◌∙◌, arith, inl, inr}
use Rattle.std.specs.Int.{bit_at}
use Rattle.std.proofs.lemmas.Nat.Bits.{bit_at_and, bit_at_xor, bit_at-zero}
use Rattle.lab_plan.specs.LabPlan.{LabPlan, bottles, session_names}
use Rattle.lab_plan.proofs.Bits.{bit_cases}
use Rattle.legal_steps.specs.declared.end.End.{End}
use Rattle.legal_steps.specs.declared.end.End.TheVariants.{Lower, Higher}
use Rattle.legal_steps.specs.declared.phase.Drinking.{Drinking}
use Rattle.legal_steps.specs.declared.phase.Drinking.TheVariants.{Tranquil, Thirsty, Drinking as Drinks, Reaching, Retired}
use Rattle.legal_steps.specs.State.{State, edge, phase, end_of, bottle_end, Has}
use Rattle.legal_steps.specs.Legal.{instrument_of}
use Rattle.turns.specs.Patience.{is_waiting}
use Rattle.edge_rule.specs.NeededBottles.{AreNeededIn}
use Rattle.blocking.specs.Waiting.{is_across, waits_for}
use Rattle.legal_steps.specs.declared.event.Event.{Event}
use Rattle.edge_rule.specs.DeskView.{DeskView, known}
use Rattle.rounds.specs.Rounds.{known_in}
use Rattle.waiting.specs.Watching.{DeskKnows, KnowAll}
use Rattle.blocking.specs.Watching.{AreWaitedFor}

thirsty_is : (d : Drinking) → is_waiting d ≡ true → d ≡ Thirsty
thirsty_is Thirsty is = refl
thirsty_is Tranquil is = absurd (cc)
thirsty_is Drinks is = absurd (cc)
thirsty_is Reaching is = absurd (cc)
thirsty_is Retired is = absurd (cc)

neither : (a b : Bool) → (a && (false && b)) ≡ false
neither true b = refl
neither false b = refl

-- one that isn't thirsty waits for none
pub none_waited : (plan : LabPlan) (s : State) (j e : ℕ) → is_waiting (phase s j).drinking ≡ false → AreWaitedFor plan s j e 0
none_waited plan s j e other k inside =
    ap (λ n. n == 1) (bit_at-zero k)
    ∙ sym (ap (λ b. is_across (bottle_end (edge s e).bottles k) (end_of plan j e) && (b && session_names plan j (phase s j).session (instrument_of plan e k)))
    other
    ∙ neither (is_across (bottle_end (edge s e).bottles k) (end_of plan j e)) (session_names plan j (phase s j).session (instrument_of plan e k)))

-- ---- a thirsty one, by the bottles that it needs and those at the higher end

not_named : (named : Bool) (bit : ℕ) → bit ≡ 0 → ((bit ≡ 1) ↔ (named ≡ true)) → named ≡ false
not_named false bit off is = refl
not_named true bit off is = let on : bit ≡ 1 = is.1 refl in absurd (omega (arith, off, on))

from_lower : (n b k : ℕ) (named : Bool) → ((bit_at n k ≡ 1) ↔ (named ≡ true)) → (bit_at (bit_and n b) k == 1) ≡ (is_across (bottle_end b k) Lower && named)
unfolding bottle_end
from_lower n b k named is = elim (bit_cases n k) [
  | inl off ↦ let none = not_named named (bit_at n k) off is in
      elim (bit_cases b k) [ inl low ↦ rw (bit_at_and n b k, off, low) refl | inr high ↦ rw (bit_at_and n b k, off, high, none) refl ]
  | inr on ↦ let all = is.0 on in
      elim (bit_cases b k) [ inl low ↦ rw (bit_at_and n b k, on, low) refl | inr high ↦ rw (bit_at_and n b k, on, high, all) refl ]
]

from_higher : (n b k : ℕ) (named : Bool) → ((bit_at n k ≡ 1) ↔ (named ≡ true))
    → (bit_at (bit_xor n (bit_and n b)) k == 1) ≡ (is_across (bottle_end b k) Higher && named)
unfolding bottle_end
from_higher n b k named is = elim (bit_cases n k) [
  | inl off ↦ let none = not_named named (bit_at n k) off is in elim (bit_cases b k) [
    | inl low ↦ rw (bit_at_xor n (bit_and n b) k, bit_at_and n b k, off, low, none) refl
    | inr high ↦ rw (bit_at_xor n (bit_and n b) k, bit_at_and n b k, off, high) refl
  ]
  | inr on ↦ let all = is.0 on in elim (bit_cases b k) [
    | inl low ↦ rw (bit_at_xor n (bit_and n b) k, bit_at_and n b k, on, low, all) refl
    | inr high ↦ rw (bit_at_xor n (bit_and n b) k, bit_at_and n b k, on, high) refl
  ]
]

module _ (plan : LabPlan) (s : State) (j e : ℕ) (thirsty : is_waiting (phase s j).drinking ≡ true) (needed : ℕ) (are : AreNeededIn plan j (phase s j) e needed) where
  named : (k : ℕ) → k < length (bottles plan e) → (bit_at needed k ≡ 1) ↔ (session_names plan j (phase s j).session (instrument_of plan e k) ≡ true)
  unfolding Has
  named k inside =
      let both = are.just k inside in (
        λ on. (both.0 on).named,
        λ is. both.1 (record { in_session = inl (thirsty_is (phase s j).drinking thirsty); named = is }),
      )

  -- what is across is needed just where the job waits
  waits_if : (here : End) → here ≡ end_of plan j e → (k : ℕ) → (bit : Bool)
      → bit ≡ (is_across (bottle_end (edge s e).bottles k) here && session_names plan j (phase s j).session (instrument_of plan e k))
      → bit ≡ (is_across (bottle_end (edge s e).bottles k) (end_of plan j e) && waits_for plan j (phase s j) (instrument_of plan e k))
  waits_if here here_is k bit is =
      is ∙ (λ i. is_across (bottle_end (edge s e).bottles k) (here_is i)
      && (sym thirsty i && session_names plan j (phase s j).session (instrument_of plan e k)))

  pub waited_lower : Lower ≡ end_of plan j e → AreWaitedFor plan s j e (bit_and needed (edge s e).bottles)
  waited_lower here k inside = waits_if Lower here k (bit_at (bit_and needed (edge s e).bottles) k == 1)
      (from_lower needed (edge s e).bottles k (session_names plan j (phase s j).session (instrument_of plan e k)) (named k inside))

  pub waited_higher : Higher ≡ end_of plan j e → AreWaitedFor plan s j e (bit_xor needed (bit_and needed (edge s e).bottles))
  waited_higher here k inside = waits_if Higher here k (bit_at (bit_xor needed (bit_and needed (edge s e).bottles)) k == 1)
      (from_higher needed (edge s e).bottles k (session_names plan j (phase s j).session (instrument_of plan e k)) (named k inside))

-- what a desk says of its job
pub known_waits : (plan : LabPlan) (h : List Event) (desks : List DeskView) → KnowAll plan h desks → (j : ℕ) → j < length plan.jobs
    → (d : DeskView) (i : ℕ) → d ≡ get_or desks i d → i ≡ j → (e set : ℕ) → AreWaitedFor plan (known d) d.job e set
    → AreWaitedFor plan (known_in plan h j) j e set
known_waits plan h desks all j inside d i is here e set waited =
    let k : DeskKnows plan h j d = subst (DeskKnows plan h j) (sym (is ∙ ap (λ n. get_or desks n d) here)) (all.each j d inside) in
    subst (λ (z : State × ℕ). AreWaitedFor plan z.0 z.1 e set) (λ i. (k.known_is i, k.job_is i)) waited
