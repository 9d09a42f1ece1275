-- Who is let in because its instruments are free holds them; and who stays outside has a reason.
use Rattle.std.proofs.Common.{◌≡◌, ◌≢◌, ℕ, zero, suc, ◌+◌, ◌<◌, ◌^◌, min, bit_and, Bool, true, false, List, [], ◌∷◌, length, Option, Some, None, w64, refl, sym, ap, ◌∙◌, subst, inl, inr, arith}
use Rattle.std.proofs.lemmas.Bool.{cases_eq, false≢true}
use Rattle.std.proofs.lemmas.List.{get_or_past}
use Rattle.std.proofs.lemmas.Nat.{and_le_r}
use Rattle.std.proofs.lemmas.Nat.Bits.{bit_at_and, bit_at-zero, bit_at-lt, bit_at-trailing_zeros}
use Rattle.std.specs.Int.{bit_at, trailing_zeros}
use Rattle.lab_plan.specs.LabPlan.{LabPlan, sessions, session_names}
use Rattle.lab_plan.specs.InstrumentSets.{holds}
use Rattle.lab_plan.proofs.Bits.{holds_none}
use Rattle.legal_steps.specs.declared.event.Event.{Event}
use Rattle.legal_steps.specs.declared.phase.JobState.{JobState}
use Rattle.legal_steps.specs.declared.phase.Drinking.TheVariants.{Tranquil, Thirsty}
use Rattle.legal_steps.specs.State.{State, Seat, Has, IsDrinking, IsInSession, no_seat, phase, drinking, session, end_of}
use Rattle.legal_steps.specs.Legal.{IsJob, Needs, instrument_of}
use Rattle.legal_steps.proofs.FitsLaw.{not_tranquil}
use Rattle.interleaving.specs.World.{WorldView}
use Rattle.reasons.specs.Reasons.{WaitsOn, LeadsToHolder}
use Rattle.late_thirst.specs.declared.asker.Asker.{Asker}
use Rattle.late_thirst.specs.declared.asker.Reason.TheVariants.{Passed, Free}
use Rattle.late_thirst.specs.Outside.{LineView, place, IsDue, IsDueAt, NobodyIsDue}
use Rattle.late_thirst.specs.LettingIn.{GoInPassed, LetsIn}
use Rattle.late_thirst.proofs.Gone.{not_both, are_gone, like_before, only_one, due_is_outside}
use Rattle.live_lab.specs.declared.words.Word.{Word}
use Rattle.live_lab.specs.declared.words.Word.TheVariants.{Begins, GivesUp}
use Rattle.live_lab.specs.Rests.{DoAndRest}
use Rattle.live_lab.specs.Doing.{said}
use Rattle.live_lab.specs.Admitting.{AsksFor, AreAskers, LetsInNext, EachStandsOutside, Asks, IsNext, IsPlaceFor, IsPlaceFrom}
use Rattle.live_lab.proofs.Bits.{holds_has, has_holds}
use Rattle.live_lab.proofs.Frames.{Goes, goes_same, goes_both, goes_all, others_said, Began, they_began, below_or}

-- ---- phases

-- whoever isn't in the set begins nothing and gives nothing up
pub others_go : (word : Word) (set : ℕ) (old : WorldView) (events : List Event) (new : WorldView) → DoAndRest (said word) set old events new
    → (j : ℕ) → holds set j ≡ false → Goes (phase old.state j) (phase new.state j)
others_go word set old events new d j out =
    let still : phase d.mid.state j ≡ phase old.state j = ap (λ (s : State). phase s j) d.each.run.leads
    ∙ others_said old.plan old.state word set (length old.plan.jobs) j (λ below. out) in
    let later = goes_all d.mid.plan d.mid.state d.later j d.rests.leads.run.legal d.rests.between in
    goes_both (phase old.state j) (phase d.mid.state j) (phase new.state j) (goes_same (phase old.state j) (phase d.mid.state j) still)
    (subst (λ (s : State). Goes (phase d.mid.state j) (phase s j)) (sym d.rests.leads.run.leads) later)

-- the plan stays
pub plan_stays : (event : ℕ → Event) (set : ℕ) (old : WorldView) (events : List Event) (new : WorldView) → DoAndRest event set old events new → new.plan ≡ old.plan
plan_stays event set old events new d = d.rests.leads.same_plan ∙ d.each.same_plan

pub holding_goes : (p q : JobState) → Goes p q → IsDrinking p → IsDrinking q
holding_goes p q (s, inl d) (inl h) = inl (d ∙ h)
holding_goes p q (s, inl d) (inr h) = inr (d ∙ h)
holding_goes p q (s, inr (t, u)) h = inl u

inside_before : (p q : JobState) → Goes p q → IsInSession q.drinking → IsInSession p.drinking
inside_before p q (s, inl d) h = subst IsInSession d h
inside_before p q (s, inr (t, u)) h = inl t

in_session : (p : JobState) → IsDrinking p → IsInSession p.drinking
in_session p (inl h) = inr (inl h)
in_session p (inr h) = inr (inr h)

pub tranquil_holds_nothing : (p : JobState) → p.drinking ≡ Tranquil → IsDrinking p → ⊥
tranquil_holds_nothing p is h = not_tranquil (subst IsInSession is (in_session p h))

not_thirsty : (p : JobState) → p.drinking ≡ Thirsty → IsDrinking p → ⊥
not_thirsty p is (inl h) = cc
not_thirsty p is (inr h) = cc

pub thirsty_holds_nothing : (p : JobState) → p.drinking ≡ Thirsty → IsDrinking p → ⊥
thirsty_holds_nothing p is h = not_thirsty p is h

-- ---- those who ask

asks_on : (plan : LabPlan) (s t : State) (j needs : ℕ) → Goes (phase s j) (phase t j) → AsksFor plan s j needs → AsksFor plan t j needs
asks_on plan s t j needs (same, inl d) a = record {
  tranquil = d ∙ a.tranquil;
  left = subst (λ n. n < length (sessions plan j)) (sym same) a.left;
  names = λ i. a.names i ∙ ap (λ n. session_names plan j (n + 1) i) (sym same);
}
asks_on plan s t j needs (same, inr (thirsty, drinks)) a = absurd (not_tranquil (inl (sym a.tranquil ∙ thirsty)))

pub askers_on : (old new : WorldView) (line : LineView) → new.plan ≡ old.plan
    → ((j : ℕ) (a : Asker) → IsJob old.plan j → place line.places j ≡ Some a → AsksFor old.plan old.state j a.needs × Goes (phase old.state j) (phase new.state j))
    → AreAskers new line
askers_on old new line same each j a job at =
    let both = each j a (subst (λ (p : LabPlan). IsJob p j) same job) at in
    subst (λ (p : LabPlan). AsksFor p new.state j a.needs) (sym same) (asks_on old.plan old.state new.state j a.needs both.1 both.0)

pub not_true : (b : Bool) → (b ≡ true → ⊥) → b ≡ false
not_true true h = absurd (h refl)
not_true false h = refl

-- whoever stays outside isn't one of those who went in
stays_out : (waiting : ℕ) (w : WorldView) (old : LineView) (set : ℕ) (new : LineView) → LetsInNext waiting w old set new → (j : ℕ) (a : Asker)
    → place new.places j ≡ Some a → holds set j ≡ false
stays_out waiting w old set new n j a at =
    not_true (holds set j) (λ h. not_both (place new.places j) a at (are_gone old.most n.ready n.used old.places set new.places n.lets.places j h).1)

-- they ask still after others were let in
pub still_askers : (waiting : ℕ) (w : WorldView) (there : LineView) (set : ℕ) (line : LineView) (events : List Event) (new : WorldView)
    → LetsInNext waiting w there set line → DoAndRest (said Begins) set w events new → AreAskers w there → AreAskers new line
still_askers waiting w there set line events new n d askers = askers_on w new line (plan_stays (said Begins) set w events new d)
    (λ j a job at.
    let before = like_before there.most n.ready n.used there.places set line.places n.lets.places j a at in (
      subst (AsksFor w.plan w.state j) before.2 (askers j before.0 job before.1),
      others_go Begins set w events new d j (stays_out waiting w there set line n j a at),
    ))

-- and after others gave up
pub askers_after : (w : WorldView) (line : LineView) (set : ℕ) (events : List Event) (new : WorldView) → DoAndRest (said GivesUp) set w events new
    → ((j : ℕ) → IsJob w.plan j → Has set j → drinking w.state j ≡ Thirsty) → AreAskers w line → AreAskers new line
askers_after w line set events new d thirsty askers = askers_on w new line (plan_stays (said GivesUp) set w events new d)
    (λ j a job at.
    let asks = askers j a job at in (
      asks,
      others_go GivesUp set w events new d j
          (not_true (holds set j) (λ h. not_tranquil (inl (sym asks.tranquil ∙ thirsty j job (holds_has set j h))))),
    ))

place_needs : (o : Option Asker) (a : Asker) (needs : ℕ) → IsPlaceFor needs o → o ≡ Some a → needs ≡ a.needs
place_needs (Some b) a needs for same = let e : b ≡ a = cc in sym for ∙ ap (λ (x : Asker). x.needs) e
place_needs None a needs for same = absurd for

needs_same : (b a : Asker) → Some b ≡ Some a → b.needs ≡ a.needs
needs_same b a same = let e : b ≡ a = cc in ap (λ (x : Asker). x.needs) e

from_place : (waiting : ℕ) (w : WorldView) (calls j : ℕ) (next : Option ℕ) (old new : Option Asker) (a : Asker) → IsNext w.plan w.state j next
    → IsPlaceFrom waiting w calls j next old new → new ≡ Some a → AsksFor w.plan w.state j a.needs
from_place waiting w calls j None old new a next is at = absurd (not_both new a at is)
from_place waiting w calls j (Some needs) old new a next (inl (for, same)) at = subst (AsksFor w.plan w.state j) (place_needs old a needs for (sym same ∙ at)) next
from_place waiting w calls j (Some needs) old new a next (inr (inl (other, may, is))) at =
    let same : Some (record { since = calls; needs = needs; passed = 0 }) ≡ Some a = sym is ∙ at in
    subst (AsksFor w.plan w.state j) (needs_same (record { since = calls; needs = needs; passed = 0 }) a same) next
from_place waiting w calls j (Some needs) old new a next (inr (inr (other, may, is))) at = absurd (not_both new a at is)

-- whoever has a place asks for what its next session needs
pub asked_right : (waiting : ℕ) (w : WorldView) (old new : LineView) → Asks waiting w old new → AreAskers w new
asked_right waiting w old new asks j a job at =
    let e = asks.each j job in from_place waiting w new.calls j e.0 (place old.places j) (place new.places j) a e.1 e.2 at

-- ---- who is free holds

chain_due : (most ready n : ℕ) (old new : List (Option Asker)) → n ≢ 0 → GoInPassed most ready n old new → (k : ℕ) × (k < length old) × IsDueAt (Passed most) ready old k
chain_due most ready zero old new some chain = absurd (some refl)
chain_due most ready (suc zero) old new some (mid, k, same, inside, due, g) =
    (k, subst (λ (l : List (Option Asker)). k < length l) same inside, subst (λ (l : List (Option Asker)). IsDueAt (Passed most) ready l k) same due)
chain_due most ready (suc (suc n)) old new some (mid, k, chain, inside, due, g) =
    chain_due most ready (suc n) old mid (λ is. absurd (omega (arith, is))) chain

-- where nobody had been passed by often enough, one alone went in, and it was free
free_one : (most ready used : ℕ) (old : List (Option Asker)) (set : ℕ) (new : List (Option Asker)) → LetsIn most ready used old set new
    → NobodyIsDue (Passed most) ready old → (k : ℕ) → holds set k ≡ true
    → (a : Asker) × (place old k ≡ Some a) × (bit_and a.needs used ≡ 0) × ((j : ℕ) → holds set j ≡ true → j ≡ k)
free_one most ready used old set new (inl (some, p)) none k h =
    let one = chain_due most ready p.many old new (p.some some) p.one_by_one in absurd (none one.0 one.1 one.2)
free_one most ready used old set new (inr (inl (no_due, x, first, g, gone))) none k h =
    let only : (j : ℕ) → holds set j ≡ true → j ≡ x = λ j member. elim (cases_eq j x) [
      | inl same ↦ same
      | inr other ↦ let was = (gone j).0 member in absurd (not_both (place old j) was.0.0 was.0.1 (only_one most ready x old new g j other was.1))
    ] in
    let out = due_is_outside (Free used) (place old x) first.1.1 in
    let free : bit_and out.0.needs used ≡ 0 = subst (IsDue (Free used)) out.1 first.1.1 in
    (out.0, subst (λ j. place old j ≡ Some out.0) (sym (only k h)) out.1, free, λ j member. only j member ∙ sym (only k h))
free_one most ready used old set new (inr (inr (no_due, free, is, same))) none k h = absurd (false≢true (sym (holds_none k) ∙ subst (λ n. holds n k ≡ true) is h))

both_one : (x y z : ℕ) → z ≡ min x y → x ≡ 1 → y ≡ 1 → z ≡ 0 → ⊥
both_one x y z is p q none = omega (arith, is, p, q, none)

pub apart_no : (a b i : ℕ) → bit_and a b ≡ 0 → holds a i ≡ true → holds b i ≡ true → ⊥
unfolding Has
apart_no a b i none p q =
    both_one (bit_at a i) (bit_at b i) (bit_at (bit_and a b) i) (bit_at_and a b i) (holds_has a i p) (holds_has b i q)
    (ap (λ n. bit_at n i) none ∙ bit_at-zero i)

waits_on : (plan : LabPlan) (s : State) (j : ℕ) (chain : List ℕ) → LeadsToHolder plan s j chain → (k : ℕ) × WaitsOn plan s j k
waits_on plan s j [] h = absurd h
waits_on plan s j (k ∷ []) h = (k, h.0)
waits_on plan s j (k ∷ next ∷ later) h = (k, h.0)

inside_job : (w : WorldView) (k : ℕ) → length w.state.seats ≡ length w.plan.jobs → IsInSession (drinking w.state k) → IsJob w.plan k
inside_job w k seats inside = elim (below_or k (length w.state.seats)) [
  | inl there ↦ omega (arith, there, seats)
  | inr past ↦ absurd (not_tranquil (subst IsInSession (ap (λ (x : Seat). x.phase.drinking) (get_or_past w.state.seats k no_seat past)) inside))
]

-- needed now by one that isn't in the set, it was needed before
needed_before : (old new : WorldView) (k i : ℕ) → new.plan ≡ old.plan → Goes (phase old.state k) (phase new.state k) → Needs new.plan new.state k i
    → Needs old.plan old.state k i
needed_before old new k i same goes n = record {
  in_session = inside_before (phase old.state k) (phase new.state k) goes n.in_session;
  named = subst (λ (z : LabPlan × ℕ). session_names z.0 k z.1 i ≡ true) (λ t. (same t, goes.0 t)) n.named;
}

-- the one that went in alone was free; after the rest it holds
pub free_holds : (waiting : ℕ) (w : WorldView) (there : LineView) (set : ℕ) (line : LineView) (events : List Event) (new : WorldView)
    → (n : LetsInNext waiting w there set line) → DoAndRest (said Begins) set w events new → AreAskers w there → length w.state.seats ≡ length w.plan.jobs
    → NobodyIsDue (Passed there.most) n.ready there.places → (k : ℕ) → IsJob w.plan k → Has set k → IsDrinking (phase new.state k)
free_holds waiting w there set line events new n d askers seats none k job has =
    let inside = has_holds set k has in
    let one = free_one there.most n.ready n.used there.places set line.places n.lets.places none k inside in
    let asks = askers k one.0 job one.1 in
    let began : Began (phase w.state k) (phase d.mid.state k) = subst (λ (s : State). Began (phase w.state k) (phase s k)) (sym d.each.run.leads)
    (they_began w.plan w.state set (length w.plan.jobs) k job inside (subst (λ m. k < m) (sym seats) job)) in
    let goes : Goes (phase d.mid.state k) (phase new.state k) = subst (λ (s : State). Goes (phase d.mid.state k) (phase s k)) (sym d.rests.leads.run.leads)
    (goes_all d.mid.plan d.mid.state d.later k d.rests.leads.run.legal d.rests.between) in
    elim goes.1 [
      | inr drinks ↦ inl drinks.1
      | inl same ↦
          let plan = plan_stays (said Begins) set w events new d in
          let reason = d.rests.at_rest.reasons k (subst (λ (p : LabPlan). IsJob p k) (sym plan) job) (same ∙ began.0) in
          let on = waits_on new.plan new.state k reason.0 reason.1 in
          let x = on.0 in let e = on.1.0 in let b = on.1.1 in let lacks = on.1.2 in let keeps = on.1.3 in
          let i = instrument_of new.plan e b in
          let other : x ≡ k → ⊥ = λ is. lacks.there (keeps.here ∙ ap (λ m. end_of new.plan m e) is) in
          let out : holds set x ≡ false = not_true (holds set x) (λ h. other (one.3 x h)) in
          let needs : Needs w.plan w.state x i = needed_before w new x i plan (others_go Begins set w events new d x out) keeps.needs in
          let used : holds n.used i ≡ true = (n.in_use i).1 (x, inside_job w x seats needs.in_session, needs) in
          let next : session new.state k ≡ session w.state k + 1 = goes.0 ∙ began.1 in
          let named : session_names w.plan k (session w.state k + 1) i ≡ true =
          subst (λ (z : LabPlan × ℕ). session_names z.0 k z.1 i ≡ true) (λ t. (plan t, next t)) lacks.needs.named in
          absurd (apart_no one.0.needs n.used i one.2 (asks.names i ∙ named) used)
    ]

-- ---- who stays outside has a reason

one_holds : (a i : ℕ) → bit_at a i ≡ 1 → holds a i ≡ true
unfolding Has
one_holds a i h = has_holds a i h

shared : (a b : ℕ) → bit_and a b ≢ 0 → b < 2 ^ 64 → (i : ℕ) × (holds a i ≡ true) × (holds b i ≡ true)
shared a b some small =
    let n = bit_and a b in
    let le = and_le_r a b in
    let i = trailing_zeros w64 n in
    let at = (bit_at-trailing_zeros w64 n (omega (arith, some)) (omega (arith, le, small))).1 in
    let both = bit_at_and a b i in
    let p = bit_at-lt a i in let q = bit_at-lt b i in
    (i, one_holds a i (omega (arith, at, both, p, q)), one_holds b i (omega (arith, at, both, p, q)))

pub stands_outside : (waiting : ℕ) (w : WorldView) (line : LineView) → (n : LetsInNext waiting w line 0 line) → NobodyIsDue (Passed line.most) n.ready line.places
    → NobodyIsDue (Free n.used) n.ready line.places → length line.places ≡ length w.plan.jobs → AreAskers w line → EachStandsOutside waiting w line
stands_outside waiting w line n passed free of askers j a job may at =
    let ready = has_holds n.ready j ((n.may.just j job).1 may) in
    let inside : j < length line.places = subst (λ m. j < m) (sym of) job in
    let asks = askers j a job at in
    let not_apart : bit_and a.needs n.used ≢ 0 = λ is. free j inside (ready, subst (IsDue (Free n.used)) (sym at) is) in
    let i = shared a.needs n.used not_apart n.small in
    let user = (n.in_use i.0).0 i.2 in
    record {
      passed = elim (below_or a.passed line.most) [
        | inl less ↦ less
        | inr due ↦ absurd (passed j inside (ready, subst (IsDue (Passed line.most)) (sym at) due))
      ];
      instrument = i.0;
      wanted = sym (asks.names i.0) ∙ i.1;
      user = user.0;
      is_job = user.1;
      used = user.2;
    }
