-- Whoever is waited for is told how it went, or waits for a job that holds.
use Rattle.std.proofs.Common.{◌≡◌, ◌⊎◌, ℕ, zero, suc, ◌<◌, ◌≤◌, Bool, false, true, List, length, Option, Some, None, refl, sym, ap, ◌∙◌, subst, inl, inr, arith}
use Rattle.std.proofs.lemmas.Bool.{cases_Bool}
use Rattle.lab_plan.specs.LabPlan.{LabPlan, sessions}
use Rattle.lab_plan.specs.InstrumentSets.{holds}
use Rattle.legal_steps.specs.declared.event.Event.{Event}
use Rattle.legal_steps.specs.declared.event.Event.TheVariants.{Thirst}
use Rattle.legal_steps.specs.declared.phase.JobState.{JobState}
use Rattle.legal_steps.specs.declared.phase.Drinking.{Drinking}
use Rattle.legal_steps.specs.declared.phase.Drinking.TheVariants.{Tranquil, Thirsty, Drinking as Drinks, Reaching, Retired}
use Rattle.legal_steps.specs.State.{State, Has, IsDrinking, IsInSession, phase, drinking, session}
use Rattle.legal_steps.specs.Legal.{IsJob}
use Rattle.legal_steps.proofs.FitsLaw.{not_tranquil, not_retired}
use Rattle.interleaving.specs.World.{WorldView}
use Rattle.late_thirst.specs.declared.asker.Asker.{Asker}
use Rattle.late_thirst.specs.Outside.{LineView, place}
use Rattle.late_thirst.specs.LettingIn.{LetsIn}
use Rattle.late_thirst.proofs.Gone.{not_both, outside_if}
use Rattle.live_lab.specs.declared.clock.Clock.{Clock}
use Rattle.live_lab.specs.declared.settle.Came.{Came}
use Rattle.live_lab.specs.declared.words.Word.TheVariants.{Begins, GivesUp}
use Rattle.live_lab.specs.Labs.{LabView}
use Rattle.live_lab.specs.Sets.{AreJobs, events_of_jobs}
use Rattle.live_lab.specs.Rests.{IsAtRest, DoAndRest}
use Rattle.live_lab.specs.Doing.{said}
use Rattle.live_lab.specs.Admitting.{MayAsk, Asks, IsNext, IsPlaceFor, IsPlaceFrom, AdmitsNext, Admits, AdmitsAll}
use Rattle.live_lab.specs.Settles.{IsThrough}
use Rattle.live_lab.specs.Told.{HasAHolderAhead, WaitsForAHolder}
use Rattle.live_lab.proofs.Bits.{holds_has}
use Rattle.live_lab.proofs.Frames.{Goes, goes_all, Began, they_began, below_or, seats_below}
use Rattle.live_lab.proofs.Lawful.{others_go}

-- the job is in a session; or it is as it was, and if it has no place in line it had none
abbrev pub GoesOrIn : JobState → Option Asker → JobState → Option Asker → Type 0
GoesOrIn p o q o' = IsInSession q.drinking ⊎ ((q.session ≡ p.session) × (q.drinking ≡ p.drinking) × (o' ≡ None → o ≡ None))

in_both : (p q r : JobState) (a b c : Option Asker) → GoesOrIn p a q b → GoesOrIn q b r c → GoesOrIn p a r c
in_both p q r a b c f (inl x) = inl x
in_both p q r a b c (inl x) (inr (s, d, n)) = inl (subst IsInSession (sym d) x)
in_both p q r a b c (inr (s, d, n)) (inr (t, e, m)) = inr (t ∙ s, e ∙ d, λ z. n (m z))

of_goes : (p q : JobState) (a b : Option Asker) → Goes p q → (b ≡ None → a ≡ None) → GoesOrIn p a q b
of_goes p q a b (s, inl d) n = inr (s, d, n)
of_goes p q a b (s, inr (t, u)) n = inl (inr (inl u))

inside_still : (p q : JobState) → Goes p q → IsInSession p.drinking → IsInSession q.drinking
inside_still p q (s, inl d) h = subst IsInSession (sym d) h
inside_still p q (s, inr (t, u)) h = inr (inl u)

gone_if : (most ready used : ℕ) (old : List (Option Asker)) (set : ℕ) (new : List (Option Asker)) → LetsIn most ready used old set new → (j : ℕ) (a : Asker)
    → place old j ≡ Some a → place new j ≡ None → holds set j ≡ true
gone_if most ready used old set new (inl (some, all)) j a at none = (all.gone j).1 ((a, at), none)
gone_if most ready used old set new (inr (inl (due, k, first, goes, gone))) j a at none = (gone j).1 ((a, at), none)
gone_if most ready used old set new (inr (inr (due, free, is, same))) j a at none =
    absurd (not_both (place old j) a at (ap (λ (l : List (Option Asker)). place l j) (sym same) ∙ none))

pub none_or_some : (o : Option Asker) → (o ≡ None) ⊎ ((a : Asker) × (o ≡ Some a))
none_or_some None = inl refl
none_or_some (Some a) = inr (a, refl)

pub still_none : (most ready used : ℕ) (old : List (Option Asker)) (set : ℕ) (new : List (Option Asker)) → LetsIn most ready used old set new → (j : ℕ)
    → holds set j ≡ false → place new j ≡ None → place old j ≡ None
still_none most ready used old set new lets j out none = elim (none_or_some (place old j)) [
  | inl is ↦ is
  | inr one ↦ let in_set = gone_if most ready used old set new lets j one.0 one.1 none in absurd (both_ways (holds set j) in_set out)
] where
  both_ways : (b : Bool) → b ≡ true → b ≡ false → ⊥
  both_ways true t f = cc
  both_ways false t f = cc

-- ---- round after round

-- each job has a seat
abbrev pub HasSeats : WorldView → Type 0
HasSeats w = length w.state.seats ≡ length w.plan.jobs

-- the plan is the same, and so many seats there are
abbrev pub SameSeats : WorldView → WorldView → Type 0
SameSeats old new = (new.plan ≡ old.plan) × (length new.state.seats ≡ length old.state.seats)

pub seats_said : (event : ℕ → Event) (set : ℕ) (old : WorldView) (events : List Event) (new : WorldView) → DoAndRest event set old events new → SameSeats old new
seats_said event set old events new d = (
  d.rests.leads.same_plan ∙ d.each.same_plan,
  (ap (λ (s : State). length s.seats) d.rests.leads.run.leads ∙ seats_below d.mid.plan d.mid.state d.later)
      ∙ (ap (λ (s : State). length s.seats) d.each.run.leads ∙ seats_below old.plan old.state (events_of_jobs event old.plan set)),
)

pub seats_in : (waiting n : ℕ) (old : WorldView) (line : LineView) (events : List Event) (new : WorldView) (line' : LineView)
    → Admits waiting n old line events new line' → SameSeats old new
seats_in waiting zero old line events new line' (none, same, is) = (ap (λ (w : WorldView). w.plan) same, ap (λ (w : WorldView). length w.state.seats) same)
seats_in waiting (suc n) old line events new line' (mid, there, before, set, last, earlier, next, is) =
    let a = seats_in waiting n old line before mid there earlier in
    let b = seats_said (λ j. Thirst j) set mid last new next.begins in
    (b.0 ∙ a.0, b.1 ∙ a.1)

pub job_on : (old new : WorldView) (j : ℕ) → SameSeats old new → IsJob old.plan j → IsJob new.plan j
job_on old new j same job = subst (λ (p : LabPlan). IsJob p j) (sym same.0) job

pub seats_on : (old new : WorldView) → SameSeats old new → HasSeats old → HasSeats new
seats_on old new same has = same.1 ∙ (has ∙ ap (λ (p : LabPlan). length p.jobs) (sym same.0))

pub seats_before : (old new : WorldView) → SameSeats old new → HasSeats new → HasSeats old
seats_before old new same has = sym same.1 ∙ (has ∙ ap (λ (p : LabPlan). length p.jobs) same.0)

round_in : (waiting : ℕ) (w : WorldView) (there : LineView) (set : ℕ) (events : List Event) (new : WorldView) (line : LineView)
    → AdmitsNext waiting w there set events new line → HasSeats w → (j : ℕ) → IsJob w.plan j
    → GoesOrIn (phase w.state j) (place there.places j) (phase new.state j) (place line.places j)
round_in waiting w there set events new line n seats j job =
    let d = n.begins in
    elim (cases_Bool (holds set j)) [
      | inl inside ↦
          let began : Began (phase w.state j) (phase d.mid.state j) = subst (λ (s : State). Began (phase w.state j) (phase s j)) (sym d.each.run.leads)
          (they_began w.plan w.state set (length w.plan.jobs) j job inside (subst (λ m. j < m) (sym seats) job)) in
          let goes : Goes (phase d.mid.state j) (phase new.state j) = subst (λ (s : State). Goes (phase d.mid.state j) (phase s j)) (sym d.rests.leads.run.leads)
          (goes_all d.mid.plan d.mid.state d.later j d.rests.leads.run.legal d.rests.between) in
          inl (inside_still (phase d.mid.state j) (phase new.state j) goes (inl began.0))
      | inr out ↦ of_goes (phase w.state j) (phase new.state j) (place there.places j) (place line.places j) (others_go Begins set w events new d j out)
          (still_none there.most n.lets.ready n.lets.used there.places set line.places n.lets.lets.places j out)
    ]

rounds_in : (waiting n : ℕ) (old : WorldView) (line : LineView) (events : List Event) (new : WorldView) (line' : LineView)
    → Admits waiting n old line events new line' → HasSeats old → (j : ℕ) → IsJob old.plan j
    → GoesOrIn (phase old.state j) (place line.places j) (phase new.state j) (place line'.places j)
rounds_in waiting zero old line events new line' (none, same, is) seats j job = inr (
  ap (λ (w : WorldView). session w.state j) same,
  ap (λ (w : WorldView). drinking w.state j) same,
  λ z. ap (λ (x : LineView). place x.places j) (sym is) ∙ z,
)
rounds_in waiting (suc n) old line events new line' (mid, there, before, set, last, earlier, next, is) seats j job =
    let same = seats_in waiting n old line before mid there earlier in
    in_both (phase old.state j) (phase mid.state j) (phase new.state j) (place line.places j) (place there.places j) (place line'.places j)
    (rounds_in waiting n old line before mid there earlier seats j job)
    (round_in waiting mid there set last new line' next (seats_on old mid same seats) j (job_on old mid j same job))

-- ---- who may ask has asked

asked_one : (waiting : ℕ) (w : WorldView) (calls j : ℕ) (next : Option ℕ) (old new : Option Asker) → IsNext w.plan w.state j next
    → IsPlaceFrom waiting w calls j next old new → MayAsk waiting w j → new ≡ None → ⊥
asked_one waiting w calls j None old new next is may none = let a = may.1.1 in let n = next a in let m = may.1.3 in omega (arith, n, m)
asked_one waiting w calls j (Some needs) old new next (inl (for, same)) may none = absurd (subst (IsPlaceFor needs) (sym same ∙ none) for)
asked_one waiting w calls j (Some needs) old new next (inr (inl (other, may', is))) may none = not_both new _ is none
asked_one waiting w calls j (Some needs) old new next (inr (inr (other, may_not, is))) may none = may_not may

pub thirst_is : (d : Drinking) → d ≡ Tranquil → d ≡ Thirsty → ⊥
thirst_is d is h = cc

few_or : (a b : ℕ) → (a < b) ⊎ (b ≤ a)
few_or a b = below_or a b

module _ (waiting : ℕ) (w1 : WorldView) (old asking : LineView) (second : List Event) (w3 : WorldView) (left_out : LineView) (third : List Event) (w4 : WorldView)
    (fourth : List Event) (w5 : WorldView) (line : LineView) (clocks : List Clock) (came : Came) (at1 : IsAtRest w1) (asks : Asks waiting w1 old asking)
    (seats : HasSeats w1) (joins : AdmitsAll waiting w1 asking second w3 left_out) (leaves : DoAndRest (said GivesUp) came.given_up w3 third w4)
    (rejoins : AdmitsAll waiting w4 left_out fourth w5 line) (at5 : IsAtRest w5)
    (retired : (j : ℕ) → drinking w5.state j ≡ Retired → length (sessions w5.plan j) ≤ session w5.state j)
    (holding : AreJobs w5.plan came.holds (λ j. IsDrinking (phase w5.state j)))
    (through : AreJobs w5.plan came.none_left (λ j. Has waiting j × IsThrough w5.plan w5.state j)) where
  abbrev new : LabView
  new = record { world = w5; clocks = clocks; line = line }

  abbrev Told : ℕ → Type 0
  Told j = Has came.holds j ⊎ Has came.given_up j ⊎ Has came.none_left j ⊎ WaitsForAHolder new j

  same13 : SameSeats w1 w3
  same13 = seats_in waiting joins.times w1 asking second w3 left_out joins.one_by_one

  same34 : SameSeats w3 w4
  same34 = seats_said (said GivesUp) came.given_up w3 third w4 leaves

  same45 : SameSeats w4 w5
  same45 = seats_in waiting rejoins.times w4 left_out fourth w5 line rejoins.one_by_one

  -- one that gave nothing up in this call
  all_the_way : (j : ℕ) → IsJob w1.plan j → holds came.given_up j ≡ false
      → GoesOrIn (phase w1.state j) (place asking.places j) (phase w5.state j) (place line.places j)
  all_the_way j job out =
      let j3 = job_on w1 w3 j same13 job in
      let j4 = job_on w3 w4 j same34 j3 in
      let s4 = seats_on w3 w4 same34 (seats_on w1 w3 same13 seats) in
      let first = rounds_in waiting joins.times w1 asking second w3 left_out joins.one_by_one seats j job in
      let mid = of_goes (phase w3.state j) (phase w4.state j) (place left_out.places j) (place left_out.places j)
      (others_go GivesUp came.given_up w3 third w4 leaves j out) (λ z. z) in
      let last = rounds_in waiting rejoins.times w4 left_out fourth w5 line rejoins.one_by_one s4 j j4 in
      in_both (phase w1.state j) (phase w4.state j) (phase w5.state j) (place asking.places j) (place left_out.places j) (place line.places j)
      (in_both (phase w1.state j) (phase w3.state j) (phase w4.state j) (place asking.places j) (place left_out.places j) (place left_out.places j) first mid) last

  job_first : (j : ℕ) → IsJob w5.plan j → IsJob w1.plan j
  job_first j job = subst (λ (p : LabPlan). IsJob p j) (same45.0 ∙ (same34.0 ∙ same13.0)) job

  holder_ahead : (k : ℕ) → IsJob w5.plan k → IsInSession (drinking w5.state k) → IsDrinking (phase w5.state k) ⊎ HasAHolderAhead w5 k
  holder_ahead k job (inl thirsty) = let chain = at5.reasons k job thirsty in inr (thirsty, chain.0, chain.1)
  holder_ahead k job (inr drinks) = inl drinks

  -- a tranquil job that has a session left
  waits_outside : (j : ℕ) → IsJob w5.plan j → Has waiting j → drinking w5.state j ≡ Tranquil → session w5.state j < length (sessions w5.plan j) → Told j
  waits_outside j job has is left = elim (cases_Bool (holds came.given_up j)) [
    | inl gave ↦ inr (inl (holds_has came.given_up j gave))
    | inr out ↦ elim (all_the_way j (job_first j job) out) [
      | inl inside ↦ absurd (not_tranquil (subst IsInSession is inside))
      | inr (same, drinks, before) ↦
          let job1 = job_first j job in
          let is1 : drinking w1.state j ≡ Tranquil = sym drinks ∙ is in
          let left1 : session w1.state j < length (sessions w1.plan j) = subst (λ (z : LabPlan × ℕ). z.1 < length (sessions z.0 j))
          (λ i. ((same45.0 ∙ (same34.0 ∙ same13.0)) i, same i)) left in
          let may1 : MayAsk waiting w1 j = (has, (job1, is1, (λ eats. thirst_is (drinking w1.state j) is1 (at1.nobody_dawdles j job1 eats)), left1)) in
          let may5 : MayAsk waiting w5 j = (has, (job, is, (λ eats. thirst_is (drinking w5.state j) is (at5.nobody_dawdles j job eats)), left)) in
          let e = asks.each j job1 in
          let a = outside_if (place line.places j)
          (λ none. asked_one waiting w1 asking.calls j e.0 (place old.places j) (place asking.places j) e.1 e.2 may1 (before none)) in
          let stands = rejoins.outside j a.0 job may5 a.1 in
          inr (inr (inr (inr (
            a.0,
            (a.1, λ inside. not_tranquil (subst IsInSession is inside)),
            stands,
            holder_ahead stands.user stands.is_job stands.used.in_session,
          ))))
    ]
  ]

  pub each_told : (j : ℕ) → IsJob w5.plan j → Has waiting j → Told j
  each_told j job has = at (drinking w5.state j) refl where
    at : (d : Drinking) → drinking w5.state j ≡ d → Told j
    at Drinks is = inl ((holding.just j job).1 (inl is))
    at Reaching is = inl ((holding.just j job).1 (inr is))
    at Thirsty is = let chain = at5.reasons j job is in inr (inr (inr (inl (is, chain.0, chain.1))))
    at Retired is = inr (inr (inl ((through.just j job).1 (has, (λ inside. not_retired (subst IsInSession is inside), retired j is)))))
    at Tranquil is = elim (few_or (session w5.state j) (length (sessions w5.plan j))) [
      | inl left ↦ waits_outside j job has is left
      | inr none ↦ inr (inr (inl ((through.just j job).1 (has, (λ inside. not_tranquil (subst IsInSession is inside), none)))))
    ]
