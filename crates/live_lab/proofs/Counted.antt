-- How many are let in before a job that waits outside, as its place counts them.
use Rattle.std.proofs.Common.{◌≡◌, ◌≢◌, ◌⊎◌, ℕ, zero, suc, ◌+◌, ◌^◌, ◌<◌, ◌≤◌, ◌==◌, ◌&&◌, ◌||◌, bit_and, nat_le, Bool, true, false, if◌then◌else◌, List, length, Option, Some, None, refl, sym, ap, ◌∙◌, subst, inl, inr, arith}
use Rattle.std.proofs.lemmas.Bool.{cases_eq, cases_Bool, false≢true, eq-eqb, ne_eqb}
use Rattle.std.proofs.lemmas.Nat.{pow_below}
use Rattle.std.specs.Int.Bits.{and_zero_r}
use Rattle.lab_plan.specs.IsPlan.{IsPlan}
use Rattle.lab_plan.specs.LabPlan.{LabPlan, session_names}
use Rattle.lab_plan.proofs.Shared.{session-instrument}
use Rattle.lab_plan.specs.InstrumentSets.{holds}
use Rattle.legal_steps.specs.declared.event.Event.{Event}
use Rattle.legal_steps.specs.declared.event.Event.TheVariants.{Thirst}
use Rattle.legal_steps.specs.declared.phase.Drinking.TheVariants.{Thirsty}
use Rattle.legal_steps.specs.State.{Has, drinking, session}
use Rattle.legal_steps.specs.Legal.{IsJob}
use Rattle.legal_steps.proofs.BottleSets.{empty_set, has_and}
use Rattle.interleaving.specs.World.{WorldView}
use Rattle.reasons.specs.Deeds.{sum_below}
use Rattle.late_thirst.specs.declared.asker.Asker.{Asker}
use Rattle.late_thirst.specs.Outside.{LineView, place, needs_of, apart, passed_by}
use Rattle.late_thirst.specs.LettingIn.{GoesIn, GoInPassed, LetsIn}
use Rattle.late_thirst.specs.Overtaking.{one_if_common, passes_in, passes}
use Rattle.late_thirst.proofs.Gone.{not_both, outside_if, before_in, are_gone, like_before, as_many_after}
use Rattle.late_thirst.proofs.Overtaken.{CountsOne, once}
use Rattle.live_lab.specs.declared.settle.Came.{Came}
use Rattle.live_lab.specs.declared.words.Word.TheVariants.{GivesUp}
use Rattle.live_lab.specs.Labs.{LabView, IsLineOf}
use Rattle.live_lab.specs.Rests.{IsAtRest}
use Rattle.live_lab.specs.Doing.{said}
use Rattle.live_lab.specs.Admitting.{MayAsk, AreAskers, Admits, AdmitsNext}
use Rattle.live_lab.specs.Settles.{Settles}
use Rattle.live_lab.specs.Before.{share_below, share, needing, let_in, let_in_by, IsOfAPlan, SinceAsking, let_in_since, FewAreLetInBefore}
use Rattle.live_lab.proofs.Bits.{has_holds}
use Rattle.live_lab.proofs.Lawful.{still_askers, askers_after, asked_right, apart_no}
use Rattle.live_lab.proofs.Told.{none_or_some, still_none, seats_said, seats_in, job_on, thirst_is}
use Rattle.live_lab.proofs.Waited.{none_after}

-- ---- sums

sum_same : (f g : ℕ → ℕ) (n : ℕ) → ((j : ℕ) → j < n → g j ≡ f j) → sum_below g n ≡ sum_below f n
sum_same f g zero same = refl
sum_same f g (suc n) same =
    let a = sum_same f g n (λ j below. same j (omega (arith, below))) in let b = same n (omega arith) in omega (arith, a, b)

-- all but one are the same, and that one is nothing now
sum_less : (f g : ℕ → ℕ) (n k : ℕ) → k < n → ((j : ℕ) → j ≢ k → g j ≡ f j) → g k ≡ 0 → sum_below f n ≡ sum_below g n + f k
sum_less f g zero k below same none = absurd (omega (arith, below))
sum_less f g (suc n) k below same none = elim (cases_eq k n) [
  | inl is ↦
      let a = sum_same f g n (λ j under. same j (λ z. absurd (omega (arith, under, z, is)))) in
      let b : g n ≡ 0 = ap g (sym is) ∙ none in let c : f n ≡ f k = ap f (sym is) in omega (arith, a, b, c)
  | inr other ↦
      let a = sum_less f g n k (omega (arith, below, other)) same none in
      let b = same n (λ z. other (sym z)) in omega (arith, a, b)
]

sum_both : (f g h : ℕ → ℕ) (n : ℕ) → ((j : ℕ) → j < n → f j ≡ h j + g j) → sum_below f n ≡ sum_below h n + sum_below g n
sum_both f g h zero both = refl
sum_both f g h (suc n) both =
    let a = sum_both f g h n (λ j below. both j (omega (arith, below))) in let b = both n (omega arith) in omega (arith, a, b)

-- ---- one letting-in

-- 1 if the place is for a session that needs one of the instruments
abbrev weight : ℕ → List (Option Asker) → ℕ → ℕ
weight needs places k = one_if_common needs (needs_of (place places k))

abbrev weights : ℕ → List (Option Asker) → ℕ → ℕ
weights needs places n = sum_below (weight needs places) n

none_common : (needs : ℕ) → one_if_common needs 0 ≡ 0
none_common needs = ap (λ n. if n == 0 then 0 else 1) (and_zero_r needs)

nothing_at : (needs : ℕ) (places : List (Option Asker)) (k : ℕ) → place places k ≡ None → weight needs places k ≡ 0
nothing_at needs places k none = ap (λ (o : Option Asker). one_if_common needs (needs_of o)) none ∙ none_common needs

needs_if : (b : Bool) (a m : Asker) → m.needs ≡ a.needs → needs_of (if b then Some a else Some m) ≡ a.needs
needs_if true a m same = refl
needs_if false a m same = same

needs_by : (most other : ℕ) (o : Option Asker) → needs_of (passed_by most other o) ≡ needs_of o
needs_by most other None = refl
needs_by most other (Some a) =
    needs_if (apart a.needs other || nat_le most a.passed) a (record { since = a.since; needs = a.needs; passed = a.passed + 1 }) refl

needs_stay : (b : Bool) (most other : ℕ) (o : Option Asker) → needs_of (if b then passed_by most other o else o) ≡ needs_of o
needs_stay true most other o = needs_by most other o
needs_stay false most other o = refl

goes_less : (most ready k needs n : ℕ) (old new : List (Option Asker)) → GoesIn most ready k old new → k < n
    → weights needs old n ≡ weights needs new n + weight needs old k
goes_less most ready k needs n old new goes below = sum_less (weight needs old) (weight needs new) n k below
    (λ j other. ap (one_if_common needs) (ap needs_of (goes.others j other)
    ∙ needs_stay (holds ready j) most (needs_of (place old k)) (place old j))) (nothing_at needs new k goes.inside)

chain_long : (most ready n : ℕ) (old new : List (Option Asker)) → GoInPassed most ready n old new → length new ≡ length old
chain_long most ready zero old new is = ap (λ (l : List (Option Asker)). length l) is
chain_long most ready (suc n) old new (mid, k, earlier, inside, due, goes) = goes.as_many ∙ chain_long most ready n old mid earlier

chain_less : (most ready m needs n : ℕ) (old new : List (Option Asker)) (chain : GoInPassed most ready m old new) → length old ≡ n
    → weights needs old n ≡ weights needs new n + passes_in most ready m old new chain needs
chain_less most ready zero needs n old new is long =
    let a : weights needs new n ≡ weights needs old n = ap (λ (l : List (Option Asker)). weights needs l n) is in omega (arith, a)
chain_less most ready (suc m) needs n old new (mid, k, earlier, inside, due, goes) long =
    let a = chain_less most ready m needs n old mid earlier long in
    let l = chain_long most ready m old mid earlier in
    let b = goes_less most ready k needs n mid new goes (omega (arith, inside, l, long)) in omega (arith, a, b)

lets_less : (most ready used : ℕ) (old : List (Option Asker)) (set : ℕ) (new : List (Option Asker)) (lets : LetsIn most ready used old set new) (needs n : ℕ)
    → length old ≡ n → weights needs old n ≡ weights needs new n + passes most ready used old set new lets needs
lets_less most ready used old set new (inl (some, all)) needs n long = chain_less most ready all.many needs n old new all.one_by_one long
lets_less most ready used old set new (inr (inl (none, k, first, goes, gone))) needs n long =
    goes_less most ready k needs n old new goes (let b = first.0 in omega (arith, b, long))
lets_less most ready used old set new (inr (inr (none, free, is, same))) needs n long =
    let a : weights needs new n ≡ weights needs old n = ap (λ (l : List (Option Asker)). weights needs l n) same in omega (arith, a)

-- how many of the first n jobs are in the set, and at a place for a session that needs one of these instruments
abbrev at_places : List (Option Asker) → ℕ → ℕ → ℕ → ℕ
at_places places needs set n = sum_below (λ k. if holds set k then one_if_common needs (needs_of (place places k)) else 0) n

counted_at : (b : Bool) (f g : ℕ) → (b ≡ true → g ≡ 0) → (b ≡ false → g ≡ f) → f ≡ (if b then f else 0) + g
counted_at true f g inside out = let a = inside refl in omega (arith, a)
counted_at false f g inside out = let a = out refl in omega (arith, a)

-- those of the set, and those that are left, are all that there were
set_less : (most ready used : ℕ) (old : List (Option Asker)) (set : ℕ) (new : List (Option Asker)) (lets : LetsIn most ready used old set new) (needs n : ℕ)
    → weights needs old n ≡ at_places old needs set n + weights needs new n
set_less most ready used old set new lets needs n =
    sum_both (weight needs old) (weight needs new) (λ k. if holds set k then weight needs old k else 0) n
    (λ j below. counted_at (holds set j) (weight needs old j) (weight needs new j)
    (λ inside. nothing_at needs new j (are_gone most ready used old set new lets j inside).1)
    (λ out. elim (none_or_some (place new j)) [
      | inl none ↦ nothing_at needs new j none ∙ sym (nothing_at needs old j (still_none most ready used old set new lets j out none))
      | inr one ↦
          let was = like_before most ready used old set new lets j one.0 one.1 in
          let now : needs_of (place new j) ≡ one.0.needs = ap needs_of one.1 in
          let before : needs_of (place old j) ≡ was.0.needs = ap needs_of was.1 in
          ap (one_if_common needs) (now ∙ (sym was.2 ∙ sym before))
    ]))

pub passes_are : (most ready used : ℕ) (old : List (Option Asker)) (set : ℕ) (new : List (Option Asker)) (lets : LetsIn most ready used old set new) (needs n : ℕ)
    → length old ≡ n → passes most ready used old set new lets needs ≡ at_places old needs set n
passes_are most ready used old set new lets needs n long =
    let a = lets_less most ready used old set new lets needs n long in let b = set_less most ready used old set new lets needs n in omega (arith, a, b)

-- ---- what sessions share

self_small : (x : ℕ) → x < 2 ^ x
self_small zero = omega arith
self_small (suc x) = let a = self_small x in let b = pow_below x (suc x) (omega arith) in omega (arith, a, b)

-- sets without a member in common
none_in_both : (a b : ℕ) → ((i : ℕ) → holds a i ≡ true → holds b i ≡ true → ⊥) → bit_and a b ≡ 0
none_in_both a b none = empty_set (bit_and a b) (bit_and a b) (self_small (bit_and a b))
    (λ i below h. let both = (has_and a b i).0 h in none i (has_holds a i both.0) (has_holds b i both.1))

both_true : (p q : Bool) → p && q ≡ true → (p ≡ true) × (q ≡ true)
both_true true true h = (refl, refl)
both_true true false h = absurd (false≢true h)
both_true false q h = absurd (false≢true h)

or_both : (r p q : Bool) → r || (p && q) ≡ true → (r ≡ true) ⊎ ((p ≡ true) × (q ≡ true))
or_both true p q h = inl refl
or_both false p q h = inr (both_true p q h)

or_true : (r p q : Bool) → r || (p && q) ≡ false → (r ≡ false) × (p ≡ true → q ≡ true → ⊥)
or_true true p q h = absurd (false≢true (sym h))
or_true false true true h = absurd (false≢true (sym h))
or_true false true false h = (refl, λ a b. false≢true b)
or_true false false q h = (refl, λ a b. false≢true a)

shared_one : (plan : LabPlan) (a n b m i : ℕ) → share_below plan a n b m i ≡ true
    → (k : ℕ) × (session_names plan a n k ≡ true) × (session_names plan b m k ≡ true)
shared_one plan a n b m zero h = absurd (false≢true h)
shared_one plan a n b m (suc i) h = elim (or_both (share_below plan a n b m i) (session_names plan a n i) (session_names plan b m i) h) [
  | inl before ↦ shared_one plan a n b m i before
  | inr now ↦ (i, now.0, now.1)
]

shared_none : (plan : LabPlan) (a n b m i : ℕ) → share_below plan a n b m i ≡ false → (k : ℕ) → k < i → session_names plan a n k ≡ true
    → session_names plan b m k ≡ true → ⊥
shared_none plan a n b m zero h k below p q = absurd (omega (arith, below))
shared_none plan a n b m (suc i) h k below p q =
    let parts = or_true (share_below plan a n b m i) (session_names plan a n i) (session_names plan b m i) h in
    elim (cases_eq k i) [
      | inl is ↦ parts.1 (subst (λ z. session_names plan a n z ≡ true) is p) (subst (λ z. session_names plan b m z ≡ true) is q)
      | inr other ↦ shared_none plan a n b m i parts.0 k (omega (arith, below, other)) p q
    ]

-- sets of what two sessions need have a member in common just if the sessions share an instrument
common_is_shared : (plan : LabPlan) (a n b m x y : ℕ) → IsPlan plan → ((i : ℕ) → holds x i ≡ session_names plan a n i)
    → ((i : ℕ) → holds y i ≡ session_names plan b m i) → one_if_common x y ≡ (if share plan a n b m then 1 else 0)
common_is_shared plan a n b m x y is_plan first second = elim (cases_Bool (share plan a n b m)) [
  | inl one ↦
      let w = shared_one plan a n b m (length plan.instruments) one in
      let some : bit_and x y ≢ 0 = λ none. apart_no x y w.0 none (first w.0 ∙ w.1) (second w.0 ∙ w.2) in
      let not_apart : apart x y ≡ false = ne_eqb (bit_and x y) 0 some in
      ap (λ (p : Bool). if p then 0 else 1) not_apart ∙ sym (ap (λ (p : Bool). if p then 1 else 0) one)
  | inr none ↦
      let empty : bit_and x y ≡ 0 = none_in_both x y (λ i p q. shared_none plan a n b m (length plan.instruments) none i
      (session-instrument plan a n i is_plan.draft.named (sym (first i) ∙ p)) (sym (first i) ∙ p) (sym (second i) ∙ q)) in
      let are_apart : apart x y ≡ true = eq-eqb (bit_and x y) 0 empty in
      ap (λ (p : Bool). if p then 0 else 1) are_apart ∙ sym (ap (λ (p : Bool). if p then 1 else 0) none)
]

in_and : (p q : Bool) (x : ℕ) → x ≡ (if q then 1 else 0) → (if p then x else 0) ≡ (if p && q then 1 else 0)
in_and true q x h = h
in_and false q x h = refl

-- who is let in, by its place and by its session
module _ (w : WorldView) (there : LineView) (set : ℕ) (ready used most : ℕ) (new : List (Option Asker)) (lets : LetsIn most ready used there.places set new)
    (is_plan : IsPlan w.plan) (askers : AreAskers w there) (j : ℕ) (job : IsJob w.plan j) (m : Asker) (at : place there.places j ≡ Some m) where
  by_session : (k : ℕ) → IsJob w.plan k → (if holds set k then one_if_common m.needs (needs_of (place there.places k)) else 0)
      ≡ (if holds set k && share w.plan j (session w.state j + 1) k (session w.state k + 1) then 1 else 0)
  by_session k its = elim (cases_Bool (holds set k)) [
    | inr out ↦ (λ i. if out i then one_if_common m.needs (needs_of (place there.places k)) else 0)
        ∙ sym (λ i. if out i && share w.plan j (session w.state j + 1) k (session w.state k + 1) then 1 else 0)
    | inl inside ↦
        let was = (are_gone most ready used there.places set new lets k inside).0 in
        let mine = askers j m job at in
        let theirs = askers k was.0 its was.1 in
        in_and (holds set k) (share w.plan j (session w.state j + 1) k (session w.state k + 1)) (one_if_common m.needs (needs_of (place there.places k)))
        (ap (λ (o : Option Asker). one_if_common m.needs (needs_of o)) was.1
        ∙ common_is_shared w.plan j (session w.state j + 1) k (session w.state k + 1) m.needs was.0.needs is_plan mine.names theirs.names)
  ]

  needing_is : at_places there.places m.needs set (length w.plan.jobs) ≡ needing w.plan w.state j set (length w.plan.jobs)
  needing_is = sum_same (λ k. if holds set k && share w.plan j (session w.state j + 1) k (session w.state k + 1) then 1 else 0)
      (λ k. if holds set k then one_if_common m.needs (needs_of (place there.places k)) else 0) (length w.plan.jobs) (λ k below. by_session k below)

-- ---- letting-ins one after another

-- what is so between them
record Between (w : WorldView) (line : LineView) : Type 0 where
  pub at_rest : IsAtRest w
  pub askers : AreAskers w line
  pub is_plan : IsPlan w.plan
  pub line_of : IsLineOf w line

between_next : (waiting : ℕ) (w : WorldView) (there : LineView) (set : ℕ) (events : List Event) (new : WorldView) (line : LineView)
    → AdmitsNext waiting w there set events new line → Between w there → Between new line
between_next waiting w there set events new line n b = record {
  at_rest = n.begins.rests.at_rest;
  askers = still_askers waiting w there set line events new n.lets n.begins b.askers;
  is_plan = subst IsPlan (sym (seats_said (λ j. Thirst j) set w events new n.begins).0) b.is_plan;
  line_of = as_many_after there.most n.lets.ready n.lets.used there.places set line.places n.lets.lets.places
      ∙ (b.line_of ∙ ap (λ (p : LabPlan). length p.jobs) (sym (seats_said (λ j. Thirst j) set w events new n.begins).0));
}

between_all : (waiting n : ℕ) (old : WorldView) (line : LineView) (events : List Event) (new : WorldView) (line' : LineView)
    → Admits waiting n old line events new line' → Between old line → Between new line'
between_all waiting zero old line events new line' (none, same, is) b =
    subst (λ (z : WorldView × LineView). Between z.0 z.1) (λ i. (sym same i, sym is i)) b
between_all waiting (suc n) old line events new line' (mid, there, before, set, last, earlier, next, is) b =
    between_next waiting mid there set last new line' next (between_all waiting n old line before mid there earlier b)

-- how a place counts on
pub record GoesOnCounting (a b : Asker) (n : ℕ) (old new : LineView) : Type 0 where
  pub needs : b.needs ≡ a.needs
  pub passed : b.passed ≡ a.passed + n
  pub most : new.most ≡ old.most

-- a job that has a place, and is waited for, may ask
may_ask : (waiting : ℕ) (w : WorldView) (line : LineView) (j : ℕ) (m : Asker) → Between w line → IsJob w.plan j → Has waiting j → place line.places j ≡ Some m
    → MayAsk waiting w j
may_ask waiting w line j m b job has at =
    let asks = b.askers j m job at in
    (has, (job, asks.tranquil, (λ eats. thirst_is (drinking w.state j) asks.tranquil (b.at_rest.nobody_dawdles j job eats)), asks.left))

count_one : (waiting : ℕ) (w : WorldView) (there : LineView) (set : ℕ) (events : List Event) (new : WorldView) (line : LineView)
    → AdmitsNext waiting w there set events new line → Between w there → (j : ℕ) → IsJob w.plan j → Has waiting j → (m b : Asker)
    → place there.places j ≡ Some m → place line.places j ≡ Some b → GoesOnCounting m b (needing w.plan w.state j set (length w.plan.jobs)) there line
count_one waiting w there set events new line n between j job has m b at at' =
    let lets = n.lets in
    let ready : holds lets.ready j ≡ true = has_holds lets.ready j ((lets.may.just j job).1 (may_ask waiting w there j m between job has at)) in
    let one = once j there line (inl (lets.ready, lets.used, set, lets.lets)) m b at at' in
    let many = passes there.most lets.ready lets.used there.places set line.places lets.lets.places m.needs in
    let counts : CountsOne there.most many m b = subst (λ (r : Bool). CountsOne there.most (if r then many else 0) m b) ready one.0 in
    let same = passes_are there.most lets.ready lets.used there.places set line.places lets.lets.places m.needs (length w.plan.jobs) between.line_of
    ∙ needing_is w there set lets.ready lets.used there.most line.places lets.lets.places between.is_plan between.askers j job m at in
    record { needs = counts.counted.needs; passed = counts.counted.passed ∙ ap (λ k. m.passed + k) same; most = one.1 }

one_asker : (x y : Asker) → Some x ≡ Some y → x ≡ y
one_asker x y is = cc

sum_of : (a b c x y : ℕ) → b ≡ a + x → c ≡ b + y → c ≡ a + (x + y)
sum_of a b c x y p q = omega (arith, p, q)

none_added : (a b : Asker) → a ≡ b → b.passed ≡ a.passed + 0
none_added a b is = let p = ap (λ (z : Asker). z.passed) is in omega (arith, p)

count_all : (waiting n : ℕ) (old : WorldView) (line : LineView) (events : List Event) (new : WorldView) (line' : LineView)
    → (all : Admits waiting n old line events new line') → Between old line → (j : ℕ) → IsJob old.plan j → Has waiting j → (a b : Asker)
    → place line.places j ≡ Some a → place line'.places j ≡ Some b → GoesOnCounting a b (let_in waiting n old line events new line' all j) line line'
count_all waiting zero old line events new line' (none, same, is) between j job has a b at at' =
    let one : a ≡ b = one_asker a b (sym at ∙ (ap (λ (x : LineView). place x.places j) (sym is) ∙ at')) in
    record { needs = sym (ap (λ (z : Asker). z.needs) one); passed = none_added a b one; most = ap (λ (x : LineView). x.most) is }
count_all waiting (suc n) old line events new line' (mid, there, before, set, last, earlier, next, is) between j job has a b at at' =
    let lets = next.lets in
    let m = outside_if (place there.places j) (λ none. not_both (place line'.places j) b at'
    (before_in there.most lets.ready lets.used there.places set line'.places lets.lets.places j none)) in
    let x = count_all waiting n old line before mid there earlier between j job has a m.0 at m.1 in
    let mid_job = job_on old mid j (seats_in waiting n old line before mid there earlier) job in
    let y = count_one waiting mid there set last new line' next (between_all waiting n old line before mid there earlier between) j mid_job has m.0 b m.1 at' in
    record {
      needs = y.needs ∙ x.needs;
      passed = sum_of a.passed m.0.passed b.passed (let_in waiting n old line before mid there earlier j) (needing mid.plan mid.state j set (length mid.plan.jobs))
          x.passed y.passed;
      most = y.most ∙ x.most;
    }

-- ---- a settle

thirsty_ones : (waiting : ℕ) (old : LabView) (came : Came) (new : LabView) (s : Settles waiting old came new) (j : ℕ) → IsJob s.joined.plan j → Has came.given_up j
    → drinking s.joined.state j ≡ Thirsty
thirsty_ones waiting old came new s j job has = ((s.gives_up.just j job).0 has).0.1

admits_askers : (waiting n : ℕ) (old : WorldView) (line : LineView) (events : List Event) (new : WorldView) (line' : LineView)
    → Admits waiting n old line events new line' → AreAskers old line → AreAskers new line'
admits_askers waiting zero old line events new line' (none, same, is) b =
    subst (λ (z : WorldView × LineView). AreAskers z.0 z.1) (λ i. (sym same i, sym is i)) b
admits_askers waiting (suc n) old line events new line' (mid, there, before, set, last, earlier, next, is) b =
    still_askers waiting mid there set line' last new next.lets next.begins (admits_askers waiting n old line before mid there earlier b)

-- who asks where the jobs asked, and where the second letting-ins begin
asking_ones : (waiting : ℕ) (old : LabView) (came : Came) (new : LabView) (s : Settles waiting old came new)
    → AreAskers s.rested s.asking × AreAskers s.left s.left_out
asking_ones waiting old came new s =
    let first = asked_right waiting s.rested old.line s.asking s.asks in
    let second = admits_askers waiting s.joins.times s.rested s.asking s.second s.joined s.left_out s.joins.one_by_one first in
    (first, askers_after s.joined s.left_out came.given_up s.third s.left s.leaves (thirsty_ones waiting old came new s) second)

module _ (waiting : ℕ) (old : LabView) (came : Came) (new : LabView) (s : Settles waiting old came new) (right : IsOfAPlan old)
    (j : ℕ) (job : IsJob old.world.plan j) (has : Has waiting j) where
  abbrev first_same : s.rested.plan ≡ old.world.plan
  first_same = s.rests.leads.same_plan

  between_first : Between s.rested s.asking
  between_first = record {
    at_rest = s.rests.at_rest;
    askers = (asking_ones waiting old came new s).0;
    is_plan = subst IsPlan (sym first_same) right.0;
    line_of = s.asks.as_many ∙ (right.1 ∙ ap (λ (p : LabPlan). length p.jobs) (sym first_same));
  }

  between_joined : Between s.joined s.left_out
  between_joined = between_all waiting s.joins.times s.rested s.asking s.second s.joined s.left_out s.joins.one_by_one between_first

  given_same : s.left.plan ≡ s.joined.plan
  given_same = (seats_said (said GivesUp) came.given_up s.joined s.third s.left s.leaves).0

  between_left : Between s.left s.left_out
  between_left = record {
    at_rest = s.leaves.rests.at_rest;
    askers = (asking_ones waiting old came new s).1;
    is_plan = subst IsPlan (sym given_same) between_joined.is_plan;
    line_of = between_joined.line_of ∙ ap (λ (p : LabPlan). length p.jobs) (sym given_same);
  }

  between_new : Between new.world new.line
  between_new = between_all waiting s.rejoins.times s.left s.left_out s.fourth new.world new.line s.rejoins.one_by_one between_left

  rested_job : IsJob s.rested.plan j
  rested_job = subst (λ (p : LabPlan). IsJob p j) (sym first_same) job

  left_job : IsJob s.left.plan j
  left_job = subst (λ (p : LabPlan). IsJob p j) (sym given_same)
      (job_on s.rested s.joined j (seats_in waiting s.joins.times s.rested s.asking s.second s.joined s.left_out s.joins.one_by_one) rested_job)

  new_job : IsJob new.world.plan j
  new_job = job_on s.left new.world j (seats_in waiting s.rejoins.times s.left s.left_out s.fourth new.world new.line s.rejoins.one_by_one) left_job

  -- counted, and less often than the line's number
  pub settle_counts : (a b : Asker) → place s.asking.places j ≡ Some a → place new.line.places j ≡ Some b
      → GoesOnCounting a b (let_in_by waiting old came new s j) s.asking new.line × (b.passed < new.line.most)
  settle_counts a b at at' =
      let m = outside_if (place s.left_out.places j) (λ none. not_both (place new.line.places j) b at'
      (none_after waiting s.rejoins.times s.left s.left_out s.fourth new.world new.line s.rejoins.one_by_one j none)) in
      let x = count_all waiting s.joins.times s.rested s.asking s.second s.joined s.left_out s.joins.one_by_one between_first j rested_job has a m.0 at m.1 in
      let y = count_all waiting s.rejoins.times s.left s.left_out s.fourth new.world new.line s.rejoins.one_by_one between_left j left_job has m.0 b m.1 at' in (
        record {
          needs = y.needs ∙ x.needs;
          passed = sum_of a.passed m.0.passed b.passed (let_in waiting s.joins.times s.rested s.asking s.second s.joined s.left_out s.joins.one_by_one j)
              (let_in waiting s.rejoins.times s.left s.left_out s.fourth new.world new.line s.rejoins.one_by_one j) x.passed y.passed;
          most = y.most ∙ x.most;
        },
        (s.outside j b new_job (may_ask waiting new.world new.line j b between_new new_job has at') at').passed,
      )

-- ---- from asking on

-- what its place counts then
record HasCounted (n : ℕ) (new : LabView) (b : Asker) : Type 0 where
  pub passed : b.passed ≡ n
  pub few : b.passed ≤ new.line.most

counted_on : (n m k : ℕ) (new : LabView) (a b : Asker) → a.passed ≡ n → b.passed ≡ a.passed + m → b.passed < new.line.most → k ≡ n + m → HasCounted k new b
counted_on n m k new a b q s small is = record { passed = omega (arith, q, s, is); few = omega (arith, small) }

since_counts : (j n : ℕ) (old new : LabView) (since : SinceAsking j n old new) (b : Asker) → place new.line.places j ≡ Some b
    → HasCounted (let_in_since j n old new since) new b
since_counts j zero old new (waiting, came, right, job, has, s, needs, asks) b at =
    let a : Asker = record { since = s.asking.calls; needs = needs; passed = 0 } in
    let c = settle_counts waiting old came new s right j job has a b asks at in
    let many = let_in_by waiting old came new s j in
    counted_on 0 many many new a b refl c.0.passed c.1 (omega arith)
since_counts j (suc n) old new (mid, since, inl (waiting, came, right, job, has, s, stays)) b at =
    let a = outside_if (place s.asking.places j) (λ none. not_both (place new.line.places j) b at
    (none_after waiting s.rejoins.times s.left s.left_out s.fourth new.world new.line s.rejoins.one_by_one j
    (none_after waiting s.joins.times s.rested s.asking s.second s.joined s.left_out s.joins.one_by_one j none))) in
    let x = since_counts j n old mid since a.0 (sym stays ∙ a.1) in
    let c = settle_counts waiting mid came new s right j job has a.0 b a.1 at in
    let before = let_in_since j n old mid since in
    let many = let_in_by waiting mid came new s j in
    counted_on before many (before + many) new a.0 b x.passed c.0.passed c.1 refl
since_counts j (suc n) old new (mid, since, inr (same, most)) b at =
    let x = since_counts j n old mid since b (sym same ∙ at) in
    record { passed = x.passed; few = subst (λ k. b.passed ≤ k) (sym most) x.few }

pub few_before : FewAreLetInBefore
few_before j n old new since (b, at) = let x = since_counts j n old new since b at in let p = x.passed in let q = x.few in omega (arith, p, q)
