-- If nobody has to wait outside, all who ask are let in at once.
use Rattle.std.proofs.Common.{◌≡◌, ◌≢◌, ℕ, zero, suc, ◌<◌, if◌then◌else◌, List, [], ◌∷◌, ◌++◌, length, Option, Some, None, refl, sym, ◌∙◌, subst, inl, inr, arith}
use Rattle.std.proofs.lemmas.Bool.{false≢true}
use Rattle.std.proofs.lemmas.List.{get_or_past}
use Rattle.std.proofs.lemmas.Nat.{pow_pos}
use Rattle.lab_plan.specs.InstrumentSets.{holds}
use Rattle.lab_plan.proofs.Bits.{holds_none}
use Rattle.legal_steps.specs.declared.event.Event.{Event}
use Rattle.legal_steps.specs.declared.event.Event.TheVariants.{Thirst}
use Rattle.legal_steps.specs.Legal.{IsJob}
use Rattle.interleaving.specs.World.{WorldView, LeadsTo}
use Rattle.settling.proofs.Nothing.{leads_none}
use Rattle.late_thirst.specs.declared.asker.Asker.{Asker}
use Rattle.late_thirst.specs.declared.asker.Reason.TheVariants.{Passed, Free}
use Rattle.late_thirst.specs.Outside.{LineView, place, IsOutside, IsDue, IsDueAt, NobodyIsDue}
use Rattle.late_thirst.specs.LettingIn.{LetsIn}
use Rattle.late_thirst.proofs.Gone.{not_both, nobody_in, somebody_in, before_in, as_many_after, were_ready, due_is_outside}
use Rattle.live_lab.specs.Sets.{AreJobs, events_below, events_of_jobs}
use Rattle.live_lab.specs.Rests.{IsAtRest, DoAndRest}
use Rattle.live_lab.specs.Admitting.{MayAsk, IsNext, IsPlaceFrom, Asks, LetsInNext, AdmitsNext, Admits, NobodyIsOutside}
use Rattle.live_lab.proofs.Bits.{holds_has, has_holds, same_test}
use Rattle.live_lab.proofs.Frames.{below_or}

someone : (o : Option Asker) → (o ≡ None → ⊥) → (a : Asker) × (o ≡ Some a)
someone None h = absurd (h refl)
someone (Some a) h = (a, refl)

no_one : (o : Option Asker) → ((a : Asker) → o ≡ Some a → ⊥) → o ≡ None
no_one None h = refl
no_one (Some a) h = absurd (h a refl)

-- ---- those who ask are those who may

from_nobody : (waiting : ℕ) (w : WorldView) (calls j : ℕ) (next : Option ℕ) (new : Option Asker) → IsNext w.plan w.state j next
    → IsPlaceFrom waiting w calls j next None new → ((a : Asker) → new ≡ Some a → MayAsk waiting w j) × (MayAsk waiting w j → new ≡ None → ⊥)
from_nobody waiting w calls j None new next is =
    ((λ a at. absurd (not_both new a at is)), λ may none. let left = next may.1.1 in absurd (omega (arith, left, may.1.3)))
from_nobody waiting w calls j (Some needs) new next (inl (for, same)) = absurd for
from_nobody waiting w calls j (Some needs) new next (inr (inl (other, may, is))) = ((λ a at. may), λ may' none. not_both new _ is none)
from_nobody waiting w calls j (Some needs) new next (inr (inr (other, may, is))) = ((λ a at. absurd (not_both new a at is)), λ may' none. may may')

-- the line holds just those who are waited for and may begin, and nobody has to be passed by
pub record AreWaiters (waiting : ℕ) (w : WorldView) (line : LineView) : Type 0 where
  pub most : line.most ≡ 0
  pub job : (j : ℕ) → IsOutside line.places j → IsJob w.plan j
  pub may : (j : ℕ) → IsOutside line.places j → MayAsk waiting w j
  pub all : (j : ℕ) → IsJob w.plan j → MayAsk waiting w j → IsOutside line.places j

pub all_ask : (waiting : ℕ) (w : WorldView) (old new : LineView) → length old.places ≡ length w.plan.jobs → old.most ≡ 0 → NobodyIsOutside old
    → Asks waiting w old new → AreWaiters waiting w new
all_ask waiting w old new of most nobody asks =
    let long : length new.places ≡ length w.plan.jobs = asks.as_many ∙ of in
    let is_job : (j : ℕ) → IsOutside new.places j → IsJob w.plan j = λ j out. elim (below_or j (length w.plan.jobs)) [
      | inl there ↦ there
      | inr past ↦ absurd (not_both (place new.places j) out.0 out.1 (get_or_past new.places j None (omega (arith, past, long))))
    ] in
    let at : (j : ℕ) → IsJob w.plan j → ((a : Asker) → place new.places j ≡ Some a → MayAsk waiting w j) × (MayAsk waiting w j → place new.places j ≡ None → ⊥) =
    λ j job. let e = asks.each j job in from_nobody waiting w new.calls j e.0 (place new.places j) e.1
    (subst (λ (o : Option Asker). IsPlaceFrom waiting w new.calls j e.0 o (place new.places j)) (nobody j) e.2) in
    record {
      most = asks.most ∙ most;
      job = is_job;
      may = λ j out. (at j (is_job j out)).0 out.0 out.1;
      all = λ j job may. someone (place new.places j) ((at j job).1 may);
    }

-- ---- all of them are let in at once

due_at_once : (most : ℕ) (o : Option Asker) → most ≡ 0 → (a : Asker) → o ≡ Some a → IsDue (Passed most) o
due_at_once most (Some b) none a at = omega (arith, none)
due_at_once most None none a at = absurd (not_both None a at refl)

waiter_due : (waiting : ℕ) (w : WorldView) (line : LineView) (set : ℕ) (line' : LineView) (places : List (Option Asker)) → (n : LetsInNext waiting w line set line')
    → AreWaiters waiting w line → (j : ℕ) → IsOutside line.places j → IsOutside places j → IsDueAt (Passed line.most) n.ready places j
waiter_due waiting w line set line' places n x j out here =
    (has_holds n.ready j ((n.may.just j (x.job j out)).1 (x.may j out)), due_at_once line.most (place places j) x.most here.0 here.1)

-- nobody is due, so nobody waits
pub none_wait : (waiting : ℕ) (w : WorldView) (line : LineView) (set : ℕ) (line' : LineView) → (n : LetsInNext waiting w line set line')
    → length line.places ≡ length w.plan.jobs → AreWaiters waiting w line → NobodyIsDue (Passed line.most) n.ready line.places → NobodyIsOutside line
none_wait waiting w line set line' n of x none j = no_one (place line.places j)
    (λ a at. let job = x.job j (a, at) in none j (omega (arith, job, of)) (waiter_due waiting w line set line' line.places n x j (a, at) (a, at)))

emptied_by : (waiting : ℕ) (w : WorldView) (line : LineView) (set : ℕ) (line' : LineView) → (n : LetsInNext waiting w line set line')
    → length line.places ≡ length w.plan.jobs → AreWaiters waiting w line → NobodyIsDue (Passed line.most) n.ready line'.places → NobodyIsOutside line'
emptied_by waiting w line set line' n of x none j = no_one (place line'.places j) (λ a at.
    let was : IsOutside line.places j = someone (place line.places j)
    (λ gone. not_both (place line'.places j) a at (before_in line.most n.ready n.used line.places set line'.places n.lets.places j gone)) in
    let job = x.job j was in
    let long = as_many_after line.most n.ready n.used line.places set line'.places n.lets.places in
    none j (omega (arith, job, of, long)) (waiter_due waiting w line set line' line'.places n x j was (a, at)))

-- the first letting-in lets in all that are waited for and may begin
all_in : (waiting : ℕ) (w : WorldView) (line : LineView) (set : ℕ) (line' : LineView) → set ≢ 0 → (n : LetsInNext waiting w line set line')
    → length line.places ≡ length w.plan.jobs → AreWaiters waiting w line → LetsIn line.most n.ready n.used line.places set line'.places
    → ((j : ℕ) → IsJob w.plan j → holds set j ≡ holds n.ready j) × NobodyIsOutside line'
all_in waiting w line set line' some n of x (inl (not_none, p)) =
    let empty = emptied_by waiting w line set line' n of x p.all in (
      λ j job. same_test (holds set j) (holds n.ready j)
          (λ h. were_ready line.most n.ready n.used line.places set line'.places n.lets.places j h)
          (λ h. (p.gone j).1 (x.all j job ((n.may.just j job).0 (holds_has n.ready j h)), empty j)),
      empty,
    )
all_in waiting w line set line' some n of x (inr (inl (no_due, k, first, g, gone))) =
    let out = due_is_outside (Free n.used) (place line.places k) first.1.1 in
    absurd (no_due k first.0 (waiter_due waiting w line set line' line.places n x k out out))
all_in waiting w line set line' some n of x (inr (inr (none, free, is, same))) = absurd (some is)

events_same : (ev : ℕ → Event) (a b n : ℕ) → ((j : ℕ) → j < n → holds a j ≡ holds b j) → events_below ev a n ≡ events_below ev b n
events_same ev a b zero same = refl
events_same ev a b (suc n) same =
    λ i. events_same ev a b n (λ j below. same j (omega (arith, below))) i ++ (if same n (omega arith) i then ev n ∷ [] else [])

events_none : (ev : ℕ → Event) (n : ℕ) → events_below ev 0 n ≡ []
events_none ev zero = refl
events_none ev (suc n) = λ i. events_none ev n i ++ (if holds_none n i then ev n ∷ [] else [])

-- ---- and then nobody is left

abbrev ThenNobody : ℕ → WorldView → LineView → Type 0
ThenNobody waiting w line = (set : ℕ) (last : List Event) (new : WorldView) (line' : LineView) → AdmitsNext waiting w line set last new line' → ⊥

none_left : (waiting : ℕ) (w : WorldView) (line : LineView) → NobodyIsOutside line → ThenNobody waiting w line
none_left waiting w line nobody set last new line' next =
    let n = next.lets in
    let one = somebody_in line.most n.ready n.used line.places set line'.places next.some n.lets.places in
    not_both (place line.places one.0) one.1.0 one.1.1 (nobody one.0)

there_now : (waiting : ℕ) (w mid : WorldView) (line there : LineView) (set : ℕ) (last : List Event) (new : WorldView) (line' : LineView) → mid ≡ w → there ≡ line
    → AdmitsNext waiting mid there set last new line' → AdmitsNext waiting w line set last new line'
there_now waiting w mid line there set last new line' p q next =
    subst (λ (z : WorldView × LineView). AdmitsNext waiting z.0 z.1 set last new line') (λ i. (p i, q i)) next

-- nobody is let in where nobody is outside
pub never : (waiting n : ℕ) (w : WorldView) (line : LineView) (events : List Event) (new : WorldView) (line' : LineView) → NobodyIsOutside line
    → Admits waiting n w line events new line' → (events ≡ []) × (new ≡ w) × (line' ≡ line)
never waiting zero w line events new line' nobody a = a
never waiting (suc zero) w line events new line' nobody (mid, there, before, set, last, (none, p, q), next, is) =
    absurd (none_left waiting w line nobody set last new line' (there_now waiting w mid line there set last new line' p q next))
never waiting (suc (suc n)) w line events new line' nobody (mid, there, before, set, last, chain, next, is) =
    let e = never waiting (suc n) w line before mid there nobody chain in
    absurd (none_left waiting w line nobody set last new line' (there_now waiting w mid line there set last new line' e.1 e.2 next))

emptied : (waiting n : ℕ) (w : WorldView) (line : LineView) (events : List Event) (new : WorldView) (line' : LineView) → length line.places ≡ length w.plan.jobs
    → AreWaiters waiting w line → Admits waiting (suc n) w line events new line' → NobodyIsOutside line'
emptied waiting zero w line events new line' of x (mid, there, before, set, last, (none, p, q), next, is) =
    let now = there_now waiting w mid line there set last new line' p q next in
    (all_in waiting w line set line' now.some now.lets of x now.lets.lets.places).1
emptied waiting (suc n) w line events new line' of x (mid, there, before, set, last, chain, next, is) =
    absurd (none_left waiting mid there (emptied waiting n w line before mid there of x chain) set last new line' next)

-- all that are waited for and may begin did so, together, and nobody is left outside
abbrev pub AreInAtOnce : ℕ → WorldView → List Event → WorldView → LineView → Type 0
AreInAtOnce waiting w events new line' =
    (begun : ℕ) × AreJobs w.plan begun (MayAsk waiting w) × DoAndRest (λ j. Thirst j) begun w events new × NobodyIsOutside line'

nobody_in_at_once : (waiting : ℕ) (w : WorldView) (line : LineView) → IsAtRest w → AreWaiters waiting w line → NobodyIsOutside line
    → AreInAtOnce waiting w [] w line
nobody_in_at_once waiting w line rest x nobody =
    let none = events_none (λ j. Thirst j) (length w.plan.jobs) in (
      0,
      record {
        of_plan = pow_pos (length w.plan.jobs);
        just = λ j job. (
          λ has. absurd (false≢true (sym (holds_none j) ∙ has_holds 0 j has)),
          λ may. let out = x.all j job may in absurd (not_both (place line.places j) out.0 out.1 (nobody j)),
        );
      },
      record {
        mid = w;
        later = [];
        each = subst (λ (xs : List Event). LeadsTo w xs w) (sym none) (leads_none w);
        rests = record { leads = leads_none w; between = tt; at_rest = rest };
        events_are = λ i. sym none i ++ [];
      },
      nobody,
    )

some_in_at_once : (waiting : ℕ) (w : WorldView) (line : LineView) (set : ℕ) (last : List Event) (new : WorldView) (line' : LineView)
    → length line.places ≡ length w.plan.jobs → AreWaiters waiting w line → AdmitsNext waiting w line set last new line' → AreInAtOnce waiting w last new line'
some_in_at_once waiting w line set last new line' of x next =
    let n = next.lets in let d = next.begins in
    let all = all_in waiting w line set line' next.some n of x n.lets.places in
    let same : events_of_jobs (λ j. Thirst j) w.plan set ≡ events_of_jobs (λ j. Thirst j) w.plan n.ready =
    events_same (λ j. Thirst j) set n.ready (length w.plan.jobs) (λ j below. all.0 j below) in (
      n.ready,
      n.may,
      record {
        mid = d.mid;
        later = d.later;
        each = subst (λ (xs : List Event). LeadsTo w xs d.mid) same d.each;
        rests = d.rests;
        events_are = d.events_are ∙ (λ i. same i ++ d.later);
      },
      all.1,
    )

pub in_at_once : (waiting n : ℕ) (w : WorldView) (line : LineView) (events : List Event) (new : WorldView) (line' : LineView) → IsAtRest w
    → length line.places ≡ length w.plan.jobs → AreWaiters waiting w line → LetsInNext waiting new line' 0 line' → Admits waiting n w line events new line'
    → AreInAtOnce waiting w events new line'
in_at_once waiting zero w line events new line' rest of x over (none, p, q) =
    let over_now = subst (λ (z : WorldView × LineView). LetsInNext waiting z.0 z.1 0 z.1) (λ i. (p i, q i)) over in
    let due = nobody_in line.most over_now.ready over_now.used line.places line.places over_now.lets.places in
    let nobody = none_wait waiting w line 0 line over_now of x due.0 in
    subst (λ (z : List Event × WorldView × LineView). AreInAtOnce waiting w z.0 z.1 z.2) (λ i. (sym none i, sym p i, sym q i))
    (nobody_in_at_once waiting w line rest x nobody)
in_at_once waiting (suc zero) w line events new line' rest of x over (mid, there, before, set, last, (none, p, q), next, is) =
    let now = there_now waiting w mid line there set last new line' p q next in
    subst (λ (xs : List Event). AreInAtOnce waiting w xs new line') (sym (is ∙ (λ i. none i ++ last))) (some_in_at_once waiting w line set last new line' of x now)
in_at_once waiting (suc (suc n)) w line events new line' rest of x over (mid, there, before, set, last, chain, next, is) =
    absurd (none_left waiting mid there (emptied waiting n w line before mid there of x chain) set last new line' next)
