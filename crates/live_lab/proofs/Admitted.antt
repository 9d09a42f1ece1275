-- Those who are let in, round after round.
use Rattle.std.proofs.Common.{◌≡◌, ◌≢◌, ℕ, zero, suc, ◌∷◌, if◌then◌else◌, ◌+◌, ◌*◌, ◌≤◌, false, List, [], ◌++◌, length, refl, sym, ap, ◌∙◌, subst, inl, inr, arith}
use Rattle.std.specs.List.{count_by}
use Rattle.lab_plan.specs.LabPlan.{LabPlan}
use Rattle.lab_plan.specs.InstrumentSets.{holds}
use Rattle.legal_steps.specs.declared.event.Event.{Event}
use Rattle.legal_steps.specs.declared.event.Event.TheVariants.{Thirst}
use Rattle.legal_steps.specs.State.{Has, IsDrinking, phase}
use Rattle.legal_steps.specs.Legal.{May, IsJob}
use Rattle.interleaving.specs.World.{WorldView, LeadsTo, IsReachedWith}
use Rattle.reasons.specs.Deeds.{is_deed}
use Rattle.settling.specs.Left.{DueView, AreMarked}
use Rattle.settling.proofs.Worlds.{leads_both}
use Rattle.settling.proofs.Deeds.{deeds_both}
use Rattle.late_thirst.specs.Outside.{LineView}
use Rattle.late_thirst.proofs.Gone.{were_ready, nobody_in, as_many_after}
use Rattle.late_thirst.proofs.Fewer.{count, at_most_all, fewer_after}
use Rattle.live_lab.specs.declared.words.Word.{Word}
use Rattle.live_lab.specs.declared.words.Word.TheVariants.{Begins, GivesUp}
use Rattle.live_lab.specs.Labs.{IsLineOf}
use Rattle.live_lab.specs.Sets.{events_below, events_of_jobs}
use Rattle.lab_plan.proofs.Bits.{holds_none}
use Rattle.settling.proofs.Worlds.{reached_fits}
use Rattle.live_lab.specs.Rests.{IsAtRest}
use Rattle.live_lab.specs.Doing.{said, RestsIn, DoesAndRests, AdmitsIn, GivesUpIn}
use Rattle.live_lab.specs.Admitting.{AreAskers, LetsInNext, Admits, WasFree}
use Rattle.live_lab.proofs.Bits.{holds_has, has_holds}
use Rattle.live_lab.proofs.Lawful.{not_true, others_go, holding_goes, tranquil_holds_nothing, still_askers, free_holds, stands_outside}

pub said_and_rested : (word : Word) (set : ℕ) (old mid new : WorldView) (m n : ℕ) → LeadsTo old (events_of_jobs (said word) old.plan set) mid
    → m ≡ count_by is_deed (events_of_jobs (said word) old.plan set) → RestsIn mid n new
    → length old.state.seats ≡ length old.plan.jobs → DoesAndRests word set old (m + n) new
said_and_rested word set old mid new m n each deeds r seats =
    let said_now = events_of_jobs (said word) old.plan set in
    record {
      events = said_now ++ r.events;
      does = record { mid = mid; later = r.events; each = each; rests = r.rests; events_are = refl };
      seats = seats;
      leads = leads_both old mid new said_now r.events each r.rests.leads;
      deeds = (λ i. deeds i + r.deeds i) ∙ sym (deeds_both said_now r.events);
    }

-- whoever is let in may begin
pub may_begin : (waiting : ℕ) (w : WorldView) (old : LineView) (set : ℕ) (new : LineView) → LetsInNext waiting w old set new → (j : ℕ) → IsJob w.plan j → Has set j
    → May w.plan w.state (Thirst j)
may_begin waiting w old set new n j job has =
    let ready = were_ready old.most n.ready n.used old.places set new.places n.lets.places j (has_holds set j has) in
    ((n.may.just j job).0 (holds_has n.ready j ready)).1

-- so far these were let in
pub record AdmittedSoFar (waiting : ℕ) (w0 : WorldView) (line0 : LineView) (w : WorldView) (line : LineView) (due : DueView) (n : ℕ) : Type 0 where
  pub times : ℕ
  pub events : List Event
  pub one_by_one : Admits waiting times w0 line0 events w line
  pub leads : LeadsTo w0 events w
  pub at_rest : IsAtRest w0 → IsAtRest w
  pub deeds : n ≡ count_by is_deed events
  pub bound : n + count line.places * 129616 ≤ 4147712
  pub marked : AreMarked w.plan w.state due
  pub line_of : IsLineOf w line
  pub askers : AreAskers w line
  pub stay : (k : ℕ) → IsJob w0.plan k → IsDrinking (phase w0.state k) → IsDrinking (phase w.state k)
  pub free_hold : (k : ℕ) → IsJob w.plan k → WasFree waiting times w0 line0 events w line one_by_one k → IsDrinking (phase w.state k)

pub nobody_yet : (waiting : ℕ) (w : WorldView) (line : LineView) (due : DueView) → length w.plan.jobs ≤ 32 → IsLineOf w line → AreAskers w line → LeadsTo w [] w
    → AreMarked w.plan w.state due → AdmittedSoFar waiting w line w line due 0
nobody_yet waiting w line due few of askers none marked = record {
  times = 0;
  events = [];
  one_by_one = (refl, refl, refl);
  leads = none;
  at_rest = λ r. r;
  deeds = refl;
  bound = let most = at_most_all line.places in omega (arith, most, few, of);
  marked = marked;
  line_of = of;
  askers = askers;
  stay = λ k job h. h;
  free_hold = λ k job no. absurd no;
}

-- who holds before a letting-in holds after it
holders_stay : (waiting : ℕ) (w : WorldView) (there : LineView) (set : ℕ) (line : LineView) (m : ℕ) (new : WorldView) → LetsInNext waiting w there set line
    → DoesAndRests Begins set w m new → (k : ℕ) → IsJob w.plan k → IsDrinking (phase w.state k) → IsDrinking (phase new.state k)
holders_stay waiting w there set line m new lets does k job holding =
    let out : holds set k ≡ false = not_true (holds set k)
    (λ h. tranquil_holds_nothing (phase w.state k) (may_begin waiting w there set line lets k job (holds_has set k h)).1 holding) in
    holding_goes (phase w.state k) (phase new.state k) (others_go Begins set w does.events new does.does k out) holding

pub some_more : (waiting : ℕ) (w0 : WorldView) (line0 : LineView) (mid : WorldView) (there : LineView) (due : DueView) (n set m : ℕ) (new : WorldView)
    (line : LineView) (due' : DueView) → set ≢ 0 → LetsInNext waiting mid there set line → DoesAndRests Begins set mid m new → m ≤ 129616
    → AreMarked new.plan new.state due' → AdmittedSoFar waiting w0 line0 mid there due n → AdmittedSoFar waiting w0 line0 new line due' (n + m)
some_more waiting w0 line0 mid there due n set m new line due' some lets does small marked x =
    let fewer = fewer_after there.most lets.ready lets.used there.places set line.places some lets.lets.places in
    record {
      times = suc x.times;
      events = x.events ++ does.events;
      one_by_one = (mid, there, x.events, set, does.events, x.one_by_one, record { some = some; lets = lets; begins = does.does }, refl);
      leads = leads_both w0 mid new x.events does.events x.leads does.leads;
      at_rest = λ r. does.does.rests.at_rest;
      deeds = (λ i. x.deeds i + does.deeds i) ∙ sym (deeds_both x.events does.events);
      bound = let before = x.bound in omega (arith, before, small, fewer);
      marked = marked;
      line_of = as_many_after there.most lets.ready lets.used there.places set line.places lets.lets.places
          ∙ (x.line_of ∙ ap (λ (p : LabPlan). length p.jobs) (sym does.leads.same_plan));
      askers = still_askers waiting mid there set line does.events new lets does.does x.askers;
      stay = λ k job h. holders_stay waiting mid there set line m new lets does k (subst (λ (p : LabPlan). IsJob p k) (sym x.leads.same_plan) job) (x.stay k job h);
      free_hold = λ k job was.
          let here = subst (λ (p : LabPlan). IsJob p k) does.leads.same_plan job in
          elim was [
            | inl before ↦ holders_stay waiting mid there set line m new lets does k here (x.free_hold k here before)
            | inr now ↦ free_holds waiting mid there set line does.events new lets does.does x.askers does.seats now.1 k here now.0
          ];
    }

-- nobody is due any more
pub all_admitted : (waiting : ℕ) (w0 : WorldView) (line0 : LineView) (w : WorldView) (there : LineView) (due : DueView) (n : ℕ) (line : LineView)
    → LetsInNext waiting w there 0 line → AdmittedSoFar waiting w0 line0 w there due n → AdmitsIn waiting w0 line0 n w line
all_admitted waiting w0 line0 w there due n line lets x =
    let none = nobody_in there.most lets.ready lets.used there.places line.places lets.lets.places in
    let same : line ≡ there = λ i. record { places = none.2 i; calls = lets.lets.calls i; most = lets.lets.most i } in
    let y = subst (λ (z : LineView). AdmittedSoFar waiting w0 line0 w z due n) (sym same) x in
    let over = subst (λ (z : LineView). LetsInNext waiting w z 0 line) (sym same) lets in
    let due_now = nobody_in line.most over.ready over.used line.places line.places over.lets.places in
    record {
      events = y.events;
      admits = record {
        times = y.times;
        one_by_one = y.one_by_one;
        over = over;
        free_hold = y.free_hold;
        outside = stands_outside waiting w line over due_now.0 due_now.1 y.line_of y.askers;
      };
      leads = y.leads;
      at_rest = y.at_rest;
      line_of = y.line_of;
      askers = y.askers;
      stay = y.stay;
      deeds = y.deeds;
    }

-- ---- giving up

events_of_none : (event : ℕ → Event) (n : ℕ) → events_below event 0 n ≡ []
events_of_none event zero = refl
events_of_none event (suc n) = λ i. events_of_none event n i ++ (if holds_none n i then event n ∷ [] else [])

-- nobody gives up: then nobody is due either
pub none_give_up : (waiting set : ℕ) (w : WorldView) (line : LineView) → set ≡ 0 → LeadsTo w [] w → IsReachedWith w.plan w.state w.counts →
    LetsInNext waiting w line 0 line → IsAtRest w → IsLineOf w line → AreAskers w line → GivesUpIn waiting set w line 0 w line
none_give_up waiting set w line none still reached over at_rest of askers =
    let quiet : events_of_jobs (said GivesUp) w.plan set ≡ [] = ap (λ n. events_of_jobs (said GivesUp) w.plan n) none ∙ events_of_none (said GivesUp) (length w.plan.jobs) in
    record {
      left = w;
      many = 0;
      more = 0;
      does = record {
        events = [];
        does = record {
          mid = w;
          later = [];
          each = subst (λ (l : List Event). LeadsTo w l w) (sym quiet) still;
          rests = record { leads = still; between = tt; at_rest = at_rest };
          events_are = ap (λ (l : List Event). l ++ []) (sym quiet);
        };
        seats = (reached_fits w reached).seats_there;
        leads = still;
        deeds = refl;
      };
      admits = record {
        events = [];
        admits = record {
          times = 0;
          one_by_one = (refl, refl, refl);
          over = over;
          free_hold = λ k job no. absurd no;
          outside = let due = nobody_in line.most over.ready over.used line.places line.places over.lets.places in
              stands_outside waiting w line over due.0 due.1 of askers;
        };
        leads = still;
        at_rest = λ r. r;
        line_of = of;
        askers = askers;
        stay = λ k job h. h;
        deeds = refl;
      };
      says = refl;
    }
