-- Who holds goes on to hold, in the same session, unless it is its own session that ends.
use Rattle.std.proofs.Common.{◌≡◌, ◌≢◌, ℕ, zero, suc, Bool, true, false, if◌then◌else◌, List, [], ◌∷◌, ◌++◌, length, Result, Ok, Err, refl, sym, ap, ◌∙◌, subst, inl, inr, arith}
use Rattle.std.proofs.lemmas.Bool.{cases_eq}
use Rattle.std.proofs.lemmas.List.{get_or_past}
use Rattle.lab_plan.specs.LabPlan.{LabPlan, SessionPlan}
use Rattle.lab_plan.specs.InstrumentSets.{holds}
use Rattle.legal_steps.specs.declared.event.Event.{Event}
use Rattle.legal_steps.specs.declared.event.Event.TheVariants.{Look, AskFork, GiveFork, Soil, AskBottles, GiveBottles, Thirst, Hunger, Sit, Leave, Drink, Reach, Act, Quit, Retire, Glance, Withdraw}
use Rattle.legal_steps.specs.declared.phase.JobState.{JobState}
use Rattle.legal_steps.specs.declared.phase.Drinking.{Drinking}
use Rattle.legal_steps.specs.declared.phase.Drinking.TheVariants.{Tranquil, Thirsty, Drinking as Drinks, Reaching, Retired}
use Rattle.legal_steps.specs.State.{State, Seat, no_seat, seat, phase, drinking, session, IsDrinking}
use Rattle.legal_steps.specs.Legal.{May, after}
use Rattle.legal_steps.specs.Run.{IsLegalFrom, after_all, actor}
use Rattle.interleaving.specs.World.{WorldView, LeadsTo}
use Rattle.interleaving.specs.Adding.{WorldAdds}
use Rattle.interleaving.specs.declared.add_refusal.AddRefusal.{AddRefusal}
use Rattle.interleaving.specs.declared.add_refusal.AddRefusal.TheVariants.{HasRetired, IsLent, Refused}
use Rattle.edge_word.specs.Moves.{events_of}
use Rattle.reasons.specs.Deeds.{IsBetween, AreBetween}
use Rattle.turns.specs.Changes.{seat_after}
use Rattle.turns.specs.Lists.{Each}
use Rattle.turns.specs.Acts.{order, whole_act, AreFirst}
use Rattle.turns.specs.Turn.{Visit, visit_events, visits_events}
use Rattle.turns.proofs.Frame.{as_many_seats, own_seat, other_seat}
use Rattle.session_layer.specs.declared.turning.Turned.{Turned}
use Rattle.settling.proofs.Deeds.{visit_between}
use Rattle.late_thirst.specs.Outside.{LineView}
use Rattle.live_lab.specs.declared.additions.NotAdded.{NotAdded}
use Rattle.live_lab.specs.declared.additions.NotAdded.TheVariants.{HasRetired as LabRetired, Fault, NoMemory}
use Rattle.live_lab.specs.declared.settle.Came.{Came}
use Rattle.live_lab.specs.declared.end.Release.{Release}
use Rattle.live_lab.specs.declared.end.Release.TheVariants.{NotHeld, LetGo}
use Rattle.live_lab.specs.Labs.{LabView}
use Rattle.live_lab.specs.Sets.{events_below}
use Rattle.live_lab.specs.Rests.{DoAndRest}
use Rattle.live_lab.specs.Calls.{TakesTurn, Withdraws, Skips}
use Rattle.live_lab.specs.Ends.{in_hand, commands_by, rest_of_session, EndsHeld, EndsSession}
use Rattle.live_lab.specs.Adding.{LabAdds, AddsText}
use Rattle.live_lab.specs.Admitting.{Admits}
use Rattle.live_lab.specs.Settles.{Settles}
use Rattle.live_lab.specs.Staying.{HoldsOn, HoldersStay}
use Rattle.live_lab.proofs.Frames.{below_or}

-- if it holds, it holds then, in the same session
abbrev pub Stays : JobState → JobState → Type 0
Stays p q = IsDrinking p → IsDrinking q × (q.session ≡ p.session)

pub stays_same : (p q : JobState) → q ≡ p → Stays p q
stays_same p q is h = (subst IsDrinking (sym is) h, ap (λ (x : JobState). x.session) is)

pub stays_both : (p q r : JobState) → Stays p q → Stays q r → Stays p r
stays_both p q r f g h = let x = f h in let y = g x.0 in (y.0, y.1 ∙ x.1)

-- the event isn't the end of a session of job j
abbrev pub EndsOther : ℕ → Event → Type 0
EndsOther j (Quit k) = k ≢ j
EndsOther j _ = Unit {0}

abbrev pub AllEndOther : ℕ → List Event → Type 0
AllEndOther j [] = Unit {0}
AllEndOther j (x ∷ xs) = EndsOther j x × AllEndOther j xs

-- ---- one event

not_tranquil : (p : JobState) → p.drinking ≡ Tranquil → IsDrinking p → ⊥
not_tranquil p is (inl h) = cc
not_tranquil p is (inr h) = cc

not_thirsty : (p : JobState) → p.drinking ≡ Thirsty → IsDrinking p → ⊥
not_thirsty p is (inl h) = cc
not_thirsty p is (inr h) = cc

stays_own : (plan : LabPlan) (s : State) (event : Event) → May plan s event → EndsOther (actor event) event
    → Stays (phase s (actor event)) (seat_after plan (seat s (actor event)) event).phase
stays_own plan s (Look j e seen) may n h = (h, refl)
stays_own plan s (AskFork j e) may n h = (h, refl)
stays_own plan s (GiveFork j e) may n h = (h, refl)
stays_own plan s (Soil j e) may n h = (h, refl)
stays_own plan s (AskBottles j e set) may n h = (h, refl)
stays_own plan s (GiveBottles j e set) may n h = (h, refl)
stays_own plan s (Thirst j) may n h = absurd (not_tranquil (phase s j) may.1 h)
stays_own plan s (Hunger j) may n h = (h, refl)
stays_own plan s (Sit j) may n h = (h, refl)
stays_own plan s (Leave j) may n h = (h, refl)
stays_own plan s (Drink j) may n h = absurd (not_thirsty (phase s j) may.1 h)
stays_own plan s (Reach j) may n h = (inr refl, refl)
stays_own plan s (Act j) may n h = (inl refl, refl)
stays_own plan s (Quit j) may n h = absurd (n refl)
stays_own plan s (Retire j) may n h = absurd (not_tranquil (phase s j) may.2 h)
stays_own plan s (Glance j other seen) may n h = (h, refl)
stays_own plan s (Withdraw j) may n h = absurd (not_thirsty (phase s j) may.1 h)

stays_actor : (plan : LabPlan) (s : State) (event : Event) → May plan s event → EndsOther (actor event) event
    → Stays (phase s (actor event)) (phase (after plan s event) (actor event))
stays_actor plan s event may n = elim (below_or (actor event) (length s.seats)) [
  | inl there ↦ subst (λ (x : Seat). Stays (phase s (actor event)) x.phase) (sym (own_seat plan s event there)) (stays_own plan s event may n)
  | inr past ↦ stays_same (phase s (actor event)) (phase (after plan s event) (actor event)) (ap (λ (x : Seat). x.phase)
      (get_or_past (after plan s event).seats (actor event) no_seat (omega (arith, past, as_many_seats plan s event))
      ∙ sym (get_or_past s.seats (actor event) no_seat past)))
]

stays_one : (plan : LabPlan) (s : State) (event : Event) (j : ℕ) → May plan s event → EndsOther j event → Stays (phase s j) (phase (after plan s event) j)
stays_one plan s event j may n = elim (cases_eq j (actor event)) [
  | inl same ↦ subst (λ k. Stays (phase s k) (phase (after plan s event) k)) (sym same) (stays_actor plan s event may (subst (λ k. EndsOther k event) same n))
  | inr other ↦ stays_same (phase s j) (phase (after plan s event) j) (ap (λ (x : Seat). x.phase) (other_seat plan s event j other))
]

pub stays_all : (plan : LabPlan) (s : State) (events : List Event) (j : ℕ) → IsLegalFrom plan s events → AllEndOther j events
    → Stays (phase s j) (phase (after_all plan s events) j)
stays_all plan s [] j legal n = stays_same (phase s j) (phase s j) refl
stays_all plan s (event ∷ events) j legal n =
    stays_both (phase s j) (phase (after plan s event) j) (phase (after_all plan (after plan s event) events) j)
    (stays_one plan s event j legal.0 n.0) (stays_all plan (after plan s event) events j legal.1 n.1)

-- ---- from one lab to the next

pub holds_same : (j : ℕ) (old new : LabView) → new.world.state ≡ old.world.state → HoldsOn j old new
holds_same j old new is h = (subst (λ (s : State). IsDrinking (phase s j)) (sym is) h, ap (λ (s : State). session s j) is)

leads_on : (j : ℕ) (old : WorldView) (events : List Event) (new : WorldView) → LeadsTo old events new → AllEndOther j events → Stays (phase old.state j) (phase new.state j)
leads_on j old events new l n = subst (λ (s : State). Stays (phase old.state j) (phase s j)) (sym l.run.leads) (stays_all old.plan old.state events j l.run.legal n)

-- ---- lists that end no session of the job

pub others_both : (j : ℕ) (xs ys : List Event) → AllEndOther j xs → AllEndOther j ys → AllEndOther j (xs ++ ys)
others_both j [] ys a b = b
others_both j (x ∷ xs) ys a b = (a.0, others_both j xs ys a.1 b)

between_other : (j : ℕ) (x : Event) → IsBetween x → EndsOther j x
between_other j (Look k e seen) b = tt
between_other j (AskFork k e) b = tt
between_other j (GiveFork k e) b = tt
between_other j (Soil k e) b = tt
between_other j (AskBottles k e set) b = tt
between_other j (GiveBottles k e set) b = tt
between_other j (Thirst k) b = tt
between_other j (Hunger k) b = tt
between_other j (Sit k) b = tt
between_other j (Leave k) b = tt
between_other j (Drink k) b = tt
between_other j (Reach k) b = tt
between_other j (Act k) b = tt
between_other j (Quit k) b = absurd b
between_other j (Retire k) b = tt
between_other j (Glance k other seen) b = tt
between_other j (Withdraw k) b = tt

pub between_others : (j : ℕ) (xs : List Event) → AreBetween xs → AllEndOther j xs
between_others j [] b = tt
between_others j (x ∷ xs) b = (between_other j x b.0, between_others j xs b.1)

one_if : (j : ℕ) (b : Bool) (x : Event) → EndsOther j x → AllEndOther j (if b then x ∷ [] else [])
one_if j true x n = (n, tt)
one_if j false x n = tt

below_others : (j : ℕ) (event : ℕ → Event) (set n : ℕ) → ((k : ℕ) → EndsOther j (event k)) → AllEndOther j (events_below event set n)
below_others j event set zero f = tt
below_others j event set (suc n) f =
    others_both j (events_below event set n) (if holds set n then event n ∷ [] else []) (below_others j event set n f) (one_if j (holds set n) (event n) (f n))

rest_others : (j : ℕ) (event : ℕ → Event) (set : ℕ) (old : WorldView) (events : List Event) (new : WorldView) → ((k : ℕ) → EndsOther j (event k))
    → DoAndRest event set old events new → AllEndOther j events
rest_others j event set old events new f d =
    subst (AllEndOther j) (sym d.events_are) (others_both j (events_below event set (length old.plan.jobs)) d.later
    (below_others j event set (length old.plan.jobs) f) (between_others j d.later d.rests.between))

admits_others : (j waiting n : ℕ) (old : WorldView) (line : LineView) (events : List Event) (new : WorldView) (line' : LineView)
    → Admits waiting n old line events new line' → AllEndOther j events
admits_others j waiting zero old line events new line' (none, same, same') = subst (AllEndOther j) (sym none) tt
admits_others j waiting (suc n) old line events new line' (mid, there, before, set, last, earlier, next, is) =
    subst (AllEndOther j) (sym is) (others_both j before last (admits_others j waiting n old line before mid there earlier)
    (rest_others j (λ k. Thirst k) set mid last new (λ k. tt) next.begins))

-- a settle ends no session
pub settle_stays : (j waiting : ℕ) (old : LabView) (came : Came) (new : LabView) → Settles waiting old came new → HoldsOn j old new
settle_stays j waiting old came new s =
    leads_on j old.world (s.first ++ s.second ++ s.third ++ s.fourth) new.world s.leads
    (others_both j (s.first ++ s.second ++ s.third) s.fourth
    (others_both j (s.first ++ s.second) s.third
    (others_both j s.first s.second (between_others j s.first s.rests.between)
    (admits_others j waiting s.joins.times s.rested s.asking s.second s.joined s.left_out s.joins.one_by_one))
    (rest_others j (λ k. Withdraw k) came.given_up s.joined s.third s.left (λ k. tt) s.leaves))
    (admits_others j waiting s.rejoins.times s.left s.left_out s.fourth new.world new.line s.rejoins.one_by_one))

-- ---- calls on another job

hand_others : (j k : ℕ) (d : Drinking) → AllEndOther j (in_hand d k)
hand_others j k Tranquil = tt
hand_others j k Thirsty = tt
hand_others j k Drinks = tt
hand_others j k Reaching = (tt, tt)
hand_others j k Retired = tt

commands_others : (j k n : ℕ) → AllEndOther j (commands_by k n)
commands_others j k zero = tt
commands_others j k (suc n) = others_both j (commands_by k n) (Reach k ∷ Act k ∷ []) (commands_others j k n) (tt, (tt, tt))

session_others : (j k : ℕ) (d : Drinking) (n : ℕ) → k ≢ j → AllEndOther j (rest_of_session d k n)
session_others j k d n other =
    others_both j (in_hand d k ++ commands_by k n) (Quit k ∷ [])
    (others_both j (in_hand d k) (commands_by k n) (hand_others j k d) (commands_others j k n)) (other, tt)

-- the end of a session of another job
pub ended_stays : (j k : ℕ) (old : LabView) (r : Turned) (new : LabView) → k ≢ j → EndsHeld k old r new → HoldsOn j old new
ended_stays j k old r new other e =
    stays_both (phase old.world.state j) (phase e.mid.state j) (phase new.world.state j)
    (leads_on j old.world (rest_of_session (drinking old.world.state k) k e.left) e.mid e.ends (session_others j k (drinking old.world.state k) e.left other))
    (leads_on j e.mid e.later new.world e.rests.leads (between_others j e.later e.rests.between))

pub end_stays : (j k : ℕ) (old : LabView) (r : Release) (new : LabView) → k ≢ j → EndsSession k old r new → HoldsOn j old new
end_stays j k old (LetGo r) new other e = ended_stays j k old r new other e
end_stays j k old NotHeld new other e = holds_same j old new (ap (λ (x : LabView). x.world.state) e.1)

pub withdraw_stays : (j k : ℕ) (old : LabView) (r : Bool) (new : LabView) → Withdraws k old r new → HoldsOn j old new
withdraw_stays j k old true new (inl (a, out, is)) = holds_same j old new (ap (λ (x : LabView). x.world.state) is)
withdraw_stays j k old true new (inr (in_line, may, d)) = leads_on j old.world (Withdraw k ∷ []) new.world d.leads (tt, tt)
withdraw_stays j k old false new (out, may, is) = holds_same j old new (ap (λ (x : LabView). x.world.state) is)

-- ---- a turn of another job

visit_if : (j k : ℕ) (v : Visit) (lost : Bool) → AllEndOther j (Look k v.edge v.saw ∷ (if lost then [] else events_of v.moves k v.edge))
visit_if j k v true = (tt, tt)
visit_if j k v false = between_others j (Look k v.edge v.saw ∷ events_of v.moves k v.edge) (visit_between v.moves k v.edge v.saw)

visit_others : (j k : ℕ) (v : Visit) → AllEndOther j (visit_events k v)
visit_others j k v = visit_if j k v v.lost

visits_others : (j k : ℕ) (vs : List Visit) → AllEndOther j (visits_events k vs)
visits_others j k [] = tt
visits_others j k (v ∷ vs) = others_both j (visit_events k v) (visits_events k vs) (visit_others j k v) (visits_others j k vs)

first_others : (j : ℕ) (plan : LabPlan) (s : State) (k waited : ℕ) (xs events : List Event) → Each (λ x. AllEndOther j (whole_act x)) xs
    → AreFirst plan s k waited xs events → AllEndOther j events
first_others j plan s k waited [] events each none = subst (AllEndOther j) (sym none) tt
first_others j plan s k waited (x ∷ xs) events each (inl (counts, is)) = subst (AllEndOther j) (sym is) each.0
first_others j plan s k waited (x ∷ xs) events each (inr (out, later)) = first_others j plan s k waited xs events each.1 later

pub turn_stays : (j k : ℕ) (old : LabView) (r : Turned) (new : LabView) → k ≢ j → TakesTurn k old r new → HoldsOn j old new
turn_stays j k old r new other t =
    leads_on j old.world t.events new.world t.leads (subst (AllEndOther j) (sym t.turn.events_are)
    (others_both j (visits_events k t.visits) t.acts (visits_others j k t.visits)
    (first_others j old.world.plan _ k _ (order k) t.acts
    ((other, tt), ((tt, (tt, tt)), ((tt, tt), ((tt, tt), ((tt, tt), ((tt, tt), ((tt, tt), ((tt, tt), ((tt, tt), tt))))))))) t.turn.acts_due)))

-- ---- sessions that are skipped or come

skip_stays : (j k : ℕ) (old : LabView) (r : Bool) (new : LabView) → Skips k old r new → HoldsOn j old new
skip_stays j k old true new d = leads_on j old.world (Thirst k ∷ Withdraw k ∷ []) new.world d.leads (tt, (tt, tt))
skip_stays j k old false new (none, is) = holds_same j old new (ap (λ (x : LabView). x.world.state) is)

world_adds : (plan : SessionPlan) (k : ℕ) (old : WorldView) (answer : Result (Unit {0}) AddRefusal) (new : WorldView) → WorldAdds old k plan answer new → new.state ≡ old.state
world_adds plan k old (Ok done) new (stays, adds, is) = ap (λ (w : WorldView). w.state) is
world_adds plan k old (Err HasRetired) new (retired, is) = ap (λ (w : WorldView). w.state) is
world_adds plan k old (Err IsLent) new (stays, adds, is) = ap (λ (w : WorldView). w.state) is
world_adds plan k old (Err (Refused cause)) new (stays, adds, is) = ap (λ (w : WorldView). w.state) is

comes_stays : (j : ℕ) (plan : SessionPlan) (k : ℕ) (old : LabView) (answer : Result (Unit {0}) AddRefusal) (new : LabView) → LabAdds plan k old answer new → HoldsOn j old new
comes_stays j plan k old answer new (adds, clocks, line) = holds_same j old new (world_adds plan k old.world answer new.world adds)

text_state : (text : List ℕ) (k : ℕ) (old : LabView) (answer : Result (Unit {0}) NotAdded) (new : LabView) → AddsText text k old answer new → new.world.state ≡ old.world.state
text_state text k old (Ok done) new (further, awake, reads, is) = ap (λ (x : LabView). x.world.state) is
text_state text k old (Err LabRetired) new (retired, is) = ap (λ (x : LabView). x.world.state) is
text_state text k old (Err (Fault fault)) new (reads, is) = ap (λ (x : LabView). x.world.state) is
text_state text k old (Err (NoMemory added)) new (further, awake, reads, fewer, is) = ap (λ (x : LabView). x.world.state) is

pub holders_stay : HoldersStay
holders_stay j = record {
  settles = settle_stays j;
  comes = comes_stays j;
  come = λ text k old answer new adds. holds_same j old new (text_state text k old answer new adds);
  withdraws = withdraw_stays j;
  skips = skip_stays j;
  ends = end_stays j;
  turns = turn_stays j;
}
