-- Job after job, and round after round, until nobody has anything to do of itself.
use Rattle.std.proofs.Common.{◌≡◌, ◌≢◌, ℕ, ◌+◌, ◌*◌, ◌<◌, ◌≤◌, true, false, List, [], ◌∷◌, ◌++◌, take, length, set, slice_index_or, get_or-set_same, get_or-set_other, length-set, refl, sym, ap, ◌∙◌, subst, inl, inr, arith}
use Rattle.std.proofs.lemmas.Bool.{cases_eq, cases_lt}
use Rattle.lab_plan.specs.LabPlan.{LabPlan, edges, edges_of, session_names}
use Rattle.lab_plan.specs.IsPlan.{IsPlan}
use Rattle.legal_steps.specs.declared.phase.Drinking.TheVariants.{Thirsty}
use Rattle.legal_steps.specs.declared.phase.JobState.{JobState}
use Rattle.legal_steps.specs.declared.event.Event.{Event}
use Rattle.legal_steps.specs.declared.event.Event.TheVariants.{Look, AskFork, GiveFork, Soil, AskBottles, GiveBottles, Thirst, Hunger, Sit, Leave, Drink, Reach, Act, Quit, Retire, Glance, Withdraw}
use Rattle.legal_steps.specs.State.{State, Has, IsOwn, IsInSession, drinking, end_of}
use Rattle.legal_steps.specs.Legal.{May, IsJob, instrument_of}
use Rattle.legal_steps.specs.Run.{Runs, IsLegalFrom, after_all}
use Rattle.legal_steps.specs.Reached.{IsReached}
use Rattle.legal_steps.specs.Opening.{IsOpening}
use Rattle.legal_steps.specs.Precedence.{IsAcyclic}
use Rattle.legal_steps.specs.Fitting.{Fits}
use Rattle.legal_steps.proofs.FitsLaw.{own_is_job}
use Rattle.legal_steps.proofs.OwnEdges.{at_own_edges}
use Rattle.legal_steps.proofs.ReachedInvariant.{IsSound, sound_after_all}
use Rattle.interleaving.specs.World.{WorldView, LeadsTo, IsReachedWith}
use Rattle.turns.proofs.Runs.{after_all-append, legal-append}
use Rattle.reasons.specs.Quiet.{Waited, IsQuietFor, MovesThings, looked}
use Rattle.reasons.specs.Reasons.{LeadsToHolder}
use Rattle.reasons.proofs.LawProofs.{chain_ends_at_a_holder}
use Rattle.reasons.proofs.Looks.{alike_looked, marked_looked}
use Rattle.settling.specs.Doing.{IsOwnAct, ActsAlone}
use Rattle.settling.specs.Left.{DueView, AreMarked, HasNothingToDo, KeepsMarks, IsBySelf, NobodyIsDue, is_due, is_noted, only_at}
use Rattle.settling.specs.Resting.{DoesAlone, Rests}
use Rattle.settling.specs.Visiting.{DrinksAlone}
use Rattle.settling.proofs.Drunk.{seated, marked_drunk}
use Rattle.settling.specs.Attending.{AttendsEdge, AttendsEdges, Attends, not_due}
use Rattle.settling.proofs.Worlds.{reached_sound}
use Rattle.settling.proofs.Deeds.{alone_none, alone_both, alone_act, act_is, none_legal, few_alone}
use Rattle.settling.proofs.Waking.{marked_on}
use Rattle.settling.proofs.Seen.{no_dawdling}

-- ---- edge after edge

-- it is noted that there is nothing to do
pub edge_noted : (w : WorldView) (due : DueView) (j e : ℕ) → AreMarked w.plan w.state due → is_due due j ≡ true → is_noted due (end_of w.plan j e) e ≡ true
    → AttendsEdge w due j e 0 w due
edge_noted w due j e marked is noted = record {
  alone = alone_none w;
  marked = marked;
  still_due = is;
  noted = noted;
  kept = λ end f other before. before;
  only = λ h. h;
  stays = λ none k out. out;
}

-- k of the job's edges. It is noted of each that there is nothing to do
pub record EdgesSoFar (old : WorldView) (due : DueView) (j : ℕ) (k n : ℕ) (new : WorldView) (due' : DueView) : Type 0 where
  pub alone : DoesAlone old n new
  pub marked : AreMarked new.plan new.state due'
  pub still_due : is_due due' j ≡ true
  pub noted : (i : ℕ) → i < k → is_noted due' (end_of old.plan j (slice_index_or (edges_of old.plan j) i 0)) (slice_index_or (edges_of old.plan j) i 0) ≡ true
  pub stays : n ≡ 0 → (i : ℕ) → is_due due i ≡ false → is_due due' i ≡ false
  pub few : n ≤ 5 * k

pub edges_none : (w : WorldView) (due : DueView) (j : ℕ) → AreMarked w.plan w.state due → is_due due j ≡ true → EdgesSoFar w due j 0 0 w due
edges_none w due j marked is = record {
  alone = alone_none w;
  marked = marked;
  still_due = is;
  noted = λ i below. absurd (omega (arith, below));
  stays = λ none i out. out;
  few = omega arith;
}

pub edges_more : (old mid new : WorldView) (d0 d1 d2 : DueView) (j k e m n : ℕ) → e ≡ slice_index_or (edges_of old.plan j) k 0 →
    EdgesSoFar old d0 j k m mid d1 → AttendsEdge mid d1 j e n new d2 → n ≤ 5 → EdgesSoFar old d0 j (k + 1) (m + n) new d2
edges_more old mid new d0 d1 d2 j k e m n is a b few = record {
  alone = alone_both old mid new m n a.alone b.alone;
  marked = b.marked;
  still_due = b.still_due;
  noted = λ i below. let f = slice_index_or (edges_of old.plan j) i 0 in elim (cases_eq f e) [
    | inl same ↦ subst (λ (z : LabPlan × ℕ). is_noted d2 (end_of z.0 j z.1) z.1 ≡ true) (λ x. (a.alone.leads.same_plan x, sym same x)) b.noted
    | inr apart ↦ b.kept (end_of old.plan j f) f apart
        (a.noted i (let other : i ≢ k = λ last. apart (ap (λ p. slice_index_or (edges_of old.plan j) p 0) last ∙ sym is) in omega (arith, below, other)))
  ];
  stays = λ none i out. b.stays (omega (arith, none)) i (a.stays (omega (arith, none)) i out);
  few = let x = a.few in omega (arith, x, few);
}

-- all of them
pub edges_all : (old new : WorldView) (d0 d1 : DueView) (j k n : ℕ) → length (edges_of old.plan j) ≤ k → EdgesSoFar old d0 j k n new d1 →
    AttendsEdges old d0 j n new d1
edges_all old new d0 d1 j k n past a =
    let same = a.alone.leads.same_plan in
    record {
      alone = a.alone;
      marked = a.marked;
      still_due = a.still_due;
      nothing = λ e own. a.marked.noted j e own (subst (λ (p : LabPlan). is_noted d1 (end_of p j e) e ≡ true) (sym same)
          (at_own_edges old.plan j (edges_of old.plan j) k (λ f. is_noted d1 (end_of old.plan j f) f ≡ true) refl past a.noted
          e (subst (λ (p : LabPlan). IsOwn p j e) same own)));
      stays = a.stays;
    }

-- the only one at which it may have something to do
pub edges_one : (old new : WorldView) (d0 d1 : DueView) (j e n : ℕ) → IsOwn old.plan j e → only_at d0 j ≡ e + 1 → AttendsEdge old d0 j e n new d1 →
    AttendsEdges old d0 j n new d1
edges_one old new d0 d1 j e n mine only a =
    let same = a.alone.leads.same_plan in
    record {
      alone = a.alone;
      marked = a.marked;
      still_due = a.still_due;
      nothing = λ f own. elim (cases_eq f e) [
        | inl is ↦ a.marked.noted j f own (subst (λ (z : LabPlan × ℕ). is_noted d1 (end_of z.0 j z.1) z.1 ≡ true) (λ i. (sym same i, sym is i)) a.noted)
        | inr other ↦ a.marked.only j f e own (a.only only) other
      ];
      stays = a.stays;
    }

-- ---- one job

module _ (old mid : WorldView) (d0 d1 : DueView) (j n : ℕ) (job : IsJob old.plan j) (a : AttendsEdges old d0 j n mid d1) where
  -- it acted
  pub job_acted : (new : WorldView) (d2 : DueView) → ActsAlone mid j true new → KeepsMarks new.plan (IsBySelf j) d1 d2 → Attends (λ i. i ≡ j) old d0 (n + 1) new d2
  job_acted new d2 acts keeps = record {
    alone = alone_both old mid new n 1 a.alone (alone_act mid new j acts.0 acts.1 acts.2);
    marked = marked_on mid new (acts.0 ∷ []) (IsBySelf j) d1 d2 acts.2 ((act_is mid.plan mid.state j acts.0 acts.1).self, tt) keeps a.marked;
    unmarked = λ h. absurd (omega (arith, h));
    stays = λ h. absurd (omega (arith, h));
  }

  -- it drank
  pub job_drank : (new : WorldView) → DrinksAlone mid j true new → Attends (λ i. i ≡ j) old d0 (n + 1) new d1
  job_drank new drinks = record {
    alone = alone_both old mid new n 1 a.alone (alone_act mid new j (Drink j) (inl ((drinks.0, tt), refl)) drinks.1);
    marked = subst (λ (z : LabPlan × State). AreMarked z.0 z.1 d1) (λ i. (sym drinks.1.same_plan i, sym drinks.1.run.leads i))
        (marked_drunk mid.plan mid.state j (seated mid.state j drinks.0.1) d1 a.still_due a.marked);
    unmarked = λ h. absurd (omega (arith, h));
    stays = λ h. absurd (omega (arith, h));
  }

  -- nothing is left
  module _ (no_act : IsOwnAct mid.plan mid.state j []) where
    same : mid.plan ≡ old.plan
    same = a.alone.leads.same_plan

    nothing_left : HasNothingToDo mid.plan mid.state j
    nothing_left = let acts = none_legal mid.plan mid.state j no_act in record {
      edges = a.nothing;
      no_drink = acts.0;
      no_leave = acts.1;
      no_sit = acts.2;
      no_hunger = acts.3;
    }

    inside : j < length d1.jobs
    inside = let n = a.marked.of_plan.jobs_there in let is_job : j < length mid.plan.jobs = subst (λ (p : LabPlan). IsJob p j) (sym same) job in omega (arith, n, is_job)

    out_now : is_due (not_due d1 j) j ≡ false
    out_now = get_or-set_same d1.jobs j false true inside

    pub job_done : Attends (λ i. i ≡ j) old d0 n mid (not_due d1 j)
    job_done = record {
      alone = a.alone;
      marked = record {
        of_plan = let f = a.marked.of_plan in
            record { jobs_there = length-set d1.jobs j false ∙ f.jobs_there; only_there = f.only_there; lower_there = f.lower_there; higher_there = f.higher_there };
        others = λ i is_job out. elim (cases_eq i j) [
          | inl is ↦ subst (HasNothingToDo mid.plan mid.state) (sym is) nothing_left
          | inr other ↦ a.marked.others i is_job (sym (get_or-set_other d1.jobs j i false true other) ∙ out)
        ];
        only = a.marked.only;
        noted = a.marked.noted;
      };
      unmarked = λ h i is. subst (λ m. is_due (not_due d1 j) m ≡ false) (sym is) out_now;
      stays = λ h i out. elim (cases_eq i j) [
        | inl is ↦ subst (λ m. is_due (not_due d1 j) m ≡ false) (sym is) out_now
        | inr other ↦ get_or-set_other d1.jobs j i false true other ∙ a.stays h i out
      ];
    }

-- ---- job after job

-- nobody yet
pub jobs_none : (w : WorldView) (due : DueView) → AreMarked w.plan w.state due → Attends (λ k. k < 0) w due 0 w due
jobs_none w due marked = record {
  alone = alone_none w;
  marked = marked;
  unmarked = λ none k below. absurd (omega (arith, below));
  stays = λ none k out. out;
}

-- those that aren't due
pub jobs_same : (old new : WorldView) (d0 d1 : DueView) (i m n : ℕ) → ((k : ℕ) → i ≤ k → k < m → is_due d1 k ≡ false) → Attends (λ k. k < i) old d0 n new d1
    → Attends (λ k. k < m) old d0 n new d1
jobs_same old new d0 d1 i m n out a = record {
  alone = a.alone;
  marked = a.marked;
  unmarked = λ none k below. elim (cases_lt k i) [ inl low ↦ a.unmarked none k low | inr high ↦ out k high below ];
  stays = a.stays;
}

-- one that is attended to
pub jobs_more : (old mid new : WorldView) (d0 d1 d2 : DueView) (i m n : ℕ) → Attends (λ k. k < i) old d0 m mid d1 → Attends (λ k. k ≡ i) mid d1 n new d2 →
    Attends (λ k. k < i + 1) old d0 (m + n) new d2
jobs_more old mid new d0 d1 d2 i m n a b = record {
  alone = alone_both old mid new m n a.alone b.alone;
  marked = b.marked;
  unmarked = λ none k below. elim (cases_eq k i) [
    | inl is ↦ b.unmarked (omega (arith, none)) k is
    | inr other ↦ b.stays (omega (arith, none)) k (a.unmarked (omega (arith, none)) k (omega (arith, below, other)))
  ];
  stays = λ none k out. b.stays (omega (arith, none)) k (a.stays (omega (arith, none)) k out);
}

-- ---- where nobody has anything to do all is quiet

module _ (plan : LabPlan) (s : State) (fit : Fits plan s) (all : (k : ℕ) → IsJob plan k → HasNothingToDo plan s k) where
  none_moves : (event : Event) → MovesThings event → ¬ May plan s event
  none_moves (AskFork j e) moves may = ((all j (own_is_job plan j e may.0)).edges e may.0).calm.no_ask may
  none_moves (GiveFork j e) moves may = ((all j (own_is_job plan j e may.0)).edges e may.0).calm.no_give may
  none_moves (AskBottles j e set) moves may = ((all j (own_is_job plan j e may.0)).edges e may.0).calm.no_bottles_asked set may
  none_moves (GiveBottles j e set) moves may = ((all j (own_is_job plan j e may.0)).edges e may.0).calm.no_bottles_given set may
  none_moves (Look j e seen) moves may = absurd moves
  none_moves (Soil j e) moves may = absurd moves
  none_moves (Thirst j) moves may = absurd moves
  none_moves (Hunger j) moves may = absurd moves
  none_moves (Sit j) moves may = absurd moves
  none_moves (Leave j) moves may = absurd moves
  none_moves (Drink j) moves may = absurd moves
  none_moves (Reach j) moves may = absurd moves
  none_moves (Act j) moves may = absurd moves
  none_moves (Quit j) moves may = absurd moves
  none_moves (Retire j) moves may = absurd moves
  none_moves (Glance j other seen) moves may = absurd moves
  none_moves (Withdraw j) moves may = absurd moves

  none_drinks : (j : ℕ) → ¬ May plan (looked plan s j) (Drink j)
  none_drinks j may =
      let a = alike_looked plan s j fit may.0 in
      let h = all j may.0 in
      h.no_drink (
        may.0,
        sym (ap (λ (p : JobState). p.drinking) a.phase) ∙ may.1,
        λ e own b small needs. subst (λ marks. Has marks b) (marked_looked plan s j e fit may.0 own ∙ sym (h.edges e own).knows)
            (may.2 e own b small (record {
              in_session = subst (λ (p : JobState). IsInSession p.drinking) (sym a.phase) needs.in_session;
              named = subst (λ (p : JobState). session_names plan j p.session (instrument_of plan e b) ≡ true) (sym a.phase) needs.named;
            })),
      )

  all_quiet : (waited : Waited) → IsQuietFor plan s waited
  all_quiet waited = record { nothing_moves = none_moves; nobody_drinks = λ j owner. none_drinks j }

-- ---- round after round

-- in each of these rounds something was done
pub record SoFar (old : WorldView) (rounds n : ℕ) (new : WorldView) (due : DueView) : Type 0 where
  pub alone : DoesAlone old n new
  pub many : rounds ≤ n
  pub marked : AreMarked new.plan new.state due

pub so_far_none : (w : WorldView) (due : DueView) → AreMarked w.plan w.state due → SoFar w 0 0 w due
so_far_none w due marked = record { alone = alone_none w; many = omega arith; marked = marked }

pub so_far_more : (old mid new : WorldView) (d1 d2 : DueView) (rounds m n : ℕ) (Asked : ℕ → Type 0) → SoFar old rounds m mid d1 → Attends Asked mid d1 n new d2 →
    1 ≤ n → SoFar old (rounds + 1) (m + n) new d2
so_far_more old mid new d1 d2 rounds m n Asked s a some = record {
  alone = alone_both old mid new m n s.alone a.alone;
  many = let x = s.many in omega (arith, x, some);
  marked = a.marked;
}

-- what is reached goes on
further : (old new : WorldView) (events : List Event) (r : IsReached old.plan old.state) → LeadsTo old events new → Runs new.plan r.opening (r.events ++ events) new.state
further old new events r leads =
    let there : IsLegalFrom old.plan (after_all old.plan r.opening r.events) events = subst (λ (z : State). IsLegalFrom old.plan z events) r.run.leads leads.run.legal in
    subst (λ (p : LabPlan). Runs p r.opening (r.events ++ events) new.state) (sym leads.same_plan) (record {
      legal = legal-append old.plan r.opening r.events events r.run.legal there;
      leads = leads.run.leads ∙ (ap (λ (z : State). after_all old.plan z events) r.run.leads ∙ sym (after_all-append old.plan r.opening r.events events));
    })

take_all : (l : List Event) → take (length l) l ≡ l
take_all [] = refl
take_all (x ∷ l) = ap (λ z. x ∷ z) (take_all l)

has_chain : (plan : LabPlan) (s : State) → IsReached plan s → IsQuietFor plan s (λ k. true) → (j : ℕ) → IsJob plan j → drinking s j ≡ Thirsty →
    (chain : List ℕ) × LeadsToHolder plan s j chain
has_chain plan s r quiet j job thirsty =
    let n : ℕ = length r.events in
    let is : after_all plan r.opening (take n r.events) ≡ s = ap (after_all plan r.opening) (take_all r.events) ∙ sym r.run.leads in
    subst (λ (z : State). IsQuietFor plan z (λ k. true) → drinking z j ≡ Thirsty → (chain : List ℕ) × LeadsToHolder plan z j chain) is
    (λ q t. chain_ends_at_a_holder plan r.opening r.events n r.is_opening r.acyclic r.run.legal (λ k. true) j q (λ k dry. refl) job t) quiet thirsty

pub nobody_due : (mid new : WorldView) (d1 d2 : DueView) (n : ℕ) → n ≡ 0 → Attends (IsJob mid.plan) mid d1 n new d2 → NobodyIsDue new.plan d2
nobody_due mid new d1 d2 n none a k job = a.unmarked none k (subst (λ (p : LabPlan). IsJob p k) a.alone.leads.same_plan job)

zero_added : (n : ℕ) → n + 0 ≡ n
zero_added n = omega arith

pub rested : (old mid new : WorldView) (d1 d2 : DueView) (rounds m n : ℕ) → IsReachedWith old.plan old.state old.counts → SoFar old rounds m mid d1 → n ≡ 0 →
    Attends (IsJob mid.plan) mid d1 n new d2 → Rests old m new
rested old mid new d1 d2 rounds m n reached s none a =
    let both : DoesAlone old m new = subst (λ z. DoesAlone old z new) (ap (λ z. m + z) none ∙ zero_added m) (alone_both old mid new m n s.alone a.alone) in
    let leads = both.leads in
    let sound : IsSound new.plan new.state = subst (λ (z : LabPlan × State). IsSound z.0 z.1) (λ i. (sym leads.same_plan i, sym leads.run.leads i))
    (sound_after_all old.plan old.state both.events (reached_sound old reached) leads.run.legal) in
    let fit : Fits new.plan new.state = sound.fits in
    let all : (k : ℕ) → IsJob new.plan k → HasNothingToDo new.plan new.state k = λ k job. a.marked.others k job (nobody_due mid new d1 d2 n none a k job) in
    record {
      alone = both;
      all_done = all;
      quiet = all_quiet new.plan new.state fit all;
      nobody_dawdles = λ j job eats. no_dawdling new.plan new.state j sound job (all j job) eats;
      reasons = λ j job thirsty. has_chain new.plan new.state (record {
        is_plan = subst IsPlan (sym leads.same_plan) reached.reached.is_plan;
        opening = reached.reached.opening;
        is_opening = subst (λ (p : LabPlan). IsOpening p reached.reached.opening) (sym leads.same_plan) reached.reached.is_opening;
        acyclic = subst (λ (p : LabPlan). IsAcyclic p reached.reached.opening) (sym leads.same_plan) reached.reached.acyclic;
        events = reached.reached.events ++ both.events;
        run = further old new both.events reached.reached leads;
      }) (all_quiet new.plan new.state fit all (λ k. true)) j job thirsty;
    }

pub too_many : (old new : WorldView) (due : DueView) (rounds n : ℕ) → 129585 ≤ rounds → IsReachedWith old.plan old.state old.counts → length (edges old.plan) ≤ 496 →
    SoFar old rounds n new due → ⊥
too_many old new due rounds n past r few s = let most = few_alone old new n r few s.alone in let many = s.many in omega (arith, past, most, many)
