-- The quiet round: each job knows its edges as they are, so by its idle turn nothing is left to do.
use Rattle.std.proofs.Common.{◌≡◌, ℕ, ◌<◌, Bool, true, false, if◌then◌else◌, List, [], ◌∷◌, ◌++◌, length, map, take, Option, Some, None, slice_index_or, refl, sym, ap, ◌∙◌, subst, inl, inr}
use Rattle.std.proofs.Math.Seq.{take-length}
use Rattle.lab_plan.specs.LabPlan.{LabPlan, edges, ends}
use Rattle.legal_steps.specs.declared.edge_state.EdgeState.{EdgeState}
use Rattle.legal_steps.specs.declared.event.Event.{Event}
use Rattle.legal_steps.specs.declared.event.Event.TheVariants.{Look, AskFork, GiveFork, Soil, AskBottles, GiveBottles, Thirst, Hunger, Sit, Leave, Drink, Reach, Act, Quit, Retire, Glance, Withdraw}
use Rattle.legal_steps.specs.State.{State, Seat, IsOwn, edge, seat, end_of, bottles_at}
use Rattle.legal_steps.specs.Legal.{IsJob, May, fork_mark_seen}
use Rattle.legal_steps.specs.Run.{after_all}
use Rattle.legal_steps.specs.Opening.{the_opening}
use Rattle.legal_steps.proofs.FitsLaw.{own_is_job}
use Rattle.legal_steps.proofs.ReachedLaws.{the_opening_is_acyclic}
use Rattle.turns.specs.History.{learned, learned_all, known_by, events_by, IsHistory, state_after}
use Rattle.turns.proofs.Runs.{learned_all-append, learned_all_seats, learned_all_edges, opening_seats, opening_edges, own_known}
use Rattle.turns.proofs.Reading.{may_same}
use Rattle.turns.proofs.Histories.{history_fits}
use Rattle.turns.specs.Due.{IsCalm}
use Rattle.turns.specs.Acts.{Counts, AreFirst, AreActs, whole_act}
use Rattle.turns.specs.Turn.{Visit}
use Rattle.turns.specs.Turns.{is_glance, but_glances}
use Rattle.turns.specs.Laws.{LeavesCalm}
use Rattle.legal_steps.proofs.OwnEdges.{In, own_edge_in}
use Rattle.turns.proofs.Idle.{idle_turn_is_calm}
use Rattle.overtaking.specs.Stuck.{AllRetired, IsMove, IsQuiet, IsUpToDate}
use Rattle.overtaking.proofs.NeverStuck.{quiet_is_retired}
use Rattle.rounds.specs.LastLooks.{seen_next, seen_after, last_seen}
use Rattle.rounds.specs.QuietRound.{EndsIdle, IsQuietRound, IdleJobKnowsWhatItSaw, BothSawIsBothKnow, QuietRoundIsRetired}
use Rattle.rounds.proofs.Looks.{looks, IsWide, IsClear, wide_before, looks_clear}
use Rattle.rounds.proofs.Seeing.{one_is_current, current_is}

-- ---- Glances change nothing that a job knows

glance_learns : (plan : LabPlan) (s : State) (x : Event) → is_glance x ≡ true → learned plan s x ≡ s
glance_learns plan s (Glance j other seen) is = refl
glance_learns plan s (Look j e seen) is = absurd (cc)
glance_learns plan s (AskFork j e) is = absurd (cc)
glance_learns plan s (GiveFork j e) is = absurd (cc)
glance_learns plan s (Soil j e) is = absurd (cc)
glance_learns plan s (AskBottles j e set) is = absurd (cc)
glance_learns plan s (GiveBottles j e set) is = absurd (cc)
glance_learns plan s (Thirst j) is = absurd (cc)
glance_learns plan s (Hunger j) is = absurd (cc)
glance_learns plan s (Sit j) is = absurd (cc)
glance_learns plan s (Leave j) is = absurd (cc)
glance_learns plan s (Drink j) is = absurd (cc)
glance_learns plan s (Reach j) is = absurd (cc)
glance_learns plan s (Act j) is = absurd (cc)
glance_learns plan s (Quit j) is = absurd (cc)
glance_learns plan s (Retire j) is = absurd (cc)
glance_learns plan s (Withdraw j) is = absurd (cc)

glance_sees : (e : ℕ) (seen : Option EdgeState) (x : Event) → is_glance x ≡ true → seen_next e seen x ≡ seen
glance_sees e seen (Look j f y) is = absurd (cc)
glance_sees e seen (AskFork j f) is = absurd (cc)
glance_sees e seen (GiveFork j f) is = absurd (cc)
glance_sees e seen (Soil j f) is = absurd (cc)
glance_sees e seen (AskBottles j f set) is = absurd (cc)
glance_sees e seen (GiveBottles j f set) is = absurd (cc)
glance_sees e seen _ is = refl

pub known_but : (plan : LabPlan) (s : State) (l : List Event) → learned_all plan s (but_glances l) ≡ learned_all plan s l
known_but plan s [] = refl
known_but plan s (x ∷ l) = at (is_glance x) refl (λ t. known_but plan t l) where
  at : (b : Bool) → is_glance x ≡ b → ((t : State) → learned_all plan t (but_glances l) ≡ learned_all plan t l)
      → learned_all plan s (if b then but_glances l else x ∷ but_glances l) ≡ learned_all plan (learned plan s x) l
  at true is rest = rest s ∙ ap (λ t. learned_all plan t l) (sym (glance_learns plan s x is))
  at false is rest = rest (learned plan s x)

seen_but : (e : ℕ) (seen : Option EdgeState) (l : List Event) → seen_after e seen (but_glances l) ≡ seen_after e seen l
seen_but e seen [] = refl
seen_but e seen (x ∷ l) = at (is_glance x) refl (λ z. seen_but e z l) where
  at : (b : Bool) → is_glance x ≡ b → ((z : Option EdgeState) → seen_after e z (but_glances l) ≡ seen_after e z l)
      → seen_after e seen (if b then but_glances l else x ∷ but_glances l) ≡ seen_after e (seen_next e seen x) l
  at true is rest = rest seen ∙ ap (λ z. seen_after e z l) (sym (glance_sees e seen x is))
  at false is rest = rest (seen_next e seen x)

seen_after-append : (e : ℕ) (seen : Option EdgeState) (a b : List Event) → seen_after e seen (a ++ b) ≡ seen_after e (seen_after e seen a) b
seen_after-append e seen [] b = refl
seen_after-append e seen (x ∷ a) b = seen_after-append e (seen_next e seen x) a b

-- ---- what an idle turn leaves

module _ (plan : LabPlan) (h : List Event) (legal : IsHistory plan h) (j : ℕ) (q : EndsIdle plan h j) where
  abbrev start : State
  start = known_by plan q.before

  calm_after : LeavesCalm plan j q.waited start q.idle
  calm_after = idle_turn_is_calm plan j q.waited start q.idle q.turn

  known_is : learned_all plan start q.idle ≡ known_by plan (events_by j h)
  known_is = sym (learned_all-append plan (the_opening plan) q.before q.idle)
      ∙ (ap (known_by plan) (sym q.events) ∙ known_but plan (the_opening plan) (events_by j h))

  seen_is : (e : ℕ) → seen_after e (last_seen e q.before) q.idle ≡ last_seen e (events_by j h)
  seen_is e = sym (seen_after-append e None q.before q.idle) ∙ (ap (last_seen e) (sym q.events) ∙ seen_but e None (events_by j h))

  pub calm : (e : ℕ) → IsOwn plan j e → IsCalm plan (known_by plan (events_by j h)) j e
  calm e own = subst (λ k. IsCalm plan k j e) known_is (calm_after.calm e own)

  pub no_act_due : AreActs plan (known_by plan (events_by j h)) j q.waited []
  no_act_due = subst (λ k. AreActs plan k j q.waited []) known_is calm_after.no_act

  wide_end : (e : ℕ) → IsOwn plan j e → IsWide plan j e (known_by plan (events_by j h))
  wide_end e own =
      let job : IsJob plan j = own_is_job plan j e own in
      let mine : seat (state_after plan h) j ≡ seat (known_by plan (events_by j h)) j = own_known plan j h job in
      let fit = (history_fits plan h legal).seats_fit j job in
      record {
        job = subst (λ n. j < n) (sym (learned_all_seats plan (the_opening plan) (events_by j h) ∙ opening_seats plan)) job;
        is_edge = subst (λ n. e < n) (sym (learned_all_edges plan (the_opening plan) (events_by j h) ∙ opening_edges plan)) own.is_edge;
        fork_marks = subst (λ n. e < n) (sym (sym (ap (λ (x : Seat). length x.fork_marks) mine) ∙ fit.fork_marks_there)) own.is_edge;
        bottle_marks = subst (λ n. e < n) (sym (sym (ap (λ (x : Seat). length x.bottle_marks) mine) ∙ fit.bottle_marks_there)) own.is_edge;
      }

  pub clear : (e : ℕ) → IsOwn plan j e → IsClear plan j e (known_by plan (events_by j h)) (last_seen e (events_by j h))
  clear e own =
      let job : IsJob plan j = own_is_job plan j e own in
      let all : q.idle ≡ looks j calm_after.visits = calm_after.looks in
      let wide : IsWide plan j e start = wide_before plan j e start calm_after.visits
      (subst (λ n. j < n) (sym (learned_all_seats plan (the_opening plan) q.before ∙ opening_seats plan)) job)
      (subst (λ n. e < n) (sym (learned_all_edges plan (the_opening plan) q.before ∙ opening_edges plan)) own.is_edge)
      (subst (IsWide plan j e) (sym known_is ∙ ap (learned_all plan start) all) (wide_end e own)) in
      let listed : In e (map (λ (v : Visit). v.edge) calm_after.visits) = subst (In e) (sym calm_after.edges) (own_edge_in plan j e own) in
      subst (λ (z : State × Option EdgeState). IsClear plan j e z.0 z.1)
      (λ i. ((ap (learned_all plan start) (sym all) ∙ known_is) i, (ap (seen_after e (last_seen e q.before)) (sym all) ∙ seen_is e) i))
      (looks_clear plan j e start (last_seen e q.before) calm_after.visits wide listed)

pub idle_job_knows_what_it_saw : IdleJobKnowsWhatItSaw
idle_job_knows_what_it_saw plan h j e legal q own = (clear plan h legal j q e own).saw

lower_own : (plan : LabPlan) (e : ℕ) → e < length (edges plan) → IsOwn plan (ends plan e).0 e
lower_own plan e inside = record { is_edge = inside; at_end = inl refl }

higher_own : (plan : LabPlan) (e : ℕ) → e < length (edges plan) → IsOwn plan (ends plan e).1 e
higher_own plan e inside = record { is_edge = inside; at_end = inr refl }

or_else : EdgeState → Option EdgeState → EdgeState
or_else d (Some x) = x
or_else d None = d

same_word : (x y : EdgeState) → Some x ≡ Some y → x ≡ y
unfolding or_else
same_word x y is = ap (or_else x) is

pub both_saw_is_both_know : BothSawIsBothKnow
both_saw_is_both_know plan h legal idle =
    let saw : (j e : ℕ) → IsOwn plan j e → last_seen e (events_by j h) ≡ Some (edge (known_by plan (events_by j h)) e) =
    λ j e own. idle_job_knows_what_it_saw plan h j e legal (idle j (own_is_job plan j e own)) own in (
      λ both e inside. same_word _ _ (sym (saw (ends plan e).0 e (lower_own plan e inside))
          ∙ (both e inside ∙ saw (ends plan e).1 e (higher_own plan e inside))),
      λ both e inside. saw (ends plan e).0 e (lower_own plan e inside)
          ∙ (ap (λ (x : EdgeState). Some x) (both e inside) ∙ sym (saw (ends plan e).1 e (higher_own plan e inside))),
    )

-- ---- no act is due

some_event : (x : Event) (l : List Event) → x ∷ l ≡ [] → ⊥
some_event x l e = cc

module _ (plan : LabPlan) (k : State) (j waited : ℕ) where
  later_first : (x y : Event) (rest later : List Event) → whole_act x ≡ y ∷ rest
      → AreFirst plan k j waited (x ∷ later) [] → (¬ Counts plan k j waited x) × AreFirst plan k j waited later []
  later_first x y rest later is (inl both) = absurd (some_event y rest (sym is ∙ sym both.1))
  later_first x y rest later is (inr none) = none

  -- the acts of a turn but for Withdraw
  pub record HasNoAct : Type 0 where
    pub no_quit : ¬ May plan k (Quit j)
    pub no_reach : ¬ May plan k (Reach j)
    pub no_drink : ¬ May plan k (Drink j)
    pub no_leave : ¬ May plan k (Leave j)
    pub no_sit : ¬ May plan k (Sit j)
    pub no_thirst : ¬ May plan k (Thirst j)
    pub no_hunger : ¬ May plan k (Hunger j)
    pub no_retire : ¬ May plan k (Retire j)

  pub has_no_act : AreActs plan k j waited [] → HasNoAct
  has_no_act none =
      let quit = later_first (Quit j) (Quit j) [] (Reach j ∷ Drink j ∷ Withdraw j ∷ Leave j ∷ Sit j ∷ Thirst j ∷ Hunger j ∷ Retire j ∷ []) refl none in
      let reach = later_first (Reach j) (Reach j) (Act j ∷ []) (Drink j ∷ Withdraw j ∷ Leave j ∷ Sit j ∷ Thirst j ∷ Hunger j ∷ Retire j ∷ []) refl quit.1 in
      let drink = later_first (Drink j) (Drink j) [] (Withdraw j ∷ Leave j ∷ Sit j ∷ Thirst j ∷ Hunger j ∷ Retire j ∷ []) refl reach.1 in
      let withdraw = later_first (Withdraw j) (Withdraw j) [] (Leave j ∷ Sit j ∷ Thirst j ∷ Hunger j ∷ Retire j ∷ []) refl drink.1 in
      let leave = later_first (Leave j) (Leave j) [] (Sit j ∷ Thirst j ∷ Hunger j ∷ Retire j ∷ []) refl withdraw.1 in
      let sit = later_first (Sit j) (Sit j) [] (Thirst j ∷ Hunger j ∷ Retire j ∷ []) refl leave.1 in
      let thirst = later_first (Thirst j) (Thirst j) [] (Hunger j ∷ Retire j ∷ []) refl sit.1 in
      let hunger = later_first (Hunger j) (Hunger j) [] (Retire j ∷ []) refl thirst.1 in
      let retire = later_first (Retire j) (Retire j) [] [] refl hunger.1 in
      record {
        no_quit = λ may. quit.0 (may, tt);
        no_reach = λ may. reach.0 (may, tt);
        no_drink = λ may. drink.0 (may, tt);
        no_leave = λ may. leave.0 (may, tt);
        no_sit = λ may. sit.0 (may, tt);
        no_thirst = λ may. thirst.0 (may, tt);
        no_hunger = λ may. hunger.0 (may, tt);
        no_retire = λ may. retire.0 (may, tt);
      }

-- ---- the quiet round

module _ (plan : LabPlan) (h : List Event) (r : IsQuietRound plan h) where
  abbrev w : State
  w = state_after plan h

  abbrev known : ℕ → State
  known j = known_by plan (events_by j h)

  ends_idle : (j e : ℕ) → IsOwn plan j e → EndsIdle plan h j
  ends_idle j e own = r.idle j (own_is_job plan j e own)

  saw : (j e : ℕ) → IsOwn plan j e → last_seen e (events_by j h) ≡ Some (edge (known j) e)
  saw j e own = (clear plan h r.legal j (ends_idle j e own) e own).saw

  -- the lower job of an edge knows it as it is
  lower_knows : (e : ℕ) → e < length (edges plan) → edge w e ≡ edge (known (ends plan e).0) e
  lower_knows e inside = elim (one_is_current plan e (the_opening plan) h None None r.legal (inl (inl refl))) [
    | inl current ↦ current_is plan e w (last_seen e (events_by (ends plan e).0 h))
        (edge (known (ends plan e).0) e) (saw (ends plan e).0 e (lower_own plan e inside)) current
    | inr current ↦ current_is plan e w (last_seen e (events_by (ends plan e).1 h)) (edge (known (ends plan e).1) e)
        (saw (ends plan e).1 e (higher_own plan e inside)) current ∙ sym (r.both_know e inside)
  ]

  -- each job knows its edges as they are
  knows : (j e : ℕ) → IsOwn plan j e → edge w e ≡ edge (known j) e
  knows j e own = elim own.at_end [
    | inl is ↦ subst (λ m. edge w e ≡ edge (known m) e) is (lower_knows e own.is_edge)
    | inr is ↦ subst (λ m. edge w e ≡ edge (known m) e) is (lower_knows e own.is_edge ∙ r.both_know e own.is_edge)
  ]

  own_seat : (j : ℕ) → IsJob plan j → seat w j ≡ seat (known j) j
  own_seat j job = own_known plan j h job

  alike : (j e : ℕ) → IsOwn plan j e → (seat w j ≡ seat (known j) j) × (edge w e ≡ edge (known j) e)
  alike j e own = (own_seat j (own_is_job plan j e own), knows j e own)

  calm_here : (j e : ℕ) → IsOwn plan j e → IsCalm plan (known j) j e
  calm_here j e own = calm plan h r.legal j (ends_idle j e own) e own

  no_act : (j : ℕ) → (job : IsJob plan j) → HasNoAct plan (known j) j (r.idle j job).waited
  no_act j job = has_no_act plan (known j) j (r.idle j job).waited (no_act_due plan h r.legal j (r.idle j job))

  no_move : (x : Event) → IsMove x → ¬ May plan w x
  no_move (Look j e seen) move may = move
  no_move (Glance j other seen) move may = move
  no_move (Withdraw j) move may = move
  no_move (AskFork j e) move may = (calm_here j e may.0).no_ask (may_same plan w (known j) (AskFork j e) (alike j e may.0) may)
  no_move (GiveFork j e) move may = (calm_here j e may.0).no_give (may_same plan w (known j) (GiveFork j e) (alike j e may.0) may)
  no_move (Soil j e) move may = (calm_here j e may.0).no_soil (may_same plan w (known j) (Soil j e) (alike j e may.0) may)
  no_move (AskBottles j e set) move may = (calm_here j e may.0).no_bottles_asked set (may_same plan w (known j) (AskBottles j e set) (alike j e may.0) may)
  no_move (GiveBottles j e set) move may = (calm_here j e may.0).no_bottles_given set (may_same plan w (known j) (GiveBottles j e set) (alike j e may.0) may)
  no_move (Act j) move may = r.none_reaches j may.0 may.1
  no_move (Quit j) move may = (no_act j may.0).no_quit (may_same plan w (known j) (Quit j) (own_seat j may.0) may)
  no_move (Reach j) move may = (no_act j may.0).no_reach (may_same plan w (known j) (Reach j) (own_seat j may.0) may)
  no_move (Drink j) move may = (no_act j may.0).no_drink (may_same plan w (known j) (Drink j) (own_seat j may.0) may)
  no_move (Leave j) move may = (no_act j may.0).no_leave (may_same plan w (known j) (Leave j) (own_seat j may.0) may)
  no_move (Sit j) move may = (no_act j may.0).no_sit (may_same plan w (known j) (Sit j) (own_seat j may.0) may)
  no_move (Thirst j) move may = (no_act j may.0).no_thirst (may_same plan w (known j) (Thirst j) (own_seat j may.0) may)
  no_move (Hunger j) move may = (no_act j may.0).no_hunger (may_same plan w (known j) (Hunger j) (own_seat j may.0) may)
  no_move (Retire j) move may = (no_act j may.0).no_retire (may_same plan w (known j) (Retire j) (own_seat j may.0) may)

  up_to_date : (j e : ℕ) → IsOwn plan j e → IsUpToDate plan w j e
  up_to_date j e own =
      let there : IsUpToDate plan (known j) j e = (clear plan h r.legal j (ends_idle j e own) e own).up_to_date in
      let a = alike j e own in
      record {
        fork = subst (λ (z : Seat × EdgeState). slice_index_or z.0.fork_marks e false ≡ fork_mark_seen z.0.phase.dining (end_of plan j e) z.1)
            (λ i. (sym a.0 i, sym a.1 i)) there.fork;
        bottles = subst (λ (z : Seat × EdgeState). slice_index_or z.0.bottle_marks e 0 ≡ bottles_at plan e (end_of plan j e) z.1)
            (λ i. (sym a.0 i, sym a.1 i)) there.bottles;
      }

  pub quiet_round : IsQuiet plan w
  quiet_round = record { up_to_date = up_to_date; no_move = no_move }

pub quiet_round_is_retired : QuietRoundIsRetired
quiet_round_is_retired plan h r =
    let opens = the_opening_is_acyclic plan in
    let all : take (length h) h ≡ h = take-length h in
    subst (λ l. AllRetired plan (after_all plan (the_opening plan) l)) all
    (quiet_is_retired plan (the_opening plan) h (length h) opens.0 opens.1 r.legal
    (subst (λ l. IsQuiet plan (after_all plan (the_opening plan) l)) (sym all) (quiet_round plan h r)))
