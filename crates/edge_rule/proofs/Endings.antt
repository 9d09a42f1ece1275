-- What the desks knew is what the last seat knows, and what the end of the table says of it.
use Rattle.std.proofs.Common.{◌≡◌, ◌≢◌, ℕ, ◌+◌, ◌<◌, inl, inr, List, [], ◌∷◌, ◌++◌, length, take, get_or, set, zero, suc, add-one, get_or-set_same, get_or-set_other, sym, ap, ◌∙◌, subst, arith}
use mathlib.Core.Option.{some, some-injective, some-ne-none}
use lib.ListN.{get_elem?}
use Rattle.atomic_table.specs.Table.{Final, Seen}
use Rattle.lab_plan.specs.LabPlan.{LabPlan, edges, bottles}
use Rattle.legal_steps.specs.declared.event.Event.{Event}
use Rattle.one_history.specs.declared.board.Hand.{Hand}
use Rattle.one_history.specs.declared.board.View.{View}
use Rattle.instrument_log.specs.InstrumentLog.{LogView, empty_log}
use Rattle.edge_rule.specs.declared.desk.Desk.TheInside.{Inside}
use Rattle.legal_steps.specs.declared.phase.Drinking.TheVariants.{Reaching}
use Rattle.legal_steps.specs.State.{Seat, State, edge, phase, seat, drinking}
use Rattle.legal_steps.specs.Run.{IsLegalFrom, actor}
use Rattle.turns.specs.History.{state_after, events_by, known_by}
use Rattle.one_history.specs.Rule.{phase_place, Spelled, Held, HasOneHistory}
use Rattle.turns.specs.Lists.{StartsWith, Each}
use Rattle.one_history.specs.Groups.{StandUnbroken}
use Rattle.one_history.proofs.Groups.{stand_in_more}
use Rattle.one_history.specs.Seating.{glued}
use Rattle.edge_rule.specs.DeskView.{DeskView, known}
use Rattle.edge_rule.specs.DeskInside.{view_of, IsDesk}
use Rattle.legal_steps.specs.declared.counts.Counts.{Counts}
use Rattle.legal_steps.specs.Counting.{no_counts, counts_of}
use Rattle.edge_rule.specs.Company.{Distinct, jobs_of}
use Rattle.edge_rule.specs.ClosedView.{ClosedView}
use Rattle.edge_rule.specs.ClosedInside.{AreWords}
use Rattle.edge_rule.specs.Ending.{hand_of, hands_of, fronts_of, gathered, Any, HasAll, IsInGroups, RestsInGroups, AreCounted, IsEnd}
use Rattle.edge_rule.proofs.CountsKept.{counts_whole}
use Rattle.edge_word.specs.Words.{state_of, IsOfBottles}
use Rattle.edge_word.specs.Phases.{phase_of}
use Rattle.edge_word.proofs.WordLemmas.{state_of-word_of, IsOfBottles-28}
use Rattle.edge_word.proofs.PhaseLemmas.{phase_of-phase_word_of}
use Rattle.legal_steps.specs.declared.event.Event.TheVariants.{Look, AskFork, GiveFork, Soil, AskBottles, GiveBottles, Thirst, Hunger, Sit, Leave, Drink, Reach, Act, Quit, Retire, Glance, Withdraw}
use Rattle.legal_steps.specs.Fitting.{Fits}
use Rattle.legal_steps.specs.Legal.{May, after}
use Rattle.legal_steps.specs.Opening.{the_opening}
use Rattle.legal_steps.specs.WholeLogs.{log_with_room}
use Rattle.legal_steps.proofs.FitsLaw.{own_is_job}
use Rattle.turns.proofs.Few.{phase_fits}
use Rattle.turns.proofs.Histories.{history_fits, edge_fits}
use Rattle.turns.proofs.Runs.{own_known, each_map}

module _ {A : Type 0} (P : A → Type 0) where
  pub each_left : (a b : List A) → Each P (a ++ b) → Each P a
  each_left [] b e = tt
  each_left (x ∷ a) b e = (e.0, each_left a b e.1)

  pub each_right : (a b : List A) → Each P (a ++ b) → Each P b
  each_right [] b e = e
  each_right (x ∷ a) b e = each_right a b e.1

pub glued_more : (done : List DeskView) {A : Type 0} (d : Inside A) → IsDesk d → glued (gathered done) d.seat.me.0 ≡ gathered (view_of d ∷ done)
glued_more done d ok = λ i. record {
  hands = hands_of done ++ ok.at_rest.mine i;
  front = [];
  told = fronts_of done ++ d.seat.me.0.front ∷ ok.at_rest.none_told i;
}

pub rests_now : {A : Type 0} (d : Inside A) → IsDesk d → RestsInGroups (view_of d)
rests_now d ok = record { not_reaching = subst (λ (x : Seat). x.phase.drinking ≢ Reaching) (sym ok.own) ok.rests; in_groups = ok.at_rest.groups }

pub gets : {A : Type 0} (l : List A) (i : ℕ) (x d : A) → get_elem? l i ≡ some x → get_or l i d ≡ x
gets [] i x d e = absurd (some-ne-none x (sym e))
gets (y ∷ l) zero x d e = some-injective y x e
gets (y ∷ l) (suc i) x d e = gets l i x d e

module _ (p : LabPlan) where
  all_hands : (P : Hand → Type 0) (desks : List DeskView) → Each P (hands_of desks) → Each (λ (d : DeskView). P (hand_of d)) desks
  all_hands P [] e = tt
  all_hands P (d ∷ desks) e = ((each_right P (hands_of desks) (hand_of d ∷ []) e).0, all_hands P desks (each_left P (hands_of desks) (hand_of d ∷ []) e))

  all_fronts : (P : List Event → Type 0) (desks : List DeskView) → Each P (fronts_of desks) → Each (λ (d : DeskView). P d.front) desks
  all_fronts P [] e = tt
  all_fronts P (d ∷ desks) e = ((each_right P (fronts_of desks) (d.front ∷ []) e).0, all_fronts P desks (each_left P (fronts_of desks) (d.front ∷ []) e))

  -- no job with a desk at rest reaches
  none_reaches : (h : List Event) (desks : List DeskView) (j : ℕ) → j < length p.jobs → Any (λ (d : DeskView). d.job ≡ j) desks
      → Each (λ (d : DeskView). d.plan ≡ p) desks → Each (λ (d : DeskView). events_by d.job h ≡ d.deeds) desks → Each RestsInGroups desks
      → drinking (state_after p h) j ≢ Reaching
  none_reaches h [] j job a plans records rests is = absurd a
  none_reaches h (d ∷ desks) j job (inl e) plans records rests is =
      let same : seat (state_after p h) j ≡ seat (known d) d.job =
      own_known p j h job ∙ (λ i. seat (known_by (sym plans.0 i) (((λ k. events_by (sym e k) h) ∙ records.0) i)) (sym e i)) in
      rests.0.not_reaching (sym (ap (λ (x : Seat). x.phase.drinking) same) ∙ is)
  none_reaches h (d ∷ desks) j job (inr a) plans records rests is = none_reaches h desks j job a plans.1 records.1 rests.1 is

  -- the groups of each record stand in the whole history, of which its desk saw a beginning
  all_in_groups : (h : List Event) (desks : List DeskView) → Each (λ (d : DeskView). StartsWith h d.front) desks → Each RestsInGroups desks
      → Each (IsInGroups h) desks
  all_in_groups h [] starts rests = tt
  all_in_groups h (d ∷ desks) starts rests = (
    (
      rests.0.in_groups.0,
      subst (StandUnbroken d.groups) (sym starts.0.1) (stand_in_more d.groups d.front starts.0.0 rests.0.in_groups.1),
    ),
    all_in_groups h desks starts.1 rests.1,
  )

  -- every event is one of a job of the plan
  by_a_job : (s : State) (event : Event) → May p s event → actor event < length p.jobs
  by_a_job s (Look j e seen) may = own_is_job p j e may.0
  by_a_job s (AskFork j e) may = own_is_job p j e may.0
  by_a_job s (GiveFork j e) may = own_is_job p j e may.0
  by_a_job s (Soil j e) may = own_is_job p j e may.0
  by_a_job s (AskBottles j e set) may = own_is_job p j e may.0
  by_a_job s (GiveBottles j e set) may = own_is_job p j e may.0
  by_a_job s (Thirst j) may = may.0
  by_a_job s (Hunger j) may = may.0
  by_a_job s (Sit j) may = may.0
  by_a_job s (Leave j) may = may.0
  by_a_job s (Drink j) may = may.0
  by_a_job s (Reach j) may = may.0
  by_a_job s (Act j) may = may.0
  by_a_job s (Quit j) may = may.0
  by_a_job s (Retire j) may = may.0
  by_a_job s (Glance j other seen) may = may.0
  by_a_job s (Withdraw j) may = may.0

  all_by_jobs : (s : State) (h : List Event) → IsLegalFrom p s h → Each (λ (event : Event). actor event < length p.jobs) h
  all_by_jobs s [] legal = tt
  all_by_jobs s (event ∷ h) legal = (by_a_job s event legal.0, all_by_jobs (after p s event) h legal.1)

  -- the counts of a job are those of its desk's record
  counted_at : (h : List Event) (counts : List Counts) (desks : List DeskView) (j : ℕ) → Any (λ (d : DeskView). d.job ≡ j) desks
      → Each (λ (d : DeskView). events_by d.job h ≡ d.deeds) desks → AreCounted counts desks → get_or counts j no_counts ≡ counts_of j h
  counted_at h counts [] j a records counted = absurd a
  counted_at h counts (d ∷ desks) j (inl e) records counted =
      subst (λ (k : ℕ). get_or counts k no_counts ≡ counts_of k h) e (counted.0 ∙ (ap (counts_of d.job) (sym records.0) ∙ counts_whole d.job h))
  counted_at h counts (d ∷ desks) j (inr a) records counted = counted_at h counts desks j a records.1 counted.1

  -- what the words spell
  edges_fit : (s : State) (e : ℕ) → Fits p s → e < length (edges p) → IsOfBottles (length (bottles p e)) (edge s e)
  edges_fit s e fit inside = edge_fits p s e fit inside

  pub words_fit : (id : ℕ) (v : View) (words : List ℕ) (logs : List LogView) → Final (Seen (HasOneHistory p) id v) words logs → AreWords p words
  words_fit id v words logs f =
      let k = f.1.0 in
      let w : State = state_after p k.history in
      let fit = history_fits p k.history k.legal in
      let spelled : Spelled p w words = subst (λ ws. Spelled p w ws) f.2 k.words in
      record {
        wide = spelled.wide;
        edges_fit = λ e l. (edge w e, spelled.edge_words e l, edges_fit w e fit l);
        phases_fit = λ j l. (phase w j, spelled.phase_words j l, phase_fits p w j k.is_plan fit l);
      }

  pub logs_fit : (id : ℕ) (v : View) (words : List ℕ) (logs : List LogView) → Final (Seen (HasOneHistory p) id v) words logs → length logs ≡ length p.instruments
  logs_fit id v words logs f = sym f.3 ∙ f.1.0.homes.deep

  pub ends : (id : ℕ) (desks : List DeskView) (c : ClosedView) → c.plan ≡ p → Each (λ (d : DeskView). d.plan ≡ p) desks → HasAll p desks
      → Each RestsInGroups desks → AreCounted c.counts desks → Final (Seen (HasOneHistory p) id (gathered desks)) c.words c.logs → IsEnd p desks c
  ends id desks c same plans all rests counted f =
      let k = f.1.0 in
      let h : List Event = k.history in
      let w : State = state_after p h in
      let fit = history_fits p h k.legal in
      let fits = k.seats id (gathered desks) f.1.1 in
      let spelled : Spelled p w c.words = subst (λ ws. Spelled p w ws) f.2 k.words in
      let records = all_hands (λ (x : Hand). events_by x.job h ≡ x.deeds) desks
      (each_map (Held p h k.owner id) (λ (x : Hand). events_by x.job h ≡ x.deeds) (λ x t. t.1) (hands_of desks) fits.hands) in
      record {
        is_plan = k.is_plan;
        plan = same;
        history = h;
        legal = k.legal;
        records = records;
        nobody_else = all_by_jobs (the_opening p) h k.legal;
        groups = all_in_groups h desks (all_fronts (StartsWith h) desks fits.told) rests;
        fronts = all_fronts (StartsWith h) desks fits.told;
        edges = λ e l. ap state_of (spelled.edge_words e l)
            ∙ state_of-word_of (edge w e) (IsOfBottles-28 (length (bottles p e)) (edge w e) (k.is_plan.few_bottles e l) (edges_fit w e fit l)).bottles_fit;
        phases = λ j l. (λ i. phase_of (get_or c.words (phase_place (same i) j) 0))
            ∙ (ap phase_of (spelled.phase_words j l) ∙ phase_of-phase_word_of (phase w j) (phase_fits p w j k.is_plan fit l));
        logs = λ i l. gets c.logs i (log_with_room p w i) (empty_log 0) (elim (k.homes.slots i l) [
          | inl q ↦ f.4 i (log_with_room p w i) q
          | inr q ↦ absurd (none_reaches h desks q.1.0 q.1.1.job (all.every q.1.0 q.1.1.job) plans records rests q.1.1.reaching)
        ]);
        counts = λ j l. counted_at h c.counts desks j (all.every j l) records counted;
      }

-- ---- the counts of each job

module _ (counts : List Counts) (x : DeskView) where
  abbrev new_counts : List Counts
  new_counts = set counts x.job (counts_of x.job x.deeds)

  not_x : (desks : List DeskView) (i j : ℕ) → i < length desks → x ≡ get_or desks i x → Each (λ (k : ℕ). k ≢ j) (jobs_of desks) → x.job ≢ j
  not_x [] i j inside is other = absurd (omega arith)
  not_x (d ∷ desks) zero j inside is other = λ e. other.0 (sym (ap (λ (z : DeskView). z.job) is) ∙ e)
  not_x (d ∷ desks) (suc i) j inside is other = not_x desks i j (omega arith) is other.1

  counted_upto : (desks : List DeskView) (i : ℕ) → x.job < length counts → i < length desks → x ≡ get_or desks i x
      → Distinct (jobs_of desks) → AreCounted counts (take i desks) → AreCounted new_counts (take (suc i) desks)
  counted_upto [] i few inside is apart counted = absurd (omega arith)
  counted_upto (d ∷ desks) zero few inside is apart counted = (
    subst (λ (z : DeskView). get_or new_counts z.job no_counts ≡ counts_of z.job z.deeds) is
        (get_or-set_same counts x.job (counts_of x.job x.deeds) no_counts few),
    tt,
  )
  counted_upto (d ∷ desks) (suc i) few inside is apart counted =
      let x_not_d = not_x desks i d.job (omega arith) is apart.0 in (
        get_or-set_other counts x.job d.job (counts_of x.job x.deeds) no_counts (λ e. x_not_d (sym e)) ∙ counted.0,
        counted_upto desks i few (omega arith) is apart.1 counted.1,
      )

pub counted_more : (counts : List Counts) (place : ℕ) (these : Counts) (x : DeskView) (desks : List DeskView) (i : ℕ) → place ≡ x.job
    → these ≡ counts_of x.job x.deeds → x.job < length counts → i < length desks → x ≡ get_or desks i x → Distinct (jobs_of desks)
    → AreCounted counts (take i desks) → AreCounted (set counts place these) (take (i + 1) desks)
counted_more counts place these x desks i at is few inside item apart counted =
    subst (λ (z : List Counts × ℕ). AreCounted z.0 (take z.1 desks))
    (λ r. (set counts (sym at r) (sym is r), sym (add-one i) r)) (counted_upto counts x desks i few inside item apart counted)

pub each_at : (P : DeskView → Type 0) (desks : List DeskView) (i : ℕ) (x : DeskView) → i < length desks → x ≡ get_or desks i x → Each P desks → P x
each_at P [] i x inside is e = absurd (omega arith)
each_at P (d ∷ desks) zero x inside is e = subst P (sym is) e.0
each_at P (d ∷ desks) (suc i) x inside is e = each_at P desks i x (omega arith) is e.1
