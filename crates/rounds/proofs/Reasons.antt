-- Why rounds end, by the desks of a company whose records are all whole in the history.
use Rattle.std.proofs.Common.{◌≡◌, ◌≢◌, ℕ, ◌<◌, ◌≤◌, ◌↔◌, inl, inr, ⊎_elim, Bool, true, false, ◌&&◌, if◌then◌else◌, IsTrue, List, [], ◌∷◌, length, refl, sym, ap, ◌∙◌, subst, arith}
use Rattle.std.proofs.lemmas.Bool.{cases_eq, eq-eqb, ne_eqb}
use Rattle.lab_plan.specs.LabPlan.{LabPlan, edges, ends}
use Rattle.lab_plan.proofs.Edges.{ends_are_pair}
use Rattle.legal_steps.specs.declared.event.Event.{Event}
use Rattle.legal_steps.specs.declared.phase.Drinking.{Drinking}
use Rattle.legal_steps.specs.declared.phase.Drinking.TheVariants.{Tranquil, Thirsty, Drinking as Drinks, Reaching, Retired}
use Rattle.legal_steps.specs.State.{Seat, State, edge, drinking}
use Rattle.turns.specs.History.{events_by, known_by, state_after}
use Rattle.turns.specs.Lists.{Each}
use Rattle.turns.proofs.Runs.{own_known}
use Rattle.edge_rule.specs.DeskView.{DeskView, BenchView, Owns, IsAtRest, known}
use Rattle.edge_rule.specs.Company.{jobs_of}
use Rattle.edge_rule.specs.Ending.{Any}
use Rattle.rounds.specs.declared.ended.Ended.{Ended}
use Rattle.rounds.specs.declared.ended.Ended.TheVariants as reasons
use Rattle.rounds.specs.Company.{AllOf, Company, all_retired, seen_by, IsAgreed}
use Rattle.turns.specs.AtTheEnd.{AllRetired, BothKnow}
use Rattle.rounds.specs.Rounds.{Player, players_of, known_in, IsOver, Rounds, Why, Played}
use Rattle.session_layer.specs.Retired.{has_retired, is_retired}
use Rattle.rounds.proofs.Lists.{zip_each}

and_both : (a b : Bool) → (a && b) ≡ true → (a ≡ true) × (b ≡ true)
and_both true b e = (refl, e)
and_both false b e = absurd (cc)

gone_is : (d : Drinking) → has_retired d ≡ true → d ≡ Retired
gone_is Retired e = refl
gone_is Tranquil e = absurd (cc)
gone_is Thirsty e = absurd (cc)
gone_is Drinks e = absurd (cc)
gone_is Reaching e = absurd (cc)

pub retired_each : (l : List DeskView) → all_retired l ≡ true → Each (λ (d : DeskView). is_retired d ≡ true) l
retired_each [] e = tt
retired_each (d ∷ l) e = let q = and_both (is_retired d) (all_retired l) e in (q.0, retired_each l q.1)

pub each_retired : (l : List DeskView) → Each (λ (d : DeskView). is_retired d ≡ true) l → all_retired l ≡ true
each_retired [] e = refl
each_retired (d ∷ l) e = λ i. e.0 i && each_retired l e.1 i

module _ (b : BenchView) (h : List Event) (desks : List DeskView) (c : Company b h desks) (all : AllOf b.plan (jobs_of desks)) where
  -- what the desk knows is what its job does, by its events in the history
  abbrev IsNow : DeskView → Type 0
  IsNow d = (known d ≡ known_in b.plan h d.job) × (d.job < length b.plan.jobs)

  nows : Each IsNow desks
  nows = zip_each (Owns b) (λ (d : DeskView). IsAtRest d × (events_by d.job h ≡ d.deeds)) IsNow
      (λ d o w. (λ i. known_by (o.1 i) (sym w.1 i), subst (λ (z : LabPlan). d.job < length z.jobs) o.1 w.0.inside)) desks c.own
      (zip_each IsAtRest (λ (d : DeskView). events_by d.job h ≡ d.deeds)
      (λ (d : DeskView). IsAtRest d × (events_by d.job h ≡ d.deeds)) (λ d s t. (s, t)) desks c.rest c.whole)

  -- ---- all are retired

  drinks : (d : DeskView) → IsNow d → drinking (known d) d.job ≡ drinking (state_after b.plan h) d.job
  drinks d now = ap (λ (s : State). drinking s d.job) now.0 ∙ ap (λ (x : Seat). x.phase.drinking) (sym (own_known b.plan d.job h now.1))

  find_job : (j : ℕ) (P : ℕ → Type 0) (l : List DeskView) → Any (λ (i : ℕ). i ≡ j) (jobs_of l) → Each (λ (d : DeskView). P d.job) l → P j
  find_job j P [] any e = absurd any
  find_job j P (d ∷ l) (inl is) e = subst P is e.0
  find_job j P (d ∷ l) (inr more) e = find_job j P l more e.1

  pub retired_then : all_retired desks ≡ true → AllRetired b.plan h
  retired_then e j inside = find_job j (λ i. drinking (state_after b.plan h) i ≡ Retired) desks (all j inside)
      (zip_each IsNow (λ (d : DeskView). is_retired d ≡ true) (λ (d : DeskView). drinking (state_after b.plan h) d.job ≡ Retired)
      (λ d now is. sym (drinks d now) ∙ gone_is (drinking (known d) d.job) is) desks nows (retired_each desks e))

  pub then_retired : AllRetired b.plan h → all_retired desks ≡ true
  then_retired are = each_retired desks
      (zip_each IsNow IsNow (λ (d : DeskView). is_retired d ≡ true) (λ d now _. ap has_retired (drinks d now ∙ are d.job now.1)) desks nows nows)

  -- ---- both ends know the same

  seen_is : (j e : ℕ) (l : List DeskView) → Any (λ (i : ℕ). i ≡ j) (jobs_of l) → Each IsNow l → seen_by l j e ≡ edge (known_in b.plan h j) e
  seen_is j e [] any now = absurd any
  seen_is j e (d ∷ l) any now = elim (cases_eq d.job j) [
    | inl is ↦ ap (λ (t : Bool). if t then edge (known d) e else seen_by l j e) (eq-eqb d.job j is)
        ∙ (ap (λ (s : State). edge s e) now.0.0 ∙ ap (λ i. edge (known_in b.plan h i) e) is)
    | inr other ↦ ap (λ (t : Bool). if t then edge (known d) e else seen_by l j e) (ne_eqb d.job j other) ∙ seen_is j e l (later any other) now.1
  ] where
    later : Any (λ (i : ℕ). i ≡ j) (jobs_of (d ∷ l)) → d.job ≢ j → Any (λ (i : ℕ). i ≡ j) (jobs_of l)
    later (inl h) other = absurd (other h)
    later (inr h) other = h

  seen_ends : (e : ℕ) → e < length (edges b.plan) → (seen_by desks (ends b.plan e).0 e ≡ edge (known_in b.plan h (ends b.plan e).0) e)
      × (seen_by desks (ends b.plan e).1 e ≡ edge (known_in b.plan h (ends b.plan e).1) e)
  seen_ends e inside = let pair = ends_are_pair b.plan e inside in let low = pair.0 in let high = pair.1 in (
    seen_is (ends b.plan e).0 e desks (all (ends b.plan e).0 (omega arith)) nows,
    seen_is (ends b.plan e).1 e desks (all (ends b.plan e).1 high) nows,
  )

  pub agreed_then : IsAgreed desks b.plan (length (edges b.plan)) → BothKnow b.plan h
  agreed_then same e inside = let q = seen_ends e inside in sym q.0 ∙ (same e inside ∙ q.1)

  pub then_agreed : BothKnow b.plan h → IsAgreed desks b.plan (length (edges b.plan))
  then_agreed same e inside = let q = seen_ends e inside in q.0 ∙ (same e inside ∙ sym q.1)

-- ---- why it ends, after so many rounds

module _ (b : BenchView) (limit : ℕ) (players : List Player) (h g : List Event) (desks : List DeskView)
    (number : ℕ) (quiet : Bool) (all : AllOf b.plan (jobs_of desks)) (joint : Company b g desks)
    (inv : (idle : Bool) × Rounds b.plan players number idle h g (players_of desks) × (IsTrue quiet ↔ ((idle ≡ true) × BothKnow b.plan g))) where
  gives : (ended : Ended) (n : ℕ) → number ≡ n → n ≤ limit → Why b.plan g ended inv.0 n limit → Played b limit players h ended n g desks
  gives ended n is most why = record {
    idle = inv.0;
    rounds = subst (λ (z : ℕ). Rounds b.plan players z inv.0 h g (players_of desks)) is inv.1;
    most = most;
    why = why;
  }

  not_retired : all_retired desks ≡ false → ¬ AllRetired b.plan g
  not_retired r are = let both : true ≡ false = sym (then_retired b g desks joint all are) ∙ r in absurd (cc)

  -- it isn't over
  pub going : all_retired desks ≡ false → quiet ≡ false → ¬ IsOver b.plan inv.0 g
  going r q over =
      ⊎_elim (λ are. not_retired r are) (λ (s : (inv.0 ≡ true) × BothKnow b.plan g). let both : true ≡ false = sym (inv.2.1 s) ∙ q in absurd (cc)) over

  pub ended_all : (n : ℕ) → number ≡ n → n ≤ limit → all_retired desks ≡ true → Played b limit players h reasons.AllRetired n g desks
  ended_all n is most r = gives reasons.AllRetired n is most (retired_then b g desks joint all r)

  pub ended_quiet : (n : ℕ) → number ≡ n → n ≤ limit → all_retired desks ≡ false → quiet ≡ true → Played b limit players h reasons.Quiet n g desks
  ended_quiet n is most r q = let both = inv.2.0 q in gives reasons.Quiet n is most (not_retired r, both.0, both.1)

  pub ended_limit : number ≡ limit → all_retired desks ≡ false → quiet ≡ false → Played b limit players h reasons.Limit limit g desks
  ended_limit is r q = gives reasons.Limit limit is (omega arith) (going r q, refl)

-- whether the last round was quiet
pub quiet_then : (idle agreed quiet : Bool) (P Q : Type 0) → idle ≡ true → quiet ≡ agreed
    → (IsTrue agreed ↔ P) → (P → Q) → (Q → P) → IsTrue quiet ↔ ((idle ≡ true) × Q)
quiet_then idle agreed quiet P Q is same iff f b = (λ t. (is, f (iff.0 (sym same ∙ t))), λ s. same ∙ iff.1 (b s.1))

pub quiet_else : (idle quiet : Bool) (Q : Type 0) → idle ≡ false → quiet ≡ idle → IsTrue quiet ↔ ((idle ≡ true) × Q)
quiet_else idle quiet Q is same = (λ t. let both : true ≡ false = sym t ∙ (same ∙ is) in absurd (cc), λ s. same ∙ s.0)
