-- Where no exchange is lost, a turn follows from the history before it: each look sees the edge as it is, and what is due is one.
use Rattle.std.proofs.Common.{◌≡◌, ℕ, ◌+◌, Bool, true, false, not, ◌&&◌, if◌then◌else◌, List, [], ◌∷◌, ◌++◌, map, refl, sym, ap, ◌∙◌, subst, arith, append_assoc}
use Rattle.lab_plan.specs.LabPlan.{LabPlan}
use Rattle.legal_steps.specs.declared.edge_state.EdgeState.{EdgeState}
use Rattle.legal_steps.specs.declared.event.Event.{Event}
use Rattle.legal_steps.specs.declared.event.Event.TheVariants.{Look}
use Rattle.legal_steps.specs.State.{State, edge}
use Rattle.legal_steps.specs.Run.{IsLegalFrom, after_all}
use Rattle.edge_word.specs.declared.moves.EdgeMoves.{EdgeMoves}
use Rattle.edge_word.specs.Moves.{events_of, is_nothing}
use Rattle.turns.specs.History.{learned, learned_all}
use Rattle.turns.proofs.Runs.{legal-goes_on}
use Rattle.turns.specs.Due.{AreDue}
use Rattle.turns.specs.Acts.{AreActs}
use Rattle.turns.specs.Turn.{Visit, is_done, is_lost, count, once, visit_events, visits_events, AreVisits, IsTurnBy}
use Rattle.turns.proofs.Calm.{one_group_is_due}
use Rattle.turns.proofs.Firsts.{one_act_is_due}
use Rattle.turns.proofs.Idle.{no_events}

first_of : ℕ → List ℕ → ℕ
first_of d [] = d
first_of d (x ∷ xs) = x

rest_of : List ℕ → List ℕ
rest_of [] = []
rest_of (x ∷ xs) = xs

same_first : (a b : ℕ) (xs ys : List ℕ) → a ∷ xs ≡ b ∷ ys → a ≡ b
unfolding first_of
same_first a b xs ys is = ap (first_of 0) is

same_rest : (a b : ℕ) (xs ys : List ℕ) → a ∷ xs ≡ b ∷ ys → xs ≡ ys
unfolding rest_of
same_rest a b xs ys is = ap rest_of is

-- an exchange that isn't lost is done, where there is one
not_lost : (v : Visit) (n : ℕ) → (if not (is_nothing v.moves) && v.lost then 1 else 0) + n ≡ 0
    → (n ≡ 0) × ((if is_nothing v.moves then true else not v.lost) ≡ true)
not_lost v n is = at (is_nothing v.moves) v.lost is where
  at : (b c : Bool) → (if not b && c then 1 else 0) + n ≡ 0 → (n ≡ 0) × ((if b then true else not c) ≡ true)
  at true c is = (omega (arith, is), refl)
  at false true is = absurd (omega (arith, is))
  at false false is = (omega (arith, is), refl)

done_events : (b c : Bool) (events : List Event) → (if b then true else not c) ≡ true → (b ≡ true → events ≡ []) → (if c then [] else events) ≡ events
done_events true true events is none = sym (none refl)
done_events true false events is none = refl
done_events false true events is none = absurd (cc)
done_events false false events is none = refl

done_count : (b c : Bool) → (if b then true else not c) ≡ true → (not b && not c) ≡ not b
done_count true c is = refl
done_count false true is = absurd (cc)
done_count false false is = refl

module _ (plan : LabPlan) (j : ℕ) where
  -- the events of a visit in which nothing was lost
  abbrev whole_visit : ℕ → EdgeState → EdgeMoves → List Event
  whole_visit e x m = Look j e x ∷ events_of m j e

  visit_whole : (v : Visit) → (if is_nothing v.moves then true else not v.lost) ≡ true → visit_events j v ≡ whole_visit v.edge v.saw v.moves
  visit_whole v is = ap (λ l. Look j v.edge v.saw ∷ l) (done_events (is_nothing v.moves) v.lost (events_of v.moves j v.edge) is (no_events v.moves j v.edge))

  abbrev SameVisits : List Visit → List Visit → Type 0
  SameVisits vs us = (visits_events j vs ≡ visits_events j us) × (count is_done vs ≡ count is_done us)

  some_edge : (a : ℕ) (xs : List ℕ) → a ∷ xs ≡ [] → ⊥
  some_edge a xs is = cc

  visits_same : (s w : State) (vs us : List Visit) (rest rest' : List Event)
      → map (λ (v : Visit). v.edge) vs ≡ map (λ (v : Visit). v.edge) us → AreVisits plan j s vs → AreVisits plan j s us
      → count is_lost vs ≡ 0 → count is_lost us ≡ 0 → IsLegalFrom plan w (visits_events j vs ++ rest)
      → IsLegalFrom plan w (visits_events j us ++ rest') → SameVisits vs us
  visits_same s w [] [] rest rest' edges due due' lost lost' legal legal' = (refl, refl)
  visits_same s w [] (u ∷ us) rest rest' edges due due' lost lost' legal legal' = absurd (some_edge u.edge (map (λ (v : Visit). v.edge) us) (sym edges))
  visits_same s w (v ∷ vs) [] rest rest' edges due due' lost lost' legal legal' = absurd (some_edge v.edge (map (λ (v : Visit). v.edge) vs) edges)
  visits_same s w (v ∷ vs) (u ∷ us) rest rest' edges due due' lost lost' legal legal' =
      let here : v.edge ≡ u.edge = same_first v.edge u.edge _ _ edges in
      let kept = not_lost v (count is_lost vs) lost in
      let kept' = not_lost u (count is_lost us) lost' in
      let saw : v.saw ≡ u.saw = legal.0.1 ∙ (ap (edge w) here ∙ sym legal'.0.1) in
      let moves : v.moves ≡ u.moves = one_group_is_due plan (learned plan s (Look j u.edge u.saw)) j u.edge v.moves u.moves
      (subst (λ (z : ℕ × EdgeState). AreDue plan (learned plan s (Look j z.0 z.1)) j z.0 v.moves) (λ i. (here i, saw i)) due.0) due'.0 in
      let events : visit_events j v ≡ visit_events j u = visit_whole v kept.1 ∙ ((λ i. whole_visit (here i) (saw i) (moves i)) ∙ sym (visit_whole u kept'.1)) in
      let next : IsLegalFrom plan (after_all plan w (visit_events j v)) (visits_events j vs ++ rest) =
      legal-goes_on plan w (visit_events j v) (visits_events j vs ++ rest)
      (subst (IsLegalFrom plan w) (append_assoc (visit_events j v) (visits_events j vs) rest) legal) in
      let next' : IsLegalFrom plan (after_all plan w (visit_events j u)) (visits_events j us ++ rest') =
      legal-goes_on plan w (visit_events j u) (visits_events j us ++ rest')
      (subst (IsLegalFrom plan w) (append_assoc (visit_events j u) (visits_events j us) rest') legal') in
      let later : SameVisits vs us =
      visits_same (learned_all plan s (visit_events j v)) (after_all plan w (visit_events j v)) vs us rest rest' (same_rest v.edge u.edge _ _ edges) due.1
      (subst (λ l. AreVisits plan j (learned_all plan s l) us) (sym events) due'.1) kept.0 kept'.0 next
      (subst (λ l. IsLegalFrom plan (after_all plan w l) (visits_events j us ++ rest')) (sym events) next') in
      let one : (not (is_nothing v.moves) && not v.lost) ≡ (not (is_nothing u.moves) && not u.lost) =
      done_count (is_nothing v.moves) v.lost kept.1
      ∙ (ap (λ (m : EdgeMoves). not (is_nothing m)) moves ∙ sym (done_count (is_nothing u.moves) u.lost kept'.1)) in
      ((λ i. events i ++ later.0 i), (λ i. (let n : ℕ = if one i then 1 else 0 in n) + later.1 i))

  -- a turn by its job's knowledge and the state that it is done in
  pub turn_same : (waited : ℕ) (s w : State) (vs us : List Visit) (acts acts' events events' : List Event)
      → IsTurnBy plan j waited s vs acts events → IsTurnBy plan j waited s us acts' events'
      → count is_lost vs ≡ 0 → count is_lost us ≡ 0 → IsLegalFrom plan w events → IsLegalFrom plan w events'
      → (events ≡ events') × (count is_done vs + once acts ≡ count is_done us + once acts')
  turn_same waited s w vs us acts acts' events events' t t' lost lost' legal legal' =
      let same : SameVisits vs us =
      visits_same s w vs us acts acts' (t.edges ∙ sym t'.edges) t.due t'.due lost lost'
      (subst (IsLegalFrom plan w) t.events_are legal) (subst (IsLegalFrom plan w) t'.events_are legal') in
      let act : acts ≡ acts' = one_act_is_due plan (learned_all plan s (visits_events j us)) j waited acts acts'
      (subst (λ l. AreActs plan (learned_all plan s l) j waited acts) same.0 t.acts_due) t'.acts_due in
      (t.events_are ∙ ((λ i. same.0 i ++ act i) ∙ sym t'.events_are), λ i. same.1 i + once (act i))
