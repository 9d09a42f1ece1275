-- A desk whose job alone did anything: nothing came between its steps, and no exchange was lost.
use Rattle.std.proofs.Common.{◌≡◌, ◌≢◌, ℕ, ◌+◌, Bool, true, false, not, ◌&&◌, if◌then◌else◌, List, [], ◌∷◌, ◌++◌, refl, sym, ap, ◌∙◌, subst, append_assoc, append-nil}
use Rattle.std.proofs.lemmas.List.Elements.{filter-append}
use Rattle.legal_steps.specs.declared.edge_state.EdgeState.{EdgeState}
use Rattle.legal_steps.specs.declared.event.Event.{Event}
use Rattle.legal_steps.specs.declared.event.Event.TheVariants.{Look}
use Rattle.legal_steps.specs.State.{State, edge}
use Rattle.legal_steps.specs.Opening.{the_opening}
use Rattle.edge_word.specs.Moves.{events_of, is_nothing}
use Rattle.legal_steps.specs.Run.{actor}
use Rattle.turns.specs.History.{is_by, events_by, state_after, IsHistory}
use Rattle.turns.specs.Lists.{Each}
use Rattle.turns.proofs.Runs.{only_mine, append_self, after_all-append, legal-goes_on}
use Rattle.edge_rule.specs.DeskView.{DeskView, Adds, IsAtRest, known, shown}
use Rattle.edge_rule.proofs.ManyHands.{each_begin, each_end}
use Rattle.turns.specs.Turn.{Visit, is_lost, count}
use Rattle.session_layer.specs.Turn.{Visits, VisitsAll, Chosen}
use Rattle.session_layer.proofs.Grows.{look_known, adds_goes, adds_rests, visit_goes, visits_go}
use Rattle.rounds.proofs.Lists.{append_cancel}

-- all of these events are the job's
abbrev pub AreBy : ℕ → List Event → Type 0
AreBy j events = Each (λ (x : Event). actor x ≡ j) events

-- a desk that grew by no event of its own, where nobody else did anything
still : (d e : DeskView) (more : List Event) → IsAtRest d → Adds d [] e → e.front ≡ d.front ++ more → AreBy d.job more → e.front ≡ d.front
still d e more rest a is alone = is ∙ (ap (λ z. d.front ++ z) none ∙ append-nil d.front) where
  whole : events_by d.job e.front ≡ events_by d.job d.front
  whole = (λ i. events_by (sym a.job i) e.front) ∙ (a.whole ∙ (a.deeds ∙ (append-nil d.deeds ∙ sym rest.whole)))

  none : more ≡ []
  none = sym (only_mine d.job more alone)
      ∙ append_self (events_by d.job d.front) (events_by d.job more) (sym (filter-append (is_by d.job) d.front more) ∙ (ap (events_by d.job) (sym is) ∙ whole))

-- after a look, the edge is as it was seen in the history
module _ (d m : DeskView) (e : ℕ) (x : EdgeState) (a : Adds d (Look d.job e x ∷ []) m) where
  abbrev before : List Event
  before = d.front ++ a.between

  looks : IsHistory m.plan (before ++ Look d.job e x ∷ [])
  looks = subst (IsHistory m.plan) a.front a.legal

  pub look_shown : edge (shown m) e ≡ x
  look_shown = let last = legal-goes_on m.plan (the_opening m.plan) before (Look d.job e x ∷ []) looks in
      ap (λ (h : List Event). edge (state_after m.plan h) e) a.front
      ∙ (ap (λ (s : State). edge s e) (after_all-append m.plan (the_opening m.plan) before (Look d.job e x ∷ [])) ∙ sym last.0.1)

-- an exchange isn't lost
tried_alone : (d m : DeskView) (v : Visit) (d' : DeskView) (more : List Event) (b c : Bool) → is_nothing v.moves ≡ b
    → v.lost ≡ c → IsAtRest m → Adds d (Look d.job v.edge v.saw ∷ []) m → d'.front ≡ m.front ++ more → AreBy m.job more
    → Chosen b (d' ≡ m) (Chosen c (Adds m [] d' × (edge (shown d') v.edge ≢ edge (known m) v.edge)) (Adds m (events_of v.moves m.job v.edge) d'))
    → (not b && c) ≡ false
tried_alone d m v d' more true c is lost rest look front alone t = refl
tried_alone d m v d' more false false is lost rest look front alone t = refl
tried_alone d m v d' more false true is lost rest look front alone t =
    absurd (t.1 ((λ i. edge (state_after (t.0.plan i) (still m d' more rest t.0 front alone i)) v.edge)
    ∙ (look_shown d m v.edge v.saw look ∙ sym (look_known d m v.edge v.saw look))))

-- what came between the two ends of a part of a list
pub parts : (d m e : List Event) (a b more : List Event) → m ≡ d ++ a → e ≡ m ++ b → e ≡ d ++ more → more ≡ a ++ b
parts d m e a b more first second all = append_cancel d more (a ++ b) (sym all ∙ (second ∙ (ap (λ z. z ++ b) first ∙ append_assoc d a b)))

visit_alone : (d : DeskView) (v : Visit) (d' : DeskView) (more : List Event) → IsAtRest d
    → Visits d v d' → d'.front ≡ d.front ++ more → AreBy d.job more → is_lost v ≡ false
visit_alone d v d' more rest t front alone =
    let m : DeskView = t.looked in
    let first = adds_goes d (Look d.job v.edge v.saw ∷ []) m t.look in
    let all = visit_goes d v d' t in
    let later : (b c : Bool)
    → Chosen b (d' ≡ m) (Chosen c (Adds m [] d' × (edge (shown d') v.edge ≢ edge (known m) v.edge)) (Adds m (events_of v.moves m.job v.edge) d'))
    → (more' : List Event) × (d'.front ≡ m.front ++ more') = tail m d' in
    let rest_of = later (is_nothing v.moves) v.lost t.tries in
    let split : more ≡ first.grew.more ++ rest_of.0 = parts d.front m.front d'.front first.grew.more rest_of.0 more first.grew.front rest_of.1 front in
    tried_alone d m v d' rest_of.0 (is_nothing v.moves) v.lost refl refl (adds_rests d (Look d.job v.edge v.saw ∷ []) m t.look rest) t.look rest_of.1
    (subst (λ j. AreBy j rest_of.0) (sym t.look.job) (each_end (λ (x : Event). actor x ≡ d.job) first.grew.more rest_of.0 (subst (AreBy d.job) split alone)))
    t.tries
  where
    tail : (m d' : DeskView) (b c : Bool)
        → Chosen b (d' ≡ m) (Chosen c (Adds m [] d' × (edge (shown d') v.edge ≢ edge (known m) v.edge)) (Adds m (events_of v.moves m.job v.edge) d'))
        → (more' : List Event) × (d'.front ≡ m.front ++ more')
    tail m d' true c is = ([], ap (λ (z : DeskView). z.front) is ∙ sym (append-nil m.front))
    tail m d' false true t = (t.0.between ++ [], t.0.front ∙ append_assoc m.front t.0.between [])
    tail m d' false false t = (t.between ++ events_of v.moves m.job v.edge, t.front ∙ append_assoc m.front t.between (events_of v.moves m.job v.edge))

-- in visits one after another, none is
pub visits_alone : (d : DeskView) (vs : List Visit) (d' : DeskView) (more : List Event) → IsAtRest d
    → VisitsAll d vs d' → d'.front ≡ d.front ++ more → AreBy d.job more → count is_lost vs ≡ 0
visits_alone d [] d' more rest is front alone = refl
visits_alone d (v ∷ vs) d' more rest (m, first, later) front alone =
    let a = visit_goes d v m first in let b = visits_go m vs d' later in
    let split : more ≡ a.grew.more ++ b.grew.more = parts d.front m.front d'.front a.grew.more b.grew.more more a.grew.front b.grew.front front in
    let by = subst (AreBy d.job) split alone in
    let here = visit_alone d v m a.grew.more rest first a.grew.front (each_begin (λ (x : Event). actor x ≡ d.job) a.grew.more b.grew.more by) in
    let others = visits_alone m vs d' b.grew.more (a.grew.rests rest) later b.grew.front
    (subst (λ j. AreBy j b.grew.more) (sym a.grew.job) (each_end (λ (x : Event). actor x ≡ d.job) a.grew.more b.grew.more by)) in
    (λ i. (if here i then 1 else 0) + others i)
