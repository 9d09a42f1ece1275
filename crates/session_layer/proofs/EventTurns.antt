-- What a desk did in a turn, by its record alone.
use Rattle.std.proofs.Common.{◌≡◌, ◌≢◌, ℕ, Bool, true, false, if◌then◌else◌, List, [], ◌∷◌, ◌++◌, refl, sym, ap, ◌∙◌, subst, append_assoc, append-nil}
use Rattle.lab_plan.specs.LabPlan.{LabPlan}
use Rattle.legal_steps.specs.declared.event.Event.{Event}
use Rattle.legal_steps.specs.declared.event.Event.TheVariants.{Look}
use Rattle.legal_steps.specs.State.{State, edge}
use Rattle.legal_steps.specs.Opening.{the_opening}
use Rattle.edge_word.specs.Moves.{events_of, is_nothing}
use Rattle.turns.specs.History.{learned_all, known_by}
use Rattle.edge_rule.specs.DeskView.{DeskView, Adds, known, shown, waited}
use Rattle.turns.proofs.Runs.{learned_all-append}
use Rattle.turns.specs.Due.{AreDue}
use Rattle.turns.specs.Acts.{AreActs}
use Rattle.turns.specs.Turn.{Visit}
use Rattle.session_layer.specs.Turn.{Visits, VisitsAll, DoesAll, Chosen, Took}
use Rattle.turns.specs.Turn.{visit_events, visits_events, AreVisits, IsTurnBy}
use Rattle.session_layer.specs.Turn.{TookIsTurn, IdleIsIdle}
use Rattle.session_layer.specs.declared.turning.Turned.{Turned}
use Rattle.session_layer.specs.declared.turning.Turned.TheVariants.{Idle}
use Rattle.turns.proofs.Idle.{no_events, nothing_done_is_idle}

-- the record grew by these events
pub record Did (d : DeskView) (events : List Event) (e : DeskView) : Type 0 where
  pub plan : e.plan ≡ d.plan
  pub job : e.job ≡ d.job
  pub deeds : e.deeds ≡ d.deeds ++ events

adds_did : (d : DeskView) (g : List Event) (e : DeskView) → Adds d g e → Did d g e
adds_did d g e a = record { plan = a.plan; job = a.job; deeds = a.deeds }

did_then : (d m e : DeskView) (a b : List Event) → Did d a m → Did m b e → Did d (a ++ b) e
did_then d m e a b s t = record { plan = t.plan ∙ s.plan; job = t.job ∙ s.job; deeds = t.deeds ∙ (ap (λ l. l ++ b) s.deeds ∙ append_assoc d.deeds a b) }

did_none : (d e : DeskView) → e ≡ d → Did d [] e
did_none d e is = record {
  plan = ap (λ (z : DeskView). z.plan) is;
  job = ap (λ (z : DeskView). z.job) is;
  deeds = ap (λ (z : DeskView). z.deeds) is ∙ sym (append-nil d.deeds);
}

pub known_then : (d e : DeskView) (g : List Event) → Did d g e → known e ≡ learned_all d.plan (known d) g
known_then d e g t = (λ i. known_by (t.plan i) (t.deeds i)) ∙ learned_all-append d.plan (the_opening d.plan) d.deeds g

tried : (d : DeskView) (v : Visit) (d' : DeskView) (b c : Bool) → is_nothing v.moves ≡ b → v.lost ≡ c
    → Chosen b (d' ≡ d) (Chosen c (Adds d [] d' × (edge (shown d') v.edge ≢ edge (known d) v.edge)) (Adds d (events_of v.moves d.job v.edge) d'))
    → Did d (if c then [] else events_of v.moves d.job v.edge) d'
tried d v d' true true is lost t = did_none d d' t
tried d v d' true false is lost t = subst (λ g. Did d g d') (sym (no_events v.moves d.job v.edge is)) (did_none d d' t)
tried d v d' false true is lost t = adds_did d [] d' t.0
tried d v d' false false is lost t = adds_did d (events_of v.moves d.job v.edge) d' t

visit_did : (d : DeskView) (v : Visit) (d' : DeskView) → Visits d v d' → Did d (visit_events d.job v) d'
visit_did d v d' t = subst (λ j. Did d (Look d.job v.edge v.saw ∷ (if v.lost then [] else events_of v.moves j v.edge)) d') t.look.job
    (did_then d t.looked d' (Look d.job v.edge v.saw ∷ []) _ (adds_did d _ t.looked t.look) (tried t.looked v d' (is_nothing v.moves) v.lost refl refl t.tries))

pub visits_did : (d : DeskView) (vs : List Visit) (d' : DeskView) → VisitsAll d vs d' → Did d (visits_events d.job vs) d' × AreVisits d.plan d.job (known d) vs
visits_did d [] d' is = (did_none d d' is, tt)
visits_did d (v ∷ vs) d' (m, first, later) = let a = visit_did d v m first in let b = visits_did m vs d' later in (
  subst (λ j. Did d (visit_events d.job v ++ visits_events j vs) d') a.job (did_then d m d' (visit_events d.job v) (visits_events m.job vs) a b.0),
  (
    (let look = adds_did d (Look d.job v.edge v.saw ∷ []) first.looked first.look in
        subst (λ (z : LabPlan × State × ℕ). AreDue z.0 z.1 z.2 v.edge v.moves)
        (λ i. (look.plan i, known_then d first.looked (Look d.job v.edge v.saw ∷ []) look i, look.job i)) first.due),
    subst (λ (z : LabPlan × ℕ × State). AreVisits z.0 z.1 z.2 vs) (λ i. (a.plan i, a.job i, known_then d m (visit_events d.job v) a i)) b.1,
  ),
)

all_did : (d : DeskView) (events : List Event) (d' : DeskView) → DoesAll d events d' → Did d events d'
all_did d [] d' is = did_none d d' is
all_did d (x ∷ xs) d' (m, first, later) = did_then d m d' (x ∷ []) xs (adds_did d (x ∷ []) m first) (all_did m xs d' later)

-- by which turn
turn_by : (d : DeskView) (r : Turned) (d' : DeskView) (t : Took d r d')
    → IsTurnBy d.plan d.job (waited d) (known d) t.visits t.acts (visits_events d.job t.visits ++ t.acts)
turn_by d r d' t = let a = visits_did d t.visits t.visited t.all in record {
  edges = t.edges;
  due = a.1;
  acts_due = subst (λ (z : LabPlan × State × ℕ). AreActs z.0 z.1 z.2 (waited d) t.acts)
      (λ i. (a.0.plan i, known_then d t.visited (visits_events d.job t.visits) a.0 i, a.0.job i)) t.due;
  events_are = refl;
}

pub deeds_then : (d : DeskView) (r : Turned) (d' : DeskView) (t : Took d r d') → d'.deeds ≡ d.deeds ++ (visits_events d.job t.visits ++ t.acts)
deeds_then d r d' t =
    ap (λ (z : DeskView). z.deeds) t.noted_is
    ∙ (did_then d t.visited t.acted (visits_events d.job t.visits) t.acts
    (visits_did d t.visits t.visited t.all).0 (all_did t.visited t.acts t.acted t.does)).deeds

pub took_is_turn : TookIsTurn
took_is_turn = λ d r d' t. (visits_events d.job t.visits ++ t.acts, (t.visits, t.acts, turn_by d r d' t), deeds_then d r d' t)

pub idle_is_idle : IdleIsIdle
idle_is_idle = λ d d' t. (
  visits_events d.job t.visits ++ t.acts,
  nothing_done_is_idle d.plan d.job (waited d) (known d) t.visits t.acts (visits_events d.job t.visits ++ t.acts) (turn_by d Idle d' t) t.says.0 t.says.1,
  deeds_then d Idle d' t,
)
