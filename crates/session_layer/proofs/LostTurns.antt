-- What is said of a turn that lost its exchanges: looks alone, and an exchange that was due and found another word.
use Rattle.std.proofs.Common.{◌≡◌, ℕ, ◌+◌, Bool, true, false, not, ◌&&◌, if◌then◌else◌, List, [], ◌∷◌, ◌++◌, map, arith, refl, ap, ◌∙◌, subst, append-nil}
use Rattle.legal_steps.specs.declared.event.Event.{Event}
use Rattle.legal_steps.specs.declared.event.Event.TheVariants.{Look}
use Rattle.edge_word.specs.Moves.{events_of, is_nothing}
use Rattle.edge_rule.specs.DeskView.{DeskView, shown}
use Rattle.turns.specs.Turn.{Visit, visits_events, count, once, is_done}
use Rattle.turns.specs.Turns.{Group, Stands, turn_groups, visits_groups}
use Rattle.turns.proofs.Idle.{no_events}
use Rattle.session_layer.specs.Turn.{LostDidNothing}
use Rattle.session_layer.specs.declared.turning.Turned.TheVariants.{Moved}
use Rattle.session_layer.proofs.EventTurns.{visits_did, deeds_then}
use Rattle.session_layer.proofs.Grows.{Goes, took_goes}

-- a visit that did nothing is a look
not_done : (nothing lost : Bool) (n : ℕ) (events : List Event) → (if not nothing && not lost then 1 else 0) + n ≡ 0
    → (nothing ≡ true → events ≡ []) → (if lost then [] else events) ≡ []
not_done nothing true n events h none = refl
not_done true false n events h none = none refl
not_done false false n events h none = absurd (omega (arith, h))

looks_alone : (j : ℕ) (vs : List Visit) → count is_done vs ≡ 0 → visits_events j vs ≡ map (λ (v : Visit). Look j v.edge v.saw) vs
looks_alone j [] h = refl
looks_alone j (v ∷ vs) h =
    λ i. Look j v.edge v.saw ∷ not_done (is_nothing v.moves) v.lost (count is_done vs) (events_of v.moves j v.edge) h (no_events v.moves j v.edge) i
    ++ looks_alone j vs (omega (arith, h)) i

none_at_all : (acts : List Event) → once acts ≡ 0 → acts ≡ []
none_at_all [] h = refl
none_at_all (x ∷ acts) h = absurd (omega (arith, h))

pub lost_did_nothing : LostDidNothing
lost_did_nothing = λ d d' t.
    let none = t.says.0 in
    let no_acts : t.acts ≡ [] = none_at_all t.acts (omega (arith, none)) in
    let looks : visits_events d.job t.visits ++ t.acts ≡ map (λ (v : Visit). Look d.job v.edge v.saw) t.visits =
    ap (λ l. visits_events d.job t.visits ++ l) no_acts
    ∙ (append-nil (visits_events d.job t.visits) ∙ looks_alone d.job t.visits (omega (arith, none))) in
    let g : Goes d (turn_groups d.job t.visits t.acts) t.acted = took_goes d Moved d' t in
    record {
      visits = t.visits;
      edges = t.edges;
      looks = deeds_then d Moved d' t ∙ ap (λ l. d.deeds ++ l) looks;
      due = (visits_did d t.visits t.visited t.all).1;
      lost = t.says.1;
      more = g.grew.more;
      front = ap (λ (z : DeskView). z.front) t.noted_is ∙ g.grew.front;
      stand = subst (λ (gs : List Group). Stands d.plan (shown d) gs g.grew.more)
          (ap (turn_groups d.job t.visits) no_acts ∙ append-nil (visits_groups d.job t.visits)) g.stands;
    }
