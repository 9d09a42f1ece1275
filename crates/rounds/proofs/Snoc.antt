-- One turn more in a round.
use Rattle.std.proofs.Common.{◌≡◌, ◌&&◌, Bool, true, false, List, [], ◌∷◌, ◌++◌, refl, ap, ◌∙◌, subst}
use Rattle.lab_plan.specs.LabPlan.{LabPlan}
use Rattle.legal_steps.specs.declared.event.Event.{Event}
use Rattle.session_layer.specs.declared.turning.Turned.{Turned}
use Rattle.rounds.specs.Rounds.{Player, Plays, Round, is_idle}

and_assoc : (a b c : Bool) → ((a && b) && c) ≡ (a && (b && c))
and_assoc true b c = refl
and_assoc false b c = refl

and_true : (a : Bool) → a ≡ (a && true)
and_true true = refl
and_true false = refl

module _ (plan : LabPlan) where
  pub round-snoc : (players : List Player) (x : Player) (h m g : List Event) (r : Turned) (idle : Bool) (after : List Player) (x' : Player)
      → Round plan players idle h m after → Plays plan x m r g x' → Round plan (players ++ x ∷ []) (idle && is_idle r) h g (after ++ x' ∷ [])
  round-snoc [] x h m g r idle after x' is t = (
    r,
    g,
    x',
    true,
    [],
    subst (λ z. Plays plan x z r g x') is.0 t,
    (refl, refl, refl),
    ap (λ (b : Bool). b && is_idle r) is.1
        ∙ and_true (is_idle r),
    ap (λ l. l ++ x' ∷ []) is.2,
  )
  round-snoc (y ∷ players) x h m g r idle after x' (s, k, y', later, rest, u, more, is, are) t = (
    s,
    k,
    y',
    later && is_idle r,
    rest ++ x' ∷ [],
    u,
    round-snoc players x k m g r later rest x' more t,
    ap (λ (b : Bool). b && is_idle r) is
        ∙ and_assoc (is_idle s) later (is_idle r),
    ap (λ l. l ++ x' ∷ []) are,
  )
