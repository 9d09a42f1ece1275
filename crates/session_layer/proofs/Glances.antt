-- What glances at all other jobs tell.
use Rattle.std.proofs.Common.{◌≡◌, ◌≢◌, ℕ, ◌+◌, ◌<◌, Bool, true, false, ◌&&◌, if◌then◌else◌, List, [], ◌∷◌, ◌++◌, length, map, refl, sym, ap, ◌∙◌, subst, arith, inl, inr, append_assoc, append-nil, add-one}
use Rattle.std.proofs.lemmas.Bool.{cases_eq, eq-eqb, ne_eqb, false≢true}
use Rattle.std.proofs.lemmas.List.{map-append}
use Rattle.lab_plan.specs.LabPlan.{LabPlan}
use Rattle.legal_steps.specs.declared.event.Event.TheVariants.{Glance}
use Rattle.legal_steps.specs.declared.phase.Drinking.{Drinking}
use Rattle.legal_steps.specs.declared.phase.Drinking.TheVariants.{Tranquil, Thirsty, Drinking as Drinks, Reaching, Retired}
use Rattle.legal_steps.specs.declared.phase.JobState.{JobState}
use Rattle.legal_steps.specs.State.{State, Seat, seat, drinking}
use Rattle.legal_steps.specs.Opening.{the_opening}
use Rattle.turns.specs.History.{IsHistory, state_after, learned_all, known_by}
use Rattle.turns.proofs.Runs.{legal-goes_on, own_known}
use Rattle.turns.proofs.Retired.{retired_on}
use Rattle.edge_rule.specs.DeskView.{DeskView, IsAtRest, known}
use Rattle.turns.specs.Turns.{but_glances}
use Rattle.session_layer.specs.Grown.{Grew}
use Rattle.session_layer.specs.Retired.{has_retired, is_retired, other_jobs, glances, all_seen_retired, Sees, Glanced}
use Rattle.session_layer.proofs.Grows.{adds_grew, grew_none, grew_then, grew_as, known_grown}

pub retires : (d : Drinking) → has_retired d ≡ true → d ≡ Retired
retires Retired h = refl
retires Tranquil h = absurd (false≢true h)
retires Thirsty h = absurd (false≢true h)
retires Drinks h = absurd (false≢true h)
retires Reaching h = absurd (false≢true h)

both : (a b : Bool) → (a && b) ≡ true → (a ≡ true) × (b ≡ true)
both true b h = (refl, h)
both false b h = absurd (false≢true h)

and_true : (a : Bool) → a ≡ (a && true)
and_true true = refl
and_true false = refl

and_swap : (a b c : Bool) → (c && (a && b)) ≡ (a && (b && c))
and_swap true true true = refl
and_swap true true false = refl
and_swap true false true = refl
and_swap true false false = refl
and_swap false true true = refl
and_swap false true false = refl
and_swap false false true = refl
and_swap false false false = refl

-- ---- glances, one after another

pub glances-append : (j : ℕ) (a b : List (ℕ × JobState)) → glances j (a ++ b) ≡ glances j a ++ glances j b
glances-append j [] b = refl
glances-append j (s ∷ a) b = ap (λ l. Glance j s.0 s.1 ∷ l) (glances-append j a b)

-- they are no turn
pub glances_none : (j : ℕ) (saw : List (ℕ × JobState)) → but_glances (glances j saw) ≡ []
glances_none j [] = refl
glances_none j (s ∷ saw) = glances_none j saw

-- they tell a job nothing of itself
pub learned_glances : (plan : LabPlan) (s : State) (j : ℕ) (saw : List (ℕ × JobState)) → learned_all plan s (glances j saw) ≡ s
learned_glances plan s j [] = refl
learned_glances plan s j (x ∷ saw) = learned_glances plan s j saw

and_last : (a b c : Bool) → ((a && b) && c) ≡ (a && (b && c))
and_last true b c = refl
and_last false b c = refl

seen-snoc : (a : List (ℕ × JobState)) (s : ℕ × JobState) → all_seen_retired (a ++ s ∷ []) ≡ (all_seen_retired a && has_retired s.1.drinking)
seen-snoc [] s = sym (and_true (has_retired s.1.drinking))
seen-snoc (t ∷ a) s = ap (λ (b : Bool). has_retired t.1.drinking && b) (seen-snoc a s)
    ∙ sym (and_last (has_retired t.1.drinking) (all_seen_retired a) (has_retired s.1.drinking))

-- ---- the other jobs below n were glanced at

pub record GlancedTo (d : DeskView) (n : ℕ) (r : Bool) (e : DeskView) : Type 0 where
  pub saw : List (ℕ × JobState)
  pub each : map (λ (s : ℕ × JobState). s.0) saw ≡ other_jobs d.job n
  pub grew : Grew d (glances d.job saw) e
  pub clock : e.clock ≡ d.clock
  pub says : r ≡ (is_retired d && all_seen_retired saw)
  pub done : r ≡ true → (k : ℕ) → k < n → k ≢ d.job → drinking (state_after e.plan e.front) k ≡ Retired

pub glanced_none : (d : DeskView) (r : Bool) → r ≡ is_retired d → GlancedTo d 0 r d
glanced_none d r is = record {
  saw = [];
  each = refl;
  grew = grew_none d;
  clock = refl;
  says = is ∙ and_true (is_retired d);
  done = λ t k l apart. absurd (omega (arith, l));
}

module _ (d : DeskView) (n : ℕ) (r : Bool) (e : DeskView) (a : GlancedTo d n r e) where
  pub glanced_skip : n ≡ d.job → GlancedTo d (n + 1) r e
  glanced_skip is = record {
    saw = a.saw;
    each = a.each ∙ (sym (append-nil (other_jobs d.job n))
        ∙ ((λ i. other_jobs d.job n ++ (if sym (eq-eqb n d.job is) i then [] else n ∷ [])) ∙ ap (other_jobs d.job) (sym (add-one n))));
    grew = a.grew;
    clock = a.clock;
    says = a.says;
    done = λ t k l apart. elim (cases_eq k n) [ inl same ↦ absurd (apart (same ∙ is)) | inr other ↦ a.done t k (omega (arith, l, other)) apart ];
  }

  module _ (e' : DeskView) (b : Bool) (apart : n ≢ d.job) (t : Sees e n b e') where
    legal_now : IsHistory e'.plan ((e.front ++ t.adds.between) ++ Glance e.job n t.seen ∷ [])
    legal_now = subst (IsHistory e'.plan) t.adds.front t.adds.legal

    -- the job just glanced at
    here : b ≡ true → drinking (state_after e'.plan e'.front) n ≡ Retired
    here is = let last = legal-goes_on e'.plan (the_opening e'.plan) (e.front ++ t.adds.between) (Glance e.job n t.seen ∷ []) legal_now in
        ap (λ h. drinking (state_after e'.plan h) n) t.adds.front ∙ retired_on e'.plan n (e.front ++ t.adds.between) (Glance e.job n t.seen ∷ []) legal_now
        (sym (ap (λ (x : JobState). x.drinking) last.0.3) ∙ retires t.seen.drinking (sym t.says ∙ is))

    there : (k : ℕ) → drinking (state_after e.plan e.front) k ≡ Retired → drinking (state_after e'.plan e'.front) k ≡ Retired
    there k was = let more : e'.front ≡ e.front ++ (t.adds.between ++ Glance e.job n t.seen ∷ []) = t.adds.front
        ∙ append_assoc e.front t.adds.between (Glance e.job n t.seen ∷ []) in
        ap (λ h. drinking (state_after e'.plan h) k) more
        ∙ retired_on e'.plan k e.front (t.adds.between ++ Glance e.job n t.seen ∷ [])
        (subst (IsHistory e'.plan) more t.adds.legal) (ap (λ (p : LabPlan). drinking (state_after p e.front) k) t.adds.plan ∙ was)

    pub glanced_more : (r' : Bool) → r' ≡ (b && r) → GlancedTo d (n + 1) r' e'
    glanced_more r' is = record {
      saw = a.saw ++ (n, t.seen) ∷ [];
      each = map-append (λ (s : ℕ × JobState). s.0) a.saw ((n, t.seen) ∷ [])
          ∙ ((λ i. a.each i ++ (if sym (ne_eqb n d.job apart) i then [] else n ∷ [])) ∙ ap (other_jobs d.job) (sym (add-one n)));
      grew = grew_as d (glances d.job a.saw ++ Glance e.job n t.seen ∷ []) (glances d.job (a.saw ++ (n, t.seen) ∷ [])) e'
          ((λ i. glances d.job a.saw ++ Glance (a.grew.job i) n t.seen ∷ []) ∙ sym (glances-append d.job a.saw ((n, t.seen) ∷ [])))
          (grew_then d e e' (glances d.job a.saw) (Glance e.job n t.seen ∷ []) a.grew (adds_grew e (Glance e.job n t.seen ∷ []) e' t.adds));
      clock = t.adds.clock ∙ a.clock;
      says = is ∙ ((λ i. t.says i && a.says i) ∙ (and_swap (is_retired d) (all_seen_retired a.saw) (has_retired t.seen.drinking)
          ∙ ap (λ (c : Bool). is_retired d && c) (sym (seen-snoc a.saw (n, t.seen)))));
      done = λ sure k l other. let q = both b r (sym is ∙ sure) in
          elim (cases_eq k n) [
            | inl same ↦ subst (λ z. drinking (state_after e'.plan e'.front) z ≡ Retired) (sym same) (here q.0)
            | inr ne ↦ there k (a.done q.1 k (omega (arith, l, ne)) other)
          ];
    }

  pub glanced_all : n ≡ length d.plan.jobs → IsAtRest d → Glanced d r e
  glanced_all is rest = record {
    saw = a.saw;
    each = a.each ∙ ap (other_jobs d.job) is;
    grew = a.grew;
    clock = a.clock;
    says = a.says;
    done = λ sure k l. elim (cases_eq k d.job) [
      | inl same ↦ subst (λ z. drinking (state_after e.plan e.front) z ≡ Retired) (sym (same ∙ sym a.grew.job)) (mine sure)
      | inr other ↦ (let jobs = ap (λ (p : LabPlan). length p.jobs) a.grew.plan in a.done sure k (omega (arith, l, jobs, is)) other)
    ];
  } where
    after : IsAtRest e
    after = a.grew.rests rest

    mine : r ≡ true → drinking (state_after e.plan e.front) e.job ≡ Retired
    mine sure = let q = both (is_retired d) (all_seen_retired a.saw) (sym a.says ∙ sure) in
        ap (λ (x : Seat). x.phase.drinking) (own_known e.plan e.job e.front after.inside ∙ ap (λ l. seat (known_by e.plan l) e.job) after.whole)
        ∙ ((λ i. drinking ((known_grown d e (glances d.job a.saw) a.grew ∙ learned_glances d.plan (known d) d.job a.saw) i) (a.grew.job i))
        ∙ retires (drinking (known d) d.job) q.0)
