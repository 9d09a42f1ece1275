-- Precedence in the initial state: on each edge the job with the higher number precedes the other.
use Rattle.std.proofs.Common.{◌≡◌, ◌↔◌, ◌⊎◌, ℕ, ◌<◌, true, length, replicate, refl, sym, ap, ◌∙◌, subst, inl, inr, arith, Option, None, Some}
use Rattle.std.specs.Prelude.{is_some, min, max, ⊤}
use Rattle.std.specs.Option.{MatchOption}
use Rattle.std.specs.List.{Contains, slice_get}
use Rattle.std.proofs.lemmas.List.{length-replicate, get_or-replicate}
use Rattle.std.proofs.lemmas.List.Elements.{Contains-get_or}
use Rattle.std.proofs.lemmas.Option.{slice_get_within, get_or_from_slice_get}
use Rattle.lab_plan.specs.LabPlan.{LabPlan, edges, ends, lower_first}
use Rattle.lab_plan.proofs.Edges.{ends_are_pair}
use Rattle.legal_steps.specs.declared.end.End.TheVariants.{Lower}
use Rattle.legal_steps.specs.declared.edge_state.EdgeState.{EdgeState}
use Rattle.legal_steps.specs.declared.edge_state.EndChoice.{EndChoice}
use Rattle.legal_steps.specs.State.{edge, opposite, job_at_end}
use Rattle.legal_steps.specs.Opening.{the_opening, chosen_edge}
use Rattle.legal_steps.specs.Precedence.{Precedes, IsUsed}
use Rattle.legal_steps.proofs.OpeningChoices.{opening_edge}

module _ (plan : LabPlan) where
  abbrev lower : EndChoice
  lower = record { fork = Lower; bottles = 0 }

  the_edge : (e : ℕ) → e < length (edges plan) → edge (the_opening plan) e ≡ chosen_edge plan e lower
  the_edge e here =
      opening_edge plan (replicate (length (edges plan)) lower) e lower (let many = length-replicate (length (edges plan)) lower in omega (arith, here, many))
      ∙ ap (chosen_edge plan e) (get_or-replicate (length (edges plan)) e lower lower here)

  -- an edge on which the first precedes the second
  pub record Leads (a b : ℕ) : Type 0 where
    pub number : ℕ
    pub is_edge : number < length (edges plan)
    pub ends_are : ends plan number ≡ (b, a)

  pub leads_down : (a b : ℕ) → Precedes plan (the_opening plan) a b → Leads a b
  leads_down a b (e, p) = go p.order where
    go : (IsUsed plan (the_opening plan) e × (a ≡ job_at_end plan e (opposite (edge (the_opening plan) e).fork)) × (b ≡ job_at_end plan e (edge (the_opening plan) e).fork))
        ⊎ (¬ IsUsed plan (the_opening plan) e × (a ≡ job_at_end plan e (edge (the_opening plan) e).fork) × (b ≡ job_at_end plan e (opposite (edge (the_opening plan) e).fork)))
        → Leads a b
    go (inl (used, a_is, b_is)) =
        let up : a ≡ (ends plan e).1 = a_is ∙ ap (λ (x : EdgeState). job_at_end plan e (opposite x.fork)) (the_edge e p.is_edge) in
        let down : b ≡ (ends plan e).0 = b_is ∙ ap (λ (x : EdgeState). job_at_end plan e x.fork) (the_edge e p.is_edge) in
        record { number = e; is_edge = p.is_edge; ends_are = λ i. (sym down i, sym up i) }
    go (inr (unused, a_is, b_is)) = absurd (unused (inr (ap (λ (x : EdgeState). x.dirty) (the_edge e p.is_edge))))

  pub leads_up : (a b : ℕ) → Leads a b → Precedes plan (the_opening plan) a b
  leads_up a b l =
      let e = l.number in (
        e,
        record {
          is_edge = l.is_edge;
          order = inl (
            inr (ap (λ (x : EdgeState). x.dirty) (the_edge e l.is_edge)),
            sym (ap (λ (x : EdgeState). job_at_end plan e (opposite x.fork)) (the_edge e l.is_edge) ∙ ap (λ (z : ℕ × ℕ). z.1) l.ends_are),
            sym (ap (λ (x : EdgeState). job_at_end plan e x.fork) (the_edge e l.is_edge) ∙ ap (λ (z : ℕ × ℕ). z.0) l.ends_are),
          );
        },
      )

  -- who precedes has the higher number, and is a job of the plan
  pub goes_down : (a b : ℕ) → Precedes plan (the_opening plan) a b → (b < a) × (a < length plan.jobs)
  goes_down a b p =
      let l = leads_down a b p in let pair = ends_are_pair plan l.number l.is_edge in
      subst (λ (z : ℕ × ℕ). (z.0 < z.1) × (z.1 < length plan.jobs)) l.ends_are pair

  pub asked : (a b : ℕ) → b < a → (o : Option ℕ) → MatchOption o ⊤ (λ e. slice_get (edges plan) e ≡ Some (lower_first b a))
      → MatchOption o (¬ Contains (edges plan) (lower_first b a)) (λ _. ⊤) → (is_some o ≡ true) ↔ Precedes plan (the_opening plan) a b
  asked a b less None found none = (
    (λ is. absurd (cc)),
    λ p.
        let l = leads_down a b p in
        absurd (none (subst (Contains (edges plan)) (l.ends_are ∙ pair_is) (Contains-get_or (edges plan) l.number (0, 0) l.is_edge))),
  ) where
    pair_is : (b, a) ≡ lower_first b a
    pair_is = let low : b ≡ min b a = omega (arith, less) in let high : a ≡ max b a = omega (arith, less) in λ i. (low i, high i)
  asked a b less (Some e) found none = (
    (λ is. leads_up a b (record {
      number = e;
      is_edge = slice_get_within (edges plan) e (lower_first b a) found;
      ends_are = get_or_from_slice_get (edges plan) e (lower_first b a) (0, 0) found ∙ pair_is;
    })),
    λ p. refl,
  ) where
    pair_is : lower_first b a ≡ (b, a)
    pair_is = let low : min b a ≡ b = omega (arith, less) in let high : max b a ≡ a = omega (arith, less) in λ i. (low i, high i)
