-- A choice of ends gives an opening state, and the initial state is one whose precedence has no cycle.
use Rattle.std.proofs.Common.{◌≡◌, ℕ, ◌+◌, ◌<◌, length, replicate, slice_index_or, List, [], ◌∷◌, arith, refl, sym, subst, ap, ◌∙◌, inl, inr}
use Rattle.std.specs.Prelude.{bit_xor}
use Rattle.std.specs.List.{enumerate_from}
use Rattle.std.proofs.lemmas.List.{length-replicate, length-map, get_or-map, get_or-replicate}
use Rattle.std.proofs.lemmas.List.FromFn.{length-enumerate_from, get_or-enumerate_from}
use Rattle.std.proofs.lemmas.Nat.{pow_pos, xor_lt, xor_comm}
use Rattle.std.proofs.lemmas.Nat.Bits.{bit_at_ones}
use Rattle.lab_plan.specs.LabPlan.{LabPlan, edges, ends, bottles}
use Rattle.lab_plan.proofs.Edges.{ends_are_pair}
use Rattle.legal_steps.specs.declared.end.End.TheVariants.{Lower}
use Rattle.legal_steps.specs.declared.edge_state.EdgeState.{EdgeState}
use Rattle.legal_steps.specs.declared.edge_state.EndChoice.{EndChoice}
use Rattle.legal_steps.specs.State.{Has, IsOfEdge, all_bottles, edge, opposite, job_at_end, bottle_end, no_edge}
use Rattle.legal_steps.specs.Opening.{IsOpening, AreChoices, chosen_edge, opening_of, the_opening}
use Rattle.legal_steps.specs.Precedence.{Precedes, LeadsBackTo, IsCycleOf, IsAcyclic}
use Rattle.legal_steps.proofs.BottleSets.{bottle_end_flips}

-- the choice where no other is made: fork and bottles at the lower job
abbrev lower_choice : EndChoice
lower_choice = record { fork = Lower; bottles = 0 }

-- each edge is as it is chosen
pub opening_edge : (plan : LabPlan) (choices : List EndChoice) (e : ℕ) (d : EndChoice)
    → e < length choices → edge (opening_of plan choices) e ≡ chosen_edge plan e (slice_index_or choices e d)
opening_edge plan choices e d inside =
    let chosen : ℕ × EndChoice → EdgeState = λ numbered. chosen_edge plan numbered.0 numbered.1 in
    let there : e < length (enumerate_from 0 choices) = omega (arith, inside, length-enumerate_from 0 choices) in
    let number : 0 + e ≡ e = omega arith in
    get_or-map chosen (enumerate_from 0 choices) e (0, d) no_edge there
    ∙ (ap chosen (get_or-enumerate_from 0 choices e (0, d) inside) ∙ ap (λ n. chosen_edge plan n (slice_index_or choices e d)) number)

has_all : (plan : LabPlan) (e k : ℕ) → k < length (bottles plan e) → Has (all_bottles plan e) k
unfolding Has
has_all plan e k small = bit_at_ones (length (bottles plan e)) k small

-- every bottle's token is opposite to it
pub tokens_opposite : (plan : LabPlan) (e k b : ℕ) → k < length (bottles plan e) → bottle_end (bit_xor (all_bottles plan e) b) k ≡ opposite (bottle_end b k)
tokens_opposite plan e k b small = ap (λ n. bottle_end n k) (xor_comm (all_bottles plan e) b)
    ∙ bottle_end_flips b (all_bottles plan e) k (has_all plan e k small)

pub opening_of_choices : (plan : LabPlan) (choices : List EndChoice) → AreChoices plan choices → IsOpening plan (opening_of plan choices)
opening_of_choices plan choices h =
    let s = opening_of plan choices in
    let choice : ℕ → EndChoice = λ e. slice_index_or choices e lower_choice in
    let is : (e : ℕ) → e < length (edges plan) → edge s e ≡ chosen_edge plan e (choice e) =
    λ e here. opening_edge plan choices e lower_choice (omega (arith, here, h.one_each)) in
    let fit : (e : ℕ) → e < length (edges plan) → IsOfEdge plan e (choice e).bottles = λ e here. h.of_edge e lower_choice here in
    record {
      edges_there = length-map (enumerate_from 0 choices) _ ∙ (length-enumerate_from 0 choices ∙ h.one_each);
      dirty = λ e here. ap (λ (y : EdgeState). y.dirty) (is e here);
      token_opposite = λ e here. ap (λ (y : EdgeState). y.token) (is e here) ∙ ap (λ (y : EdgeState). opposite y.fork) (sym (is e here));
      bottles_fit = λ e here. subst (λ (y : EdgeState). IsOfEdge plan e y.bottles) (sym (is e here)) (fit e here);
      tokens_fit = λ e here. subst (λ (y : EdgeState). IsOfEdge plan e y.bottle_tokens) (sym (is e here))
          (xor_lt (length (bottles plan e)) (all_bottles plan e) (choice e).bottles (omega (arith, fit e here)) (fit e here));
      bottle_tokens_opposite = λ e k here small.
          ap (λ (y : EdgeState). bottle_end y.bottle_tokens k) (is e here)
          ∙ (tokens_opposite plan e k (choice e).bottles small ∙ ap (λ (y : EdgeState). opposite (bottle_end y.bottles k)) (sym (is e here)));
      idle = refl;
      logs_empty = refl;
    }

-- ---- the initial state

pub the_choices : (plan : LabPlan) → AreChoices plan (replicate (length (edges plan)) lower_choice)
the_choices plan = record {
  one_each = length-replicate _ _;
  of_edge = λ e d here. subst (λ (choice : EndChoice). IsOfEdge plan e choice.bottles)
      (sym (get_or-replicate (length (edges plan)) e lower_choice d here)) (pow_pos (length (bottles plan e)));
}

pub the_opening_opens : (plan : LabPlan) → IsOpening plan (the_opening plan)
the_opening_opens plan = opening_of_choices plan _ (the_choices plan)

-- ---- its precedence goes down in the numbers of jobs

the_edge : (plan : LabPlan) (e : ℕ) → e < length (edges plan) → edge (the_opening plan) e ≡ chosen_edge plan e lower_choice
the_edge plan e here =
    let choices = replicate (length (edges plan)) lower_choice in
    let inside : e < length choices = subst (λ n. e < n) (sym (length-replicate (length (edges plan)) lower_choice)) here in
    opening_edge plan choices e lower_choice inside ∙ ap (chosen_edge plan e) (get_or-replicate (length (edges plan)) e lower_choice lower_choice here)

-- every fork is dirty and at the lower job, so the higher precedes
goes_down : (plan : LabPlan) (a b : ℕ) → Precedes plan (the_opening plan) a b → b < a
goes_down plan a b p =
    let is = the_edge plan p.0 p.1.is_edge in
    let pair = ends_are_pair plan p.0 p.1.is_edge in
    elim p.1.order [
      | inl w ↦
          let a_is : a ≡ (ends plan p.0).1 = w.1 ∙ ap (λ (y : EdgeState). job_at_end plan p.0 (opposite y.fork)) is in
          let b_is : b ≡ (ends plan p.0).0 = w.2 ∙ ap (λ (y : EdgeState). job_at_end plan p.0 y.fork) is in
          omega (arith, pair, a_is, b_is)
      | inr w ↦ absurd (w.0 (inr (ap (λ (y : EdgeState). y.dirty) is)))
    ]

leads_down : (R : ℕ → ℕ → Type 0) → ((a b : ℕ) → R a b → b < a) → (first a : ℕ) (jobs : List ℕ) → LeadsBackTo R first a jobs → first < a
leads_down R down first a [] r = down a first r
leads_down R down first a (b ∷ jobs) r = omega (arith, down a b r.0, leads_down R down first b jobs r.1)

no_cycle_down : (R : ℕ → ℕ → Type 0) → ((a b : ℕ) → R a b → b < a) → (jobs : List ℕ) → IsCycleOf R jobs → ⊥
no_cycle_down R down [] c = c
no_cycle_down R down (first ∷ jobs) c = omega (arith, leads_down R down first first jobs c)

pub the_opening_acyclic : (plan : LabPlan) → IsAcyclic plan (the_opening plan)
the_opening_acyclic plan jobs c = no_cycle_down (Precedes plan (the_opening plan)) (goes_down plan) jobs c
