-- Every opening state is given by a choice of ends.
use Rattle.std.proofs.Common.{◌≡◌, ℕ, ◌<◌, length, map, slice_index_or, true, Bool, List, arith, sym, subst, ap, ◌∙◌, inl, inr}
use Rattle.std.specs.Prelude.{bit_xor}
use Rattle.std.specs.Int.{bit_at}
use Rattle.std.proofs.lemmas.List.{ext_get_or, length-map, get_or-map}
use Rattle.std.proofs.lemmas.Nat.{xor_lt}
use Rattle.std.proofs.lemmas.Nat.Bits.{same_from_bits_below}
use Rattle.lab_plan.specs.LabPlan.{LabPlan, edges, bottles}
use Rattle.instrument_log.specs.declared.entry.Entry.{Entry}
use Rattle.legal_steps.specs.declared.end.End.{End}
use Rattle.legal_steps.specs.declared.end.End.TheVariants.{Lower, Higher}
use Rattle.legal_steps.specs.declared.edge_state.EdgeState.{EdgeState}
use Rattle.legal_steps.specs.declared.edge_state.EndChoice.{EndChoice}
use Rattle.legal_steps.specs.State.{State, Seat, IsOfEdge, all_bottles, edge, opposite, bottle_end, no_edge}
use Rattle.legal_steps.specs.Opening.{IsOpening, AreChoices, chosen_edge, opening_of}
use Rattle.lab_plan.proofs.Bits.{bit_cases}
use Rattle.legal_steps.proofs.OpeningChoices.{opening_edge, opening_of_choices, tokens_opposite}

-- two sets with a bottle at one end agree on its bit
same_bit : (a b k : ℕ) → bottle_end a k ≡ bottle_end b k → bit_at a k ≡ bit_at b k
unfolding bottle_end
same_bit a b k same = elim (bit_cases a k) [
  | inl x ↦ elim (bit_cases b k) [ inl y ↦ x ∙ sym y | inr y ↦ absurd (lower_not_higher (rw (x, y) at same)) ]
  | inr x ↦ elim (bit_cases b k) [ inl y ↦ absurd (lower_not_higher (sym (rw (x, y) at same))) | inr y ↦ x ∙ sym y ]
]
  where
    lower_not_higher : Lower ≡ Higher → ⊥
    lower_not_higher h = cc

-- the choice that was made for an edge
abbrev choice_of : EdgeState → EndChoice
choice_of x = record { fork = x.fork; bottles = x.bottles }

tokens_are : (plan : LabPlan) (s : State) (e : ℕ) → IsOpening plan s → e < length (edges plan)
    → (edge s e).bottle_tokens ≡ bit_xor (all_bottles plan e) (edge s e).bottles
tokens_are plan s e h here =
    let n = length (bottles plan e) in
    let x = edge s e in
    let fit : IsOfEdge plan e x.bottles = h.bottles_fit e here in
    same_from_bits_below n x.bottle_tokens (bit_xor (all_bottles plan e) x.bottles)
    (h.tokens_fit e here) (xor_lt n (all_bottles plan e) x.bottles (omega (arith, fit)) fit)
    (λ k small. same_bit x.bottle_tokens (bit_xor (all_bottles plan e) x.bottles) k (h.bottle_tokens_opposite e k here small
    ∙ sym (tokens_opposite plan e k x.bottles small)))

edge_is_chosen : (plan : LabPlan) (s : State) (e : ℕ) → IsOpening plan s → e < length (edges plan) → edge s e ≡ chosen_edge plan e (choice_of (edge s e))
edge_is_chosen plan s e h here =
    let x = edge s e in
    ap (λ (d : Bool). record x { dirty = d }) (h.dirty e here)
    ∙ (ap (λ (t : End). record x { dirty = true; token = t }) (h.token_opposite e here)
    ∙ ap (λ (b : ℕ). record x { dirty = true; token = opposite x.fork; bottle_tokens = b }) (tokens_are plan s e h here))

pub opening_is_chosen : (plan : LabPlan) (s : State) → IsOpening plan s → (choices : List EndChoice) × AreChoices plan choices × (s ≡ opening_of plan choices)
opening_is_chosen plan s h =
    let choices = map choice_of s.edges in
    let many : length choices ≡ length (edges plan) = length-map s.edges choice_of ∙ h.edges_there in
    let at : (e : ℕ) (d : EndChoice) → e < length (edges plan) → slice_index_or choices e d ≡ choice_of (edge s e) =
    λ e d here. get_or-map choice_of s.edges e no_edge d (omega (arith, here, h.edges_there)) in
    let fit : AreChoices plan choices =
    record { one_each = many; of_edge = λ e d here. subst (λ (c : EndChoice). IsOfEdge plan e c.bottles) (sym (at e d here)) (h.bottles_fit e here) } in
    let opened = opening_of plan choices in
    let same_edge : (e : ℕ) → e < length s.edges → edge s e ≡ edge opened e =
    λ e inside.
    let here : e < length (edges plan) = omega (arith, inside, h.edges_there) in
    let d = choice_of (edge s e) in
    edge_is_chosen plan s e h here ∙ (ap (chosen_edge plan e) (sym (at e d here)) ∙ sym (opening_edge plan choices e d (omega (arith, here, many)))) in
    let same_edges : s.edges ≡ opened.edges =
    ext_get_or no_edge s.edges opened.edges (h.edges_there ∙ sym (opening_of_choices plan choices fit).edges_there) same_edge in (
      choices,
      fit,
      ap (λ (xs : List EdgeState). record s { edges = xs }) same_edges
          ∙ (ap (λ (xs : List Seat). record opened { seats = xs; logs = s.logs }) h.idle
          ∙ ap (λ (xs : List (List Entry)). record opened { logs = xs }) h.logs_empty),
    )
