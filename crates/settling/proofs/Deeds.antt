-- What is done alone, and how many deeds it has.
use Rattle.std.proofs.Common.{◌≡◌, ℕ, ◌+◌, ◌*◌, ◌<◌, ◌≤◌, Bool, true, cond, zero, suc, List, [], ◌∷◌, ◌++◌, length, slice_index_or, refl, sym, ap, ◌∙◌, subst, inl, inr, arith}
use Rattle.std.specs.List.{count_by}
use Rattle.std.proofs.lemmas.List.Sums.{sum_by-cons, sum_by-append}
use Rattle.lab_plan.specs.LabPlan.{LabPlan, edges, bottles}
use Rattle.legal_steps.specs.declared.edge_state.EdgeState.{EdgeState}
use Rattle.legal_steps.specs.declared.event.Event.{Event}
use Rattle.legal_steps.specs.declared.event.Event.TheVariants.{Look, Hunger, Sit, Leave, Drink}
use Rattle.legal_steps.specs.State.{State, edge}
use Rattle.legal_steps.specs.Legal.{May}
use Rattle.legal_steps.specs.Run.{IsLegalFrom, after_all}
use Rattle.interleaving.specs.World.{WorldView, LeadsTo, IsReachedWith}
use Rattle.edge_word.specs.declared.moves.EdgeMoves.{EdgeMoves}
use Rattle.edge_word.specs.Moves.{events_of}
use Rattle.turns.specs.Lists.{Each}
use Rattle.reasons.specs.Deeds.{IsBetween, AreBetween, is_deed, sum_below}
use Rattle.reasons.proofs.LawProofs.{few_deeds}
use Rattle.settling.specs.Doing.{VisitsEdge, IsOwnAct}
use Rattle.settling.specs.Left.{IsBySelf}
use Rattle.settling.specs.Resting.{DoesAlone}
use Rattle.settling.proofs.Nothing.{leads_none}
use Rattle.settling.proofs.Worlds.{leads_both}
use Rattle.settling.proofs.Local.{each_move}

-- ---- counts

abbrev pub deeds : List Event → ℕ
deeds xs = count_by is_deed xs

abbrev number : Bool → ℕ
number b = cond b 1 0

pub deeds_both : (xs ys : List Event) → deeds (xs ++ ys) ≡ deeds xs + deeds ys
deeds_both xs ys = sum_by-append (λ e. number (is_deed e)) xs ys

deeds_cons : (x : Event) (xs : List Event) → deeds (x ∷ xs) ≡ number (is_deed x) + deeds xs
deeds_cons x xs = sum_by-cons (λ e. number (is_deed e)) x xs

-- where each is a deed, they are as many
all_deeds : (xs : List Event) → Each (λ x. is_deed x ≡ true) xs → deeds xs ≡ length xs
all_deeds [] each = refl
all_deeds (x ∷ xs) each =
    let a = deeds_cons x xs in let b : number (is_deed x) ≡ 1 = ap number each.0 in let c = all_deeds xs each.1 in omega (arith, a, b, c)

pub visit_deeds : (m : EdgeMoves) (j e : ℕ) (seen : EdgeState) → length (events_of m j e) ≡ deeds (Look j e seen ∷ events_of m j e)
visit_deeds m j e seen =
    let a = deeds_cons (Look j e seen) (events_of m j e) in
    let b : number (is_deed (Look j e seen)) ≡ 0 = refl in
    let c = all_deeds (events_of m j e) (each_move (λ x. is_deed x ≡ true) m j e refl refl refl refl refl) in
    omega (arith, a, b, c)

-- ---- no owner's

each_between : (xs : List Event) → Each IsBetween xs → AreBetween xs
each_between [] each = tt
each_between (x ∷ xs) each = (each.0, each_between xs each.1)

pub visit_between : (m : EdgeMoves) (j e : ℕ) (seen : EdgeState) → AreBetween (Look j e seen ∷ events_of m j e)
visit_between m j e seen = (tt, each_between (events_of m j e) (each_move IsBetween m j e tt tt tt tt tt))

pub between_both : (xs ys : List Event) → AreBetween xs → AreBetween ys → AreBetween (xs ++ ys)
between_both [] ys a b = b
between_both (x ∷ xs) ys a b = (a.0, between_both xs ys a.1 b)

-- ---- what is done alone

pub alone_none : (w : WorldView) → DoesAlone w 0 w
alone_none w = record { events = []; leads = leads_none w; between = tt; deeds = refl }

pub alone_both : (old mid new : WorldView) (m n : ℕ) → DoesAlone old m mid → DoesAlone mid n new → DoesAlone old (m + n) new
alone_both old mid new m n a b = record {
  events = a.events ++ b.events;
  leads = leads_both old mid new a.events b.events a.leads b.leads;
  between = between_both a.events b.events a.between b.between;
  deeds = let c = deeds_both a.events b.events in omega (arith, a.deeds, b.deeds, c);
}

pub alone_visit : (old new : WorldView) (j e n : ℕ) → VisitsEdge old j e n new → DoesAlone old n new
alone_visit old new j e n v = let saw : EdgeState = edge old.state e in record {
  events = Look j e saw ∷ events_of v.moves j e;
  leads = v.leads;
  between = visit_between v.moves j e saw;
  deeds = v.many ∙ visit_deeds v.moves j e saw;
}

-- ---- acts

head_is : (x y : Event) → x ∷ [] ≡ y ∷ [] → x ≡ y
head_is x y is = ap (λ (l : List Event). slice_index_or l 0 x) is

not_nil : (x : Event) (xs : List Event) → x ∷ xs ≡ [] → ⊥
not_nil x xs is = let p = ap (λ (l : List Event). length l) is in omega (arith, p)

-- an act of one's own is no move and no owner's, and a deed
pub record IsDoneAlone (j : ℕ) (x : Event) : Type 0 where
  pub between : IsBetween x
  pub deed : is_deed x ≡ true
  pub self : IsBySelf j x

pub act_is : (plan : LabPlan) (s : State) (j : ℕ) (x : Event) → IsOwnAct plan s j (x ∷ []) → IsDoneAlone j x
act_is plan s j x due = elim due [
  | inl a ↦ subst (IsDoneAlone j) (sym (head_is x (Drink j) a.1)) (record { between = tt; deed = refl; self = (refl, tt) })
  | inr b ↦ elim b.1 [
    | inl a ↦ subst (IsDoneAlone j) (sym (head_is x (Leave j) a.1)) (record { between = tt; deed = refl; self = (refl, tt) })
    | inr c ↦ elim c.1 [
      | inl a ↦ subst (IsDoneAlone j) (sym (head_is x (Sit j) a.1)) (record { between = tt; deed = refl; self = (refl, tt) })
      | inr d ↦ elim d.1 [
        | inl a ↦ subst (IsDoneAlone j) (sym (head_is x (Hunger j) a.1)) (record { between = tt; deed = refl; self = (refl, tt) })
        | inr f ↦ absurd (not_nil x [] f.1)
      ]
    ]
  ]
]

nil_not : (x : Event) → [] ≡ x ∷ [] → ⊥
nil_not x is = not_nil x [] (sym is)

pub none_legal : (plan : LabPlan) (s : State) (j : ℕ) → IsOwnAct plan s j [] →
    (¬ May plan s (Drink j)) × (¬ May plan s (Leave j)) × (¬ May plan s (Sit j)) × (¬ May plan s (Hunger j))
none_legal plan s j due = elim due [
  | inl a ↦ absurd (nil_not (Drink j) a.1)
  | inr b ↦ elim b.1 [
    | inl a ↦ absurd (nil_not (Leave j) a.1)
    | inr c ↦ elim c.1 [
      | inl a ↦ absurd (nil_not (Sit j) a.1)
      | inr d ↦ elim d.1 [
        | inl a ↦ absurd (nil_not (Hunger j) a.1)
        | inr f ↦ ((λ m. b.0 (m, tt)), (λ m. c.0 (m, tt)), (λ m. d.0 (m, tt)), (λ m. f.0 (m, tt)))
      ]
    ]
  ]
]

pub alone_act : (old new : WorldView) (j : ℕ) (x : Event) → IsOwnAct old.plan old.state j (x ∷ []) → LeadsTo old (x ∷ []) new → DoesAlone old 1 new
alone_act old new j x due leads =
    let is = act_is old.plan old.state j x due in record {
      events = x ∷ [];
      leads = leads;
      between = (is.between, tt);
      deeds = sym (all_deeds (x ∷ []) (is.deed, tt));
    }

-- ---- few deeds

sum_few : (f : ℕ → ℕ) (n : ℕ) → ((i : ℕ) → i < n → f i ≤ 28) → sum_below f n ≤ 28 * n
sum_few f zero h = omega arith
sum_few f (suc n) h = let x = sum_few f n (λ i below. h i (omega (arith, below))) in let y = h n (omega arith) in omega (arith, x, y)

pub few_alone : (old new : WorldView) (n : ℕ) → IsReachedWith old.plan old.state old.counts → length (edges old.plan) ≤ 496 → DoesAlone old n new → n ≤ 129584
few_alone old new n r few a =
    let x = r.reached in
    let legal : IsLegalFrom old.plan (after_all old.plan x.opening x.events) a.events =
    subst (λ (z : State). IsLegalFrom old.plan z a.events) x.run.leads a.leads.run.legal in
    let most = few_deeds old.plan x.opening x.events a.events x.is_opening x.run.legal legal a.between in
    let jobs : length old.plan.jobs ≤ 32 = x.is_plan.draft.few_jobs in
    let all = sum_few (λ e. length (bottles old.plan e)) (length (edges old.plan)) x.is_plan.few_bottles in
    omega (arith, a.deeds, most, jobs, few, all)

pub some_if : (n : ℕ) → (n ≡ 0 → ⊥) → 1 ≤ n
some_if zero h = absurd (h refl)
some_if (suc n) h = omega arith
