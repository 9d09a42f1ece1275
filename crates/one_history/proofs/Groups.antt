-- Groups that stand in a history stand in a longer one, with one more behind them.
use Rattle.std.proofs.Common.{◌≡◌, ℕ, true, false, ◌==◌, List, [], ◌∷◌, ◌++◌, refl, sym, ap, ◌∙◌, inl, inr, append_assoc, append-nil}
use Rattle.std.proofs.lemmas.Bool.{cases_eq, eq-eqb, ne_eqb}
use Rattle.legal_steps.specs.declared.event.Event.{Event}
use Rattle.legal_steps.specs.Run.{actor}
use Rattle.turns.specs.History.{events_by}
use Rattle.one_history.specs.Groups.{with_group, one_by_one, all_of, StandUnbroken}

pub stand_in_more : (gs : List (List Event)) (a b : List Event) → StandUnbroken gs a → StandUnbroken gs (a ++ b)
stand_in_more [] a b t = tt
stand_in_more (g ∷ gs) a b (before, after, is, rest) = (
  before,
  after ++ b,
  ap (λ z. z ++ b) is ∙ (append_assoc before (g ++ after) b ∙ ap (λ z. before ++ z) (append_assoc g after b)),
  stand_in_more gs after b rest,
)

one_more : (gs : List (List Event)) (g a : List Event) → StandUnbroken gs a → StandUnbroken (gs ++ g ∷ []) (a ++ g)
one_more [] g a t = (a, [], ap (λ z. a ++ z) (sym (append-nil g)), tt)
one_more (x ∷ gs) g a (before, after, is, rest) = (
  before,
  after ++ g,
  ap (λ z. z ++ g) is ∙ (append_assoc before (x ++ after) g ∙ ap (λ z. before ++ z) (append_assoc x after g)),
  one_more gs g after rest,
)

pub with_group_stands : (gs : List (List Event)) (g a : List Event) → StandUnbroken gs a → StandUnbroken (with_group gs g) (a ++ g)
with_group_stands gs [] a t = stand_in_more gs a [] t
with_group_stands gs (event ∷ g) a t = one_more gs (event ∷ g) a t

all_and : (gs : List (List Event)) (g : List Event) → all_of (gs ++ g ∷ []) ≡ all_of gs ++ g
all_and [] g = append-nil g
all_and (x ∷ gs) g = ap (λ z. x ++ z) (all_and gs g) ∙ sym (append_assoc x (all_of gs) g)

pub all_with_group : (gs : List (List Event)) (g : List Event) → all_of (with_group gs g) ≡ all_of gs ++ g
all_with_group gs [] = sym (append-nil (all_of gs))
all_with_group gs (event ∷ g) = all_and gs (event ∷ g)

-- ---- events one by one

pub all_one_by_one : (l : List Event) → all_of (one_by_one l) ≡ l
all_one_by_one [] = refl
all_one_by_one (event ∷ l) = ap (λ z. event ∷ z) (all_one_by_one l)

-- groups that stand in the rest of a history stand in all of it
stand_behind : (x : Event) (gs : List (List Event)) (h : List Event) → StandUnbroken gs h → StandUnbroken gs (x ∷ h)
stand_behind x [] h t = tt
stand_behind x (g ∷ gs) h (before, after, is, rest) = (x ∷ before, after, ap (λ z. x ∷ z) is, rest)

-- the events of a job stand one by one in the history that they are of
pub one_by_one_stand : (j : ℕ) (h : List Event) → StandUnbroken (one_by_one (events_by j h)) h
one_by_one_stand j [] = tt
one_by_one_stand j (x ∷ h) = elim (cases_eq (actor x) j) [
  | inl is ↦ let here : (actor x == j) ≡ true = eq-eqb (actor x) j is in rw here ([], h, refl, one_by_one_stand j h)
  | inr ne ↦ let there : (actor x == j) ≡ false = ne_eqb (actor x) j ne in rw there (stand_behind x (one_by_one (events_by j h)) h (one_by_one_stand j h))
]
