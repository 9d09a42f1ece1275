-- A job that looks at its edges: what stays, and what it marks.
use Rattle.std.proofs.Common.{◌≡◌, ℕ, ◌<◌, length, slice_index_or, List, [], ◌∷◌, map, arith, refl, sym, subst, ap, ◌∙◌, inl, inr, get_or-set_same, get_or-set_other, length-set}
use Rattle.std.proofs.lemmas.Bool.{cases_eq}
use Rattle.lab_plan.specs.LabPlan.{LabPlan, edges_of}
use Rattle.legal_steps.specs.declared.edge_state.EdgeState.{EdgeState}
use Rattle.legal_steps.specs.declared.event.Event.{Event}
use Rattle.legal_steps.specs.declared.event.Event.TheVariants.{Look}
use Rattle.legal_steps.specs.State.{State, Seat, seat, edge, phase, bottle_marks, IsOwn, end_of, bottles_at}
use Rattle.legal_steps.specs.Legal.{IsJob, after, fork_mark_seen, with_fork_mark, with_bottle_marks}
use Rattle.legal_steps.specs.Run.{after_all}
use Rattle.legal_steps.specs.Fitting.{Fits}
use Rattle.legal_steps.proofs.FitsWrites.{seat_same}
use Rattle.legal_steps.proofs.OwnEdges.{In, own_edge_in}
use Rattle.reasons.specs.Quiet.{looked}

-- all but the marks of job j is as in s
pub record IsAlike (s : State) (j : ℕ) (t : State) : Type 0 where
  pub edges : t.edges ≡ s.edges
  pub phase : phase t j ≡ phase s j
  pub seats_there : length t.seats ≡ length s.seats
  pub marks_there : length (seat t j).bottle_marks ≡ length (seat s j).bottle_marks

module _ (plan : LabPlan) (j : ℕ) (seen : ℕ → EdgeState) where
  -- the seat after a look at edge e
  abbrev seat_seen : State → ℕ → Seat
  seat_seen t e =
      with_bottle_marks (with_fork_mark (seat t j) e (fork_mark_seen (seat t j).phase.dining (end_of plan j e) (seen e))) e
      (bottles_at plan e (end_of plan j e) (seen e))

  abbrev look : ℕ → Event
  look e = Look j e (seen e)

  alike_after : (s t : State) (e : ℕ) → j < length s.seats → IsAlike s j t → IsAlike s j (after plan t (look e))
  alike_after s t e inside h =
      let same = seat_same t j (seat_seen t e) (omega (arith, inside, h.seats_there)) in
      record {
        edges = h.edges;
        phase = ap (λ (x : Seat). x.phase) same ∙ h.phase;
        seats_there = simp length-set h.seats_there;
        marks_there = ap (λ (x : Seat). length x.bottle_marks) same
            ∙ (length-set (seat t j).bottle_marks e (bottles_at plan e (end_of plan j e) (seen e)) ∙ h.marks_there);
      }

  pub alike_after_all : (s t : State) (es : List ℕ) → j < length s.seats → IsAlike s j t → IsAlike s j (after_all plan t (map look es))
  alike_after_all s t [] inside h = h
  alike_after_all s t (e ∷ es) inside h = alike_after_all s (after plan t (look e)) es inside (alike_after s t e inside h)

  -- the bottle marks of edge e are what was seen there
  abbrev IsMarked : ℕ → State → Type 0
  IsMarked e t = bottle_marks t j e ≡ bottles_at plan e (end_of plan j e) (seen e)

  marked_now : (s t : State) (e : ℕ) → j < length s.seats → e < length (seat s j).bottle_marks → IsAlike s j t → IsMarked e (after plan t (look e))
  marked_now s t e inside there h =
      ap (λ (x : Seat). slice_index_or x.bottle_marks e 0) (seat_same t j (seat_seen t e) (omega (arith, inside, h.seats_there)))
      ∙ get_or-set_same (seat t j).bottle_marks e (bottles_at plan e (end_of plan j e) (seen e)) 0 (omega (arith, there, h.marks_there))

  still_marked : (s t : State) (e f : ℕ) → j < length s.seats → e < length (seat s j).bottle_marks → IsAlike s j t
      → IsMarked e t → IsMarked e (after plan t (look f))
  still_marked s t e f inside there h marked = elim (cases_eq e f) [
    | inl same ↦ subst (λ n. IsMarked e (after plan t (look n))) same (marked_now s t e inside there h)
    | inr other ↦
        ap (λ (x : Seat). slice_index_or x.bottle_marks e 0) (seat_same t j (seat_seen t f) (omega (arith, inside, h.seats_there)))
        ∙ (get_or-set_other (seat t j).bottle_marks f e (bottles_at plan f (end_of plan j f) (seen f)) 0 other ∙ marked)
  ]

  marked_to_end : (s t : State) (e : ℕ) (es : List ℕ) → j < length s.seats → e < length (seat s j).bottle_marks → IsAlike s j t
      → IsMarked e t → IsMarked e (after_all plan t (map look es))
  marked_to_end s t e [] inside there h marked = marked
  marked_to_end s t e (f ∷ es) inside there h marked =
      marked_to_end s (after plan t (look f)) e es inside there (alike_after s t f inside h) (still_marked s t e f inside there h marked)

  pub marked_after_all : (s t : State) (e : ℕ) (es : List ℕ) → j < length s.seats → e < length (seat s j).bottle_marks → IsAlike s j t
      → In e es → IsMarked e (after_all plan t (map look es))
  marked_after_all s t e [] inside there h listed = absurd listed
  marked_after_all s t e (f ∷ es) inside there h listed = elim listed [
    | inl same ↦ marked_to_end s (after plan t (look f)) e es inside there (alike_after s t f inside h)
        (subst (λ n. IsMarked e (after plan t (look n))) (sym same) (marked_now s t e inside there h))
    | inr later ↦ marked_after_all s (after plan t (look f)) e es inside there (alike_after s t f inside h) later
  ]

pub alike_looked : (plan : LabPlan) (s : State) (j : ℕ) → Fits plan s → IsJob plan j → IsAlike s j (looked plan s j)
alike_looked plan s j fit job = alike_after_all plan j (λ e. edge s e) s s (edges_of plan j) (omega (arith, job, fit.seats_there))
    (record { edges = refl; phase = refl; seats_there = refl; marks_there = refl })

-- after a look at each edge the marks are what is there
pub marked_looked : (plan : LabPlan) (s : State) (j e : ℕ) → Fits plan s → IsJob plan j → IsOwn plan j e
    → bottle_marks (looked plan s j) j e ≡ bottles_at plan e (end_of plan j e) (edge s e)
marked_looked plan s j e fit job own =
    marked_after_all plan j (λ n. edge s n) s s e (edges_of plan j) (omega (arith, job, fit.seats_there))
    (omega (arith, own.is_edge, (fit.seats_fit j job).bottle_marks_there))
    (record { edges = refl; phase = refl; seats_there = refl; marks_there = refl }) (own_edge_in plan j e own)
