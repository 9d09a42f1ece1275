-- One edge of a job that is due.
use Rattle.std.proofs.Common.{◌≡◌, ◌≢◌, ℕ, ◌<◌, ◌≤◌, Bool, true, false, List, ◌∷◌, length, slice_index_or, slice_set, length-set, sym, ap, ◌∙◌, subst, inl, inr, arith}
use Rattle.std.proofs.lemmas.Bool.{false≢true, cases_eq}
use Rattle.lab_plan.specs.LabPlan.{LabPlan}
use Rattle.legal_steps.specs.declared.end.End.{End}
use Rattle.legal_steps.specs.declared.edge_state.EdgeState.{EdgeState}
use Rattle.legal_steps.specs.declared.event.Event.TheVariants.{Look}
use Rattle.legal_steps.specs.State.{State, Seat, IsOwn, edge, seat, dining, end_of, bottles_at}
use Rattle.legal_steps.specs.Legal.{after, fork_mark_seen}
use Rattle.legal_steps.specs.Run.{after_all}
use Rattle.legal_steps.specs.Fitting.{Fits}
use Rattle.legal_steps.proofs.FitsLaw.{own_is_job}
use Rattle.interleaving.specs.World.{WorldView}
use Rattle.edge_word.specs.Moves.{events_of}
use Rattle.settling.specs.Doing.{VisitsEdge}
use Rattle.settling.specs.Left.{DueView, AreMarked, HasNothingAt, is_due}
use Rattle.settling.specs.Attending.{AttendsEdge, with_note, woken_at}
use Rattle.settling.proofs.Deeds.{alone_visit}
use Rattle.settling.proofs.DueThere.{edge_there, seat_there}
use Rattle.settling.proofs.CalmAfter.{nothing_after}
use Rattle.settling.proofs.Unfelt.{AreUnfelt, alike_nothing, unfelt_alike}
use Rattle.turns.proofs.Frame.{own_seat, as_many_seats}
use Rattle.settling.proofs.Local.{IsNear, near_all, visit_at, marked_by_look, looked_by_look}
use Rattle.settling.proofs.Still.{still_at, seat_still_at, nothing_with, still_nothing}
use Rattle.settling.proofs.Marks.{added, noted_still, noted_now, note_fits, note_jobs, note_only, woken_fits, woken_out, woken_due, woken_notes, woken_only, woken_stays, woken_kept, same_job}

module _ (old new : WorldView) (due : DueView) (j e n : ℕ) (fit : Fits old.plan old.state) (own : IsOwn old.plan j e)
    (marked : AreMarked old.plan old.state due) (is : is_due due j ≡ true) (v : VisitsEdge old j e n new) where
  abbrev plan : LabPlan
  plan = old.plan

  abbrev s : State
  s = old.state

  abbrev here : End
  here = end_of plan j e

  abbrev saw : EdgeState
  saw = edge s e

  abbrev t : State
  t = after_all plan s (Look j e saw ∷ events_of v.moves j e)

  inside : j < length s.seats
  inside = seat_there plan s j e fit own

  near : IsNear j e s t
  near = near_all plan j e s (Look j e saw ∷ events_of v.moves j e) (visit_at v.moves j e saw) inside

  marked_new : (due' : DueView) → AreMarked plan t due' → AreMarked new.plan new.state due'
  marked_new due' m = subst (λ (z : LabPlan × State). AreMarked z.0 z.1 due') (λ i. (sym v.leads.same_plan i, sym v.leads.run.leads i)) m

  -- at another edge, or another job's end of this one, if the edge stays
  elsewhere : (k f : ℕ) → f ≢ e → HasNothingAt plan s k f → HasNothingAt plan t k f
  elsewhere k f other h = elim (cases_eq k j) [
    | inl same ↦ subst (λ m. HasNothingAt plan t m f) (sym same)
        (still_at plan s t j f (near.edges f other) near.phase (near.forks f other) (near.marks f other) (subst (λ m. HasNothingAt plan s m f) same h))
    | inr apart ↦ seat_still_at plan s t k (near.seats k apart) f (near.edges f other) h
  ]

  inside_after : j < length (after plan s (Look j e saw)).seats
  inside_after = subst (λ n. j < n) (sym (as_many_seats plan s (Look j e saw))) inside

  abbrev u : State
  u = after plan s (Look j e saw)

  forks_there : e < length (seat s j).fork_marks
  forks_there = let a = (fit.seats_fit j (own_is_job plan j e own)).fork_marks_there in omega (arith, a, own.is_edge)

  there : e < length (seat s j).bottle_marks
  there = let a = (fit.seats_fit j (own_is_job plan j e own)).bottle_marks_there in omega (arith, a, own.is_edge)

  forks_after : e < length (seat u j).fork_marks
  forks_after = let a = ap (λ (y : Seat). length y.fork_marks) (own_seat plan s (Look j e saw) inside) in
      let b : length (slice_set (seat s j).fork_marks e (fork_mark_seen (dining s j) here saw)) ≡ length (seat s j).fork_marks = length-set (seat s j).fork_marks e _ in
      omega (arith, a, b, forks_there)

  there_after : e < length (seat u j).bottle_marks
  there_after = let a = ap (λ (y : Seat). length y.bottle_marks) (own_seat plan s (Look j e saw) inside) in
      let b : length (slice_set (seat s j).bottle_marks e (bottles_at plan e here saw)) ≡ length (seat s j).bottle_marks = length-set (seat s j).bottle_marks e _ in
      omega (arith, a, b, there)

  -- whether something was moved or not, nothing is left for the job there
  nothing_here : HasNothingAt plan t j e
  nothing_here = nothing_after plan u j e v.moves (edge_there plan s j e fit own) inside_after own v.due forks_after (looked_by_look plan s j e inside forks_there)
      there_after (marked_by_look plan s j e saw inside there)

  -- ---- something was moved

  abbrev woken : DueView
  woken = woken_at plan due e

  pub edge_moved : 1 ≤ n → AttendsEdge old due j e n new (with_note (woken_at plan due e) here e true)
  edge_moved some = record {
    alone = alone_visit old new j e n v;
    marked = marked_new (with_note woken here e true) (record {
      of_plan = note_fits plan woken here e true (woken_fits plan due e marked.of_plan);
      others = λ k job out. let o = woken_out plan due e k (sym (ap (λ (l : List Bool). slice_index_or l k true) (note_jobs woken here e true)) ∙ out) in
          let apart : k ≢ j = λ z. o.1 (subst (λ m. IsOwn plan m e) (sym z) own) in
          still_nothing plan s t k (near.seats k apart) (λ f mine. near.edges f (λ z. o.1 (subst (IsOwn plan k) z mine))) (marked.others k job o.0);
      only = λ k f x mine is other. let o = woken_only plan due e k x (sym (note_only woken here e true k) ∙ is) in elim (cases_eq f e) [
        | inl same ↦ absurd (other (same ∙ sym (o.1 (subst (IsOwn plan k) same mine))))
        | inr apart ↦ elsewhere k f apart (elim o.0 [
          | inl before ↦ marked.only k f x mine before other
          | inr out ↦ (marked.others k (own_is_job plan k f mine) out.1).edges f mine
        ])
      ];
      noted = λ k f mine noted. elim (added woken here (end_of plan k f) e f noted) [
        | inr before ↦ let o = woken_notes plan due e (end_of plan k f) f before in elsewhere k f o.1 (marked.noted k f mine o.0)
        | inl z ↦ subst (λ (z : ℕ × ℕ). HasNothingAt plan t z.0 z.1)
            (λ i. (sym (same_job plan j k e own (subst (IsOwn plan k) z.1 mine) (ap (end_of plan k) (sym z.1) ∙ z.0)) i, sym z.1 i)) nothing_here
      ];
    });
    still_due = ap (λ (l : List Bool). slice_index_or l j true) (note_jobs woken here e true) ∙ woken_due plan due e j is;
    noted = let fits = woken_fits plan due e marked.of_plan in
        noted_now woken here e (let a = fits.lower_there in omega (arith, a, own.is_edge)) (let a = fits.higher_there in omega (arith, a, own.is_edge));
    kept = λ end f other before. noted_still woken here end e f (woken_kept plan due e end f other before);
    only = λ h. note_only woken here e true j ∙ woken_stays plan due e j h;
    stays = λ none. absurd (omega (arith, some, none));
  }

  -- ---- nothing was that the neighbour could wait for

  module _ (unfelt : AreUnfelt v.moves) where
    -- the job at the other end has as little to do there as before
    across : (k : ℕ) → k ≢ j → IsOwn plan k e → HasNothingAt plan s k e → HasNothingAt plan t k e
    across k apart other h = alike_nothing plan s t k e (near.seats k apart)
        (unfelt_alike plan u j k e v.moves (edge_there plan s j e fit own) inside_after own other apart v.due unfelt) h

    anywhere : (k f : ℕ) → IsOwn plan k f → HasNothingAt plan s k f → HasNothingAt plan t k f
    anywhere k f mine h = elim (cases_eq f e) [
      | inr other ↦ elsewhere k f other h
      | inl same ↦ elim (cases_eq k j) [
        | inl me ↦ subst (λ (z : ℕ × ℕ). HasNothingAt plan t z.0 z.1) (λ i. (sym me i, sym same i)) nothing_here
        | inr apart ↦ subst (HasNothingAt plan t k) (sym same) (across k apart (subst (IsOwn plan k) same mine) (subst (HasNothingAt plan s k) same h))
      ]
    ]

    pub edge_unfelt : AttendsEdge old due j e n new (with_note due here e true)
    edge_unfelt = record {
      alone = alone_visit old new j e n v;
      marked = marked_new (with_note due here e true) (record {
        of_plan = note_fits plan due here e true marked.of_plan;
        others = λ k job out.
            let before : is_due due k ≡ false = sym (ap (λ (l : List Bool). slice_index_or l k true) (note_jobs due here e true)) ∙ out in
            let apart : k ≢ j = λ z. false≢true (sym before ∙ (ap (is_due due) z ∙ is)) in
            let h = marked.others k job before in
            nothing_with plan s t k (near.seats k apart) (λ f mine. anywhere k f mine (h.edges f mine)) h;
        only = λ k f x mine is other. anywhere k f mine (marked.only k f x mine (sym (note_only due here e true k) ∙ is) other);
        noted = λ k f mine noted. elim (added due here (end_of plan k f) e f noted) [
          | inr before ↦ anywhere k f mine (marked.noted k f mine before)
          | inl z ↦ subst (λ (z : ℕ × ℕ). HasNothingAt plan t z.0 z.1)
              (λ i. (sym (same_job plan j k e own (subst (IsOwn plan k) z.1 mine) (ap (end_of plan k) (sym z.1) ∙ z.0)) i, sym z.1 i)) nothing_here
        ];
      });
      still_due = ap (λ (l : List Bool). slice_index_or l j true) (note_jobs due here e true) ∙ is;
      noted = noted_now due here e (let a = marked.of_plan.lower_there in omega (arith, a, own.is_edge)) (let a = marked.of_plan.higher_there in omega (arith, a, own.is_edge));
      kept = λ end f other before. noted_still due here end e f before;
      only = λ h. note_only due here e true j ∙ h;
      stays = λ h k out. ap (λ (l : List Bool). slice_index_or l k true) (note_jobs due here e true) ∙ out;
    }
