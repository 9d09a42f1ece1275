-- What has to be marked anew after events of a job.
use Rattle.std.proofs.Common.{◌≡◌, ◌≢◌, ◌⊎◌, ℕ, ◌+◌, ◌<◌, ◌≤◌, Bool, true, false, List, length, slice_index_or, refl, sym, ap, ◌∙◌, subst, inl, inr, arith}
use Rattle.std.proofs.lemmas.Bool.{cases_eq}
use Rattle.lab_plan.specs.LabPlan.{LabPlan, edges_of}
use Rattle.legal_steps.specs.declared.end.End.{End}
use Rattle.legal_steps.specs.declared.edge_state.EdgeState.{EdgeState}
use Rattle.legal_steps.specs.declared.event.Event.{Event}
use Rattle.legal_steps.specs.State.{State, IsOwn, edge, no_edge, end_of}
use Rattle.legal_steps.specs.Run.{after_all}
use Rattle.legal_steps.proofs.FitsLaw.{own_is_job}
use Rattle.legal_steps.proofs.OwnEdges.{at_own_edges}
use Rattle.interleaving.specs.World.{WorldView, LeadsTo}
use Rattle.turns.specs.Lists.{Each}
use Rattle.settling.specs.Left.{DueView, IsDueOf, AreMarked, KeepsMarks, IsBy, IsBySelf, is_due, is_noted, only_at, HasNothingAt}
use Rattle.settling.specs.Attending.{with_note, woken_at}
use Rattle.settling.proofs.Local.{IsLocal, IsAlone, local_all, alone_all}
use Rattle.settling.proofs.Still.{seat_still_at, still_nothing}
use Rattle.settling.proofs.Marks.{note_jobs, forgotten, note_fits, note_only, woken_fits, woken_out, woken_notes, woken_only}

module _ (plan : LabPlan) (j : ℕ) (due : DueView) where
  -- ---- after events that moved nothing

  -- the job is due, and nothing is noted of its end of each of the first n of these edges
  pub record SelfWoken (es : List ℕ) (n : ℕ) (due' : DueView) : Type 0 where
    pub fits : IsDueOf plan due'
    pub jobs : (k : ℕ) → is_due due' k ≡ false → (k ≢ j) × (is_due due k ≡ false)
    pub only : (k x : ℕ) → only_at due' k ≡ x + 1 → (k ≢ j) × (only_at due k ≡ x + 1)
    pub notes : (end : End) (f : ℕ) → is_noted due' end f ≡ true
        → (is_noted due end f ≡ true) × ((i : ℕ) → i < n → ¬ ((end ≡ end_of plan j (slice_index_or es i 0)) × (f ≡ slice_index_or es i 0)))

  pub self_more : (es : List ℕ) (n e : ℕ) (due' : DueView) → e ≡ slice_index_or es n 0 → SelfWoken es n due' →
      SelfWoken es (n + 1) (with_note due' (end_of plan j e) e false)
  self_more es n e due' is w = record {
    fits = note_fits plan due' (end_of plan j e) e false w.fits;
    jobs = λ k h. w.jobs k (sym (ap (λ (l : List Bool). slice_index_or l k true) (note_jobs due' (end_of plan j e) e false)) ∙ h);
    only = λ k x h. w.only k x (sym (note_only due' (end_of plan j e) e false k) ∙ h);
    notes = λ end f h. let b = forgotten due' (end_of plan j e) end e f h in let a = w.notes end f b.0 in (
      a.0,
      λ i below. elim (cases_eq i n) [
        | inl last ↦ λ z. b.1 (subst (λ m. (end ≡ end_of plan j m) × (f ≡ m)) (ap (λ k. slice_index_or es k 0) last ∙ sym is) z)
        | inr other ↦ a.1 i (omega (arith, below, other))
      ],
    );
  }

  pub self_keeps : (es : List ℕ) (n : ℕ) (due' : DueView) → es ≡ edges_of plan j → length es ≤ n → SelfWoken es n due' → KeepsMarks plan (IsBySelf j) due due'
  self_keeps es n due' are past w s events marked legal self =
      let t : State = after_all plan s events in
      let local : IsAlone j s t = alone_all plan j s events self in
      let at_edge : (e : ℕ) → edge t e ≡ edge s e = λ e. ap (λ (l : List EdgeState). slice_index_or l e no_edge) local.edges in
      record {
        of_plan = w.fits;
        others = λ k job out. let o = w.jobs k out in
            still_nothing plan s t k (local.seats k o.0) (λ e own. at_edge e) (marked.others k job o.1);
        only = λ k e x own is other. let o = w.only k x is in seat_still_at plan s t k (local.seats k o.0) e (at_edge e) (marked.only k e x own o.1 other);
        noted = λ k e own noted. let o = w.notes (end_of plan k e) e noted in elim (cases_eq k j) [
          | inl is ↦ absurd (at_own_edges plan j es n (λ f. ¬ ((end_of plan k e ≡ end_of plan j f) × (e ≡ f))) are past o.1 e (subst (λ m. IsOwn plan m e) is own)
              (ap (λ m. end_of plan m e) is, refl))
          | inr other ↦ seat_still_at plan s t k (local.seats k other) e (at_edge e) (marked.noted k e own o.0)
        ];
      }

  -- ---- after any events

  pub record NearWoken (es : List ℕ) (n : ℕ) (due' : DueView) : Type 0 where
    pub fits : IsDueOf plan due'
    pub jobs : (k : ℕ) → is_due due' k ≡ false → (k ≢ j) × (is_due due k ≡ false) × ((i : ℕ) → i < n → ¬ IsOwn plan k (slice_index_or es i 0))
    pub only : (k x : ℕ) → only_at due' k ≡ x + 1 →
        (k ≢ j) × ((only_at due k ≡ x + 1) ⊎ (is_due due k ≡ false)) × ((i : ℕ) → i < n → IsOwn plan k (slice_index_or es i 0) → x ≡ slice_index_or es i 0)
    pub notes : (end : End) (f : ℕ) → is_noted due' end f ≡ true → (is_noted due end f ≡ true) × ((i : ℕ) → i < n → f ≢ slice_index_or es i 0)

  pub near_more : (es : List ℕ) (n e : ℕ) (due' : DueView) → e ≡ slice_index_or es n 0 → NearWoken es n due' → NearWoken es (n + 1) (woken_at plan due' e)
  near_more es n e due' is w = record {
    fits = woken_fits plan due' e w.fits;
    jobs = λ k h. let b = woken_out plan due' e k h in let a = w.jobs k b.0 in (
      a.0,
      a.1,
      λ i below. elim (cases_eq i n) [
        | inl last ↦ λ own. b.1 (subst (IsOwn plan k) (ap (λ m. slice_index_or es m 0) last ∙ sym is) own)
        | inr other ↦ a.2 i (omega (arith, below, other))
      ],
    );
    only = λ k x h. let o = woken_only plan due' e k x h in
        let here : (i : ℕ) → i ≡ n → IsOwn plan k (slice_index_or es i 0) → x ≡ slice_index_or es i 0 =
        λ i last own. let at : slice_index_or es i 0 ≡ e = ap (λ m. slice_index_or es m 0) last ∙ sym is in o.1 (subst (IsOwn plan k) at own) ∙ sym at in
        elim o.0 [
          | inl before ↦ let a = w.only k x before in
              (a.0, a.1, λ i below. elim (cases_eq i n) [ inl last ↦ here i last | inr other ↦ a.2 i (omega (arith, below, other)) ])
          | inr out ↦ let a = w.jobs k out.1 in (
            a.0,
            inr a.1,
            λ i below. elim (cases_eq i n) [ inl last ↦ here i last | inr other ↦ λ own. absurd (a.2 i (omega (arith, below, other)) own) ],
          )
        ];
    notes = λ end f h. let b = woken_notes plan due' e end f h in let a = w.notes end f b.0 in (
      a.0,
      λ i below. elim (cases_eq i n) [
        | inl last ↦ λ z. b.1 (z ∙ (ap (λ m. slice_index_or es m 0) last ∙ sym is))
        | inr other ↦ a.1 i (omega (arith, below, other))
      ],
    );
  }

  pub near_keeps : (es : List ℕ) (n : ℕ) (due' : DueView) → es ≡ edges_of plan j → length es ≤ n → NearWoken es n due' → KeepsMarks plan (IsBy j) due due'
  near_keeps es n due' are past w s events marked legal by =
      let t : State = after_all plan s events in
      let local : IsLocal plan j s t = local_all plan j s events legal by in
      record {
        of_plan = w.fits;
        others = λ k job out. let o = w.jobs k out in
            let far : (e : ℕ) → IsOwn plan j e → ¬ IsOwn plan k e = at_own_edges plan j es n (λ e. ¬ IsOwn plan k e) are past o.2 in
            still_nothing plan s t k (local.seats k o.0) (λ e own. local.edges e (λ mine. far e mine own)) (marked.others k job o.1);
        only = λ k e x own is other. let o = w.only k x is in
            let far : ¬ IsOwn plan j e = λ mine. other (sym (at_own_edges plan j es n (λ f. IsOwn plan k f → x ≡ f) are past o.2 e mine own)) in
            let before : HasNothingAt plan s k e = elim o.1 [
              | inl only ↦ marked.only k e x own only other
              | inr out ↦ (marked.others k (own_is_job plan k e own) out).edges e own
            ] in
            seat_still_at plan s t k (local.seats k o.0) e (local.edges e far) before;
        noted = λ k e own noted. let o = w.notes (end_of plan k e) e noted in
            let far : ¬ IsOwn plan j e = λ mine. at_own_edges plan j es n (λ f. e ≢ f) are past o.1 e mine refl in
            let other : k ≢ j = λ is. far (subst (λ m. IsOwn plan m e) is own) in
            seat_still_at plan s t k (local.seats k other) e (local.edges e far) (marked.noted k e own o.0);
      }

-- the same of a world that went on
pub marked_on : (old new : WorldView) (events : List Event) (Kind : Event → Type 0) (due due' : DueView) → LeadsTo old events new → Each Kind events →
    KeepsMarks new.plan Kind due due' → AreMarked old.plan old.state due → AreMarked new.plan new.state due'
marked_on old new events Kind due due' leads kind keeps marked =
    subst (λ (z : LabPlan × State). AreMarked z.0 z.1 due') (λ i. (sym leads.same_plan i, sym leads.run.leads i))
    (subst (λ (p : LabPlan). KeepsMarks p Kind due due') leads.same_plan keeps old.state events marked leads.run.legal kind)
