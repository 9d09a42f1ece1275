-- A job that drinks has nothing more to do at its edges.
use Rattle.std.proofs.Common.{◌≡◌, ◌≢◌, ℕ, ◌<◌, true, false, length, slice_index_or, refl, sym, ap, ◌∙◌, subst, inl, inr}
use Rattle.std.proofs.lemmas.Bool.{false≢true, cases_eq, cases_lt}
use Rattle.std.proofs.lemmas.List.{get_or_past}
use Rattle.lab_plan.specs.LabPlan.{LabPlan, session_names}
use Rattle.legal_steps.specs.declared.phase.Drinking.{Drinking}
use Rattle.legal_steps.specs.declared.phase.Drinking.TheVariants.{Tranquil, Thirsty, Drinking as Drinks}
use Rattle.legal_steps.specs.declared.event.Event.TheVariants.{Drink}
use Rattle.legal_steps.specs.State.{State, Seat, no_seat, seat, edge, end_of, phase, dining, drinking}
use Rattle.legal_steps.specs.Legal.{after, Needs, MayGiveBottle, instrument_of, fork_mark_seen}
use Rattle.legal_steps.proofs.FitsWrites.{seat_same, seat_other}
use Rattle.settling.specs.Left.{DueView, AreMarked, HasNothingAt, is_due}
use Rattle.settling.proofs.Still.{seat_still_at, still_nothing}

not_both : (d : Drinking) → d ≡ Drinks → d ≡ Thirsty → ⊥
not_both d a b = let q : Drinks ≡ Thirsty = sym a ∙ b in absurd (cc)

idle_not : Tranquil ≡ Thirsty → ⊥
idle_not h = absurd (cc)

-- who is thirsty has a seat
pub seated : (s : State) (j : ℕ) → drinking s j ≡ Thirsty → j < length s.seats
seated s j thirsty = elim (cases_lt j (length s.seats)) [
  | inl there ↦ there
  | inr past ↦ absurd (idle_not (sym (ap (λ (x : Seat). x.phase.drinking) (get_or_past s.seats j no_seat past)) ∙ thirsty))
]

module _ (plan : LabPlan) (s : State) (j : ℕ) (inside : j < length s.seats) where
  abbrev t : State
  t = after plan s (Drink j)

  seat_is : seat t j ≡ record (seat s j) { phase = record (phase s j) { drinking = Drinks } }
  seat_is = seat_same s j _ inside

  dines : dining t j ≡ dining s j
  dines = ap (λ (x : Seat). x.phase.dining) seat_is

  drinks : drinking t j ≡ Drinks
  drinks = ap (λ (x : Seat). x.phase.drinking) seat_is

  needs_now : (i : ℕ) → Needs plan s j i → Needs plan t j i
  needs_now i n = record {
    in_session = inr (inl drinks);
    named = ap (λ m. session_names plan j m i) (ap (λ (x : Seat). x.phase.session) seat_is) ∙ n.named;
  }

  give_before : (e k : ℕ) → MayGiveBottle plan t j e k → MayGiveBottle plan s j e k
  give_before e k g = record {
    bottle_here = g.bottle_here;
    token_here = g.token_here;
    not_kept = λ q. g.not_kept (needs_now (instrument_of plan e k) q.0, inl (inl drinks));
  }

  drunk_at : (e : ℕ) → HasNothingAt plan s j e → HasNothingAt plan t j e
  drunk_at e h = record {
    calm = record {
      no_give = λ may. h.calm.no_give (may.0, (λ z. may.1 (dines ∙ z)), may.2, may.3, may.4);
      no_ask = λ may. h.calm.no_ask (may.0, sym dines ∙ may.1, may.2, may.3);
      no_soil = λ may. h.calm.no_soil (may.0, sym dines ∙ may.1, may.2, may.3);
      no_bottles_given = λ set may. h.calm.no_bottles_given set (may.0, may.1, λ k member. give_before e k (may.2 k member));
      no_bottles_asked = λ set may. not_both (drinking t j) drinks may.1;
    };
    looked = ap (λ (x : Seat). slice_index_or x.fork_marks e false) seat_is ∙ (h.looked ∙ ap (λ d. fork_mark_seen d (end_of plan j e) (edge s e)) (sym dines));
    knows = ap (λ (x : Seat). slice_index_or x.bottle_marks e 0) seat_is ∙ h.knows;
  }

  -- so what is noted stays true
  pub marked_drunk : (due : DueView) → is_due due j ≡ true → AreMarked plan s due → AreMarked plan t due
  marked_drunk due is marked = record {
    of_plan = marked.of_plan;
    others = λ k job out.
        let apart : k ≢ j = λ z. false≢true (sym out ∙ (ap (is_due due) z ∙ is)) in
        still_nothing plan s t k (seat_other s j _ k apart) (λ e own. refl) (marked.others k job out);
    only = λ k e x own here other. at k e (marked.only k e x own here other);
    noted = λ k e own noted. at k e (marked.noted k e own noted);
  } where
    at : (k e : ℕ) → HasNothingAt plan s k e → HasNothingAt plan t k e
    at k e h = elim (cases_eq k j) [
      | inl me ↦ subst (λ m. HasNothingAt plan t m e) (sym me) (drunk_at e (subst (λ m. HasNothingAt plan s m e) me h))
      | inr apart ↦ seat_still_at plan s t k (seat_other s j _ k apart) e refl h
    ]
