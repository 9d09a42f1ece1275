-- Commands in hand are done.
use Rattle.std.proofs.Common.{◌≡◌, ◌≢◌, ℕ, ◌+◌, ◌<◌, ◌≤◌, [], ◌∷◌, ◌++◌, refl, sym, ◌∙◌, subst, arith, length-append, ⊎_elim}
use Rattle.std.proofs.lemmas.List.Elements.{All-append, All-cons, All-nil}
use Rattle.std.proofs.lemmas.Bool.{cases_eq}
use Rattle.legal_steps.specs.declared.event.Event.TheVariants.{Act}
use Rattle.legal_steps.specs.declared.phase.Drinking.TheVariants.{Reaching}
use Rattle.legal_steps.specs.State.{State, drinking}
use Rattle.interleaving.specs.World.{WorldView, GoesOnBy}
use Rattle.interleaving.proofs.GoingOn.{by_both}
use Rattle.lab_journal.specs.Resumed.{IsAct}
use Rattle.lab_journal.specs.Finishing.{Finishes}

-- ---- one job

pub one_act : (old new : WorldView) (j : ℕ) → new.plan ≡ old.plan → GoesOnBy old (Act j ∷ []) new → Finishes 1 old new
one_act old new j same go = record {
  acts = Act j ∷ [];
  are_acts = All-cons IsAct (Act j) [] (j, refl) (All-nil IsAct);
  few = omega arith;
  same_plan = same;
  goes_on = go;
}

-- ---- one after another

pub both_finished : (m n k : ℕ) (a b c : WorldView) → m + n ≤ k → Finishes m a b → Finishes n b c → Finishes k a c
both_finished m n k a b c few x y =
    let size = length-append x.acts y.acts in record {
      acts = x.acts ++ y.acts;
      are_acts = All-append IsAct x.acts y.acts x.are_acts y.are_acts;
      few = omega (arith, few, size, x.few, y.few);
      same_plan = y.same_plan ∙ x.same_plan;
      goes_on = by_both a b c x.acts y.acts x.goes_on y.goes_on;
    }

-- no command is in hand of the first n jobs
abbrev pub NoneBefore : ℕ → State → Type 0
NoneBefore n s = (j : ℕ) → j < n → drinking s j ≢ Reaching

pub one_more : (n : ℕ) (s t : State) → NoneBefore n s → drinking t n ≢ Reaching → ((j : ℕ) → j ≢ n → drinking t j ≡ drinking s j) → NoneBefore (n + 1) t
one_more n s t before here others = λ j below.
    ⊎_elim
    (λ same. subst (λ k. drinking t k ≢ Reaching) (sym same) here)
    (λ other. λ is. before j (less j n below other) (sym (others j other) ∙ is))
    (cases_eq j n)
  where
    less : (j n : ℕ) → j < n + 1 → j ≢ n → j < n
    less j n h other = omega (arith, h, other)
