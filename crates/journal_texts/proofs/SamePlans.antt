-- What a longer plan has in common with the plan: names, edges and bottles, so the texts of steps are the same.
use Rattle.std.proofs.Common.{◌≡◌, ◌⊎◌, ℕ, ◌<◌, ◌^◌, ◌==◌, if◌then◌else◌, List, [], ◌∷◌, ◌++◌, length, refl, sym, ap, ◌∙◌, subst, inl, inr, get_or-set_same, get_or-set_other}
use Rattle.std.specs.Prelude.{None, codes, slice_index_or}
use Rattle.std.specs.List.{AllByRecursion, flat_map, range_with_len}
use Rattle.std.specs.Int.{bit_at}
use Rattle.std.proofs.lemmas.Bool.{cases_eq}
use Rattle.lab_plan.specs.LabPlan.{LabPlan, SessionPlan, JobPlan, no_job, job_at, edges, ends, bottles}
use Rattle.lab_plan.specs.Texts.{job_name}
use Rattle.lab_plan.specs.Longer.{with_session, with_one_more, more_refusal}
use Rattle.legal_steps.specs.declared.end.End.{End}
use Rattle.legal_steps.specs.declared.end.End.TheVariants.{Lower, Higher}
use Rattle.legal_steps.specs.declared.event.Step.{Step}
use Rattle.legal_steps.specs.declared.event.Step.TheVariants.{Look, AskFork, GiveFork, Soil, AskBottles, GiveBottles, Thirst, Hunger}
use Rattle.legal_steps.specs.declared.event.Step.TheVariants.{Sit, Leave, Drink, Reach, Act, Quit, Retire, Glance, Withdraw}
use Rattle.legal_steps.specs.State.{IsOwn, neighbour, job_at_end, opposite}
use Rattle.legal_steps.specs.Legal.{IsBottleSet}
use Rattle.longer_plans.specs.Longer.{IsLonger}
use Rattle.longer_plans.proofs.Once.{taken_is_longer}
use Rattle.step_texts.specs.Names.{other_name, bottle_name}
use Rattle.step_texts.specs.StepTexts.{alone_text, pair_text, set_text, step_text}
use Rattle.written_steps.specs.ReadBack.{IsNameable}

pub record AreAlike (p q : LabPlan) : Type 0 where
  pub jobs : length q.jobs ≡ length p.jobs
  pub names : (k : ℕ) → job_name q k ≡ job_name p k
  pub instruments : q.instruments ≡ p.instruments
  pub edges_are : edges q ≡ edges p
  pub bottles_are : (e : ℕ) → bottles q e ≡ bottles p e

pub alike_self : (p : LabPlan) → AreAlike p p
alike_self p = record { jobs = refl; names = λ k. refl; instruments = refl; edges_are = refl; bottles_are = λ e. refl }

pub alike_both : (p q r : LabPlan) → AreAlike p q → AreAlike q r → AreAlike p r
alike_both p q r a b = record {
  jobs = b.jobs ∙ a.jobs;
  names = λ k. b.names k ∙ a.names k;
  instruments = b.instruments ∙ a.instruments;
  edges_are = b.edges_are ∙ a.edges_are;
  bottles_are = λ e. b.bottles_are e ∙ a.bottles_are e;
}

pub alike_more : (p : LabPlan) (j : ℕ) (session : SessionPlan) → j < length p.jobs → more_refusal p j session ≡ None → AreAlike p (with_one_more p j session)
alike_more p j session there none =
    let longer : IsLonger p (with_one_more p j session) j = taken_is_longer p j session there none in record {
      jobs = longer.jobs_same;
      names = λ k. elim (cases_eq k j) [
        | inl is ↦ subst (λ (n : ℕ). job_name (with_one_more p j session) n ≡ job_name p n) (sym is)
            (ap (λ (x : JobPlan). x.name) (get_or-set_same p.jobs j (with_session (job_at p j) session) no_job there))
        | inr other ↦ ap (λ (x : JobPlan). x.name) (get_or-set_other p.jobs j k (with_session (job_at p j) session) no_job other)
      ];
      instruments = refl;
      edges_are = longer.edges_same;
      bottles_are = longer.bottles_same;
    }

-- ---- the texts of steps

abbrev at_end : List (ℕ × ℕ) → ℕ → End → ℕ
at_end l e Lower = (slice_index_or l e (0, 0)).0
at_end l e Higher = (slice_index_or l e (0, 0)).1

-- the neighbour, by the list of edges
abbrev beside : List (ℕ × ℕ) → ℕ → ℕ → ℕ
beside l j e = at_end l e (opposite (if (slice_index_or l e (0, 0)).0 == j then Lower else Higher))

neighbour_is : (p : LabPlan) (j e : ℕ) → neighbour p j e ≡ beside (edges p) j e
neighbour_is p j e = by (opposite (if (ends p e).0 == j then Lower else Higher))
  where
    by : (x : End) → job_at_end p e x ≡ at_end (edges p) e x
    by Lower = refl
    by Higher = refl

module _ (p q : LabPlan) (a : AreAlike p q) where
  neighbour_same : (j e : ℕ) → neighbour q j e ≡ neighbour p j e
  neighbour_same j e = neighbour_is q j e ∙ ap (λ (l : List (ℕ × ℕ)). beside l j e) a.edges_are ∙ sym (neighbour_is p j e)

  other_same : (j e : ℕ) → other_name q j e ≡ other_name p j e
  other_same j e = a.names (neighbour q j e) ∙ ap (job_name p) (neighbour_same j e)

  bottle_same : (e k : ℕ) → bottle_name q e k ≡ bottle_name p e k
  bottle_same e k = λ i. slice_index_or (a.instruments i) (slice_index_or (a.bottles_are e i) k 0) []

  pair_same : (word : List ℕ) (j e : ℕ) → pair_text q word j e ≡ pair_text p word j e
  pair_same word j e = λ i. word ++ codes " " ++ a.names j i ++ codes " " ++ other_same j e i

  set_same : (e set : ℕ) → set_text q e set ≡ set_text p e set
  set_same e set = λ i. flat_map (λ (k : ℕ). if bit_at set k == 1 then codes " " ++ bottle_same e k i else []) (range_with_len 0 (length (a.bottles_are e i)))

  alone_same : (word : List ℕ) (j : ℕ) → alone_text q word j ≡ alone_text p word j
  alone_same word j = λ i. word ++ codes " " ++ a.names j i

  pub text_same : (x : Step) → step_text q x ≡ step_text p x
  unfolding step_text
  text_same (Look j e) = pair_same (codes "look") j e
  text_same (AskFork j e) = pair_same (codes "askfork") j e
  text_same (GiveFork j e) = pair_same (codes "givefork") j e
  text_same (Soil j e) = pair_same (codes "soil") j e
  text_same (AskBottles j e set) = λ i. pair_same (codes "askbottles") j e i ++ set_same e set i
  text_same (GiveBottles j e set) = λ i. pair_same (codes "givebottles") j e i ++ set_same e set i
  text_same (Thirst j) = alone_same (codes "thirst") j
  text_same (Hunger j) = alone_same (codes "hunger") j
  text_same (Sit j) = alone_same (codes "sit") j
  text_same (Leave j) = alone_same (codes "leave") j
  text_same (Drink j) = alone_same (codes "drink") j
  text_same (Reach j) = alone_same (codes "reach") j
  text_same (Act j) = alone_same (codes "act") j
  text_same (Quit j) = alone_same (codes "quit") j
  text_same (Retire j) = alone_same (codes "retire") j
  text_same (Glance j other) = λ i. alone_same (codes "glance") j i ++ codes " " ++ a.names other i
  text_same (Withdraw j) = alone_same (codes "withdraw") j

  -- ---- which steps can be named

  job_back : (j : ℕ) → j < length q.jobs → j < length p.jobs
  job_back j there = subst (λ (n : ℕ). j < n) a.jobs there

  own_back : (j e : ℕ) → IsOwn q j e → IsOwn p j e
  own_back j e own = record {
    is_edge = subst (λ (l : List (ℕ × ℕ)). e < length l) a.edges_are own.is_edge;
    at_end = subst (λ (l : List (ℕ × ℕ)). ((slice_index_or l e (0, 0)).0 ≡ j) ⊎ ((slice_index_or l e (0, 0)).1 ≡ j)) a.edges_are own.at_end;
  }

  bottles_back : (e set : ℕ) → IsBottleSet q e set → IsBottleSet p e set
  bottles_back e set is = record { not_empty = is.not_empty; of_edge = subst (λ (l : List ℕ). set < 2 ^ length l) (a.bottles_are e) is.of_edge }

  pub nameable_back : (x : Step) → IsNameable q x → IsNameable p x
  nameable_back (Look j e) is = own_back j e is
  nameable_back (AskFork j e) is = own_back j e is
  nameable_back (GiveFork j e) is = own_back j e is
  nameable_back (Soil j e) is = own_back j e is
  nameable_back (AskBottles j e set) is = (own_back j e is.0, bottles_back e set is.1)
  nameable_back (GiveBottles j e set) is = (own_back j e is.0, bottles_back e set is.1)
  nameable_back (Thirst j) is = job_back j is
  nameable_back (Hunger j) is = job_back j is
  nameable_back (Sit j) is = job_back j is
  nameable_back (Leave j) is = job_back j is
  nameable_back (Drink j) is = job_back j is
  nameable_back (Reach j) is = job_back j is
  nameable_back (Act j) is = job_back j is
  nameable_back (Quit j) is = job_back j is
  nameable_back (Retire j) is = job_back j is
  nameable_back (Glance j other) is = (job_back j is.0, job_back other is.1, is.2)
  nameable_back (Withdraw j) is = job_back j is

  pub all_back : (l : List Step) → AllByRecursion (IsNameable q) l → AllByRecursion (IsNameable p) l
  all_back [] all = tt
  all_back (x ∷ l) all = (nameable_back x all.0, all_back l all.1)
