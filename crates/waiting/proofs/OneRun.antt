-- The rounds of one plan and one limit are one list, whoever tells of them.
use Rattle.std.proofs.Common.{◌≡◌, ℕ, zero, suc, ◌≤◌, Bool, true, false, List, [], ◌∷◌, ◌++◌, length, take, drop, refl, sym, ap, ◌∙◌, subst, arith, append_assoc, append-nil}
use Rattle.std.proofs.lemmas.List.{append_cancel_left}
use Rattle.lab_plan.specs.LabPlan.{LabPlan}
use Rattle.legal_steps.specs.declared.event.Event.{Event}
use Rattle.turns.specs.History.{IsHistory}
use Rattle.rounds.specs.FromOpening.{fresh_players}
use Rattle.rounds.specs.OneRun.{why_ended}
use Rattle.rounds.proofs.SameRun.{legal_from, rounds_same, one_run}
use Rattle.waiting.specs.Rounds.{joined, AreRoundsOf}

-- ---- rounds are known by what they come to, one after another

joined_parts : (k : ℕ) (rounds : List (List Event)) → joined rounds ≡ joined (take k rounds) ++ joined (drop k rounds)
joined_parts zero rounds = refl
joined_parts (suc k) [] = refl
joined_parts (suc k) (round ∷ rounds) =
    ap (λ l. round ++ l) (joined_parts k rounds) ∙ sym (append_assoc round (joined (take k rounds)) (joined (drop k rounds)))

same_parts : (xs ys : List (List Event)) → length xs ≡ length ys → ((k : ℕ) → k ≤ length xs → joined (take k xs) ≡ joined (take k ys)) → xs ≡ ys
same_parts [] [] long same = refl
same_parts [] (y ∷ ys) long same = absurd (omega (arith, long))
same_parts (x ∷ xs) [] long same = absurd (omega (arith, long))
same_parts (x ∷ xs) (y ∷ ys) long same =
    let first : x ≡ y = sym (append-nil x) ∙ (same 1 (omega arith) ∙ append-nil y) in
    let rest : xs ≡ ys = same_parts xs ys (omega (arith, long)) (λ k few. append_cancel_left x (joined (take k xs)) (joined (take k ys))
    (same (suc k) (omega (arith, few)) ∙ ap (λ z. z ++ joined (take k ys)) (sym first))) in
    λ i. first i ∷ rest i

same_why : (a b : Bool) → why_ended a ≡ why_ended b → a ≡ b
same_why true true is = refl
same_why true false is = absurd (cc)
same_why false true is = absurd (cc)
same_why false false is = refl

-- ---- one run

module _ (plan : LabPlan) (limit : ℕ) where
  legal_part : (k : ℕ) (retired : Bool) (rounds : List (List Event)) → AreRoundsOf plan limit retired rounds → IsHistory plan (joined (take k rounds))
  legal_part k retired rounds are = legal_from plan (joined rounds) (joined (take k rounds)) (joined (drop k rounds), joined_parts k rounds) are.ran.legal

  pub one_rounds : (retired retired' : Bool) (xs ys : List (List Event)) → AreRoundsOf plan limit retired xs → AreRoundsOf plan limit retired' ys
      → (retired ≡ retired') × (xs ≡ ys)
  one_rounds retired retired' xs ys a b =
      let all = one_run plan limit (fresh_players (length plan.jobs)) [] (why_ended retired) (why_ended retired') (length xs) (length ys)
      (joined xs) (joined ys) a.ran b.ran in
      let part : (k : ℕ) → k ≤ length xs → joined (take k xs) ≡ joined (take k ys) =
      λ k few. (let p = a.each k few in let q = b.each k (subst (λ n. k ≤ n) all.1 few) in
      rounds_same plan (fresh_players (length plan.jobs)) p.players q.players k p.idle q.idle [] (joined (take k xs)) (joined (take k ys))
      (legal_part k retired xs a) (legal_part k retired' ys b) p.rounds q.rounds).0 in
      (same_why retired retired' all.0, same_parts xs ys all.1 part)
