-- A log has no more entries than the plan has commands on its instrument.
use Rattle.std.proofs.Common.{◌≡◌, ℕ, ◌+◌, ◌-◌, ◌<◌, ◌≤◌, ◌==◌, Bool, true, false, cond, length, List, [], ◌∷◌, ◌++◌, take, sym, ap, subst, ◌∙◌, refl, arith}
use Rattle.std.proofs.lemmas.Bool.{eq-eqb, ne_eqb}
use Rattle.std.proofs.lemmas.List.{length-append}
use Rattle.lab_plan.specs.declared.verb.Verb.{Verb}
use Rattle.lab_plan.specs.LabPlan.{LabPlan, commands, count_on}
use Rattle.instrument_log.specs.declared.entry.Entry.{Entry}
use Rattle.legal_steps.specs.declared.phase.Drinking.TheVariants.{Tranquil, Thirsty, Drinking as Drinks, Reaching, Retired}
use Rattle.legal_steps.specs.declared.event.Event.{Event}
use Rattle.legal_steps.specs.declared.event.Event.TheVariants.{Thirst, Drink, Reach, Act, Quit, Retire, Withdraw}
use Rattle.legal_steps.proofs.LogBooks.{Stage, Books, put, put-same, put-cases, is_in_session}
use Rattle.legal_steps.proofs.LogMoves.{Can, booked, with_stage, next_of, entry_of}
use Rattle.legal_steps.proofs.LogEnded.{IsStageOf, AreStages}
use Rattle.legal_steps.proofs.LogKept.{HasLeft}
use Rattle.legal_steps.proofs.RoomShares.{sum_to, sum_to-le, sum_to-more, count_on-more, first_on, share, share-in, share-out, share-le-first}

-- a log is no longer than what all jobs may have done on its instrument
abbrev pub IsRoomy : LabPlan → Books → Type 0
IsRoomy plan b = (i : ℕ) → length (b.logs i) ≤ sum_to (λ j. share plan i j (b.stages j)) (length plan.jobs)

-- a job moves to a stage where it may have done at least as much
share_grows : (plan : LabPlan) (b : Books) (i j : ℕ) (x : Stage) → share plan i j (b.stages j) ≤ share plan i j x
    → (k : ℕ) → share plan i k (b.stages k) ≤ share plan i k (put b.stages j x k)
share_grows plan b i j x more k = put-cases (λ n y. share plan i n (b.stages n) ≤ share plan i n y) b.stages j x k (λ here. more) (λ other. omega arith)

roomy_move : (plan : LabPlan) (b : Books) (j : ℕ) (x : Stage)
    → ((i : ℕ) → share plan i j (b.stages j) ≤ share plan i j x) → IsRoomy plan b → IsRoomy plan (with_stage b j x)
roomy_move plan b j x more h i =
    omega (
      arith,
      h i,
      sum_to-le (λ k. share plan i k (b.stages k)) (λ k. share plan i k (put b.stages j x k))
          (length plan.jobs) (λ k below. share_grows plan b i j x (more i) k),
    )

-- the job leaves its session, done or not
share_leaves : (plan : LabPlan) (i j : ℕ) (x y : Stage) → IsStageOf plan j x
    → y.session ≡ x.session → is_in_session y.drinking ≡ false → share plan i j x ≤ share plan i j y
share_leaves plan i j x y fit same outside = omega (arith, share-le-first plan i j x fit, share-out plan i j y outside, ap (first_on plan i j) same)

-- the job stays in its session, at the same position
share_stays : (plan : LabPlan) (i j : ℕ) (x y : Stage) → y.session ≡ x.session → y.position ≡ x.position
    → is_in_session x.drinking ≡ true → is_in_session y.drinking ≡ true → share plan i j x ≤ share plan i j y
share_stays plan i j x y session position before now =
    let at : ℕ → ℕ → ℕ = λ n k. first_on plan i j (n - 1) + count_on i (take k (commands plan j n)) in
    let same : at y.session y.position ≡ at x.session x.position = λ n. at (session n) (position n) in
    omega (arith, share-in plan i j x before, share-in plan i j y now, same)

-- the job begins its next session
share_begins : (plan : LabPlan) (i j : ℕ) (x y : Stage) → y.session ≡ x.session + 1
    → is_in_session x.drinking ≡ false → is_in_session y.drinking ≡ true → share plan i j x ≤ share plan i j y
share_begins plan i j x y next outside inside =
    let back : first_on plan i j (y.session - 1) ≡ first_on plan i j x.session = ap (first_on plan i j) (omega (arith, next)) in
    omega (arith, share-out plan i j x outside, share-in plan i j y inside, back)

-- ---- Act: the log and its job's share have one more

logs_longer : (logs : ℕ → List Entry) (i : ℕ) (entry : Entry) (k : ℕ) → length (put logs i (logs i ++ entry ∷ []) k) ≡ length (logs k) + cond (i == k) 1 0
logs_longer logs i entry k = put-cases (λ n entries. length entries ≡ length (logs n) + cond (i == n) 1 0) logs i (logs i ++ entry ∷ []) k
    (λ here. length-append (logs i) (entry ∷ []) ∙ ap (λ t. length (logs i) + cond t 1 0) (sym (eq-eqb i i refl)))
    (λ other. let one : Bool → ℕ = λ t. cond t 1 0 in let none : one (i == k) ≡ 0 = ap one (ne_eqb i k (λ e. other (sym e))) in omega (arith, none))

roomy_act : (plan : LabPlan) (b : Books) (j : ℕ) → (b.stages j).position < length (commands plan j (b.stages j).session)
    → Can plan b (Act j) → IsRoomy plan b → IsRoomy plan (booked plan b (Act j))
roomy_act plan b j left can h i =
    let x : Stage = b.stages j in
    let y : Stage = record x { drinking = Drinks; position = x.position + 1 } in
    let next : ℕ × Verb = next_of plan b j in
    let d : ℕ = cond (next.0 == i) 1 0 in
    let old : share plan i j x ≡ first_on plan i j (x.session - 1) + count_on i (take x.position (commands plan j x.session)) =
    share-in plan i j x (ap is_in_session can.1) in
    let grown : share plan i j x + d ≤ share plan i j y = omega (arith, old, count_on-more i (commands plan j x.session) x.position left) in
    let all = sum_to-more (λ k. share plan i k (b.stages k)) (λ k. share plan i k (put b.stages j y k)) (length plan.jobs) j d can.0
    (λ k below. share_grows plan b i j y (omega (arith, grown)) k)
    (subst (λ (z : Stage). share plan i j x + d ≤ share plan i j z) (sym (put-same b.stages j y)) grown) in
    omega (arith, all, h i, logs_longer b.logs next.0 (entry_of plan b j) i)

pub IsRoomy-after : (plan : LabPlan) (b : Books) (event : Event) → AreStages plan b
    → HasLeft plan b → Can plan b event → IsRoomy plan b → IsRoomy plan (booked plan b event)
IsRoomy-after plan b (Thirst j) fit left can h =
    let y : Stage = record { drinking = Thirsty; session = (b.stages j).session + 1; position = 0 } in
    roomy_move plan b j y (λ i. share_begins plan i j (b.stages j) y refl (ap is_in_session can.1) refl) h
IsRoomy-after plan b (Drink j) fit left can h =
    let y : Stage = record (b.stages j) { drinking = Drinks } in
    roomy_move plan b j y (λ i. share_stays plan i j (b.stages j) y refl refl (ap is_in_session can.1) refl) h
IsRoomy-after plan b (Reach j) fit left can h =
    let y : Stage = record (b.stages j) { drinking = Reaching } in
    roomy_move plan b j y (λ i. share_stays plan i j (b.stages j) y refl refl (ap is_in_session can.1) refl) h
IsRoomy-after plan b (Act j) fit left can h = roomy_act plan b j (left j can.0 can.1) can h
IsRoomy-after plan b (Quit j) fit left can h =
    let y : Stage = record (b.stages j) { drinking = Tranquil; position = 0 } in
    roomy_move plan b j y (λ i. share_leaves plan i j (b.stages j) y (fit j can.0) refl refl) h
IsRoomy-after plan b (Retire j) fit left can h =
    let y : Stage = record (b.stages j) { drinking = Retired } in
    roomy_move plan b j y (λ i. share_leaves plan i j (b.stages j) y (fit j can.0) refl refl) h
IsRoomy-after plan b (Withdraw j) fit left can h =
    let y : Stage = record (b.stages j) { drinking = Tranquil; position = 0 } in
    roomy_move plan b j y (λ i. share_leaves plan i j (b.stages j) y (fit j can.0) refl refl) h
IsRoomy-after plan b _ fit left can h = h
