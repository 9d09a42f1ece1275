-- Each log is the parts of the sessions that ended, and then what the job that holds the instrument has done so far.
use Rattle.std.proofs.Common.{◌≡◌, ◌≢◌, ◌⊎◌, ℕ, ◌+◌, ◌<◌, ◌≤◌, ◌==◌, true, false, ◌&&◌, cond, true≢false, length, List, [], ◌∷◌, ◌++◌, map, take, slice_index_or, sym, ap, subst, ◌∙◌, inl, inr, refl, append_assoc}
use Rattle.std.proofs.lemmas.Bool.{cases_eq, cases_Bool, eq-eqb, ne_eqb, and_from, and_left, and_right}
use Rattle.std.proofs.lemmas.List.{append-nil, map_push, take_all}
use Rattle.lab_plan.specs.declared.verb.Verb.{Verb}
use Rattle.lab_plan.specs.declared.verb.Verb.TheVariants.{Read}
use Rattle.lab_plan.specs.LabPlan.{LabPlan, commands, session_names}
use Rattle.instrument_log.specs.declared.entry.Entry.{Entry}
use Rattle.legal_steps.specs.declared.phase.Drinking.{Drinking}
use Rattle.legal_steps.specs.declared.phase.Drinking.TheVariants.{Tranquil, Thirsty, Drinking as Drinks, Reaching}
use Rattle.legal_steps.specs.declared.event.Event.{Event}
use Rattle.legal_steps.specs.declared.event.Event.TheVariants.{Thirst, Drink, Reach, Act, Quit, Retire, Withdraw}
use Rattle.legal_steps.specs.WholeLogs.{LogLine, line_of, commands_on, lines_of, part_of, parts_of}
use Rattle.legal_steps.proofs.LogBooks.{Stage, Books, put-same, put-other, put-cases, is_drinking, holds_at, holds, HasOneHolder}
use Rattle.legal_steps.proofs.LogMoves.{Can, booked, with_stage, next_of, entry_of}
use Rattle.legal_steps.proofs.LogEnded.{IsFresh, ended_on}
use Rattle.legal_steps.proofs.PartLists.{line_at, lines_of-push, length-commands_on, commands_on-more, names-next, parts_of-push, part_of-none}

-- what the session of a job at this stage has put on the instrument so far
abbrev pub part_so_far : LabPlan → ℕ → ℕ → Stage → List LogLine
part_so_far plan i j x =
    let all = commands plan j x.session in
    lines_of j x.session (length (commands_on i all)) (commands_on i (take x.position all))

-- the log of an instrument: one job holds it, and its part so far comes last; or no job does
abbrev pub IsKept : LabPlan → Books → List (ℕ × ℕ) → ℕ → Type 0
IsKept plan b ended i =
    ((j : ℕ) × (holds plan b j i ≡ true) × (map line_of (b.logs i) ≡ parts_of plan i ended ++ part_so_far plan i j (b.stages j)))
    ⊎ (((j : ℕ) → holds plan b j i ≡ false) × (map line_of (b.logs i) ≡ parts_of plan i ended))

-- a job that holds the instrument, at a stage that is known
held : (plan : LabPlan) (b : Books) (ended : List (ℕ × ℕ)) (i j : ℕ) (x : Stage) → b.stages j ≡ x → holds_at plan j x i ≡ true →
    map line_of (b.logs i) ≡ parts_of plan i ended ++ part_so_far plan i j x → IsKept plan b ended i
held plan b ended i j x at h log =
    inl (j, ap (λ y. holds_at plan j y i) at ∙ h, log ∙ ap (λ y. parts_of plan i ended ++ part_so_far plan i j y) (sym at))

-- what is the same before and after
IsKept-same : (plan : LabPlan) (b c : Books) (ended : List (ℕ × ℕ)) (i : ℕ) → ((k : ℕ) → holds plan c k i ≡ holds plan b k i) →
    ((k : ℕ) → holds plan b k i ≡ true → part_so_far plan i k (c.stages k) ≡ part_so_far plan i k (b.stages k)) → c.logs i ≡ b.logs i →
    IsKept plan b ended i → IsKept plan c ended i
IsKept-same plan b c ended i holders parts log kept = elim kept [
  | inl a ↦ inl (a.0, holders a.0 ∙ a.1, ap (map line_of) log ∙ a.2 ∙ ap (λ lines. parts_of plan i ended ++ lines) (sym (parts a.0 a.1)))
  | inr a ↦ inr ((λ k. holders k ∙ a.0 k), ap (map line_of) log ∙ a.1)
]

-- sessions with the same parts on the instrument
IsKept-parts : (plan : LabPlan) (b : Books) (ended others : List (ℕ × ℕ)) (i : ℕ)
    → parts_of plan i ended ≡ parts_of plan i others → IsKept plan b ended i → IsKept plan b others i
IsKept-parts plan b ended others i same kept = elim kept [
  | inl a ↦ inl (a.0, a.1, a.2 ∙ ap (λ lines. lines ++ part_so_far plan i a.0 (b.stages a.0)) same)
  | inr a ↦ inr (a.0, a.1 ∙ same)
]

-- a job moves to a stage where it holds the instrument as before, with the same part so far
IsKept-move : (plan : LabPlan) (b : Books) (ended : List (ℕ × ℕ)) (i j : ℕ) (x : Stage) → holds_at plan j x i ≡ holds plan b j i →
    (holds plan b j i ≡ true → part_so_far plan i j x ≡ part_so_far plan i j (b.stages j)) → IsKept plan b ended i → IsKept plan (with_stage b j x) ended i
IsKept-move plan b ended i j x holder part =
    IsKept-same plan b (with_stage b j x) ended i
    (λ k. put-cases (λ n y. holds_at plan n y i ≡ holds plan b n i) b.stages j x k (λ here. holder) (λ other. refl))
    (λ k. put-cases (λ n y. holds plan b n i ≡ true → part_so_far plan i n y ≡ part_so_far plan i n (b.stages n)) b.stages j x k
    (λ here. part) (λ other h. refl))
    refl

-- a job that doesn't drink holds nothing
not_drinking : (plan : LabPlan) (j i : ℕ) (x : Stage) (d : Drinking) → x.drinking ≡ d → is_drinking d ≡ false → holds_at plan j x i ≡ false
not_drinking plan j i x d at idle = and_left _ _ (ap is_drinking at ∙ idle)

-- a job that holds the instrument neither before nor after
IsKept-idle : (plan : LabPlan) (b : Books) (ended : List (ℕ × ℕ)) (i j : ℕ) (x : Stage) → holds plan b j i ≡ false → holds_at plan j x i ≡ false →
    IsKept plan b ended i → IsKept plan (with_stage b j x) ended i
IsKept-idle plan b ended i j x before after = IsKept-move plan b ended i j x (after ∙ sym before) (λ h. absurd (true≢false (sym h ∙ before)))

-- ---- Drink: the part so far is empty

kept_drink : (plan : LabPlan) (b : Books) (ended : List (ℕ × ℕ)) (i j : ℕ) → HasOneHolder plan (booked plan b (Drink j)) → IsFresh b → Can plan b (Drink j) →
    IsKept plan b ended i → IsKept plan (booked plan b (Drink j)) ended i
kept_drink plan b ended i j one fresh can kept =
    let c : Books = booked plan b (Drink j) in
    let x : Stage = record (b.stages j) { drinking = Drinks } in
    let before : holds plan b j i ≡ false = not_drinking plan j i (b.stages j) Thirsty can.1 refl in
    elim (cases_Bool (session_names plan j (b.stages j).session i)) [
      | inl named ↦
          let now : holds plan c j i ≡ true = ap (λ y. holds_at plan j y i) (put-same b.stages j x) ∙ named in
          elim kept [
            | inl a ↦ absurd (elim (cases_eq a.0 j) [
              | inl here ↦ true≢false (sym a.1 ∙ ap (λ k. holds plan b k i) here ∙ before)
              | inr other ↦ other (one a.0 j i (ap (λ y. holds_at plan a.0 y i) (put-other b.stages j x a.0 other) ∙ a.1) now)
            ])
            | inr a ↦ held plan c ended i j x (put-same b.stages j x) named
                (a.1 ∙ sym (append-nil (parts_of plan i ended))
                ∙ ap (λ n. parts_of plan i ended ++ part_so_far plan i j (record x { position = n })) (sym (fresh j can.1)))
          ]
      | inr nameless ↦ IsKept-idle plan b ended i j x before nameless kept
    ]

-- ---- Act: one more line

-- a reaching job holds its next command's instrument
pub holds_next : (plan : LabPlan) (b : Books) (j : ℕ) → (b.stages j).position < length (commands plan j (b.stages j).session)
    → Can plan b (Act j) → holds plan b j (next_of plan b j).0 ≡ true
holds_next plan b j left can = and_from _ _ (ap is_drinking can.1) (names-next (commands plan j (b.stages j).session) (b.stages j).position (0, Read) left)

-- the part so far with one more command done
part_so_far-more : (plan : LabPlan) (i j : ℕ) (x : Stage) (command : ℕ × Verb) → command ≡ slice_index_or (commands plan j x.session) x.position (0, Read) →
    x.position < length (commands plan j x.session) →
    part_so_far plan i j (record x { drinking = Drinks; position = x.position + 1 })
    ≡ lines_of j x.session (length (commands_on i (commands plan j x.session)))
    (commands_on i (take x.position (commands plan j x.session)) ++ cond (command.0 == i) (command ∷ []) [])
part_so_far-more plan i j x command is left =
    let all : List (ℕ × Verb) = commands plan j x.session in
    ap (lines_of j x.session (length (commands_on i all)))
    (subst (λ (c : ℕ × Verb). commands_on i (take (x.position + 1) all) ≡ commands_on i (take x.position all) ++ cond (c.0 == i) (c ∷ []) []) (sym is)
    (commands_on-more i all x.position (0, Read) left))

line_of_entry : (plan : LabPlan) (b : Books) (j : ℕ) →
    line_of (entry_of plan b j)
    ≡ line_at j (b.stages j).session (length (commands_on (next_of plan b j).0 (commands plan j (b.stages j).session)))
    (length (commands_on (next_of plan b j).0 (take (b.stages j).position (commands plan j (b.stages j).session))) + 1) (next_of plan b j)
line_of_entry plan b j =
    let i : ℕ = (next_of plan b j).0 in
    let all : List (ℕ × Verb) = commands plan j (b.stages j).session in
    λ n. (j, (b.stages j).session, sym (length-commands_on i (take (b.stages j).position all)) n + 1, sym (length-commands_on i all) n, (next_of plan b j).1)

-- the part so far after the command
acted : (plan : LabPlan) (b : Books) (j : ℕ) → (b.stages j).position < length (commands plan j (b.stages j).session) →
    part_so_far plan (next_of plan b j).0 j (record (b.stages j) { drinking = Drinks; position = (b.stages j).position + 1 })
    ≡ part_so_far plan (next_of plan b j).0 j (b.stages j) ++ line_of (entry_of plan b j) ∷ []
acted plan b j left =
    let x : Stage = b.stages j in
    let next : ℕ × Verb = next_of plan b j in
    let all : List (ℕ × Verb) = commands plan j x.session in
    let done : List (ℕ × Verb) = commands_on next.0 (take x.position all) in
    let total : ℕ = length (commands_on next.0 all) in
    part_so_far-more plan next.0 j x next refl left
    ∙ ap (λ t. lines_of j x.session total (done ++ cond t (next ∷ []) [])) (eq-eqb next.0 next.0 refl)
    ∙ lines_of-push j x.session total done next
    ∙ ap (λ line. lines_of j x.session total done ++ line ∷ []) (sym (line_of_entry plan b j))

kept_act_here : (plan : LabPlan) (b : Books) (ended : List (ℕ × ℕ)) (j : ℕ)
    → HasOneHolder plan b → (b.stages j).position < length (commands plan j (b.stages j).session) →
    Can plan b (Act j) → IsKept plan b ended (next_of plan b j).0 → IsKept plan (booked plan b (Act j)) ended (next_of plan b j).0
kept_act_here plan b ended j one left can kept =
    let i : ℕ = (next_of plan b j).0 in
    let x : Stage = record (b.stages j) { drinking = Drinks; position = (b.stages j).position + 1 } in
    let entry : Entry = entry_of plan b j in
    let now : holds plan b j i ≡ true = holds_next plan b j left can in
    let named : holds_at plan j x i ≡ true = names-next (commands plan j x.session) (b.stages j).position (0, Read) left in
    elim kept [
      | inl a ↦
          let here : a.0 ≡ j = one a.0 j i a.1 now in
          held plan (booked plan b (Act j)) ended i j x (put-same b.stages j x) named
          (ap (map line_of) (put-same b.logs i (b.logs i ++ entry ∷ []))
          ∙ map_push line_of (b.logs i) entry
          ∙ ap (λ lines. lines ++ line_of entry ∷ []) (a.2 ∙ ap (λ k. parts_of plan i ended ++ part_so_far plan i k (b.stages k)) here)
          ∙ append_assoc (parts_of plan i ended) (part_so_far plan i j (b.stages j)) (line_of entry ∷ [])
          ∙ ap (λ lines. parts_of plan i ended ++ lines) (sym (acted plan b j left)))
      | inr a ↦ absurd (true≢false (sym now ∙ a.0 j))
    ]

-- the other logs
kept_act_else : (plan : LabPlan) (b : Books) (ended : List (ℕ × ℕ)) (i j : ℕ) → (b.stages j).position < length (commands plan j (b.stages j).session) →
    Can plan b (Act j) → i ≢ (next_of plan b j).0 → IsKept plan b ended i → IsKept plan (booked plan b (Act j)) ended i
kept_act_else plan b ended i j left can other kept =
    let x : Stage = record (b.stages j) { drinking = Drinks; position = (b.stages j).position + 1 } in
    let next : ℕ × Verb = next_of plan b j in
    let all : List (ℕ × Verb) = commands plan j x.session in
    let done : List (ℕ × Verb) = commands_on i (take (b.stages j).position all) in
    let same : part_so_far plan i j x ≡ part_so_far plan i j (b.stages j) =
    part_so_far-more plan i j (b.stages j) next refl left
    ∙ ap (λ t. lines_of j x.session (length (commands_on i all)) (done ++ cond t (next ∷ []) [])) (ne_eqb next.0 i (λ e. other (sym e)))
    ∙ ap (lines_of j x.session (length (commands_on i all))) (append-nil done) in
    let holder : holds_at plan j x i ≡ holds plan b j i = ap (λ d. is_drinking d && session_names plan j x.session i) (sym can.1) in
    IsKept-same plan (with_stage b j x) (booked plan b (Act j)) ended i (λ k. refl) (λ k h. refl) (put-other b.logs next.0 _ i other)
    (IsKept-move plan b ended i j x holder (λ h. same) kept)

kept_act : (plan : LabPlan) (b : Books) (ended : List (ℕ × ℕ)) (i j : ℕ) → HasOneHolder plan b
    → (b.stages j).position < length (commands plan j (b.stages j).session) →
    Can plan b (Act j) → IsKept plan b ended i → IsKept plan (booked plan b (Act j)) ended i
kept_act plan b ended i j one left can kept = elim (cases_eq i (next_of plan b j).0) [
  | inl here ↦ subst (IsKept plan (booked plan b (Act j)) ended) (sym here) (kept_act_here plan b ended j one left can (subst (IsKept plan b ended) here kept))
  | inr other ↦ kept_act_else plan b ended i j left can other kept
]

-- ---- Quit: the part so far is whole

-- of a session whose commands are all done
part_so_far-all : (plan : LabPlan) (i j : ℕ) (x : Stage) → length (commands plan j x.session) ≤ x.position
    → part_so_far plan i j x ≡ part_of plan i (j, x.session)
part_so_far-all plan i j x all_done =
    let all : List (ℕ × Verb) = commands plan j x.session in
    ap (λ done. lines_of j x.session (length (commands_on i all)) (commands_on i done)) (take_all x.position all all_done)

kept_quit : (plan : LabPlan) (b : Books) (ended : List (ℕ × ℕ)) (i j : ℕ) → HasOneHolder plan b → Can plan b (Quit j) →
    IsKept plan b ended i → IsKept plan (booked plan b (Quit j)) (ended ++ (j, (b.stages j).session) ∷ []) i
kept_quit plan b ended i j one can kept =
    let c : Books = booked plan b (Quit j) in
    let own : ℕ × ℕ = (j, (b.stages j).session) in
    let x : Stage = record (b.stages j) { drinking = Tranquil; position = 0 } in
    elim (cases_Bool (session_names plan j (b.stages j).session i)) [
      | inl named ↦
          let was : holds plan b j i ≡ true = and_from _ _ (ap is_drinking can.1) named in
          elim kept [
            | inl a ↦
                let here : a.0 ≡ j = one a.0 j i a.1 was in
                let nobody : (k : ℕ) → holds plan c k i ≡ false = λ k.
                put-cases (λ n y. holds_at plan n y i ≡ false) b.stages j x k (λ same. refl)
                (λ other. elim (cases_Bool (holds plan b k i)) [ inl h ↦ absurd (other (one k j i h was)) | inr h ↦ h ]) in
                inr (
                  nobody,
                  a.2 ∙ ap (λ k. parts_of plan i ended ++ part_so_far plan i k (b.stages k)) here
                      ∙ ap (λ lines. parts_of plan i ended ++ lines) (part_so_far-all plan i j (b.stages j) can.2)
                      ∙ sym (parts_of-push plan i ended own),
                )
            | inr a ↦ absurd (true≢false (sym was ∙ a.0 j))
          ]
      | inr nameless ↦
          let same : parts_of plan i ended ≡ parts_of plan i (ended ++ own ∷ []) =
          sym (parts_of-push plan i ended own ∙ ap (λ lines. parts_of plan i ended ++ lines) (part_of-none plan i own nameless)
          ∙ append-nil (parts_of plan i ended)) in
          IsKept-parts plan c ended (ended ++ own ∷ []) i same (IsKept-idle plan b ended i j x (and_right _ _ nameless) refl kept)
    ]

-- ---- all events

-- events other than Quit
abbrev IsNotQuit : Event → Type 0
IsNotQuit (Quit j) = ⊥
IsNotQuit _ = Unit {0}

-- a reaching job has a command left
abbrev pub HasLeft : LabPlan → Books → Type 0
HasLeft plan b = (j : ℕ) → j < length plan.jobs → (b.stages j).drinking ≡ Reaching → (b.stages j).position < length (commands plan j (b.stages j).session)

kept_calm : (plan : LabPlan) (b : Books) (ended : List (ℕ × ℕ)) (i : ℕ) (event : Event)
    → HasOneHolder plan b → HasOneHolder plan (booked plan b event) → IsFresh b → HasLeft plan b →
    Can plan b event → IsNotQuit event → IsKept plan b ended i → IsKept plan (booked plan b event) ended i
kept_calm plan b ended i (Thirst j) one next fresh left can calm kept =
    IsKept-idle plan b ended i j _ (not_drinking plan j i (b.stages j) Tranquil can.1 refl) refl kept
kept_calm plan b ended i (Drink j) one next fresh left can calm kept = kept_drink plan b ended i j next fresh can kept
kept_calm plan b ended i (Reach j) one next fresh left can calm kept =
    IsKept-move plan b ended i j _ (ap (λ d. is_drinking d && session_names plan j (b.stages j).session i) (sym can.1)) (λ h. refl) kept
kept_calm plan b ended i (Act j) one next fresh left can calm kept = kept_act plan b ended i j one (left j can.0 can.1) can kept
kept_calm plan b ended i (Quit j) one next fresh left can calm kept = absurd calm
kept_calm plan b ended i (Retire j) one next fresh left can calm kept =
    IsKept-idle plan b ended i j _ (not_drinking plan j i (b.stages j) Tranquil can.1 refl) refl kept
kept_calm plan b ended i (Withdraw j) one next fresh left can calm kept =
    IsKept-idle plan b ended i j _ (not_drinking plan j i (b.stages j) Thirsty can.1 refl) refl kept
kept_calm plan b ended i _ one next fresh left can calm kept = kept

pub IsKept-after : (plan : LabPlan) (b : Books) (ended : List (ℕ × ℕ)) (i : ℕ) (event : Event)
    → HasOneHolder plan b → HasOneHolder plan (booked plan b event) → IsFresh b → HasLeft plan b →
    Can plan b event → IsKept plan b ended i → IsKept plan (booked plan b event) (ended ++ ended_on b event) i
IsKept-after plan b ended i (Quit j) one next fresh left can kept = kept_quit plan b ended i j one can kept
IsKept-after plan b ended i event one next fresh left can kept =
    IsKept-parts plan (booked plan b event) ended (ended ++ []) i (ap (parts_of plan i) (sym (append-nil ended)))
    (kept_calm plan b ended i event one next fresh left can tt kept)
