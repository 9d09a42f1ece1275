-- From what is so of the books to whole logs.
use Rattle.std.proofs.Common.{◌≡◌, ℕ, ◌<◌, ◌≤◌, ◌==◌, Bool, true, cond, ◌||◌, true≢false, length, List, [], ◌∷◌, ◌++◌, map, filter, take, drop, sym, ap, ◌∙◌, inl, inr, refl, arith, All}
use Rattle.std.specs.List.{list_any}
use Rattle.std.proofs.lemmas.Bool.{cases_eq, cases_Bool, cases_lt, and_parts}
use Rattle.std.proofs.lemmas.List.{append-nil, take_at, nil_from_length, length-append}
use Rattle.std.proofs.lemmas.List.Elements.{All-weaker, All-push, All-filter, filter_passes}
use Rattle.std.proofs.lemmas.List.Quantifiers.{all_pairs_push}
use Rattle.std.proofs.lemmas.List.Kept.{AllPairs-filter}
use Rattle.lab_plan.specs.declared.verb.Verb.{Verb}
use Rattle.lab_plan.specs.LabPlan.{LabPlan, commands, session_names}
use Rattle.instrument_log.specs.declared.entry.Entry.{Entry}
use Rattle.legal_steps.specs.declared.phase.Drinking.{Drinking}
use Rattle.legal_steps.specs.declared.phase.Drinking.TheVariants.{Tranquil, Thirsty, Drinking as Drinks, Reaching, Retired}
use Rattle.legal_steps.specs.WholeLogs.{LogLine, line_of, commands_on, lines_of, part_of, parts_of, IsSessionOf, IsBefore, IsAscending, IsBegun, IsWholeButEnd, BeginsWithParts}
use Rattle.legal_steps.proofs.LogBooks.{Stage, Books, is_in_session, is_drinking, holds}
use Rattle.legal_steps.proofs.LogEnded.{IsPast, past_before, HasEnded}
use Rattle.legal_steps.proofs.LogKept.{IsKept, part_so_far}
use Rattle.legal_steps.proofs.PartLists.{length-lines_of, lines_of-append, commands_on-split, parts_of-push, part_of-none}

-- the session names the instrument
abbrev names_here : LabPlan → ℕ → ℕ × ℕ → Bool
names_here plan i own = session_names plan own.0 own.1 i

-- the sessions that name the instrument
abbrev naming : LabPlan → ℕ → List (ℕ × ℕ) → List (ℕ × ℕ)
naming plan i owners = filter (names_here plan i) owners

-- the others have no part there
naming-parts : (plan : LabPlan) (i : ℕ) (owners : List (ℕ × ℕ)) → parts_of plan i owners ≡ parts_of plan i (naming plan i owners)
naming-parts plan i [] = refl
naming-parts plan i (own ∷ owners) =
    let f : Bool → List LogLine = λ b. parts_of plan i (cond b (own ∷ naming plan i owners) (naming plan i owners)) in
    elim (cases_Bool (names_here plan i own)) [
      | inl here ↦ ap (λ lines. part_of plan i own ++ lines) (naming-parts plan i owners) ∙ ap f (sym here)
      | inr none ↦ ap (λ lines. lines ++ parts_of plan i owners) (part_of-none plan i own none) ∙ naming-parts plan i owners ∙ ap f (sym none)
    ]

-- a command on the instrument
some_on : (i : ℕ) (all : List (ℕ × Verb)) → list_any (λ command. command.0 == i) all ≡ true → 0 < length (commands_on i all)
some_on i [] named = absurd (true≢false (sym named))
some_on i (command ∷ all) named =
    let f : Bool → List (ℕ × Verb) = λ b. cond b (command ∷ commands_on i all) (commands_on i all) in
    elim (cases_Bool (command.0 == i)) [
      | inl here ↦ omega (arith, ap (λ b. length (f b)) here)
      | inr other ↦
          let later : list_any (λ (c : ℕ × Verb). c.0 == i) all ≡ true = sym (ap (λ b. b || list_any (λ (c : ℕ × Verb). c.0 == i) all) other) ∙ named in
          omega (arith, ap (λ b. length (f b)) other, some_on i all later)
    ]

part_there : (plan : LabPlan) (i : ℕ) (own : ℕ × ℕ) → names_here plan i own ≡ true → 0 < length (part_of plan i own)
part_there plan i own named =
    let there : List (ℕ × Verb) = commands_on i (commands plan own.0 own.1) in
    omega (arith, length-lines_of own.0 own.1 (length there) there, some_on i (commands plan own.0 own.1) named)

-- ---- the part so far is a beginning of the part

-- the commands that are done and those that are left
abbrev done_on : LabPlan → ℕ → ℕ → Stage → List (ℕ × Verb)
done_on plan i j x = commands_on i (take x.position (commands plan j x.session))

abbrev left_on : LabPlan → ℕ → ℕ → Stage → List (ℕ × Verb)
left_on plan i j x = commands_on i (drop x.position (commands plan j x.session))

part_split : (plan : LabPlan) (i j : ℕ) (x : Stage) → (rest : List LogLine) × (part_of plan i (j, x.session) ≡ part_so_far plan i j x ++ rest)
part_split plan i j x =
    let all : List (ℕ × Verb) = commands plan j x.session in
    let total : ℕ = length (commands_on i all) in
    let split = lines_of-append j x.session total (done_on plan i j x) (left_on plan i j x) in
    (split.0, ap (lines_of j x.session total) (commands_on-split i x.position all) ∙ split.1)

part_begun : (plan : LabPlan) (i j : ℕ) (x : Stage) → 0 < length (done_on plan i j x)
    → length (done_on plan i j x) < length (commands_on i (commands plan j x.session)) →
    IsBegun (part_so_far plan i j x) (part_of plan i (j, x.session))
part_begun plan i j x some more =
    let all : List (ℕ × Verb) = commands plan j x.session in
    let total : ℕ = length (commands_on i all) in
    let so_far : List LogLine = part_so_far plan i j x in
    let split = part_split plan i j x in
    let short = length-lines_of j x.session total (done_on plan i j x) in
    record {
      not_empty = omega (arith, some, short);
      proper = omega (arith, more, short, length-lines_of j x.session total (commands_on i all));
      beginning = sym (ap (take (length so_far)) split.1 ∙ take_at so_far split.0 (length so_far) refl);
    }

part_whole : (plan : LabPlan) (i j : ℕ) (x : Stage) → length (commands_on i (commands plan j x.session)) ≤ length (done_on plan i j x)
    → part_so_far plan i j x ≡ part_of plan i (j, x.session)
part_whole plan i j x all_done =
    let all : List (ℕ × Verb) = commands plan j x.session in
    let split = commands_on-split i x.position all in
    let none : left_on plan i j x ≡ [] =
    nil_from_length (left_on plan i j x) (omega (arith, all_done, ap length split, length-append (done_on plan i j x) (left_on plan i j x))) in
    ap (lines_of j x.session (length (commands_on i all)))
    (sym (split ∙ ap (λ rest. done_on plan i j x ++ rest) none ∙ append-nil (done_on plan i j x)))

-- ---- whole logs

pub drinking_inside : (d : Drinking) → is_drinking d ≡ true → is_in_session d ≡ true
drinking_inside Tranquil h = h
drinking_inside Thirsty h = refl
drinking_inside Drinks h = refl
drinking_inside Reaching h = refl
drinking_inside Retired h = h

-- no part is unfinished
whole_ends : (plan : LabPlan) (i : ℕ) (entries : List Entry) (owners : List (ℕ × ℕ)) → map line_of entries ≡ parts_of plan i owners
    → All (IsSessionOf plan) owners → All (λ own. names_here plan i own ≡ true) owners → IsAscending owners → IsWholeButEnd plan i entries
whole_ends plan i entries owners joined of_plan named ascending = record {
  finished = owners;
  unfinished = [];
  joined = joined ∙ sym (append-nil (parts_of plan i owners));
  of_plan = of_plan;
  not_empty = All-weaker (λ own. names_here plan i own ≡ true) (λ own. 0 < length (part_of plan i own)) (part_there plan i) owners named;
  ascending = ascending;
  end = inl refl;
}

whole_held : (plan : LabPlan) (b : Books) (owners : List (ℕ × ℕ)) (i j : ℕ) → IsSessionOf plan (j, (b.stages j).session) → holds plan b j i ≡ true →
    map line_of (b.logs i) ≡ parts_of plan i owners ++ part_so_far plan i j (b.stages j) →
    All (IsSessionOf plan) owners → All (λ own. names_here plan i own ≡ true) owners
    → IsAscending owners → All (IsPast b) owners → IsWholeButEnd plan i (b.logs i)
whole_held plan b owners i j in_plan holder joined of_plan named ascending past =
    let x : Stage = b.stages j in
    let own : ℕ × ℕ = (j, x.session) in
    let done : List (ℕ × Verb) = done_on plan i j x in
    let total : ℕ = length (commands_on i (commands plan j x.session)) in
    let parts = and_parts _ _ holder in
    let earlier : All (λ other. IsBefore other own) owners =
    All-weaker (IsPast b) (λ other. IsBefore other own) (past_before b j (drinking_inside x.drinking parts.0)) owners past in
    elim (cases_lt (length done) total) [
      | inl more ↦ elim (cases_eq (length done) 0) [
        | inl none ↦
            let empty : part_so_far plan i j x ≡ [] = nil_from_length (part_so_far plan i j x) (length-lines_of j x.session total done ∙ none) in
            whole_ends plan i (b.logs i) owners
            (joined ∙ ap (λ lines. parts_of plan i owners ++ lines) empty ∙ append-nil (parts_of plan i owners)) of_plan named ascending
        | inr some ↦ record {
          finished = owners;
          unfinished = part_so_far plan i j x;
          joined = joined;
          of_plan = of_plan;
          not_empty = All-weaker (λ other. names_here plan i other ≡ true) (λ other. 0 < length (part_of plan i other)) (part_there plan i) owners named;
          ascending = ascending;
          end = inr (own, in_plan, part_begun plan i j x (omega (arith, some)) more, earlier);
        }
      ]
      | inr all_done ↦
          whole_ends plan i (b.logs i) (owners ++ own ∷ [])
          (joined ∙ ap (λ lines. parts_of plan i owners ++ lines) (part_whole plan i j x all_done) ∙ sym (parts_of-push plan i owners own))
          (All-push (IsSessionOf plan) owners own of_plan in_plan)
          (All-push (λ other. names_here plan i other ≡ true) owners own named parts.1)
          (all_pairs_push IsBefore owners own ascending earlier)
    ]

-- a job that holds an instrument is in a session of the plan
abbrev pub IsHeldByJobs : LabPlan → Books → Type 0
IsHeldByJobs plan b = (j i : ℕ) → holds plan b j i ≡ true → IsSessionOf plan (j, (b.stages j).session)

pub whole_from : (plan : LabPlan) (b : Books) (ended : List (ℕ × ℕ)) (i : ℕ) → IsHeldByJobs plan b
    → HasEnded plan b ended → IsKept plan b ended i → IsWholeButEnd plan i (b.logs i)
whole_from plan b ended i jobs so kept =
    let owners : List (ℕ × ℕ) = naming plan i ended in
    let of_plan : All (IsSessionOf plan) owners = All-filter (names_here plan i) (IsSessionOf plan) ended so.of_plan in
    let named : All (λ own. names_here plan i own ≡ true) owners = filter_passes (names_here plan i) ended in
    let ascending : IsAscending owners = AllPairs-filter IsBefore (names_here plan i) ended so.ascending in
    let past : All (IsPast b) owners = All-filter (names_here plan i) (IsPast b) ended so.past in
    elim kept [
      | inl a ↦ whole_held plan b owners i a.0 (jobs a.0 i a.1) a.1
          (a.2 ∙ ap (λ lines. lines ++ part_so_far plan i a.0 (b.stages a.0)) (naming-parts plan i ended)) of_plan named ascending past
      | inr a ↦ whole_ends plan i (b.logs i) owners (a.1 ∙ naming-parts plan i ended) of_plan named ascending
    ]

-- the parts of the sessions that ended stand in the log
pub begins_with_parts : (plan : LabPlan) (b : Books) (ended : List (ℕ × ℕ)) (i : ℕ) → IsKept plan b ended i → BeginsWithParts plan i ended (b.logs i)
begins_with_parts plan b ended i kept = elim kept [
  | inl a ↦ (part_so_far plan i a.0 (b.stages a.0), a.2)
  | inr a ↦ ([], a.1 ∙ sym (append-nil (parts_of plan i ended)))
]
