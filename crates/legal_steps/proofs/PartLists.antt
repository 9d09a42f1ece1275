-- Parts as lists: a part grows by one line for each command on its instrument.
use Rattle.std.proofs.Common.{◌≡◌, ℕ, zero, suc, ◌+◌, ◌<◌, ◌==◌, true, false, cond, ◌||◌, length, List, [], ◌∷◌, ◌++◌, map, take, drop, slice_index_or, sym, ap, ◌∙◌, inl, inr, refl, arith, append_assoc}
use Rattle.std.specs.List.{enumerate_from, list_any}
use Rattle.std.proofs.lemmas.Bool.{cases_Bool, eq-eqb, or_right}
use Rattle.std.proofs.lemmas.List.{append-nil, map-append, length-map, take-append-drop, take_more}
use Rattle.std.proofs.lemmas.List.Elements.{filter-append}
use Rattle.std.proofs.lemmas.List.Concat.{flat_map-append}
use Rattle.std.proofs.lemmas.List.Sums.{length-filter}
use Rattle.std.proofs.lemmas.List.FromFn.{length-enumerate_from}
use Rattle.lab_plan.specs.declared.verb.Verb.{Verb}
use Rattle.lab_plan.specs.LabPlan.{LabPlan, commands, count_on, session_names}
use Rattle.legal_steps.specs.WholeLogs.{LogLine, commands_on, lines_of, part_of, parts_of}

-- the line of the command with this place in a part
abbrev pub line_at : ℕ → ℕ → ℕ → ℕ → ℕ × Verb → LogLine
line_at j session total place command = (j, session, place, total, command.1)

enumerate_from-push : {X : Type 0} (n : ℕ) (xs : List X) (x : X) → enumerate_from n (xs ++ x ∷ []) ≡ enumerate_from n xs ++ (n + length xs, x) ∷ []
enumerate_from-push n [] x = ap (λ k. (k, x) ∷ []) (omega arith)
enumerate_from-push n (y ∷ ys) x =
    ap (λ all. (n, y) ∷ all) (enumerate_from-push (n + 1) ys x ∙ ap (λ k. enumerate_from (n + 1) ys ++ (k, x) ∷ []) (omega arith))

pub lines_of-push : (j session total : ℕ) (own : List (ℕ × Verb)) (command : ℕ × Verb) →
    lines_of j session total (own ++ command ∷ []) ≡ lines_of j session total own ++ line_at j session total (length own + 1) command ∷ []
lines_of-push j session total own command =
    let f : ℕ × (ℕ × Verb) → LogLine = λ numbered. (j, session, numbered.0, total, numbered.1.1) in
    ap (map f) (enumerate_from-push 1 own command)
    ∙ map-append f (enumerate_from 1 own) ((1 + length own, command) ∷ [])
    ∙ ap (λ k. map f (enumerate_from 1 own) ++ line_at j session total k command ∷ []) (omega arith)

pub length-lines_of : (j session total : ℕ) (own : List (ℕ × Verb)) → length (lines_of j session total own) ≡ length own
length-lines_of j session total own = length-map (enumerate_from 1 own) _ ∙ length-enumerate_from 1 own

-- the lines of a beginning are the beginning of the lines
pub lines_of-append : (j session total : ℕ) (own more : List (ℕ × Verb))
    → (rest : List LogLine) × (lines_of j session total (own ++ more) ≡ lines_of j session total own ++ rest)
lines_of-append j session total own [] = ([], ap (lines_of j session total) (append-nil own) ∙ sym (append-nil (lines_of j session total own)))
lines_of-append j session total own (command ∷ more) =
    let all = lines_of-append j session total (own ++ command ∷ []) more in
    let line : LogLine = line_at j session total (length own + 1) command in (
      line ∷ all.0,
      ap (lines_of j session total) (sym (append_assoc own (command ∷ []) more)) ∙ all.1
          ∙ ap (λ lines. lines ++ all.0) (lines_of-push j session total own command)
          ∙ append_assoc (lines_of j session total own) (line ∷ []) all.0,
    )

-- ---- the commands on an instrument

pub length-commands_on : (i : ℕ) (all : List (ℕ × Verb)) → length (commands_on i all) ≡ count_on i all
length-commands_on i all = length-filter (λ command. command.0 == i) all

-- one more command
pub commands_on-more : (i : ℕ) (all : List (ℕ × Verb)) (k : ℕ) (d : ℕ × Verb) → k < length all →
    commands_on i (take (k + 1) all) ≡ commands_on i (take k all) ++ cond ((slice_index_or all k d).0 == i) (slice_index_or all k d ∷ []) []
commands_on-more i all k d inside =
    ap (commands_on i) (take_more all k d inside) ∙ filter-append (λ command. command.0 == i) (take k all) (slice_index_or all k d ∷ [])

-- a session that doesn't name the instrument has no commands on it
pub commands_on-none : (i : ℕ) (all : List (ℕ × Verb)) → list_any (λ command. command.0 == i) all ≡ false → commands_on i all ≡ []
commands_on-none i [] none = refl
commands_on-none i (command ∷ all) none = elim (cases_Bool (command.0 == i)) [
  | inl here ↦ absurd (let both : true ≡ false = sym (ap (λ b. b || list_any (λ other. other.0 == i) all) here) ∙ none in cc)
  | inr other ↦
      ap (λ b. cond b (command ∷ commands_on i all) (commands_on i all)) other
      ∙ commands_on-none i all (sym (ap (λ b. b || list_any (λ (later : ℕ × Verb). later.0 == i) all) other) ∙ none)
]

-- a session names the instrument of each of its commands
pub names-next : (all : List (ℕ × Verb)) (k : ℕ) (d : ℕ × Verb) → k < length all → list_any (λ command. command.0 == (slice_index_or all k d).0) all ≡ true
names-next [] k d inside = absurd (omega (arith, inside))
names-next (command ∷ all) zero d inside = ap (λ b. b || list_any (λ other. other.0 == command.0) all) (eq-eqb command.0 command.0 refl)
names-next (command ∷ all) (suc k) d inside = or_right _ _ (names-next all k d (omega (arith, inside)))

-- the commands on an instrument, by what is done and what is left
pub commands_on-split : (i k : ℕ) (all : List (ℕ × Verb)) → commands_on i all ≡ commands_on i (take k all) ++ commands_on i (drop k all)
commands_on-split i k all = ap (commands_on i) (sym (take-append-drop k all)) ∙ filter-append (λ command. command.0 == i) (take k all) (drop k all)

-- ---- parts one after another

pub parts_of-push : (plan : LabPlan) (i : ℕ) (owners : List (ℕ × ℕ)) (own : ℕ × ℕ)
    → parts_of plan i (owners ++ own ∷ []) ≡ parts_of plan i owners ++ part_of plan i own
parts_of-push plan i owners own =
    flat_map-append (part_of plan i) owners (own ∷ []) ∙ ap (λ lines. parts_of plan i owners ++ lines) (append-nil (part_of plan i own))

-- a session that doesn't name the instrument has no part on it
pub part_of-none : (plan : LabPlan) (i : ℕ) (own : ℕ × ℕ) → session_names plan own.0 own.1 i ≡ false → part_of plan i own ≡ []
part_of-none plan i own none =
    let all : List (ℕ × Verb) = commands plan own.0 own.1 in
    ap (λ there. lines_of own.0 own.1 (length there) there) (commands_on-none i all none)
