-- What a reaching job's command finds: its entry follows in the log, there is room, and it is within the limits.
use Rattle.std.proofs.Common.{◌≡◌, ℕ, ◌+◌, ◌<◌, ◌≤◌, ◌==◌, Bool, cond, true≢false, length, List, [], ◌∷◌, ◌++◌, map, take, slice_index_or, sym, ap, subst, ◌∙◌, inl, inr, refl, arith, append_assoc}
use Rattle.std.proofs.lemmas.Bool.{eq-eqb}
use Rattle.std.proofs.lemmas.List.{append-nil, length-append}
use Rattle.std.proofs.lemmas.List.Sums.{count_by-le-length}
use Rattle.lab_plan.specs.declared.verb.Verb.{Verb}
use Rattle.lab_plan.specs.declared.verb.Verb.TheVariants.{Read}
use Rattle.lab_plan.specs.LabPlan.{LabPlan, commands, count_on}
use Rattle.lab_plan.specs.IsPlan.{IsPlan}
use Rattle.instrument_log.specs.Dial.{turned, dial}
use Rattle.instrument_log.specs.Parts.{Follows}
use Rattle.instrument_log.specs.Entries.{IsWithinLimits}
use Rattle.instrument_log.specs.InstrumentLog.{MayAppend}
use Rattle.legal_steps.specs.declared.phase.Drinking.TheVariants.{Reaching}
use Rattle.legal_steps.specs.declared.event.Event.TheVariants.{Act}
use Rattle.legal_steps.specs.State.{State, log, drinking, session, position}
use Rattle.legal_steps.specs.Legal.{IsJob, after, next_command, next_entry}
use Rattle.legal_steps.specs.Reached.{IsReached}
use Rattle.legal_steps.specs.WholeLogs.{LogLine, line_of, commands_on, lines_of, parts_of, room_of, log_with_room, ended_sessions}
use Rattle.legal_steps.proofs.FewCommands.{few_commands}
use Rattle.legal_steps.proofs.LogBooks.{Stage, Books, books, put-same}
use Rattle.legal_steps.proofs.LogMoves.{Can, books_after, next_of, entry_of}
use Rattle.legal_steps.proofs.LogKept.{part_so_far, holds_next}
use Rattle.legal_steps.proofs.LogRun.{IsLogged, logged, logged_after, one_holder, has_left, stages_fit, verb-fits, value-small}
use Rattle.legal_steps.proofs.PartLists.{line_at, lines_of-push, length-commands_on}
use Rattle.legal_steps.proofs.RoomShares.{shares_fit, count_on-more, count_on-take}
use Rattle.legal_steps.proofs.AppendParts.{last_cases, parts_closed, follows_next, follows_first, IsClosed}

-- ---- room

pub room_enough : (plan : LabPlan) (s : State) (ended : List (ℕ × ℕ)) (i : ℕ) → IsLogged plan s ended → length (log s i) ≤ room_of plan i
room_enough plan s ended i h = omega (arith, h.books_kept.roomy i, shares_fit plan i (books s).stages (stages_fit plan s h.fits))

room_to_act : (plan : LabPlan) (s : State) (ended : List (ℕ × ℕ)) (j : ℕ) → IsPlan plan → IsLogged plan s ended
    → Can plan (books s) (Act j) → length (log s (next_command plan s j).0) < room_of plan (next_command plan s j).0
room_to_act plan s ended j is_plan h can =
    let i : ℕ = (next_command plan s j).0 in
    let s' : State = after plan s (Act j) in
    let enough = room_enough plan s' (ended ++ []) i (logged_after plan s ended (Act j) is_plan can h) in
    let same : log s' i ≡ log s i ++ entry_of plan (books s) j ∷ [] =
    ap (λ (b : Books). b.logs i) (books_after plan s (Act j) is_plan.draft.named h.fits can)
    ∙ put-same (λ k. log s k) i (log s i ++ entry_of plan (books s) j ∷ []) in
    omega (arith, enough, ap length same, length-append (log s i) (entry_of plan (books s) j ∷ []))

-- ---- the entry follows

-- of a session's commands on an instrument, more are done after the next one
more_to_do : (all : List (ℕ × Verb)) (k : ℕ) → k < length all
    → count_on (slice_index_or all k (0, Read)).0 (take k all) < count_on (slice_index_or all k (0, Read)).0 all
more_to_do all k inside =
    let i : ℕ = (slice_index_or all k (0, Read)).0 in
    let one : Bool → ℕ = λ b. cond b 1 0 in
    omega (arith, count_on-more i all k inside, ap one (eq-eqb i i refl), count_on-take i (k + 1) all)

follows_so_far : (plan : LabPlan) (b : Books) (ended : List (ℕ × ℕ)) (j : ℕ) → (b.stages j).position < length (commands plan j (b.stages j).session) →
    map line_of (b.logs (next_of plan b j).0) ≡ parts_of plan (next_of plan b j).0 ended ++ part_so_far plan (next_of plan b j).0 j (b.stages j)
    → Follows (b.logs (next_of plan b j).0) (entry_of plan b j)
follows_so_far plan b ended j left joined =
    let x : Stage = b.stages j in
    let i : ℕ = (next_of plan b j).0 in
    let all : List (ℕ × Verb) = commands plan j x.session in
    let done : List (ℕ × Verb) = commands_on i (take x.position all) in
    let total : ℕ = length (commands_on i all) in
    let counted : length done ≡ count_on i (take x.position all) = length-commands_on i (take x.position all) in
    let whole : total ≡ count_on i all = length-commands_on i all in
    elim (last_cases done) [
      | inl none ↦
          let closed : map line_of (b.logs i) ≡ parts_of plan i ended =
          joined ∙ ap (λ own. parts_of plan i ended ++ lines_of j x.session total own) none ∙ append-nil (parts_of plan i ended) in
          follows_first (b.logs i) (entry_of plan b j) (subst IsClosed (sym closed) (parts_closed plan i ended)) (omega (arith, counted, ap length none))
      | inr more ↦
          let front : List LogLine = lines_of j x.session total more.front in
          let line : LogLine = line_at j x.session total (length more.front + 1) more.last in
          let size : length done ≡ length more.front + 1 = ap length more.is ∙ length-append more.front (more.last ∷ []) in
          follows_next (b.logs i) (parts_of plan i ended ++ front) line (entry_of plan b j)
          (joined ∙ ap (λ lines. parts_of plan i ended ++ lines) (ap (lines_of j x.session total) more.is
          ∙ lines_of-push j x.session total more.front more.last)
          ∙ sym (append_assoc (parts_of plan i ended) front (line ∷ [])))
          (omega (arith, size, counted, whole, more_to_do all x.position left))
          refl refl (omega (arith, size, counted)) (sym whole)
    ]

follows_kept : (plan : LabPlan) (s : State) (ended : List (ℕ × ℕ)) (j : ℕ) → IsPlan plan → IsLogged plan s ended
    → Can plan (books s) (Act j) → Follows (log s (next_command plan s j).0) (entry_of plan (books s) j)
follows_kept plan s ended j is_plan h can =
    let b : Books = books s in
    let i : ℕ = (next_of plan b j).0 in
    let left = has_left plan s h.fits j can.0 can.1 in
    let now = holds_next plan b j left can in
    elim (h.books_kept.kept i) [
      | inl a ↦
          let here : a.0 ≡ j = one_holder plan s is_plan h.served a.0 j i a.1 now in
          follows_so_far plan b ended j left (a.2 ∙ ap (λ k. parts_of plan i ended ++ part_so_far plan i k (b.stages k)) here)
      | inr a ↦ absurd (true≢false (sym now ∙ a.0 j))
    ]

-- the entry of the books is that of the state
entry_is : (plan : LabPlan) (s : State) (j : ℕ) → entry_of plan (books s) j ≡ next_entry plan s j
unfolding next_entry
entry_is plan s j = refl

pub act_appends_logged : (plan : LabPlan) (s : State) (ended : List (ℕ × ℕ)) (j : ℕ)
    → IsPlan plan → IsLogged plan s ended → IsJob plan j → drinking s j ≡ Reaching →
    MayAppend (log_with_room plan s (next_command plan s j).0) (next_entry plan s j)
act_appends_logged plan s ended j is_plan h job reaching = record {
  follows = subst (Follows (log s (next_command plan s j).0)) (entry_is plan s j) (follows_kept plan s ended j is_plan h (job, reaching));
  has_room = room_to_act plan s ended j is_plan h (job, reaching);
}

-- its value is what the dial has after the command
pub next_value : (plan : LabPlan) (s : State) (j : ℕ) → (next_entry plan s j).value ≡ turned (next_entry plan s j).verb (dial (log s (next_command plan s j).0))
unfolding next_entry
next_value plan s j = refl

-- ---- limits

pub within_limits_logged : (plan : LabPlan) (s : State) (ended : List (ℕ × ℕ)) (j : ℕ) → IsPlan plan
    → IsLogged plan s ended → IsJob plan j → drinking s j ≡ Reaching → IsWithinLimits (next_entry plan s j)
within_limits_logged plan s ended j is_plan h job reaching =
    let b : Books = books s in
    let i : ℕ = (next_of plan b j).0 in
    let all : List (ℕ × Verb) = commands plan j (session s j) in
    let left : position s j < length all = has_left plan s h.fits j job reaching in
    let fit = (h.fits.seats_fit j job).phase_within in
    let begun : 1 ≤ session s j = fit.begun (inr (inr reaching)) in
    let few = few_commands plan j (session s j) is_plan in
    let short : count_on i all ≤ length all = count_by-le-length (λ (command : ℕ × Verb). command.0 == i) all in
    subst IsWithinLimits (entry_is plan s j) (record {
      job_within = omega (arith, job, is_plan.draft.few_jobs);
      session_from = begun;
      session_to = omega (arith, fit.session_there, is_plan.draft.few_sessions j);
      length_to = omega (arith, short, few);
      place_from = omega arith;
      place_to = omega (arith, more_to_do all (position s j) left);
      verb_fits = verb-fits plan b j is_plan.draft.fit left;
      value_to = value-small plan b j is_plan.draft.fit left h.books_kept.small;
    })

-- ---- reached states

pub logged_reached : (plan : LabPlan) (s : State) → IsReached plan s → (ended : List (ℕ × ℕ)) × IsLogged plan s ended
logged_reached plan s h =
    let ended : List (ℕ × ℕ) = ended_sessions plan h.opening h.events in
    (ended, subst (λ r. IsLogged plan r ended) (sym h.run.leads) (logged plan h.opening h.events h.is_plan h.is_opening h.run.legal))

-- a reaching job's entry follows in the log of its command's instrument, and there is room for it
pub act_appends : (plan : LabPlan) (s : State) (j : ℕ) → IsReached plan s → IsJob plan j → drinking s j ≡ Reaching →
    MayAppend (log_with_room plan s (next_command plan s j).0) (next_entry plan s j)
act_appends plan s j reached job reaching = let h = logged_reached plan s reached in act_appends_logged plan s h.0 j reached.is_plan h.1 job reaching

-- and it is within the limits of a log's entries
pub next_within_limits : (plan : LabPlan) (s : State) (j : ℕ) → IsReached plan s → IsJob plan j → drinking s j ≡ Reaching → IsWithinLimits (next_entry plan s j)
next_within_limits plan s j reached job reaching = let h = logged_reached plan s reached in within_limits_logged plan s h.0 j reached.is_plan h.1 job reaching
