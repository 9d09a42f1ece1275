-- A lab that is resumed from a journal has the sessions that came.
use Rattle.std.proofs.Common.{◌≡◌, ℕ, ◌+◌, ◌≤◌, Bool, true, false, if◌then◌else◌, List, [], ◌∷◌, ◌++◌, length, take, refl, sym, ap, ◌∙◌, subst, inl, inr, arith, append_assoc}
use Rattle.std.specs.Prelude.{codes, Ok}
use Rattle.std.specs.List.{flat_map}
use Rattle.std.proofs.lemmas.List.{take_at}
use Rattle.lab_plan.specs.LabPlan.{LabPlan, SessionPlan, sessions, session_at}
use Rattle.lab_plan.specs.IsPlan.{IsPlan}
use Rattle.lab_plan.specs.Longer.{with_one_more}
use Rattle.lab_plan.specs.Texts.{job_name}
use Rattle.lab_plan.specs.Upgrade.{session_line}
use Rattle.lab_plan.proofs.OneMore.{granted, plan_more}
use Rattle.legal_steps.specs.Opening.{the_opening}
use Rattle.round_trace.specs.StepsOf.{StepsGiveEvents}
use Rattle.script_reader.specs.Script.{ScriptMeans}
use Rattle.script_reader.specs.Laws.{HasOneList, HasListOrFault}
use Rattle.written_steps.specs.StepLists.{script_head}
use Rattle.written_steps.proofs.NamesBack.{job_back}
use Rattle.journal_texts.specs.Lines.{AreWholeLines}
use Rattle.journal_texts.specs.Texts.{sum_line, piece_text}
use Rattle.journal_texts.specs.More.{more_command, more_lines, begun, broken}
use Rattle.journal_texts.specs.Parts.{Mark, Part, Took, Came, Broke, Said, Noted, plan_after, events_in, said, mark_line, marks_text, came_text, parts_text, AreTaken}
use Rattle.journal_texts.proofs.PieceLines.{piece_lines}
use Rattle.journal_texts.proofs.MoreLines.{more_part, broke_part, body, broken_closed, addition_at, note_part}
use Rattle.journal_texts.proofs.Parts.{added_in, ReadsParts, parts_read}
use Rattle.journal_texts.proofs.Cuts.{taken_of, first_fewer, history_legal, cuts_are_parts, text_both, first_behind, cut_behind}
use Rattle.journal_texts.specs.Reading.{HasParts}
use Rattle.journal_texts.proofs.SessionBack.{closed_all, session_back}
use Rattle.lab_journal.specs.Meaning.{with_read, with_its, and_then, with_addition, with_additions}
use Rattle.lab_journal.specs.Laws.{IsReadAs, SessionsComeBack, ComesBackCut, CutsComeBack, CutsBehindComeBack}
use Rattle.lab_journal.proofs.OnlyMemory.{only_memory}
use Rattle.lab_journal.proofs.ComesBack.{Fed, Keeps, fed_behind, fed_kept, fed_piece, fed_head, whole_lines, comes_as, stands_by}

-- ---- all of them are added

all_added : (plan p : LabPlan) (n : ℕ) (parts : List Part) → IsPlan p → AreTaken p parts → with_additions p (added_in plan n p parts) ≡ Ok (plan_after p parts)
all_added plan p n [] is taken = refl
all_added plan p n (Took piece ∷ parts) is taken = all_added plan p (n + length (piece_lines plan piece)) parts is taken
all_added plan p n (Broke j session many ∷ parts) is taken = all_added plan p (n + length (broke_part p j session many)) parts is taken.2
all_added plan p n (Said words ∷ parts) is taken = all_added plan p (n + 1) parts is taken.1
all_added plan p n (Noted marks ended ∷ parts) is taken = all_added plan p (n + length (note_part marks ended)) parts is taken.1
all_added plan p n (Came j session ended ∷ parts) is taken =
    let q = with_one_more p j session in
    let a = addition_at n p j session in
    let may = granted p j session taken.1 in
    let one : with_addition p a ≡ Ok q = ap (with_its p a) (job_back p j is taken.0) ∙ ap (with_read p a.line j) (session_back p j session is may) in
    let next = n + length (more_part p j session ended) in
    ap (and_then (λ (longer : LabPlan). with_additions longer (added_in plan next q parts))) one
    ∙ all_added plan q next parts (plan_more p j session taken.0 may is) taken.2

-- ---- the file ends with a line feed

fed_lines : (plan : LabPlan) (j : ℕ) (session : SessionPlan) → Fed (more_lines plan j session)
fed_lines plan j session =
    fed_behind (codes "#more " ++ job_name plan j ++ codes "\n#+" ++ session_line session.patience ++ flat_map (more_command plan) session.commands) (codes "#+end\n")
    (codes "#+end", refl)

keeps_sum : (lines : List ℕ) (ended : Bool) → Keeps (if ended then sum_line lines ++ codes "\n" else [])
keeps_sum lines true = inr (sum_line lines, refl)
keeps_sum lines false = inl refl

fed_begun : (lines : List ℕ) (ended : Bool) → Fed lines → Fed (begun lines ended)
fed_begun lines ended fed = fed_kept (codes "#steps\n" ++ lines) (if ended then sum_line lines ++ codes "\n" else []) (fed_behind (codes "#steps\n") lines fed) (keeps_sum lines ended)

fed_closed : (line : List ℕ) (lines : List (List ℕ)) → Fed (closed_all (line ∷ lines))
fed_closed line [] = (line, refl)
fed_closed line (next ∷ lines) =
    let more = fed_closed next lines in
    fed_behind line (10 ∷ closed_all (next ∷ lines)) (10 ∷ more.0, ap (λ z. 10 ∷ z) more.1)

fed_broken : (plan : LabPlan) (j : ℕ) (session : SessionPlan) (many : ℕ) → Fed (broken plan j session many)
fed_broken plan j session many = subst Fed (sym (broken_closed plan j session many)) (fed_closed (codes "#steps") (take many (body plan j session)))

keeps_marks : (marks : List Mark) → Keeps (marks_text marks)
keeps_marks [] = inl refl
keeps_marks (m ∷ marks) = inr (fed_kept (mark_line m ++ codes "\n") (marks_text marks) (mark_line m, refl) (keeps_marks marks))

keeps_parts : (plan : LabPlan) (parts : List Part) → Keeps (parts_text plan parts)
keeps_parts plan [] = inl refl
keeps_parts plan (Took piece ∷ parts) = inr (fed_kept (piece_text plan piece) (parts_text plan parts) (fed_piece plan piece) (keeps_parts plan parts))
keeps_parts plan (Came j session ended ∷ parts) =
    let q = with_one_more plan j session in
    let n = length (sessions plan j) + 1 in
    inr (fed_kept (came_text q j n ended) (parts_text q parts) (fed_begun (more_lines q j (session_at q j n)) ended (fed_lines q j (session_at q j n))) (keeps_parts q parts))
keeps_parts plan (Broke j session many ∷ parts) =
    inr (fed_kept (broken plan j session many) (parts_text plan parts) (fed_broken plan j session many) (keeps_parts plan parts))
keeps_parts plan (Said words ∷ parts) = inr (fed_kept (said words ++ codes "\n") (parts_text plan parts) (said words, refl) (keeps_parts plan parts))
keeps_parts plan (Noted marks ended ∷ parts) =
    inr (fed_kept (begun (marks_text marks) ended) (parts_text plan parts)
    (fed_kept (codes "#steps\n" ++ marks_text marks) (if ended then sum_line (marks_text marks) ++ codes "\n" else [])
    (fed_kept (codes "#steps\n") (marks_text marks) (codes "#steps", refl) (keeps_marks marks)) (keeps_sum (marks_text marks) ended)) (keeps_parts plan parts))

fed_parts : (plan : LabPlan) (script : List ℕ) (parts : List Part) → Fed (script_head script ++ parts_text plan parts)
fed_parts plan script parts = fed_kept (script_head script) (parts_text plan parts) (fed_head script) (keeps_parts plan parts)

-- ---- the laws

-- the file is read
read_as : (plan : LabPlan) (script : List ℕ) (parts : List Part) → IsPlan plan → AreTaken plan parts → ReadsParts plan (script_head script ++ parts_text plan parts) parts
    → IsReadAs (plan_after plan parts) (script_head script ++ parts_text plan parts) (events_in parts)
read_as plan script parts is taken read = record {
  steps = read.steps;
  means = record { script = plan; means = read.means; came = ap (with_additions plan) read.additions_are ∙ all_added plan plan read.first parts is taken };
  events_are = read.events_are;
  sums = read.sums;
}

pub sessions_come_back : StepsGiveEvents → HasOneList → SessionsComeBack
sessions_come_back give one plan script parts s counts is means taken by few =
    let longer = plan_after plan parts in
    let file = script_head script ++ parts_text plan parts in
    let read = read_as plan script parts is taken (parts_read give plan script parts is means taken by.run.legal few) in
    (read, λ none. stands_by one read.means.script longer file read.steps (events_in parts) s counts (fed_parts plan script parts) read.means.means read.means.came read.events_are by none)

comes_back_with : StepsGiveEvents → HasOneList → HasListOrFault → (plan : LabPlan) (script : List ℕ) (parts : List Part) (front : List ℕ) → IsPlan plan
    → ScriptMeans script plan → length (events_in parts) ≤ 1000000 → HasParts plan parts front → ComesBackCut plan script parts front
comes_back_with give one either plan script parts front is means few c =
    let head = script_head script in
    let longer = plan_after plan c.first in
    let whole = head ++ parts_text plan c.first in
    let taken = taken_of plan (the_opening plan) c.first c.history in
    let fewer = first_fewer c.first parts c.are_first in
    let read = read_as plan script c.first is taken
    (parts_read give plan script c.first is means taken (history_legal plan c.first c.history) (omega (arith, few, fewer))) in
    let cut : head ++ front ≡ whole ++ c.rest = ap (λ (l : List ℕ). head ++ l) c.text ∙ sym (append_assoc head (parts_text plan c.first) c.rest) in
    let lines : AreWholeLines (head ++ front) (length whole) =
    subst (λ (l : List ℕ). AreWholeLines l (length whole)) (sym cut) (whole_lines whole c.rest (fed_parts plan script c.first) c.no_line) in
    let here : take (length whole) (head ++ front) ≡ whole = ap (λ (l : List ℕ). take (length whole) l) cut ∙ take_at whole c.rest (length whole) refl in record {
      first = c.first;
      are_first = c.are_first;
      history = c.history;
      rest = c.rest;
      text_is = c.text;
      lines = lines;
      read = read;
      resumed = comes_as one read.means.script longer (head ++ front) whole read.steps (events_in c.first) lines here read.means.means read.means.came read.events_are;
      refused = only_memory one either longer (head ++ front) whole (events_in c.first) lines here read (history_legal plan c.first c.history);
    }

pub cuts_come_back : StepsGiveEvents → HasOneList → HasListOrFault → CutsComeBack
cuts_come_back give one either plan script parts front back is means history few same =
    comes_back_with give one either plan script parts front is means few (cuts_are_parts plan parts front back is history same)

pub cuts_behind : StepsGiveEvents → HasOneList → HasListOrFault → CutsBehindComeBack
unfolding comes_back_with
cuts_behind give one either plan script safe later tail back is means history few same =
    let b = cut_behind plan safe later tail back is history same in
    let c : HasParts plan (safe ++ later) (parts_text plan safe ++ tail) = record {
      first = safe ++ b.left;
      are_first = first_behind safe b.left later b.are_first;
      history = b.history;
      rest = b.rest;
      text = ap (λ (l : List ℕ). parts_text plan safe ++ l) b.text
          ∙ (sym (append_assoc (parts_text plan safe) (parts_text (plan_after plan safe) b.left) b.rest)
          ∙ ap (λ (l : List ℕ). l ++ b.rest) (sym (text_both plan safe b.left)));
      no_line = b.no_line;
    } in record {
      left = b.left;
      are_first = b.are_first;
      cut = comes_back_with give one either plan script (safe ++ later) (parts_text plan safe ++ tail) is means few c;
      is = refl;
    }
