-- A journal of a lab that sessions came to is read as its steps and these sessions.
use Rattle.std.proofs.Common.{◌≡◌, ℕ, ◌+◌, ◌<◌, ◌≤◌, Bool, if◌then◌else◌, List, [], ◌∷◌, ◌++◌, length, map, refl, sym, ap, ◌∙◌, subst, arith, ◌-◌, get_or-set_same}
use Rattle.std.specs.Prelude.{None, codes, slice_index_or}
use Rattle.std.specs.List.{AllByRecursion, flat_map}
use Rattle.std.proofs.lemmas.List.{map-append, length-map, get_or_push}
use Rattle.lab_plan.specs.LabPlan.{LabPlan, SessionPlan, JobPlan, no_job, no_session, job_at, sessions, session_at}
use Rattle.lab_plan.specs.IsPlan.{IsPlan}
use Rattle.lab_plan.specs.Upgrade.{session_line}
use Rattle.lab_plan.specs.Longer.{with_session, with_one_more, more_refusal}
use Rattle.lab_plan.proofs.OneMore.{granted, plan_more}
use Rattle.legal_steps.specs.declared.event.Step.{Step}
use Rattle.legal_steps.specs.declared.event.StepLine.{StepLine}
use Rattle.legal_steps.specs.Opening.{the_opening}
use Rattle.legal_steps.specs.Run.{IsLegalFrom}
use Rattle.legal_steps.specs.Steps.{step_events}
use Rattle.longer_plans.proofs.Once.{taken_is_longer}
use Rattle.longer_plans.proofs.Stays.{session_same}
use Rattle.round_trace.specs.StepsOf.{step_of, StepsGiveEvents}
use Rattle.script_reader.specs.Script.{text_lines, ScriptMeans}
use Rattle.script_reader.specs.Steps.{StepsMean, list_of, placed}
use Rattle.script_reader.proofs.ReaderLoop.{numbered-append}
use Rattle.script_reader.proofs.UpgradeText.{no_text}
use Rattle.script_reader.specs.Steps.{step_in}
use Rattle.explaining.specs.Explanations.{events_from_opening}
use Rattle.written_steps.specs.ReadBack.{IsNameable}
use Rattle.written_steps.specs.StepLists.{script_head, step_line, step_lines, lines_from_here}
use Rattle.written_steps.proofs.ListsBack.{no_steps_line, joined, script_head_is}
use Rattle.journal_texts.specs.Texts.{Piece, sum_line, piece_text, summed}
use Rattle.journal_texts.specs.Sums.{wrong_sum, wrong_from, wrong_behind}
use Rattle.journal_texts.specs.More.{more_command, more_lines, begun, broken}
use Rattle.journal_texts.specs.Additions.{Addition, session_in, additions, additions_from, additions_behind}
use Rattle.journal_texts.specs.Reading.{TextsStay}
use Rattle.journal_texts.specs.Parts.{Part, Took, Came, Broke, Said, Noted, plan_after, events_in, said, marks_text, came_text, parts_text, AreTaken}
use Rattle.journal_texts.proofs.PieceLines.{piece_lines, piece_then, plain_then}
use Rattle.journal_texts.proofs.Read.{all_nameable, piece_list, head_passed, head_has_none, steps_there, piece_no_more, piece_right, split_all, map_both}
use Rattle.journal_texts.proofs.SamePlans.{AreAlike, alike_self, alike_both, alike_more, text_same, all_back}
use Rattle.journal_texts.proofs.MoreLines.{more_part, part_then, all_skipped, none_listed, none_added, part_added, addition_at, more_right}
use Rattle.journal_texts.proofs.MoreLines.{broke_part, broken_then, broken_skipped, broken_added, broken_right, said_skipped, said_none, said_added, said_right}
use Rattle.journal_texts.proofs.MoreLines.{note_part, noted_then, noted_skipped, noted_added, noted_right}

-- ---- the texts of steps are those by the first plan

-- the parts' texts, the steps by the first plan, and the sessions by the plan to which they came
abbrev pub base_text : LabPlan → LabPlan → List Part → List ℕ
base_text plan p [] = []
base_text plan p (Took piece ∷ parts) = piece_text plan piece ++ base_text plan p parts
base_text plan p (Came j session ended ∷ parts) = begun (more_lines p j session) ended ++ base_text plan (with_one_more p j session) parts
base_text plan p (Broke j session many ∷ parts) = broken p j session many ++ base_text plan p parts
base_text plan p (Said words ∷ parts) = (said words ++ codes "\n") ++ base_text plan p parts
base_text plan p (Noted marks ended ∷ parts) = begun (marks_text marks) ended ++ base_text plan p parts

line_same : (plan p : LabPlan) → AreAlike plan p → (x : Step) → step_line p x ≡ step_line plan x
unfolding step_line
line_same plan p alike x = ap (λ l. l ++ codes "\n") (text_same plan p alike x)

lines_same : (plan p : LabPlan) → AreAlike plan p → (l : List Step) → step_lines p l ≡ step_lines plan l
lines_same plan p alike [] = refl
lines_same plan p alike (x ∷ l) = λ i. line_same plan p alike x i ++ lines_same plan p alike l i

piece_same : (plan p : LabPlan) → AreAlike plan p → (piece : Piece) → piece_text p piece ≡ piece_text plan piece
piece_same plan p alike piece =
    let same = lines_same plan p alike (map step_of piece.events) in
    λ i. codes "#steps\n" ++ same i ++ (if piece.ended then sum_line (same i) ++ codes "\n" else [])

more_same : (p : LabPlan) (k : ℕ) (other : SessionPlan) (j : ℕ) (session : SessionPlan) → AreAlike p (with_one_more p k other)
    → more_lines (with_one_more p k other) j session ≡ more_lines p j session
more_same p k other j session alike =
    ap (λ name. codes "#more " ++ name ++ codes "\n#+" ++ session_line session.patience ++ flat_map (more_command p) session.commands ++ codes "#+end\n") (alike.names j)

pub texts_stay : TextsStay
texts_stay p j s k other there none inside =
    let q = with_one_more p k other in
    ap (λ (x : SessionPlan). summed (more_lines q j x)) (session_same p q k (taken_is_longer p k other there none) j s inside)
    ∙ ap summed (more_same p k other j (session_at p j s) (alike_more p k other there none))

-- the last session of the job
last_is : (p : LabPlan) (j : ℕ) (session : SessionPlan) → j < length p.jobs → session_at (with_one_more p j session) j (length (sessions p j) + 1) ≡ session
last_is p j session there =
    let own : sessions (with_one_more p j session) j ≡ sessions p j ++ session ∷ [] =
    ap (λ (x : JobPlan). x.sessions) (get_or-set_same p.jobs j (with_session (job_at p j) session) no_job there) in
    let before : length (sessions p j) + 1 - 1 ≡ length (sessions p j) = omega arith in
    (λ i. slice_index_or (own i) (before i) no_session) ∙ get_or_push (sessions p j) session no_session (length (sessions p j)) refl

text_is : (p : LabPlan) (j : ℕ) (session : SessionPlan) (ended : Bool) → j < length p.jobs → AreAlike p (with_one_more p j session)
    → came_text (with_one_more p j session) j (length (sessions p j) + 1) ended ≡ begun (more_lines p j session) ended
text_is p j session ended there alike =
    ap (λ (x : SessionPlan). begun (more_lines (with_one_more p j session) j x) ended) (last_is p j session there)
    ∙ ap (λ l. begun l ended) (more_same p j session j session alike)

pub next_alike : (plan p : LabPlan) (j : ℕ) (session : SessionPlan) → AreAlike plan p → j < length p.jobs → more_refusal p j session ≡ None
    → AreAlike plan (with_one_more p j session)
next_alike plan p j session alike there none = alike_both plan p (with_one_more p j session) alike (alike_more p j session there none)

pub parts_same : (plan p : LabPlan) (parts : List Part) → AreAlike plan p → AreTaken p parts → parts_text p parts ≡ base_text plan p parts
parts_same plan p [] alike taken = refl
parts_same plan p (Took piece ∷ parts) alike taken = λ i. piece_same plan p alike piece i ++ parts_same plan p parts alike taken i
parts_same plan p (Broke j session many ∷ parts) alike taken = ap (λ l. broken p j session many ++ l) (parts_same plan p parts alike taken.2)
parts_same plan p (Said words ∷ parts) alike taken = ap (λ l. (said words ++ codes "\n") ++ l) (parts_same plan p parts alike taken.1)
parts_same plan p (Noted marks ended ∷ parts) alike taken = ap (λ l. begun (marks_text marks) ended ++ l) (parts_same plan p parts alike taken.1)
parts_same plan p (Came j session ended ∷ parts) alike taken =
    let q = with_one_more p j session in
    λ i. text_is p j session ended taken.0 (alike_more p j session taken.0 taken.1) i
    ++ parts_same plan q parts (next_alike plan p j session alike taken.0 taken.1) taken.2 i

-- ---- the lines

abbrev pub base_lines : LabPlan → LabPlan → List Part → List (List ℕ)
base_lines plan p [] = []
base_lines plan p (Took piece ∷ parts) = piece_lines plan piece ++ base_lines plan p parts
base_lines plan p (Came j session ended ∷ parts) = more_part p j session ended ++ base_lines plan (with_one_more p j session) parts
base_lines plan p (Broke j session many ∷ parts) = broke_part p j session many ++ base_lines plan p parts
base_lines plan p (Said words ∷ parts) = said words ∷ base_lines plan p parts
base_lines plan p (Noted marks ended ∷ parts) = note_part marks ended ++ base_lines plan p parts

-- the steps of the parts can be named
abbrev pub AreNamed : LabPlan → List Part → Type 0
AreNamed plan parts = AllByRecursion (IsNameable plan) (map step_of (events_in parts))

pub named_parts : (plan : LabPlan) (piece : Piece) (parts : List Part) → AreNamed plan (Took piece ∷ parts)
    → AllByRecursion (IsNameable plan) (map step_of piece.events) × AreNamed plan parts
named_parts plan piece parts named =
    split_all (IsNameable plan) (map step_of piece.events) (map step_of (events_in parts))
    (subst (AllByRecursion (IsNameable plan)) (map_both piece.events (events_in parts)) named)

-- the sessions that came, each with its line
abbrev pub added_in : LabPlan → ℕ → LabPlan → List Part → List Addition
added_in plan n p [] = []
added_in plan n p (Took piece ∷ parts) = added_in plan (n + length (piece_lines plan piece)) p parts
added_in plan n p (Came j session ended ∷ parts) =
    addition_at n p j session ∷ added_in plan (n + length (more_part p j session ended)) (with_one_more p j session) parts
added_in plan n p (Broke j session many ∷ parts) = added_in plan (n + length (broke_part p j session many)) p parts
added_in plan n p (Said words ∷ parts) = added_in plan (n + 1) p parts
added_in plan n p (Noted marks ended ∷ parts) = added_in plan (n + length (note_part marks ended)) p parts

-- no line of them goes on with a session
none_goes_on : (plan p : LabPlan) (parts : List Part) → session_in (base_lines plan p parts) ≡ None
none_goes_on plan p [] = refl
none_goes_on plan p (Took piece ∷ parts) = refl
none_goes_on plan p (Came j session ended ∷ parts) = refl
none_goes_on plan p (Broke j session many ∷ parts) = refl
none_goes_on plan p (Said words ∷ parts) = said_none words (base_lines plan p parts)
none_goes_on plan p (Noted marks ended ∷ parts) = refl

module _ (plan : LabPlan) (is_plan : IsPlan plan) where
  pub lines_of : (p : LabPlan) (parts : List Part) → IsPlan p → AreTaken p parts → AreNamed plan parts → text_lines (base_text plan p parts) ≡ base_lines plan p parts
  lines_of p [] is taken named = no_text
  lines_of p (Took piece ∷ parts) is taken named =
      let both = named_parts plan piece parts named in
      piece_then plan piece (base_text plan p parts) is_plan both.0 ∙ ap (λ l. piece_lines plan piece ++ l) (lines_of p parts is taken both.1)
  lines_of p (Came j session ended ∷ parts) is taken named =
      let may = granted p j session taken.1 in
      let q = with_one_more p j session in
      part_then p j session ended (base_text plan q parts) is taken.0 may
      ∙ ap (λ l. more_part p j session ended ++ l) (lines_of q parts (plan_more p j session taken.0 may is) taken.2 named)
  lines_of p (Broke j session many ∷ parts) is taken named =
      broken_then p j session many (base_text plan p parts) is taken.0 (granted p j session taken.1)
      ∙ ap (λ l. broke_part p j session many ++ l) (lines_of p parts is taken.2 named)
  lines_of p (Said words ∷ parts) is taken named =
      plain_then (said words) (base_text plan p parts) taken.0 ∙ ap (λ l. said words ∷ l) (lines_of p parts is taken.1 named)
  lines_of p (Noted marks ended ∷ parts) is taken named =
      noted_then marks ended (base_text plan p parts) taken.0 ∙ ap (λ l. note_part marks ended ++ l) (lines_of p parts is taken.1 named)

  -- ---- the steps

  abbrev steps_in : ℕ → LabPlan → List Part → List StepLine
  steps_in n p [] = []
  steps_in n p (Took piece ∷ parts) = lines_from_here (n + 1) (map step_of piece.events) ++ steps_in (n + length (piece_lines plan piece)) p parts
  steps_in n p (Came j session ended ∷ parts) = steps_in (n + length (more_part p j session ended)) (with_one_more p j session) parts
  steps_in n p (Broke j session many ∷ parts) = steps_in (n + length (broke_part p j session many)) p parts
  steps_in n p (Said words ∷ parts) = steps_in (n + 1) p parts
  steps_in n p (Noted marks ended ∷ parts) = steps_in (n + length (note_part marks ended)) p parts

  list_is : (n : ℕ) (p : LabPlan) (parts : List Part) → IsPlan p → AreTaken p parts → AreNamed plan parts
      → list_of plan n (base_lines plan p parts) ≡ map placed (steps_in n p parts)
  list_is n p [] is taken named = refl
  list_is n p (Took piece ∷ parts) is taken named =
      let both = named_parts plan piece parts named in
      let first = lines_from_here (n + 1) (map step_of piece.events) in
      let next = n + length (piece_lines plan piece) in
      numbered-append (step_in plan) n (piece_lines plan piece) (base_lines plan p parts)
      ∙ (λ i. piece_list plan n piece is_plan both.0 i ++ list_is next p parts is taken both.1 i)
      ∙ sym (map-append placed first (steps_in next p parts))
  list_is n p (Came j session ended ∷ parts) is taken named =
      let may = granted p j session taken.1 in
      let q = with_one_more p j session in
      none_listed plan n (more_part p j session ended) (base_lines plan q parts) (all_skipped plan p j session ended is may)
      ∙ list_is (n + length (more_part p j session ended)) q parts (plan_more p j session taken.0 may is) taken.2 named
  list_is n p (Broke j session many ∷ parts) is taken named =
      none_listed plan n (broke_part p j session many) (base_lines plan p parts) (broken_skipped plan p j session many is (granted p j session taken.1))
      ∙ list_is (n + length (broke_part p j session many)) p parts is taken.2 named
  list_is n p (Said words ∷ parts) is taken named =
      none_listed plan n (said words ∷ []) (base_lines plan p parts) (said_skipped plan words, tt) ∙ list_is (n + 1) p parts is taken.1 named
  list_is n p (Noted marks ended ∷ parts) is taken named =
      none_listed plan n (note_part marks ended) (base_lines plan p parts) (noted_skipped plan marks ended)
      ∙ list_is (n + length (note_part marks ended)) p parts is taken.1 named

  abbrev step : StepLine → Step
  step line = line.step

  steps_are : (n : ℕ) (p : LabPlan) (parts : List Part) → map step (steps_in n p parts) ≡ map step_of (events_in parts)
  steps_are n p [] = refl
  steps_are n p (Took piece ∷ parts) =
      let first = lines_from_here (n + 1) (map step_of piece.events) in
      let next = n + length (piece_lines plan piece) in
      map-append step first (steps_in next p parts)
      ∙ (λ i. steps_there (n + 1) (map step_of piece.events) i ++ steps_are next p parts i) ∙ sym (map_both piece.events (events_in parts))
  steps_are n p (Came j session ended ∷ parts) = steps_are (n + length (more_part p j session ended)) (with_one_more p j session) parts
  steps_are n p (Broke j session many ∷ parts) = steps_are (n + length (broke_part p j session many)) p parts
  steps_are n p (Said words ∷ parts) = steps_are (n + 1) p parts
  steps_are n p (Noted marks ended ∷ parts) = steps_are (n + length (note_part marks ended)) p parts

  -- ---- the sums

  sums_right : (p : LabPlan) (parts : List Part) (n : ℕ) (text : List ℕ) → wrong_from n text (base_lines plan p parts) ≡ None
  sums_right p [] n text = refl
  sums_right p (Took piece ∷ parts) n text = piece_right plan piece (base_lines plan p parts) n text (λ m t. sums_right p parts m t)
  sums_right p (Came j session ended ∷ parts) n text =
      more_right n text p j session ended (base_lines plan (with_one_more p j session) parts) (λ m t. sums_right (with_one_more p j session) parts m t)
  sums_right p (Broke j session many ∷ parts) n text =
      broken_right n text p j session many (base_lines plan p parts) (λ m t. sums_right p parts m t)
  sums_right p (Said words ∷ parts) n text = said_right n text words (base_lines plan p parts) (λ m t. sums_right p parts m t)
  sums_right p (Noted marks ended ∷ parts) n text = noted_right n text marks ended (base_lines plan p parts) (λ m t. sums_right p parts m t)

  -- ---- the sessions

  additions_are : (n : ℕ) (p : LabPlan) (parts : List Part) → additions_from n (base_lines plan p parts) ≡ added_in plan n p parts
  additions_are n p [] = refl
  additions_are n p (Took piece ∷ parts) =
      none_added n (piece_lines plan piece) (base_lines plan p parts) (piece_no_more plan piece)
      ∙ additions_are (n + length (piece_lines plan piece)) p parts
  additions_are n p (Came j session ended ∷ parts) =
      part_added n p j session ended (base_lines plan (with_one_more p j session) parts)
      ∙ ap (λ l. addition_at n p j session ∷ l) (additions_are (n + length (more_part p j session ended)) (with_one_more p j session) parts)
  additions_are n p (Broke j session many ∷ parts) =
      broken_added n p j session many (base_lines plan p parts) (none_goes_on plan p parts)
      ∙ additions_are (n + length (broke_part p j session many)) p parts
  additions_are n p (Said words ∷ parts) = said_added n words (base_lines plan p parts) ∙ additions_are (n + 1) p parts
  additions_are n p (Noted marks ended ∷ parts) =
      noted_added n marks ended (base_lines plan p parts) ∙ additions_are (n + length (note_part marks ended)) p parts

-- ---- all of it

pub record ReadsParts (plan : LabPlan) (file : List ℕ) (parts : List Part) : Type 0 where
  pub steps : List StepLine
  pub means : StepsMean file plan steps
  pub events_are : events_from_opening (plan_after plan parts) steps ≡ events_in parts
  pub sums : wrong_sum file ≡ None
  pub first : ℕ
  pub additions_are : additions file ≡ added_in plan first plan parts

pub after_alike : (plan p : LabPlan) (parts : List Part) → AreAlike plan p → AreTaken p parts → AreAlike plan (plan_after p parts)
after_alike plan p [] alike taken = alike
after_alike plan p (Took piece ∷ parts) alike taken = after_alike plan p parts alike taken
after_alike plan p (Came j session ended ∷ parts) alike taken =
    after_alike plan (with_one_more p j session) parts (next_alike plan p j session alike taken.0 taken.1) taken.2
after_alike plan p (Broke j session many ∷ parts) alike taken = after_alike plan p parts alike taken.2
after_alike plan p (Said words ∷ parts) alike taken = after_alike plan p parts alike taken.1
after_alike plan p (Noted marks ended ∷ parts) alike taken = after_alike plan p parts alike taken.1

-- the steps of legal events can be named by the first plan
pub names_stay : (plan : LabPlan) (parts : List Part) → AreTaken plan parts
    → IsLegalFrom (plan_after plan parts) (the_opening (plan_after plan parts)) (events_in parts) → AreNamed plan parts
names_stay plan parts taken legal =
    let q = plan_after plan parts in
    all_back plan q (after_alike plan plan parts (alike_self plan) taken) (map step_of (events_in parts)) (all_nameable q (the_opening q) (events_in parts) legal)

pub parts_read : StepsGiveEvents → (plan : LabPlan) (script : List ℕ) (parts : List Part) → IsPlan plan → ScriptMeans script plan → AreTaken plan parts
    → IsLegalFrom (plan_after plan parts) (the_opening (plan_after plan parts)) (events_in parts) → length (events_in parts) ≤ 1000000
    → ReadsParts plan (script_head script ++ parts_text plan parts) parts
parts_read give plan script parts is means taken legal few =
    let q = plan_after plan parts in
    let named = names_stay plan parts taken legal in
    let h = script_head_is plan script means in
    let n = length h.front + 2 in
    let tail = parts_text plan parts in
    let lines : text_lines tail ≡ base_lines plan plan parts =
    ap text_lines (parts_same plan plan parts (alike_self plan) taken) ∙ lines_of plan is plan parts is taken named in
    let cut : text_lines (script_head script ++ tail) ≡ h.front ++ codes "steps" ∷ base_lines plan plan parts = h.cut tail ∙ ap (λ l. h.front ++ codes "steps" ∷ l) lines in
    let found = steps_in plan is n plan parts in
    let same = steps_are plan is n plan parts in
    let many : length found ≡ length (events_in parts) = sym (length-map found (λ (line : StepLine). line.step)) ∙ ap length same ∙ length-map (events_in parts) step_of in record {
      steps = found;
      means = joined plan h.front (base_lines plan plan parts) found h.means (list_is plan is n plan parts is taken named) (omega (arith, few, many)) (script_head script ++ tail) cut;
      events_are = ap (step_events q (the_opening q)) same ∙ give q (the_opening q) (events_in parts) legal;
      sums = ap (wrong_behind 1) cut ∙ head_passed 1 h.front (base_lines plan plan parts) (no_steps_line h.front plan h.means)
          ∙ sums_right plan is plan parts (1 + length h.front + 1) [];
      first = 1 + length h.front + 1;
      additions_are = ap (additions_behind 1) cut ∙ head_has_none 1 h.front (base_lines plan plan parts) (no_steps_line h.front plan h.means)
          ∙ additions_are plan is (1 + length h.front + 1) plan parts;
    }
