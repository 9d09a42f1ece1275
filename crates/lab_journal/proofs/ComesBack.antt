-- A lab that is resumed from a journal stands where its events lead.
use Rattle.std.proofs.Common.{◌≡◌, ◌≢◌, ◌⊎◌, ℕ, ◌+◌, ◌-◌, ◌<◌, ◌≤◌, Bool, true, false, if◌then◌else◌, List, [], ◌∷◌, ◌++◌, length, take, get_or, refl, sym, ap, ◌∙◌, subst, inl, inr, ⊎_elim, arith, append_assoc, append-nil, length-append}
use Rattle.std.specs.Prelude.{codes, map, slice_index, Result, Ok, Err}
use Rattle.std.specs.List.{All, flat_map}
use Rattle.std.proofs.lemmas.Bool.{cases_lt}
use Rattle.std.proofs.lemmas.List.{ext_get_or, get_or-append-add, take_all}
use Rattle.lab_plan.specs.LabPlan.{LabPlan}
use Rattle.legal_steps.specs.declared.event.Event.{Event}
use Rattle.legal_steps.specs.declared.event.Event.TheVariants.{Act}
use Rattle.legal_steps.specs.declared.event.Step.{Step}
use Rattle.legal_steps.specs.declared.event.StepLine.{StepLine}
use Rattle.legal_steps.specs.declared.phase.Drinking.TheVariants.{Reaching}
use Rattle.legal_steps.specs.declared.counts.Counts.{Counts}
use Rattle.legal_steps.specs.State.{State, drinking}
use Rattle.legal_steps.specs.Legal.{IsJob, May}
use Rattle.legal_steps.specs.Opening.{the_opening}
use Rattle.legal_steps.specs.Run.{IsLegalFrom, after_all}
use Rattle.legal_steps.specs.Counting.{no_counts}
use Rattle.interleaving.specs.Counting.{AreCountsOf}
use Rattle.interleaving.specs.World.{WorldView, IsReachedBy}
use Rattle.turns.proofs.Runs.{legal-goes_on}
use Rattle.script_reader.specs.declared.fault.ScriptFault.{ScriptFault}
use Rattle.script_reader.specs.Laws.{HasOneList}
use Rattle.script_reader.specs.Steps.{StepsMean}
use Rattle.explaining.specs.Explanations.{events_from_opening}
use Rattle.round_trace.specs.StepsOf.{step_of}
use Rattle.written_steps.specs.StepLists.{script_head, step_line, step_lines, lacking_end}
use Rattle.journal_texts.specs.Lines.{AreWholeLines}
use Rattle.journal_texts.specs.Additions.{additions}
use Rattle.journal_texts.specs.Reading.{IsRead, FilesAreRead, BeginningsAreRead}
use Rattle.journal_texts.proofs.Beginnings.{ends_whole}
use Rattle.journal_texts.specs.Texts.{Piece, events_of, lines_text, sum_line, end_text, piece_text, file_text}
use Rattle.lab_journal.specs.Meaning.{with_additions}
use Rattle.lab_journal.specs.Resumed.{IsAct}
use Rattle.lab_journal.specs.Laws.{ResumesAt, HasDone, ComesBackAs, JournalComesBack, BeginningsComeBack}

-- ---- a journal ends with a line feed

abbrev pub Fed : List ℕ → Type 0
Fed l = (front : List ℕ) × (l ≡ front ++ 10 ∷ [])

pub fed_behind : (a b : List ℕ) → Fed b → Fed (a ++ b)
fed_behind a b fed = (a ++ fed.0, ap (λ (l : List ℕ). a ++ l) fed.1 ∙ sym (append_assoc a fed.0 (10 ∷ [])))

-- what is nothing, or fed, keeps a text fed
abbrev pub Keeps : List ℕ → Type 0
Keeps l = (l ≡ []) ⊎ Fed l

pub fed_kept : (a b : List ℕ) → Fed a → Keeps b → Fed (a ++ b)
fed_kept a b fed (inl none) = subst (λ (l : List ℕ). Fed (a ++ l)) (sym none) (subst Fed (sym (append-nil a)) fed)
fed_kept a b fed (inr more) = fed_behind a b more

fed_step : (plan : LabPlan) (x : Step) → Fed (step_line plan x)
unfolding step_line
fed_step plan x = (_, refl)

keeps_steps : (plan : LabPlan) (l : List Step) → Keeps (step_lines plan l)
keeps_steps plan [] = inl refl
keeps_steps plan (x ∷ l) = inr (fed_kept (step_line plan x) (step_lines plan l) (fed_step plan x) (keeps_steps plan l))

keeps_end : (plan : LabPlan) (events : List Event) (ended : Bool) → Keeps (if ended then end_text plan events else [])
keeps_end plan events true = inr (sum_line (lines_text plan events), refl)
keeps_end plan events false = inl refl

pub fed_piece : (plan : LabPlan) (piece : Piece) → Fed (piece_text plan piece)
fed_piece plan piece =
    let begin = codes "#steps\n" in
    let lines = lines_text plan piece.events in
    fed_kept (begin ++ lines) _ (fed_kept begin lines (codes "#steps", refl) (keeps_steps plan (map step_of piece.events))) (keeps_end plan piece.events piece.ended)

keeps_pieces : (plan : LabPlan) (pieces : List Piece) → Keeps (flat_map (piece_text plan) pieces)
keeps_pieces plan [] = inl refl
keeps_pieces plan (piece ∷ pieces) = inr (fed_kept (piece_text plan piece) (flat_map (piece_text plan) pieces) (fed_piece plan piece) (keeps_pieces plan pieces))

pub fed_head : (script : List ℕ) → Fed (script_head script)
unfolding script_head
fed_head script = fed_behind (script ++ lacking_end script) (codes "steps\n") (codes "steps", refl)

fed_file : (plan : LabPlan) (script : List ℕ) (pieces : List Piece) → Fed (file_text plan script pieces)
fed_file plan script pieces = fed_kept (script_head script) (flat_map (piece_text plan) pieces) (fed_head script) (keeps_pieces plan pieces)

-- so all of it is whole lines, and with a rest that has no line end it alone
pub whole_lines : (whole rest : List ℕ) → Fed whole → ((k : ℕ) → k < length rest → slice_index rest k ≢ 10) → AreWholeLines (whole ++ rest) (length whole)
whole_lines whole rest fed none =
    let size : length whole ≡ length fed.0 + 1 = ap (λ (l : List ℕ). length l) fed.1 ∙ length-append fed.0 (10 ∷ []) in
    let cut : whole ++ rest ≡ fed.0 ++ 10 ∷ rest = ap (λ (l : List ℕ). l ++ rest) fed.1 ∙ append_assoc fed.0 (10 ∷ []) rest in
    let place : length whole - 1 ≡ length fed.0 + 0 = omega (arith, size) in record {
      within = omega (arith, length-append whole rest);
      ended = inr ((λ i. get_or (cut i) (place i) 0) ∙ get_or-append-add fed.0 (10 ∷ rest) 0 0);
      behind = λ k from below is. no_end whole rest none k (k - length whole) (omega (arith, from)) (omega (arith, below, length-append whole rest)) is;
    }
  where
    no_end : (whole rest : List ℕ) → ((k : ℕ) → k < length rest → slice_index rest k ≢ 10) → (k i : ℕ) → length whole + i ≡ k → k < length whole + length rest
        → slice_index (whole ++ rest) k ≢ 10
    no_end whole rest none k i same below is =
        none i (omega (arith, same, below)) (sym (ap (λ n. get_or (whole ++ rest) n 0) (sym same) ∙ get_or-append-add whole rest i 0) ∙ is)

all_of_it : (file : List ℕ) → Fed file → AreWholeLines file (length file)
all_of_it file fed =
    subst (λ (l : List ℕ). AreWholeLines l (length file)) (append-nil file) (whole_lines file [] fed (λ k below. absurd (omega (arith, below))))

pub lines_once : (file : List ℕ) (m n : ℕ) → AreWholeLines file m → AreWholeLines file n → m ≡ n
lines_once file m n a b = by (cases_lt m n) (cases_lt n m)
  where
    not_less : (m n : ℕ) → AreWholeLines file m → AreWholeLines file n → m < n → ⊥
    not_less m n a b less =
        ⊎_elim (λ none. omega (arith, none, less)) (λ is. a.behind (n - 1) (omega (arith, less)) (omega (arith, less, b.within)) is) b.ended

    by : (m < n) ⊎ (n ≤ m) → (n < m) ⊎ (m ≤ n) → m ≡ n
    by (inl less) other = absurd (not_less m n a b less)
    by (inr more) (inl less) = absurd (not_less n m b a less)
    by (inr more) (inr less) = omega (arith, more, less)

-- ---- no command was in hand

no_acts : (plan : LabPlan) (s : State) (acts : List Event) → All IsAct acts → IsLegalFrom plan s acts → ((j : ℕ) → IsJob plan j → drinking s j ≢ Reaching) → acts ≡ []
no_acts plan s [] all legal none = refl
no_acts plan s (x ∷ acts) all legal none =
    let act = all 0 x (omega arith) in
    let may : May plan s (Act act.0) = subst (λ (e : Event). May plan s e) act.1 legal.0 in
    absurd (none act.0 may.0 may.1)

same_counts : (plan : LabPlan) (events : List Event) (a b : List Counts) → AreCountsOf plan events a → AreCountsOf plan events b → a ≡ b
same_counts plan events a b p q =
    ext_get_or no_counts a b (p.one_each ∙ sym q.one_each)
    (λ j below. let job : j < length plan.jobs = omega (arith, below, p.one_each) in p.counted j job ∙ sym (q.counted j job))

-- two ways by the same events from the same opening
same_way : (plan : LabPlan) (o : State) (events : List Event) (s t : State) (a b : List Counts) → IsReachedBy plan o events s a → IsReachedBy plan o events t b
    → (s ≡ t) × (a ≡ b)
same_way plan o events s t a b p q = (p.run.leads ∙ sym q.run.leads, same_counts plan events a b p.counted q.counted)

-- the plan of an answer
abbrev pub plan_or : LabPlan → Result LabPlan ScriptFault → LabPlan
plan_or other (Ok plan) = plan
plan_or other (Err fault) = other

-- whatever lab is resumed from a file whose whole lines are of this script and these steps, with the sessions that came
pub comes_as : HasOneList → (script plan : LabPlan) (file whole : List ℕ) (steps : List StepLine) (events : List Event) → AreWholeLines file (length whole)
    → take (length whole) file ≡ whole → StepsMean whole script steps → with_additions script (additions whole) ≡ Ok plan
    → events_from_opening plan steps ≡ events → ComesBackAs file (length whole) plan events
comes_as one script plan file whole steps events lines cut means came events_are n x is =
    let all : n ≡ length whole = lines_once file n (length whole) is.lines lines in
    let here : take n file ≡ whole = ap (λ k. take k file) all ∙ cut in
    let both = one whole is.means.script script is.steps steps (subst (λ l. StepsMean l is.means.script is.steps) here is.means.means) means in
    let longer : Ok x.world.plan ≡ Ok plan = sym is.means.came ∙ ((λ i. with_additions (both.0 i) (additions (here i))) ∙ came) in
    let same : x.world.plan ≡ plan = ap (plan_or script) longer in
    let told : events_from_opening x.world.plan is.steps ≡ events = (λ i. events_from_opening (same i) (both.1 i)) ∙ events_are in
    let past : x.world.past ≡ events ++ is.acts = is.past ∙ ap (λ (l : List Event). l ++ is.acts) told in
    let reached : IsReachedBy plan (the_opening plan) (events ++ is.acts) x.world.state x.world.counts =
    subst (λ (z : LabPlan × State × List Event). IsReachedBy z.0 z.1 z.2 x.world.state x.world.counts)
    (λ i. (same i, (is.opening ∙ ap the_opening same) i, past i)) is.reached in
    let legal : IsLegalFrom plan (after_all plan (the_opening plan) events) is.acts = legal-goes_on plan (the_opening plan) events is.acts reached.run.legal in (
      all,
      record {
        same_plan = same;
        opening = is.opening ∙ ap the_opening same;
        acts = is.acts;
        are_acts = is.are_acts;
        past = past;
        reached = reached;
        none_in_hand = subst (λ (p : LabPlan). (j : ℕ) → IsJob p j → drinking x.world.state j ≢ Reaching) same is.none_in_hand;
        none_left = no_acts plan (after_all plan (the_opening plan) events) is.acts is.are_acts legal;
        kept = is.kept;
        whole = is.whole;
      },
    )

-- it stands where the events lead, if no command is in hand there
there : (plan : LabPlan) (events : List Event) (w : WorldView) (s : State) (counts : List Counts) → HasDone plan events w
    → IsReachedBy plan (the_opening plan) events s counts → ((j : ℕ) → IsJob plan j → drinking s j ≢ Reaching) → (w.state ≡ s) × (w.counts ≡ counts)
there plan events w s counts done by none =
    let left = done.none_left (subst (λ (z : State). (j : ℕ) → IsJob plan j → drinking z j ≢ Reaching) by.run.leads none) in
    same_way plan (the_opening plan) events w.state s w.counts counts
    (subst (λ (l : List Event). IsReachedBy plan (the_opening plan) l w.state w.counts)
    (ap (λ (l : List Event). events ++ l) left ∙ append-nil events) done.reached) by

pub stands_by : HasOneList → (script plan : LabPlan) (file : List ℕ) (steps : List StepLine) (events : List Event) (s : State) (counts : List Counts) → Fed file
    → StepsMean file script steps → with_additions script (additions file) ≡ Ok plan → events_from_opening plan steps ≡ events
    → IsReachedBy plan (the_opening plan) events s counts → ((j : ℕ) → IsJob plan j → drinking s j ≢ Reaching) → ResumesAt file plan s counts
stands_by one script plan file steps events s counts fed means came events_are by none n x is =
    let back = comes_as one script plan file file steps events (all_of_it file fed) (take_all (length file) file (omega arith)) means came events_are n x is in
    let at = there plan events x.world s counts back.1 by none in
    (back.0, back.1.same_plan, at.0, at.1)

stands_there : HasOneList → (plan : LabPlan) (file : List ℕ) (events : List Event) (s : State) (counts : List Counts) → Fed file → IsRead plan file events
    → IsReachedBy plan (the_opening plan) events s counts → ((j : ℕ) → IsJob plan j → drinking s j ≢ Reaching) → ResumesAt file plan s counts
stands_there one plan file events s counts fed read by none =
    stands_by one plan plan file read.steps events s counts fed read.means (ap (with_additions plan) read.none_came) read.events_are by none

pub journal_comes_back : FilesAreRead → HasOneList → JournalComesBack
journal_comes_back read one plan script pieces s counts means by few =
    let is = read plan script pieces by.is_plan means by.run.legal few in
    (is, λ none. stands_there one plan (file_text plan script pieces) (events_of pieces) s counts (fed_file plan script pieces) is by none)

pub beginnings_come_back : BeginningsAreRead → HasOneList → BeginningsComeBack
beginnings_come_back read one plan script pieces front back is means legal few same whole =
    let found = read plan script pieces front back is means legal few same whole in
    let fed = fed_kept (script_head script) front (fed_head script) (ends_whole front whole) in
    (found.0, found.1, λ s counts by none. stands_there one plan (script_head script ++ front) (take found.0 (events_of pieces)) s counts fed found.1 by none)
