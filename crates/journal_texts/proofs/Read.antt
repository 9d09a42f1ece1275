-- A journal is read as what was written.
use Rattle.std.proofs.Common.{◌≡◌, ℕ, suc, ◌+◌, Bool, true, false, not, ◌&&◌, ◌||◌, if◌then◌else◌, List, [], ◌∷◌, ◌++◌, length, map, take, drop, refl, sym, ap, ◌∙◌, subst, arith, append_assoc, append-nil}
use Rattle.std.specs.Prelude.{None, Some, codes, nat_le}
use Rattle.std.specs.List.{AllByRecursion, flat_map, list_any, cons_option}
use Rattle.std.specs.Option.{option_map}
use Rattle.std.specs.Str.{bytes_eq}
use Rattle.std.proofs.lemmas.List.{map-append, length-map}
use Rattle.std.proofs.lemmas.Slice.Eq.{bytes_eq-Decides}
use Rattle.sha2.specs.Sha256.{sha256}
use Rattle.hex.specs.Hex.{encode_lower}
use Rattle.lab_plan.specs.LabPlan.{LabPlan}
use Rattle.lab_plan.specs.IsPlan.{IsPlan}
use Rattle.legal_steps.specs.declared.event.Event.{Event}
use Rattle.legal_steps.specs.declared.event.Event.TheVariants.{Look, AskFork, GiveFork, Soil, AskBottles, GiveBottles, Thirst, Hunger, Sit, Leave, Drink, Reach, Act, Quit, Retire, Glance, Withdraw}
use Rattle.legal_steps.specs.declared.event.Step.{Step}
use Rattle.legal_steps.specs.declared.event.Step.TheVariants as steps
use Rattle.legal_steps.specs.declared.event.StepLine.{StepLine}
use Rattle.legal_steps.specs.State.{State}
use Rattle.legal_steps.specs.Legal.{May, after}
use Rattle.legal_steps.specs.Opening.{the_opening}
use Rattle.legal_steps.specs.Run.{IsLegalFrom}
use Rattle.legal_steps.specs.Steps.{step_events}
use Rattle.round_trace.specs.StepsOf.{step_of, StepsGiveEvents}
use Rattle.script_reader.specs.Script.{text_lines, has}
use Rattle.script_reader.specs.Steps.{step_in, step_among, list_of, placed, is_steps_line}
use Rattle.script_reader.proofs.ReaderLoop.{numbered-append}
use Rattle.script_reader.proofs.UpgradeText.{fields_one, fields_more}
use Rattle.step_texts.specs.StepTexts.{step_text}
use Rattle.written_steps.specs.ReadBack.{IsNameable}
use Rattle.written_steps.specs.StepLists.{script_head, step_line, step_lines, lines_from_here}
use Rattle.written_steps.proofs.ListsBack.{no_steps_line, list_back, joined, script_head_is, steps_form}
use Rattle.journal_texts.specs.Texts.{Piece, events_of, lines_text, sum_line, piece_text}
use Rattle.journal_texts.specs.Sums.{is_begin, is_sum, is_wrong, text_after, wrong_from, wrong_behind}
use Rattle.journal_texts.specs.Additions.{is_more, session_in, addition_of, additions_from, additions_behind}
use Rattle.journal_texts.specs.Reading.{FilesAreRead}
use Rattle.journal_texts.proofs.PieceLines.{end_lines, inner_lines, piece_lines, all_lines, AreNameable, lines_of_pieces}

-- ---- the steps of legal events can be named

nameable : (plan : LabPlan) (s : State) (x : Event) → May plan s x → IsNameable plan (step_of x)
nameable plan s (Look j e seen) may = may.0
nameable plan s (AskFork j e) may = may.0
nameable plan s (GiveFork j e) may = may.0
nameable plan s (Soil j e) may = may.0
nameable plan s (AskBottles j e set) may = (may.0, may.2)
nameable plan s (GiveBottles j e set) may = (may.0, may.1)
nameable plan s (Thirst j) may = may.0
nameable plan s (Hunger j) may = may.0
nameable plan s (Sit j) may = may.0
nameable plan s (Leave j) may = may.0
nameable plan s (Drink j) may = may.0
nameable plan s (Reach j) may = may.0
nameable plan s (Act j) may = may.0
nameable plan s (Quit j) may = may.0
nameable plan s (Retire j) may = may.0
nameable plan s (Glance j other seen) may = (may.0, may.1, may.2)
nameable plan s (Withdraw j) may = may.0

pub all_nameable : (plan : LabPlan) (s : State) (events : List Event) → IsLegalFrom plan s events → AllByRecursion (IsNameable plan) (map step_of events)
all_nameable plan s [] legal = tt
all_nameable plan s (x ∷ events) legal = (nameable plan s x legal.0, all_nameable plan (after plan s x) events legal.1)

pub split_all : (P : Step → Type 0) (a b : List Step) → AllByRecursion P (a ++ b) → AllByRecursion P a × AllByRecursion P b
split_all P [] b all = (tt, all)
split_all P (x ∷ a) b all = let more = split_all P a b all.1 in ((all.0, more.0), more.1)

pub map_both : (a b : List Event) → map step_of (a ++ b) ≡ map step_of a ++ map step_of b
map_both a b = map-append step_of a b

pub pieces_nameable : (plan : LabPlan) (pieces : List Piece) → AllByRecursion (IsNameable plan) (map step_of (events_of pieces)) → AreNameable plan pieces
pieces_nameable plan [] all = tt
pieces_nameable plan (piece ∷ pieces) all =
    let both = split_all (IsNameable plan) (map step_of piece.events) (map step_of (events_of pieces))
    (subst (AllByRecursion (IsNameable plan)) (map_both piece.events (events_of pieces)) all) in
    (both.0, pieces_nameable plan pieces both.1)

-- ---- the lines that are steps

begin_skipped : (plan : LabPlan) → step_in plan (codes "#steps") ≡ None
begin_skipped plan = ap (step_among plan) (fields_one (codes "#steps") refl (omega arith))

pub sum_skipped : (plan : LabPlan) (text : List ℕ) → step_in plan (sum_line text) ≡ None
unfolding sum_line
sum_skipped plan text = ap (step_among plan) (fields_more (codes "#sum") (encode_lower (take 8 (sha256 text))) refl (omega arith))

skipped : (plan : LabPlan) (n : ℕ) (line : List ℕ) (lines : List (List ℕ)) → step_in plan line ≡ None → list_of plan n (line ∷ lines) ≡ list_of plan (n + 1) lines
skipped plan n line lines is = ap (λ found. cons_option (option_map (λ it. (n, it)) found) (list_of plan (n + 1) lines)) is

end_skipped : (plan : LabPlan) (n : ℕ) (text : List ℕ) (ended : Bool) → list_of plan n (if ended then sum_line text ∷ [] else []) ≡ []
end_skipped plan n text true = skipped plan n (sum_line text) [] (sum_skipped plan text)
end_skipped plan n text false = refl

-- the steps of pieces, with their lines
abbrev steps_at : LabPlan → ℕ → List Piece → List StepLine
steps_at plan n [] = []
steps_at plan n (piece ∷ pieces) = lines_from_here (n + 1) (map step_of piece.events) ++ steps_at plan (n + length (piece_lines plan piece)) pieces

pub piece_list : (plan : LabPlan) (n : ℕ) (piece : Piece) → IsPlan plan → AllByRecursion (IsNameable plan) (map step_of piece.events)
    → list_of plan n (piece_lines plan piece) ≡ map placed (lines_from_here (n + 1) (map step_of piece.events))
piece_list plan n piece is all =
    let own = map (step_text plan) (map step_of piece.events) in
    skipped plan n (codes "#steps") (inner_lines plan piece) (begin_skipped plan)
    ∙ numbered-append (step_in plan) (n + 1) own (end_lines plan piece)
    ∙ (λ i. list_back plan (n + 1) (map step_of piece.events) is all i
    ++ end_skipped plan (n + 1 + length own) (lines_text plan piece.events) piece.ended i)
    ∙ append-nil (map placed (lines_from_here (n + 1) (map step_of piece.events)))

pieces_list : (plan : LabPlan) (n : ℕ) (pieces : List Piece) → IsPlan plan → AreNameable plan pieces
    → list_of plan n (all_lines plan pieces) ≡ map placed (steps_at plan n pieces)
pieces_list plan n [] is all = refl
pieces_list plan n (piece ∷ pieces) is all =
    let first = lines_from_here (n + 1) (map step_of piece.events) in
    let next = n + length (piece_lines plan piece) in
    numbered-append (step_in plan) n (piece_lines plan piece) (all_lines plan pieces)
    ∙ (λ i. piece_list plan n piece is all.0 i ++ pieces_list plan next pieces is all.1 i)
    ∙ sym (map-append placed first (steps_at plan next pieces))

abbrev step : StepLine → Step
step line = line.step

pub steps_there : (n : ℕ) (l : List Step) → map step (lines_from_here n l) ≡ l
steps_there n [] = refl
steps_there n (x ∷ l) = ap (λ z. x ∷ z) (steps_there (n + 1) l)

all_steps : (plan : LabPlan) (n : ℕ) (pieces : List Piece) → map step (steps_at plan n pieces) ≡ map step_of (events_of pieces)
all_steps plan n [] = refl
all_steps plan n (piece ∷ pieces) =
    let first = lines_from_here (n + 1) (map step_of piece.events) in
    let next = n + length (piece_lines plan piece) in
    map-append step first (steps_at plan next pieces)
    ∙ (λ i. steps_there (n + 1) (map step_of piece.events) i ++ all_steps plan next pieces i) ∙ sym (map_both piece.events (events_of pieces))

-- ---- the sums

and_false : (a : Bool) → (a && false) ≡ false
and_false true = refl
and_false false = refl

no_mark : (plan : LabPlan) (x : Step) → (is_begin (step_text plan x) ≡ false) × (bytes_eq (take 5 (step_text plan x)) (codes "#sum ") ≡ false)
unfolding step_text
no_mark plan (steps.Look j e) = (refl, refl)
no_mark plan (steps.AskFork j e) = (refl, refl)
no_mark plan (steps.GiveFork j e) = (refl, refl)
no_mark plan (steps.Soil j e) = (refl, refl)
no_mark plan (steps.AskBottles j e set) = (refl, refl)
no_mark plan (steps.GiveBottles j e set) = (refl, refl)
no_mark plan (steps.Thirst j) = (refl, refl)
no_mark plan (steps.Hunger j) = (refl, refl)
no_mark plan (steps.Sit j) = (refl, refl)
no_mark plan (steps.Leave j) = (refl, refl)
no_mark plan (steps.Drink j) = (refl, refl)
no_mark plan (steps.Reach j) = (refl, refl)
no_mark plan (steps.Act j) = (refl, refl)
no_mark plan (steps.Quit j) = (refl, refl)
no_mark plan (steps.Retire j) = (refl, refl)
no_mark plan (steps.Glance j other) = (refl, refl)
no_mark plan (steps.Withdraw j) = (refl, refl)

no_sum : (plan : LabPlan) (x : Step) → is_sum (step_text plan x) ≡ false
no_sum plan x = ap (λ b. nat_le 5 (length (step_text plan x)) && b) (no_mark plan x).1 ∙ and_false (nat_le 5 (length (step_text plan x)))

-- a line that is no sum is added, or begins anew
pub not_wrong : (n : ℕ) (text line : List ℕ) (lines : List (List ℕ)) → is_wrong text line ≡ false
    → wrong_from n text (line ∷ lines) ≡ wrong_from (n + 1) (text_after text line) lines
not_wrong n text line lines is = ap (λ b. if b then Some n else wrong_from (n + 1) (text_after text line) lines) is

step_added : (plan : LabPlan) (n : ℕ) (text : List ℕ) (x : Step) (lines : List (List ℕ))
    → wrong_from n text (step_text plan x ∷ lines) ≡ wrong_from (n + 1) (text ++ step_line plan x) lines
unfolding step_line
step_added plan n text x lines =
    let line = step_text plan x in
    not_wrong n text line lines (ap (λ b. b && not (bytes_eq line (sum_line text))) (no_sum plan x))
    ∙ ap (λ t. wrong_from (n + 1) t lines) ((λ i. if (no_mark plan x).0 i || no_sum plan x i then [] else text ++ line ++ codes "\n") ∙ append_assoc text line (codes "\n"))

steps_added : (plan : LabPlan) (n : ℕ) (text : List ℕ) (l : List Step) (lines : List (List ℕ))
    → wrong_from n text (map (step_text plan) l ++ lines) ≡ wrong_from (n + length l) (text ++ step_lines plan l) lines
steps_added plan n text [] lines = (let none : n ≡ n + 0 = omega arith in λ i. wrong_from (none i) (sym (append-nil text) i) lines)
steps_added plan n text (x ∷ l) lines =
    let one : n + 1 + length l ≡ n + suc (length l) = omega arith in
    step_added plan n text x (map (step_text plan) l ++ lines) ∙ steps_added plan (n + 1) (text ++ step_line plan x) l lines
    ∙ (λ i. wrong_from (one i) (append_assoc text (step_line plan x) (step_lines plan l) i) lines)

same_bytes : (l : List ℕ) → bytes_eq l l ≡ true
same_bytes l = (bytes_eq-Decides l l).1 refl

pub right_sum : (text : List ℕ) → is_wrong text (sum_line text) ≡ false
right_sum text = ap (λ b. is_sum (sum_line text) && not b) (same_bytes (sum_line text)) ∙ and_false (is_sum (sum_line text))

pub end_right : (n : ℕ) (text : List ℕ) (ended : Bool) (lines : List (List ℕ)) → ((m : ℕ) (t : List ℕ) → wrong_from m t lines ≡ None)
    → wrong_from n text ((if ended then sum_line text ∷ [] else []) ++ lines) ≡ None
end_right n text true lines more = not_wrong n text (sum_line text) lines (right_sum text) ∙ more (n + 1) (text_after text (sum_line text))
end_right n text false lines more = more n text

pub piece_right : (plan : LabPlan) (piece : Piece) (lines : List (List ℕ)) (n : ℕ) (text : List ℕ) → ((m : ℕ) (t : List ℕ) → wrong_from m t lines ≡ None)
    → wrong_from n text (piece_lines plan piece ++ lines) ≡ None
piece_right plan piece lines n text more =
    let l = map step_of piece.events in
    let own = map (step_text plan) l in
    let here = lines_text plan piece.events in
    ap (λ (z : List (List ℕ)). wrong_from (n + 1) [] z) (append_assoc own (end_lines plan piece) lines)
    ∙ steps_added plan (n + 1) [] l (end_lines plan piece ++ lines)
    ∙ end_right (n + 1 + length l) here piece.ended lines more

pieces_right : (plan : LabPlan) (pieces : List Piece) (n : ℕ) (text : List ℕ) → wrong_from n text (all_lines plan pieces) ≡ None
pieces_right plan [] n text = refl
pieces_right plan (piece ∷ pieces) n text = piece_right plan piece (all_lines plan pieces) n text (λ m t. pieces_right plan pieces m t)

-- the lines before the line `steps`
not_steps : (line : List ℕ) → is_steps_line line ≡ false → bytes_eq line (codes "steps") ≡ false
not_steps line isnt = no (bytes_eq line (codes "steps")) (bytes_eq-Decides line (codes "steps")).0
  where
    no : (t : Bool) → (t ≡ true → line ≡ codes "steps") → t ≡ false
    no false same = refl
    no true same = let is : is_steps_line line ≡ true = ap is_steps_line (same refl) ∙ ap (has _) steps_form in let both = sym is ∙ isnt in cc

neither : (a b : Bool) → (a || b) ≡ false → (a ≡ false) × (b ≡ false)
neither true b e = cc
neither false b e = (refl, e)

pub head_passed : (n : ℕ) (front rest : List (List ℕ)) → list_any is_steps_line front ≡ false
    → wrong_behind n (front ++ codes "steps" ∷ rest) ≡ wrong_from (n + length front + 1) [] rest
head_passed n [] rest none = (let same : n + 1 ≡ n + 0 + 1 = omega arith in ap (λ k. wrong_from k [] rest) same)
head_passed n (line ∷ front) rest none =
    let parts = neither (is_steps_line line) (list_any is_steps_line front) none in
    let same : n + 1 + length front + 1 ≡ n + suc (length front) + 1 = omega arith in
    ap (λ b. if b then wrong_from (n + 1) [] (front ++ codes "steps" ∷ rest) else wrong_behind (n + 1) (front ++ codes "steps" ∷ rest)) (not_steps line parts.0)
    ∙ head_passed (n + 1) front rest parts.1 ∙ ap (λ k. wrong_from k [] rest) same

-- ---- no session came

abbrev NoMore : List (List ℕ) → Type 0
NoMore lines = AllByRecursion (λ (line : List ℕ). is_more line ≡ false) lines

none_from : (n : ℕ) (lines : List (List ℕ)) → NoMore lines → additions_from n lines ≡ []
none_from n [] none = refl
none_from n (line ∷ lines) none =
    λ i. (if none.0 i then addition_of n (drop 6 line) (session_in lines) else []) ++ none_from (n + 1) lines none.1 i

step_no_more : (plan : LabPlan) (x : Step) → bytes_eq (take 6 (step_text plan x)) (codes "#more ") ≡ false
unfolding step_text
step_no_more plan (steps.Look j e) = refl
step_no_more plan (steps.AskFork j e) = refl
step_no_more plan (steps.GiveFork j e) = refl
step_no_more plan (steps.Soil j e) = refl
step_no_more plan (steps.AskBottles j e set) = refl
step_no_more plan (steps.GiveBottles j e set) = refl
step_no_more plan (steps.Thirst j) = refl
step_no_more plan (steps.Hunger j) = refl
step_no_more plan (steps.Sit j) = refl
step_no_more plan (steps.Leave j) = refl
step_no_more plan (steps.Drink j) = refl
step_no_more plan (steps.Reach j) = refl
step_no_more plan (steps.Act j) = refl
step_no_more plan (steps.Quit j) = refl
step_no_more plan (steps.Retire j) = refl
step_no_more plan (steps.Glance j other) = refl
step_no_more plan (steps.Withdraw j) = refl

isnt_more : (line : List ℕ) → bytes_eq (take 6 line) (codes "#more ") ≡ false → is_more line ≡ false
isnt_more line isnt = ap (λ b. nat_le 6 (length line) && b) isnt ∙ and_false (nat_le 6 (length line))

sum_no_more : (text : List ℕ) → bytes_eq (take 6 (sum_line text)) (codes "#more ") ≡ false
unfolding sum_line
sum_no_more text = refl

pub sum_isnt_more : (text : List ℕ) → is_more (sum_line text) ≡ false
sum_isnt_more text = isnt_more (sum_line text) (sum_no_more text)

end_no_more : (text : List ℕ) (ended : Bool) → NoMore (if ended then sum_line text ∷ [] else [])
end_no_more text true = (sum_isnt_more text, tt)
end_no_more text false = tt

inner_no_more : (plan : LabPlan) (l : List Step) (end : List (List ℕ)) → NoMore end → NoMore (map (step_text plan) l ++ end)
inner_no_more plan [] end none = none
inner_no_more plan (x ∷ l) end none = (isnt_more (step_text plan x) (step_no_more plan x), inner_no_more plan l end none)

both_no_more : (a b : List (List ℕ)) → NoMore a → NoMore b → NoMore (a ++ b)
both_no_more [] b p q = q
both_no_more (x ∷ a) b p q = (p.0, both_no_more a b p.1 q)

pub piece_no_more : (plan : LabPlan) (piece : Piece) → NoMore (piece_lines plan piece)
piece_no_more plan piece =
    (refl, inner_no_more plan (map step_of piece.events) (end_lines plan piece) (end_no_more (lines_text plan piece.events) piece.ended))

pieces_no_more : (plan : LabPlan) (pieces : List Piece) → NoMore (all_lines plan pieces)
pieces_no_more plan [] = tt
pieces_no_more plan (piece ∷ pieces) =
    both_no_more (piece_lines plan piece) (all_lines plan pieces) (piece_no_more plan piece) (pieces_no_more plan pieces)

pub head_has_none : (n : ℕ) (front rest : List (List ℕ)) → list_any is_steps_line front ≡ false
    → additions_behind n (front ++ codes "steps" ∷ rest) ≡ additions_from (n + length front + 1) rest
head_has_none n [] rest none = (let same : n + 1 ≡ n + 0 + 1 = omega arith in ap (λ k. additions_from k rest) same)
head_has_none n (line ∷ front) rest none =
    let parts = neither (is_steps_line line) (list_any is_steps_line front) none in
    let same : n + 1 + length front + 1 ≡ n + suc (length front) + 1 = omega arith in
    ap (λ b. if b then additions_from (n + 1) (front ++ codes "steps" ∷ rest) else additions_behind (n + 1) (front ++ codes "steps" ∷ rest)) (not_steps line parts.0)
    ∙ head_has_none (n + 1) front rest parts.1 ∙ ap (λ k. additions_from k rest) same

-- ---- the law

pub files_are_read : StepsGiveEvents → FilesAreRead
files_are_read give plan script pieces is means legal few =
    let all : AllByRecursion (IsNameable plan) (map step_of (events_of pieces)) = all_nameable plan (the_opening plan) (events_of pieces) legal in
    let each = pieces_nameable plan pieces all in
    let h = script_head_is plan script means in
    let n = length h.front + 2 in
    let tail = flat_map (piece_text plan) pieces in
    let lines = lines_of_pieces plan pieces is each in
    let cut : text_lines (script_head script ++ tail) ≡ h.front ++ codes "steps" ∷ all_lines plan pieces = h.cut tail ∙ ap (λ l. h.front ++ codes "steps" ∷ l) lines in
    let found = steps_at plan n pieces in
    let same = all_steps plan n pieces in
    let many : length found ≡ length (events_of pieces) = sym (length-map found step) ∙ ap length same ∙ length-map (events_of pieces) step_of in record {
      steps = found;
      means = joined plan h.front (all_lines plan pieces) found h.means (pieces_list plan n pieces is each) (omega (arith, few, many)) (script_head script ++ tail) cut;
      events_are = ap (step_events plan (the_opening plan)) same ∙ give plan (the_opening plan) (events_of pieces) legal;
      sums = ap (wrong_behind 1) cut ∙ head_passed 1 h.front (all_lines plan pieces) (no_steps_line h.front plan h.means)
          ∙ pieces_right plan pieces (1 + length h.front + 1) [];
      none_came = ap (additions_behind 1) cut ∙ head_has_none 1 h.front (all_lines plan pieces) (no_steps_line h.front plan h.means)
          ∙ none_from (1 + length h.front + 1) (all_lines plan pieces) (pieces_no_more plan pieces);
    }
