-- A beginning of a journal that ends with a whole line is a journal.
use Rattle.std.proofs.Common.{◌≡◌, ◌⊎◌, ℕ, zero, suc, ◌+◌, ◌-◌, ◌≤◌, Bool, true, false, ◌&&◌, if◌then◌else◌, List, [], ◌∷◌, ◌++◌, length, map, take, get_or, refl, sym, ap, ◌∙◌, subst, inl, inr, ⊎_elim, arith, append_assoc, append-nil}
use Rattle.std.specs.Prelude.{codes}
use Rattle.std.specs.List.{AllByRecursion, flat_map, list_all}
use Rattle.std.proofs.lemmas.Bool.{and_parts}
use Rattle.std.proofs.lemmas.Bool.Decides.{nat_tests}
use Rattle.std.proofs.lemmas.List.{length-take}
use Rattle.lab_plan.specs.LabPlan.{LabPlan}
use Rattle.lab_plan.specs.IsPlan.{IsPlan}
use Rattle.legal_steps.specs.declared.event.Event.{Event}
use Rattle.legal_steps.specs.declared.event.Step.{Step}
use Rattle.legal_steps.specs.Opening.{the_opening}
use Rattle.legal_steps.specs.Run.{IsLegalFrom}
use Rattle.legal_steps.proofs.RunLemmas.{legal_take}
use Rattle.round_trace.specs.StepsOf.{step_of, StepsGiveEvents}
use Rattle.script_reader.proofs.UpgradeText.{is_shown}
use Rattle.step_texts.specs.StepTexts.{step_text}
use Rattle.written_steps.specs.ReadBack.{IsNameable}
use Rattle.written_steps.specs.StepLists.{script_head, step_line, step_lines}
use Rattle.written_steps.proofs.TextLines.{IsOneLine, is_inside, closed, closed-append}
use Rattle.written_steps.proofs.ListsBack.{step_shown}
use Rattle.journal_texts.specs.Texts.{Piece, events_of, lines_text, sum_line, end_text, piece_text}
use Rattle.journal_texts.specs.Lines.{AreWholeLines}
use Rattle.journal_texts.specs.Reading.{IsRead, BeginningsAreRead}
use Rattle.journal_texts.proofs.Read.{all_nameable, pieces_nameable, files_are_read}
use Rattle.journal_texts.proofs.PieceLines.{end_lines, inner_lines, piece_lines, all_lines, AreNameable, sum_one}

-- ---- a beginning of lines, each with its end

-- nothing, or something that ends with a line feed
abbrev pub Ends : List ℕ → Type 0
Ends l = (l ≡ []) ⊎ ((front : List ℕ) × (l ≡ front ++ 10 ∷ []))

head_of : List ℕ → ℕ
head_of [] = 0
head_of (x ∷ l) = x

tail_of : List ℕ → List ℕ
tail_of [] = []
tail_of (x ∷ l) = l

-- behind the first line comes a beginning of the others
record Behind (line front back rest : List ℕ) : Type 0 where
  more : List ℕ
  front_is : front ≡ line ++ 10 ∷ more
  rest_is : more ++ back ≡ rest
  ends : Ends more

pub no_feed : (b : ℕ) → is_inside b ≡ true → b ≡ 10 → ⊥
no_feed b inside is = let h : is_inside 10 ≡ true = subst (λ k. is_inside k ≡ true) is inside in cc

behind : (line front back rest : List ℕ) → IsOneLine line → (front ++ 10 ∷ []) ++ back ≡ line ++ 10 ∷ rest → Behind line (front ++ 10 ∷ []) back rest
unfolding head_of tail_of
behind [] [] back rest one same = record { more = []; front_is = refl; rest_is = ap tail_of same; ends = inl refl }
behind [] (y ∷ front) back rest one same = record {
  more = front ++ 10 ∷ [];
  front_is = ap (λ k. k ∷ (front ++ 10 ∷ [])) (ap head_of same);
  rest_is = ap tail_of same;
  ends = inr (front, refl);
}
behind (b ∷ line) [] back rest one same = absurd (no_feed b (and_parts (is_inside b) (list_all is_inside line) one).0 (sym (ap head_of same)))
behind (b ∷ line) (y ∷ front) back rest one same =
    let h = behind line front back rest (and_parts (is_inside b) (list_all is_inside line) one).1 (ap tail_of same) in record {
      more = h.more;
      front_is = λ i. ap head_of same i ∷ h.front_is i;
      rest_is = h.rest_is;
      ends = h.ends;
    }

-- it is some of the lines
abbrev pub IsSome : List (List ℕ) → List ℕ → Type 0
IsSome lines front = (n : ℕ) × (front ≡ closed (take n lines))

no_more : (front back : List ℕ) → front ++ back ≡ [] → front ≡ []
no_more [] back same = refl
no_more (x ∷ front) back same = let h : length ((x ∷ front) ++ back) ≡ 0 = ap (λ (l : List ℕ). length l) same in absurd (omega (arith, h))

pub some_lines : (lines : List (List ℕ)) (front back : List ℕ) → AllByRecursion IsOneLine lines → front ++ back ≡ closed lines → Ends front → IsSome lines front
some_lines [] front back one same ends = (0, no_more front back same)
some_lines (line ∷ lines) front back one same (inl none) = (0, none)
some_lines (line ∷ lines) front back one same (inr fed) =
    let h = behind line fed.0 back (closed lines) one.0 (ap (λ l. l ++ back) (sym fed.1) ∙ same) in
    let more = some_lines lines h.more back one.1 h.rest_is h.ends in
    (suc more.0, fed.1 ∙ (h.front_is ∙ ap (λ l. line ++ 10 ∷ l) more.1))

-- ---- the text of pieces, as lines

steps_closed : (plan : LabPlan) (l : List Step) → step_lines plan l ≡ closed (map (step_text plan) l)
unfolding step_line
steps_closed plan [] = refl
steps_closed plan (x ∷ l) = append_assoc (step_text plan x) (codes "\n") (step_lines plan l) ∙ ap (λ z. step_text plan x ++ 10 ∷ z) (steps_closed plan l)

end_closed : (plan : LabPlan) (events : List Event) (ended : Bool)
    → (if ended then end_text plan events else []) ≡ closed (if ended then sum_line (lines_text plan events) ∷ [] else [])
end_closed plan events true = refl
end_closed plan events false = refl

pub piece_closed : (plan : LabPlan) (piece : Piece) → piece_text plan piece ≡ closed (piece_lines plan piece)
piece_closed plan piece =
    let own = map (step_text plan) (map step_of piece.events) in
    (λ i. codes "#steps\n" ++ steps_closed plan (map step_of piece.events) i ++ end_closed plan piece.events piece.ended i)
    ∙ append_assoc (codes "#steps\n") (closed own) (closed (end_lines plan piece))
    ∙ ap (λ l. codes "#steps\n" ++ l) (sym (closed-append own (end_lines plan piece)))

pieces_closed : (plan : LabPlan) (pieces : List Piece) → flat_map (piece_text plan) pieces ≡ closed (all_lines plan pieces)
pieces_closed plan [] = refl
pieces_closed plan (piece ∷ pieces) =
    (λ i. piece_closed plan piece i ++ pieces_closed plan pieces i) ∙ sym (closed-append (piece_lines plan piece) (all_lines plan pieces))

-- each of them is one line
pub shown_one : (line : List ℕ) → list_all is_shown line ≡ true → IsOneLine line
shown_one [] h = refl
shown_one (b ∷ line) h =
    let parts = and_parts (is_shown b) (list_all is_shown line) h in
    let here = inside b parts.0 in
    λ i. here i && shown_one line parts.1 i
  where
    inside : (b : ℕ) → is_shown b ≡ true → is_inside b ≡ true
    inside b h = grind (arith, nat_tests, h)

pub both_one : (a b : List (List ℕ)) → AllByRecursion IsOneLine a → AllByRecursion IsOneLine b → AllByRecursion IsOneLine (a ++ b)
both_one [] b p q = q
both_one (x ∷ a) b p q = (p.0, both_one a b p.1 q)

pub steps_one : (plan : LabPlan) (l : List Step) → IsPlan plan → AllByRecursion (IsNameable plan) l → AllByRecursion IsOneLine (map (step_text plan) l)
steps_one plan [] is all = tt
steps_one plan (x ∷ l) is all = (shown_one (step_text plan x) (step_shown plan x is all.0), steps_one plan l is all.1)

pub end_one : (plan : LabPlan) (events : List Event) (ended : Bool) → AllByRecursion IsOneLine (if ended then sum_line (lines_text plan events) ∷ [] else [])
end_one plan events true = (sum_one (lines_text plan events), tt)
end_one plan events false = tt

pieces_one : (plan : LabPlan) (pieces : List Piece) → IsPlan plan → AreNameable plan pieces → AllByRecursion IsOneLine (all_lines plan pieces)
pieces_one plan [] is all = tt
pieces_one plan (piece ∷ pieces) is all =
    both_one (piece_lines plan piece) (all_lines plan pieces) (
      refl,
      both_one (map (step_text plan) (map step_of piece.events)) (end_lines plan piece) (steps_one plan (map step_of piece.events) is all.0)
          (end_one plan piece.events piece.ended),
    )
    (pieces_one plan pieces is all.1)

-- ---- some lines of pieces are pieces

-- of these events the first ones
record AreFirst (plan : LabPlan) (lines : List (List ℕ)) (events : List Event) : Type 0 where
  pieces : List Piece
  lines_are : lines ≡ all_lines plan pieces
  many : ℕ
  events_are : events_of pieces ≡ take many events

pub map_take : {A B : Type 0} (f : A → B) (n : ℕ) (l : List A) → take n (map f l) ≡ map f (take n l)
map_take f zero l = refl
map_take f (suc n) [] = refl
map_take f (suc n) (x ∷ l) = ap (λ z. f x ∷ z) (map_take f n l)

-- taken out of two lists: of the first alone, or of the second behind it
pub take_two : {A : Type 0} (n : ℕ) (a b : List A) → (take n (a ++ b) ≡ take n a) ⊎ ((m : ℕ) × (take n (a ++ b) ≡ a ++ take m b))
take_two zero a b = inl refl
take_two (suc n) [] b = inr (suc n, refl)
take_two (suc n) (x ∷ a) b = ⊎_elim (λ is. inl (ap (λ z. x ∷ z) is)) (λ more. inr (more.0, ap (λ z. x ∷ z) more.1)) (take_two n a b)

as_far : {A : Type 0} (n : ℕ) (a b : List A) → take n a ≡ take (length (take n a)) (a ++ b)
as_far zero a b = refl
as_far (suc n) [] b = refl
as_far (suc n) (x ∷ a) b = ap (λ z. x ∷ z) (as_far n a b)

further : {A : Type 0} (a b : List A) (m : ℕ) → a ++ take m b ≡ take (length a + m) (a ++ b)
further [] b m = (let same : m ≡ 0 + m = omega arith in ap (λ k. take k b) same)
further {A} (x ∷ a) b m = let same : suc (length a + m) ≡ suc (length a) + m = omega arith in
    ap (λ z. x ∷ z) (further a b m) ∙ ap (λ k. take k (x ∷ (a ++ b))) same

none : (m : ℕ) → take {A = List ℕ} m [] ≡ []
none zero = refl
none (suc m) = refl

-- the end line, or none
pub end_taken : (m : ℕ) (ended : Bool) (line : List ℕ)
    → (b : Bool) × (take m (if ended then line ∷ [] else []) ≡ (if b then line ∷ [] else []))
end_taken zero ended line = (false, refl)
end_taken (suc m) true line = (true, ap (λ (z : List (List ℕ)). line ∷ z) (none m))
end_taken (suc m) false line = (false, refl)

one_piece : (plan : LabPlan) (lines : List (List ℕ)) (all : List Event) (piece : Piece) (k : ℕ) → lines ≡ piece_lines plan piece → piece.events ≡ take k all
    → AreFirst plan lines all
one_piece plan lines all piece k is events = record {
  pieces = piece ∷ [];
  lines_are = is ∙ sym (append-nil (piece_lines plan piece));
  many = k;
  events_are = append-nil piece.events ∙ events;
}

no_piece : (plan : LabPlan) (all : List Event) → AreFirst plan [] all
no_piece plan all = record { pieces = []; lines_are = refl; many = 0; events_are = refl }

-- of one piece
inner_first : (plan : LabPlan) (piece : Piece) (later : List Event) (n : ℕ)
    → AreFirst plan (codes "#steps" ∷ take n (inner_lines plan piece)) (piece.events ++ later)
inner_first plan piece later n =
    let l = piece.events in
    let own = map (step_text plan) (map step_of l) in
    ⊎_elim
    (λ is. one_piece plan (codes "#steps" ∷ take n (inner_lines plan piece)) (l ++ later) (record { events = take n l; ended = false }) (length (take n l))
    (ap (λ z. codes "#steps" ∷ z) (is ∙ (map_take (step_text plan) n (map step_of l) ∙ ap (map (step_text plan)) (map_take step_of n l)
    ∙ sym (append-nil (map (step_text plan) (map step_of (take n l))))))) (as_far n l later))
    (λ more. let end = end_taken more.0 piece.ended (sum_line (lines_text plan l)) in
    one_piece plan (codes "#steps" ∷ take n (inner_lines plan piece)) (l ++ later) (record { events = l; ended = end.0 }) (length l + 0)
    (ap (λ z. codes "#steps" ∷ z) (more.1 ∙ ap (λ z. own ++ z) end.1)) (sym (append-nil l) ∙ further l later 0))
    (take_two n own (end_lines plan piece))

first_pieces : (plan : LabPlan) (pieces : List Piece) (n : ℕ) → AreFirst plan (take n (all_lines plan pieces)) (events_of pieces)
first_pieces plan [] zero = no_piece plan []
first_pieces plan [] (suc n) = no_piece plan []
first_pieces plan (piece ∷ pieces) zero = no_piece plan (events_of (piece ∷ pieces))
first_pieces plan (piece ∷ pieces) (suc n) =
    let rest = all_lines plan pieces in
    let all = events_of (piece ∷ pieces) in
    let line = codes "#steps" in
    ⊎_elim
    (λ is. subst (λ z. AreFirst plan (line ∷ z) all) (sym is) (inner_first plan piece (events_of pieces) n))
    (λ more. subst (λ z. AreFirst plan (line ∷ z) all) (sym more.1) (with plan piece pieces (take more.0 rest) (first_pieces plan pieces more.0)))
    (take_two n (inner_lines plan piece) rest)
  where
    with : (plan : LabPlan) (piece : Piece) (pieces : List Piece) (lines : List (List ℕ)) → AreFirst plan lines (events_of pieces)
        → AreFirst plan (codes "#steps" ∷ (inner_lines plan piece ++ lines)) (piece.events ++ events_of pieces)
    with plan piece pieces lines f = record {
      pieces = piece ∷ f.pieces;
      lines_are = ap (λ z. piece_lines plan piece ++ z) f.lines_are;
      many = length piece.events + f.many;
      events_are = ap (λ (z : List Event). piece.events ++ z) f.events_are ∙ further piece.events (events_of pieces) f.many;
    }

-- ---- the law

ends_with : (x : ℕ) (l : List ℕ) → get_or (x ∷ l) (length l) 0 ≡ 10 → (front : List ℕ) × (x ∷ l ≡ front ++ 10 ∷ [])
ends_with x [] is = ([], ap (λ k. k ∷ []) is)
ends_with x (y ∷ l) is = let more = ends_with y l is in (x ∷ more.0, ap (λ z. x ∷ z) more.1)

pub ends_whole : (l : List ℕ) → AreWholeLines l (length l) → Ends l
ends_whole [] whole = inl refl
ends_whole (x ∷ l) whole = inr (ends_with x l (last (length l) whole.ended))
  where
    last : (n : ℕ) → (suc n ≡ 0) ⊎ (get_or (x ∷ l) (suc n - 1) 0 ≡ 10) → get_or (x ∷ l) n 0 ≡ 10
    last n (inl none) = absurd (omega (arith, none))
    last n (inr is) = (let same : n ≡ suc n - 1 = omega arith in ap (λ k. get_or (x ∷ l) k 0) same) ∙ is

pub beginnings_are_read : StepsGiveEvents → BeginningsAreRead
beginnings_are_read give plan script pieces front back is means legal few same whole =
    let each = pieces_nameable plan pieces (all_nameable plan (the_opening plan) (events_of pieces) legal) in
    let some = some_lines (all_lines plan pieces) front back (pieces_one plan pieces is each) (same ∙ pieces_closed plan pieces) (ends_whole front whole) in
    let first = first_pieces plan pieces some.0 in
    let text : front ≡ flat_map (piece_text plan) first.pieces = some.1 ∙ (ap closed first.lines_are ∙ sym (pieces_closed plan first.pieces)) in
    let events = first.events_are in
    let size : length (events_of first.pieces) ≡ length (take first.many (events_of pieces)) = ap (λ (l : List Event). length l) events in
    let less : length (events_of first.pieces) ≤ 1000000 = shorter first.many (events_of pieces) (length (events_of first.pieces)) size few in
    let read = files_are_read give plan script first.pieces is means
    (subst (IsLegalFrom plan (the_opening plan)) (sym events) (legal_take plan (the_opening plan) (events_of pieces) first.many legal)) less in
    (first.many, subst (λ (z : List ℕ × List Event). IsRead plan (script_head script ++ z.0) z.1) (λ i. (sym text i, events i)) read)
  where
    shorter : (n : ℕ) (l : List Event) (k : ℕ) → k ≡ length (take n l) → length l ≤ 1000000 → k ≤ 1000000
    shorter n l k e h = omega (arith, h, e, length-take n l)
