-- A lab's journal that was cut anywhere has the first of its parts.
use Rattle.std.proofs.Common.{◌≡◌, ◌≢◌, ℕ, zero, suc, ◌+◌, ◌<◌, ◌≤◌, Bool, true, false, not, ◌&&◌, if◌then◌else◌, List, [], ◌∷◌, ◌++◌, length, map, take, get_or, refl, sym, ap, ◌∙◌, subst, inl, inr, ⊎_elim, arith, append_assoc, append-nil, length-append}
use Rattle.std.specs.Prelude.{codes}
use Rattle.std.specs.List.{AllByRecursion, list_all}
use Rattle.std.proofs.lemmas.Bool.{and_parts, cases_eq, ne_eqb}
use Rattle.std.proofs.lemmas.List.{length-take, take_all}
use Rattle.lab_plan.specs.LabPlan.{LabPlan, SessionPlan, sessions}
use Rattle.lab_plan.specs.IsPlan.{IsPlan}
use Rattle.lab_plan.specs.Longer.{with_one_more}
use Rattle.lab_plan.proofs.OneMore.{granted, plan_more}
use Rattle.legal_steps.specs.declared.event.Event.{Event}
use Rattle.legal_steps.specs.State.{State}
use Rattle.legal_steps.specs.Fitting.{Fits}
use Rattle.legal_steps.specs.Opening.{the_opening}
use Rattle.legal_steps.specs.Legal.{after}
use Rattle.legal_steps.specs.Run.{IsLegalFrom, Runs, after_all}
use Rattle.legal_steps.proofs.RunLemmas.{legal_take}
use Rattle.legal_steps.proofs.OpeningLemmas.{fits_opening}
use Rattle.legal_steps.proofs.ReachedLaws.{the_opening_is_acyclic}
use Rattle.longer_plans.proofs.Once.{taken_is_longer}
use Rattle.longer_plans.proofs.Stays.{stays_legal}
use Rattle.longer_plans.proofs.States.{still_fits, opens_the_same}
use Rattle.round_trace.specs.StepsOf.{step_of}
use Rattle.step_texts.specs.StepTexts.{step_text}
use Rattle.written_steps.proofs.TextLines.{IsOneLine, is_inside, closed, closed-append}
use Rattle.journal_texts.specs.Texts.{Piece, lines_text, sum_line, piece_text}
use Rattle.journal_texts.specs.More.{more_lines, begun, broken}
use Rattle.journal_texts.specs.Parts.{Mark, Part, Took, Came, Broke, Said, Noted, plan_after, events_in, said, mark_line, marks_text, AreMarks, came_text, parts_text, AreTaken, IsHistory, IsLeftOf, AreFirst}
use Rattle.journal_texts.specs.Reading.{CutsAreParts}
use Rattle.journal_texts.proofs.SessionBack.{closed_all, AreShown}
use Rattle.journal_texts.proofs.PieceLines.{inner_lines, piece_lines, end_lines, sum_one, plain_one}
use Rattle.journal_texts.proofs.MoreLines.{more_all, more_closed, more_part, closing, body, body_end, broke_part, broken_closed, all_shown, of_body, note_part, mark_plain, marks_closed}
use Rattle.journal_texts.proofs.SamePlans.{alike_self}
use Rattle.journal_texts.proofs.Parts.{base_text, parts_same, base_lines, AreNamed, named_parts, names_stay, after_alike}
use Rattle.journal_texts.proofs.Beginnings.{Ends, some_lines, no_feed, piece_closed, shown_one, both_one, steps_one, end_one, map_take, take_two, end_taken}

-- ---- a text: its whole lines, and a rest

record IsSplit (l : List ℕ) : Type 0 where
  whole : List ℕ
  rest : List ℕ
  same : l ≡ whole ++ rest
  ends : Ends whole
  one : IsOneLine rest

split : (l : List ℕ) → IsSplit l
split [] = record { whole = []; rest = []; same = refl; ends = inl refl; one = refl }
split (x ∷ l) =
    let s = split l in
    ⊎_elim
    (λ none. at_first x l s none)
    (λ fed. record { whole = x ∷ s.whole; rest = s.rest; same = ap (λ z. x ∷ z) s.same; ends = inr (x ∷ fed.0, ap (λ z. x ∷ z) fed.1); one = s.one })
    s.ends
  where
    at_first : (x : ℕ) (l : List ℕ) (s : IsSplit l) → s.whole ≡ [] → IsSplit (x ∷ l)
    at_first x l s none =
        let same : l ≡ s.rest = s.same ∙ ap (λ z. z ++ s.rest) none in
        ⊎_elim
        (λ is. record { whole = x ∷ []; rest = s.rest; same = ap (λ z. x ∷ z) same; ends = inr ([], ap (λ k. k ∷ []) is); one = s.one })
        (λ other. let here : is_inside x ≡ true = ap not (ne_eqb x 10 other) in
        record { whole = []; rest = x ∷ s.rest; same = ap (λ z. x ∷ z) same; ends = inl refl; one = λ i. here i && s.one i })
        (cases_eq x 10)

none_inside : (l : List ℕ) (k : ℕ) → IsOneLine l → k < length l → get_or l k 0 ≢ 10
none_inside [] k one below = absurd (omega (arith, below))
none_inside (x ∷ l) zero one below = no_feed x (and_parts (is_inside x) (list_all is_inside l) one).0
none_inside (x ∷ l) (suc k) one below = none_inside l k (and_parts (is_inside x) (list_all is_inside l) one).1 (omega (arith, below))

-- ---- the texts of parts, as lines

same_closed : (lines : List (List ℕ)) → closed_all lines ≡ closed lines
same_closed [] = refl
same_closed (line ∷ lines) = ap (λ l. line ++ 10 ∷ l) (same_closed lines)

end_is : (lines : List ℕ) (ended : Bool) → (if ended then sum_line lines ++ codes "\n" else []) ≡ closed (closing lines ended)
end_is lines true = refl
end_is lines false = refl

begun_closed : (lines : List ℕ) (own : List (List ℕ)) (ended : Bool) → lines ≡ closed own → begun lines ended ≡ closed (codes "#steps" ∷ (own ++ closing lines ended))
begun_closed lines own ended is =
    (λ i. codes "#steps\n" ++ is i ++ end_is lines ended i)
    ∙ append_assoc (codes "#steps\n") (closed own) (closed (closing lines ended))
    ∙ ap (λ l. codes "#steps\n" ++ l) (sym (closed-append own (closing lines ended)))

text_closed : (plan p : LabPlan) (parts : List Part) → base_text plan p parts ≡ closed (base_lines plan p parts)
text_closed plan p [] = refl
text_closed plan p (Took piece ∷ parts) =
    (λ i. piece_closed plan piece i ++ text_closed plan p parts i) ∙ sym (closed-append (piece_lines plan piece) (base_lines plan p parts))
text_closed plan p (Came j session ended ∷ parts) =
    let q = with_one_more p j session in
    let own = begun_closed (more_lines p j session) (more_all p j session) ended (more_closed p j session ∙ same_closed (more_all p j session)) in
    (λ i. own i ++ text_closed plan q parts i) ∙ sym (closed-append (more_part p j session ended) (base_lines plan q parts))
text_closed plan p (Broke j session many ∷ parts) =
    let own = broken_closed p j session many ∙ same_closed (broke_part p j session many) in
    (λ i. own i ++ text_closed plan p parts i) ∙ sym (closed-append (broke_part p j session many) (base_lines plan p parts))
text_closed plan p (Said words ∷ parts) =
    append_assoc (said words) (codes "\n") (base_text plan p parts) ∙ ap (λ l. said words ++ 10 ∷ l) (text_closed plan p parts)
text_closed plan p (Noted marks ended ∷ parts) =
    let own = begun_closed (marks_text marks) (map mark_line marks) ended (marks_closed marks ∙ same_closed (map mark_line marks)) in
    (λ i. own i ++ text_closed plan p parts i) ∙ sym (closed-append (note_part marks ended) (base_lines plan p parts))

all_one : (lines : List (List ℕ)) → AreShown lines → AllByRecursion IsOneLine lines
all_one [] all = tt
all_one (line ∷ lines) all = (shown_one line all.0, all_one lines all.1)

closing_one : (lines : List ℕ) (ended : Bool) → AllByRecursion IsOneLine (closing lines ended)
closing_one lines true = (sum_one lines, tt)
closing_one lines false = tt

marks_one : (marks : List Mark) → AreMarks marks → AllByRecursion IsOneLine (map mark_line marks)
marks_one [] all = tt
marks_one (m ∷ marks) all = (plain_one (mark_line m) (mark_plain m all.0), marks_one marks all.1)

each_one : (plan p : LabPlan) (parts : List Part) → IsPlan plan → IsPlan p → AreTaken p parts → AreNamed plan parts → AllByRecursion IsOneLine (base_lines plan p parts)
each_one plan p [] first is taken named = tt
each_one plan p (Took piece ∷ parts) first is taken named =
    let both = named_parts plan piece parts named in
    both_one (piece_lines plan piece) (base_lines plan p parts) (
      refl,
      both_one (map (step_text plan) (map step_of piece.events)) (end_lines plan piece) (steps_one plan (map step_of piece.events) first both.0)
          (end_one plan piece.events piece.ended),
    )
    (each_one plan p parts first is taken both.1)
each_one plan p (Came j session ended ∷ parts) first is taken named =
    let may = granted p j session taken.1 in
    let q = with_one_more p j session in
    both_one (more_part p j session ended) (base_lines plan q parts) (
      refl,
      both_one (more_all p j session) (closing (more_lines p j session) ended) (all_one (more_all p j session) (all_shown p j session is taken.0 may))
          (closing_one (more_lines p j session) ended),
    )
    (each_one plan q parts first (plan_more p j session taken.0 may is) taken.2 named)
each_one plan p (Broke j session many ∷ parts) first is taken named =
    let may = granted p j session taken.1 in
    both_one (broke_part p j session many) (base_lines plan p parts)
    (refl, of_body IsOneLine p j session many (all_one (more_all p j session) (all_shown p j session is taken.0 may)))
    (each_one plan p parts first is taken.2 named)
each_one plan p (Said words ∷ parts) first is taken named = (plain_one (said words) taken.0, each_one plan p parts first is taken.1 named)
each_one plan p (Noted marks ended ∷ parts) first is taken named =
    both_one (note_part marks ended) (base_lines plan p parts)
    (refl, both_one (map mark_line marks) (closing (marks_text marks) ended) (marks_one marks taken.0) (closing_one (marks_text marks) ended))
    (each_one plan p parts first is taken.1 named)

-- ---- some lines of parts are the first of them

-- what is left of one part
record IsLeft (plan p : LabPlan) (lines : List (List ℕ)) (part : Part) : Type 0 where
  left : Part
  lines_are : codes "#steps" ∷ lines ≡ base_lines plan p (left ∷ [])
  is_left : IsLeftOf left part

left_piece : (plan p : LabPlan) (piece : Piece) (n : ℕ) → IsLeft plan p (take n (inner_lines plan piece)) (Took piece)
left_piece plan p piece n =
    let l = piece.events in
    let own = map (step_text plan) (map step_of l) in
    ⊎_elim
    (λ is. let some : Piece = record { events = take n l; ended = false } in record {
      left = Took some;
      lines_are = ap (λ (z : List (List ℕ)). codes "#steps" ∷ z) (is ∙ (map_take (step_text plan) n (map step_of l)
          ∙ ap (map (step_text plan)) (map_take step_of n l) ∙ sym (append-nil (map (step_text plan) (map step_of (take n l))))))
          ∙ sym (append-nil (piece_lines plan some));
      is_left = (n, refl);
    })
    (λ more. let end = end_taken more.0 piece.ended (sum_line (lines_text plan l)) in
    let some : Piece = record { events = l; ended = end.0 } in record {
      left = Took some;
      lines_are = ap (λ (z : List (List ℕ)). codes "#steps" ∷ z) (more.1 ∙ ap (λ (z : List (List ℕ)). own ++ z) end.1) ∙ sym (append-nil (piece_lines plan some));
      is_left = (length l, sym (take_all (length l) l (omega arith)));
    })
    (take_two n own (end_lines plan piece))

left_broken : (plan p : LabPlan) (j : ℕ) (session : SessionPlan) (lines : List (List ℕ)) (many : ℕ) (part : Part) → lines ≡ take many (body p j session)
    → IsLeftOf (Broke j session many) part → IsLeft plan p lines part
left_broken plan p j session lines many part is left = record {
  left = Broke j session many;
  lines_are = ap (λ (z : List (List ℕ)). codes "#steps" ∷ z) is ∙ sym (append-nil (broke_part p j session many));
  is_left = left;
}

left_more : (plan p : LabPlan) (j : ℕ) (session : SessionPlan) (ended : Bool) (n : ℕ)
    → IsLeft plan p (take n (more_all p j session ++ closing (more_lines p j session) ended)) (Came j session ended)
left_more plan p j session ended n =
    let own = body p j session in
    let lines = more_lines p j session in
    let end : Bool → List (List ℕ) = λ b. codes "#+end" ∷ closing lines b in
    let cut : (b : Bool) → more_all p j session ++ closing lines b ≡ own ++ end b =
    λ b. ap (λ (l : List (List ℕ)). l ++ closing lines b) (body_end p j session) ∙ append_assoc own (codes "#+end" ∷ []) (closing lines b) in
    let here : take n (more_all p j session ++ closing lines ended) ≡ take n (own ++ end ended) = ap (take n) (cut ended) in
    ⊎_elim
    (λ is. left_broken plan p j session (take n (more_all p j session ++ closing lines ended)) n (Came j session ended) (here ∙ is) (refl, refl))
    (λ more. behind (take n (more_all p j session ++ closing lines ended)) more.0 (here ∙ more.1) cut)
    (take_two n own (end ended))
  where
    behind : (found : List (List ℕ)) (m : ℕ) → found ≡ body p j session ++ take m (codes "#+end" ∷ closing (more_lines p j session) ended)
        → ((b : Bool) → more_all p j session ++ closing (more_lines p j session) b ≡ body p j session ++ codes "#+end" ∷ closing (more_lines p j session) b)
        → IsLeft plan p found (Came j session ended)
    behind found zero is cut =
        left_broken plan p j session found (length (body p j session)) (Came j session ended)
        (is ∙ (append-nil (body p j session) ∙ sym (take_all (length (body p j session)) (body p j session) (omega arith)))) (refl, refl)
    behind found (suc k) is cut =
        let end = end_taken k ended (sum_line (more_lines p j session)) in record {
          left = Came j session end.0;
          lines_are = ap (λ (z : List (List ℕ)). codes "#steps" ∷ z) (is ∙ (ap (λ (z : List (List ℕ)). body p j session ++ codes "#+end" ∷ z) end.1 ∙ sym (cut end.0)))
              ∙ sym (append-nil (more_part p j session end.0));
          is_left = (refl, refl);
        }

mark_take : (n : ℕ) (marks : List Mark) → take n (map mark_line marks) ≡ map mark_line (take n marks)
mark_take zero marks = refl
mark_take (suc n) [] = refl
mark_take (suc n) (m ∷ marks) = ap (λ (l : List (List ℕ)). mark_line m ∷ l) (mark_take n marks)

left_marks : (plan p : LabPlan) (marks : List Mark) (ended : Bool) (n : ℕ)
    → IsLeft plan p (take n (map mark_line marks ++ closing (marks_text marks) ended)) (Noted marks ended)
left_marks plan p marks ended n =
    let own = map mark_line marks in
    ⊎_elim
    (λ is. let some = take n marks in record {
      left = Noted some false;
      lines_are = ap (λ (z : List (List ℕ)). codes "#steps" ∷ z) (is ∙ (mark_take n marks ∙ sym (append-nil (map mark_line some))))
          ∙ sym (append-nil (note_part some false));
      is_left = (n, refl);
    })
    (λ more. let end = end_taken more.0 ended (sum_line (marks_text marks)) in record {
      left = Noted marks end.0;
      lines_are = ap (λ (z : List (List ℕ)). codes "#steps" ∷ z) (more.1 ∙ ap (λ (z : List (List ℕ)). own ++ z) end.1)
          ∙ sym (append-nil (note_part marks end.0));
      is_left = (length marks, sym (take_all (length marks) marks (omega arith)));
    })
    (take_two n own (closing (marks_text marks) ended))

take_take : (n m : ℕ) (l : List (List ℕ)) → (k : ℕ) × (take n (take m l) ≡ take k l)
take_take zero m l = (0, refl)
take_take (suc n) zero l = (0, refl)
take_take (suc n) (suc m) [] = (0, refl)
take_take (suc n) (suc m) (x ∷ l) = let r = take_take n m l in (suc r.0, ap (λ (z : List (List ℕ)). x ∷ z) r.1)

record AreLeft (plan p : LabPlan) (lines : List (List ℕ)) (parts : List Part) : Type 0 where
  first : List Part
  lines_are : lines ≡ base_lines plan p first
  are_first : AreFirst first parts

only : (plan p : LabPlan) (lines found : List (List ℕ)) (part : Part) (parts : List Part) → found ≡ codes "#steps" ∷ lines → IsLeft plan p lines part
    → AreLeft plan p found (part ∷ parts)
only plan p lines found part parts is l = record { first = l.left ∷ []; lines_are = is ∙ l.lines_are; are_first = inr (refl, l.is_left) }

first_parts : (plan p : LabPlan) (parts : List Part) (n : ℕ) → AreLeft plan p (take n (base_lines plan p parts)) parts
first_parts plan p [] zero = record { first = []; lines_are = refl; are_first = tt }
first_parts plan p [] (suc n) = record { first = []; lines_are = refl; are_first = tt }
first_parts plan p (part ∷ parts) zero = record { first = []; lines_are = refl; are_first = tt }
first_parts plan p (Took piece ∷ parts) (suc n) =
    let rest = base_lines plan p parts in
    ⊎_elim
    (λ is. only plan p (take n (inner_lines plan piece)) (codes "#steps" ∷ take n (inner_lines plan piece ++ rest)) (Took piece) parts
    (ap (λ (z : List (List ℕ)). codes "#steps" ∷ z) is) (left_piece plan p piece n))
    (λ more. let later = first_parts plan p parts more.0 in record {
      first = Took piece ∷ later.first;
      lines_are = ap (λ (z : List (List ℕ)). codes "#steps" ∷ z) (more.1 ∙ ap (λ (z : List (List ℕ)). inner_lines plan piece ++ z) later.lines_are);
      are_first = inl (refl, later.are_first);
    })
    (take_two n (inner_lines plan piece) rest)
first_parts plan p (Came j session ended ∷ parts) (suc n) =
    let q = with_one_more p j session in
    let rest = base_lines plan q parts in
    let own = more_all p j session ++ closing (more_lines p j session) ended in
    ⊎_elim
    (λ is. only plan p (take n own) (codes "#steps" ∷ take n (own ++ rest)) (Came j session ended) parts
    (ap (λ (z : List (List ℕ)). codes "#steps" ∷ z) is) (left_more plan p j session ended n))
    (λ more. let later = first_parts plan q parts more.0 in record {
      first = Came j session ended ∷ later.first;
      lines_are = ap (λ (z : List (List ℕ)). codes "#steps" ∷ z) (more.1 ∙ ap (λ (z : List (List ℕ)). own ++ z) later.lines_are);
      are_first = inl (refl, later.are_first);
    })
    (take_two n own rest)
first_parts plan p (Broke j session many ∷ parts) (suc n) =
    let rest = base_lines plan p parts in
    let own = take many (body p j session) in
    let fewer = take_take n many (body p j session) in
    ⊎_elim
    (λ is. only plan p (take n own) (codes "#steps" ∷ take n (own ++ rest)) (Broke j session many) parts
    (ap (λ (z : List (List ℕ)). codes "#steps" ∷ z) is) (left_broken plan p j session (take n own) fewer.0 (Broke j session many) fewer.1 (refl, refl)))
    (λ more. let later = first_parts plan p parts more.0 in record {
      first = Broke j session many ∷ later.first;
      lines_are = ap (λ (z : List (List ℕ)). codes "#steps" ∷ z) (more.1 ∙ ap (λ (z : List (List ℕ)). own ++ z) later.lines_are);
      are_first = inl (refl, later.are_first);
    })
    (take_two n own rest)
first_parts plan p (Said words ∷ parts) (suc n) =
    let later = first_parts plan p parts n in record {
      first = Said words ∷ later.first;
      lines_are = ap (λ (z : List (List ℕ)). said words ∷ z) later.lines_are;
      are_first = inl (refl, later.are_first);
    }
first_parts plan p (Noted marks ended ∷ parts) (suc n) =
    let rest = base_lines plan p parts in
    let own = map mark_line marks ++ closing (marks_text marks) ended in
    ⊎_elim
    (λ is. only plan p (take n own) (codes "#steps" ∷ take n (own ++ rest)) (Noted marks ended) parts
    (ap (λ (z : List (List ℕ)). codes "#steps" ∷ z) is) (left_marks plan p marks ended n))
    (λ more. let later = first_parts plan p parts more.0 in record {
      first = Noted marks ended ∷ later.first;
      lines_are = ap (λ (z : List (List ℕ)). codes "#steps" ∷ z) (more.1 ∙ ap (λ (z : List (List ℕ)). own ++ z) later.lines_are);
      are_first = inl (refl, later.are_first);
    })
    (take_two n own rest)

-- ---- histories

pub taken_of : (plan : LabPlan) (s : State) (parts : List Part) → IsHistory plan s parts → AreTaken plan parts
taken_of plan s [] h = tt
taken_of plan s (Took piece ∷ parts) h = taken_of plan (after_all plan s piece.events) parts h.1
taken_of plan s (Came j session ended ∷ parts) h = (h.0, h.1, taken_of (with_one_more plan j session) s parts h.3)
taken_of plan s (Broke j session many ∷ parts) h = (h.0, h.1, taken_of plan s parts h.2)
taken_of plan s (Said words ∷ parts) h = (h.0, taken_of plan s parts h.1)
taken_of plan s (Noted marks ended ∷ parts) h = (h.0, taken_of plan s parts h.1)

take_marks : (n : ℕ) (marks : List Mark) → AreMarks marks → AreMarks (take n marks)
take_marks zero marks all = tt
take_marks (suc n) [] all = tt
take_marks (suc n) (m ∷ marks) all = (all.0, take_marks n marks all.1)

one_left : (plan : LabPlan) (s : State) (part all : Part) (parts : List Part) → IsLeftOf part all → IsHistory plan s (all ∷ parts) → IsHistory plan s (part ∷ [])
one_left plan s (Took a) (Took b) parts is h = (subst (IsLegalFrom plan s) (sym is.1) (legal_take plan s b.events is.0 h.0), tt)
one_left plan s (Came j session ended) (Came k other whole) parts is h =
    subst (λ (z : ℕ × SessionPlan). IsHistory plan s (Came z.0 z.1 ended ∷ [])) (λ i. (sym is.0 i, sym is.1 i)) (h.0, h.1, h.2, tt)
one_left plan s (Broke j session many) (Came k other whole) parts is h =
    subst (λ (z : ℕ × SessionPlan). IsHistory plan s (Broke z.0 z.1 many ∷ [])) (λ i. (sym is.0 i, sym is.1 i)) (h.0, h.1, tt)
one_left plan s (Broke j session many) (Broke k other more) parts is h =
    subst (λ (z : ℕ × SessionPlan). IsHistory plan s (Broke z.0 z.1 many ∷ [])) (λ i. (sym is.0 i, sym is.1 i)) (h.0, h.1, tt)
one_left plan s (Took a) (Came k other whole) parts is h = absurd is
one_left plan s (Took a) (Broke k other more) parts is h = absurd is
one_left plan s (Came j session ended) (Took b) parts is h = absurd is
one_left plan s (Came j session ended) (Broke k other more) parts is h = absurd is
one_left plan s (Broke j session many) (Took b) parts is h = absurd is
one_left plan s (Took a) (Said words) parts is h = absurd is
one_left plan s (Came j session ended) (Said words) parts is h = absurd is
one_left plan s (Broke j session many) (Said words) parts is h = absurd is
one_left plan s (Noted a ended) (Noted b whole) parts is h =
    (subst AreMarks (sym is.1) (take_marks is.0 b h.0), tt)
one_left plan s (Took a) (Noted marks ended) parts is h = absurd is
one_left plan s (Came j session ended) (Noted marks whole) parts is h = absurd is
one_left plan s (Broke j session many) (Noted marks ended) parts is h = absurd is
one_left plan s (Noted marks ended) (Took b) parts is h = absurd is
one_left plan s (Noted marks ended) (Came k other whole) parts is h = absurd is
one_left plan s (Noted marks ended) (Broke k other more) parts is h = absurd is
one_left plan s (Noted marks ended) (Said words) parts is h = absurd is
one_left plan s (Said words) all parts is h = absurd is

pub first_history : (plan : LabPlan) (s : State) (first parts : List Part) → AreFirst first parts → IsHistory plan s parts → IsHistory plan s first
first_history plan s [] parts f h = tt
first_history plan s (x ∷ first) [] f h = absurd f
first_history plan s (x ∷ first) (Took piece ∷ parts) (inl both) h =
    subst (λ (z : Part). IsHistory plan s (z ∷ first)) (sym both.0) (h.0, first_history plan (after_all plan s piece.events) first parts both.1 h.1)
first_history plan s (x ∷ first) (Came j session ended ∷ parts) (inl both) h =
    subst (λ (z : Part). IsHistory plan s (z ∷ first)) (sym both.0) (h.0, h.1, h.2, first_history (with_one_more plan j session) s first parts both.1 h.3)
first_history plan s (x ∷ first) (Broke j session many ∷ parts) (inl both) h =
    subst (λ (z : Part). IsHistory plan s (z ∷ first)) (sym both.0) (h.0, h.1, first_history plan s first parts both.1 h.2)
first_history plan s (x ∷ first) (Said words ∷ parts) (inl both) h =
    subst (λ (z : Part). IsHistory plan s (z ∷ first)) (sym both.0) (h.0, first_history plan s first parts both.1 h.1)
first_history plan s (x ∷ first) (Noted marks ended ∷ parts) (inl both) h =
    subst (λ (z : Part). IsHistory plan s (z ∷ first)) (sym both.0) (h.0, first_history plan s first parts both.1 h.1)
first_history plan s (x ∷ first) (y ∷ parts) (inr both) h =
    subst (λ (l : List Part). IsHistory plan s (x ∷ l)) (sym both.0) (one_left plan s x y parts both.1 h)

-- they have no more events
left_fewer : (part all : Part) (parts : List Part) → IsLeftOf part all → length (events_in (part ∷ [])) ≤ length (events_in (all ∷ parts))
left_fewer (Took a) (Took b) parts is =
    let size : length a.events ≡ length (take is.0 b.events) = ap (λ (l : List Event). length l) is.1 in
    omega (arith, size, length-take is.0 b.events, length-append a.events [], length-append b.events (events_in parts))
left_fewer (Came j session ended) (Came k other whole) parts is = omega arith
left_fewer (Broke j session many) (Came k other whole) parts is = omega arith
left_fewer (Broke j session many) (Broke k other more) parts is = omega arith
left_fewer (Took a) (Came k other whole) parts is = absurd is
left_fewer (Took a) (Broke k other more) parts is = absurd is
left_fewer (Came j session ended) (Took b) parts is = absurd is
left_fewer (Came j session ended) (Broke k other more) parts is = absurd is
left_fewer (Broke j session many) (Took b) parts is = absurd is
left_fewer (Took a) (Said words) parts is = absurd is
left_fewer (Came j session ended) (Said words) parts is = absurd is
left_fewer (Broke j session many) (Said words) parts is = absurd is
left_fewer (Noted a ended) (Noted b whole) parts is = omega arith
left_fewer (Took a) (Noted marks ended) parts is = absurd is
left_fewer (Came j session ended) (Noted marks whole) parts is = absurd is
left_fewer (Broke j session many) (Noted marks ended) parts is = absurd is
left_fewer (Noted marks ended) (Took b) parts is = absurd is
left_fewer (Noted marks ended) (Came k other whole) parts is = absurd is
left_fewer (Noted marks ended) (Broke k other more) parts is = absurd is
left_fewer (Noted marks ended) (Said words) parts is = absurd is
left_fewer (Said words) all parts is = absurd is

with_same : (part : Part) (first parts : List Part) → length (events_in first) ≤ length (events_in parts)
    → length (events_in (part ∷ first)) ≤ length (events_in (part ∷ parts))
with_same (Took piece) first parts h = omega (arith, h, length-append piece.events (events_in first), length-append piece.events (events_in parts))
with_same (Came j session ended) first parts h = h
with_same (Broke j session many) first parts h = h
with_same (Said words) first parts h = h
with_same (Noted marks ended) first parts h = h

pub first_fewer : (first parts : List Part) → AreFirst first parts → length (events_in first) ≤ length (events_in parts)
first_fewer [] parts f = omega arith
first_fewer (x ∷ first) [] f = absurd f
first_fewer (x ∷ first) (y ∷ parts) (inl both) =
    subst (λ (z : Part). length (events_in (z ∷ first)) ≤ length (events_in (y ∷ parts))) (sym both.0) (with_same y first parts (first_fewer first parts both.1))
first_fewer (x ∷ first) (y ∷ parts) (inr both) =
    subst (λ (l : List Part). length (events_in (x ∷ l)) ≤ length (events_in (y ∷ parts))) (sym both.0) (left_fewer x y parts both.1)

-- the state behind them, each event by the plan as it then was
abbrev pub state_after : LabPlan → State → List Part → State
state_after plan s [] = s
state_after plan s (Took piece ∷ parts) = state_after plan (after_all plan s piece.events) parts
state_after plan s (Came j session ended ∷ parts) = state_after (with_one_more plan j session) s parts
state_after plan s (Broke j session many ∷ parts) = state_after plan s parts
state_after plan s (Said words ∷ parts) = state_after plan s parts
state_after plan s (Noted marks ended ∷ parts) = state_after plan s parts

pub legal_both : (plan : LabPlan) (s : State) (a b : List Event) → IsLegalFrom plan s a → IsLegalFrom plan (after_all plan s a) b → IsLegalFrom plan s (a ++ b)
legal_both plan s [] b l m = m
legal_both plan s (x ∷ a) b l m = (l.0, legal_both plan (after plan s x) a b l.1 m)

pub after_both : (plan : LabPlan) (s : State) (a b : List Event) → after_all plan s (a ++ b) ≡ after_all plan (after_all plan s a) b
after_both plan s [] b = refl
after_both plan s (x ∷ a) b = after_both plan (after plan s x) a b

-- all events are legal by the plan that it comes to, and lead to that state
runs_by_last : (p : LabPlan) (o s : State) (before : List Event) (parts : List Part) → Fits p o → Runs p o before s → IsHistory p s parts
    → Runs (plan_after p parts) o (before ++ events_in parts) (state_after p s parts)
runs_by_last p o s before [] fit run h = subst (λ (l : List Event). Runs p o l s) (sym (append-nil before)) run
runs_by_last p o s before (Took piece ∷ parts) fit run h =
    let more : IsLegalFrom p (after_all p o before) piece.events = subst (λ (z : State). IsLegalFrom p z piece.events) run.leads h.0 in
    let next : Runs p o (before ++ piece.events) (after_all p s piece.events) = record {
      legal = legal_both p o before piece.events run.legal more;
      leads = ap (λ (z : State). after_all p z piece.events) run.leads ∙ sym (after_both p o before piece.events);
    } in
    subst (λ (l : List Event). Runs (plan_after p parts) o l (state_after p (after_all p s piece.events) parts)) (append_assoc before piece.events (events_in parts))
    (runs_by_last p o (after_all p s piece.events) (before ++ piece.events) parts fit next h.1)
runs_by_last p o s before (Came j session ended ∷ parts) fit run h =
    let q = with_one_more p j session in
    let longer = taken_is_longer p j session h.0 h.1 in
    runs_by_last q o s before parts (still_fits p q j longer o fit) (stays_legal p q j longer o s before fit run h.2) h.3
runs_by_last p o s before (Broke j session many ∷ parts) fit run h = runs_by_last p o s before parts fit run h.2
runs_by_last p o s before (Said words ∷ parts) fit run h = runs_by_last p o s before parts fit run h.1
runs_by_last p o s before (Noted marks ended ∷ parts) fit run h = runs_by_last p o s before parts fit run h.1

pub history_runs : (plan : LabPlan) (parts : List Part) → IsHistory plan (the_opening plan) parts
    → Runs (plan_after plan parts) (the_opening plan) (events_in parts) (state_after plan (the_opening plan) parts)
history_runs plan parts h =
    let o = the_opening plan in
    runs_by_last plan o o [] parts (fits_opening plan o (the_opening_is_acyclic plan).0) (record { legal = tt; leads = refl }) h

pub opening_stays : (p : LabPlan) (parts : List Part) → AreTaken p parts → the_opening (plan_after p parts) ≡ the_opening p
opening_stays p [] taken = refl
opening_stays p (Took piece ∷ parts) taken = opening_stays p parts taken
opening_stays p (Came j session ended ∷ parts) taken =
    let q = with_one_more p j session in
    opening_stays q parts taken.2 ∙ opens_the_same p q j (taken_is_longer p j session taken.0 taken.1)
opening_stays p (Broke j session many ∷ parts) taken = opening_stays p parts taken.2
opening_stays p (Said words ∷ parts) taken = opening_stays p parts taken.1
opening_stays p (Noted marks ended ∷ parts) taken = opening_stays p parts taken.1

pub history_legal : (plan : LabPlan) (parts : List Part) → IsHistory plan (the_opening plan) parts
    → IsLegalFrom (plan_after plan parts) (the_opening (plan_after plan parts)) (events_in parts)
history_legal plan parts h =
    subst (λ (z : State). IsLegalFrom (plan_after plan parts) z (events_in parts)) (sym (opening_stays plan parts (taken_of plan (the_opening plan) parts h)))
    (history_runs plan parts h).legal

-- ---- the law

pub cuts_are_parts : CutsAreParts
cuts_are_parts plan parts front back is h same =
    let o = the_opening plan in
    let taken = taken_of plan o parts h in
    let named = names_stay plan parts taken (history_legal plan parts h) in
    let s = split front in
    let text : s.whole ++ (s.rest ++ back) ≡ closed (base_lines plan plan parts) =
    sym (append_assoc s.whole s.rest back) ∙ (ap (λ (l : List ℕ). l ++ back) (sym s.same)
    ∙ (same ∙ (parts_same plan plan parts (alike_self plan) taken ∙ text_closed plan plan parts))) in
    let some = some_lines (base_lines plan plan parts) s.whole (s.rest ++ back) (each_one plan plan parts is is taken named) text s.ends in
    let left = first_parts plan plan parts some.0 in
    let history = first_history plan o left.first parts left.are_first h in
    let whole : s.whole ≡ parts_text plan left.first =
    some.1 ∙ (ap closed left.lines_are ∙ (sym (text_closed plan plan left.first)
    ∙ sym (parts_same plan plan left.first (alike_self plan) (taken_of plan o left.first history)))) in record {
      first = left.first;
      are_first = left.are_first;
      history = history;
      rest = s.rest;
      text = s.same ∙ ap (λ (l : List ℕ). l ++ s.rest) whole;
      no_line = λ k below. none_inside s.rest k s.one below;
    }

-- ---- parts that come behind

pub plan_both : (plan : LabPlan) (parts more : List Part) → plan_after plan (parts ++ more) ≡ plan_after (plan_after plan parts) more
plan_both plan [] more = refl
plan_both plan (Took piece ∷ parts) more = plan_both plan parts more
plan_both plan (Came j session ended ∷ parts) more = plan_both (with_one_more plan j session) parts more
plan_both plan (Broke j session many ∷ parts) more = plan_both plan parts more
plan_both plan (Said words ∷ parts) more = plan_both plan parts more
plan_both plan (Noted marks ended ∷ parts) more = plan_both plan parts more

pub events_both : (parts more : List Part) → events_in (parts ++ more) ≡ events_in parts ++ events_in more
events_both [] more = refl
events_both (Took piece ∷ parts) more =
    ap (λ (l : List Event). piece.events ++ l) (events_both parts more) ∙ sym (append_assoc piece.events (events_in parts) (events_in more))
events_both (Came j session ended ∷ parts) more = events_both parts more
events_both (Broke j session many ∷ parts) more = events_both parts more
events_both (Said words ∷ parts) more = events_both parts more
events_both (Noted marks ended ∷ parts) more = events_both parts more

pub text_both : (plan : LabPlan) (parts more : List Part) → parts_text plan (parts ++ more) ≡ parts_text plan parts ++ parts_text (plan_after plan parts) more
text_both plan [] more = refl
text_both plan (Took piece ∷ parts) more =
    ap (λ (l : List ℕ). piece_text plan piece ++ l) (text_both plan parts more)
    ∙ sym (append_assoc (piece_text plan piece) (parts_text plan parts) (parts_text (plan_after plan parts) more))
text_both plan (Came j session ended ∷ parts) more =
    let q = with_one_more plan j session in
    let own = came_text q j (length (sessions plan j) + 1) ended in
    ap (λ (l : List ℕ). own ++ l) (text_both q parts more) ∙ sym (append_assoc own (parts_text q parts) (parts_text (plan_after q parts) more))
text_both plan (Broke j session many ∷ parts) more =
    let own = broken plan j session many in
    ap (λ (l : List ℕ). own ++ l) (text_both plan parts more) ∙ sym (append_assoc own (parts_text plan parts) (parts_text (plan_after plan parts) more))
text_both plan (Said words ∷ parts) more =
    let own = said words ++ codes "\n" in
    ap (λ (l : List ℕ). own ++ l) (text_both plan parts more) ∙ sym (append_assoc own (parts_text plan parts) (parts_text (plan_after plan parts) more))
text_both plan (Noted marks ended ∷ parts) more =
    let own = begun (marks_text marks) ended in
    ap (λ (l : List ℕ). own ++ l) (text_both plan parts more) ∙ sym (append_assoc own (parts_text plan parts) (parts_text (plan_after plan parts) more))

pub history_both : (plan : LabPlan) (s : State) (parts more : List Part) → IsHistory plan s parts
    → IsHistory (plan_after plan parts) (state_after plan s parts) more → IsHistory plan s (parts ++ more)
history_both plan s [] more h next = next
history_both plan s (Took piece ∷ parts) more h next = (h.0, history_both plan (after_all plan s piece.events) parts more h.1 next)
history_both plan s (Came j session ended ∷ parts) more h next = (h.0, h.1, h.2, history_both (with_one_more plan j session) s parts more h.3 next)
history_both plan s (Broke j session many ∷ parts) more h next = (h.0, h.1, history_both plan s parts more h.2 next)
history_both plan s (Said words ∷ parts) more h next = (h.0, history_both plan s parts more h.1 next)
history_both plan s (Noted marks ended ∷ parts) more h next = (h.0, history_both plan s parts more h.1 next)

-- ---- a cut behind some parts

pub first_behind : (safe left later : List Part) → AreFirst left later → AreFirst (safe ++ left) (safe ++ later)
first_behind [] left later f = f
first_behind (part ∷ safe) left later f = inl (refl, first_behind safe left later f)

pub taken_both : (plan : LabPlan) (safe later : List Part) → AreTaken plan (safe ++ later) → AreTaken plan safe × AreTaken (plan_after plan safe) later
taken_both plan [] later t = (tt, t)
taken_both plan (Took piece ∷ safe) later t = taken_both plan safe later t
taken_both plan (Came j session ended ∷ safe) later t =
    let more = taken_both (with_one_more plan j session) safe later t.2 in ((t.0, t.1, more.0), more.1)
taken_both plan (Broke j session many ∷ safe) later t = let more = taken_both plan safe later t.2 in ((t.0, t.1, more.0), more.1)
taken_both plan (Said words ∷ safe) later t = let more = taken_both plan safe later t.1 in ((t.0, more.0), more.1)
taken_both plan (Noted marks ended ∷ safe) later t = let more = taken_both plan safe later t.1 in ((t.0, more.0), more.1)

pub plan_behind : (plan : LabPlan) (safe : List Part) → IsPlan plan → AreTaken plan safe → IsPlan (plan_after plan safe)
plan_behind plan [] is t = is
plan_behind plan (Took piece ∷ safe) is t = plan_behind plan safe is t
plan_behind plan (Came j session ended ∷ safe) is t =
    plan_behind (with_one_more plan j session) safe (plan_more plan j session t.0 (granted plan j session t.1) is) t.2
plan_behind plan (Broke j session many ∷ safe) is t = plan_behind plan safe is t.2
plan_behind plan (Said words ∷ safe) is t = plan_behind plan safe is t.1
plan_behind plan (Noted marks ended ∷ safe) is t = plan_behind plan safe is t.1

named_behind : (plan : LabPlan) (safe later : List Part) → AreNamed plan (safe ++ later) → AreNamed plan later
named_behind plan [] later n = n
named_behind plan (Took piece ∷ safe) later n = named_behind plan safe later (named_parts plan piece (safe ++ later) n).1
named_behind plan (Came j session ended ∷ safe) later n = named_behind plan safe later n
named_behind plan (Broke j session many ∷ safe) later n = named_behind plan safe later n
named_behind plan (Said words ∷ safe) later n = named_behind plan safe later n
named_behind plan (Noted marks ended ∷ safe) later n = named_behind plan safe later n

-- what is left of the later ones
pub record IsCutBehind (plan : LabPlan) (safe later : List Part) (tail : List ℕ) : Type 0 where
  pub left : List Part
  pub are_first : AreFirst left later
  pub history : IsHistory plan (the_opening plan) (safe ++ left)
  pub rest : List ℕ
  pub text : tail ≡ parts_text (plan_after plan safe) left ++ rest
  pub no_line : (k : ℕ) → k < length rest → get_or rest k 0 ≢ 10

pub cut_behind : (plan : LabPlan) (safe later : List Part) (tail back : List ℕ) → IsPlan plan → IsHistory plan (the_opening plan) (safe ++ later)
    → tail ++ back ≡ parts_text (plan_after plan safe) later → IsCutBehind plan safe later tail
cut_behind plan safe later tail back is h same =
    let o = the_opening plan in
    let p = plan_after plan safe in
    let taken = taken_of plan o (safe ++ later) h in
    let both = taken_both plan safe later taken in
    let named = named_behind plan safe later (names_stay plan (safe ++ later) taken (history_legal plan (safe ++ later) h)) in
    let alike = after_alike plan plan safe (alike_self plan) both.0 in
    let s = split tail in
    let text : s.whole ++ (s.rest ++ back) ≡ closed (base_lines plan p later) =
    sym (append_assoc s.whole s.rest back) ∙ (ap (λ (l : List ℕ). l ++ back) (sym s.same)
    ∙ (same ∙ (parts_same plan p later alike both.1 ∙ text_closed plan p later))) in
    let some = some_lines (base_lines plan p later) s.whole (s.rest ++ back) (each_one plan p later is (plan_behind plan safe is both.0) both.1 named) text s.ends in
    let left = first_parts plan p later some.0 in
    let history = first_history plan o (safe ++ left.first) (safe ++ later) (first_behind safe left.first later left.are_first) h in
    let mine = taken_both plan safe left.first (taken_of plan o (safe ++ left.first) history) in
    let whole : s.whole ≡ parts_text p left.first =
    some.1 ∙ (ap closed left.lines_are ∙ (sym (text_closed plan p left.first) ∙ sym (parts_same plan p left.first alike mine.1))) in record {
      left = left.first;
      are_first = left.are_first;
      history = history;
      rest = s.rest;
      text = s.same ∙ ap (λ (l : List ℕ). l ++ s.rest) whole;
      no_line = λ k below. none_inside s.rest k s.one below;
    }
