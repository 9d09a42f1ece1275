-- The laws of groups of moves: they are their events, stay of their edge, and are read back from the two words.
use Rattle.std.proofs.Common.{◌≡◌, ℕ, ◌<◌, ◌^◌, Bool, true, false, not, ◌&&◌, ◌==◌, length, bit_xor, arith, refl, sym, ap, ◌∙◌, inl, inr}
use Rattle.std.proofs.lemmas.Bool.{cases_eq}
use Rattle.std.proofs.lemmas.Bool.Decides.{nat_tests}
use Rattle.std.specs.Int.Bits.{xor_self, xor_zero_l, xor_assoc}
use Rattle.std.proofs.lemmas.Nat.{xor_lt, pow_pos}
use Rattle.lab_plan.specs.LabPlan.{LabPlan, bottles}
use Rattle.legal_steps.specs.declared.end.End.{End}
use Rattle.legal_steps.specs.declared.end.End.TheVariants.{Lower, Higher}
use Rattle.legal_steps.specs.declared.edge_state.EdgeState.{EdgeState}
use Rattle.legal_steps.specs.State.{State, edge, end_of, opposite}
use Rattle.legal_steps.specs.Legal.{is_at, fork_asked, fork_given, bottles_asked, bottles_given}
use Rattle.legal_steps.specs.Run.{IsLegalFrom}
use Rattle.edge_word.specs.declared.moves.EdgeMoves.{EdgeMoves}
use Rattle.edge_word.specs.Moves.{Lead, end_moved, when, after_moves, events_of, moves_between}
use Rattle.edge_word.specs.WordLaws.{MovesAreEvents, StaysOfItsBottles, LegalMovesAreOfTheEdge, MovesAreReadBack}
use Rattle.edge_word.proofs.WordLemmas.{state_of-word_of, IsOfBottles-28}
use Rattle.edge_word.proofs.MoveLemmas.{after_all-moves, all_but_soil, each_legal}

-- ---- moves are events

pub after_moves-leads : (m : EdgeMoves) (x y : EdgeState) → y ≡ after_moves m x → Lead (events_of m) x y
after_moves-leads m x y h = λ plan s j e inside is. after_all-moves plan s j e m inside ∙ (ap (after_moves m) is ∙ sym h)

pub moves_lead : MovesAreEvents
moves_lead = λ m x. after_moves-leads m x (after_moves m x) refl

-- ---- the moves are read back from the two states

end_back : (b : Bool) (x : End) → not (is_at x (end_moved b x)) ≡ b
end_back false Lower = refl
end_back false Higher = refl
end_back true Lower = refl
end_back true Higher = refl

xor_back : (a set : ℕ) → bit_xor a (bit_xor a set) ≡ set
xor_back a set = sym (xor_assoc a a set) ∙ (ap (λ n. bit_xor n set) (xor_self a) ∙ xor_zero_l set)

-- whether the fork is dirty in the end: given or not, soiled or not
abbrev pub dirty_after : Bool → Bool → Bool → Bool
dirty_after given true d = true
dirty_after true false d = false
dirty_after false false d = d

soil_back : (given soil d : Bool) → (soil ≡ true → d ≡ false) → dirty_after given soil d && not d ≡ soil
soil_back given true d clean = rw (clean refl) refl
soil_back true false d clean = refl
soil_back false false false clean = refl
soil_back false false true clean = refl

-- the moves of a group, all at once
pub at_once : (given asked soil : Bool) (set tokens : ℕ) (x : EdgeState)
    → after_moves (record { give_fork = given; give_bottles = set; ask_fork = asked; ask_bottles = tokens; soil = soil }) x
    ≡ record {
      fork = end_moved given x.fork;
      dirty = dirty_after given soil x.dirty;
      token = end_moved asked x.token;
      bottles = bit_xor x.bottles set;
      bottle_tokens = bit_xor x.bottle_tokens tokens;
    }
at_once false false false set tokens x = refl
at_once false false true set tokens x = refl
at_once false true false set tokens x = refl
at_once false true true set tokens x = refl
at_once true false false set tokens x = refl
at_once true false true set tokens x = refl
at_once true true false set tokens x = refl
at_once true true true set tokens x = refl

-- where a fork was soiled only if it had been clean
moves_between-after : (m : EdgeMoves) (x : EdgeState) → (m.soil ≡ true → x.dirty ≡ false) → moves_between x (after_moves m x) ≡ m
moves_between-after m x clean =
    ap (moves_between x) (at_once m.give_fork m.ask_fork m.soil m.give_bottles m.ask_bottles x)
    ∙ rw (
      end_back m.give_fork x.fork,
      xor_back x.bottles m.give_bottles,
      end_back m.ask_fork x.token,
      xor_back x.bottle_tokens m.ask_bottles,
      soil_back m.give_fork m.soil x.dirty clean,
    ) refl

-- ---- the sets stay within the edge

pub stays_of_its_bottles : StaysOfItsBottles
stays_of_its_bottles = λ n m x sets h. rw (at_once m.give_fork m.ask_fork m.soil m.give_bottles m.ask_bottles x)
    (record {
      bottles_fit = xor_lt n x.bottles m.give_bottles h.bottles_fit sets.give_fits;
      tokens_fit = xor_lt n x.bottle_tokens m.ask_bottles h.tokens_fit sets.ask_fits;
    })

inside_if : (set n : ℕ) → (not (set == 0) ≡ true → set < 2 ^ n) → set < 2 ^ n
inside_if set n h = elim (cases_eq set 0) [ inl none ↦ rw none (pow_pos n) | inr some ↦ let f : (set == 0) ≡ false = grind (arith, nat_tests) in h (rw f refl) ]

pub legal_moves_are_of_the_edge : LegalMovesAreOfTheEdge
legal_moves_are_of_the_edge = λ plan s j e m legal.
    let are = each_legal plan s j e m legal in
    let n = length (bottles plan e) in
    record {
      give_fits = inside_if m.give_bottles n (λ some. (are.give_bottles some).1.of_edge);
      ask_fits = inside_if m.ask_bottles n (λ some. (are.ask_bottles some).2.of_edge);
    }

-- ---- a legal group soils only a clean fork

turned : (x : End) → opposite x ≡ x → ⊥
turned Lower h = cc
turned Higher h = cc

-- the job has the fork here in the end, so it gave none
clean_before : (given asked : Bool) (set tokens : ℕ) (x y : EdgeState) (here : End)
    → y ≡ bottles_asked tokens (when asked fork_asked (bottles_given set (when given fork_given x)))
    → (given ≡ true → x.fork ≡ here) → y.fork ≡ here → y.dirty ≡ false → x.dirty ≡ false
clean_before false false set tokens x y here e had has clean = sym (ap (λ (z : EdgeState). z.dirty) e) ∙ clean
clean_before false true set tokens x y here e had has clean = sym (ap (λ (z : EdgeState). z.dirty) e) ∙ clean
clean_before true false set tokens x y here e had has clean = absurd (turned x.fork (sym (ap (λ (z : EdgeState). z.fork) e) ∙ (has ∙ sym (had refl))))
clean_before true true set tokens x y here e had has clean = absurd (turned x.fork (sym (ap (λ (z : EdgeState). z.fork) e) ∙ (has ∙ sym (had refl))))

soils_clean : (plan : LabPlan) (s : State) (j e : ℕ) (m : EdgeMoves) → e < length s.edges
    → IsLegalFrom plan s (events_of m j e) → m.soil ≡ true → (edge s e).dirty ≡ false
soils_clean plan s j e m h legal soil =
    let are = each_legal plan s j e m legal in
    let last = are.soil soil in
    clean_before m.give_fork m.ask_fork m.give_bottles m.ask_bottles (edge s e) _ (end_of plan j e)
    (all_but_soil plan s j e m h).changed (λ g. (are.give_fork g).2) last.2 last.3

-- ---- the moves are read back from the two words

pub read_back : MovesAreReadBack
read_back = λ plan s j e m h few fit legal.
    let n = length (bottles plan e) in
    let x = edge s e in
    let after = IsOfBottles-28 n (after_moves m x) few (stays_of_its_bottles n m x (legal_moves_are_of_the_edge plan s j e m legal) fit) in
    rw (state_of-word_of x (IsOfBottles-28 n x few fit).bottles_fit, state_of-word_of (after_moves m x) after.bottles_fit)
    (moves_between-after m x (soils_clean plan s j e m h legal))
