-- The sessions that ended have one order, that of their ends, and each log has its lines in this order, with at most one further session last.
use Rattle.std.proofs.Common.{◌≡◌, ◌⊎◌, ℕ, zero, suc, ◌+◌, ◌<◌, ◌≤◌, Bool, true, false, ◌&&◌, ◌==◌, if◌then◌else◌, List, [], ◌∷◌, ◌++◌, length, map, slice_index_or, take, refl, sym, ap, ◌∙◌, subst, inl, inr, arith, append_assoc, append-nil, eq-eqb, ne_eqb}
use Rattle.std.specs.List.{AllByRecursion, enumerate_from}
use Rattle.std.proofs.lemmas.Bool.{and_parts, cases_eq}
use Rattle.lab_plan.specs.declared.verb.Verb.{Verb}
use Rattle.lab_plan.specs.LabPlan.{LabPlan, commands}
use Rattle.legal_steps.specs.WholeLogs.{LogLine, line_of, commands_on, part_of, parts_of, IsBefore, IsAscending}
use Rattle.legal_steps.proofs.LogBooks.{Books}
use Rattle.legal_steps.proofs.LogEnded.{HasEnded, past_before}
use Rattle.legal_steps.proofs.LogKept.{IsKept, part_so_far}
use Rattle.legal_steps.proofs.WholeLaw.{drinking_inside}

-- ---- the order of sessions

abbrev pub is_own : ℕ × ℕ → ℕ × ℕ → Bool
is_own a b = (a.0 == b.0) && (a.1 == b.1)

-- how many of the sessions stand before this one; all do where it isn't one of them
abbrev pub rank : List (ℕ × ℕ) → ℕ × ℕ → ℕ
rank [] own = 0
rank (first ∷ ended) own = if is_own first own then 0 else suc (rank ended own)

pub rank_few : (ended : List (ℕ × ℕ)) (own : ℕ × ℕ) → rank ended own ≤ length ended
rank_few [] own = omega arith
rank_few (first ∷ ended) own = either (is_own first own) (rank_few ended own)
  where
    either : (t : Bool) → rank ended own ≤ length ended → (if t then 0 else suc (rank ended own)) ≤ suc (length ended)
    either true h = omega arith
    either false h = omega (arith, h)

-- the session is none of them
abbrev IsNone : ℕ × ℕ → List (ℕ × ℕ) → Type 0
IsNone own ended = AllByRecursion (λ other. is_own other own ≡ false) ended

pub rank_last : (ended : List (ℕ × ℕ)) (own : ℕ × ℕ) → IsNone own ended → rank ended own ≡ length ended
rank_last [] own none = refl
rank_last (first ∷ ended) own none = ap (λ t. if t then 0 else suc (rank ended own)) none.0 ∙ ap suc (rank_last ended own none.1)

and_false : (b : Bool) → (b && false) ≡ false
and_false true = refl
and_false false = refl

before_apart : (a b : ℕ × ℕ) → IsBefore a b → is_own a b ≡ false
before_apart a b before = elim (cases_eq a.0 b.0) [
  | inl same ↦
      let less = before same in
      ap (λ t. (a.0 == b.0) && t) (ne_eqb a.1 b.1 (λ e. omega (arith, e, less))) ∙ and_false (a.0 == b.0)
  | inr other ↦ ap (λ t. t && (a.1 == b.1)) (ne_eqb a.0 b.0 other)
]

pub all_before : (own : ℕ × ℕ) (ended : List (ℕ × ℕ)) → ((k : ℕ) (d : ℕ × ℕ) → k < length ended → IsBefore (slice_index_or ended k d) own) → IsNone own ended
all_before own [] h = tt
all_before own (first ∷ ended) h =
    (before_apart first own (h zero first (omega arith)), all_before own ended (λ k d below. h (suc k) d (omega (arith, below))))

-- each differs from those behind it
abbrev Differ : List (ℕ × ℕ) → Type 0
Differ [] = Unit {0}
Differ (first ∷ ended) = AllByRecursion (λ other. is_own first other ≡ false) ended × Differ ended

all_behind : (own : ℕ × ℕ) (later : List (ℕ × ℕ)) → ((k : ℕ) (d : ℕ × ℕ) → k < length later → IsBefore own (slice_index_or later k d))
    → AllByRecursion (λ other. is_own own other ≡ false) later
all_behind own [] h = tt
all_behind own (next ∷ later) h =
    (before_apart own next (h zero next (omega arith)), all_behind own later (λ k d below. h (suc k) d (omega (arith, below))))

differ : (ended : List (ℕ × ℕ)) → IsAscending ended → Differ ended
differ [] h = tt
differ (first ∷ ended) h = (
  all_behind first ended (λ k d below. h zero (suc k) d (omega arith) (omega (arith, below))),
  differ ended (λ i j d less below. h (suc i) (suc j) d (omega (arith, less)) (omega (arith, below))),
)

-- their ranks, one after another
abbrev Ranked : (ℕ × ℕ → ℕ) → ℕ → List (ℕ × ℕ) → Type 0
Ranked r a [] = Unit {0}
Ranked r a (own ∷ more) = (r own ≡ a) × Ranked r (suc a) more

shifted : (r q : ℕ × ℕ → ℕ) (a : ℕ) (owners : List (ℕ × ℕ)) → AllByRecursion (λ own. q own ≡ suc (r own)) owners → Ranked r a owners → Ranked q (suc a) owners
shifted r q a [] all h = tt
shifted r q a (own ∷ more) all h = (all.0 ∙ ap suc h.0, shifted r q (suc a) more all.1 h.1)

one_more : (first : ℕ × ℕ) (ended owners : List (ℕ × ℕ)) → AllByRecursion (λ other. is_own first other ≡ false) owners
    → AllByRecursion (λ own. rank (first ∷ ended) own ≡ suc (rank ended own)) owners
one_more first ended [] all = tt
one_more first ended (own ∷ owners) all = (ap (λ t. if t then 0 else suc (rank ended own)) all.0, one_more first ended owners all.1)

ranked : (ended : List (ℕ × ℕ)) → Differ ended → Ranked (rank ended) 0 ended
ranked [] h = tt
ranked (first ∷ ended) h = (
  (λ i. if eq-eqb first.0 first.0 refl i && eq-eqb first.1 first.1 refl i then 0 else suc (rank ended first)),
  shifted (rank ended) (rank (first ∷ ended)) 0 ended (one_more first ended ended h.0) (ranked ended h.1),
)

-- ---- lines in that order

abbrev pub own_of : LogLine → ℕ × ℕ
own_of line = (line.0, line.1)

-- a line goes on with the part of the one before it, or is of a session of a higher rank
abbrev pub Next : (ℕ × ℕ → ℕ) → LogLine → LogLine → Type 0
Next r a b = ((a.0 ≡ b.0) × (a.1 ≡ b.1) × (a.3 ≡ b.3) × (a.2 < b.2)) ⊎ (r (own_of a) < r (own_of b))

abbrev pub Chained : (ℕ × ℕ → ℕ) → List LogLine → Type 0
Chained r [] = Unit {0}
Chained r (a ∷ []) = Unit {0}
Chained r (a ∷ b ∷ more) = Next r a b × Chained r (b ∷ more)

abbrev Low : (ℕ × ℕ → ℕ) → ℕ → List LogLine → Type 0
Low r c lines = AllByRecursion (λ line. r (own_of line) < c) lines

abbrev High : (ℕ × ℕ → ℕ) → ℕ → List LogLine → Type 0
High r c lines = AllByRecursion (λ line. c ≤ r (own_of line)) lines

joined : (r : ℕ × ℕ → ℕ) (c : ℕ) (xs ys : List LogLine) → Chained r xs → Chained r ys → Low r c xs → High r c ys → Chained r (xs ++ ys)
joined r c [] ys hx hy low high = hy
joined r c (x ∷ []) [] hx hy low high = tt
joined r c (x ∷ []) (y ∷ ys) hx hy low high = (inr (omega (arith, low.0, high.0)), hy)
joined r c (x ∷ z ∷ xs) ys hx hy low high = (hx.0, joined r c (z ∷ xs) ys hx.1 hy low.1 high)

high_from : (r : ℕ × ℕ → ℕ) (c d : ℕ) (lines : List LogLine) → d ≤ c → High r c lines → High r d lines
high_from r c d [] less high = tt
high_from r c d (line ∷ lines) less high = (omega (arith, high.0, less), high_from r c d lines less high.1)

high_both : (r : ℕ × ℕ → ℕ) (c : ℕ) (xs ys : List LogLine) → High r c xs → High r c ys → High r c (xs ++ ys)
high_both r c [] ys hx hy = hy
high_both r c (x ∷ xs) ys hx hy = (hx.0, high_both r c xs ys hx.1 hy)

-- the lines of a part, from a place on
abbrev pub lines_from : ℕ → ℕ → ℕ → ℕ → List (ℕ × Verb) → List LogLine
lines_from j session total place own = map (λ numbered. (j, session, numbered.0, total, numbered.1.1)) (enumerate_from place own)

part_chained : (r : ℕ × ℕ → ℕ) (j session total place : ℕ) (own : List (ℕ × Verb)) → Chained r (lines_from j session total place own)
part_chained r j session total place [] = tt
part_chained r j session total place (c ∷ []) = tt
part_chained r j session total place (c ∷ d ∷ own) = (inl (refl, refl, refl, omega arith), part_chained r j session total (place + 1) (d ∷ own))

part_low : (r : ℕ × ℕ → ℕ) (a j session total place : ℕ) (own : List (ℕ × Verb)) → r (j, session) < a → Low r a (lines_from j session total place own)
part_low r a j session total place [] h = tt
part_low r a j session total place (c ∷ own) h = (h, part_low r a j session total (place + 1) own h)

part_high : (r : ℕ × ℕ → ℕ) (a j session total place : ℕ) (own : List (ℕ × Verb)) → a ≤ r (j, session) → High r a (lines_from j session total place own)
part_high r a j session total place [] h = tt
part_high r a j session total place (c ∷ own) h = (h, part_high r a j session total (place + 1) own h)

parts_chained : (plan : LabPlan) (i : ℕ) (r : ℕ × ℕ → ℕ) (a : ℕ) (owners : List (ℕ × ℕ)) (last : List LogLine) → Ranked r a owners → Chained r last
    → High r (a + length owners) last → Chained r (parts_of plan i owners ++ last) × High r a (parts_of plan i owners ++ last)
parts_chained plan i r a [] last ranks chained high = (chained, high_from r (a + 0) a last (omega arith) high)
parts_chained plan i r a (own ∷ owners) last ranks chained high =
    let there = commands_on i (commands plan own.0 own.1) in
    let rest = parts_of plan i owners ++ last in
    let more = parts_chained plan i r (suc a) owners last ranks.1 chained
    (high_from r (a + suc (length owners)) (suc a + length owners) last (omega arith) high) in
    let here : r own ≡ a = ranks.0 in
    subst (λ lines. Chained r lines × High r a lines) (sym (append_assoc (part_of plan i own) (parts_of plan i owners) last)) (
      joined r (suc a) (part_of plan i own) rest (part_chained r own.0 own.1 (length there) 1 there) more.0
          (part_low r (suc a) own.0 own.1 (length there) 1 there (omega (arith, here))) more.1,
      high_both r a (part_of plan i own) rest (part_high r a own.0 own.1 (length there) 1 there (omega (arith, here)))
          (high_from r (suc a) a rest (omega arith) more.1),
    )

-- ---- the log of an instrument

pub log_chained : (plan : LabPlan) (b : Books) (ended : List (ℕ × ℕ)) (i : ℕ) → HasEnded plan b ended → IsKept plan b ended i
    → Chained (rank ended) (map line_of (b.logs i))
log_chained plan b ended i so kept =
    let r = rank ended in
    let ranks = ranked ended (differ ended so.ascending) in
    elim kept [
      | inl a ↦
          let x = b.stages a.0 in
          let all = commands plan a.0 x.session in
          let total = length (commands_on i all) in
          let done = commands_on i (take x.position all) in
          let inside = drinking_inside x.drinking (and_parts _ _ a.1).0 in
          let last = rank_last ended (a.0, x.session) (all_before (a.0, x.session) ended
          (λ k d below. past_before b a.0 inside (slice_index_or ended k d) (so.past k d below))) in
          subst (Chained r) (sym a.2) (parts_chained plan i r 0 ended (part_so_far plan i a.0 x) ranks
          (part_chained r a.0 x.session total 1 done)
          (part_high r (0 + length ended) a.0 x.session total 1 done (omega (arith, last)))).0
      | inr a ↦
          subst (Chained r) (sym (a.1 ∙ sym (append-nil (parts_of plan i ended)))) (parts_chained plan i r 0 ended [] ranks tt tt).0
    ]
