-- What a log takes next, by the last of its lines.
use Rattle.std.proofs.Common.{◌≡◌, ◌⊎◌, ℕ, ◌+◌, ◌<◌, ◌≤◌, if◌then◌else◌, length, List, [], ◌∷◌, ◌++◌, map, sym, ap, subst, ◌∙◌, inl, inr, refl, arith, append_assoc, None, Some}
use Rattle.std.specs.Option.{MatchOption}
use Rattle.std.proofs.lemmas.Bool.{lt-ltb, le-ltb}
use Rattle.std.proofs.lemmas.List.{append-nil, map_push, length-append, same_from_push}
use Rattle.lab_plan.specs.declared.verb.Verb.{Verb}
use Rattle.lab_plan.specs.LabPlan.{LabPlan, commands}
use Rattle.instrument_log.specs.declared.entry.Entry.{Entry}
use Rattle.instrument_log.specs.Parts.{open_entry, IsNextPlace, Follows}
use Rattle.instrument_log.proofs.PartLemmas.{open_entry-push}
use Rattle.legal_steps.specs.WholeLogs.{LogLine, line_of, commands_on, lines_of, part_of, parts_of}
use Rattle.legal_steps.proofs.PartLists.{line_at, lines_of-push}

-- a list is empty, or has a last element
pub record HasLast {X : Type 0} (xs : List X) : Type 0 where
  pub front : List X
  pub last : X
  pub is : xs ≡ front ++ last ∷ []

pub last_cases : {X : Type 0} (xs : List X) → (xs ≡ []) ⊎ HasLast xs
last_cases [] = inl refl
last_cases (x ∷ xs) = elim (last_cases xs) [
  | inl none ↦ inr (record { front = []; last = x; is = ap (λ rest. x ∷ rest) none })
  | inr more ↦ inr (record { front = x ∷ more.front; last = more.last; is = ap (λ rest. x ∷ rest) more.is })
]

not_empty : {X : Type 0} (front : List X) (x : X) → [] ≡ front ++ x ∷ [] → ⊥
not_empty front x e = omega (arith, ap length e, length-append front (x ∷ []))

-- ---- closed: empty, or the last line is the last of its part

pub record EndsClosed (lines : List LogLine) : Type 0 where
  pub front : List LogLine
  pub last : LogLine
  pub is : lines ≡ front ++ last ∷ []
  pub at_length : last.2 ≡ last.3

abbrev pub IsClosed : List LogLine → Type 0
IsClosed lines = (lines ≡ []) ⊎ EndsClosed lines

IsClosed-append : (xs ys : List LogLine) → IsClosed xs → IsClosed ys → IsClosed (xs ++ ys)
IsClosed-append xs ys hx hy = elim hy [
  | inl none ↦ subst IsClosed (sym (ap (λ rest. xs ++ rest) none ∙ append-nil xs)) hx
  | inr ends ↦ inr (record {
    front = xs ++ ends.front;
    last = ends.last;
    is = ap (λ rest. xs ++ rest) ends.is ∙ sym (append_assoc xs ends.front (ends.last ∷ []));
    at_length = ends.at_length;
  })
]

lines_closed : (j session total : ℕ) (own : List (ℕ × Verb)) → length own ≡ total → IsClosed (lines_of j session total own)
lines_closed j session total own all = elim (last_cases own) [
  | inl none ↦ inl (ap (lines_of j session total) none)
  | inr more ↦ inr (record {
    front = lines_of j session total more.front;
    last = line_at j session total (length more.front + 1) more.last;
    is = ap (lines_of j session total) more.is ∙ lines_of-push j session total more.front more.last;
    at_length = omega (arith, all, ap length more.is, length-append more.front (more.last ∷ []));
  })
]

pub parts_closed : (plan : LabPlan) (i : ℕ) (owners : List (ℕ × ℕ)) → IsClosed (parts_of plan i owners)
parts_closed plan i [] = inl refl
parts_closed plan i (own ∷ owners) =
    IsClosed-append (part_of plan i own) (parts_of plan i owners)
    (lines_closed own.0 own.1 (length (commands_on i (commands plan own.0 own.1))) (commands_on i (commands plan own.0 own.1)) refl)
    (parts_closed plan i owners)

-- ---- from lines to entries

-- the entry of the last line
record LastEntry (entries : List Entry) (line : LogLine) : Type 0 where
  front : List Entry
  last : Entry
  is : entries ≡ front ++ last ∷ []
  says : line_of last ≡ line

last_entry : (entries : List Entry) (front : List LogLine) (line : LogLine) → map line_of entries ≡ front ++ line ∷ [] → LastEntry entries line
last_entry entries front line e = elim (last_cases entries) [
  | inl none ↦ absurd (not_empty front line (sym (ap (map line_of) none) ∙ e))
  | inr more ↦
      let both = same_from_push (map line_of more.front) front (line_of more.last) line (sym (map_push line_of more.front more.last)
      ∙ sym (ap (map line_of) more.is) ∙ e) in
      record { front = more.front; last = more.last; is = more.is; says = both.1 }
]

open_none : open_entry [] ≡ None
unfolding open_entry
open_none = refl

nothing_mapped : (entries : List Entry) → map line_of entries ≡ [] → entries ≡ []
nothing_mapped [] e = refl
nothing_mapped (entry ∷ entries) e = absurd (omega (arith, ap length e))

-- a log whose lines are closed has no unfinished part
pub open_closed : (entries : List Entry) → IsClosed (map line_of entries) → open_entry entries ≡ None
open_closed entries closed = elim closed [
  | inl none ↦ ap open_entry (nothing_mapped entries none) ∙ open_none
  | inr ends ↦
      let l = last_entry entries ends.front ends.last ends.is in
      let past : l.last.length ≤ l.last.place = omega (arith, ends.at_length, ap (λ (line : LogLine). line.2) l.says, ap (λ (line : LogLine). line.3) l.says) in
      ap open_entry l.is ∙ open_entry-push l.front l.last ∙ ap (λ b. if b then Some l.last else None) (le-ltb l.last.place l.last.length past)
]

-- a log whose last line is not the last of its part takes that part's next place
pub follows_next : (entries : List Entry) (front : List LogLine) (line : LogLine) (entry : Entry) → map line_of entries ≡ front ++ line ∷ [] → line.2 < line.3 →
    entry.job ≡ line.0 → entry.session ≡ line.1 → entry.place ≡ line.2 + 1 → entry.length ≡ line.3 → Follows entries entry
follows_next entries front line entry e more job session place total =
    let l = last_entry entries front line e in
    let before : l.last.place < l.last.length = omega (arith, more, ap (λ (x : LogLine). x.2) l.says, ap (λ (x : LogLine). x.3) l.says) in
    let open_is : open_entry entries ≡ Some l.last =
    ap open_entry l.is ∙ open_entry-push l.front l.last ∙ ap (λ b. if b then Some l.last else None) (lt-ltb l.last.place l.last.length before) in
    let next : IsNextPlace l.last entry = record {
      same_job = job ∙ sym (ap (λ (x : LogLine). x.0) l.says);
      same_session = session ∙ sym (ap (λ (x : LogLine). x.1) l.says);
      same_length = total ∙ sym (ap (λ (x : LogLine). x.3) l.says);
      next = omega (arith, place, ap (λ (x : LogLine). x.2) l.says);
    } in
    subst (λ o. MatchOption o (entry.place ≡ 1) (λ earlier. IsNextPlace earlier entry)) (sym open_is) next

-- a log whose lines are closed takes a first place
pub follows_first : (entries : List Entry) (entry : Entry) → IsClosed (map line_of entries) → entry.place ≡ 1 → Follows entries entry
follows_first entries entry closed place =
    subst (λ o. MatchOption o (entry.place ≡ 1) (λ earlier. IsNextPlace earlier entry)) (sym (open_closed entries closed)) place
