-- Those that held by the log hold again.
use Rattle.std.proofs.Common.{◌≡◌, ◌≢◌, ◌⊎◌, ℕ, zero, suc, ◌+◌, ◌<◌, ◌≤◌, Bool, true, false, nat_eq, if◌then◌else◌, List, [], ◌∷◌, ◌++◌, length, get_or, Option, Some, None, refl, sym, ap, ◌∙◌, subst, inl, inr, arith}
use Rattle.std.specs.Prelude.{All, ◌&&◌, not}
use Rattle.std.proofs.lemmas.Bool.{cases_eq, eq-eqb, ne_eqb, false≢true}
use Rattle.std.proofs.lemmas.List.Sums.{sum_by_push}
use Rattle.bay_line.specs.Lines.{nobody}
use Rattle.bay_book.specs.declared.ask.Ask.{Ask}
use Rattle.bay_book.specs.declared.ask.Mark.TheVariants.{At}
use Rattle.bay_book.specs.declared.ask.Stage.{Stage}
use Rattle.bay_book.specs.declared.ask.Stage.TheVariants.{Waits, Holds, Over}
use Rattle.bay_book.specs.Asks.{no_ask, is_holding, is_over, is_waiting, restored, holds_class}
use Rattle.bay_book.specs.Moments.{common}
use Rattle.bay_book.specs.Finding.{IsInUse}
use Rattle.bay_book.specs.Books.{BookView, restore}
use Rattle.bay_log.specs.declared.alive.Holder.{Holder}
use Rattle.bay_log.specs.declared.line.Entry.{Entry}
use Rattle.bay_log.specs.declared.line.Line.{Line}
use Rattle.bay_log.specs.Alive.{alive}
use Rattle.bay_log.specs.Holders.{entry_in, AreApart, AreHolders}
use Rattle.bay.specs.declared.classes.Class.{Class}
use Rattle.bay.specs.Members.{Has}
use Rattle.bay.specs.Classes.{class_at, is_within}
use Rattle.bay.specs.Cores.{IsFreeClass}
use Rattle.bay.specs.Restoring.{holder_at, IsUnused, AreLow, MayHold, IsNextTo, AreAlone, Restores, IsRestored, AreRestored, IsThere, AreDone}
use Rattle.bay.proofs.Members.{has_at, place_of, append_cases, append_first, append_second}
use Rattle.bay.proofs.Sets.{common_comm}

-- ---- who may hold

pub unused_by : (asks : List Ask) (used needs : ℕ) → IsInUse asks used → common needs used ≡ false → IsUnused asks needs
unused_by asks used needs u none b h holds =
    let p = place_of asks b no_ask h in
    subst (λ (c : Ask). common needs c.needs ≡ false) p.2
    (u.apart needs none p.0 p.1 (subst (λ (c : Ask). is_holding c.stage ≡ true) (sym p.2) holds))

-- ---- one holds again

one_of : (a b : Ask) → Has (a ∷ []) b → a ≡ b
one_of a b (inl is) = is
one_of a b (inr h) = absurd h

more_of : (m n c : ℕ) (same : Bool) → m ≡ n + (if same then 1 else 0) → n ≤ c → (same ≡ true → n < c) → m ≤ c
more_of m n c true e le room = let less = room refl in omega (arith, e, less)
more_of m n c false e le room = omega (arith, e, le)

pub test_is : (a b : ℕ) → nat_eq a b ≡ true → a ≡ b
test_is a b h = elim (cases_eq a b) [ inl is ↦ is | inr ne ↦ absurd (false≢true (sym (ne_eqb a b ne) ∙ h)) ]

holds_isnt_waits : (s : Stage) → s ≡ Holds → s ≡ Waits → ⊥
holds_isnt_waits s a b = cc

pub restored_alone : (classes : List Class) (book : BookView) (h : Holder) (moment : ℕ) → MayHold classes book.asks h → AreAlone classes book
    → AreAlone classes (restore book h.ask h.entry.class h.entry.owner h.entry.limit h.entry.needs h.entry.asked h.entry.since moment h.entry.token)
restored_alone classes book h moment may alone line none =
    let t = alone line none in let asks = book.asks in
    let v : Ask = restored h.ask h.entry.class h.entry.owner h.entry.limit h.entry.needs h.entry.asked h.entry.since moment h.entry.token book.durable in
    let cases : (a : Ask) → Has (asks ++ v ∷ []) a → (v ≡ a) ⊎ Has asks a = λ a g. elim (append_cases asks (v ∷ []) a g) [
      | inl was ↦ inr was
      | inr now ↦ inl (one_of v a now)
    ] in
    record {
      in_line = λ a g w. elim (cases a g) [
        | inl is ↦ absurd (holds_isnt_waits a.stage (sym (ap (λ (c : Ask). c.stage) is)) w)
        | inr was ↦ t.in_line a was w
      ];
      by_book = λ w g. let b = t.by_book w g in (b.0, append_first asks (v ∷ []) b.0 b.1, b.2, b.3);
      apart = λ a b g e ne. elim (cases a g.0) [
        | inl is ↦ elim (cases b e.0) [
          | inl too ↦ absurd (ne (ap (λ (c : Ask). c.number) (sym is ∙ too)))
          | inr there ↦ subst (λ (c : Ask). common c.needs b.needs ≡ false) is (may.unused b there e.1)
        ]
        | inr was ↦ elim (cases b e.0) [
          | inl too ↦ subst (λ (c : Ask). common a.needs c.needs ≡ false) too (common_comm a.needs h.entry.needs ∙ may.unused a was g.1)
          | inr there ↦ t.apart a b (was, g.1) (there, e.1) ne
        ]
      ];
      few = λ k.
          more_of _ _ _ (nat_eq h.entry.class k) (sum_by_push (λ (a : Ask). if holds_class k a then 1 else 0) asks v) (t.few k)
          (λ is. subst (IsFreeClass classes asks) (test_is h.entry.class k is) may.place);
      within = λ a g. elim (cases a g.0) [
        | inl is ↦ subst (λ (c : Ask). is_within (class_at classes c.class).uses c.needs ≡ true) is may.within
        | inr was ↦ t.within a (was, g.1)
      ];
    }

-- ---- who holds by the lines

-- each that holds by these lines, and whose number is below this
abbrev pub AreDoneBelow : List Line → ℕ → BookView → Type 0
AreDoneBelow lines next book = (n : ℕ) (e : Entry) → n < next → alive lines n ≡ Some e → IsThere book n e

if_cases : {X : Type 0} (b : Bool) (x y : Option X) (e : X) → (if b then x else y) ≡ Some e → ((b ≡ true) × (x ≡ Some e)) ⊎ (y ≡ Some e)
if_cases true x y e h = inl (refl, h)
if_cases false x y e h = inr h

find_holder : (holders : List Holder) (n : ℕ) (e : Entry) → entry_in holders n ≡ Some e
    → (k : ℕ) × (k < length holders) × ((holder_at holders k).ask ≡ n) × ((holder_at holders k).entry ≡ e)
find_holder [] n e h = absurd (let no : ⊥ = cc in no)
find_holder (x ∷ holders) n e h = elim (if_cases (nat_eq x.ask n) (Some x.entry) (entry_in holders n) e h) [
  | inl here ↦ (zero, omega arith, test_is x.ask n here.0, (let is = here.1 in cc))
  | inr there ↦ let r = find_holder holders n e there in (suc r.0, (let less = r.1 in omega (arith, less)), r.2, r.3)
]

if_then : {X : Type 0} (b : Bool) (x y : X) → b ≡ true → (if b then x else y) ≡ x
if_then true x y h = refl
if_then false x y h = absurd (false≢true h)

if_else : {X : Type 0} (b : Bool) (x y : X) → b ≡ false → (if b then x else y) ≡ y
if_else true x y h = absurd (false≢true (sym h))
if_else false x y h = refl

none_some : (o : Option Entry) (e : Entry) → o ≡ None → o ≡ Some e → ⊥
none_some o e a b = cc

pub holder_entry : (holders : List Holder) (place : ℕ) → AreApart holders → place < length holders
    → entry_in holders (holder_at holders place).ask ≡ Some (holder_at holders place).entry
holder_entry [] place apart inside = absurd (omega (arith, inside))
holder_entry (x ∷ holders) zero apart inside = if_then (nat_eq x.ask x.ask) (Some x.entry) (entry_in holders x.ask) (eq-eqb x.ask x.ask refl)
holder_entry (x ∷ holders) (suc place) apart inside =
    let h = holder_at holders place in let there = holder_entry holders place apart.1 (omega (arith, inside)) in
    elim (cases_eq x.ask h.ask) [
      | inl same ↦ absurd (none_some (entry_in holders x.ask) h.entry apart.0 (ap (entry_in holders) same ∙ there))
      | inr ne ↦ if_else (nat_eq x.ask h.ask) (Some x.entry) (entry_in holders h.ask) (ne_eqb x.ask h.ask ne) ∙ there
    ]

-- what stays true as one after another holds again
pub record SoFar (classes : List Class) (lines : List Line) (moment position next : ℕ) (book : BookView) : Type 0 where
  pub alone : AreAlone classes book
  pub each : AreRestored lines moment position book
  pub done : AreDoneBelow lines next book
  pub low : AreLow next book.asks

cases_lt : (j i : ℕ) → (j < i) ⊎ (i ≤ j)
cases_lt zero zero = inr (omega arith)
cases_lt zero (suc i) = inl (omega arith)
cases_lt (suc j) zero = inr (omega arith)
cases_lt (suc j) (suc i) = elim (cases_lt j i) [ inl h ↦ inl (omega (arith, h)) | inr h ↦ inr (omega (arith, h)) ]

some_same : (o : Option Entry) (a b : Entry) → o ≡ Some a → o ≡ Some b → a ≡ b
some_same o a b x y = cc

pub so_far_more : (classes : List Class) (lines : List Line) (moment position from : ℕ) (holders : List Holder) (book book' : BookView) (place : ℕ)
    → AreHolders holders (alive lines) → IsNextTo from holders (length holders) (Some place) → Restores (holder_at holders place) moment book book'
    → AreAlone classes book' → AreRestored lines moment position book → AreDoneBelow lines from book → AreLow from book.asks
    → SoFar classes lines moment position ((holder_at holders place).ask + 1) book'
so_far_more classes lines moment position from holders book book' place are next r alone each done low =
    let h = holder_at holders place in let asks = book.asks in
    let v : Ask = restored h.ask h.entry.class h.entry.owner h.entry.limit h.entry.needs h.entry.asked h.entry.since moment h.entry.token book.durable in
    let new : BookView = restore book h.ask h.entry.class h.entry.owner h.entry.limit h.entry.needs h.entry.asked h.entry.since moment h.entry.token in
    let by_log : alive lines h.ask ≡ Some h.entry = sym (are.each h.ask) ∙ holder_entry holders place are.apart next.0 in
    let each' : AreRestored lines moment position new = (
      each.0,
      λ a g. elim (append_cases asks (v ∷ []) a g) [
        | inl was ↦ each.1 a was
        | inr now ↦ subst (IsRestored lines moment position) (one_of v a now)
            (record { holds = refl; told = refl; gone = refl; line = ap (λ n. At n) each.0; by_log = by_log })
      ],
    ) in
    let done' : AreDoneBelow lines (h.ask + 1) new = λ n e below is. elim (cases_lt n from) [
      | inl less ↦ let d = done n e less is in (d.0, append_first asks (v ∷ []) d.0 d.1, d.2, d.3)
      | inr more ↦
          let k = find_holder holders n e (are.each n ∙ is) in
          let its = k.2 in
          let least = next.2 k.0 k.1 (subst (λ m. from ≤ m) (sym its) more) in
          let same : h.ask ≡ n = omega (arith, least, its, below) in
          (v, append_second asks (v ∷ []) v (inl refl), same, some_same (alive lines n) h.entry e (ap (alive lines) (sym same) ∙ by_log) is)
    ] in
    let low' : AreLow (h.ask + 1) new.asks = λ a g. elim (append_cases asks (v ∷ []) a g) [
      | inl was ↦ let below = low a was in let above = next.1 in omega (arith, below, above)
      | inr now ↦ subst (λ (c : Ask). c.number < h.ask + 1) (one_of v a now) (omega arith)
    ] in
    record {
      alone = alone;
      each = subst (AreRestored lines moment position) (sym r.1) each';
      done = subst (AreDoneBelow lines (h.ask + 1)) (sym r.1) done';
      low = subst (λ (x : BookView). AreLow (h.ask + 1) x.asks) (sym r.1) low';
    }

pub all_done : (lines : List Line) (from : ℕ) (holders : List Holder) (book : BookView) → AreHolders holders (alive lines)
    → IsNextTo from holders (length holders) None → AreDoneBelow lines from book → AreDone lines book
all_done lines from holders book are none done n e is =
    let k = find_holder holders n e (are.each n ∙ is) in let its = k.2 in let below = none k.0 k.1 in
    done n e (omega (arith, its, below)) is

-- nobody waits
stage_waits : (s : Stage) → (s ≡ Waits → ⊥) → (not (is_holding s) && not (is_over s)) ≡ false
stage_waits Waits h = absurd (h refl)
stage_waits Holds h = refl
stage_waits (Over how) h = refl

pub nobody_waits : (classes : List Class) (book : BookView) → AreAlone classes book → All (λ (a : Ask). is_waiting a ≡ false) book.asks
nobody_waits classes book alone k d inside =
    let a = get_or book.asks k d in
    let t = alone (nobody 0 0) refl in
    stage_waits a.stage (λ waits. (t.in_line a (has_at book.asks k d inside) waits).1)
