-- Where nobody waits: what is in use and which classes are free need no look, and nobody's time is over but by the terms.
use Rattle.std.proofs.Common.{◌≡◌, ◌⊎◌, ℕ, zero, suc, ◌+◌, ◌<◌, ◌≤◌, ◌↔◌, Bool, true, false, ◌||◌, ◌&&◌, ◌==◌, not, if◌then◌else◌, List, [], ◌∷◌, length, Option, Some, None, refl, sym, ap, ◌∙◌, subst, inl, inr, arith}
use Rattle.std.specs.Int.{bit_at}
use Rattle.std.specs.Int.Bits.{bit_or}
use Rattle.std.specs.List.{count_by}
use Rattle.std.proofs.lemmas.Bool.{false≢true}
use Rattle.bay_line.specs.declared.wish.Wish.{Wish}
use Rattle.bay_book.specs.declared.ask.Ask.{Ask}
use Rattle.bay_book.specs.declared.ask.End.{End}
use Rattle.bay_book.specs.declared.ask.End.TheVariants.{LetGo, Left, Lapsed, NotWritten, Limit, Grace, TakenAway, Replaced, Stopped}
use Rattle.bay_book.specs.declared.ask.Stage.{Stage}
use Rattle.bay_book.specs.declared.ask.Stage.TheVariants.{Waits, Holds, Over}
use Rattle.bay_book.specs.Asks.{no_ask, ask_at, is_holding, is_written, holds_class}
use Rattle.bay_book.specs.Moments.{common, is_past, later, after, until_at, if_holds, is_late, is_gone_too_long}
use Rattle.bay_book.proofs.Bits.{InUseTo, none_in_use, one_more_in_use, all_in_use, common_both, or_false_is}
use Rattle.bay.specs.declared.classes.Class.{Class}
use Rattle.bay.specs.declared.terms.Terms.{Terms}
use Rattle.bay.specs.Members.{Has}
use Rattle.bay.specs.Classes.{class_at}
use Rattle.bay.specs.Cores.{Core, IsTied, IsFreeClass, NobodyWaits}
use Rattle.bay.specs.Following.{IsDue, IsWanted, NobodyIsDue}
use Rattle.bay.proofs.Members.{has_at, cases_lt}
use Rattle.bay.proofs.Sets.{none_yet, with_one, without_one}

-- ---- there always is a set of what is in use, and one of the free classes

used_more : (asks : List Ask) (n set : ℕ) → InUseTo asks n set → (b : Bool) → is_holding (ask_at asks n).stage ≡ b → (more : ℕ) × InUseTo asks (suc n) more
used_more asks n set u true holds =
    let needs : ℕ = (ask_at asks n).needs in
    let next : n + 1 ≡ suc n = omega arith in (
      bit_or set needs,
      subst (λ m. InUseTo asks m (bit_or set needs)) next
          (one_more_in_use asks n set (bit_or set needs) (λ x. common_both x set needs ∙ ap (λ b. common x set || b && common x needs) (sym holds)) u),
    )
used_more asks n set u false holds =
    let next : n + 1 ≡ suc n = omega arith in (
      set,
      subst (λ m. InUseTo asks m set) next
          (one_more_in_use asks n set set (λ x. or_false_is (common x set) (is_holding (ask_at asks n).stage) (common x (ask_at asks n).needs) holds) u),
    )

used_to : (asks : List Ask) (n : ℕ) → (set : ℕ) × InUseTo asks n set
used_to asks zero = (0, none_in_use asks)
used_to asks (suc n) = let u = used_to asks n in used_more asks n u.0 u.1 (is_holding (ask_at asks n).stage) refl

-- the set has those of the first n of which P is true
abbrev AreTo : (ℕ → Type 0) → ℕ → ℕ → Type 0
AreTo P n set = (j : ℕ) → (bit_at set j ≡ 1) ↔ ((j < n) × P j)

free_more : (classes : List Class) (asks : List Ask) (n set : ℕ) → AreTo (IsFreeClass classes asks) n set
    → (count_by (holds_class n) asks < (class_at classes n).places) ⊎ ((class_at classes n).places ≤ count_by (holds_class n) asks)
    → (more : ℕ) × AreTo (IsFreeClass classes asks) (n + 1) more
free_more classes asks n set before (inl free) = (_, with_one (IsFreeClass classes asks) n set before free)
free_more classes asks n set before (inr full) = (set, without_one (IsFreeClass classes asks) n set before (λ h. omega (arith, h, full)))

free_to : (classes : List Class) (asks : List Ask) (n : ℕ) → (set : ℕ) × AreTo (IsFreeClass classes asks) n set
free_to classes asks zero = (0, none_yet (IsFreeClass classes asks))
free_to classes asks (suc n) =
    let u = free_to classes asks n in
    let next : n + 1 ≡ suc n = omega arith in
    let more = free_more classes asks n u.0 u.1 (cases_lt (count_by (holds_class n) asks) (class_at classes n).places) in
    (more.0, subst (λ m. AreTo (IsFreeClass classes asks) m more.0) next more.1)

pub nobody_waits : (classes : List Class) (x : Core) → length x.line.wishes ≡ 0 → NobodyWaits classes x
nobody_waits classes x none =
    let used = used_to x.book.asks (length x.book.asks) in let free = free_to classes x.book.asks (length classes) in
    record {
      used = used.0;
      free = free.0;
      are_used = all_in_use x.book.asks (length x.book.asks) used.0 refl used.1;
      are_free = free.1;
      reasons = λ k inside. absurd (omega (arith, inside, none));
    }

-- ---- nobody's time is over

no_wish : (wishes : List Wish) (w : Wish) → length wishes ≡ 0 → Has wishes w → ⊥
no_wish [] w none h = h
no_wish (v ∷ wishes) w none h = absurd (omega (arith, none))

not_wanted : (classes : List Class) (x : Core) (a : Ask) → length x.line.wishes ≡ 0 → IsWanted classes x a → ⊥
not_wanted classes x a none (inl w) = no_wish x.line.wishes w.0 none w.1
not_wanted classes x a none (inr full) = no_wish x.line.wishes full.0.0 none full.0.1

never_written : (now : ℕ) (written : Bool) (deadline : Option ℕ) → is_past now (if written then None else later deadline None) ≡ false
never_written now true deadline = refl
never_written now false None = refl
never_written now false (Some end) = refl

never_gone : (now : ℕ) (s : Stage) (gone : Option ℕ) → is_past now (if_holds s (after gone None)) ≡ false
never_gone now Waits gone = refl
never_gone now Holds None = refl
never_gone now Holds (Some moment) = refl
never_gone now (Over how) gone = refl

not_due : (classes : List Class) (terms : Terms) (now : ℕ) (x : Core) → length x.line.wishes ≡ 0 → terms.grace ≡ None → terms.disk ≡ None → IsTied classes x
    → (a : Ask) → Has x.book.asks a → (how : End) → IsDue classes terms now x a how → ⊥
not_due classes terms now x none grace disk tied a has LetGo due = due
not_due classes terms now x none grace disk tied a has Left due = due
not_due classes terms now x none grace disk tied a has Lapsed due = let w = tied.in_line a has due.0 in no_wish x.line.wishes w.0 none w.1
not_due classes terms now x none grace disk tied a has NotWritten due =
    let no : is_late now x.book.durable None a ≡ false =
    subst (λ (s : Stage). is_past now (until_at x.book.durable None a s) ≡ false) (sym due.0) (never_written now (is_written x.book.durable a.hold_line) a.deadline) in
    let yes : is_late now x.book.durable None a ≡ true = subst (λ (d : Option ℕ). is_late now x.book.durable d a ≡ true) disk due.1 in
    false≢true (sym no ∙ yes)
not_due classes terms now x none grace disk tied a has Limit due = not_wanted classes x a none due.0
not_due classes terms now x none grace disk tied a has Grace due =
    let yes : is_gone_too_long now None a ≡ true = subst (λ (g : Option ℕ). is_gone_too_long now g a ≡ true) grace due in
    false≢true (sym (never_gone now a.stage a.gone) ∙ yes)
not_due classes terms now x none grace disk tied a has TakenAway due = due
not_due classes terms now x none grace disk tied a has Replaced due = due
not_due classes terms now x none grace disk tied a has Stopped due = due

pub nobody_due : (classes : List Class) (terms : Terms) (now : ℕ) (x : Core) → length x.line.wishes ≡ 0 → terms.grace ≡ None → terms.disk ≡ None
    → IsTied classes x → NobodyIsDue classes terms now x
nobody_due classes terms now x none grace disk tied =
    λ place how inside due. not_due classes terms now x none grace disk tied (ask_at x.book.asks place) (has_at x.book.asks place no_ask inside) how due

-- ---- owners

pub nobodys : (b c : Bool) (owner : ℕ) → owner ≡ 0 → (b && not (owner == 0) && c) ≡ false
nobodys true c owner is = ap (λ n. not (n == 0) && c) is
nobodys false c owner is = refl
