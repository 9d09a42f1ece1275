-- What the log says of the asks stays what the book does, when a line is given.
use Rattle.std.proofs.Common.{◌≡◌, ◌≢◌, ℕ, ◌+◌, ◌<◌, ◌≤◌, Bool, true, false, if◌then◌else◌, List, [], ◌∷◌, ◌++◌, length, Some, None, refl, sym, ap, ◌∙◌, subst, inl, inr, arith}
use Rattle.std.specs.Prelude.{◌==◌}
use Rattle.std.specs.List.{count_by}
use Rattle.std.proofs.lemmas.Bool.{cases_eq, false≢true, eq-eqb}
use Rattle.bay_book.specs.declared.ask.Ask.{Ask}
use Rattle.bay_book.specs.declared.ask.Mark.{Mark}
use Rattle.bay_book.specs.declared.ask.Mark.TheVariants.{None as NoLine, Due, At}
use Rattle.bay_book.specs.declared.ask.Stage.{Stage}
use Rattle.bay_book.specs.declared.ask.Stage.TheVariants.{Waits, Holds, Over}
use Rattle.bay_book.specs.Asks.{ask_at, no_ask, is_over, is_owed, given_mark, given, IsSoundAt, IsSoundAsk}
use Rattle.bay_book.specs.Books.{BookView, IsSound, give_one}
use Rattle.bay_log.specs.declared.how.How.{How}
use Rattle.bay_log.specs.declared.line.Line.{Line}
use Rattle.bay_log.specs.declared.line.Line.TheVariants.{End}
use Rattle.bay_log.specs.Lines.{log_text, base_of, is_none}
use Rattle.bay_log.specs.Alive.{after, alive, begins}
use Rattle.bay.specs.Members.{Has}
use Rattle.bay.specs.Written.{entry_of, is_given, StandsIn, IsWritten, BeginOnce}
use Rattle.bay.specs.Giving.{Kept, hold_line}
use Rattle.bay.proofs.Members.{has_at, set_new}
use Rattle.bay.proofs.Tied.{other_asks, still_asks}
use Rattle.bay.proofs.LogLines.{below_more, alive_more, count_no, count_yes, stands_more, stands_now, other_number, hold_here}
use Rattle.bay.proofs.Written.{end_none, at_isnt_none, not_given}

-- ---- who owes a line

-- one that owes a line that it is over is over
due_end_at : (d : ℕ) (a : Ask) (s : Stage) → IsSoundAt d a s → a.end_line ≡ Due → is_over s ≡ true
due_end_at d a Waits h e = let n = h.3 in let no : ⊥ = cc in absurd no
due_end_at d a Holds h e = let n = h.2 in let no : ⊥ = cc in absurd no
due_end_at d a (Over how) h e = refl

owed_due : (m : Mark) → m ≡ Due → is_owed m ≡ true
owed_due m h = ap is_owed h

-- one that owes a line that it holds holds
due_hold_at : (d : ℕ) (a : Ask) (s : Stage) → IsSoundAt d a s → a.hold_line ≡ Due → s ≡ Holds
due_hold_at d a Waits h e = let n = h.2 in let no : ⊥ = cc in absurd no
due_hold_at d a Holds h e = refl
due_hold_at d a (Over how) h e = absurd (false≢true (sym h.1 ∙ owed_due a.hold_line e))

given_due : (m : Mark) (p : ℕ) → m ≡ Due → given_mark p m ≡ At p
given_due m p h = ap (given_mark p) h

given_none : (m : Mark) (p : ℕ) → m ≡ NoLine → given_mark p m ≡ NoLine
given_none m p h = ap (given_mark p) h

position_or : Mark → ℕ
position_or NoLine = 0
position_or Due = 0
position_or (At p) = p

same_at : (p q : ℕ) → At p ≡ At q → p ≡ q
unfolding position_or
same_at p q h = ap position_or h

holds_isnt_over : (s : Stage) → is_over s ≡ true → s ≢ Holds
holds_isnt_over s o h = false≢true (sym (ap is_over h) ∙ o)

if_yes : {A : Type 0} (b : Bool) (x y : A) → b ≡ true → (if b then x else y) ≡ x
if_yes true x y h = refl
if_yes false x y h = absurd (false≢true h)

if_no : {A : Type 0} (b : Bool) (x y : A) → b ≡ false → (if b then x else y) ≡ y
if_no true x y h = absurd (false≢true (sym h))
if_no false x y h = refl

-- ---- it is over

pub written_end : (lines : List Line) (x : BookView) (place at : ℕ) (how : How) (since : ℕ) → is_none lines ≡ false → IsSound x → place < length x.asks
    → (ask_at x.asks place).end_line ≡ Due → IsWritten lines x
    → IsWritten (lines ++ End (ask_at x.asks place).number how since ∷ []) (give_one x place at)
written_end lines x place at how since begun s inside due w =
    let a0 = ask_at x.asks place in
    let v : Ask = given at a0 in
    let line : Line = End a0.number how since in
    let sound : IsSoundAsk x.durable a0 = s.each place no_ask inside in
    let is_over_ : is_over a0.stage ≡ true = due_end_at x.durable a0 a0.stage sound due in
    let ended : v.end_line ≡ At at = given_due a0.end_line at due in
    let here : Has x.asks a0 = has_at x.asks place no_ask inside in
    record {
      stand = λ a p h m e. elim (other_asks x place v a s inside h) [
        | inl is ↦
            absurd (false≢true (sym e ∙ (ap (λ (b : Ask). is_given b.end_line) (sym is) ∙ ap is_given ended)))
        | inr was ↦
            let old = w.stand a p was.0 m e in
            record {
              entry = old.entry;
              stands = stands_more lines line p a.number old.entry begun (other_number a.number a0.number was.1) old.stands;
              same = old.same;
            }
      ];
      only = λ n e h.
          let now : after (alive lines) line n ≡ Some e = sym (alive_more lines line n) ∙ h in
          elim (cases_eq n a0.number) [
            | inl same ↦
                let gone : after (alive lines) line n ≡ None = if_yes (n == a0.number) None (alive lines n) (eq-eqb n a0.number same) in
                let no : ⊥ = (let both : None ≡ Some e = sym gone ∙ now in cc) in absurd no
            | inr other ↦
                let was : after (alive lines) line n ≡ alive lines n = if_no (n == a0.number) None (alive lines n) (other_number n a0.number other) in
                let o = w.only n e (sym was ∙ now) in
                (o.0, still_asks x place v o.0 o.1 (λ e. other (sym o.2 ∙ e)), o.2, o.3)
          ];
      kept = λ a h holds. elim (other_asks x place v a s inside h) [
        | inl is ↦ absurd (holds_isnt_over a0.stage is_over_ (ap (λ (b : Ask). b.stage) is ∙ holds))
        | inr was ↦ w.kept a was.0 holds
      ];
      ends = λ a h o m. elim (other_asks x place v a s inside h) [
        | inl is ↦ subst (λ (b : Ask). b.end_line ≢ NoLine) is (at_isnt_none v.end_line at ended)
        | inr was ↦ w.ends a was.0 o m
      ];
      unused = λ a h m.
          let more = count_no (begins a.number) lines line refl in
          elim (other_asks x place v a s inside h) [
            | inl is ↦
                more ∙ subst (λ n. count_by (begins n) lines ≡ 0) (ap (λ (b : Ask). b.number) is)
                (w.unused a0 here (not_given a0.hold_line at (ap (λ (b : Ask). is_given b.hold_line) is ∙ m)))
            | inr was ↦ more ∙ w.unused a was.0 m
          ];
      below = below_more lines line x.next w.below (let low = s.below place no_ask inside in omega (arith, low));
    }

-- ---- it holds

pub written_hold_line : (lines : List Line) (x : BookView) (place at : ℕ) → is_none lines ≡ false → IsSound x → place < length x.asks
    → (ask_at x.asks place).hold_line ≡ Due
    → at ≡ base_of (lines ++ hold_line (ask_at x.asks place) ∷ []) + length (log_text (lines ++ hold_line (ask_at x.asks place) ∷ []))
    → IsWritten lines x → IsWritten (lines ++ hold_line (ask_at x.asks place) ∷ []) (give_one x place at)
written_hold_line lines x place at begun s inside due is_at w =
    let a0 = ask_at x.asks place in
    let v : Ask = given at a0 in
    let line : Line = hold_line a0 in
    let sound : IsSoundAsk x.durable a0 = s.each place no_ask inside in
    let holds : a0.stage ≡ Holds = due_hold_at x.durable a0 a0.stage sound due in
    let no_end : a0.end_line ≡ NoLine = end_none x.durable a0 sound (ap is_over holds) in
    let marked : v.hold_line ≡ At at = given_due a0.hold_line at due in
    let here : Has x.asks a0 = has_at x.asks place no_ask inside in
    let there : Has (give_one x place at).asks v = set_new x.asks place v inside in
    record {
      stand = λ a p h m e. elim (other_asks x place v a s inside h) [
        | inl is ↦
            let same : at ≡ p = same_at at p (sym marked ∙ (ap (λ (b : Ask). b.hold_line) is ∙ m)) in
            subst (StandsIn (lines ++ line ∷ []) p) is
            (record {
              entry = entry_of a0;
              stands =
                  stands_now (lines ++ line ∷ []) p a0.number (entry_of a0) (omega (arith, is_at, same))
                  (alive_more lines line a0.number ∙ hold_here (alive lines) a0.number a0.number (entry_of a0) refl);
              same = λ h. refl;
            })
        | inr was ↦
            let old = w.stand a p was.0 m e in
            record {
              entry = old.entry;
              stands = stands_more lines line p a.number old.entry begun (other_number a.number a0.number was.1) old.stands;
              same = old.same;
            }
      ];
      only = λ n e h.
          let now : after (alive lines) line n ≡ Some e = sym (alive_more lines line n) ∙ h in
          elim (cases_eq n a0.number) [
            | inl same ↦
                (v, there, sym same, record { begun = ap is_given marked; goes_on = ap is_given (given_none a0.end_line at no_end) })
            | inr other ↦
                let was : after (alive lines) line n ≡ alive lines n =
                if_no (n == a0.number) (Some (entry_of a0)) (alive lines n) (other_number n a0.number other) in
                let o = w.only n e (sym was ∙ now) in
                (o.0, still_asks x place v o.0 o.1 (λ e. other (sym o.2 ∙ e)), o.2, o.3)
          ];
      kept = λ a h k. elim (other_asks x place v a s inside h) [
        | inl is ↦ subst (λ (b : Ask). b.hold_line ≢ NoLine) is (at_isnt_none v.hold_line at marked)
        | inr was ↦ w.kept a was.0 k
      ];
      ends = λ a h o m. elim (other_asks x place v a s inside h) [
        | inl is ↦ absurd (false≢true (sym (ap is_over holds) ∙ (ap (λ (b : Ask). is_over b.stage) is ∙ o)))
        | inr was ↦ w.ends a was.0 o m
      ];
      unused = λ a h m. elim (other_asks x place v a s inside h) [
        | inl is ↦ absurd (false≢true (sym m ∙ (ap (λ (b : Ask). is_given b.hold_line) (sym is) ∙ ap is_given marked)))
        | inr was ↦ count_no (begins a.number) lines line (other_number a.number a0.number was.1) ∙ w.unused a was.0 m
      ];
      below = below_more lines line x.next w.below (let low = s.below place no_ask inside in omega (arith, low));
    }

-- each begins once
pub once_end : (lines : List Line) (n : ℕ) (how : How) (at : ℕ) → BeginOnce lines → BeginOnce (lines ++ End n how at ∷ [])
once_end lines n how at once m = subst (λ k. k ≤ 1) (sym (count_no (begins m) lines (End n how at) refl)) (once m)

pub once_hold : (lines : List Line) (x : BookView) (place : ℕ) → place < length x.asks → (ask_at x.asks place).hold_line ≡ Due → IsWritten lines x
    → BeginOnce lines → BeginOnce (lines ++ hold_line (ask_at x.asks place) ∷ [])
once_hold lines x place inside due w once n =
    let a0 = ask_at x.asks place in
    let line : Line = hold_line a0 in
    elim (cases_eq n a0.number) [
      | inl same ↦
          let more = count_yes (begins n) lines line (eq-eqb n a0.number same) in
          let was : count_by (begins n) lines ≡ 0 =
          subst (λ k. count_by (begins k) lines ≡ 0) (sym same) (w.unused a0 (has_at x.asks place no_ask inside) (ap is_given due)) in
          omega (arith, more, was)
      | inr other ↦ subst (λ k. k ≤ 1) (sym (count_no (begins n) lines line (other_number n a0.number other))) (once n)
    ]

-- ---- all of them

-- so it is of book and log
pub record Both (x : Kept) : Type 0 where
  pub begun : is_none x.log.lines ≡ false
  pub sound : IsSound x.book
  pub written : IsWritten x.log.lines x.book
