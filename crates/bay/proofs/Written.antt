-- What the log says of the asks stays what the book does.
use Rattle.std.proofs.Common.{◌≡◌, ◌≢◌, ◌⊎◌, ℕ, ◌+◌, ◌<◌, ◌≤◌, Bool, true, false, not, ◌&&◌, List, [], ◌∷◌, ◌++◌, length, Option, refl, sym, ap, ◌∙◌, subst, inl, inr, arith}
use Rattle.std.specs.Prelude.{◌||◌, is_some}
use Rattle.std.specs.List.{count_by}
use Rattle.std.proofs.lemmas.Bool.{cases_eq, false≢true}
use Rattle.bay_book.specs.declared.ask.Ask.{Ask}
use Rattle.bay_book.specs.declared.ask.End.{End as HowOver}
use Rattle.bay_book.specs.declared.ask.Mark.{Mark}
use Rattle.bay_book.specs.declared.ask.Mark.TheVariants.{None as NoLine, Due, At}
use Rattle.bay_book.specs.declared.ask.Outcome.{Outcome}
use Rattle.bay_book.specs.declared.ask.Stage.{Stage}
use Rattle.bay_book.specs.declared.ask.Stage.TheVariants.{Waits, Holds, Over}
use Rattle.bay_book.specs.Asks.{ask_at, no_ask, is_over, is_owed, kept_mark, end_mark, given_mark, asker, holding, over, gone_since, back_again, hearing, is_done, has_heard_end, has_left, IsSoundAt, IsSoundAsk}
use Rattle.bay_book.specs.Books.{BookView, IsSound, with_ask, add, hold, reach, purge}
use Rattle.bay_log.specs.declared.line.Line.{Line}
use Rattle.bay_log.specs.declared.line.Line.TheVariants.{Head, Note}
use Rattle.bay_log.specs.Lines.{is_none}
use Rattle.bay_log.specs.Alive.{begins}
use Rattle.bay.specs.Keeping.{starting}
use Rattle.bay.specs.Members.{Has}
use Rattle.bay.specs.Written.{entry_of, is_given, bound_of, IsOpen, Stands, StandsIn, IsWritten}
use Rattle.bay.proofs.Members.{has_at, filter_cases, filter_has, append_cases, append_first, set_new}
use Rattle.bay.proofs.Tied.{other_asks, still_asks, same_ask}
use Rattle.bay.proofs.LogLines.{alive_more, count_no, stands_more, none_begins, below_more}

-- ---- marks

pub at_isnt_none : (m : Mark) (p : ℕ) → m ≡ At p → m ≢ NoLine
at_isnt_none m p e n = let no : ⊥ = cc in no

pub at_isnt_due : (m : Mark) (p : ℕ) → m ≡ Due → m ≢ At p
at_isnt_due m p e n = let no : ⊥ = cc in no

pub none_isnt_at : (m : Mark) (p : ℕ) → m ≡ NoLine → m ≢ At p
none_isnt_at m p e n = let no : ⊥ = cc in no

pub due_isnt_none : (m : Mark) → m ≡ Due → m ≢ NoLine
due_isnt_none m e n = let no : ⊥ = cc in no

kept_at : (m : Mark) (p : ℕ) → kept_mark m ≡ At p → m ≡ At p
kept_at NoLine p h = h
kept_at Due p h = let no : ⊥ = cc in absurd no
kept_at (At q) p h = h

kept_given : (m : Mark) → is_given (kept_mark m) ≡ is_given m
kept_given NoLine = refl
kept_given Due = refl
kept_given (At q) = refl

end_not_given : (m : Mark) → is_given (end_mark m) ≡ false
end_not_given NoLine = refl
end_not_given Due = refl
end_not_given (At q) = refl

end_owed : (m : Mark) → is_given (kept_mark m) ≡ true → end_mark m ≢ NoLine
end_owed NoLine h e = false≢true h
end_owed Due h e = false≢true h
end_owed (At q) h e = let no : ⊥ = cc in no

pub not_given : (m : Mark) (p : ℕ) → is_given (given_mark p m) ≡ false → is_given m ≡ false
not_given NoLine p h = refl
not_given Due p h = refl
not_given (At q) p h = h

-- ---- what an ask is, by its stage

end_none_at : (d : ℕ) (a : Ask) (s : Stage) → IsSoundAt d a s → is_over s ≡ false → a.end_line ≡ NoLine
end_none_at d a Waits h n = h.3
end_none_at d a Holds h n = h.2
end_none_at d a (Over how) h n = absurd (false≢true (sym n))

pub end_none : (d : ℕ) (a : Ask) → IsSoundAsk d a → is_over a.stage ≡ false → a.end_line ≡ NoLine
end_none d a h n = end_none_at d a a.stage h n

waits_none : (d : ℕ) (a : Ask) → IsSoundAsk d a → a.stage ≡ Waits → a.hold_line ≡ NoLine
waits_none d a h w = (let k : IsSoundAt d a Waits = subst (IsSoundAt d a) w h in k.2)

-- ---- the ask is changed, and as to the log it is as it was

pub record IsAsGiven (a v : Ask) : Type 0 where
  pub number : v.number ≡ a.number
  pub hold : (at : ℕ) → v.hold_line ≡ At at → a.hold_line ≡ At at
  pub end : is_given v.end_line ≡ false → is_given a.end_line ≡ false
  pub same : (at : ℕ) → v.hold_line ≡ At at → v.stage ≡ Holds → (a.stage ≡ Holds) × (entry_of a ≡ entry_of v)
  pub opens : IsOpen a → IsOpen v
  pub given : is_given v.hold_line ≡ is_given a.hold_line
  pub kept : v.stage ≡ Holds → v.hold_line ≢ NoLine
  pub ends : is_over v.stage ≡ true → is_given v.hold_line ≡ true → v.end_line ≢ NoLine

pub written_set : (lines : List Line) (x : BookView) (place : ℕ) (v : Ask) → IsSound x → place < length x.asks → IsAsGiven (ask_at x.asks place) v
    → IsWritten lines x → IsWritten lines (with_ask x place v)
written_set lines x place v s inside g w =
    let a0 = ask_at x.asks place in
    let here : Has x.asks a0 = has_at x.asks place no_ask inside in
    record {
      stand = λ a at h m e. elim (other_asks x place v a s inside h) [
        | inl is ↦
            subst (StandsIn lines at) is
            (let m' : v.hold_line ≡ At at = ap (λ (b : Ask). b.hold_line) is ∙ m in
            let e' : is_given v.end_line ≡ false = ap (λ (b : Ask). is_given b.end_line) is ∙ e in
            let old = w.stand a0 at here (g.hold at m') (g.end e') in
            record {
              entry = old.entry;
              stands = subst (λ n. Stands lines at n old.entry) (sym g.number) old.stands;
              same = λ h. let r = g.same at m' h in old.same r.0 ∙ r.1;
            })
        | inr was ↦ w.stand a at was.0 m e
      ];
      only = λ n e h.
          let o = w.only n e h in
          elim (cases_eq n a0.number) [
            | inl same ↦
                let is : o.0 ≡ a0 = same_ask x o.0 a0 s o.1 here (o.2 ∙ same) in
                (v, set_new x.asks place v inside, g.number ∙ sym same, g.opens (subst IsOpen is o.3))
            | inr other ↦ (o.0, still_asks x place v o.0 o.1 (λ e. other (sym o.2 ∙ e)), o.2, o.3)
          ];
      kept = λ a h holds. elim (other_asks x place v a s inside h) [
        | inl is ↦
            subst (λ (b : Ask). b.hold_line ≢ NoLine) is (g.kept (ap (λ (b : Ask). b.stage) is ∙ holds))
        | inr was ↦ w.kept a was.0 holds
      ];
      ends = λ a h o m. elim (other_asks x place v a s inside h) [
        | inl is ↦
            subst (λ (b : Ask). b.end_line ≢ NoLine) is
            (g.ends (ap (λ (b : Ask). is_over b.stage) is ∙ o) (ap (λ (b : Ask). is_given b.hold_line) is ∙ m))
        | inr was ↦ w.ends a was.0 o m
      ];
      unused = λ a h m. elim (other_asks x place v a s inside h) [
        | inl is ↦
            subst (λ n. count_by (begins n) lines ≡ 0) (sym g.number ∙ ap (λ (b : Ask). b.number) is)
            (w.unused a0 here (sym g.given ∙ (ap (λ (b : Ask). is_given b.hold_line) is ∙ m)))
        | inr was ↦ w.unused a was.0 m
      ];
      below = w.below;
    }

-- ---- each call

pub written_gone : (lines : List Line) (x : BookView) (place moment : ℕ) → IsSound x → place < length x.asks → IsWritten lines x
    → IsWritten lines (with_ask x place (gone_since moment (ask_at x.asks place)))
written_gone lines x place moment s inside w =
    let a0 = ask_at x.asks place in let here = has_at x.asks place no_ask inside in
    written_set lines x place (gone_since moment a0) s inside
    (record {
      number = refl;
      hold = λ at h. h;
      end = λ h. h;
      same = λ at h k. (k, refl);
      opens = λ o. record { begun = o.begun; goes_on = o.goes_on };
      given = refl;
      kept = w.kept a0 here;
      ends = w.ends a0 here;
    }) w

pub written_back : (lines : List Line) (x : BookView) (place : ℕ) → IsSound x → place < length x.asks → IsWritten lines x
    → IsWritten lines (with_ask x place (back_again (ask_at x.asks place)))
written_back lines x place s inside w =
    let a0 = ask_at x.asks place in let here = has_at x.asks place no_ask inside in
    written_set lines x place (back_again a0) s inside
    (record {
      number = refl;
      hold = λ at h. h;
      end = λ h. h;
      same = λ at h k. (k, refl);
      opens = λ o. record { begun = o.begun; goes_on = o.goes_on };
      given = refl;
      kept = w.kept a0 here;
      ends = w.ends a0 here;
    }) w

pub written_heard : (lines : List Line) (x : BookView) (place : ℕ) (what : Outcome) → IsSound x → place < length x.asks → IsWritten lines x
    → IsWritten lines (with_ask x place (hearing what (ask_at x.asks place)))
written_heard lines x place what s inside w =
    let a0 = ask_at x.asks place in let here = has_at x.asks place no_ask inside in
    written_set lines x place (hearing what a0) s inside
    (record {
      number = refl;
      hold = λ at h. h;
      end = λ h. h;
      same = λ at h k. (k, refl);
      opens = λ o. record { begun = o.begun; goes_on = o.goes_on };
      given = refl;
      kept = w.kept a0 here;
      ends = w.ends a0 here;
    }) w

-- it holds, and owes a line
pub written_hold : (lines : List Line) (x : BookView) (place needs now : ℕ) (keeps : Bool) → IsSound x → place < length x.asks
    → (ask_at x.asks place).stage ≡ Waits → keeps ≡ true → IsWritten lines x
    → IsWritten lines (hold x place needs now keeps)
written_hold lines x place needs now false s inside waits k w = absurd (false≢true k)
written_hold lines x place needs now true s inside waits k w =
    let a0 = ask_at x.asks place in
    let sound : IsSoundAsk x.durable a0 = s.each place no_ask inside in
    let none : a0.hold_line ≡ NoLine = waits_none x.durable a0 sound waits in
    let r = written_set lines x place (holding needs now true (x.granted + 1) a0) s inside
    (record {
      number = refl;
      hold = λ at h. absurd (at_isnt_due Due at refl h);
      end = λ h. h;
      same = λ at h k. absurd (at_isnt_due Due at refl h);
      opens = λ o. absurd (false≢true (sym (ap is_given none) ∙ o.begun));
      given = sym (ap is_given none);
      kept = λ h. due_isnt_none Due refl;
      ends = λ o m. absurd (false≢true o);
    }) w in
    record { stand = r.stand; only = r.only; kept = r.kept; ends = r.ends; unused = r.unused; below = r.below }

-- it is over, and owes a line of that if one was given that it holds
pub written_over : (lines : List Line) (x : BookView) (place : ℕ) (how : HowOver) (now : ℕ) → IsSound x → place < length x.asks
    → is_over (ask_at x.asks place).stage ≡ false → IsWritten lines x → IsWritten lines (with_ask x place (over how now (ask_at x.asks place)))
written_over lines x place how now s inside open_yet w =
    let a0 = ask_at x.asks place in
    let sound : IsSoundAsk x.durable a0 = s.each place no_ask inside in
    let none : a0.end_line ≡ NoLine = end_none x.durable a0 sound open_yet in
    written_set lines x place (over how now a0) s inside
    (record {
      number = refl;
      hold = λ at h. kept_at a0.hold_line at h;
      end = λ h. ap is_given none;
      same = λ at h k. let no : ⊥ = false≢true (sym (ap is_over k)) in absurd no;
      opens = λ o. record { begun = kept_given a0.hold_line ∙ o.begun; goes_on = end_not_given a0.hold_line };
      given = kept_given a0.hold_line;
      kept = λ h. let no : ⊥ = false≢true (sym (ap is_over h)) in absurd no;
      ends = λ o m. end_owed a0.hold_line m;
    }) w

pub written_add : (lines : List Line) (x : BookView) (number class owner : ℕ) (deadline limit : Option ℕ) (now : ℕ) → x.next ≤ number → IsWritten lines x
    → IsWritten lines (add x number class owner deadline limit now)
written_add lines x number class owner deadline limit now new w =
    let v : Ask = asker number class owner deadline limit now in
    let cases : (a : Ask) → Has (x.asks ++ v ∷ []) a → Has x.asks a ⊎ (v ≡ a) =
    λ a h. elim (append_cases x.asks (v ∷ []) a h) [ inl was ↦ inl was | inr last ↦ elim last [ inl is ↦ inr is | inr none ↦ absurd none ] ] in
    record {
      stand = λ a at h m e. elim (cases a h) [
        | inl was ↦ w.stand a at was m e
        | inr is ↦ absurd (none_isnt_at v.hold_line at refl (ap (λ (b : Ask). b.hold_line) is ∙ m))
      ];
      only = λ n e h. let o = w.only n e h in (o.0, append_first x.asks (v ∷ []) o.0 o.1, o.2, o.3);
      kept = λ a h holds. elim (cases a h) [
        | inl was ↦ w.kept a was holds
        | inr is ↦ let e : Waits ≡ Holds = ap (λ (b : Ask). b.stage) is ∙ holds in let no : ⊥ = cc in absurd no
      ];
      ends = λ a h o m. elim (cases a h) [
        | inl was ↦ w.ends a was o m
        | inr is ↦ absurd (false≢true (ap (λ (b : Ask). is_over b.stage) is ∙ o))
      ];
      unused = λ a h m. elim (cases a h) [
        | inl was ↦ w.unused a was m
        | inr is ↦ subst (λ n. count_by (begins n) lines ≡ 0) (ap (λ (b : Ask). b.number) is) (none_begins lines number x.next w.below new)
      ];
      below = λ line h. let b = w.below line h in omega (arith, b, new);
    }

pub written_reach : (lines : List Line) (x : BookView) (position : ℕ) → IsWritten lines x → IsWritten lines (reach x position)
written_reach lines x position w =
    record { stand = w.stand; only = w.only; kept = w.kept; ends = w.ends; unused = w.unused; below = w.below }

-- ---- those that are done

and_last : (a b c : Bool) → (a && b && not c) ≡ true → (a ≡ true) × (c ≡ false)
and_last true true true h = absurd (false≢true h)
and_last true true false h = (refl, refl)
and_last true false true h = absurd (false≢true h)
and_last true false false h = absurd (false≢true h)
and_last false true true h = absurd (false≢true h)
and_last false true false h = absurd (false≢true h)
and_last false false true h = absurd (false≢true h)
and_last false false false h = absurd (false≢true h)

pub no_mark : (m : Mark) → is_owed m ≡ false → is_given m ≡ false → m ≡ NoLine
no_mark NoLine o g = refl
no_mark Due o g = absurd (false≢true (sym o))
no_mark (At p) o g = absurd (false≢true (sym g))

is_not_done : (a : Ask) (t : Bool) → is_done a ≡ t → (is_done a ≡ true → ⊥) → not (is_done a) ≡ true
is_not_done a true e no_ = absurd (no_ e)
is_not_done a false e no_ = ap not e

pub written_purge : (lines : List Line) (x : BookView) → IsWritten lines x → IsWritten lines (purge x)
written_purge lines x w =
    let p : Ask → Bool = λ a. not (is_done a) in
    record {
      stand = λ a at h m e. w.stand a at (filter_cases p x.asks a h).0 m e;
      only = λ n e h.
          let o = w.only n e h in
          let a = o.0 in
          let stays : is_done a ≡ true → ⊥ =
          λ d. let r = and_last (is_over a.stage) (has_heard_end a.heard || has_left a.stage || is_some a.gone) (is_owed a.end_line) d in
          w.ends a o.1 r.0 o.3.begun (no_mark a.end_line r.1 o.3.goes_on) in
          (a, filter_has p x.asks a o.1 (is_not_done a (is_done a) refl stays), o.2, o.3);
      kept = λ a h holds. w.kept a (filter_cases p x.asks a h).0 holds;
      ends = λ a h o m. w.ends a (filter_cases p x.asks a h).0 o m;
      unused = λ a h m. w.unused a (filter_cases p x.asks a h).0 m;
      below = w.below;
    }

-- ---- a fresh bay, and a note

pub written_fresh : (bay : List ℕ) (base next granted durable : ℕ) → IsWritten (Head bay base next granted ∷ []) (starting next granted durable)
written_fresh bay base next granted durable = record {
  stand = λ a at h m e. absurd h;
  only = λ n e h. let no : ⊥ = cc in absurd no;
  kept = λ a h holds. absurd h;
  ends = λ a h o m. absurd h;
  unused = λ a h m. absurd h;
  below = λ line h. elim h [ inl is ↦ subst (λ (l : Line). bound_of l ≤ next) is (omega arith) | inr none ↦ absurd none ];
}

pub written_note : (lines : List Line) (x : BookView) (ask : ℕ) (text : List ℕ) → is_none lines ≡ false → ask < x.next → IsWritten lines x
    → IsWritten (lines ++ Note ask text ∷ []) x
written_note lines x ask text begun less w =
    let line : Line = Note ask text in
    record {
      stand = λ a at h m e.
          let old = w.stand a at h m e in
          record { entry = old.entry; stands = stands_more lines line at a.number old.entry begun refl old.stands; same = old.same };
      only = λ n e h. w.only n e (sym (alive_more lines line n) ∙ h);
      kept = w.kept;
      ends = w.ends;
      unused = λ a h m. count_no (begins a.number) lines line refl ∙ w.unused a h m;
      below = below_more lines line x.next w.below (omega (arith, less));
    }
