-- How a world goes on: where it began, the events since, and those that are kept.
use Rattle.std.proofs.Common.{◌≡◌, ℕ, Bool, true, false, ltb, if◌then◌else◌, List, [], ◌∷◌, ◌++◌, length, refl, sym, ap, ◌∙◌, subst, append_assoc, append-nil}
use Rattle.std.proofs.lemmas.Bool.{false≢true}
use Rattle.legal_steps.specs.declared.event.Event.{Event}
use Rattle.interleaving.specs.Kept.{TapeView, next_kept, after_kept, IsKept}
use Rattle.interleaving.specs.World.{WorldView, GoesOn, GoesOnBy}

-- ---- what is kept

pub kept_both : (kept : TapeView) (xs ys : List Event) → after_kept (after_kept kept xs) ys ≡ after_kept kept (xs ++ ys)
kept_both kept [] ys = refl
kept_both kept (x ∷ xs) ys = kept_both (next_kept kept x) xs ys

-- with room or without
chosen : (past : List Event) (kept : TapeView) (event : Event) (b : Bool) → IsKept past kept
    → IsKept (past ++ event ∷ []) (if b then record kept { events = kept.events ++ event ∷ [] } else record kept { whole = false })
chosen past kept event true is = λ whole. let ends = is whole in (ends.0, ap (λ (l : List Event). l ++ event ∷ []) ends.1 ∙ append_assoc ends.0 kept.events (event ∷ []))
chosen past kept event false is = λ whole. absurd (false≢true whole)

pub kept_next : (past past' : List Event) (kept kept' : TapeView) (event : Event) → IsKept past kept
    → past' ≡ past ++ event ∷ [] → kept' ≡ next_kept kept event → IsKept past' kept'
kept_next past past' kept kept' event is grown next =
    subst (λ (z : List Event × TapeView). IsKept z.0 z.1) (λ i. (sym grown i, sym next i)) (chosen past kept event (ltb (length kept.events) kept.room) is)

-- nothing is kept yet
pub kept_none : (past : List Event) (room : ℕ) → IsKept past (record { room = room; events = []; whole = true })
kept_none past room = λ whole. (past, sym (append-nil past))

-- what was kept is let go
pub kept_taken : (past : List Event) (kept : TapeView) → IsKept past kept → IsKept past (record kept { events = [] })
kept_taken past kept is = λ whole. (past, sym (append-nil past))

-- ---- one way after another

pub by_both : (old mid new : WorldView) (xs ys : List Event) → GoesOnBy old xs mid → GoesOnBy mid ys new → GoesOnBy old (xs ++ ys) new
by_both old mid new xs ys a b = record {
  same_opening = b.same_opening ∙ a.same_opening;
  past = b.past ∙ (ap (λ (l : List Event). l ++ ys) a.past ∙ append_assoc old.past xs ys);
  kept = b.kept ∙ (ap (λ (k : TapeView). after_kept k ys) a.kept ∙ kept_both old.kept xs ys);
}

pub on_by : (old new : WorldView) (events : List Event) → GoesOnBy old events new → GoesOn old new
on_by old new events by = record { same_opening = by.same_opening; more = events; past = by.past; kept = by.kept }

pub by_on : (old new : WorldView) (on : GoesOn old new) → GoesOnBy old on.more new
by_on old new on = record { same_opening = on.same_opening; past = on.past; kept = on.kept }

by_none : (w : WorldView) → GoesOnBy w [] w
by_none w = record { same_opening = refl; past = sym (append-nil w.past); kept = refl }

pub on_still : (w : WorldView) → GoesOn w w
on_still w = on_by w w [] (by_none w)

pub on_same : (old new : WorldView) → new ≡ old → GoesOn old new
on_same old new same = subst (GoesOn old) (sym same) (on_still old)

pub on_both : (old mid new : WorldView) → GoesOn old mid → GoesOn mid new → GoesOn old new
on_both old mid new a b = on_by old new (a.more ++ b.more) (by_both old mid new a.more b.more (by_on old mid a) (by_on mid new b))
