-- Lists of desks that took turns.
use Rattle.std.proofs.Common.{take, drop, ◌≡◌, ℕ, zero, suc, ◌+◌, ◌-◌, max, ◌<◌, ◌≤◌, inl, inr, Bool, true, false, List, [], ◌∷◌, ◌++◌, length, get_or, set, refl, sym, ◌∙◌, subst, arith, add-one}
use Rattle.turns.specs.Lists.{Each}
use Rattle.edge_rule.proofs.Rosters.{any_left, any_right}
use Rattle.edge_rule.specs.DeskView.{DeskView, BenchView, Owns}
use Rattle.edge_rule.specs.Ending.{Any}
use Rattle.session_layer.specs.Grown.{TookTurns}
use Rattle.session_layer.proofs.Grows as grows
use Rattle.turns.specs.AtTheEnd.{AllRetired}
use Rattle.session_layer.specs.Retired.{Glanced, glances}
use Rattle.session_layer.proofs.Glances.{glances_none}
use Rattle.std.proofs.lemmas.Bool.{false≢true}
use Rattle.workers.specs.declared.halt.Halt.{Halt}
use Rattle.workers.specs.declared.halt.Halt.TheVariants as halts
use Rattle.workers.specs.Pairs.{Pairs}
use Rattle.workers.proofs.Pairs.{pairs-append, pairs_map, pairs_then, pairs_each}
use Rattle.workers.specs.Team.{LookedOut, TookUpTo, Worked, GoesOn, LooksOut, AtFirst}

-- ---- one desk

pub took_none : (d : DeskView) → TookTurns 0 d d
took_none d = grows.glances_alone d d [] (grows.grew_none d) refl refl

pub took_more : (n : ℕ) (d m e : DeskView) → TookTurns n d m → TookTurns 1 m e → TookTurns (n + 1) d e
took_more n d m e a t = grows.turns_go_on n 1 d m e a t

none_more : (n : ℕ) → n + 0 ≡ n
none_more n = omega arith

pub whole : (k most : ℕ) → k ≤ most → k + (most - k) ≡ most
whole k most l = omega arith

-- what is no turn leaves their number
pub took_then : (n : ℕ) (d m e : DeskView) → TookTurns n d m → TookTurns 0 m e → TookTurns n d e
took_then n d m e a t = subst (λ k. TookTurns k d e) (none_more n) (grows.turns_go_on n 0 d m e a t)

pub took_glanced : (n : ℕ) (d m e : DeskView) (r : Bool) → TookTurns n d m → Glanced m r e → TookTurns n d e
took_glanced n d m e r a t = took_then n d m e a (grows.glances_alone m e (glances m.job t.saw) t.grew (glances_none m.job t.saw) t.clock)

pub took_looked : (n : ℕ) (d m e : DeskView) (r : Bool) → TookTurns n d m → LookedOut m r e → TookTurns n d e
took_looked n d m e r a t = elim t [ inl g ↦ took_glanced n d m e r a g | inr same ↦ subst (TookTurns n d) (sym same.1) a ]

pub took_owns : (b : BenchView) (n : ℕ) (d e : DeskView) → TookTurns n d e → Owns b d → Owns b e
took_owns b n d e t o = (t.grew.table ∙ o.0, t.grew.plan ∙ o.1)

pub each_at : {A : Type 0} (P : A → Type 0) (l : List A) (k : ℕ) (x : A) → k < length l → x ≡ get_or l k x → Each P l → P x
each_at P [] k x h is e = absurd (omega arith)
each_at P (y ∷ l) zero x h is e = subst P (sym is) e.0
each_at P (y ∷ l) (suc k) x h is e = each_at P l k x (omega arith) is e.1

pub all_own : (b : BenchView) (n : ℕ) (old new : List DeskView) → Pairs (TookTurns n) old new → Each (Owns b) old → Each (Owns b) new
all_own b n old new t own = pairs_each (TookTurns n) (Owns b) (Owns b) (took_owns b n) old new t own

pub none_took : (l : List DeskView) → Pairs (TookTurns 0) l l
none_took [] = refl
none_took (d ∷ l) = (took_none d, none_took l)

-- ---- a worker's rounds

-- a round, after which the first may glance at all others
module _ (n : ℕ) (old mid new : List DeskView) (x y : DeskView) (t : Pairs (TookTurns n) old mid)
    (s : Pairs (TookTurns 1) mid new) (some : 0 < length new) (is : x ≡ get_or new 0 x) where
  pub round_took : (r : Bool) → LookedOut x r y → Pairs (TookTurns (n + 1)) old (set new 0 y)
  round_took r g = first old new (pairs_then (TookTurns n) (TookTurns 1) (TookTurns (n + 1)) (λ d m e a b. took_more n d m e a b) old mid new t s) some is where
    first : (old new : List DeskView) → Pairs (TookTurns (n + 1)) old new → 0 < length new → x ≡ get_or new 0 x → Pairs (TookTurns (n + 1)) old (set new 0 y)
    first old [] p h e = absurd (omega arith)
    first [] (z ∷ new) p h e = absurd (cc)
    first (d ∷ old) (z ∷ new) p h e = (took_looked (n + 1) d z y r p.0 (subst (λ v. LookedOut v r y) e g), p.1)

  any_set : (P : DeskView → Type 0) (l : List DeskView) → 0 < length l → P y → Any P (set l 0 y)
  any_set P [] h p = absurd (omega arith)
  any_set P (z ∷ l) h p = inl p

  -- a worker that saw all retired
  pub worked_early : (turns : ℕ) → n < turns → LookedOut x true y → Worked turns old halts.AllRetired (set new 0 y)
  worked_early turns l g = (
    pairs_map (TookTurns (n + 1)) (TookUpTo turns) (λ d e a. (n + 1, (omega arith), a)) old (set new 0 y) (round_took true g),
    any_set (λ (e : DeskView). AllRetired e.plan e.front) new some (elim g [ inl seen ↦ seen.done refl | inr same ↦ absurd (false≢true (sym same.2)) ]),
  )

  -- what the first desk did in this round, by what it saw after it
  watched : (R : DeskView → DeskView → Type 0) (r : Bool) → ((d m : DeskView) → GoesOn n d m → TookTurns 1 m x → R d y)
      → (old mid new : List DeskView) → x ≡ get_or new 0 x → AtFirst (GoesOn n) old mid → Pairs (TookTurns 1) mid new → AtFirst R old (set new 0 y)
  watched R r f [] mid new e a p = tt
  watched R r f (d ∷ old) [] new e a p = subst (λ (z : List DeskView). AtFirst R (d ∷ old) (set z 0 y)) (sym p) tt
  watched R r f (d ∷ old) (m ∷ mid) [] e a p = tt
  watched R r f (d ∷ old) (m ∷ mid) (z ∷ new) e a p = f d m a (subst (TookTurns 1 m) (sym e) p.0)

  pub goes_on : AtFirst (GoesOn n) old mid → LookedOut x false y → AtFirst (GoesOn (n + 1)) old (set new 0 y)
  goes_on a g = subst (λ (k : ℕ). AtFirst (GoesOn k) old (set new 0 y)) (sym (add-one n))
      (watched (GoesOn (suc n)) false (λ d m b p. (m, x, b, p, g)) old mid new is a s)

  pub ends : (turns : ℕ) → n < turns → AtFirst (GoesOn n) old mid → LookedOut x true y → AtFirst (LooksOut turns halts.AllRetired) old (set new 0 y)
  ends turns l a g = watched (LooksOut turns halts.AllRetired) true (λ d m b p. (n, m, x, l, b, p, g)) old mid new is a s

pub goes_none : (l : List DeskView) → AtFirst (GoesOn 0) l l
goes_none [] = tt
goes_none (d ∷ l) = refl

pub took_up_to : (turns : ℕ) (old new : List DeskView) (h : Halt) → Worked turns old h new → Pairs (TookUpTo turns) old new
took_up_to turns old new (halts.After n) w = pairs_map (TookTurns n) (TookUpTo turns) (λ d e a. (n, w.0, a)) old new w.1
took_up_to turns old new halts.AllRetired w = w.0

pub worked_owns : (b : BenchView) (turns : ℕ) (old new : List DeskView) (h : Halt) → Worked turns old h new → Each (Owns b) old → Each (Owns b) new
worked_owns b turns old new h w own =
    pairs_each (TookUpTo turns) (Owns b) (Owns b) (λ d e a o. took_owns b a.0 d e a.2 o) old new (took_up_to turns old new h w) own

-- two parts, one of which has seen all retired
module _ (turns : ℕ) (a a' b b' : List DeskView) where
  both_up_to : (g h : Halt) → Worked turns a g a' → Worked turns b h b' → Pairs (TookUpTo turns) (a ++ b) (a' ++ b')
  both_up_to g h s t = pairs-append (TookUpTo turns) a a' b b' (took_up_to turns a a' g s) (took_up_to turns b b' h t)

  pub worked_left : (h : Halt) → Worked turns a halts.AllRetired a' → Worked turns b h b' → Worked turns (a ++ b) halts.AllRetired (a' ++ b')
  worked_left h s t = (both_up_to halts.AllRetired h s t, any_left (λ (e : DeskView). AllRetired e.plan e.front) a' b' s.1)

  pub worked_right : (g : Halt) → Worked turns a g a' → Worked turns b halts.AllRetired b' → Worked turns (a ++ b) halts.AllRetired (a' ++ b')
  worked_right g s t = (both_up_to g halts.AllRetired s t, any_right (λ (e : DeskView). AllRetired e.plan e.front) a' b' t.1)

-- turns, and those that are left of so many
pub took_rest : (k most : ℕ) (a a' a'' : List DeskView) → k ≤ most → Pairs (TookTurns k) a a' → Pairs (TookTurns (most - k)) a' a''
    → Pairs (TookTurns most) a a''
took_rest k most a a' a'' l s t = subst (λ (n : ℕ). Pairs (TookTurns n) a a'') (whole k most l)
    (pairs_then (TookTurns k) (TookTurns (most - k)) (TookTurns (k + (most - k))) (λ d m e p q. grows.turns_go_on k (most - k) d m e p q) a a' a'' s t)

-- two parts that took as many turns in the end
pub worked_most : (turns m n most : ℕ) (a a' a'' b b' b'' : List DeskView) → most ≡ max m n
    → Worked turns a (halts.After m) a' → Pairs (TookTurns (most - m)) a' a'' → Worked turns b (halts.After n) b' → Pairs (TookTurns (most - n)) b' b''
    → Worked turns (a ++ b) (halts.After most) (a'' ++ b'')
worked_most turns m n most a a' a'' b b' b'' is s s' t t' = (
  (let l = s.0 in let k = t.0 in omega arith),
  pairs-append (TookTurns most) a a'' b b'' (took_rest m most a a' a'' (omega arith) s.1 s') (took_rest n most b b' b'' (omega arith) t.1 t'),
)

-- ---- rounds that are left

pub took_nothing : (k : ℕ) (l : List DeskView) → Pairs (TookTurns (k - k)) l l
took_nothing k l = subst (λ n. Pairs (TookTurns n) l l) (nothing k) (none_took l) where
  nothing : (k : ℕ) → 0 ≡ k - k
  nothing k = omega arith

-- one round more, after so many turns
pub round_more : (taken number turns : ℕ) (old mid new : List DeskView) → taken ≤ number → number < turns → Pairs (TookTurns (number - taken)) old mid
    → Pairs (TookTurns 1) mid new → (number + 1 - taken ≤ turns - taken) × Pairs (TookTurns (number + 1 - taken)) old new
round_more taken number turns old mid new l k t s = (
  (omega arith),
  subst (λ n. Pairs (TookTurns n) old new) (next taken number l)
      (pairs_then (TookTurns (number - taken)) (TookTurns 1) (TookTurns (number - taken + 1))
      (λ d m e a b. took_more (number - taken) d m e a b) old mid new t s),
) where
  next : (taken number : ℕ) → taken ≤ number → number - taken + 1 ≡ number + 1 - taken
  next taken number l = omega arith

-- ---- a part of the desks

module _ {A : Type 0} (P : A → Type 0) where
  pub each_take : (n : ℕ) (l : List A) → Each P l → Each P (take n l)
  each_take zero l e = tt
  each_take (suc n) [] e = tt
  each_take (suc n) (x ∷ l) e = (e.0, each_take n l e.1)

  pub each_drop : (n : ℕ) (l : List A) → Each P l → Each P (drop n l)
  each_drop zero l e = e
  each_drop (suc n) [] e = tt
  each_drop (suc n) (x ∷ l) e = each_drop n l e.1
