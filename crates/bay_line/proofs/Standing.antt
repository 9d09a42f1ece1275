-- Who stands in line, and behind whom.
use Rattle.std.proofs.Common.{◌≡◌, ℕ, suc, ◌+◌, ◌<◌, ◌≤◌, Bool, true, false, not, nat_eq, nat_lt, if◌then◌else◌, List, [], ◌∷◌, ◌++◌, length, Option, refl, sym, ap, subst, inl, inr, arith, rules}
use Rattle.std.proofs.lemmas.Bool.{cases_Bool}
use Rattle.bay_line.specs.declared.wish.Wish.{Wish}
use Rattle.bay_line.specs.Wishes.{common, passes, counts, passed_by}
use Rattle.std.proofs.lemmas.Nat.{and_comm}
use Rattle.bay_line.proofs.Kept.{and_true_second}
use Rattle.bay_line.specs.Turns.{pass_all, others}
use Rattle.bay_line.specs.Lines.{Above, Below, Rises, Seldom, wishes_of}

pub either : {A : Type 0} (P : A → Type 0) (b : Bool) (x y : A) → P x → P y → P (if b then x else y)
either P true x y p q = p
either P false x y p q = q

pub common_comm : (a b : ℕ) → common a b ≡ common b a
common_comm a b = ap (λ n. not (nat_eq n 0)) (and_comm a b)

-- ---- numbers

pub same_ask : (most free needs : ℕ) (w : Wish) → (passed_by most free needs w).ask ≡ w.ask
same_ask most free needs w = either (λ (v : Wish). v.ask ≡ w.ask) (counts most free needs w) _ w refl refl

above_others : (n ask : ℕ) (ws : List Wish) → Above n ws → Above n (others ask ws)
above_others n ask [] h = tt
above_others n ask (w ∷ ws) h =
    either (Above n) (not (nat_eq w.ask ask)) (w ∷ others ask ws) (others ask ws) (h.0, above_others n ask ws h.1) (above_others n ask ws h.1)

pub rises_others : (ask : ℕ) (ws : List Wish) → Rises ws → Rises (others ask ws)
rises_others ask [] h = tt
rises_others ask (w ∷ ws) h =
    either Rises (not (nat_eq w.ask ask)) (w ∷ others ask ws) (others ask ws) (above_others w.ask ask ws h.0, rises_others ask ws h.1) (rises_others ask ws h.1)

above_passed : (n most free needs : ℕ) (ws : List Wish) → Above n ws → Above n (pass_all most free needs ws)
above_passed n most free needs [] h = tt
above_passed n most free needs (w ∷ ws) h = (subst (λ m. n ≤ m) (sym (same_ask most free needs w)) h.0, above_passed n most free needs ws h.1)

pub rises_passed : (most free needs : ℕ) (ws : List Wish) → Rises ws → Rises (pass_all most free needs ws)
rises_passed most free needs [] h = tt
rises_passed most free needs (w ∷ ws) h =
    (subst (λ m. Above m (pass_all most free needs ws)) (sym (same_ask most free needs w)) (above_passed w.ask most free needs ws h.0), rises_passed most free needs ws h.1)

above_more : (n : ℕ) (ws vs : List Wish) → Above n ws → Above n vs → Above n (ws ++ vs)
above_more n [] vs h g = g
above_more n (w ∷ ws) vs h g = (h.0, above_more n ws vs h.1 g)

above_lower : (m n : ℕ) (ws : List Wish) → m ≤ n → Above n ws → Above m ws
above_lower m n [] le h = tt
above_lower m n (w ∷ ws) le h = (omega (arith, le, h.0), above_lower m n ws le h.1)

above_wishes : (ask : ℕ) (sets : List ℕ) (classes : ℕ) (d : Option ℕ) → Above ask (wishes_of ask sets classes d)
above_wishes ask [] classes d = tt
above_wishes ask (needs ∷ sets) classes d = (omega arith, above_wishes ask sets classes d)

rises_wishes : (ask : ℕ) (sets : List ℕ) (classes : ℕ) (d : Option ℕ) → Rises (wishes_of ask sets classes d)
rises_wishes ask [] classes d = tt
rises_wishes ask (needs ∷ sets) classes d = (above_wishes ask sets classes d, rises_wishes ask sets classes d)

pub rises_more : (ask : ℕ) (ws : List Wish) (sets : List ℕ) (classes : ℕ) (d : Option ℕ) → Rises ws → Below ask ws → Rises (ws ++ wishes_of ask sets classes d)
rises_more ask [] sets classes d h b = rises_wishes ask sets classes d
rises_more ask (w ∷ ws) sets classes d h b = (
  above_more w.ask ws (wishes_of ask sets classes d) h.0 (above_lower w.ask ask (wishes_of ask sets classes d) (omega (arith, b.0)) (above_wishes ask sets classes d)),
  rises_more ask ws sets classes d h.1 b.1,
)

-- ---- how often

pub seldom_others : (most ask : ℕ) (ws : List Wish) → Seldom most ws → Seldom most (others ask ws)
seldom_others most ask [] h = tt
seldom_others most ask (w ∷ ws) h =
    either (Seldom most) (not (nat_eq w.ask ask)) (w ∷ others ask ws) (others ask ws) (h.0, seldom_others most ask ws h.1) (seldom_others most ask ws h.1)

seldom_wishes : (most ask : ℕ) (sets : List ℕ) (classes : ℕ) (d : Option ℕ) → Seldom most (wishes_of ask sets classes d)
seldom_wishes most ask [] classes d = tt
seldom_wishes most ask (needs ∷ sets) classes d = (omega arith, seldom_wishes most ask sets classes d)

pub seldom_more : (most ask : ℕ) (ws : List Wish) (sets : List ℕ) (classes : ℕ) (d : Option ℕ) → Seldom most ws → Seldom most (ws ++ wishes_of ask sets classes d)
seldom_more most ask [] sets classes d h = seldom_wishes most ask sets classes d
seldom_more most ask (w ∷ ws) sets classes d h = (h.0, seldom_more most ask ws sets classes d h.1)

pub lt_is : (a b : ℕ) → nat_lt a b ≡ true → a < b
lt_is a b h = search (rules, h)

passed_seldom : (most free needs : ℕ) (w : Wish) → w.passed ≤ most → (passed_by most free needs w).passed ≤ most
passed_seldom most free needs w le =
    let P : Bool → Type 0 = λ b. (if b then record { ask = w.ask; needs = w.needs; classes = w.classes; deadline = w.deadline; passed = w.passed + 1 } else w).passed ≤ most in
    elim (cases_Bool (counts most free needs w)) [
      | inl is ↦ let less = lt_is w.passed most (and_true_second (passes free needs w) (nat_lt w.passed most) is) in subst P (sym is) (omega (arith, less))
      | inr isnt ↦ subst P (sym isnt) le
    ]

pub seldom_passed : (most free needs : ℕ) (ws : List Wish) → Seldom most ws → Seldom most (pass_all most free needs ws)
seldom_passed most free needs [] h = tt
seldom_passed most free needs (w ∷ ws) h = (passed_seldom most free needs w h.0, seldom_passed most free needs ws h.1)

-- ---- how many

pub fewer_others : (ask : ℕ) (ws : List Wish) → length (others ask ws) ≤ length ws
fewer_others ask [] = omega arith
fewer_others ask (w ∷ ws) =
    let ih = fewer_others ask ws in
    either (λ (vs : List Wish). length vs ≤ suc (length ws)) (not (nat_eq w.ask ask)) (w ∷ others ask ws) (others ask ws) (omega (arith, ih)) (omega (arith, ih))
