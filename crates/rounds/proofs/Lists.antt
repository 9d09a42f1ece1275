-- Lists of desks and of players.
use Rattle.std.proofs.Common.{◌≡◌, ℕ, zero, suc, ◌+◌, ◌<◌, inl, inr, List, [], ◌∷◌, ◌++◌, length, get_or, set, take, drop, map, refl, sym, ap, ◌∙◌, subst, arith, append_assoc, append-nil, add-one}
use Rattle.legal_steps.specs.declared.event.Event.{Event}
use Rattle.turns.specs.Lists.{StartsWith, Each}
use Rattle.edge_rule.specs.DeskView.{DeskView}
use Rattle.edge_rule.specs.Company.{jobs_of}
use Rattle.edge_rule.specs.Ending.{Any}
use Rattle.rounds.specs.Rounds.{Player, player_of, players_of}

pub append_cancel : {A : Type 0} (a b c : List A) → a ++ b ≡ a ++ c → b ≡ c
append_cancel [] b c e = e
append_cancel (x ∷ a) b c e = append_cancel a b c (cc)

pub nil_left : {A : Type 0} (a b : List A) → a ++ b ≡ [] → a ≡ []
nil_left [] b e = refl
nil_left (x ∷ a) b e = absurd (cc)

pub starts_then : (a b c : List Event) → StartsWith a b → StartsWith b c → StartsWith a c
starts_then a b c s t = (t.0 ++ s.0, s.1 ∙ (ap (λ l. l ++ s.0) t.1 ∙ append_assoc c t.0 s.0))

pub starts_self : (a : List Event) → StartsWith a a
starts_self a = ([], sym (append-nil a))

module _ {A : Type 0} where
  pub each_at : (P : A → Type 0) (l : List A) (k : ℕ) (x : A) → k < length l → x ≡ get_or l k x → Each P l → P x
  each_at P [] k x h is e = absurd (omega arith)
  each_at P (y ∷ l) zero x h is e = subst P (sym is) e.0
  each_at P (y ∷ l) (suc k) x h is e = each_at P l k x (omega arith) is e.1

  pub each_set : (P : A → Type 0) (l : List A) (k : ℕ) (y : A) → k < length l → Each P (set l k y) → P y
  each_set P [] k y h e = absurd (omega arith)
  each_set P (x ∷ l) zero y h e = e.0
  each_set P (x ∷ l) (suc k) y h e = each_set P l k y (omega arith) e.1

  pub each_but : (P : A → Type 0) (l : List A) (k : ℕ) (y : A) → Each P l → P y → Each P (set l k y)
  each_but P [] k y e h = tt
  each_but P (x ∷ l) zero y e h = (h, e.1)
  each_but P (x ∷ l) (suc k) y e h = (e.0, each_but P l k y e.1 h)

  pub zip_each : (P Q R : A → Type 0) → ((d : A) → P d → Q d → R d) → (l : List A) → Each P l → Each Q l → Each R l
  zip_each P Q R f [] a b = tt
  zip_each P Q R f (d ∷ l) a b = (f d a.0 b.0, zip_each P Q R f l a.1 b.1)

  pub any_each : (P Q : A → Type 0) (R : Type 0) (l : List A) → ((x : A) → P x → Q x → R) → Any P l → Each Q l → R
  any_each P Q R [] f any e = absurd any
  any_each P Q R (x ∷ l) f (inl h) e = f x h e.0
  any_each P Q R (x ∷ l) f (inr h) e = any_each P Q R l f h e.1

  -- ---- a list in which one element is set

  pub take_set : (l : List A) (k : ℕ) (y : A) → take k (set l k y) ≡ take k l
  take_set [] k y = refl
  take_set (x ∷ l) zero y = refl
  take_set (x ∷ l) (suc k) y = ap (λ z. x ∷ z) (take_set l k y)

  drop_set_suc : (l : List A) (k : ℕ) (y : A) → drop (suc k) (set l k y) ≡ drop (suc k) l
  drop_set_suc [] k y = refl
  drop_set_suc (x ∷ l) zero y = refl
  drop_set_suc (x ∷ l) (suc k) y = drop_set_suc l k y

  pub drop_set : (l : List A) (k : ℕ) (y : A) → drop (k + 1) (set l k y) ≡ drop (k + 1) l
  drop_set l k y = (λ i. drop (add-one k i) (set l k y)) ∙ (drop_set_suc l k y ∙ (λ i. drop (sym (add-one k) i) l))

  pub get_set : (l : List A) (k : ℕ) (y d : A) → k < length l → get_or (set l k y) k d ≡ y
  get_set [] k y d h = absurd (omega arith)
  get_set (x ∷ l) zero y d h = refl
  get_set (x ∷ l) (suc k) y d h = get_set l k y d (omega arith)

  -- ---- one element more

  take_next : (l : List A) (k : ℕ) (d : A) → k < length l → take (suc k) l ≡ take k l ++ get_or l k d ∷ []
  take_next [] k d h = absurd (omega arith)
  take_next (x ∷ l) zero d h = refl
  take_next (x ∷ l) (suc k) d h = ap (λ z. x ∷ z) (take_next l k d (omega arith))

  pub take_snoc : (l : List A) (k : ℕ) (d : A) → k < length l → take (k + 1) l ≡ take k l ++ get_or l k d ∷ []
  take_snoc l k d h = ap (λ n. take n l) (add-one k) ∙ take_next l k d h

  drop_suc : (l : List A) (k : ℕ) → drop (suc k) l ≡ drop 1 (drop k l)
  drop_suc [] zero = refl
  drop_suc [] (suc k) = refl
  drop_suc (x ∷ l) zero = refl
  drop_suc (x ∷ l) (suc k) = drop_suc l k

  pub drop_next : (a b : List A) (k : ℕ) → drop k a ≡ drop k b → drop (k + 1) a ≡ drop (k + 1) b
  drop_next a b k e = (λ i. drop (add-one k i) a) ∙ (drop_suc a k ∙ (ap (drop 1) e ∙ (sym (drop_suc b k) ∙ (λ i. drop (sym (add-one k) i) b))))

  get_drop : (l : List A) (k : ℕ) (d : A) → get_or l k d ≡ get_or (drop k l) 0 d
  get_drop [] zero d = refl
  get_drop [] (suc k) d = refl
  get_drop (x ∷ l) zero d = refl
  get_drop (x ∷ l) (suc k) d = get_drop l k d

  pub get_same : (a b : List A) (k : ℕ) (d : A) → drop k a ≡ drop k b → get_or a k d ≡ get_or b k d
  get_same a b k d e = get_drop a k d ∙ (ap (λ l. get_or l 0 d) e ∙ sym (get_drop b k d))

-- ---- jobs and players

pub jobs_set : (l : List DeskView) (k : ℕ) (x y : DeskView) → x ≡ get_or l k x → y.job ≡ x.job → jobs_of (set l k y) ≡ jobs_of l
jobs_set [] k x y is same = refl
jobs_set (d ∷ l) zero x y is same = let e : y.job ≡ d.job = same ∙ ap (λ (z : DeskView). z.job) is in ap (λ j. j ∷ jobs_of l) e
jobs_set (d ∷ l) (suc k) x y is same = ap (λ js. d.job ∷ js) (jobs_set l k x y is same)

pub players_set : (l : List DeskView) (k : ℕ) (y : DeskView) → players_of (set l k y) ≡ set (players_of l) k (player_of y)
players_set [] k y = refl
players_set (d ∷ l) zero y = refl
players_set (d ∷ l) (suc k) y = ap (λ z. player_of d ∷ z) (players_set l k y)

pub player_at : (l : List DeskView) (k : ℕ) (x : DeskView) (d : Player) → k < length l → x ≡ get_or l k x → get_or (players_of l) k d ≡ player_of x
player_at [] k x d h is = absurd (omega arith)
player_at (y ∷ l) zero x d h is = ap player_of (sym is)
player_at (y ∷ l) (suc k) x d h is = player_at l k x d (omega arith) is

pub length_players : (l : List DeskView) → length (players_of l) ≡ length l
length_players [] = refl
length_players (d ∷ l) = ap suc (length_players l)

-- the jobs of players
pub jobs_played : (l : List DeskView) → map (λ (x : Player). x.job) (players_of l) ≡ jobs_of l
jobs_played [] = refl
jobs_played (d ∷ l) = ap (λ js. d.job ∷ js) (jobs_played l)
