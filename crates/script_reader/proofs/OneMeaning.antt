-- Lines have at most one meaning.
use Rattle.std.proofs.Common.{◌≡◌, ℕ, List, [], ◌∷◌, ◌++◌, refl, sym, ap, ◌∙◌, subst, ◌⊎◌, ⊎_elim, inl, inr}
use Rattle.std.specs.Prelude.{Option, None, Some, reverse, map}
use Rattle.std.proofs.lemmas.List.{reverse-append, map-append, append_assoc}
use Rattle.script_reader.specs.declared.fault.ScriptCause.{ScriptCause}
use Rattle.script_reader.specs.Line.{Line}
use Rattle.lab_plan.specs.LabPlan.{LabPlan}
use Rattle.script_reader.specs.Script.{script_of, backwards, AreSound, cause_at, LinesMean, IsFaultAtLine, IsFaultOfLines}

sound_at : (later : List Line) (line : Line) (before : List Line) → AreSound (later ++ line ∷ before) → cause_at before line ≡ None
sound_at [] line before h = h.0
sound_at (x ∷ later) line before h = sound_at later line before h.1

turned : (front back : List (ℕ × Line)) (x : ℕ × Line) → backwards (front ++ x ∷ back) ≡ backwards back ++ x.1 ∷ backwards front
turned front back x =
    let f : (ℕ × Line) → Line = λ p. p.1 in
    ap reverse (map-append f front (x ∷ back)) ∙ reverse-append (map f front) (x.1 ∷ map f back)
    ∙ ap (λ l. l ++ backwards front) (reverse-append (x.1 ∷ []) (map f back)) ∙ append_assoc (backwards back) (x.1 ∷ []) (backwards front)

-- in a sound list no line meets a cause
never : (front back : List (ℕ × Line)) (x : ℕ × Line) (cause : ScriptCause)
    → AreSound (backwards (front ++ x ∷ back)) → cause_at (backwards front) x.1 ≡ Some cause → ⊥
never front back x cause sound met =
    let clean = sound_at (backwards back) x.1 (backwards front) (subst AreSound (turned front back x) sound) in cc

-- two cuts of one list
Cuts : (a c : List (ℕ × Line)) (x y : ℕ × Line) → Type 0
Cuts a c x y = ((a ≡ c) × (x ≡ y)) ⊎ (((m : List (ℕ × Line)) × (c ≡ a ++ x ∷ m)) ⊎ ((m : List (ℕ × Line)) × (a ≡ c ++ y ∷ m)))

cuts : (a b c d : List (ℕ × Line)) (x y : ℕ × Line) → a ++ x ∷ b ≡ c ++ y ∷ d → Cuts a c x y
unfolding Cuts
cuts [] b [] d x y e = inl (refl, cc)
cuts [] b (z ∷ c) d x y e = inr (inl (c, (let head : z ≡ x = cc in ap (λ w. w ∷ c) head)))
cuts (z ∷ a) b [] d x y e = inr (inr (a, (let head : z ≡ y = cc in ap (λ w. w ∷ a) head)))
cuts (z ∷ a) b (w ∷ c) d x y e =
    let head : z ≡ w = cc in
    let tail : a ++ x ∷ b ≡ c ++ y ∷ d = cc in
    ⊎_elim
    (λ h. inl ((λ i. head i ∷ h.0 i), h.1))
    (⊎_elim (λ h. inr (inl (h.0, (λ i. sym head i ∷ h.1 i)))) (λ h. inr (inr (h.0, (λ i. head i ∷ h.1 i)))))
    (cuts a b c d x y tail)

some_same : (p q : ScriptCause) (o : Option ScriptCause) → o ≡ Some p → o ≡ Some q → p ≡ q
some_same p q o e f = let both : Some p ≡ Some q = sym e ∙ f in cc

two_lines : (lines : List (List ℕ)) (m n : ℕ) (cause other : ScriptCause)
    → IsFaultAtLine lines m cause → IsFaultAtLine lines n other → (m ≡ n) × (cause ≡ other)
unfolding Cuts
two_lines lines m n cause other h k =
    ⊎_elim
    (λ e. (
      ap (λ (p : ℕ × Line). p.0) e.1,
      some_same cause other _ h.5 (ap (λ (p : List Line × Line). cause_at p.0 p.1) (λ i. (backwards (e.0 i), (e.1 i).1)) ∙ k.5),
    ))
    (⊎_elim
    (λ e. absurd (never h.0 e.0 (m, h.1) cause (subst (λ l. AreSound (backwards l)) e.1 k.4) h.5))
    (λ e. absurd (never k.0 e.0 (n, k.1) other (subst (λ l. AreSound (backwards l)) e.1 h.4) k.5)))
    (cuts h.0 h.2 k.0 k.2 (m, h.1) (n, k.1) (sym h.3 ∙ k.3))

line_not_sound : (lines : List (List ℕ)) (n : ℕ) (cause : ScriptCause) → AreSound (backwards (script_of lines)) → IsFaultAtLine lines n cause → ⊥
line_not_sound lines n cause sound h = never h.0 h.2 (n, h.1) cause (subst (λ l. AreSound (backwards l)) h.3 sound) h.5

pub plans : (lines : List (List ℕ)) (p q : LabPlan) → LinesMean lines p → LinesMean lines q → p ≡ q
plans lines p q h k = h.2 ∙ sym k.2

pub apart : (lines : List (List ℕ)) (p : LabPlan) (n : ℕ) (cause : ScriptCause) → LinesMean lines p → IsFaultOfLines lines n cause → ⊥
apart lines p n cause h f =
    ⊎_elim (λ k. line_not_sound lines n cause h.0 k) (λ k. let a = h.1 in let b = k.1 in let both : None ≡ Some cause = sym a ∙ b in cc) f

pub one_fault : (lines : List (List ℕ)) (m n : ℕ) (cause other : ScriptCause)
    → IsFaultOfLines lines m cause → IsFaultOfLines lines n other → (m ≡ n) × (cause ≡ other)
one_fault lines m n cause other f g =
    ⊎_elim
    (λ h. ⊎_elim (λ k. two_lines lines m n cause other h k) (λ k. absurd (line_not_sound lines m cause k.0 h)) g)
    (λ h. ⊎_elim (λ k. absurd (line_not_sound lines n other h.0 k)) (λ k. (h.2 ∙ sym k.2, some_same cause other _ h.1 k.1)) g)
    f
