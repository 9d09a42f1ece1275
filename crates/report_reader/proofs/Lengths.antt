-- Lines by the number of their words.
use Rattle.std.proofs.Common.{◌≡◌, ◌≢◌, ℕ, List, [], ◌∷◌, length, take, drop, get_or, false, refl, sym, ◌∙◌, arith}
use Rattle.std.specs.Prelude.{None, Some, map, ◌==◌}
use Rattle.std.specs.Borrow.{Bor}
use Rattle.std.proofs.lemmas.Bool.{true≢false}
use Rattle.std.proofs.lemmas.Bool.Decides.{Decides-eqb}
use Rattle.report_reader.specs.Read.{done_of, withdrawn_of, meals_of, job_of, head_of, middle_of, tail_of, short_line, line_of}

-- numbers that a test tells apart
other : (m n : ℕ) → (m == n) ≡ false → m ≡ n → ⊥
other m n apart is = true≢false (sym ((Decides-eqb m n).1 is) ∙ apart)

abbrev now : List (Bor (List ℕ)) → List (List ℕ)
now words = map (λ (word : Bor (List ℕ)). word.now) words

abbrev nothing : Bor (List ℕ)
nothing = record { ref_ptr = (0, 0); now = [] }

abbrev at : List (Bor (List ℕ)) → ℕ → List ℕ
at words k = (get_or words k nothing).now

pub six : (words : List (Bor (List ℕ))) → length words ≡ 6
    → head_of (now words) ≡ done_of (at words 0) (at words 1) (at words 2) (at words 3) (at words 4) (at words 5)
unfolding head_of
six [] size = absurd (other 0 6 refl size)
six (a ∷ []) size = absurd (other 1 6 refl size)
six (a ∷ b ∷ []) size = absurd (other 2 6 refl size)
six (a ∷ b ∷ c ∷ []) size = absurd (other 3 6 refl size)
six (a ∷ b ∷ c ∷ d ∷ []) size = absurd (other 4 6 refl size)
six (a ∷ b ∷ c ∷ d ∷ e ∷ []) size = absurd (other 5 6 refl size)
six (a ∷ b ∷ c ∷ d ∷ e ∷ f ∷ []) size = refl
six (a ∷ b ∷ c ∷ d ∷ e ∷ f ∷ g ∷ more) size = absurd (omega (arith, size))

pub two : (words : List (Bor (List ℕ))) → length words ≡ 2 → middle_of (now words) ≡ withdrawn_of (at words 0) (at words 1)
unfolding middle_of
two [] size = absurd (other 0 2 refl size)
two (a ∷ []) size = absurd (other 1 2 refl size)
two (a ∷ b ∷ []) size = refl
two (a ∷ b ∷ c ∷ more) size = absurd (omega (arith, size))

pub three : (words : List (Bor (List ℕ))) → length words ≡ 3 → tail_of (now words) ≡ meals_of (at words 0) (at words 1) (at words 2)
unfolding tail_of
three [] size = absurd (other 0 3 refl size)
three (a ∷ []) size = absurd (other 1 3 refl size)
three (a ∷ b ∷ []) size = absurd (other 2 3 refl size)
three (a ∷ b ∷ c ∷ []) size = refl
three (a ∷ b ∷ c ∷ d ∷ more) size = absurd (omega (arith, size))

pub nine : (words : List (Bor (List ℕ))) → length words ≡ 9
    → line_of (now words) ≡ job_of (head_of (now (take 6 words))) (Some None) (tail_of (now (drop 6 words)))
unfolding line_of head_of tail_of
nine [] size = absurd (other 0 9 refl size)
nine (a ∷ []) size = absurd (other 1 9 refl size)
nine (a ∷ b ∷ []) size = absurd (other 2 9 refl size)
nine (a ∷ b ∷ c ∷ []) size = absurd (other 3 9 refl size)
nine (a ∷ b ∷ c ∷ d ∷ []) size = absurd (other 4 9 refl size)
nine (a ∷ b ∷ c ∷ d ∷ e ∷ []) size = absurd (other 5 9 refl size)
nine (a ∷ b ∷ c ∷ d ∷ e ∷ f ∷ []) size = absurd (other 6 9 refl size)
nine (a ∷ b ∷ c ∷ d ∷ e ∷ f ∷ g ∷ []) size = absurd (other 7 9 refl size)
nine (a ∷ b ∷ c ∷ d ∷ e ∷ f ∷ g ∷ h ∷ []) size = absurd (other 8 9 refl size)
nine (a ∷ b ∷ c ∷ d ∷ e ∷ f ∷ g ∷ h ∷ i ∷ []) size = refl
nine (a ∷ b ∷ c ∷ d ∷ e ∷ f ∷ g ∷ h ∷ i ∷ j ∷ more) size = absurd (omega (arith, size))

pub eleven : (words : List (Bor (List ℕ))) → length words ≡ 11
    → line_of (now words) ≡ job_of (head_of (now (take 6 words))) (middle_of (now (take 2 (drop 6 words)))) (tail_of (now (drop 8 words)))
unfolding line_of head_of middle_of tail_of
eleven [] size = absurd (other 0 11 refl size)
eleven (a ∷ []) size = absurd (other 1 11 refl size)
eleven (a ∷ b ∷ []) size = absurd (other 2 11 refl size)
eleven (a ∷ b ∷ c ∷ []) size = absurd (other 3 11 refl size)
eleven (a ∷ b ∷ c ∷ d ∷ []) size = absurd (other 4 11 refl size)
eleven (a ∷ b ∷ c ∷ d ∷ e ∷ []) size = absurd (other 5 11 refl size)
eleven (a ∷ b ∷ c ∷ d ∷ e ∷ f ∷ []) size = absurd (other 6 11 refl size)
eleven (a ∷ b ∷ c ∷ d ∷ e ∷ f ∷ g ∷ []) size = absurd (other 7 11 refl size)
eleven (a ∷ b ∷ c ∷ d ∷ e ∷ f ∷ g ∷ h ∷ []) size = absurd (other 8 11 refl size)
eleven (a ∷ b ∷ c ∷ d ∷ e ∷ f ∷ g ∷ h ∷ i ∷ []) size = absurd (other 9 11 refl size)
eleven (a ∷ b ∷ c ∷ d ∷ e ∷ f ∷ g ∷ h ∷ i ∷ j ∷ []) size = absurd (other 10 11 refl size)
eleven (a ∷ b ∷ c ∷ d ∷ e ∷ f ∷ g ∷ h ∷ i ∷ j ∷ k ∷ []) size = refl
eleven (a ∷ b ∷ c ∷ d ∷ e ∷ f ∷ g ∷ h ∷ i ∷ j ∷ k ∷ l ∷ more) size = absurd (omega (arith, size))

pub short : (words : List (Bor (List ℕ))) → length words ≢ 9 → length words ≢ 11 → line_of (now words) ≡ short_line (now words)
unfolding line_of short_line
short [] n9 n11 = refl
short (a ∷ []) n9 n11 = refl
short (a ∷ b ∷ []) n9 n11 = refl
short (a ∷ b ∷ c ∷ []) n9 n11 = refl
short (a ∷ b ∷ c ∷ d ∷ []) n9 n11 = refl
short (a ∷ b ∷ c ∷ d ∷ e ∷ []) n9 n11 = refl
short (a ∷ b ∷ c ∷ d ∷ e ∷ f ∷ []) n9 n11 = refl
short (a ∷ b ∷ c ∷ d ∷ e ∷ f ∷ g ∷ []) n9 n11 = refl
short (a ∷ b ∷ c ∷ d ∷ e ∷ f ∷ g ∷ h ∷ []) n9 n11 = refl
short (a ∷ b ∷ c ∷ d ∷ e ∷ f ∷ g ∷ h ∷ i ∷ []) n9 n11 = absurd (n9 refl)
short (a ∷ b ∷ c ∷ d ∷ e ∷ f ∷ g ∷ h ∷ i ∷ j ∷ []) n9 n11 = refl
short (a ∷ b ∷ c ∷ d ∷ e ∷ f ∷ g ∷ h ∷ i ∷ j ∷ k ∷ []) n9 n11 = absurd (n11 refl)
short (a ∷ b ∷ c ∷ d ∷ e ∷ f ∷ g ∷ h ∷ i ∷ j ∷ k ∷ l ∷ more) n9 n11 = refl

pub other_short : (words : List (Bor (List ℕ))) → length words ≢ 1 → length words ≢ 2 → length words ≢ 3 → length words ≢ 6 → length words ≢ 7
    → short_line (now words) ≡ None
unfolding short_line
other_short [] n1 n2 n3 n6 n7 = refl
other_short (a ∷ []) n1 n2 n3 n6 n7 = absurd (n1 refl)
other_short (a ∷ b ∷ []) n1 n2 n3 n6 n7 = absurd (n2 refl)
other_short (a ∷ b ∷ c ∷ []) n1 n2 n3 n6 n7 = absurd (n3 refl)
other_short (a ∷ b ∷ c ∷ d ∷ []) n1 n2 n3 n6 n7 = refl
other_short (a ∷ b ∷ c ∷ d ∷ e ∷ []) n1 n2 n3 n6 n7 = refl
other_short (a ∷ b ∷ c ∷ d ∷ e ∷ f ∷ []) n1 n2 n3 n6 n7 = absurd (n6 refl)
other_short (a ∷ b ∷ c ∷ d ∷ e ∷ f ∷ g ∷ []) n1 n2 n3 n6 n7 = absurd (n7 refl)
other_short (a ∷ b ∷ c ∷ d ∷ e ∷ f ∷ g ∷ h ∷ more) n1 n2 n3 n6 n7 = refl
