-- Parts of a list of deeds, when one deed is added at its end.
use Rattle.std.proofs.Common.{◌≡◌, ℕ, Bool, true, false, List, [], ◌∷◌, ◌++◌, refl, ap, ◌∙◌, if◌then◌else◌}
use Rattle.legal_steps.specs.declared.event.Event.{Event}
use Rattle.waiting.specs.Sessions.{Deed, before, parts}
use Rattle.waiting.specs.Noting.{on_last}

-- ---- one step of each list

module _ {A : Type 0} where
  snoc_if : (b : Bool) (m m' y : A) (ps ps' : List A) → m' ≡ m → ps' ≡ ps ++ y ∷ [] → (if b then m' ∷ ps' else ps') ≡ (if b then m ∷ ps else ps) ++ y ∷ []
  snoc_if true m m' y ps ps' first later = λ i. first i ∷ later i
  snoc_if false m m' y ps ps' first later = later

  more_if : (b : Bool) (m : A) (ps : List A) (x d : Deed) (r r' : List Deed) → (if b then m ∷ ps else ps) ≡ [] → (ps ≡ [] → r' ≡ r ++ d ∷ [])
      → (if b then [] else x ∷ r') ≡ (if b then [] else x ∷ r) ++ d ∷ []
  more_if true m ps x d r r' none more = absurd (cc)
  more_if false m ps x d r r' none more = ap (λ z. x ∷ z) (more none)

  cut_if : (b : Bool) (m y : A) (ps ys : List A) (x : Deed) (r r' : List Deed) → (if b then m ∷ ps else ps) ≡ y ∷ ys → (ps ≡ y ∷ ys → r' ≡ r)
      → (if b then [] else x ∷ r') ≡ (if b then [] else x ∷ r)
  cut_if true m y ps ys x r r' some cut = refl
  cut_if false m y ps ys x r r' some cut = ap (λ z. x ∷ z) (cut some)

  last_if : (b : Bool) (f : A → A) (m m' : A) (ps ps' : List A) → ps' ≡ on_last f ps → (ps ≡ [] → m' ≡ f m) → ((y : A) (ys : List A) → ps ≡ y ∷ ys → m' ≡ m)
      → (if b then m' ∷ ps' else ps') ≡ on_last f (if b then m ∷ ps else ps)
  last_if true f m m' [] ps' later none some = λ i. none refl i ∷ later i
  last_if true f m m' (y ∷ ys) ps' later none some = λ i. some y ys refl i ∷ later i
  last_if false f m m' ps ps' later none some = later

-- ---- one deed more

module _ {A : Type 0} (kind : Event → Bool) (make : ℕ → List Deed → A) (change : Deed → A → A)
    (made : (k : ℕ) (deeds : List Deed) (deed : Deed) → make k (deeds ++ deed ∷ []) ≡ change deed (make k deeds)) (deed : Deed) where
  abbrev more : List Deed → List Deed
  more l = l ++ deed ∷ []

  -- a deed of the kind begins a part
  module _ (is : kind deed.event ≡ true) where
    before_same : (l : List Deed) → before kind (more l) ≡ before kind l
    before_same [] = ap (λ (b : Bool). if b then [] else deed ∷ []) is
    before_same (x ∷ l) = ap (λ z. if kind x.event then [] else x ∷ z) (before_same l)

    pub begins : (l : List Deed) → parts kind make (more l) ≡ parts kind make l ++ make deed.round [] ∷ []
    begins [] = ap (λ (b : Bool). if b then make deed.round [] ∷ [] else []) is
    begins (x ∷ l) = snoc_if (kind x.event) (make x.round (before kind l)) (make x.round (before kind (more l))) (make deed.round [])
        (parts kind make l) (parts kind make (more l)) (ap (make x.round) (before_same l)) (begins l)

  -- another changes the last
  module _ (other : kind deed.event ≡ false) where
    before_more : (l : List Deed) → parts kind make l ≡ [] → before kind (more l) ≡ before kind l ++ deed ∷ []
    before_more [] none = ap (λ (b : Bool). if b then [] else deed ∷ []) other
    before_more (x ∷ l) none =
        more_if (kind x.event) (make x.round (before kind l)) (parts kind make l) x deed (before kind l) (before kind (more l)) none (before_more l)

    before_cut : (l : List Deed) (y : A) (ys : List A) → parts kind make l ≡ y ∷ ys → before kind (more l) ≡ before kind l
    before_cut [] y ys some = absurd (cc)
    before_cut (x ∷ l) y ys some =
        cut_if (kind x.event) (make x.round (before kind l)) y (parts kind make l) ys x (before kind l) (before kind (more l)) some (before_cut l y ys)

    pub changes : (l : List Deed) → parts kind make (more l) ≡ on_last (change deed) (parts kind make l)
    changes [] = ap (λ (b : Bool). if b then make deed.round [] ∷ [] else []) other
    changes (x ∷ l) = last_if (kind x.event) (change deed) (make x.round (before kind l)) (make x.round (before kind (more l))) (parts kind make l)
        (parts kind make (more l)) (changes l) (λ none. ap (make x.round) (before_more l none) ∙ made x.round (before kind l) deed)
        (λ y ys some. ap (make x.round) (before_cut l y ys some))
