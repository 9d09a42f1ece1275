-- The words of a line that fits are read as that line.
use Rattle.std.proofs.Common.{◌≡◌, ℕ, ◌+◌, ◌-◌, ◌<◌, Bool, true, false, ◌&&◌, List, [], ◌∷◌, ◌++◌, take, drop, length, length-append, append_assoc, refl, sym, ap, ◌∙◌, subst, arith, get_or, inl, inr}
use Rattle.std.specs.Prelude.{Option, None, Some, decimal, codes, if◌then◌else◌, ◌==◌}
use Rattle.std.specs.List.{position}
use Rattle.std.specs.Option.{option_map, option_and_then}
use Rattle.std.proofs.lemmas.Bool.{false_from_ne_true}
use Rattle.std.proofs.lemmas.Bool.Decides.{Decides-eqb, Decides-ltb}
use Rattle.std.proofs.lemmas.Fmt.{decimal_digit, decimal_is_IsNumeral}
use Rattle.std.proofs.lemmas.List.Sums.{position_or_len_is}
use Rattle.std.proofs.lemmas.Str.Parse.{digit_at}
use Rattle.std.proofs.lemmas.List.{drop_at, take_at, get_or-append_right, get_or_append_left}
use Rattle.lab_plan.specs.declared.verb.Verb.{Verb}
use Rattle.lab_plan.specs.declared.verb.Verb.TheVariants.{Set, Add, Read}
use Rattle.lab_plan.specs.Names.{is_name, IsName}
use Rattle.report_reader.specs.Number.{number_of}
use Rattle.report_reader.specs.Line.{Line, Header, Instrument, Entry, Job, Last, EntryText, JobText, words_of, verb_words, withdrawn_words, state_word}
use Rattle.report_reader.specs.Read.{last_of, header_of, instrument_of, part_of, verb_of, read_of, entry_of, done_of, withdrawn_of, state_of, meals_of, job_of, line_of}
use Rattle.report_reader.specs.Fits.{LineFits, IsSmall, HasSmall, VerbFits}
use Rattle.report_reader.proofs.Numbers.{number_is}

number : (n : ℕ) → IsSmall n → number_of (decimal n) ≡ Some n
number n small = number_is (decimal n) n small refl

-- ---- the stroke of a part

digit : (n k : ℕ) → IsSmall n → k < length (decimal n) → (get_or (decimal n) k 0 == 47) ≡ false
digit n k small inside =
    let high = digit_at (decimal n) k (decimal_is_IsNumeral n (omega (arith, small))).0.1 inside in
    false_from_ne_true (get_or (decimal n) k 0 == 47) (λ e. let is = (Decides-eqb (get_or (decimal n) k 0) 47).0 e in omega (arith, high.0, is))

stroke_at : (p l : ℕ) → IsSmall p → position (λ b. b == 47) (decimal p ++ 47 ∷ decimal l) ≡ Some (length (decimal p))
stroke_at p l small =
    let whole = decimal p ++ 47 ∷ decimal l in
    let size = length-append (decimal p) (47 ∷ decimal l) in
    let inside : length (decimal p) < length whole = omega (arith, size) in
    let none : length (decimal p) - length (decimal p) ≡ 0 = omega arith in
    let is = position_or_len_is (λ b. b == 47) whole (length (decimal p)) 0 (omega (arith, inside))
    (λ k below. ap (λ b. b == 47) (get_or_append_left (decimal p) (47 ∷ decimal l) 0 k below) ∙ digit p k small below)
    (λ more. ap (λ b. b == 47) (get_or-append_right (decimal p) (47 ∷ decimal l) (length (decimal p)) (length (decimal p)) 0 refl (omega arith)
    ∙ ap (λ k. get_or (47 ∷ decimal l) k 0) none)) in
    rw is (rw ((Decides-ltb (length (decimal p)) (length whole)).1 inside) refl)

part_is : (p l : ℕ) → IsSmall p → IsSmall l → part_of (decimal p ++ 47 ∷ decimal l) ≡ Some (p, l)
unfolding part_of
part_is p l ps ls =
    let whole = decimal p ++ 47 ∷ decimal l in
    let front : take (length (decimal p)) whole ≡ decimal p = take_at (decimal p) (47 ∷ decimal l) (length (decimal p)) refl in
    let one : length (decimal p) + 1 ≡ length (decimal p ++ 47 ∷ []) = sym (length-append (decimal p) (47 ∷ [])) in
    let back : drop (length (decimal p) + 1) whole ≡ decimal l =
    ap (drop (length (decimal p) + 1)) (sym (append_assoc (decimal p) (47 ∷ []) (decimal l)))
    ∙ drop_at (decimal p ++ 47 ∷ []) (decimal l) (length (decimal p) + 1) (sym one) in
    ap (λ o. option_and_then (λ k. option_and_then (λ place. option_map (λ n. (place, n)) (number_of (drop (k + 1) whole))) (number_of (take k whole))) o)
    (stroke_at p l ps)
    ∙ (λ i. option_and_then (λ place. option_map (λ n. (place, n)) (number_of (back i))) (number_of (front i)))
    ∙ (λ i. option_and_then (λ place. option_map (λ n. (place, n)) (number l ls i)) (number p ps i))

-- ---- each line

entry_is : (e : EntryText) (verb : Option Verb) → LineFits (Entry e) → verb ≡ Some e.verb →
    entry_of e.job (decimal e.session) (decimal e.place ++ 47 ∷ decimal e.length) verb (codes "=") (decimal e.value) ≡ Some (Entry e)
unfolding entry_of
entry_is e verb fits is =
    let told : Verb → ℕ → ℕ × ℕ → ℕ → Line = λ w s p v. Entry (record { job = e.job; session = s; place = p.0; length = p.1; verb = w; value = v }) in
    let named : is_name e.job ≡ true = fits.0 in
    λ i. if named i && true then option_and_then (λ w. option_and_then
    (λ s. option_and_then (λ p. option_map (told w s p) (number e.value fits.5 i)) (part_is e.place e.length fits.2 fits.3 i)) (number e.session fits.1 i))
    (is i) else None

set_is : (n : ℕ) → IsSmall n → verb_of (codes "set") (decimal n) ≡ Some (Set n)
unfolding verb_of
set_is n small = ap (option_map (λ m. Set m)) (number n small)

add_is : (n : ℕ) → IsSmall n → verb_of (codes "add") (decimal n) ≡ Some (Add n)
unfolding verb_of
add_is n small = ap (option_map (λ m. Add m)) (number n small)

entry_line_is : (e : EntryText) (v : Verb) → v ≡ e.verb → LineFits (Entry e)
    → line_of (e.job ∷ decimal e.session ∷ (decimal e.place ++ 47 ∷ decimal e.length) ∷ (verb_words v ++ codes "=" ∷ decimal e.value ∷ [])) ≡ Some (Entry e)
unfolding line_of read_of
entry_line_is e (Set n) is fits = entry_is e (verb_of (codes "set") (decimal n)) fits (set_is n (subst VerbFits (sym is) fits.4) ∙ ap (λ w. Some w) is)
entry_line_is e (Add n) is fits = entry_is e (verb_of (codes "add") (decimal n)) fits (add_is n (subst VerbFits (sym is) fits.4) ∙ ap (λ w. Some w) is)
entry_line_is e Read is fits = entry_is e (read_of (codes "read")) fits (ap (λ w. Some w) is)

done_is : (name : List ℕ) (d s : ℕ) → IsName name → IsSmall d → IsSmall s
    → done_of (codes "job") name (codes "sessions") (decimal d) (codes "of") (decimal s) ≡ Some (name, d, s)
unfolding done_of
done_is name d s named ds ss =
    let yes : is_name name ≡ true = named in
    let told : ℕ → ℕ → List ℕ × ℕ × ℕ = λ d s. (name, d, s) in
    λ i. if true && yes i && true && true then option_and_then (λ d. option_map (told d) (number s ss i)) (number d ds i) else None

withdrawn_is : (n : ℕ) → IsSmall n → withdrawn_of (codes "withdrawn") (decimal n) ≡ Some (Some n)
unfolding withdrawn_of
withdrawn_is n small = ap (option_map (λ m. Some m)) (number n small)

state_is : (b : Bool) → state_of (state_word b) ≡ Some b
unfolding state_of
state_is true = refl
state_is false = refl

meals_is : (m : ℕ) (b : Bool) → IsSmall m → meals_of (codes "meals") (decimal m) (state_word b) ≡ Some (m, b)
unfolding meals_of
meals_is m b small =
    let told : ℕ → Bool → ℕ × Bool = λ m s. (m, s) in
    λ i. option_and_then (λ m. option_map (told m) (state_is b i)) (number m small i)

job_is : (head : Option (List ℕ × ℕ × ℕ)) (withdrawn : Option (Option ℕ)) (tail : Option (ℕ × Bool)) (h : List ℕ × ℕ × ℕ) (w : Option ℕ) (t : ℕ × Bool)
    → head ≡ Some h → withdrawn ≡ Some w → tail ≡ Some t →
    job_of head withdrawn tail ≡ Some (Job (record { name = h.0; done = h.1; sessions = h.2; withdrawn = w; meals = t.0; is_retired = t.1 }))
unfolding job_of
job_is head withdrawn tail h w t hs ws ts =
    let told : List ℕ × ℕ × ℕ → Option ℕ → ℕ × Bool → Line =
    λ h w t. Job (record { name = h.0; done = h.1; sessions = h.2; withdrawn = w; meals = t.0; is_retired = t.1 }) in
    λ i. option_and_then (λ h. option_and_then (λ w. option_map (told h w) (ts i)) (ws i)) (hs i)

job_line_is : (j : JobText) (w : Option ℕ) → w ≡ j.withdrawn → LineFits (Job j) →
    line_of (codes "job" ∷ j.name ∷ codes "sessions" ∷ decimal j.done ∷ codes "of" ∷ decimal j.sessions ∷ (withdrawn_words w
    ++ codes "meals" ∷ decimal j.meals ∷ state_word j.is_retired ∷ [])) ≡ Some (Job j)
unfolding line_of
job_line_is j None is fits = job_is _ _ _ (j.name, j.done, j.sessions) j.withdrawn (j.meals, j.is_retired)
    (done_is j.name j.done j.sessions fits.0 fits.1 fits.2) (ap (λ w. Some w) is) (meals_is j.meals j.is_retired fits.4)
job_line_is j (Some n) is fits =
    job_is _ _ _ (j.name, j.done, j.sessions) j.withdrawn (j.meals, j.is_retired) (done_is j.name j.done j.sessions fits.0 fits.1 fits.2)
    (withdrawn_is n (subst HasSmall (sym is) fits.3) ∙ ap (λ w. Some w) is) (meals_is j.meals j.is_retired fits.4)

one : decimal 1 ≡ codes "1"
one = decimal_digit 1 (omega arith)

two : decimal 2 ≡ codes "2"
two = decimal_digit 2 (omega arith)

pub line_is : (x : Line) → LineFits x → line_of (words_of x) ≡ Some x
unfolding line_of last_of header_of instrument_of
line_is (Header version) (inl is) = ap (λ v. header_of (codes "lab") (decimal v)) is ∙ ap (header_of (codes "lab")) one ∙ ap (λ v. Some (Header v)) (sym is)
line_is (Header version) (inr is) = ap (λ v. header_of (codes "lab") (decimal v)) is ∙ ap (header_of (codes "lab")) two ∙ ap (λ v. Some (Header v)) (sym is)
line_is (Instrument name entries) fits =
    let named : is_name name ≡ true = fits.0 in
    λ i. if true && named i then option_map (λ n. Instrument name n) (number entries fits.1 i) else None
line_is (Entry e) fits = entry_line_is e e.verb refl fits
line_is (Job j) fits = job_line_is j j.withdrawn refl fits
line_is (Last true) fits = refl
line_is (Last false) fits = refl
