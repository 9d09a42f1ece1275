-- Words that are read as a line are its words.
use Rattle.std.proofs.Common.{rules, zero, suc, inl, inr, ⊎_elim, ◌≡◌, ℕ, ◌+◌, ◌<◌, Bool, true, false, ◌&&◌, List, [], ◌∷◌, ◌++◌, take, drop, length, refl, sym, ap, ◌∙◌, arith, get_or}
use Rattle.std.specs.Prelude.{◌⊎◌, Option, None, Some, decimal, codes, if◌then◌else◌, ◌==◌}
use Rattle.std.specs.List.{position}
use Rattle.std.specs.Option.{option_map, option_and_then}
use Rattle.std.specs.Str.{bytes_eq}
use Rattle.std.proofs.lemmas.Bool.{and_parts}
use Rattle.std.proofs.lemmas.Bool.Decides.{Decides-eqb}
use Rattle.std.proofs.lemmas.Fmt.{decimal_digit}
use Rattle.std.proofs.lemmas.List.Quantifiers.{position-Some}
use Rattle.std.proofs.lemmas.Slice.Eq.{bytes_eq-Decides}
use Rattle.lab_plan.specs.declared.verb.Verb.{Verb}
use Rattle.lab_plan.specs.declared.verb.Verb.TheVariants.{Set, Add, Read}
use Rattle.lab_plan.specs.Names.{is_name}
use Rattle.report_reader.specs.Number.{number_of}
use Rattle.report_reader.specs.Line.{Line, Header, Instrument, Entry, Job, Last, words_of, verb_words, withdrawn_words, state_word}
use Rattle.report_reader.specs.Read.{last_of, header_of, instrument_of, part_of, verb_of, read_of, entry_of, done_of, withdrawn_of, state_of, meals_of, job_of, line_of}
use Rattle.report_reader.proofs.Numbers.{number_was}

-- ---- options

some_is : {X : Type 0} (x y : X) → Some x ≡ Some y → x ≡ y
some_is x y e = search (rules, e)

none_some : {X : Type 0} (x : X) → None ≡ Some x → ⊥
none_some x e = search (rules, e)

-- what a chain had at its first step
first_had : {X Y : Type 0} (f : X → Option Y) (o : Option X) (y : Y) → option_and_then f o ≡ Some y → (x : X) × (o ≡ Some x) × (f x ≡ Some y)
first_had f None y e = absurd (none_some y e)
first_had f (Some x) y e = (x, refl, e)

map_had : {X Y : Type 0} (f : X → Y) (o : Option X) (y : Y) → option_map f o ≡ Some y → (x : X) × (o ≡ Some x) × (f x ≡ y)
map_had f None y e = absurd (none_some y e)
map_had f (Some x) y e = (x, refl, some_is (f x) y e)

-- what a test kept
kept : {X : Type 0} (b : Bool) (o : Option X) (x : X) → (if b then o else None) ≡ Some x → (b ≡ true) × (o ≡ Some x)
kept true o x e = (refl, e)
kept false o x e = absurd (none_some x e)

either : {X : Type 0} (b : Bool) (o p : Option X) (x : X) → (if b then o else p) ≡ Some x → ((b ≡ true) × (o ≡ Some x)) ⊎ ((b ≡ false) × (p ≡ Some x))
either true o p x e = inl (refl, e)
either false o p x e = inr (refl, e)

eq : (a b : List ℕ) → bytes_eq a b ≡ true → a ≡ b
eq a b h = (bytes_eq-Decides a b).0 h

-- ---- each line

last_was : (word : List ℕ) (x : Line) → last_of word ≡ Some x → word ∷ [] ≡ words_of x
unfolding last_of
last_was word x e =
    ⊎_elim (λ h. ap (λ w. w ∷ []) (eq word (codes "finished") h.0) ∙ ap words_of (some_is (Last true) x h.1))
    (λ h. let k = kept (bytes_eq word (codes "unfinished")) (Some (Last false)) x h.1 in
    ap (λ w. w ∷ []) (eq word (codes "unfinished") k.0) ∙ ap words_of (some_is (Last false) x k.1))
    (either (bytes_eq word (codes "finished")) (Some (Last true)) (if bytes_eq word (codes "unfinished") then Some (Last false) else None) x e)

decimal_one : decimal 1 ≡ codes "1"
decimal_one = decimal_digit 1 (omega arith)

decimal_two : decimal 2 ≡ codes "2"
decimal_two = decimal_digit 2 (omega arith)

header_was : (word version : List ℕ) (x : Line) → header_of word version ≡ Some x → word ∷ version ∷ [] ≡ words_of x
unfolding header_of
header_was word version x e =
    let two = if bytes_eq version (codes "2") then Some (Header 2) else None in
    let k = kept (bytes_eq word (codes "lab")) (if bytes_eq version (codes "1") then Some (Header 1) else two) x e in
    let lab = eq word (codes "lab") k.0 in
    ⊎_elim (λ h. (λ i. lab i ∷ (eq version (codes "1") h.0 ∙ sym decimal_one) i ∷ []) ∙ ap words_of (some_is (Header 1) x h.1))
    (λ h. let m = kept (bytes_eq version (codes "2")) (Some (Header 2)) x h.1 in
    (λ i. lab i ∷ (eq version (codes "2") m.0 ∙ sym decimal_two) i ∷ []) ∙ ap words_of (some_is (Header 2) x m.1))
    (either (bytes_eq version (codes "1")) (Some (Header 1)) two x k.1)

instrument_was : (word name entries : List ℕ) (x : Line) → instrument_of word name entries ≡ Some x → word ∷ name ∷ entries ∷ [] ≡ words_of x
unfolding instrument_of
instrument_was word name entries x e =
    let k = kept (bytes_eq word (codes "instrument") && is_name name) (option_map (λ n. Instrument name n) (number_of entries)) x e in
    let first = (and_parts (bytes_eq word (codes "instrument")) (is_name name) k.0).0 in
    let n = map_had (λ n. Instrument name n) (number_of entries) x k.1 in
    (λ i. eq word (codes "instrument") first i ∷ name ∷ (number_was entries n.0 n.1).0 i ∷ []) ∙ ap words_of n.2

cut_at : (xs : List ℕ) (k : ℕ) → k < length xs → xs ≡ take k xs ++ get_or xs k 0 ∷ drop (suc k) xs
cut_at [] k h = absurd (omega arith)
cut_at (x ∷ xs) zero h = refl
cut_at (x ∷ xs) (suc k) h = ap (λ l. x ∷ l) (cut_at xs k (omega arith))

part_was : (word : List ℕ) (p : ℕ × ℕ) → part_of word ≡ Some p → word ≡ decimal p.0 ++ 47 ∷ decimal p.1
unfolding part_of
part_was word p e =
    let at = first_had (λ k. option_and_then (λ place. option_map (λ l. (place, l)) (number_of (drop (k + 1) word))) (number_of (take k word)))
    (position (λ b. b == 47) word) p e in
    let k = at.0 in
    let place = first_had (λ place. option_map (λ l. (place, l)) (number_of (drop (k + 1) word))) (number_of (take k word)) p at.2 in
    let long = map_had (λ l. (place.0, l)) (number_of (drop (k + 1) word)) p place.2 in
    let stroke = position-Some (λ b. b == 47) word k 0 at.1 in
    let byte : get_or word k 0 ≡ 47 = (Decides-eqb (get_or word k 0) 47).0 stroke.1 in
    let next : suc k ≡ k + 1 = omega arith in
    cut_at word k stroke.0
    ∙ (λ i. (number_was (take k word) place.0 place.1).0 i ++ byte i ∷ drop (next i) word)
    ∙ ap (λ l. decimal place.0 ++ 47 ∷ l) (number_was (drop (k + 1) word) long.0 long.1).0
    ∙ ap (λ (q : ℕ × ℕ). decimal q.0 ++ 47 ∷ decimal q.1) long.2

verb_was : (word number : List ℕ) (v : Verb) → verb_of word number ≡ Some v → word ∷ number ∷ [] ≡ verb_words v
unfolding verb_of
verb_was word number v e =
    let adds = if bytes_eq word (codes "add") then option_map (λ n. Add n) (number_of number) else None in
    ⊎_elim (λ h. let n = map_had (λ n. Set n) (number_of number) v h.1 in
    (λ i. eq word (codes "set") h.0 i ∷ (number_was number n.0 n.1).0 i ∷ []) ∙ ap verb_words n.2)
    (λ h. let k = kept (bytes_eq word (codes "add")) (option_map (λ n. Add n) (number_of number)) v h.1 in
    let n = map_had (λ n. Add n) (number_of number) v k.1 in
    (λ i. eq word (codes "add") k.0 i ∷ (number_was number n.0 n.1).0 i ∷ []) ∙ ap verb_words n.2)
    (either (bytes_eq word (codes "set")) (option_map (λ n. Set n) (number_of number)) adds v e)

read_was : (word : List ℕ) (v : Verb) → read_of word ≡ Some v → word ∷ [] ≡ verb_words v
unfolding read_of
read_was word v e =
    let k = kept (bytes_eq word (codes "read")) (Some Read) v e in
    ap (λ w. w ∷ []) (eq word (codes "read") k.0) ∙ ap verb_words (some_is Read v k.1)

entry_was : (job session part : List ℕ) (verb : Option Verb) (is value : List ℕ) (x : Line) → entry_of job session part verb is value ≡ Some x →
    (v : Verb) × (verb ≡ Some v) × (job ∷ session ∷ part ∷ (verb_words v ++ is ∷ value ∷ []) ≡ words_of x)
unfolding entry_of
entry_was job session part verb is value x e =
    let told : Verb → ℕ → ℕ × ℕ → ℕ → Line = λ w s p v. Entry (record { job = job; session = s; place = p.0; length = p.1; verb = w; value = v }) in
    let k = kept (is_name job && bytes_eq is (codes "="))
    (option_and_then (λ w. option_and_then (λ s. option_and_then (λ p. option_map (told w s p) (number_of value)) (part_of part)) (number_of session))
    verb) x e in
    let w = first_had (λ w. option_and_then (λ s. option_and_then (λ p. option_map (told w s p) (number_of value)) (part_of part)) (number_of session)) verb x
    k.1 in
    let s = first_had (λ s. option_and_then (λ p. option_map (told w.0 s p) (number_of value)) (part_of part)) (number_of session) x w.2 in
    let p = first_had (λ p. option_map (told w.0 s.0 p) (number_of value)) (part_of part) x s.2 in
    let v = map_had (told w.0 s.0 p.0) (number_of value) x p.2 in
    let sign = eq is (codes "=") (and_parts (is_name job) (bytes_eq is (codes "=")) k.0).1 in (
      w.0,
      w.1,
      (λ i. job ∷ (number_was session s.0 s.1).0 i ∷ part_was part p.0 p.1 i ∷ (verb_words w.0 ++ sign i ∷ (number_was value v.0 v.1).0 i ∷ []))
          ∙ ap words_of v.2,
    )

done_was : (job name word done of_word sessions : List ℕ) (h : List ℕ × ℕ × ℕ) → done_of job name word done of_word sessions ≡ Some h →
    job ∷ name ∷ word ∷ done ∷ of_word ∷ sessions ∷ [] ≡ codes "job" ∷ h.0 ∷ codes "sessions" ∷ decimal h.1 ∷ codes "of" ∷ decimal h.2 ∷ []
unfolding done_of
done_was job name word done of_word sessions h e =
    let told : ℕ → ℕ → List ℕ × ℕ × ℕ = λ d s. (name, d, s) in
    let k = kept (bytes_eq job (codes "job") && is_name name && bytes_eq word (codes "sessions") && bytes_eq of_word (codes "of"))
    (option_and_then (λ d. option_map (told d) (number_of sessions)) (number_of done)) h e in
    let d = first_had (λ d. option_map (told d) (number_of sessions)) (number_of done) h k.1 in
    let s = map_had (told d.0) (number_of sessions) h d.2 in
    let a = bytes_eq job (codes "job") in
    let b = is_name name in
    let w = bytes_eq word (codes "sessions") in
    let f = bytes_eq of_word (codes "of") in
    let three = and_parts (a && b && w) f k.0 in
    let two = and_parts (a && b) w three.0 in
    let one = and_parts a b two.0 in
    (λ i. eq job (codes "job") one.0 i ∷ name ∷ eq word (codes "sessions") two.1 i ∷ (number_was done d.0 d.1).0 i
    ∷ eq of_word (codes "of") three.1 i ∷ (number_was sessions s.0 s.1).0 i ∷ [])
    ∙ ap (λ (t : List ℕ × ℕ × ℕ). codes "job" ∷ t.0 ∷ codes "sessions" ∷ decimal t.1 ∷ codes "of" ∷ decimal t.2 ∷ []) s.2

withdrawn_was : (word number : List ℕ) (w : Option ℕ) → withdrawn_of word number ≡ Some w → word ∷ number ∷ [] ≡ withdrawn_words w
unfolding withdrawn_of
withdrawn_was word number w e =
    let k = kept (bytes_eq word (codes "withdrawn")) (option_map (λ n. Some n) (number_of number)) w e in
    let n = map_had (λ n. Some n) (number_of number) w k.1 in
    (λ i. eq word (codes "withdrawn") k.0 i ∷ (number_was number n.0 n.1).0 i ∷ []) ∙ ap withdrawn_words n.2

state_was : (word : List ℕ) (b : Bool) → state_of word ≡ Some b → word ≡ state_word b
unfolding state_of
state_was word b e =
    ⊎_elim (λ h. eq word (codes "retired") h.0 ∙ ap state_word (some_is true b h.1))
    (λ h. let k = kept (bytes_eq word (codes "waiting")) (Some false) b h.1 in eq word (codes "waiting") k.0 ∙ ap state_word (some_is false b k.1))
    (either (bytes_eq word (codes "retired")) (Some true) (if bytes_eq word (codes "waiting") then Some false else None) b e)

meals_was : (word number state : List ℕ) (t : ℕ × Bool) → meals_of word number state ≡ Some t
    → word ∷ number ∷ state ∷ [] ≡ codes "meals" ∷ decimal t.0 ∷ state_word t.1 ∷ []
unfolding meals_of
meals_was word number state t e =
    let told : ℕ → Bool → ℕ × Bool = λ m s. (m, s) in
    let k = kept (bytes_eq word (codes "meals")) (option_and_then (λ m. option_map (told m) (state_of state)) (number_of number)) t e in
    let m = first_had (λ m. option_map (told m) (state_of state)) (number_of number) t k.1 in
    let s = map_had (told m.0) (state_of state) t m.2 in
    (λ i. eq word (codes "meals") k.0 i ∷ (number_was number m.0 m.1).0 i ∷ state_was state s.0 s.1 i ∷ [])
    ∙ ap (λ (q : ℕ × Bool). codes "meals" ∷ decimal q.0 ∷ state_word q.1 ∷ []) s.2

job_was : (head : Option (List ℕ × ℕ × ℕ)) (withdrawn : Option (Option ℕ)) (tail : Option (ℕ × Bool)) (x : Line) → job_of head withdrawn tail ≡ Some x →
    (h : List ℕ × ℕ × ℕ) × (w : Option ℕ) × (t : ℕ × Bool) × (head ≡ Some h) × (withdrawn ≡ Some w) × (tail ≡ Some t) ×
    (codes "job" ∷ h.0 ∷ codes "sessions" ∷ decimal h.1 ∷ codes "of" ∷ decimal h.2 ∷ (withdrawn_words w
    ++ codes "meals" ∷ decimal t.0 ∷ state_word t.1 ∷ []) ≡ words_of x)
unfolding job_of
job_was head withdrawn tail x e =
    let told : List ℕ × ℕ × ℕ → Option ℕ → ℕ × Bool → Line =
    λ h w t. Job (record { name = h.0; done = h.1; sessions = h.2; withdrawn = w; meals = t.0; is_retired = t.1 }) in
    let h = first_had (λ h. option_and_then (λ w. option_map (told h w) tail) withdrawn) head x e in
    let w = first_had (λ w. option_map (told h.0 w) tail) withdrawn x h.2 in
    let t = map_had (told h.0 w.0) tail x w.2 in
    (h.0, w.0, t.0, h.1, w.1, t.1, ap words_of t.2)

-- ---- any line

pub line_was : (words : List (List ℕ)) (x : Line) → line_of words ≡ Some x → words ≡ words_of x
unfolding line_of
line_was [] x e = absurd (none_some x e)
line_was (a ∷ []) x e = last_was a x e
line_was (a ∷ b ∷ []) x e = header_was a b x e
line_was (a ∷ b ∷ c ∷ []) x e = instrument_was a b c x e
line_was (a ∷ b ∷ c ∷ d ∷ []) x e = absurd (none_some x e)
line_was (a ∷ b ∷ c ∷ d ∷ k ∷ []) x e = absurd (none_some x e)
line_was (job ∷ session ∷ part ∷ verb ∷ is ∷ value ∷ []) x e =
    let h = entry_was job session part (read_of verb) is value x e in
    ap (λ l. job ∷ session ∷ part ∷ (l ++ is ∷ value ∷ [])) (read_was verb h.0 h.1) ∙ h.2
line_was (job ∷ session ∷ part ∷ verb ∷ number ∷ is ∷ value ∷ []) x e =
    let h = entry_was job session part (verb_of verb number) is value x e in
    ap (λ l. job ∷ session ∷ part ∷ (l ++ is ∷ value ∷ [])) (verb_was verb number h.0 h.1) ∙ h.2
line_was (a ∷ b ∷ c ∷ d ∷ k ∷ f ∷ g ∷ h ∷ []) x e = absurd (none_some x e)
line_was (job ∷ name ∷ a ∷ done ∷ b ∷ sessions ∷ c ∷ meals ∷ state ∷ []) x e =
    let j = job_was (done_of job name a done b sessions) (Some None) (meals_of c meals state) x e in
    (λ i. done_was job name a done b sessions j.0 j.3 i ++ (withdrawn_words (some_is None j.1 j.4 i) ++ meals_was c meals state j.2 j.5 i)) ∙ j.6
line_was (a ∷ b ∷ c ∷ d ∷ k ∷ f ∷ g ∷ h ∷ l ∷ m ∷ []) x e = absurd (none_some x e)
line_was (job ∷ name ∷ a ∷ done ∷ b ∷ sessions ∷ w ∷ withdrawn ∷ c ∷ meals ∷ state ∷ []) x e =
    let j = job_was (done_of job name a done b sessions) (withdrawn_of w withdrawn) (meals_of c meals state) x e in
    (λ i. done_was job name a done b sessions j.0 j.3 i ++ (withdrawn_was w withdrawn j.1 j.4 i ++ meals_was c meals state j.2 j.5 i)) ∙ j.6
line_was (a ∷ b ∷ c ∷ d ∷ k ∷ f ∷ g ∷ h ∷ l ∷ m ∷ n ∷ o ∷ more) x e = absurd (none_some x e)
