-- A program of words, as clap is told of it: what is found is what the words ask for, and words that ask for something are taken.
use Rattle.std.proofs.Common.{◌≡◌, ◌∙◌, ◌⊎◌, ◌≤◌, inl, inr, ℕ, false, true, List, [], ◌∷◌, Option, Some, None, option_map, sym, ap, ap₂, subst, codes, refl}
use Rattle.std.specs.Prelude.{Err}
use Rattle.std.specs.Str.{bytes_eq}
use Rattle.std.proofs.lemmas.Slice.Eq.{bytes_eq-Decides}
use Rattle.clap.specs.Words.{App, IsAmong, Row, Text, fault_of, subcommand_of}
use Rattle.clap.specs.Simple.{built, entered, names_of}
use Rattle.clap.specs.Faults.{built_fault, entered_fault}
use Rattle.clap.specs.Walk.{idle, nothing_held, rows_after, stop_after, subcommand_met}
use Rattle.clap.specs.declared.error.kind.ErrorKind.{ErrorKind}
use Rattle.clap.specs.declared.error.kind.ErrorKind.TheVariants as kind
use Rattle.command_line.specs.Answers.{Answers}
use Rattle.command_line.specs.Command.{word_app, word_of_number, word_of_numbers}
use Rattle.command_line.specs.Grammar.{alone, asks_for_help, both_given, number_within, values_given, with_number, with_numbers}
use Rattle.command_line.specs.Reading.{IsReason, IsRefusal, number_found}
use Rattle.command_line.specs.declared.words.NoTask.{NoTask}
use Rattle.command_line.specs.declared.words.NoTask.TheVariants.{Help, Refused, NoMemory}
use Rattle.command_line.proofs.Answers.{among_none, among_one, decide, never, not_true}
use Rattle.command_line.proofs.Leaves.{fault_at, leaf, told_number, word_alone, word_alone_passes, word_with_number, word_with_number_passes, word_with_numbers, word_with_numbers_passes}
use Rattle.command_line.proofs.Tops.{IsTop, meets, other}

-- what computes at a command that is written out
pub record IsProgram (app : App) : Type 0 where
  pub top : IsTop (built app)
  pub fault : (p : Text) (rest : List Text) → fault_of app (p ∷ rest) ≡ built_fault (built app) nothing_held rest
  pub finds : (p : Text) (rest : List Text) → subcommand_of app (p ∷ rest) ≡ entered (built app) (stop_after (built app).top.rules (names_of (built app)) rest)
  pub long_help : (p : Text) (rest : List Text) → fault_of app (p ∷ codes "--help" ∷ rest) ≡ kind.DisplayHelp ∷ []
  pub short_help : (p : Text) (rest : List Text) → fault_of app (p ∷ codes "-h" ∷ rest) ≡ kind.DisplayHelp ∷ []

-- a word of it, and what that word takes: what is found of its values, and what they mean
pub record IsWord {T : Type 0} (app : App) (found : Option (Text × List Row) → Option T) (asked : List Text → Option T) (name : Text) (takes : App) (finds : List Row → Option T) (means : List Text → Option T) : Type 0 where
  pub met : subcommand_met (names_of (built app)) idle name ≡ Some name
  pub fault : (rest : List Text) → entered_fault (built app) (Some (name, rest)) ≡ fault_at (leaf takes) rest
  pub is_found : (rest : List Text) → found (entered (built app) (Some (name, rest))) ≡ finds (rows_after (leaf takes).rules [] rest)
  pub is_asked : (p : Text) (rest : List Text) → asked (p ∷ name ∷ rest) ≡ means (values_given rest)

-- what is found is what the words ask for
abbrev pub IsSound : {T : Type 0} → App → (Option (Text × List Row) → Option T) → (List Text → Option T) → List Text → Type 0
IsSound app found asked words = fault_of app words ≡ [] → found (subcommand_of app words) ≡ asked words

-- words that ask for something are taken
abbrev pub IsComplete : {T : Type 0} → App → (List Text → Option T) → List Text → Type 0
IsComplete {T} app asked words = (t : T) → asked words ≡ Some t → fault_of app words ≡ []

abbrev pub IsRight : {T : Type 0} → App → (Option (Text × List Row) → Option T) → (List Text → Option T) → List Text → Type 0
IsRight app found asked words = IsSound app found asked words × IsComplete app asked words

pub by_values : {T : Type 0} {app : App} {found : Option (Text × List Row) → Option T} {asked : List Text → Option T} {name : Text} {takes : App} {finds : List Row → Option T} {means : List Text → Option T}
    → IsProgram app → IsWord app found asked name takes finds means
    → ((rest : List Text) → fault_at (leaf takes) rest ≡ [] → finds (rows_after (leaf takes).rules [] rest) ≡ means (values_given rest))
    → ((rest : List Text) (t : T) → means (values_given rest) ≡ Some t → fault_at (leaf takes) rest ≡ [])
    → (p : Text) (rest : List Text) → IsRight app found asked (p ∷ name ∷ rest)
by_values {T} {app} {found} {asked} {name} {takes} {finds} {means} program word sound complete p rest =
    let m = meets (built app) program.top name name rest word.met in
    let fault : fault_of app (p ∷ name ∷ rest) ≡ fault_at (leaf takes) rest = program.fault p (name ∷ rest) ∙ m.1 ∙ word.fault rest in
    let finding : found (subcommand_of app (p ∷ name ∷ rest)) ≡ finds (rows_after (leaf takes).rules [] rest) =
    ap found (program.finds p (name ∷ rest)) ∙ ap (λ s. found (entered (built app) s)) m.0 ∙ word.is_found rest in (
      λ h. finding ∙ sound rest (sym fault ∙ h) ∙ sym (word.is_asked p rest),
      λ t h. fault ∙ complete rest t (sym (word.is_asked p rest) ∙ h),
    )

-- ---- a word without values

abbrev pub IsAlone : {T : Type 0} → App → (Option (Text × List Row) → Option T) → (List Text → Option T) → Text → T → Type 0
IsAlone app found asked name task = IsWord app found asked name (word_app name) (λ rows. Some task) (alone task)

alone_fine : {T : Type 0} (a t : T) (vs : List Text) → alone a vs ≡ Some t → vs ≡ []
alone_fine a t [] h = refl
alone_fine a t (v ∷ vs) h = cc

pub without_values : {T : Type 0} {app : App} {found : Option (Text × List Row) → Option T} {asked : List Text → Option T} {name : Text} {task : T}
    → IsProgram app → IsAlone app found asked name task → (p : Text) (rest : List Text) → IsRight app found asked (p ∷ name ∷ rest)
without_values {T} {app} {found} {asked} {name} {task} program word p rest =
    by_values program word (λ rest h. sym (ap (alone task) (word_alone name rest h)))
    (λ rest t h. word_alone_passes name rest (alone_fine task t (values_given rest) h)) p rest

-- ---- a word with a number

abbrev pub HasNumber : {T : Type 0} → App → (Option (Text × List Row) → Option T) → (List Text → Option T) → Text → (ℕ → T) → ℕ → ℕ → Type 0
HasNumber app found asked name task l m = IsWord app found asked name (word_of_number name l m) (λ rows. option_map task (number_found (codes "N") rows)) (with_number task l m)

number_fine : {T : Type 0} (name : Text) (task : ℕ → T) (l m : ℕ) (rest vs : List Text) (t : T) → values_given rest ≡ vs → with_number task l m vs ≡ Some t
    → fault_at (leaf (word_of_number name l m)) rest ≡ []
number_fine name task l m rest [] t e h = cc
number_fine name task l m rest (v ∷ w ∷ vs) t e h = cc
number_fine {T} name task l m rest (v ∷ []) t e h = go (number_within l m v) refl h
  where
    go : (o : Option ℕ) → number_within l m v ≡ o → option_map task o ≡ Some t → fault_at (leaf (word_of_number name l m)) rest ≡ []
    go None d h = cc
    go (Some k) d h = word_with_number_passes name l m rest v e (told_number l m k v d)

pub with_one : {T : Type 0} {app : App} {found : Option (Text × List Row) → Option T} {asked : List Text → Option T} {name : Text} {task : ℕ → T} {l m : ℕ}
    → IsProgram app → HasNumber app found asked name task l m → m ≤ 1000000000 → (p : Text) (rest : List Text) → IsRight app found asked (p ∷ name ∷ rest)
with_one {T} {app} {found} {asked} {name} {task} {l} {m} program word small p rest =
    by_values program word
    (λ rest h. let w = word_with_number name l m rest small h in ap (option_map task) w.2 ∙ sym (ap (with_number task l m) w.1))
    (λ rest t h. number_fine name task l m rest (values_given rest) t refl h) p rest

-- ---- a word with two numbers

abbrev pub HasNumbers : {T : Type 0} → App → (Option (Text × List Row) → Option T) → (List Text → Option T) → Text → (ℕ → ℕ → T) → ℕ → ℕ → ℕ → ℕ → Type 0
HasNumbers app found asked name task j k l m = IsWord app found asked name (word_of_numbers name j k l m)
    (λ rows. both_given task (number_found (codes "W") rows) (number_found (codes "N") rows)) (with_numbers task j k l m)

numbers_fine : {T : Type 0} (name : Text) (task : ℕ → ℕ → T) (j k l m : ℕ) (rest vs : List Text) (t : T) → values_given rest ≡ vs
    → with_numbers task j k l m vs ≡ Some t → fault_at (leaf (word_of_numbers name j k l m)) rest ≡ []
numbers_fine name task j k l m rest [] t e h = cc
numbers_fine name task j k l m rest (v ∷ []) t e h = cc
numbers_fine name task j k l m rest (v ∷ w ∷ x ∷ vs) t e h = cc
numbers_fine {T} name task j k l m rest (v ∷ w ∷ []) t e h = go (number_within j k v) (number_within l m w) refl refl h
  where
    go : (o q : Option ℕ) → number_within j k v ≡ o → number_within l m w ≡ q → both_given task o q ≡ Some t
        → fault_at (leaf (word_of_numbers name j k l m)) rest ≡ []
    go None q c d h = cc
    go (Some a) None c d h = cc
    go (Some a) (Some b) c d h = word_with_numbers_passes name j k l m rest v w e (told_number j k a v c) (told_number l m b w d)

pub with_two : {T : Type 0} {app : App} {found : Option (Text × List Row) → Option T} {asked : List Text → Option T} {name : Text} {task : ℕ → ℕ → T} {j k l m : ℕ}
    → IsProgram app → HasNumbers app found asked name task j k l m → k ≤ 1000000000 → m ≤ 1000000000
    → (p : Text) (rest : List Text) → IsRight app found asked (p ∷ name ∷ rest)
with_two {T} {app} {found} {asked} {name} {task} {j} {k} {l} {m} program word few small p rest =
    by_values program word
    (λ rest h. let w = word_with_numbers name j k l m rest few small h in ap₂ (both_given task) w.3 w.4 ∙ sym (ap (with_numbers task j k l m) w.2))
    (λ rest t h. numbers_fine name task j k l m rest (values_given rest) t refl h) p rest

-- ---- which word it is

abbrev pub AreOther : List Text → Text → Type 0
AreOther [] word = Unit
AreOther (name ∷ names) word = ((bytes_eq word name ≡ false) × (bytes_eq name word ≡ false)) × AreOther names word

abbrev pub OfEach : (Text → Type 0) → List Text → Type 0
OfEach P [] = Unit
OfEach P (name ∷ names) = P name × OfEach P names

pub by_word : (P : Text → Type 0) (names : List Text) (word : Text) → OfEach P names → (AreOther names word → P word) → P word
by_word P [] word each others = others tt
by_word P (name ∷ names) word each others =
    elim (decide word name) [
      | inl e ↦ subst P (sym e) each.0
      | inr a ↦ by_word P names word each.1 (λ o. others (a, o))
    ]

-- a word that isn't the program's is `--`, and stands last
pub other_word : {T : Type 0} {app : App} (found : Option (Text × List Row) → Option T) (asked : List Text → Option T)
    → IsProgram app → (p word : Text) (rest : List Text) → subcommand_met (names_of (built app)) idle word ≡ None
    → found (subcommand_of app (p ∷ codes "--" ∷ [])) ≡ asked (p ∷ codes "--" ∷ []) → IsSound app found asked (p ∷ word ∷ rest)
other_word {T} {app} found asked program p word rest unmet none h =
    let last = other (built app) program.top word rest unmet (sym (program.fault p (word ∷ rest)) ∙ h) in
    let go : (w : Text) → w ≡ codes "--" → (l : List Text) → l ≡ [] → found (subcommand_of app (p ∷ w ∷ l)) ≡ asked (p ∷ w ∷ l) =
    λ w d l n. subst (λ x. found (subcommand_of app (p ∷ x ∷ l)) ≡ asked (p ∷ x ∷ l)) (sym d)
    (subst (λ x. found (subcommand_of app (p ∷ codes "--" ∷ x)) ≡ asked (p ∷ codes "--" ∷ x)) (sym n) none) in
    go word ((bytes_eq-Decides word (codes "--")).0 last.0) rest last.1

-- ---- help, and what is answered

pub helps : {app : App} → IsProgram app → (words : List Text) → asks_for_help words ≡ true → fault_of app words ≡ kind.DisplayHelp ∷ []
helps program [] h = cc
helps program (p ∷ []) h = cc
helps {app} program (p ∷ word ∷ rest) h =
    elim (decide word (codes "--help")) [
      | inl e ↦ subst (λ w. fault_of app (p ∷ w ∷ rest) ≡ kind.DisplayHelp ∷ []) (sym e) (program.long_help p rest)
      | inr a ↦
          let is : bytes_eq word (codes "-h") ≡ true = rw a.0 at h in
          subst (λ w. fault_of app (p ∷ w ∷ rest) ≡ kind.DisplayHelp ∷ []) (sym ((bytes_eq-Decides word (codes "-h")).0 is)) (program.short_help p rest)
    ]

pub by_error : {T : Type 0} {app : App} (asked : List Text → Option T) → IsProgram app → (words : List Text) → IsComplete app asked words → (k : ErrorKind) (r : NoTask)
    → IsReason k r → (k ≡ kind.OutOfMemory) ⊎ IsAmong k (fault_of app words) → Answers app (asked words) words (Err r)
by_error asked program words complete k NoMemory is kinds = tt
by_error {T} {app} asked program words complete k (Help text) is kinds =
    elim kinds [
      | inl none ↦ let bad : kind.DisplayHelp ≡ kind.OutOfMemory = sym is ∙ none in cc
      | inr among ↦ (never (asked words) (λ t h. among_none k (fault_of app words) (complete t h) among), subst (λ x. IsAmong x (fault_of app words)) is among)
    ]
by_error {T} {app} asked program words complete k (Refused why) is kinds =
    elim kinds [
      | inl none ↦ absurd (is.0 none)
      | inr among ↦ (
        never (asked words) (λ t h. among_none k (fault_of app words) (complete t h) among),
        not_true (asks_for_help words) (λ h. is.1 (among_one k kind.DisplayHelp (fault_of app words) (helps program words h) among)),
        λ h. is.1 (among_one k kind.DisplayHelp (fault_of app words) h among),
      )
    ]

pub by_none : {T : Type 0} {app : App} (asked : List Text → Option T) → IsProgram app → (words : List Text) (r : NoTask) → IsRefusal r → fault_of app words ≡ [] → asked words ≡ None
    → Answers app (asked words) words (Err r)
by_none asked program words NoMemory is fault none = tt
by_none asked program words (Help text) is fault none = absurd is
by_none asked program words (Refused why) is fault none = (
  none,
  not_true (asks_for_help words) (λ h. let bad : [] ≡ kind.DisplayHelp ∷ [] = sym fault ∙ helps program words h in cc),
  λ h. let bad : [] ≡ kind.DisplayHelp ∷ [] = sym fault ∙ h in cc,
)
