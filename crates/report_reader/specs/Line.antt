-- For readers: the lines of a report, each by its words.
use Rattle.std.specs.Prelude.{ℕ, Bool, true, false, List, [], ◌∷◌, ◌++◌, Option, None, Some, codes, decimal}
use Rattle.lab_plan.specs.declared.verb.Verb.{Verb}
use Rattle.lab_plan.specs.declared.verb.Verb.TheVariants.{Set, Add, Read}

-- what an entry's line says
pub record EntryText : Type 0 where
  pub job : List ℕ
  pub session : ℕ
  pub place : ℕ
  pub length : ℕ
  pub verb : Verb
  pub value : ℕ

-- what a job's line says; in version 2 also how many sessions were withdrawn
pub record JobText : Type 0 where
  pub name : List ℕ
  pub done : ℕ
  pub sessions : ℕ
  pub withdrawn : Option ℕ
  pub meals : ℕ
  pub is_retired : Bool

pub data Line : Type 0 where
  Header : (version : ℕ) → Line
  Instrument : (name : List ℕ) → (entries : ℕ) → Line
  Entry : (entry : EntryText) → Line
  Job : (job : JobText) → Line
  Last : (is_finished : Bool) → Line

-- `set N`, `add N` or `read`
abbrev pub verb_words : Verb → List (List ℕ)
verb_words (Set n) = codes "set" ∷ decimal n ∷ []
verb_words (Add n) = codes "add" ∷ decimal n ∷ []
verb_words Read = codes "read" ∷ []

-- `withdrawn X`
abbrev pub withdrawn_words : Option ℕ → List (List ℕ)
withdrawn_words None = []
withdrawn_words (Some withdrawn) = codes "withdrawn" ∷ decimal withdrawn ∷ []

abbrev pub state_word : Bool → List ℕ
state_word true = codes "retired"
state_word false = codes "waiting"

abbrev pub last_word : Bool → List ℕ
last_word true = codes "finished"
last_word false = codes "unfinished"

-- the words of a line, between which one space stands
abbrev pub words_of : Line → List (List ℕ)
words_of (Header version) = codes "lab" ∷ decimal version ∷ []
words_of (Instrument name entries) = codes "instrument" ∷ name ∷ decimal entries ∷ []
words_of (Entry e) =
    e.job ∷ decimal e.session ∷ (decimal e.place ++ 47 ∷ decimal e.length) ∷ (verb_words e.verb ++ codes "=" ∷ decimal e.value ∷ [])
words_of (Job j) =
    codes "job" ∷ j.name ∷ codes "sessions" ∷ decimal j.done ∷ codes "of" ∷ decimal j.sessions
    ∷ (withdrawn_words j.withdrawn ++ codes "meals" ∷ decimal j.meals ∷ state_word j.is_retired ∷ [])
words_of (Last is_finished) = last_word is_finished ∷ []
