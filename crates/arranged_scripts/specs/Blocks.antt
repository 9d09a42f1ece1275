-- For readers: the blocks of a text, one for each job's line.
use Rattle.std.specs.Prelude.{ℕ, ◌≡◌, ◌⊎◌, Bool, true, false, ◌||◌, ◌==◌, codes, List, [], ◌∷◌, ◌++◌, length, drop}
use Rattle.std.specs.List.{All, flat_map, starts_with, take_while}
use Rattle.bstr.specs.Text.{lines_of}
use Rattle.script_reader.specs.Fields.{is_gap}

-- ---- lines

-- the line, behind the spaces and tabs that it begins with, goes on with this word
abbrev pub goes_on : List ℕ → List ℕ → Bool
goes_on word line = starts_with (λ a b. a == b) (drop (length (take_while is_gap line)) line) word

-- a line that begins with #, behind its spaces and tabs
abbrev pub is_comment : List ℕ → Bool
is_comment line = goes_on (codes "#") line

-- a line that begins with `job` and a space or a tab, behind its spaces and tabs
abbrev pub is_job_line : List ℕ → Bool
is_job_line line = goes_on (codes "job ") line || goes_on (codes "job\t") line

abbrev pub AreComments : List (List ℕ) → Type 0
AreComments lines = All (λ line. is_comment line ≡ true) lines

abbrev pub HaveNoJob : List (List ℕ) → Type 0
HaveNoJob lines = All (λ line. is_job_line line ≡ false) lines

-- there are no lines, or the last is no comment
abbrev pub EndPlain : List (List ℕ) → Type 0
EndPlain lines = (lines ≡ []) ⊎ ((above : List (List ℕ)) × (last : List ℕ) × (lines ≡ above ++ last ∷ []) × (is_comment last ≡ false))

-- ---- blocks, as lists of lines

-- comments, a job's line directly below them, and others
pub record BeginWithJob (lines : List (List ℕ)) : Type 0 where
  pub comments : List (List ℕ)
  pub job : List ℕ
  pub others : List (List ℕ)
  pub are_all : lines ≡ comments ++ job ∷ others
  pub are_comments : AreComments comments
  pub is_job : is_job_line job ≡ true

-- these lines are one block: no other line is a job's
abbrev pub IsBlock : List (List ℕ) → Type 0
IsBlock lines = (begins : BeginWithJob lines) × HaveNoJob begins.others

-- Each is a block, and what stands directly above it, these lines or another block, doesn't end with a comment: comments directly above a
-- job's line are in its block
abbrev pub AreBlocks : List (List ℕ) → List (List (List ℕ)) → Type 0
AreBlocks above [] = Unit {0}
AreBlocks above (block ∷ blocks) = EndPlain above × IsBlock block × AreBlocks block blocks

-- the lines of the text are a head without a job's line, and below it these blocks
pub record IsCut (text : List ℕ) (head : List (List ℕ)) (blocks : List (List (List ℕ))) : Type 0 where
  pub are_all : lines_of text ≡ head ++ flat_map (λ block. block) blocks
  pub no_job : HaveNoJob head
  pub are_blocks : AreBlocks head blocks

-- a text is cut in one way
abbrev pub HasOneCut : Type 0
HasOneCut = (text : List ℕ) (head other : List (List ℕ)) (blocks rest : List (List (List ℕ))) → IsCut text head blocks → IsCut text other rest
    → (head ≡ other) × (blocks ≡ rest)
