-- What the calls that cut a text into blocks answer, by its lines.
use Rattle.std.specs.Prelude.{ℕ, ◌≡◌, ◌⊎◌, List, [], ◌∷◌, ◌++◌, length, map}
use Rattle.std.specs.List.{concat, flat_map}
use Rattle.arranged_scripts.specs.Blocks.{HaveNoJob, EndPlain, BeginWithJob, IsBlock, AreBlocks}

-- nothing follows these lines, or a block follows that has the comments directly above its job's line
abbrev pub EndBefore : List (List ℕ) → List (List ℕ) → Type 0
EndBefore above below = (below ≡ []) ⊎ (EndPlain above × BeginWithJob below)

-- the lines above the first block have this many bytes
pub record IsUpToJob (lines : List (List ℕ)) (len : ℕ) : Type 0 where
  pub above : List (List ℕ)
  pub below : List (List ℕ)
  pub are_all : lines ≡ above ++ below
  pub long : len ≡ length (concat above)
  pub no_job : HaveNoJob above
  pub next : EndBefore above below

-- the lines up to and with the first job's line have this many bytes
pub record IsBehindJob (lines : List (List ℕ)) (len : ℕ) : Type 0 where
  pub begin : BeginWithJob lines
  pub long : len ≡ length (concat (begin.comments ++ begin.job ∷ []))

-- the block with which the lines begin has this many bytes
pub record IsBlockLen (lines : List (List ℕ)) (len : ℕ) : Type 0 where
  pub block : List (List ℕ)
  pub below : List (List ℕ)
  pub are_all : lines ≡ block ++ below
  pub long : len ≡ length (concat block)
  pub is_block : IsBlock block
  pub next : EndBefore block below

-- the lines are these blocks, of which these are the bytes
pub record AreCutInto (lines : List (List ℕ)) (texts : List (List ℕ)) : Type 0 where
  pub blocks : List (List (List ℕ))
  pub are_all : lines ≡ flat_map (λ block. block) blocks
  pub are_blocks : AreBlocks [] blocks
  pub bytes : texts ≡ map concat blocks
