-- A text is cut into blocks, line by line.
use Rattle.std.proofs.Common.{◌≡◌, inl, inr, ⊎_elim, ℕ, ◌+◌, ◌-◌, ◌<◌, ◌≤◌, true, false, ◌||◌, List, [], ◌∷◌, ◌++◌, length, map, take, drop, refl, sym, ap, ◌∙◌, subst, arith, append_assoc, append-nil, length-append}
use Rattle.std.specs.Prelude.{◌==◌, codes, slice_index_or}
use Rattle.std.specs.List.{concat, flat_map, starts_with, take_while}
use Rattle.std.specs.Cmp.Lexicographic.{pointwise}
use Rattle.std.proofs.lemmas.Bool.{eqb-true, or_cases, and_parts, cases_Bool, both_ways}
use Rattle.std.proofs.Math.ListN.{get_or-map}
use Rattle.std.proofs.Math.Seq.{take-append_seam}
use Rattle.std.proofs.lemmas.List.{map-append, length-map, take_rest}
use Rattle.std.proofs.lemmas.List.Elements.{All-nil, All-append, All-push, All-head, All-tail, All-weaker}
use Rattle.std.proofs.lemmas.List.Folds.{concat-append}
use Rattle.bstr.specs.Text.{lines_of}
use Rattle.script_reader.specs.Fields.{is_gap}
use Rattle.arranged_scripts.specs.Arranged.{HasOtherBlocks, MovesBlocks}
use Rattle.arranged_scripts.specs.Blocks.{is_comment, is_job_line, AreComments, HaveNoJob, EndPlain, BeginWithJob, IsBlock, AreBlocks, IsCut}
use Rattle.arranged_scripts.specs.Cutting.{EndBefore, IsUpToJob, IsBehindJob, IsBlockLen, AreCutInto}
use Rattle.arranged_scripts.proofs.Lines.{whole, within, halves, lines_behind}

-- ---- a comment is no job's line

-- what goes on with a word begins with its first letter
first_of : (letter first : ℕ) (word ink : List ℕ) → starts_with (λ a b. a == b) (first ∷ ink) (letter ∷ word) ≡ true → letter ≡ first
first_of letter first word ink is = eqb-true letter first (and_parts (letter == first) (pointwise (λ a b. a == b) word (take (length word) ink)) is).0

begins_apart : (ink : List ℕ) → starts_with (λ a b. a == b) ink (codes "#") ≡ true
    → starts_with (λ a b. a == b) ink (codes "job ") || starts_with (λ a b. a == b) ink (codes "job\t") ≡ true → ⊥
begins_apart [] comment job = cc
begins_apart (first ∷ more) comment job =
    let ink = first ∷ more in
    let is_mark : 35 ≡ first = first_of 35 first [] more comment in
    let is_letter : 106 ≡ first = ⊎_elim (first_of 106 first (111 ∷ 98 ∷ 32 ∷ []) more) (first_of 106 first (111 ∷ 98 ∷ 9 ∷ []) more)
    (or_cases (starts_with (λ a b. a == b) ink (codes "job ")) (starts_with (λ a b. a == b) ink (codes "job\t")) job) in
    omega arith

pub apart : (line : List ℕ) → is_comment line ≡ true → is_job_line line ≡ true → ⊥
apart line comment job = begins_apart (drop (length (take_while is_gap line)) line) comment job

no_job : (line : List ℕ) → is_comment line ≡ true → is_job_line line ≡ false
no_job line comment = ⊎_elim (λ job. absurd (apart line comment job)) (λ none. none) (cases_Bool (is_job_line line))

plain : (line : List ℕ) → is_job_line line ≡ true → is_comment line ≡ false
plain line job = ⊎_elim (λ comment. absurd (apart line comment job)) (λ none. none) (cases_Bool (is_comment line))

pub comments_have_no_job : (lines : List (List ℕ)) → AreComments lines → HaveNoJob lines
comments_have_no_job lines are = All-weaker (λ line. is_comment line ≡ true) (λ line. is_job_line line ≡ false) no_job lines are

-- ---- sizes

pub one_line_more : (done : List (List ℕ)) (line : List ℕ) (read : ℕ) → read ≡ length (concat done) → read + length line ≡ length (concat (done ++ line ∷ []))
one_line_more done line read is =
    let all : concat (done ++ line ∷ []) ≡ concat done ++ line = concat-append done (line ∷ []) ∙ ap (λ (l : List ℕ). concat done ++ l) (append-nil line) in
    omega (arith, ap length all, length-append (concat done) line)

-- ---- up to the first job's line

-- these lines are read and these are left; what is read ends with these comments
pub record IsLooking (lines done rest : List (List ℕ)) (above read : ℕ) : Type 0 where
  pub all : lines ≡ done ++ rest
  pub top : List (List ℕ)
  pub comments : List (List ℕ)
  pub parts : done ≡ top ++ comments
  pub no_job : HaveNoJob top
  pub ends : EndPlain top
  pub are_comments : AreComments comments
  pub long : above ≡ length (concat top)
  pub read_long : read ≡ length (concat done)

module _ (lines done : List (List ℕ)) (line : List ℕ) (rest : List (List ℕ)) (above read : ℕ) (is : IsLooking lines done (line ∷ rest) above read) where
  taken : lines ≡ (done ++ line ∷ []) ++ rest
  taken = is.all ∙ sym (append_assoc done (line ∷ []) rest)

  done_has_none : HaveNoJob done
  done_has_none =
      subst (λ (l : List (List ℕ)). HaveNoJob l) (sym is.parts)
      (All-append (λ line. is_job_line line ≡ false) is.top is.comments is.no_job (comments_have_no_job is.comments is.are_comments))

  -- a comment is read
  pub looks_on : is_comment line ≡ true → IsLooking lines (done ++ line ∷ []) rest above (read + length line)
  looks_on comment = record {
    all = taken;
    top = is.top;
    comments = is.comments ++ line ∷ [];
    parts = ap (λ (l : List (List ℕ)). l ++ line ∷ []) is.parts ∙ append_assoc is.top is.comments (line ∷ []);
    no_job = is.no_job;
    ends = is.ends;
    are_comments = All-push (λ line. is_comment line ≡ true) is.comments line is.are_comments comment;
    long = is.long;
    read_long = one_line_more done line read is.read_long;
  }

  -- another line is read, and no job's
  pub looks_anew : is_job_line line ≡ false → is_comment line ≡ false → IsLooking lines (done ++ line ∷ []) rest (read + length line) (read + length line)
  looks_anew none other = record {
    all = taken;
    top = done ++ line ∷ [];
    comments = [];
    parts = sym (append-nil (done ++ line ∷ []));
    no_job = All-push (λ line. is_job_line line ≡ false) done line done_has_none none;
    ends = inr (done, line, refl, other);
    are_comments = All-nil (λ line. is_comment line ≡ true);
    long = one_line_more done line read is.read_long;
    read_long = one_line_more done line read is.read_long;
  }

  -- a job's line
  pub found : is_job_line line ≡ true → IsUpToJob lines above
  found job = record {
    above = is.top;
    below = is.comments ++ line ∷ rest;
    are_all = is.all ∙ ap (λ (l : List (List ℕ)). l ++ line ∷ rest) is.parts ∙ append_assoc is.top is.comments (line ∷ rest);
    long = is.long;
    no_job = is.no_job;
    next = inr (
      is.ends,
      record {
        comments = is.comments;
        job = line;
        others = rest;
        are_all = refl;
        are_comments = is.are_comments;
        is_job = job;
      },
    );
  }

-- the lines are at their end
pub found_none : (lines done : List (List ℕ)) (above read : ℕ) → IsLooking lines done [] above read → IsUpToJob lines read
found_none lines done above read is = record {
  above = done;
  below = [];
  are_all = is.all;
  long = is.read_long;
  no_job = subst (λ (l : List (List ℕ)). HaveNoJob l) (sym is.parts)
      (All-append (λ line. is_job_line line ≡ false) is.top is.comments is.no_job (comments_have_no_job is.comments is.are_comments));
  next = inl refl;
}

-- ---- behind the first job's line

-- these comments are read, and what is left begins with a block
pub record IsAtBlock (lines done rest : List (List ℕ)) (read : ℕ) : Type 0 where
  pub all : lines ≡ done ++ rest
  pub are_comments : AreComments done
  pub begin : BeginWithJob rest
  pub long : read ≡ length (concat done)

module _ (lines done : List (List ℕ)) (line : List ℕ) (rest : List (List ℕ)) (read : ℕ) (is : IsAtBlock lines done (line ∷ rest) read) where
  -- a comment is read
  pub on_to_block : is_job_line line ≡ false → IsAtBlock lines (done ++ line ∷ []) rest (read + length line)
  on_to_block none = by_comments is.begin.comments is.begin.are_comments is.begin.are_all
    where
      by_comments : (comments : List (List ℕ)) → AreComments comments → line ∷ rest ≡ comments ++ is.begin.job ∷ is.begin.others
          → IsAtBlock lines (done ++ line ∷ []) rest (read + length line)
      by_comments [] are same =
          let first : line ≡ is.begin.job = cc in
          absurd (both_ways (is_job_line line) none (ap is_job_line first ∙ is.begin.is_job))
      by_comments (comment ∷ more) are same =
          let first : line ≡ comment = cc in
          let others : rest ≡ more ++ is.begin.job ∷ is.begin.others = cc in
          let mine : is_comment line ≡ true = ap is_comment first ∙ All-head (λ line. is_comment line ≡ true) comment more are in record {
            all = is.all ∙ sym (append_assoc done (line ∷ []) rest);
            are_comments = All-push (λ line. is_comment line ≡ true) done line is.are_comments mine;
            begin = record {
              comments = more;
              job = is.begin.job;
              others = is.begin.others;
              are_all = others;
              are_comments = All-tail (λ line. is_comment line ≡ true) comment more are;
              is_job = is.begin.is_job;
            };
            long = one_line_more done line read is.long;
          }

  -- the job's line
  pub at_job : is_job_line line ≡ true → IsBehindJob lines (read + length line)
  at_job job = record {
    begin = record {
      comments = done;
      job = line;
      others = rest;
      are_all = is.all;
      are_comments = is.are_comments;
      is_job = job;
    };
    long = one_line_more done line read is.long;
  }

nothing_begins : (comments : List (List ℕ)) (job : List ℕ) (others : List (List ℕ)) → [] ≡ comments ++ job ∷ others → ⊥
nothing_begins [] job others is = cc
nothing_begins (comment ∷ comments) job others is = cc

pub block_is_some : BeginWithJob [] → ⊥
block_is_some begin = nothing_begins begin.comments begin.job begin.others begin.are_all

-- ---- a block

-- lines that end plain, below one that is no comment
end_plain : (above : List (List ℕ)) (line : List ℕ) (below : List (List ℕ)) → is_comment line ≡ false → EndPlain below → EndPlain (above ++ line ∷ below)
end_plain above line below other (inl none) = subst (λ (l : List (List ℕ)). EndPlain (above ++ line ∷ l)) (sym none) (inr (above, line, refl, other))
end_plain above line below other (inr (front, last, same, ends)) =
    inr (above ++ line ∷ front, last, ap (λ (l : List (List ℕ)). above ++ line ∷ l) same ∙ sym (append_assoc above (line ∷ front) (last ∷ [])), ends)

-- the lines up to a job's line, and those below it up to the next block
pub whole_block : (lines : List (List ℕ)) (own len : ℕ) (first : IsBehindJob lines own) → IsUpToJob first.begin.others len → IsBlockLen lines (own + len)
whole_block lines own len first up =
    let begin = first.begin in
    let block = begin.comments ++ begin.job ∷ up.above in
    let split : block ≡ (begin.comments ++ begin.job ∷ []) ++ up.above = sym (append_assoc begin.comments (begin.job ∷ []) up.above) in
    let bytes : concat block ≡ concat (begin.comments ++ begin.job ∷ []) ++ concat up.above =
    ap concat split ∙ concat-append (begin.comments ++ begin.job ∷ []) up.above in record {
      block = block;
      below = up.below;
      are_all = begin.are_all ∙ ap (λ (l : List (List ℕ)). begin.comments ++ begin.job ∷ l) up.are_all
          ∙ sym (append_assoc begin.comments (begin.job ∷ up.above) up.below);
      long = omega (arith, first.long, up.long, ap length bytes, length-append (concat (begin.comments ++ begin.job ∷ [])) (concat up.above));
      is_block = (
        record {
          comments = begin.comments;
          job = begin.job;
          others = up.above;
          are_all = refl;
          are_comments = begin.are_comments;
          is_job = begin.is_job;
        },
        up.no_job,
      );
      next = ⊎_elim (λ none. inl none)
          (λ some. inr (end_plain begin.comments begin.job up.above (plain begin.job begin.is_job) some.0, some.1)) up.next;
    }

-- ---- the blocks, one after another

-- the last of the blocks, or what stands above them
pub last_piece : List (List ℕ) → List (List (List ℕ)) → List (List ℕ)
last_piece above [] = above
last_piece above (block ∷ blocks) = last_piece block blocks

push_block : (above : List (List ℕ)) (blocks : List (List (List ℕ))) (block : List (List ℕ)) → AreBlocks above blocks → EndPlain (last_piece above blocks)
    → IsBlock block → AreBlocks above (blocks ++ block ∷ [])
unfolding last_piece
push_block above [] block are ends is = (ends, is, tt)
push_block above (first ∷ blocks) block are ends is = (are.0, are.1, push_block first blocks block are.2 ends is)

last_pushed : (above : List (List ℕ)) (blocks : List (List (List ℕ))) (block : List (List ℕ)) → last_piece above (blocks ++ block ∷ []) ≡ block
unfolding last_piece
last_pushed above [] block = refl
last_pushed above (first ∷ blocks) block = last_pushed first blocks block

lines_pushed : (blocks : List (List (List ℕ))) (block : List (List ℕ)) → flat_map (λ lines. lines) (blocks ++ block ∷ []) ≡ flat_map (λ lines. lines) blocks ++ block
lines_pushed [] block = append-nil block
lines_pushed (first ∷ blocks) block =
    ap (λ (l : List (List ℕ)). first ++ l) (lines_pushed blocks block) ∙ sym (append_assoc first (flat_map (λ lines. lines) blocks) block)

-- these blocks are cut off, and these lines are left
pub record AreCutOff (lines : List (List ℕ)) (texts rest : List (List ℕ)) : Type 0 where
  pub blocks : List (List (List ℕ))
  pub all : lines ≡ flat_map (λ block. block) blocks ++ rest
  pub are_blocks : AreBlocks [] blocks
  pub bytes : texts ≡ map concat blocks
  pub next : EndBefore (last_piece [] blocks) rest

pub none_cut_off : (lines : List (List ℕ)) → EndBefore [] lines → AreCutOff lines [] lines
unfolding last_piece
none_cut_off lines next = record {
  blocks = [];
  all = refl;
  are_blocks = tt;
  bytes = refl;
  next = next;
}

-- what is left begins with a block
pub begins_next : (lines texts rest : List (List ℕ)) → AreCutOff lines texts rest → (rest ≡ [] → ⊥) → BeginWithJob rest
begins_next lines texts rest is some = ⊎_elim (λ none. absurd (some none)) (λ both. both.1) is.next

-- one more block is cut off
pub one_cut_off : (lines texts rest : List (List ℕ)) (is : AreCutOff lines texts rest) (len : ℕ) (one : IsBlockLen rest len) (text : List ℕ)
    → text ≡ concat one.block → AreCutOff lines (texts ++ text ∷ []) one.below
one_cut_off lines texts rest is len one text bytes =
    let ends : EndPlain (last_piece [] is.blocks) =
    ⊎_elim (λ none. absurd (block_is_some (record {
      comments = one.is_block.0.comments;
      job = one.is_block.0.job;
      others = one.is_block.0.others ++ one.below;
      are_all = sym none ∙ one.are_all ∙ ap (λ (l : List (List ℕ)). l ++ one.below) one.is_block.0.are_all
          ∙ append_assoc one.is_block.0.comments (one.is_block.0.job ∷ one.is_block.0.others) one.below;
      are_comments = one.is_block.0.are_comments;
      is_job = one.is_block.0.is_job;
    }))) (λ both. both.0) is.next in record {
      blocks = is.blocks ++ one.block ∷ [];
      all = is.all ∙ ap (λ (l : List (List ℕ)). flat_map (λ block. block) is.blocks ++ l) one.are_all
          ∙ sym (append_assoc (flat_map (λ block. block) is.blocks) one.block one.below)
          ∙ ap (λ (l : List (List ℕ)). l ++ one.below) (sym (lines_pushed is.blocks one.block));
      are_blocks = push_block [] is.blocks one.block is.are_blocks ends one.is_block;
      bytes = ap (λ (l : List (List ℕ)). l ++ text ∷ []) is.bytes ∙ ap (λ (l : List ℕ). map concat is.blocks ++ l ∷ []) bytes
          ∙ sym (map-append concat is.blocks (one.block ∷ []));
      next = subst (λ (l : List (List ℕ)). EndBefore l one.below) (sym (last_pushed [] is.blocks one.block)) one.next;
    }

pub all_cut : (lines texts rest : List (List ℕ)) → AreCutOff lines texts rest → rest ≡ [] → AreCutInto lines texts
all_cut lines texts rest is none = record {
  blocks = is.blocks;
  are_all = is.all ∙ ap (λ (l : List (List ℕ)). flat_map (λ block. block) is.blocks ++ l) none ∙ append-nil (flat_map (λ block. block) is.blocks);
  are_blocks = is.are_blocks;
  bytes = is.bytes;
}

-- ---- a text

-- the blocks below a head that ends plain, if there are any
below_head : (head : List (List ℕ)) (blocks : List (List (List ℕ))) → EndBefore head (flat_map (λ block. block) blocks) → AreBlocks [] blocks → AreBlocks head blocks
below_head head [] next are = tt
below_head head (block ∷ blocks) (inr both) are = (both.0, are.1, are.2)
below_head head (block ∷ blocks) (inl none) are = absurd (block_is_some (record {
  comments = are.1.0.comments;
  job = are.1.0.job;
  others = are.1.0.others ++ flat_map (λ block. block) blocks;
  are_all = sym none ∙ ap (λ (l : List (List ℕ)). l ++ flat_map (λ block. block) blocks) are.1.0.are_all
      ∙ append_assoc are.1.0.comments (are.1.0.job ∷ are.1.0.others) (flat_map (λ block. block) blocks);
  are_comments = are.1.0.are_comments;
  is_job = are.1.0.is_job;
}))

pub is_cut : (text : List ℕ) (len : ℕ) (up : IsUpToJob (lines_of text) len) (texts : List (List ℕ)) (cut : AreCutInto up.below texts) → IsCut text up.above cut.blocks
is_cut text len up texts cut = record {
  are_all = up.are_all ∙ ap (λ (l : List (List ℕ)). up.above ++ l) cut.are_all;
  no_job = up.no_job;
  are_blocks = below_head up.above cut.blocks (subst (λ (l : List (List ℕ)). EndBefore up.above l) cut.are_all up.next) cut.are_blocks;
}

-- ---- places in a text

-- what is read, with the next line, is no longer than the text
pub reads_within : (text : List ℕ) (done : List (List ℕ)) (line : List ℕ) (rest : List (List ℕ)) (read : ℕ) → lines_of text ≡ done ++ line ∷ rest
    → read ≡ length (concat done) → read + length line ≤ length text
reads_within text done line rest read is long =
    omega (arith, one_line_more done line read long, within text (done ++ line ∷ []) rest (is ∙ sym (append_assoc done (line ∷ []) rest)))

pub up_within : (text : List ℕ) (len : ℕ) → IsUpToJob (lines_of text) len → len ≤ length text
up_within text len up = omega (arith, up.long, within text up.above up.below up.are_all)

some_job : (line : List ℕ) → is_job_line line ≡ true → 0 < length line
some_job [] job = absurd (cc job)
some_job (first ∷ more) job = omega arith

pub behind_some : (lines : List (List ℕ)) (len : ℕ) → IsBehindJob lines len → 0 < len
behind_some lines len first =
    let begin = first.begin in
    omega (arith, first.long, one_line_more begin.comments begin.job (length (concat begin.comments)) refl, some_job begin.job begin.is_job)

-- what is left behind a job's line
pub others_left : (text : List ℕ) (own : ℕ) (first : IsBehindJob (lines_of text) own) → lines_of (take (length text - own) (drop own text)) ≡ first.begin.others
others_left text own first =
    let begin = first.begin in
    ap lines_of (take_rest text own) ∙ ap (λ (n : ℕ). lines_of (drop n text)) first.long
    ∙ lines_behind (begin.comments ++ begin.job ∷ []) begin.others text (begin.are_all ∙ sym (append_assoc begin.comments (begin.job ∷ []) begin.others))

-- a text that isn't empty has a line
pub some_lines : (text : List ℕ) → 0 < length text → lines_of text ≡ [] → ⊥
some_lines text some none = omega (arith, ap (λ (l : List (List ℕ)). length (concat l)) none, ap length (whole text))

-- what is cut off behind lines, and what is left
cut_text : (text : List ℕ) (above below : List (List ℕ)) (len : ℕ) → lines_of text ≡ above ++ below → len ≡ length (concat above) → take len text ≡ concat above
cut_text text above below len is long =
    ap (λ (n : ℕ). take n text) long ∙ ap (take (length (concat above))) (halves text above below is) ∙ take-append_seam (concat above) (concat below)

left_lines : (text : List ℕ) (above below : List (List ℕ)) (len : ℕ) → lines_of text ≡ above ++ below → len ≡ length (concat above) → lines_of (drop len text) ≡ below
left_lines text above below len is long = ap (λ (n : ℕ). lines_of (drop n text)) long ∙ lines_behind above below text is

pub next_cut_off : (lines texts : List (List ℕ)) (rest : List ℕ) → AreCutOff lines texts (lines_of rest) → (len : ℕ) → IsBlockLen (lines_of rest) len
    → AreCutOff lines (texts ++ take len rest ∷ []) (lines_of (drop len rest))
next_cut_off lines texts rest is len one =
    subst (λ (l : List (List ℕ)). AreCutOff lines (texts ++ take len rest ∷ []) l) (sym (left_lines rest one.block one.below len one.are_all one.long))
    (one_cut_off lines texts (lines_of rest) is len one (take len rest) (cut_text rest one.block one.below len one.are_all one.long))

pub below_begins : (text : List ℕ) (len : ℕ) → IsUpToJob (lines_of text) len → EndBefore [] (lines_of (drop len text))
below_begins text len up =
    subst (λ (l : List (List ℕ)). EndBefore [] l) (sym (left_lines text up.above up.below len up.are_all up.long))
    (⊎_elim (λ none. inl none) (λ some. inr (inl refl, some.1)) up.next)

-- ---- the blocks in another order

joined_as : (blocks : List (List (List ℕ))) (order : List ℕ)
    → flat_map (λ job. slice_index_or (map concat blocks) job []) order ≡ flat_map (λ job. concat (slice_index_or blocks job [])) order
joined_as blocks [] = refl
joined_as blocks (job ∷ order) = ap (λ (l : List ℕ). l ++ flat_map (λ job. slice_index_or (map concat blocks) job []) order) (get_or-map concat blocks job [])
    ∙ ap (λ (l : List ℕ). concat (slice_index_or blocks job []) ++ l) (joined_as blocks order)

module _ (text : List ℕ) (len : ℕ) (up : IsUpToJob (lines_of text) len) (texts : List (List ℕ)) (below : AreCutInto (lines_of (drop len text)) texts) where
  cut_below : AreCutInto up.below texts
  cut_below = subst (λ (l : List (List ℕ)). AreCutInto l texts) (left_lines text up.above up.below len up.are_all up.long) below

  many : length cut_below.blocks ≡ length texts
  many = sym (ap (λ (l : List (List ℕ)). length l) cut_below.bytes ∙ length-map cut_below.blocks concat)

  pub has_others : (jobs : ℕ) → (length texts ≡ jobs → ⊥) → HasOtherBlocks text jobs
  has_others jobs other = (up.above, cut_below.blocks, is_cut text len up texts cut_below, λ same. other (sym many ∙ same))

  pub moves : (order moved : List ℕ) → length texts ≡ length order → moved ≡ take len text ++ flat_map (λ job. slice_index_or texts job []) order
      → MovesBlocks text order moved
  moves order moved each is = record {
    head = up.above;
    blocks = cut_below.blocks;
    is_cut = is_cut text len up texts cut_below;
    one_each = many ∙ each;
    joined = is ∙ ap (λ (l : List ℕ). l ++ flat_map (λ job. slice_index_or texts job []) order) (cut_text text up.above up.below len up.are_all up.long)
        ∙ ap (λ (t : List (List ℕ)). concat up.above ++ flat_map (λ job. slice_index_or t job []) order) cut_below.bytes
        ∙ ap (λ (l : List ℕ). concat up.above ++ l) (joined_as cut_below.blocks order);
  }
