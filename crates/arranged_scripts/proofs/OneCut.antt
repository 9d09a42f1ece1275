-- A text is cut into blocks in one way.
use Rattle.std.proofs.Common.{◌≡◌, inl, inr, ℕ, true, false, List, [], ◌∷◌, ◌++◌, refl, sym, ap, ◌∙◌, subst, append_assoc, append-nil}
use Rattle.std.specs.List.{flat_map}
use Rattle.std.proofs.lemmas.Bool.{both_ways}
use Rattle.std.proofs.lemmas.List.Elements.{All-append, All-head, All-tail}
use Rattle.arranged_scripts.specs.Blocks.{is_comment, is_job_line, AreComments, HaveNoJob, EndPlain, BeginWithJob, AreBlocks, HasOneCut}
use Rattle.arranged_scripts.proofs.Cut.{comments_have_no_job}

-- ---- the first job's line

-- lines that are read up to the first job's line are read in one way
record SameFirst (above other : List (List ℕ)) (job last : List ℕ) (below rest : List (List ℕ)) : Type 0 where
  tops : above ≡ other
  jobs : job ≡ last
  others : below ≡ rest

one_first : (above other : List (List ℕ)) (job last : List ℕ) (below rest : List (List ℕ)) → HaveNoJob above → HaveNoJob other → is_job_line job ≡ true
    → is_job_line last ≡ true → above ++ job ∷ below ≡ other ++ last ∷ rest → SameFirst above other job last below rest
one_first [] [] job last below rest free none is also same = record {
  tops = refl;
  jobs = cc;
  others = cc;
}
one_first [] (line ∷ other) job last below rest free none is also same =
    let first : job ≡ line = cc in
    absurd (both_ways (is_job_line line) (All-head (λ line. is_job_line line ≡ false) line other none) (ap is_job_line (sym first) ∙ is))
one_first (line ∷ above) [] job last below rest free none is also same =
    let first : line ≡ last = cc in
    absurd (both_ways (is_job_line line) (All-head (λ line. is_job_line line ≡ false) line above free) (ap is_job_line first ∙ also))
one_first (line ∷ above) (next ∷ other) job last below rest free none is also same =
    let first : line ≡ next = cc in
    let more : above ++ job ∷ below ≡ other ++ last ∷ rest = cc in
    let found = one_first above other job last below rest (All-tail (λ line. is_job_line line ≡ false) line above free)
    (All-tail (λ line. is_job_line line ≡ false) next other none) is also more in record {
      tops = ap (λ (l : List ℕ). l ∷ above) first ∙ ap (λ (l : List (List ℕ)). next ∷ l) found.tops;
      jobs = found.jobs;
      others = found.others;
    }

-- lines among which there is no job's line aren't those with one
no_first : (above other : List (List ℕ)) (job : List ℕ) (below : List (List ℕ)) → HaveNoJob above → is_job_line job ≡ true → above ≡ other ++ job ∷ below → ⊥
no_first [] [] job below none is same = cc
no_first [] (line ∷ other) job below none is same = cc
no_first (line ∷ above) [] job below none is same =
    let first : line ≡ job = cc in
    both_ways (is_job_line line) (All-head (λ line. is_job_line line ≡ false) line above none) (ap is_job_line first ∙ is)
no_first (line ∷ above) (next ∷ other) job below none is same =
    let more : above ≡ other ++ job ∷ below = cc in
    no_first above other job below (All-tail (λ line. is_job_line line ≡ false) line above none) is more

-- ---- the comments directly above it

-- what is left of lines that end plain
tail_ends : (line : List ℕ) (lines above : List (List ℕ)) (last : List ℕ) → line ∷ lines ≡ above ++ last ∷ [] → is_comment last ≡ false → EndPlain lines
tail_ends line lines [] last same plain = inl cc
tail_ends line lines (first ∷ above) last same plain = inr (above, last, cc, plain)

ends_on : (line : List ℕ) (lines : List (List ℕ)) → EndPlain (line ∷ lines) → EndPlain lines
ends_on line lines (inl none) = absurd (cc none)
ends_on line lines (inr (above, last, same, plain)) = tail_ends line lines above last same plain

ends_behind : (above lines : List (List ℕ)) → EndPlain (above ++ lines) → EndPlain lines
ends_behind [] lines ends = ends
ends_behind (line ∷ above) lines ends = ends_behind above lines (ends_on line (above ++ lines) ends)

-- comments don't begin with lines that end plain
no_plain : (comments : List (List ℕ)) (line : List ℕ) (above more : List (List ℕ)) → AreComments comments → EndPlain (line ∷ above)
    → comments ≡ (line ∷ above) ++ more → ⊥
no_plain comments line above more are (inl none) same = cc none
no_plain comments line above more are (inr (front, last, ends, plain)) same =
    at_last comments front are (same ∙ ap (λ (l : List (List ℕ)). l ++ more) ends ∙ append_assoc front (last ∷ []) more)
  where
    at_last : (comments front : List (List ℕ)) → AreComments comments → comments ≡ front ++ last ∷ more → ⊥
    at_last [] [] are is = cc
    at_last [] (first ∷ front) are is = cc
    at_last (comment ∷ comments) [] are is =
        let first : comment ≡ last = cc in
        both_ways (is_comment last) plain (ap is_comment (sym first) ∙ All-head (λ line. is_comment line ≡ true) comment comments are)
    at_last (comment ∷ comments) (first ∷ front) are is =
        let rest : comments ≡ front ++ last ∷ more = cc in
        at_last comments front (All-tail (λ line. is_comment line ≡ true) comment comments are) rest

-- lines that end plain, with comments below them, are cut there in one way
one_top : (above other comments remarks : List (List ℕ)) → EndPlain above → EndPlain other → AreComments comments → AreComments remarks
    → above ++ comments ≡ other ++ remarks → (above ≡ other) × (comments ≡ remarks)
one_top [] [] comments remarks ends plain are also same = (refl, same)
one_top [] (line ∷ other) comments remarks ends plain are also same = absurd (no_plain comments line other remarks are plain same)
one_top (line ∷ above) [] comments remarks ends plain are also same = absurd (no_plain remarks line above comments also ends (sym same))
one_top (line ∷ above) (next ∷ other) comments remarks ends plain are also same =
    let first : line ≡ next = cc in
    let more : above ++ comments ≡ other ++ remarks = cc in
    let found = one_top above other comments remarks (ends_on line above ends) (ends_on next other plain) are also more in
    (ap (λ (l : List ℕ). l ∷ above) first ∙ ap (λ (l : List (List ℕ)). next ∷ l) found.0, found.1)

-- ---- all blocks

-- what stands above blocks, and in front of the first of them
above_block : (above block : List (List ℕ)) (blocks : List (List (List ℕ))) (begin : BeginWithJob block)
    → above ++ flat_map (λ block. block) (block ∷ blocks) ≡ (above ++ begin.comments) ++ begin.job ∷ (begin.others ++ flat_map (λ block. block) blocks)
above_block above block blocks begin =
    ap (λ (l : List (List ℕ)). above ++ (l ++ flat_map (λ block. block) blocks)) begin.are_all
    ∙ ap (λ (l : List (List ℕ)). above ++ l) (append_assoc begin.comments (begin.job ∷ begin.others) (flat_map (λ block. block) blocks))
    ∙ sym (append_assoc above begin.comments (begin.job ∷ (begin.others ++ flat_map (λ block. block) blocks)))

none_above : (above comments : List (List ℕ)) → HaveNoJob above → AreComments comments → HaveNoJob (above ++ comments)
none_above above comments none are = All-append (λ line. is_job_line line ≡ false) above comments none (comments_have_no_job comments are)

-- the blocks stand as well below the last lines of what is above them
below_others : (front others : List (List ℕ)) (blocks : List (List (List ℕ))) → AreBlocks (front ++ others) blocks → AreBlocks others blocks
below_others front others [] are = tt
below_others front others (block ∷ blocks) are = (ends_behind front others are.0, are.1, are.2)

below_job : (block : List (List ℕ)) (begin : BeginWithJob block) (blocks : List (List (List ℕ))) → AreBlocks block blocks → AreBlocks begin.others blocks
below_job block begin blocks are =
    let all : block ≡ (begin.comments ++ begin.job ∷ []) ++ begin.others = begin.are_all ∙ sym (append_assoc begin.comments (begin.job ∷ []) begin.others) in
    below_others (begin.comments ++ begin.job ∷ []) begin.others blocks (subst (λ (l : List (List ℕ)). AreBlocks l blocks) all are)

one_way : (blocks rest : List (List (List ℕ))) (above other : List (List ℕ)) → HaveNoJob above → HaveNoJob other → AreBlocks above blocks → AreBlocks other rest
    → above ++ flat_map (λ block. block) blocks ≡ other ++ flat_map (λ block. block) rest → (above ≡ other) × (blocks ≡ rest)
one_way [] [] above other free none are also same = (sym (append-nil above) ∙ same ∙ append-nil other, refl)
one_way [] (block ∷ rest) above other free none are also same =
    let begin = also.1.0 in
    absurd (no_first above (other ++ begin.comments) begin.job (begin.others ++ flat_map (λ block. block) rest) free begin.is_job
    (sym (append-nil above) ∙ same ∙ above_block other block rest begin))
one_way (block ∷ blocks) [] above other free none are also same =
    let begin = are.1.0 in
    absurd (no_first other (above ++ begin.comments) begin.job (begin.others ++ flat_map (λ block. block) blocks) none begin.is_job
    (sym (append-nil other) ∙ sym same ∙ above_block above block blocks begin))
one_way (block ∷ blocks) (next ∷ rest) above other free none are also same =
    let begin = are.1.0 in
    let start = also.1.0 in
    let first = one_first (above ++ begin.comments) (other ++ start.comments) begin.job start.job (begin.others ++ flat_map (λ block. block) blocks)
    (start.others ++ flat_map (λ block. block) rest) (none_above above begin.comments free begin.are_comments)
    (none_above other start.comments none start.are_comments) begin.is_job start.is_job
    (sym (above_block above block blocks begin) ∙ same ∙ above_block other next rest start) in
    let top = one_top above other begin.comments start.comments are.0 also.0 begin.are_comments start.are_comments first.tops in
    let more = one_way blocks rest begin.others start.others are.1.1 also.1.1 (below_job block begin blocks are.2) (below_job next start rest also.2) first.others in
    let all : block ≡ next = begin.are_all ∙ ap (λ (l : List (List ℕ)). l ++ begin.job ∷ begin.others) top.1
    ∙ ap (λ (l : List ℕ). start.comments ++ l ∷ begin.others) first.jobs ∙ ap (λ (l : List (List ℕ)). start.comments ++ start.job ∷ l) more.0
    ∙ sym start.are_all in
    (top.0, ap (λ (l : List (List ℕ)). l ∷ blocks) all ∙ ap (λ (l : List (List (List ℕ))). next ∷ l) more.1)

pub one_cut : HasOneCut
one_cut text head other blocks rest is also = one_way blocks rest head other is.no_job also.no_job is.are_blocks also.are_blocks (sym is.are_all ∙ also.are_all)
