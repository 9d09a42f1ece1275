-- For readers: which sum of a journal is wrong.
use Rattle.std.specs.Prelude.{ℕ, ◌+◌, Bool, ◌&&◌, ◌||◌, not, nat_le, if◌then◌else◌, List, [], ◌∷◌, ◌++◌, length, take, codes, Option, None, Some}
use Rattle.std.specs.Str.{bytes_eq}
use Rattle.script_reader.specs.Script.{text_lines}
use Rattle.journal_texts.specs.Texts.{sum_line}

abbrev pub is_begin : List ℕ → Bool
is_begin line = bytes_eq line (codes "#steps")

-- a line that begins with `#sum `
abbrev pub is_sum : List ℕ → Bool
is_sum line = nat_le 5 (length line) && bytes_eq (take 5 line) (codes "#sum ")

-- the text since the last line `#steps` or sum, after one more line
abbrev pub text_after : List ℕ → List ℕ → List ℕ
text_after text line = if is_begin line || is_sum line then [] else text ++ line ++ codes "\n"

-- the line is a sum, and not that of the text
abbrev pub is_wrong : List ℕ → List ℕ → Bool
is_wrong text line = is_sum line && not (bytes_eq line (sum_line text))

-- the number of the first sum that is wrong, if one is, of lines from this number on
abbrev pub wrong_from : ℕ → List ℕ → List (List ℕ) → Option ℕ
wrong_from number text [] = None
wrong_from number text (line ∷ lines) = if is_wrong text line then Some number else wrong_from (number + 1) (text_after text line) lines

-- of those behind the first line that is just `steps`
abbrev pub wrong_behind : ℕ → List (List ℕ) → Option ℕ
wrong_behind number [] = None
wrong_behind number (line ∷ lines) = if bytes_eq line (codes "steps") then wrong_from (number + 1) [] lines else wrong_behind (number + 1) lines

-- of a text
abbrev pub wrong_sum : List ℕ → Option ℕ
wrong_sum text = wrong_behind 1 (text_lines text)
