-- For readers: the sessions that came while a lab was open, as its journal has them.
use Rattle.std.specs.Prelude.{ℕ, ◌+◌, Bool, ◌&&◌, nat_le, if◌then◌else◌, List, [], ◌∷◌, ◌++◌, length, take, drop, codes, Option, None, Some}
use Rattle.std.specs.Option.{option_map}
use Rattle.std.specs.Str.{bytes_eq}
use Rattle.script_reader.specs.Script.{text_lines}

-- an addition: the number of its first line, the name of the job there, and the lines of the session behind it, without their `#+`
pub record Addition : Type 0 where
  pub line : ℕ
  pub job : List ℕ
  pub session : List ℕ

-- ---- its lines

-- a line that begins with `#more `
abbrev pub is_more : List ℕ → Bool
is_more line = nat_le 6 (length line) && bytes_eq (take 6 line) (codes "#more ")

abbrev pub is_end : List ℕ → Bool
is_end line = bytes_eq line (codes "#+end")

-- a line that begins with `#+`
abbrev pub is_inner : List ℕ → Bool
is_inner line = nat_le 2 (length line) && bytes_eq (take 2 line) (codes "#+")

-- the lines up to the first `#+end`, if all before it begin with `#+`; where they break off before, there is no session
abbrev pub session_in : List (List ℕ) → Option (List ℕ)
session_in [] = None
session_in (line ∷ lines) =
    if is_end line then Some (codes "end\n")
    else (if is_inner line then option_map (λ text. drop 2 line ++ codes "\n" ++ text) (session_in lines) else None)

-- ---- all of them

abbrev pub addition_of : ℕ → List ℕ → Option (List ℕ) → List Addition
addition_of number job None = []
addition_of number job (Some session) = record { line = number; job = job; session = session } ∷ []

-- in lines from this number on: one from each line `#more NAME` whose session is whole
abbrev pub additions_from : ℕ → List (List ℕ) → List Addition
additions_from number [] = []
additions_from number (line ∷ lines) =
    (if is_more line then addition_of number (drop 6 line) (session_in lines) else []) ++ additions_from (number + 1) lines

-- in those behind the first line that is just `steps`
abbrev pub additions_behind : ℕ → List (List ℕ) → List Addition
additions_behind number [] = []
additions_behind number (line ∷ lines) =
    if bytes_eq line (codes "steps") then additions_from (number + 1) lines else additions_behind (number + 1) lines

-- in a text
abbrev pub additions : List ℕ → List Addition
additions text = additions_behind 1 (text_lines text)
