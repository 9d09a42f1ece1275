-- What is shown of names, and how jobs are told apart.
use Rattle.std.specs.Prelude.{ℕ, ◌%◌, ◌/◌, ◌==◌, List, [], ◌++◌, codes, if◌then◌else◌}
use Rattle.lab_plan.specs.Names.{is_name}

-- a name has letters, digits and '-' alone, so it needs no escapes; what is no name is not shown
abbrev pub name_text : List ℕ → List ℕ
name_text name = if is_name name then name else codes "?"

-- eight colours that colour-blind people can tell apart
unfoldable pub colour : ℕ → List ℕ
colour n =
    if n == 0 then codes "#e69f00" else (if n == 1 then codes "#56b4e9" else (if n == 2 then codes "#009e73" else (if n == 3 then codes "#f0e442"
    else (if n == 4 then codes "#0072b2" else (if n == 5 then codes "#d55e00" else (if n == 6 then codes "#cc79a7" else codes "#999999"))))))

-- the edges of each eight jobs have a look of their own
unfoldable pub dashes : ℕ → List ℕ
dashes n =
    if n == 0 then [] else (if n == 1 then codes " stroke-dasharray=\"7 3\"" else
    (if n == 2 then codes " stroke-dasharray=\"2 2\"" else codes " stroke-dasharray=\"10 3 2 3\""))

-- the look of the job with this number
abbrev pub look : ℕ → List ℕ
look job = codes "\" fill=\"" ++ colour (job % 8) ++ codes "\" fill-opacity=\"0.5\" stroke=\"#222\"" ++ dashes (job / 8) ++ codes "/>"
