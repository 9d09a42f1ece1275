-- The head of the picture, the head of a row, the line of a job in the table below, and the end.
use Rattle.std.specs.Prelude.{ℕ, Bool, ◌+◌, ◌*◌, max, List, [], ◌++◌, codes, decimal, Option, None, Some, if◌then◌else◌}
use Rattle.report_reader.specs.Line.{JobText, state_word, last_word}
use Rattle.picture.specs.Looks.{name_text, look}
use Rattle.picture.specs.Columns.{has_room, left_of}

-- how wide and how high a picture is
abbrev pub width : ℕ → ℕ
width columns = max 700 (180 + left_of columns columns)

abbrev pub height : ℕ → ℕ → ℕ
height instruments jobs = 130 + 70 * instruments + 20 * jobs

-- a size if one is asked for
abbrev pub size_text : ℕ → ℕ → List ℕ
size_text w h =
    codes "<?xml version=\"1.0\" encoding=\"UTF-8\"?>\n<svg xmlns=\"http://www.w3.org/2000/svg\" version=\"1.1\" width=\"" ++ decimal w
    ++ codes "\" height=\"" ++ decimal h ++ codes "\" viewBox=\"0 0 " ++ decimal w ++ codes " " ++ decimal h
    ++ codes "\" font-family=\"monospace\" font-size=\"10\">\n"

-- what is read aloud
abbrev pub words_text : ℕ → ℕ → ℕ → List ℕ
words_text instruments jobs columns =
    codes "<title>Timeline of a laboratory run</title>\n<desc>Instruments, a row each: " ++ decimal instruments
    ++ codes ". Jobs, a line each in the table below: "
    ++ decimal jobs ++ codes ". Columns: " ++ decimal columns
    ++ codes ". A box is a session on an instrument, and a tick is a command; a session has the same columns on each of its instruments.</desc>\n"

unfoldable pub head_text : ℕ → ℕ → ℕ → List ℕ
head_text instruments jobs columns =
    size_text (width columns) (height instruments jobs) ++ words_text instruments jobs columns ++ codes "<rect width=\"100%\" height=\"100%\" fill=\"#fff\"/>\n"

-- edges of narrow boxes are thin
abbrev pub thin : ℕ → List ℕ
thin columns = if has_room columns then [] else codes " stroke-width=\"0.4\""

-- the head of an instrument's row
abbrev pub row_text : ℕ → List ℕ → ℕ → List ℕ
row_text number name columns =
    codes "<g transform=\"translate(160 " ++ decimal (30 + 70 * number) ++ codes ")\"" ++ thin columns
    ++ codes "><path d=\"M-150 66H" ++ decimal (left_of columns columns)
    ++ codes "\" stroke=\"#ccc\"/><text x=\"-150\" y=\"38\" font-size=\"13\">" ++ name_text name ++ codes "</text>\n"

-- how many sessions were withdrawn
abbrev pub withdrawn_text : Option ℕ → List ℕ
withdrawn_text None = []
withdrawn_text (Some withdrawn) = codes "<text x=\"340\" y=\"10\">withdrawn " ++ decimal withdrawn ++ codes "</text>"

-- a job by its look, and what it did
abbrev pub legend : ℕ → ℕ → JobText → List ℕ
legend instruments number job =
    codes "<g transform=\"translate(10 " ++ decimal (50 + 70 * instruments + 20 * number) ++ codes ")\"><path d=\"M0 0h24v12H0z" ++ look number
    ++ codes "<text x=\"34\" y=\"10\">" ++ name_text job.name ++ codes "</text>"

abbrev pub sessions_text : JobText → List ℕ
sessions_text job = codes "<text x=\"150\" y=\"10\">sessions " ++ decimal job.done ++ codes " of " ++ decimal job.sessions ++ codes "</text>"

abbrev pub meals_text : JobText → List ℕ
meals_text job = codes "<text x=\"460\" y=\"10\">meals " ++ decimal job.meals ++ codes "</text><text x=\"590\" y=\"10\">" ++ state_word job.is_retired
    ++ codes "</text></g>\n"

unfoldable pub job_line : ℕ → ℕ → JobText → List ℕ
job_line instruments number job = legend instruments number job ++ sessions_text job ++ withdrawn_text job.withdrawn ++ meals_text job

-- the last line, what is drawn in everyday words, and the end
abbrev pub end_text : ℕ → ℕ → Bool → List ℕ
end_text instruments jobs is_finished =
    codes "<text x=\"10\" y=\"" ++ decimal (80 + 70 * instruments + 20 * jobs) ++ codes "\" font-size=\"13\">" ++ last_word is_finished
    ++ codes "</text>\n<text x=\"10\" y=\"" ++ decimal (100 + 70 * instruments + 20 * jobs)
    ++ codes "\" fill=\"#555\">box: a session holds the instrument; tick: a command; withdrawn: it waited and gave up; meals: it had right of way</text>\n</svg>\n"
