-- For readers: the picture over time of a run by rounds: a scale, and a row for each job.
use Rattle.std.specs.Prelude.{ℕ, ◌+◌, ◌*◌, nat_le, max, List, [], ◌++◌, codes, decimal, length, if◌then◌else◌}
use Rattle.std.specs.List.{flat_map, range_with_len}
use Rattle.lab_plan.specs.LabPlan.{LabPlan}
use Rattle.lab_plan.specs.Texts.{job_name}
use Rattle.waiting.specs.Text.{rounds_line, jobs}
use Rattle.waiting.specs.Waits.{RunView, job_of}
use Rattle.blocking.specs.Keepers.{KeptView}
use Rattle.round_picture.specs.Scale.{place, step_of}
use Rattle.round_picture.specs.Sessions.{sessions_text}
use Rattle.round_picture.specs.Meals.{meal_text}

-- ---- the head

abbrev pub full_width : ℕ → ℕ
full_width last = max (180 + place last last) 720

abbrev pub full_height : ℕ → ℕ
full_height jobs = 100 + 40 * jobs

-- a size if one is asked for
unfoldable pub size_text : ℕ → ℕ → List ℕ
size_text w h =
    codes "<?xml version=\"1.0\" encoding=\"UTF-8\"?>\n<svg xmlns=\"http://www.w3.org/2000/svg\" version=\"1.1\" width=\"" ++ decimal w
    ++ codes "\" height=\"" ++ decimal h ++ codes "\" viewBox=\"0 0 " ++ decimal w ++ codes " " ++ decimal h
    ++ codes "\" font-family=\"monospace\" font-size=\"10\">\n"

-- the legend: what each shape stands for, and in everyday words
unfoldable pub legend : List ℕ
legend =
    codes "<title>A run by rounds</title>\n<rect width=\"100%\" height=\"100%\" fill=\"#fff\"/>\n<g transform=\"translate(10 10)\">"
    ++ codes "<rect width=\"30\" height=\"16\" fill=\"#fff4d9\" stroke=\"#c77f00\" stroke-dasharray=\"3 2\"/><text x=\"36\" y=\"12\">thirsty</text>"
    ++ codes "<rect x=\"100\" width=\"30\" height=\"16\" fill=\"#56b4e9\" stroke=\"#222\"/><text x=\"136\" y=\"12\">session S holds its instruments</text><text x=\"103\" y=\"12\">S</text>"
    ++ codes "<path d=\"M350 8m-5-5l10 10m0-10l-10 10\" fill=\"none\" stroke=\"#d00000\" stroke-width=\"2\"/><text x=\"362\" y=\"12\">given up</text>"
    ++ codes "<path d=\"M440 8h30\" stroke=\"#777\" stroke-width=\"2\" stroke-dasharray=\"2 3\"/><text x=\"476\" y=\"12\">hungry</text>"
    ++ codes "<path d=\"M540 8h30\" stroke=\"#222\" stroke-width=\"5\"/><text x=\"576\" y=\"12\">eats</text></g>\n"
    ++ codes "<text x=\"10\" y=\"36\" fill=\"#555\">thirsty: waits for its instruments; hungry: waits for its forks, which settle who gives way; eats: has all of them</text>\n<text x=\"10\" y=\"84\" fill=\"#555\">round</text>\n"

-- lines are thin if rounds are narrow
abbrev pub thin : ℕ → List ℕ
thin last = if nat_le last 300 then [] else codes " stroke-width=\"0.4\""

-- how many rounds were done, and whether all jobs are retired then
unfoldable pub head_text : ℕ → RunView → List ℕ
head_text jobs run =
    size_text (full_width run.number) (full_height jobs) ++ legend ++ codes "<text x=\"10\" y=\"50\" font-size=\"13\">" ++ rounds_line run
    ++ codes "</text>\n<g transform=\"translate(150 90)\"" ++ thin run.number ++ codes ">\n"

-- ---- the scale

-- a number of the scale, and a line down the picture
unfoldable pub tick : ℕ → ℕ → ℕ → List ℕ
tick x bottom k =
    codes "<path d=\"M" ++ decimal x ++ codes " 0V" ++ decimal bottom ++ codes "\" stroke=\"#ddd\"/><text x=\"" ++ decimal x
    ++ codes "\" y=\"-6\" text-anchor=\"middle\" fill=\"#555\">" ++ decimal k ++ codes "</text>\n"

-- if the run has this round
unfoldable pub tick_text : ℕ → ℕ → ℕ → ℕ → List ℕ
tick_text last bottom step n = if nat_le (step * n) last then tick (place last (step * n)) bottom (step * n) else []

abbrev pub scale_text : ℕ → ℕ → ℕ → List ℕ
scale_text last bottom step = flat_map (tick_text last bottom step) (range_with_len 0 21)

-- ---- rows

-- the head of a job's row
unfoldable pub row_head : ℕ → List ℕ → ℕ → List ℕ
row_head last name top =
    codes "<g transform=\"translate(0 " ++ decimal top ++ codes ")\"><path d=\"M-140 38H" ++ decimal (place last last)
    ++ codes "\" stroke=\"#bbb\"/><text x=\"-140\" y=\"18\" font-size=\"12\">" ++ name ++ codes "</text>\n"

unfoldable pub row_text : LabPlan → KeptView → ℕ → List ℕ
row_text plan x j =
    row_head x.run.number (job_name plan j) (40 * j) ++ sessions_text plan x j 1 (job_of x.run j).sessions
    ++ flat_map (meal_text x.run.number) (job_of x.run j).meals ++ codes "</g>\n"

-- ---- the whole

unfoldable pub gantt_of : LabPlan → KeptView → List ℕ
gantt_of plan x =
    head_text (length plan.jobs) x.run ++ scale_text x.run.number (40 * length plan.jobs) (step_of x.run.number) ++ flat_map (row_text plan x) (jobs plan)
    ++ codes "</g>\n</svg>\n"
