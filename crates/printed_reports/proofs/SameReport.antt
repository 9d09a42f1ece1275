-- No other report has the lines of a report.
use Rattle.std.proofs.Common.{◌≡◌, ℕ, Bool, false, List, [], ◌∷◌, ◌++◌, length, map, refl, sym, ap, ◌∙◌, arith, append_assoc}
use Rattle.std.specs.List.{flat_map}
use Rattle.report_reader.specs.Line.{Line, Header, Instrument, Entry, Job, Last, EntryText, JobText}
use Rattle.report_reader.specs.Report.{LogText, ReportText, log_lines, lines_of}
use Rattle.printed_reports.proofs.SameLine.{kind, heads}

-- ---- what a line holds, where it is of this kind

abbrev version_in : Line → ℕ
version_in (Header version) = version
version_in _ = 0

abbrev name_in : Line → List ℕ
name_in (Instrument name entries) = name
name_in _ = []

abbrev count_in : Line → ℕ
count_in (Instrument name entries) = entries
count_in _ = 0

abbrev entry_in : EntryText → Line → EntryText
entry_in d (Entry e) = e
entry_in d _ = d

abbrev job_in : JobText → Line → JobText
job_in d (Job j) = j
job_in d _ = d

abbrev last_in : Line → Bool
last_in (Last is_finished) = is_finished
last_in _ = false

-- ---- the jobs and the last line

abbrev job_lines : List JobText → Bool → List Line
job_lines jobs is_finished = map (λ job. Job job) jobs ++ Last is_finished ∷ []

same_jobs : (js ks : List JobText) (f g : Bool) → job_lines js f ≡ job_lines ks g → (js ≡ ks) × (f ≡ g)
same_jobs [] [] f g same = (refl, ap last_in (heads (Last f) (Last g) [] [] same).0)
same_jobs [] (k ∷ ks) f g same = absurd (omega (arith, ap kind (heads (Last f) (Job k) [] (job_lines ks g) same).0))
same_jobs (j ∷ js) [] f g same = absurd (omega (arith, ap kind (heads (Job j) (Last g) (job_lines js f) [] same).0))
same_jobs (j ∷ js) (k ∷ ks) f g same =
    let h = heads (Job j) (Job k) (job_lines js f) (job_lines ks g) same in
    let more = same_jobs js ks f g h.1 in
    ((λ i. job_in j (h.0 i) ∷ more.0 i), more.1)

-- ---- the logs

abbrev entry_lines : List EntryText → List Line
entry_lines entries = map (λ entry. Entry entry) entries

-- as many entries, and the same behind them
same_entries : (ds es : List EntryText) (xs ys : List Line) → length ds ≡ length es
    → entry_lines ds ++ xs ≡ entry_lines es ++ ys → (ds ≡ es) × (xs ≡ ys)
same_entries [] [] xs ys size same = (refl, same)
same_entries [] (e ∷ es) xs ys size same = absurd (omega (arith, size))
same_entries (d ∷ ds) [] xs ys size same = absurd (omega (arith, size))
same_entries (d ∷ ds) (e ∷ es) xs ys size same =
    let h = heads (Entry d) (Entry e) (entry_lines ds ++ xs) (entry_lines es ++ ys) same in
    let more = same_entries ds es xs ys (omega (arith, size)) h.1 in
    ((λ i. entry_in d (h.0 i) ∷ more.0 i), more.1)

abbrev body : List LogText → List JobText → Bool → List Line
body logs jobs is_finished = flat_map log_lines logs ++ job_lines jobs is_finished

-- the first log, and what is behind it
first_log : (log : LogText) (logs : List LogText) (jobs : List JobText) (is_finished : Bool) → body (log ∷ logs) jobs is_finished
    ≡ Instrument log.name (length log.entries) ∷ (entry_lines log.entries ++ body logs jobs is_finished)
first_log log logs jobs is_finished =
    ap (λ l. Instrument log.name (length log.entries) ∷ l)
    (append_assoc (entry_lines log.entries) (flat_map log_lines logs) (job_lines jobs is_finished))

no_log : (log : LogText) (logs : List LogText) (js ks : List JobText) (f g : Bool) → job_lines js f ≡ body (log ∷ logs) ks g → ⊥
no_log log logs [] ks f g same =
    let h = heads _ _ _ _ (same ∙ first_log log logs ks g) in omega (arith, ap kind h.0)
no_log log logs (j ∷ js) ks f g same =
    let h = heads _ _ _ _ (same ∙ first_log log logs ks g) in omega (arith, ap kind h.0)

same_body : (ls ms : List LogText) (js ks : List JobText) (f g : Bool) → body ls js f ≡ body ms ks g → (ls ≡ ms) × (js ≡ ks) × (f ≡ g)
same_body [] [] js ks f g same = let h = same_jobs js ks f g same in (refl, h.0, h.1)
same_body [] (m ∷ ms) js ks f g same = absurd (no_log m ms js ks f g same)
same_body (l ∷ ls) [] js ks f g same = absurd (no_log l ls ks js g f (sym same))
same_body (l ∷ ls) (m ∷ ms) js ks f g same =
    let h = heads (Instrument l.name (length l.entries)) (Instrument m.name (length m.entries))
    (entry_lines l.entries ++ body ls js f) (entry_lines m.entries ++ body ms ks g)
    (sym (first_log l ls js f) ∙ same ∙ first_log m ms ks g) in
    let name : l.name ≡ m.name = ap name_in h.0 in
    let own = same_entries l.entries m.entries (body ls js f) (body ms ks g) (ap count_in h.0) h.1 in
    let more = same_body ls ms js ks f g own.1 in
    ((λ i. record { name = name i; entries = own.0 i } ∷ more.0 i), more.1, more.2)

pub same_report : (a b : ReportText) → lines_of a ≡ lines_of b → a ≡ b
same_report a b same =
    let h = heads (Header a.version) (Header b.version) (body a.logs a.jobs a.is_finished) (body b.logs b.jobs b.is_finished) same in
    let version : a.version ≡ b.version = ap version_in h.0 in
    let rest = same_body a.logs b.logs a.jobs b.jobs a.is_finished b.is_finished h.1 in
    λ i. record { version = version i; logs = rest.0 i; jobs = rest.1 i; is_finished = rest.2 i }
