-- For readers: the table of a report's logs, as comma-separated values.
use Rattle.std.specs.Prelude.{ℕ, ◌+◌, List, [], ◌++◌, length, codes, decimal, slice_index_or, if◌then◌else◌}
use Rattle.std.specs.List.{flat_map, range_with_len}
use Rattle.lab_plan.specs.declared.verb.Verb.{Verb}
use Rattle.lab_plan.specs.declared.verb.Verb.TheVariants.{Set, Add, Read}
use Rattle.lab_plan.specs.Names.{is_name}
use Rattle.report_reader.specs.Line.{EntryText}
use Rattle.report_reader.specs.Report.{LogText, ReportText}

-- a name has letters, digits and '-' alone, so no field needs quotes; what is no name is not shown
abbrev pub name_field : List ℕ → List ℕ
name_field name = if is_name name then name else codes "?"

-- one more field, a number
abbrev pub number_field : ℕ → List ℕ
number_field n = codes "," ++ decimal n

-- the verb and its number, of which a reading has none
abbrev pub verb_fields : Verb → List ℕ
verb_fields (Set n) = codes ",set" ++ number_field n
verb_fields (Add n) = codes ",add" ++ number_field n
verb_fields Read = codes ",read,"

-- the instrument, the entry's place in its log, counted from 1, and the job
unfoldable pub place_fields : List ℕ → ℕ → EntryText → List ℕ
place_fields instrument number e = name_field instrument ++ number_field number ++ codes "," ++ name_field e.job

-- the job's session, and the place in the session's part, of this many
unfoldable pub session_fields : EntryText → List ℕ
session_fields e = number_field e.session ++ number_field e.place ++ number_field e.length

-- the line of an entry
unfoldable pub entry_line : List ℕ → ℕ → EntryText → List ℕ
entry_line instrument number e = place_fields instrument number e ++ session_fields e ++ verb_fields e.verb ++ number_field e.value ++ codes "\n"

-- what is read at a number that is none of a list's
abbrev pub no_entry : EntryText
no_entry = record { job = []; session = 0; place = 0; length = 0; verb = Read; value = 0 }

-- the lines of a log
unfoldable pub log_lines : LogText → List ℕ
log_lines log = flat_map (λ k. entry_line log.name (k + 1) (slice_index_or log.entries k no_entry)) (range_with_len 0 (length log.entries))

abbrev pub head_line : List ℕ
head_line = codes "instrument,entry,job,session,place,length,verb,number,value\n"

-- the table: its head, and a line for each entry of each log
unfoldable pub table_text : ReportText → List ℕ
table_text report = head_line ++ flat_map log_lines report.logs
