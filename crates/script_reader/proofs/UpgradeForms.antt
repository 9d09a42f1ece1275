-- The form of each line of an upgraded script.
use Rattle.std.proofs.Common.{◌≡◌, ℕ, ◌<◌, ◌≤◌, Bool, true, false, if◌then◌else◌, not, ◌&&◌, ◌||◌, List, [], ◌∷◌, ◌++◌, length, refl, ap, ◌∙◌, arith}
use Rattle.std.specs.Prelude.{None, Some, nat_le, ◌==◌, codes, decimal, slice_index}
use Rattle.std.specs.List.{list_all}
use Rattle.std.specs.Str.{bytes_eq}
use Rattle.std.proofs.lemmas.Bool.{and_parts, not-true}
use Rattle.std.proofs.lemmas.Bool.Decides.{nat_tests}
use Rattle.std.proofs.lemmas.List.Folds.{list_all-append}
use Rattle.lab_plan.specs.Names.{is_name, is_letter, is_digit, is_name_byte, is_reserved}
use Rattle.script_reader.specs.declared.form.Version.TheVariants.{Two}
use Rattle.script_reader.specs.Fields.{fields}
use Rattle.script_reader.specs.Line.{Header, Job, Session, PatientSession, Command, End, Steps, Unknown, Sets, Adds, Reads, line_with, line_in, form_of, lab_line, job_line, session_line, command_line, alone}
use Rattle.script_reader.proofs.UpgradeNumber.{all_digits, some_digit}
use Rattle.script_reader.proofs.UpgradeText.{is_shown, is_dark, dark_shown, fields_one, fields_more}

-- ---- names and numbers

-- what a name is
pub record NameParts (name : List ℕ) : Type 0 where
  pub some : 0 < length name
  pub few : length name ≤ 16
  pub dark : list_all is_dark name ≡ true
  pub first : (slice_index name 0 == 35) ≡ false
  pub free : is_reserved name ≡ false

darker : (p : ℕ → Bool) → ((b : ℕ) → p b ≡ true → is_dark b ≡ true) → (bytes : List ℕ) → list_all p bytes ≡ true → list_all is_dark bytes ≡ true
darker p more [] all = refl
darker p more (b ∷ bytes) all = let parts = and_parts (p b) (list_all p bytes) all in λ i. more b parts.0 i && darker p more bytes parts.1 i

dark_name_byte : (b : ℕ) → is_name_byte b ≡ true → is_dark b ≡ true
dark_name_byte b h = grind (arith, nat_tests, h)

dark_digit : (b : ℕ) → is_digit b ≡ true → is_dark b ≡ true
dark_digit b h = grind (arith, nat_tests, h)

pub name_parts : (name : List ℕ) → is_name name ≡ true → NameParts name
name_parts name h =
    let some = nat_le 1 (length name) in
    let few = nat_le (length name) 16 in
    let letter = is_letter (slice_index name 0) in
    let bytes = list_all is_name_byte name in
    let fourth = and_parts (some && few && letter && bytes) (not (is_reserved name)) h in
    let third = and_parts (some && few && letter) bytes fourth.0 in
    let second = and_parts (some && few) letter third.0 in
    let first = and_parts some few second.0 in
    record {
      some = above (length name) first.0;
      few = within (length name) first.1;
      dark = darker is_name_byte dark_name_byte name third.1;
      first = no_hash (slice_index name 0) second.1;
      free = not-true _ fourth.1;
    }
  where
    above : (n : ℕ) → nat_le 1 n ≡ true → 0 < n
    above n h = grind (arith, nat_tests, h)

    within : (n : ℕ) → nat_le n 16 ≡ true → n ≤ 16
    within n h = grind (arith, nat_tests, h)

    no_hash : (b : ℕ) → is_letter b ≡ true → (b == 35) ≡ false
    no_hash b h = grind (arith, nat_tests, h)

dark_decimal : (n : ℕ) → n ≤ 999999 → list_all is_dark (decimal n) ≡ true
dark_decimal n small = darker is_digit dark_digit (decimal n) (all_digits n small)

-- ---- lines that begin with a word

pub header_form : form_of (codes "lab 2") ≡ Some (Header Two)
unfolding line_with
header_form = ap line_in (fields_more (codes "lab") (codes "2") refl (omega arith) ∙ ap (λ l. codes "lab" ∷ l) (fields_one (codes "2") refl (omega arith)))

pub job_form : (name : List ℕ) → NameParts name → form_of (codes "job " ++ name) ≡ Some (Job name)
unfolding line_with
job_form name h = ap line_in (fields_more (codes "job") name refl (omega arith) ∙ ap (λ l. codes "job" ∷ l) (fields_one name h.dark h.some))

pub session_form : form_of (codes "session") ≡ Some Session
unfolding line_with
session_form = ap line_in (fields_one (codes "session") refl (omega arith))

pub patience_form : (n : ℕ) → n ≤ 999999 → form_of (codes "session patience " ++ decimal n) ≡ Some (PatientSession (decimal n))
unfolding line_with
patience_form n small =
    ap line_in (fields_more (codes "session") (codes "patience " ++ decimal n) refl (omega arith)
    ∙ ap (λ l. codes "session" ∷ l) (fields_more (codes "patience") (decimal n) refl (omega arith)
    ∙ ap (λ l. codes "patience" ∷ l) (fields_one (decimal n) (dark_decimal n small) (some_digit n small))))

pub end_form : form_of (codes "end") ≡ Some End
unfolding line_with
end_form = ap line_in (fields_one (codes "end") refl (omega arith))

-- ---- lines that begin with a name

or_parts : (a b : Bool) → (a || b) ≡ false → (a ≡ false) × (b ≡ false)
or_parts true b h = absurd (cc)
or_parts false b h = (refl, h)

by_name : (name : List ℕ) (others : List (List ℕ)) → is_reserved name ≡ false → line_with name others ≡ command_line name others
unfolding line_with is_reserved
by_name name others free =
    let lab = or_parts (bytes_eq name (codes "lab")) _ free in
    let job = or_parts (bytes_eq name (codes "job")) _ lab.1 in
    let session = or_parts (bytes_eq name (codes "session")) _ job.1 in
    let end = or_parts (bytes_eq name (codes "end")) _ session.1 in
    let steps = or_parts (bytes_eq name (codes "steps")) _ end.1 in
    let patience = or_parts (bytes_eq name (codes "patience")) _ steps.1 in
    λ i. if lab.0 i then lab_line others else (if job.0 i then job_line others else (if session.0 i then session_line others
    else (if end.0 i then alone End others else (if steps.0 i then alone Steps others else (if patience.0 i then Unknown
    else command_line name others)))))

command_form : (name line : List ℕ) (others : List (List ℕ)) → NameParts name → fields line ≡ name ∷ others → form_of line ≡ Some (command_line name others)
command_form name line others h e = ap line_in e ∙ (λ i. if h.first i then None else Some (by_name name others h.free i))

pub read_form : (name : List ℕ) → NameParts name → form_of (name ++ codes " read") ≡ Some (Command name Reads)
read_form name h =
    command_form name (name ++ codes " read") (codes "read" ∷ []) h (fields_more name (codes "read") h.dark h.some
    ∙ ap (λ l. name ∷ l) (fields_one (codes "read") refl (omega arith)))

pub set_form : (name : List ℕ) (n : ℕ) → NameParts name → n ≤ 999999 → form_of (name ++ (codes " set " ++ decimal n)) ≡ Some (Command name (Sets (decimal n)))
set_form name n h small =
    command_form name (name ++ (codes " set " ++ decimal n)) (codes "set" ∷ decimal n ∷ []) h (fields_more name (codes "set " ++ decimal n) h.dark h.some
    ∙ ap (λ l. name ∷ l) (fields_more (codes "set") (decimal n) refl (omega arith)
    ∙ ap (λ l. codes "set" ∷ l) (fields_one (decimal n) (dark_decimal n small) (some_digit n small))))

pub add_form : (name : List ℕ) (n : ℕ) → NameParts name → n ≤ 999999 → form_of (name ++ (codes " add " ++ decimal n)) ≡ Some (Command name (Adds (decimal n)))
add_form name n h small =
    command_form name (name ++ (codes " add " ++ decimal n)) (codes "add" ∷ decimal n ∷ []) h (fields_more name (codes "add " ++ decimal n) h.dark h.some
    ∙ ap (λ l. name ∷ l) (fields_more (codes "add") (decimal n) refl (omega arith)
    ∙ ap (λ l. codes "add" ∷ l) (fields_one (decimal n) (dark_decimal n small) (some_digit n small))))

-- ---- these lines have no line end within

pub shown_behind : (front word : List ℕ) → list_all is_shown front ≡ true → list_all is_shown word ≡ true → list_all is_shown (front ++ word) ≡ true
shown_behind front word h k = list_all-append is_shown front word ∙ (λ i. h i && k i)

pub shown_decimal : (n : ℕ) → n ≤ 999999 → list_all is_shown (decimal n) ≡ true
shown_decimal n small = dark_shown (decimal n) (dark_decimal n small)
