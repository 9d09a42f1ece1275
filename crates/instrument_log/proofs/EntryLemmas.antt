-- Packed entries spell what they were packed from.
use Rattle.std.proofs.Common.{◌≡◌, ℕ, ◌+◌, ◌*◌, ◌/◌, ◌%◌, ◌^◌, ◌<◌, arith, refl, ap, ◌∙◌}
use Rattle.lab_plan.specs.declared.verb.Verb.{Verb}
use Rattle.lab_plan.specs.declared.verb.Verb.TheVariants.{Set, Add, Read}
use Rattle.lab_plan.specs.Verbs.{verb_number}
use Rattle.instrument_log.specs.declared.entry.Entry.{Entry}
use Rattle.instrument_log.specs.Entries.{verb_code, verb_of, IsWithinLimits, entry_bytes, entry_of}

two : (n : ℕ) → n < 2 ^ 16 → n % 256 + 256 * (n / 256 % 256) ≡ n
two n h = omega arith

three : (n : ℕ) → n < 2 ^ 24 → n % 256 + 256 * (n / 256 % 256) + 65536 * (n / 65536 % 256) ≡ n
three n h = omega arith

verb_of-byte : (v : Verb) → verb_of (verb_code v % 256) (verb_number v) ≡ v
verb_of-byte (Set n) = refl
verb_of-byte (Add n) = refl
verb_of-byte Read = refl

-- entries with the same fields are the same
entry_same : (x y : Entry) → x.job ≡ y.job → x.session ≡ y.session → x.place ≡ y.place → x.length ≡ y.length → x.verb ≡ y.verb → x.value ≡ y.value → x ≡ y
entry_same x y job session place length verb value = λ i. record {
  job = job i;
  session = session i;
  place = place i;
  length = length i;
  verb = verb i;
  value = value i;
}

-- the entry that the bytes of an entry spell is that entry
pub entry_of-entry_bytes : (entry : Entry) → IsWithinLimits entry → entry_of (entry_bytes entry) ≡ entry
unfolding entry_bytes entry_of
entry_of-entry_bytes entry within = entry_same _ entry
    (omega (arith, within.job_within))
    (two entry.session (omega (arith, within.session_to)))
    (three entry.place (omega (arith, within.place_to, within.length_to)))
    (three entry.length (omega (arith, within.length_to)))
    (ap (λ n. verb_of (verb_code entry.verb % 256) n) (three (verb_number entry.verb) (omega (arith, within.verb_fits))) ∙ verb_of-byte entry.verb)
    (three entry.value (omega (arith, within.value_to)))
