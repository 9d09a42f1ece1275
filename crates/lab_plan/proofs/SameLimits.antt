-- The limits in the code are those of the specs.
use Rattle.std.proofs.Common.{◌≡◌, refl}
use Rattle.lab_plan.specs.declared.limits.TheConstants.{MOST_JOBS, MOST_INSTRUMENTS, MOST_SESSIONS, MOST_COMMANDS, MOST_BOTTLES, LARGEST_NUMBER}
use Rattle.lab_plan.specs.Limits.{most_jobs, most_instruments, most_sessions, most_commands, most_bottles, largest_number}

jobs_are : MOST_JOBS ≡ most_jobs
jobs_are = refl

instruments_are : MOST_INSTRUMENTS ≡ most_instruments
instruments_are = refl

sessions_are : MOST_SESSIONS ≡ most_sessions
sessions_are = refl

commands_are : MOST_COMMANDS ≡ most_commands
commands_are = refl

bottles_are : MOST_BOTTLES ≡ most_bottles
bottles_are = refl

number_is : LARGEST_NUMBER ≡ largest_number
number_is = refl
