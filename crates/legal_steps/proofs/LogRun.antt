-- What is so of the logs after every list of legal events.
use Rattle.std.proofs.Common.{◌≡◌, ℕ, ◌<◌, ◌≤◌, true, length, List, [], ◌∷◌, ◌++◌, map, replicate, slice_index_or, sym, ap, subst, ◌∙◌, inl, inr, refl, arith, append_assoc}
use Rattle.std.proofs.lemmas.Bool.{cases_lt}
use Rattle.std.proofs.lemmas.List.{append-nil, get_or-replicate, get_or_past, length-replicate}
use Rattle.std.proofs.lemmas.List.Elements.{All-nil, All-get_or}
use Rattle.lab_plan.specs.declared.verb.Verb.{Verb}
use Rattle.lab_plan.specs.declared.verb.Verb.TheVariants.{Set, Add, Read}
use Rattle.lab_plan.specs.Verbs.{Fits as FitsDial}
use Rattle.lab_plan.specs.LabPlan.{LabPlan, commands}
use Rattle.lab_plan.specs.IsPlan.{IsPlan, AllFit}
use Rattle.instrument_log.specs.declared.entry.Entry.{Entry}
use Rattle.instrument_log.specs.Dial.{turned, dial, HasDialValues}
use Rattle.instrument_log.proofs.PartLemmas.{HasDialValues-push, dial-push}
use Rattle.legal_steps.specs.declared.phase.Drinking.{Drinking}
use Rattle.legal_steps.specs.declared.phase.Drinking.TheVariants.{Tranquil, Thirsty, Drinking as Drinks, Reaching, Retired}
use Rattle.legal_steps.specs.declared.event.Event.{Event}
use Rattle.legal_steps.specs.declared.event.Event.TheVariants.{Act}
use Rattle.legal_steps.specs.State.{State, Seat, seat, phase, log, idle_phase, no_seat, IsInSession}
use Rattle.legal_steps.specs.Fitting.{Fits}
use Rattle.legal_steps.specs.Legal.{May, after}
use Rattle.legal_steps.specs.Run.{IsLegalFrom, after_all}
use Rattle.legal_steps.specs.Opening.{IsOpening, idle_seat}
use Rattle.legal_steps.specs.WholeLogs.{IsSessionOf, line_of, ended_by, ended_sessions}
use Rattle.legal_steps.proofs.FitsLaw.{fits_after}
use Rattle.legal_steps.proofs.BottleLaw.{IsServed, served_after}
use Rattle.legal_steps.proofs.ExclusionLaw.{exclusive}
use Rattle.legal_steps.proofs.OpeningLemmas.{fits_opening, served_opening, opening_seat}
use Rattle.legal_steps.proofs.LogBooks.{Stage, Books, stage_of, books, put-cases, is_in_session, holds_at, HasOneHolder, one_holder_from}
use Rattle.legal_steps.proofs.LogMoves.{Can, booked, can_from, books_after, next_of, entry_of}
use Rattle.legal_steps.proofs.LogEnded.{AreStages, IsFresh, IsFresh-after, HasEnded, HasEnded-after, IsPast, ended_on, ended_on_is}
use Rattle.legal_steps.proofs.LogKept.{IsKept, IsKept-after, HasLeft}
use Rattle.legal_steps.proofs.RoomLaw.{IsRoomy, IsRoomy-after}

-- each entry of each log has the value that the dial had after its command
abbrev pub AreDialled : Books → Type 0
AreDialled b = (i : ℕ) → HasDialValues (b.logs i)

AreDialled-after : (plan : LabPlan) (b : Books) (event : Event) → AreDialled b → AreDialled (booked plan b event)
AreDialled-after plan b (Act j) h i =
    put-cases (λ n entries. HasDialValues entries) b.logs (next_of plan b j).0 _ i
    (λ here. HasDialValues-push (b.logs (next_of plan b j).0) (entry_of plan b j) (h (next_of plan b j).0) refl)
    (λ other. h i)
AreDialled-after plan b _ h i = h i

-- the dial of each instrument is within its numbers
abbrev pub AreSmall : Books → Type 0
AreSmall b = (i : ℕ) → dial (b.logs i) ≤ 999999

turned-small : (verb : Verb) (value : ℕ) → FitsDial verb → value ≤ 999999 → turned verb value ≤ 999999
unfolding turned
turned-small (Set number) value fit small = fit
turned-small (Add number) value fit small = omega arith
turned-small Read value fit small = small

-- the next command's number fits the dial
pub verb-fits : (plan : LabPlan) (b : Books) (j : ℕ) → AllFit plan
    → (b.stages j).position < length (commands plan j (b.stages j).session) → FitsDial (next_of plan b j).1
verb-fits plan b j fit left =
    let P : ℕ × Verb → Type 0 = λ command. FitsDial command.1 in
    All-get_or P (commands plan j (b.stages j).session) (b.stages j).position _ left (fit j (b.stages j).session)

pub value-small : (plan : LabPlan) (b : Books) (j : ℕ) → AllFit plan
    → (b.stages j).position < length (commands plan j (b.stages j).session) → AreSmall b → (entry_of plan b j).value ≤ 999999
value-small plan b j fit left small =
    turned-small (next_of plan b j).1 (dial (b.logs (next_of plan b j).0)) (verb-fits plan b j fit left) (small (next_of plan b j).0)

AreSmall-after : (plan : LabPlan) (b : Books) (event : Event) → AllFit plan → HasLeft plan b → Can plan b event → AreSmall b → AreSmall (booked plan b event)
AreSmall-after plan b (Act j) fit left can h i =
    put-cases (λ n entries. dial entries ≤ 999999) b.logs (next_of plan b j).0 _ i
    (λ here. omega (arith, dial-push (b.logs (next_of plan b j).0) (entry_of plan b j), value-small plan b j fit (left j can.0 can.1) h))
    (λ other. h i)
AreSmall-after plan b _ fit left can h i = h i

-- what is so of the books, with the sessions that ended
pub record AreKept (plan : LabPlan) (b : Books) (ended : List (ℕ × ℕ)) : Type 0 where
  pub fresh : IsFresh b
  pub ended_so : HasEnded plan b ended
  pub kept : (i : ℕ) → IsKept plan b ended i
  pub dialled : AreDialled b
  pub small : AreSmall b
  pub roomy : IsRoomy plan b

AreKept-after : (plan : LabPlan) (b : Books) (ended : List (ℕ × ℕ)) (event : Event) → AllFit plan
    → HasOneHolder plan b → HasOneHolder plan (booked plan b event) → HasLeft plan b → AreStages plan b →
    Can plan b event → AreKept plan b ended → AreKept plan (booked plan b event) (ended ++ ended_on b event)
AreKept-after plan b ended event verbs one next left fit can h = record {
  fresh = IsFresh-after plan b event h.fresh;
  ended_so = HasEnded-after plan b ended event fit can h.ended_so;
  kept = λ i. IsKept-after plan b ended i event one next h.fresh left can (h.kept i);
  dialled = AreDialled-after plan b event h.dialled;
  small = AreSmall-after plan b event verbs left can h.small;
  roomy = IsRoomy-after plan b event fit left can h.roomy;
}

-- what is so of a state, with the sessions that ended
pub record IsLogged (plan : LabPlan) (s : State) (ended : List (ℕ × ℕ)) : Type 0 where
  pub fits : Fits plan s
  pub served : IsServed plan s
  pub books_kept : AreKept plan (books s) ended

in_session_from : (d : Drinking) → is_in_session d ≡ true → IsInSession d
in_session_from Tranquil e = absurd (cc)
in_session_from Thirsty e = inl refl
in_session_from Drinks e = inr (inl refl)
in_session_from Reaching e = inr (inr refl)
in_session_from Retired e = absurd (cc)

pub stages_fit : (plan : LabPlan) (s : State) → Fits plan s → AreStages plan (books s)
stages_fit plan s fit j job = record {
  session_there = (fit.seats_fit j job).phase_within.session_there;
  begun = λ h. (fit.seats_fit j job).phase_within.begun (in_session_from (seat s j).phase.drinking h);
}

pub has_left : (plan : LabPlan) (s : State) → Fits plan s → HasLeft plan (books s)
has_left plan s fit j job reaching = (fit.seats_fit j job).phase_within.command_left reaching

pub one_holder : (plan : LabPlan) (s : State) → IsPlan plan → IsServed plan s → HasOneHolder plan (books s)
one_holder plan s is_plan served = one_holder_from plan s (exclusive plan s is_plan served)

pub logged_after : (plan : LabPlan) (s : State) (ended : List (ℕ × ℕ)) (event : Event) → IsPlan plan
    → May plan s event → IsLogged plan s ended → IsLogged plan (after plan s event) (ended ++ ended_by s event)
logged_after plan s ended event is_plan may h =
    let s' : State = after plan s event in
    let same : books s' ≡ booked plan (books s) event = books_after plan s event is_plan.draft.named h.fits may in
    let served' : IsServed plan s' = served_after plan s event h.fits h.served may in
    let one' : HasOneHolder plan (booked plan (books s) event) = subst (HasOneHolder plan) same (one_holder plan s' is_plan served') in
    let kept' = AreKept-after plan (books s) ended event is_plan.draft.fit (one_holder plan s is_plan h.served) one'
    (has_left plan s h.fits) (stages_fit plan s h.fits) (can_from plan s event may) h.books_kept in
    record {
      fits = fits_after plan s event h.fits may;
      served = served';
      books_kept = subst (λ later. AreKept plan (books s') (ended ++ later)) (ended_on_is s event)
          (subst (λ b. AreKept plan b (ended ++ ended_on (books s) event)) (sym same) kept');
    }

pub logged_run : (plan : LabPlan) (s : State) (ended : List (ℕ × ℕ)) (events : List Event) → IsPlan plan → IsLegalFrom plan s events
    → IsLogged plan s ended → IsLogged plan (after_all plan s events) (ended ++ ended_sessions plan s events)
logged_run plan s ended [] is_plan legal h = subst (IsLogged plan s) (sym (append-nil ended)) h
logged_run plan s ended (event ∷ events) is_plan legal h =
    let s' : State = after plan s event in
    subst (IsLogged plan (after_all plan s' events)) (append_assoc ended (ended_by s event) (ended_sessions plan s' events))
    (logged_run plan s' (ended ++ ended_by s event) events is_plan legal.1 (logged_after plan s ended event is_plan legal.0 h))

-- ---- opening states

-- every job of an opening state is idle, also past the plan's
pub opening_phase : (plan : LabPlan) (s : State) (j : ℕ) → IsOpening plan s → phase s j ≡ idle_phase
opening_phase plan s j h = elim (cases_lt j (length plan.jobs)) [
  | inl job ↦ ap (λ (x : Seat). x.phase) (opening_seat plan s j h job)
  | inr past ↦
      let few : length s.seats ≤ j = omega (arith, past, ap length h.idle, length-replicate (length plan.jobs) (idle_seat plan)) in
      ap (λ (x : Seat). x.phase) (get_or_past s.seats j no_seat few)
]

opening_stage : (plan : LabPlan) (s : State) (j : ℕ) → IsOpening plan s → (books s).stages j ≡ stage_of idle_phase
opening_stage plan s j h = ap stage_of (opening_phase plan s j h)

opening_log : (plan : LabPlan) (s : State) (i : ℕ) → IsOpening plan s → log s i ≡ []
opening_log plan s i h = ap (λ logs. slice_index_or logs i []) h.logs_empty ∙ elim (cases_lt i (length plan.instruments)) [
  | inl inside ↦ get_or-replicate (length plan.instruments) i [] [] inside
  | inr past ↦ get_or_past (replicate (length plan.instruments) []) i [] (omega (arith, past, length-replicate {A = List Entry} (length plan.instruments) []))
]

no_value : HasDialValues []
no_value k entry got = cc

no_turn : dial [] ≤ 999999
unfolding dial
no_turn = omega arith

pub opening_logged : (plan : LabPlan) (s : State) → IsOpening plan s → IsLogged plan s []
opening_logged plan s h =
    let idle : Stage = stage_of idle_phase in
    record {
      fits = fits_opening plan s h;
      served = served_opening plan s h;
      books_kept = record {
        fresh = λ j _. ap (λ (x : Stage). x.position) (opening_stage plan s j h);
        ended_so = record {
          of_plan = All-nil (IsSessionOf plan);
          ascending = λ i j d below inside. absurd (omega (arith, inside));
          past = All-nil (IsPast (books s));
        };
        kept = λ i. inr ((λ j. ap (λ (x : Stage). holds_at plan j x i) (opening_stage plan s j h)), ap (map line_of) (opening_log plan s i h));
        dialled = λ i. subst HasDialValues (sym (opening_log plan s i h)) no_value;
        small = λ i. subst (λ entries. dial entries ≤ 999999) (sym (opening_log plan s i h)) no_turn;
        roomy = λ i. omega (arith, ap length (opening_log plan s i h));
      };
    }

-- after a legal list of events from an opening state
pub logged : (plan : LabPlan) (opening : State) (events : List Event) → IsPlan plan → IsOpening plan opening
    → IsLegalFrom plan opening events → IsLogged plan (after_all plan opening events) (ended_sessions plan opening events)
logged plan opening events is_plan opens legal = logged_run plan opening [] events is_plan legal (opening_logged plan opening opens)
