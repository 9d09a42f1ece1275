-- Whoever reaches for an instrument holds it: so no one else does, and its log stays.
use Rattle.std.proofs.Common.{◌≡◌, ◌≢◌, ℕ, ◌<◌, if◌then◌else◌, Bool, true, List, [], ◌∷◌, ◌++◌, length, set, refl, sym, ap, ◌∙◌, subst, inl, inr, append_assoc, append-nil, get_or-set_other}
use Rattle.std.proofs.lemmas.Bool.{cases_eq, eq-eqb, ne_eqb}
use Rattle.std.proofs.lemmas.List.Elements.{All-get_or}
use Rattle.lab_plan.specs.declared.verb.Verb.{Verb}
use Rattle.lab_plan.specs.declared.verb.Verb.TheVariants.{Read}
use Rattle.lab_plan.specs.LabPlan.{LabPlan, commands, command_at, place_at, length_at, session_names}
use Rattle.lab_plan.specs.IsPlan.{IsPlan}
use Rattle.instrument_log.specs.Dial.{turned, dial}
use Rattle.legal_steps.specs.declared.event.Event.{Event}
use Rattle.legal_steps.specs.declared.event.Event.TheVariants.{Look, AskFork, GiveFork, Soil, AskBottles, GiveBottles, Thirst, Hunger, Sit, Leave, Drink, Reach, Act, Quit, Retire, Glance, Withdraw}
use Rattle.legal_steps.specs.declared.phase.Drinking.TheVariants.{Drinking as Drinks, Reaching}
use Rattle.legal_steps.specs.State.{Seat, State, seat, log, phase, session, position, drinking}
use Rattle.legal_steps.specs.Legal.{May, after, next_command, next_entry}
use Rattle.legal_steps.specs.Opening.{the_opening}
use Rattle.legal_steps.specs.Fitting.{Fits}
use Rattle.legal_steps.specs.Holding.{Holds, IsExclusive}
use Rattle.legal_steps.proofs.PartLists.{names-next}
use Rattle.legal_steps.specs.Run.{actor}
use Rattle.turns.specs.History.{events_by, IsHistory, state_after}
use Rattle.turns.specs.Reaching.{IsReachingFor}
use Rattle.turns.proofs.Frame.{other_seat}
use Rattle.turns.proofs.Runs.{after_all-append, legal-begins, legal-goes_on}
use Rattle.turns.proofs.Histories.{history_fits, history_exclusive, reaching_still}

-- the instrument of a command that is left is one of the plan's, and the session names it
pub next_inside : (plan : LabPlan) (s : State) (j : ℕ) → IsPlan plan
    → position s j < length (commands plan j (session s j)) → (next_command plan s j).0 < length plan.instruments
next_inside plan s j is left =
    let P : ℕ × Verb → Type 0 = λ command. command.0 < length plan.instruments in
    All-get_or P (commands plan j (session s j)) (position s j) _ left (is.draft.named j (session s j))

pub next_named : (plan : LabPlan) (s : State) (j : ℕ) → position s j < length (commands plan j (session s j))
    → session_names plan j (session s j) (next_command plan s j).0 ≡ true
next_named plan s j left = names-next (commands plan j (session s j)) (position s j) (0, Read) left

-- a job that may reach holds the instrument of its next command
pub ready_holds : (plan : LabPlan) (s : State) (j : ℕ) → May plan s (Reach j) → Holds plan s j (next_command plan s j).0
ready_holds plan s j may = record { drinks = inl may.1; named = next_named plan s j may.2 }

pub reaching_left : (plan : LabPlan) (s : State) (j i : ℕ) → Fits plan s → IsReachingFor plan s j i → position s j < length (commands plan j (session s j))
reaching_left plan s j i fit r = (fit.seats_fit j r.job).phase_within.command_left r.reaching

pub reaching_holds : (plan : LabPlan) (s : State) (j i : ℕ) → Fits plan s → IsReachingFor plan s j i → Holds plan s j i
reaching_holds plan s j i fit r = record {
  drinks = inr r.reaching;
  named = subst (λ k. session_names plan j (session s j) k ≡ true) r.next (next_named plan s j (reaching_left plan s j i fit r));
}

-- no one reaches for the instrument of a job that is ready to
pub none_reaches : (plan : LabPlan) (s : State) (j k : ℕ) → Fits plan s → IsExclusive plan s
    → May plan s (Reach j) → IsReachingFor plan s k (next_command plan s j).0 → ⊥
none_reaches plan s j k fit one may r =
    let same : k ≡ j = one k j (next_command plan s j).0 (reaching_holds plan s k (next_command plan s j).0 fit r) (ready_holds plan s j may) in
    let both : Drinks ≡ Reaching = sym may.1 ∙ (ap (drinking s) (sym same) ∙ r.reaching) in
    cc

-- while a job reaches for an instrument, no other's event changes its log
log_else : (plan : LabPlan) (s : State) (j i : ℕ) (event : Event) → Fits plan s → IsExclusive plan s
    → IsReachingFor plan s j i → actor event ≢ j → May plan s event → log (after plan s event) i ≡ log s i
log_else plan s j i (Act k) fit one r ne may = elim (cases_eq i (next_command plan s k).0) [
  | inl is ↦ absurd (ne (one k j i (reaching_holds plan s k i fit (record { job = may.0; reaching = may.1; next = sym is })) (reaching_holds plan s j i fit r)))
  | inr other ↦ get_or-set_other s.logs (next_command plan s k).0 i _ [] other
]
log_else plan s j i (Look k e seen) fit one r ne may = refl
log_else plan s j i (AskFork k e) fit one r ne may = refl
log_else plan s j i (GiveFork k e) fit one r ne may = refl
log_else plan s j i (Soil k e) fit one r ne may = refl
log_else plan s j i (AskBottles k e set) fit one r ne may = refl
log_else plan s j i (GiveBottles k e set) fit one r ne may = refl
log_else plan s j i (Thirst k) fit one r ne may = refl
log_else plan s j i (Hunger k) fit one r ne may = refl
log_else plan s j i (Sit k) fit one r ne may = refl
log_else plan s j i (Leave k) fit one r ne may = refl
log_else plan s j i (Drink k) fit one r ne may = refl
log_else plan s j i (Reach k) fit one r ne may = refl
log_else plan s j i (Quit k) fit one r ne may = refl
log_else plan s j i (Retire k) fit one r ne may = refl
log_else plan s j i (Glance k other seen) fit one r ne may = refl
log_else plan s j i (Withdraw k) fit one r ne may = refl

-- a list without events of j begins with an event of another
pub not_mine : (j : ℕ) (x : Event) (l : List Event) → events_by j (x ∷ l) ≡ [] → (actor x ≢ j) × (events_by j l ≡ [])
not_mine j x l e = elim (cases_eq (actor x) j) [
  | inl is ↦ absurd
      (let e' : x ∷ events_by j l ≡ [] = sym (ap (λ (c : Bool). if c then x ∷ events_by j l else events_by j l) (eq-eqb (actor x) j is)) ∙ e in cc)
  | inr ne ↦ (ne, sym (ap (λ (c : Bool). if c then x ∷ events_by j l else events_by j l) (ne_eqb (actor x) j ne)) ∙ e)
]

-- what stays while j reaches for i and does nothing
pub log_kept : (plan : LabPlan) → IsPlan plan → (j i : ℕ) (h more : List Event)
    → IsHistory plan (h ++ more) → events_by j more ≡ [] → IsReachingFor plan (state_after plan h) j i
    → (log (state_after plan (h ++ more)) i ≡ log (state_after plan h) i)
log_kept plan is j i h [] legal none r = ap (λ l. log (state_after plan l) i) (append-nil h)
log_kept plan is j i h (x ∷ more) legal none r =
    let w : State = state_after plan h in
    let apart = not_mine j x more none in
    let before : IsHistory plan h = legal-begins plan (the_opening plan) h (x ∷ more) legal in
    let may : May plan w x = (legal-goes_on plan (the_opening plan) h (x ∷ more) legal).0 in
    let assoc : (h ++ x ∷ []) ++ more ≡ h ++ x ∷ more = append_assoc h (x ∷ []) more in
    let next : state_after plan (h ++ x ∷ []) ≡ after plan w x = after_all-append plan (the_opening plan) h (x ∷ []) in
    let still : phase (after plan w x) j ≡ phase w j = ap (λ (y : Seat). y.phase) (other_seat plan w x j (λ e. apart.0 (sym e))) in
    let r' : IsReachingFor plan (state_after plan (h ++ x ∷ [])) j i =
    subst (λ s. IsReachingFor plan s j i) (sym next) (reaching_still plan w (after plan w x) j i still r) in
    let rest = log_kept plan is j i (h ++ x ∷ []) more (subst (IsHistory plan) (sym assoc) legal) apart.1 r' in
    ap (λ l. log (state_after plan l) i) (sym assoc) ∙ (rest ∙ (ap (λ s. log s i) next
    ∙ log_else plan w j i x (history_fits plan h before) (history_exclusive plan h is before) r apart.0 may))

-- the entry of a job's next command, by its seat and the one log
pub next_entry_same : (plan : LabPlan) (s t : State) (j : ℕ) → seat s j ≡ seat t j
    → log s (next_command plan s j).0 ≡ log t (next_command plan t j).0 → next_entry plan s j ≡ next_entry plan t j
unfolding next_entry
next_entry_same plan s t j own logs =
    λ n. (let next : ℕ × Verb = command_at plan j (own n).phase.session (own n).phase.position in
    record {
      job = j;
      session = (own n).phase.session;
      place = place_at plan j (own n).phase.session (own n).phase.position;
      length = length_at plan j (own n).phase.session (own n).phase.position;
      verb = next.1;
      value = turned next.1 (dial (logs n));
    })
