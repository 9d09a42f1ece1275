-- What is written of a lab stays its parts.
use Rattle.std.proofs.Common.{◌≡◌, ◌≢◌, ℕ, ◌+◌, ◌-◌, ◌<◌, true, List, [], ◌∷◌, ◌++◌, length, refl, sym, ap, ◌∙◌, subst, inl, inr, arith, append_assoc, append-nil, length-append, length-set, get_or-set_same}
use Rattle.std.specs.Prelude.{codes, None, Ok}
use Rattle.lab_plan.specs.LabPlan.{LabPlan, SessionPlan, JobPlan, no_job, job_at, sessions}
use Rattle.lab_plan.specs.Longer.{with_session, with_one_more, more_refusal}
use Rattle.legal_steps.specs.declared.event.Event.{Event}
use Rattle.legal_steps.specs.declared.phase.Drinking.TheVariants.{Retired}
use Rattle.legal_steps.specs.State.{State, drinking}
use Rattle.legal_steps.specs.Opening.{the_opening}
use Rattle.legal_steps.specs.Run.{IsLegalFrom, after_all}
use Rattle.longer_plans.proofs.Retired.{retired_stays}
use Rattle.turns.proofs.Runs.{legal-goes_on}
use Rattle.interleaving.specs.Kept.{TapeView}
use Rattle.interleaving.specs.World.{WorldView, IsReachedBy, LeadsTo}
use Rattle.interleaving.specs.Adding.{WorldAdds}
use Rattle.live_lab.specs.Labs.{LabView}
use Rattle.live_lab.specs.Adding.{with_all, longer_by, AddsText}
use Rattle.script_reader.specs.More.{AreGranted, SessionsAreGranted}
use Rattle.written_steps.specs.StepLists.{script_head}
use Rattle.journal_texts.specs.Texts.{Piece, piece_text, journal_text, summed}
use Rattle.journal_texts.specs.More.{more_text}
use Rattle.journal_texts.specs.Parts.{Mark, Part, Took, Came, Said, Noted, plan_after, events_in, said, ArePlain, marks_text, AreMarks, parts_text, IsHistory}
use Rattle.journal_texts.proofs.Parts.{texts_stay}
use Rattle.journal_texts.proofs.Cuts.{taken_of, opening_stays, state_after, after_both, history_runs, plan_both, events_both, text_both, history_both}
use Rattle.lab_journal.specs.Taking.{IsOpenedKept, without_kept}
use Rattle.lab_journal.specs.Room.{HasMoreRoom}
use Rattle.lab_journal.specs.Resumed.{IsResumed}
use Rattle.lab_journal.specs.Laws.{ComesBackCut}
use Rattle.lab_journal.specs.Writing.{all_came, more_texts, IsWritten, StaysWritten}
use Rattle.lab_journal.proofs.Taken.{all_kept}

opened : (x : LabView) → IsOpenedKept x → IsWritten x.world.plan [] x.world
opened x is = record {
  history = tt;
  same_plan = refl;
  opening = ap (λ (v : LabView). v.world.opening) is.2;
  past = ap (λ (v : LabView). v.world.past) is.2 ∙ sym (ap (λ (v : LabView). v.world.kept.events) is.2);
}

done : (plan : LabPlan) (parts : List Part) (v w : WorldView) (events : List Event) → IsWritten plan parts v → LeadsTo v events w → w.kept.whole ≡ true
    → IsWritten plan parts w
done plan parts v w events is led whole =
    let go = led.goes_on in
    let all = all_kept v.kept go.more (ap (λ (k : TapeView). k.whole) (sym go.kept) ∙ whole) in
    let kept : w.kept.events ≡ v.kept.events ++ go.more = ap (λ (k : TapeView). k.events) go.kept ∙ all.1 in record {
      history = is.history;
      same_plan = led.same_plan ∙ is.same_plan;
      opening = go.same_opening ∙ is.opening;
      past = go.past ∙ (ap (λ (l : List Event). l ++ go.more) is.past ∙ (append_assoc (events_in parts) v.kept.events go.more
          ∙ ap (λ (l : List Event). events_in parts ++ l) (sym kept)));
    }

-- what is kept goes on legally behind the parts, and leads to the state
record GoesOnLegally (plan : LabPlan) (s : State) (events : List Event) (t : State) : Type 0 where
  legal : IsLegalFrom plan s events
  leads : t ≡ after_all plan s events

kept_goes_on : (plan : LabPlan) (parts : List Part) (w : WorldView) → IsWritten plan parts w → IsReachedBy w.plan w.opening w.past w.state w.counts
    → GoesOnLegally (plan_after plan parts) (state_after plan (the_opening plan) parts) w.kept.events w.state
kept_goes_on plan parts w is by =
    let q = plan_after plan parts in
    let o = the_opening plan in
    let before = events_in parts in
    let here : IsReachedBy q o (before ++ w.kept.events) w.state w.counts =
    subst (λ (z : LabPlan × State × List Event). IsReachedBy z.0 z.1 z.2 w.state w.counts) (λ i. (is.same_plan i, is.opening i, is.past i)) by in
    let run = history_runs plan parts is.history in record {
      legal = subst (λ (z : State). IsLegalFrom q z w.kept.events) (sym run.leads) (legal-goes_on q o before w.kept.events here.run.legal);
      leads = here.run.leads ∙ (after_both q o before w.kept.events ∙ ap (λ (z : State). after_all q z w.kept.events) (sym run.leads));
    }

added : (plan : LabPlan) (parts : List Part) (v w : WorldView) (j : ℕ) (session : SessionPlan) → IsWritten plan parts v
    → IsReachedBy v.plan v.opening v.past v.state v.counts → j < length v.plan.jobs → WorldAdds v j session (Ok tt) w
    → IsWritten plan (parts ++ Came j session true ∷ []) w
    × (parts_text plan (parts ++ Came j session true ∷ []) ≡ parts_text plan parts ++ more_text w.plan j (length (sessions v.plan j) + 1))
added plan parts v w j session is by there adds =
    let q = plan_after plan parts in
    let part = Came j session true in
    let go = kept_goes_on plan parts v is by in
    let alive : drinking (state_after plan (the_opening plan) parts) j ≢ Retired =
    λ retired. adds.0 (ap (λ (z : State). drinking z j) go.leads ∙ retired_stays q (state_after plan (the_opening plan) parts) v.kept.events j go.legal retired) in
    let longer : w.plan ≡ with_one_more q j session = adds.1.1 ∙ ap (λ (p : LabPlan). with_one_more p j session) is.same_plan in
    let same = adds.2 in
    let none = subst (λ (p : LabPlan). more_refusal p j session ≡ None) is.same_plan adds.1.0 in (
      record {
        history = history_both plan (the_opening plan) parts (part ∷ []) is.history (subst (λ (p : LabPlan). j < length p.jobs) is.same_plan there, none, alive, tt);
        same_plan = longer ∙ sym (plan_both plan parts (part ∷ []));
        opening = ap (λ (z : WorldView). z.opening) same ∙ is.opening;
        past = ap (λ (z : WorldView). z.past) same ∙ (is.past ∙ (λ i. sym (events_both parts (part ∷ []) ∙ append-nil (events_in parts)) i
            ++ sym (ap (λ (z : WorldView). z.kept.events) same) i));
      },
      text_both plan parts (part ∷ []) ∙ ap (λ (l : List ℕ). parts_text plan parts ++ l) (append-nil (more_text (with_one_more q j session) j (length (sessions q j) + 1))
          ∙ (λ i. more_text (sym longer i) j (length (sessions (sym is.same_plan i) j) + 1))),
    )

-- ---- sessions of a text, one behind the other

sessions_one : (p : LabPlan) (j : ℕ) (session : SessionPlan) → j < length p.jobs → length (sessions (with_one_more p j session) j) ≡ length (sessions p j) + 1
sessions_one p j session there =
    ap (λ (x : JobPlan). length x.sessions) (get_or-set_same p.jobs j (with_session (job_at p j) session) no_job there)
    ∙ length-append (sessions p j) (session ∷ [])

is_job_still : (p : LabPlan) (j k : ℕ) (session : SessionPlan) → k < length p.jobs → k < length (with_one_more p j session).jobs
is_job_still p j k session there = subst (λ (n : ℕ). k < n) (sym (length-set p.jobs j (with_session (job_at p j) session))) there

came_history : (q : LabPlan) (s : State) (j : ℕ) (some : List SessionPlan) → j < length q.jobs → drinking s j ≢ Retired → AreGranted q j some
    → IsHistory q s (all_came j some)
came_history q s j [] there alive granted = tt
came_history q s j (session ∷ some) there alive granted =
    (there, granted.0, alive, came_history (with_one_more q j session) s j some (is_job_still q j j session there) alive granted.1)

came_plan : (q : LabPlan) (j : ℕ) (some : List SessionPlan) → plan_after q (all_came j some) ≡ with_all q j some
came_plan q j [] = refl
came_plan q j (session ∷ some) = came_plan (with_one_more q j session) j some

came_events : (j : ℕ) (some : List SessionPlan) → events_in (all_came j some) ≡ []
came_events j [] = refl
came_events j (session ∷ some) = came_events j some

text_stays : (p : LabPlan) (j s : ℕ) (some : List SessionPlan) → j < length p.jobs → AreGranted p j some → s - 1 < length (sessions p j)
    → more_text (with_all p j some) j s ≡ more_text p j s
text_stays p j s [] there granted inside = refl
text_stays p j s (session ∷ some) there granted inside =
    let size = sessions_one p j session there in
    text_stays (with_one_more p j session) j s some (is_job_still p j j session there) granted.1 (omega (arith, inside, size))
    ∙ texts_stay p j s j session there granted.0 inside

came_texts : (p : LabPlan) (j : ℕ) (some : List SessionPlan) → j < length p.jobs → AreGranted p j some
    → parts_text p (all_came j some) ≡ more_texts (with_all p j some) j (length (sessions p j) + 1) (length some)
came_texts p j [] there granted = refl
came_texts p j (session ∷ some) there granted =
    let q = with_one_more p j session in
    let n = length (sessions p j) in
    let size : length (sessions q j) ≡ n + 1 = sessions_one p j session there in
    let still = is_job_still p j j session there in
    let first = text_stays q j (n + 1) some still granted.1 (omega (arith, size)) in
    let later = came_texts q j some still granted.1 ∙ ap (λ (k : ℕ). more_texts (with_all q j some) j (k + 1) (length some)) size in
    λ i. sym first i ++ later i

added_all : (plan : LabPlan) (parts : List Part) (x : LabView) (j : ℕ) (some : List SessionPlan) → IsWritten plan parts x.world
    → IsReachedBy x.world.plan x.world.opening x.world.past x.world.state x.world.counts → j < length x.world.plan.jobs → drinking x.world.state j ≢ Retired
    → AreGranted x.world.plan j some
    → IsWritten plan (parts ++ all_came j some) (longer_by x j some).world
    × (parts_text plan (parts ++ all_came j some)
    ≡ parts_text plan parts ++ more_texts (with_all x.world.plan j some) j (length (sessions x.world.plan j) + 1) (length some))
added_all plan parts x j some is by there awake granted =
    let q = plan_after plan parts in
    let o = the_opening plan in
    let came = all_came j some in
    let go = kept_goes_on plan parts x.world is by in
    let alive : drinking (state_after plan o parts) j ≢ Retired =
    λ retired. awake (ap (λ (z : State). drinking z j) go.leads ∙ retired_stays q (state_after plan o parts) x.world.kept.events j go.legal retired) in
    let job = subst (λ (p : LabPlan). j < length p.jobs) is.same_plan there in
    let taken = subst (λ (p : LabPlan). AreGranted p j some) is.same_plan granted in (
      record {
        history = history_both plan o parts came is.history (came_history q (state_after plan o parts) j some job alive taken);
        same_plan = ap (λ (p : LabPlan). with_all p j some) is.same_plan ∙ sym (plan_both plan parts came ∙ came_plan q j some);
        opening = is.opening;
        past = is.past ∙ ap (λ (l : List Event). l ++ x.world.kept.events)
            (sym (events_both parts came ∙ (ap (λ (l : List Event). events_in parts ++ l) (came_events j some) ∙ append-nil (events_in parts))));
      },
      text_both plan parts came ∙ (ap (λ (l : List ℕ). parts_text plan parts ++ l) (came_texts q j some job taken)
          ∙ (λ i. parts_text plan parts ++ more_texts (with_all (sym is.same_plan i) j some) j (length (sessions (sym is.same_plan i) j) + 1) (length some))),
    )

added_text : SessionsAreGranted → (plan : LabPlan) (parts : List Part) (x y : LabView) (text : List ℕ) (j : ℕ) → IsWritten plan parts x.world
    → IsReachedBy x.world.plan x.world.opening x.world.past x.world.state x.world.counts → j < length x.world.plan.jobs → AddsText text j x (Ok tt) y
    → (further : List SessionPlan) × IsWritten plan (parts ++ all_came j further) y.world
    × (parts_text plan (parts ++ all_came j further)
    ≡ parts_text plan parts ++ more_texts y.world.plan j (length (sessions x.world.plan j) + 1) (length further))
added_text grant plan parts x y text j is by there adds =
    let further = adds.0 in
    let all = added_all plan parts x j further is by there adds.1 (grant x.world.plan j text further by.is_plan there adds.2) in
    let same = sym adds.3 in (
      further,
      subst (λ (z : LabView). IsWritten plan (parts ++ all_came j further) z.world) same all.0,
      all.1 ∙ ap (λ (z : LabView). parts_text plan parts ++ more_texts z.world.plan j (length (sessions x.world.plan j) + 1) (length further)) same,
    )

commented : (plan : LabPlan) (parts : List Part) (w : WorldView) (words : List ℕ) → IsWritten plan parts w → ArePlain words
    → IsWritten plan (parts ++ Said words ∷ []) w × (parts_text plan (parts ++ Said words ∷ []) ≡ parts_text plan parts ++ (said words ++ codes "\n"))
commented plan parts w words is plain = (
  record {
    history = history_both plan (the_opening plan) parts (Said words ∷ []) is.history (plain, tt);
    same_plan = is.same_plan ∙ sym (plan_both plan parts (Said words ∷ []));
    opening = is.opening;
    past = is.past ∙ ap (λ (l : List Event). l ++ w.kept.events) (sym (events_both parts (Said words ∷ []) ∙ append-nil (events_in parts)));
  },
  text_both plan parts (Said words ∷ []) ∙ ap (λ (l : List ℕ). parts_text plan parts ++ l) (append-nil (said words ++ codes "\n")),
)

noted : (plan : LabPlan) (parts : List Part) (w : WorldView) (marks : List Mark) → IsWritten plan parts w → AreMarks marks
    → IsWritten plan (parts ++ Noted marks true ∷ []) w
    × (parts_text plan (parts ++ Noted marks true ∷ []) ≡ parts_text plan parts ++ summed (marks_text marks))
noted plan parts w marks is plain = (
  record {
    history = history_both plan (the_opening plan) parts (Noted marks true ∷ []) is.history (plain, tt);
    same_plan = is.same_plan ∙ sym (plan_both plan parts (Noted marks true ∷ []));
    opening = is.opening;
    past = is.past ∙ ap (λ (l : List Event). l ++ w.kept.events) (sym (events_both parts (Noted marks true ∷ []) ∙ append-nil (events_in parts)));
  },
  text_both plan parts (Noted marks true ∷ []) ∙ ap (λ (l : List ℕ). parts_text plan parts ++ l) (append-nil (summed (marks_text marks))),
)

took : (plan : LabPlan) (parts : List Part) (x : LabView) → IsWritten plan parts x.world → IsReachedBy x.world.plan x.world.opening x.world.past x.world.state x.world.counts
    → (more : List Part) × IsWritten plan more (without_kept x).world
    × (parts_text plan more ≡ parts_text plan parts ++ journal_text x.world.plan x.world.kept.events)
took plan parts x is by = these x.world.kept.events refl
  where
    these : (events : List Event) → x.world.kept.events ≡ events → (more : List Part) × IsWritten plan more (without_kept x).world
        × (parts_text plan more ≡ parts_text plan parts ++ journal_text x.world.plan x.world.kept.events)
    these [] none = (
      parts,
      record { history = is.history; same_plan = is.same_plan; opening = is.opening; past = is.past ∙ ap (λ (l : List Event). events_in parts ++ l) none },
      sym (ap (λ (l : List Event). parts_text plan parts ++ journal_text x.world.plan l) none ∙ append-nil (parts_text plan parts)),
    )
    these (event ∷ events) some =
        let q = plan_after plan parts in
        let piece : Piece = record { events = event ∷ events; ended = true } in
        let part = Took piece in
        let go = kept_goes_on plan parts x.world is by in (
          parts ++ part ∷ [],
          record {
            history = history_both plan (the_opening plan) parts (part ∷ []) is.history
                (subst (IsLegalFrom q (state_after plan (the_opening plan) parts)) some go.legal, tt);
            same_plan = is.same_plan ∙ sym (plan_both plan parts (part ∷ []));
            opening = is.opening;
            past = is.past ∙ (ap (λ (l : List Event). events_in parts ++ l) (some ∙ sym (append-nil (event ∷ events)))
                ∙ (sym (events_both parts (part ∷ [])) ∙ sym (append-nil (events_in (parts ++ part ∷ [])))));
          },
          text_both plan parts (part ∷ []) ∙ (ap (λ (l : List ℕ). parts_text plan parts ++ l) (append-nil (piece_text q piece))
              ∙ (λ i. parts_text plan parts ++ journal_text (sym is.same_plan i) (sym some i))),
        )

resumed : (plan : LabPlan) (script : List ℕ) (parts : List Part) (text : List ℕ) (cut : ComesBackCut plan script parts text) (n : ℕ) (x : LabView)
    → IsResumed (script_head script ++ text) n x → IsWritten plan cut.first x.world
resumed plan script parts text cut n x is =
    let there = (cut.resumed n x is).1 in record {
      history = cut.history;
      same_plan = there.same_plan;
      opening = there.opening ∙ opening_stays plan cut.first (taken_of plan (the_opening plan) cut.first cut.history);
      past = there.past ∙ ap (λ (l : List Event). events_in cut.first ++ l) (sym there.kept);
    }

roomier : (plan : LabPlan) (parts : List Part) (text : List ℕ) (x y : LabView) → IsWritten plan parts x.world → HasMoreRoom text x y
    → IsWritten plan parts y.world
roomier plan parts text x y is (inl same) = subst (λ (z : LabView). IsWritten plan parts z.world) (sym same.0) is
roomier plan parts text x y is (inr more) =
    subst (λ (z : LabView). IsWritten plan parts z.world) (sym more.6) (record {
      history = is.history;
      same_plan = is.same_plan;
      opening = is.opening;
      past = is.past ∙ ap (λ (l : List Event). events_in parts ++ l) more.4;
    })

pub stays_written : SessionsAreGranted → StaysWritten
stays_written grant = record { opened = opened; done = done; roomier = roomier; added = added; added_text = added_text grant; commented = commented; noted = noted; took = took; resumed = resumed }
