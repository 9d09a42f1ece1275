-- What is noted and counted of sessions, after one round more.
use Rattle.std.proofs.Common.{◌≡◌, ℕ, ◌<◌, ◌≤◌, get_or, List, [], ◌∷◌, ◌++◌, length, map, replicate, refl, sym, ap, ◌∙◌, subst, arith}
use Rattle.std.specs.List.{All, range_with_len}
use Rattle.std.proofs.lemmas.List.{length-replicate}
use Rattle.std.proofs.lemmas.List.FromFn.{get_or-map-range_with_len, length-map-range_with_len}
use Rattle.lab_plan.specs.LabPlan.{LabPlan}
use Rattle.legal_steps.specs.declared.event.Event.{Event}
use Rattle.legal_steps.specs.declared.phase.JobState.{JobState}
use Rattle.legal_steps.specs.State.{phase, session}
use Rattle.edge_rule.specs.DeskView.{DeskView, known}
use Rattle.rounds.specs.Company.{first_front}
use Rattle.rounds.specs.Rounds.{known_in}
use Rattle.waiting.specs.Rounds.{joined}
use Rattle.waiting.specs.Noting.{LogView, fresh_log}
use Rattle.waiting.specs.Watching.{DeskKnows, KnowAll, OneMore, LogsTell}
use Rattle.waiting.proofs.Stands.{joined_more, length_more}
use Rattle.waiting.proofs.LogsTell.{tell_none as logs_none}
use Rattle.blocking.specs.Watching.{AreHeld}
use Rattle.blocking.specs.Tallying.{TallyView, Tells, FitsTally, EachThen, SessionsTell, NotedThen, tally_at, no_tally, fresh_tally}
use Rattle.blocking.proofs.Histories.{same_before, starts}
use Rattle.blocking.proofs.CountsTell.{none_held, held_now}
use Rattle.blocking.proofs.Changing.{any_default}
use Rattle.blocking.proofs.Tallies.{fits, fresh_tells, tells_then}

pub tell_none : (plan : LabPlan) (n : ℕ) → n ≡ length plan.jobs → (before after : List ℕ) → before ≡ replicate n 0 → after ≡ replicate n 0
    → (logs : List LogView) → logs ≡ replicate n fresh_log
    → (tallies : List TallyView) → tallies ≡ map (fresh_tally plan) (range_with_len 0 (length plan.jobs)) → SessionsTell plan before after logs tallies []
tell_none plan n n_is before after b_is a_is logs l_is tallies is = record {
  many_before = ap length b_is ∙ (length-replicate n 0 ∙ n_is);
  held = none_held plan n n_is after a_is;
  logs_tell = logs_none plan logs n n_is l_is;
  many = ap length is ∙ length-map-range_with_len (fresh_tally plan) 0 (length plan.jobs);
  tell = λ j inside. subst (Tells plan [] j)
      (sym (ap (λ l. tally_at l j) is ∙ get_or-map-range_with_len (fresh_tally plan) 0 (length plan.jobs) j j no_tally inside (omega arith)))
      (fresh_tells plan j inside);
}

-- each tally counts at the places of its job
pub all_fit : (plan : LabPlan) (rounds : List (List Event)) (tallies : List TallyView) → length tallies ≡ length plan.jobs
    → ((j : ℕ) → j < length plan.jobs → Tells plan rounds j (tally_at tallies j)) → All (FitsTally plan) tallies
all_fit plan rounds tallies many tell j d inside =
    subst (FitsTally plan) (any_default tallies j no_tally d inside) (fits plan rounds j (tally_at tallies j) (tell j (omega (arith, inside, many))))

-- the session of a job, by its desk
pub session_by : (plan : LabPlan) (h : List Event) (desks : List DeskView) → KnowAll plan h desks → (j : ℕ) (d : DeskView) → j < length plan.jobs
    → d ≡ get_or desks j d → (p : JobState) → p ≡ phase (known d) d.job → p.session ≡ session (known_in plan h j) j
session_by plan h desks all j d inside is p p_is =
    let k : DeskKnows plan h j d = subst (DeskKnows plan h j) (sym is) (all.each j d inside) in
    ap (λ (q : JobState). q.session) p_is ∙ (λ i. session (k.known_is i) (k.job_is i))

module _ (plan : LabPlan) (rounds : List (List Event)) (e : List Event) (round : ℕ) (desks : List DeskView) (m : OneMore plan rounds e round desks)
    (small : round ≤ 4294967295) (before after : List ℕ) (held_before : AreHeld plan (joined rounds) before)
    (held_after : AreHeld plan (first_front desks) after) where
  pub tell_more : (old new : List TallyView) (logs : List LogView) → LogsTell plan logs (rounds ++ e ∷ []) → length old ≡ length plan.jobs
      → ((j : ℕ) → j < length plan.jobs → Tells plan rounds j (tally_at old j)) → EachThen (NotedThen plan (first_front desks) before after) old new
      → length before ≡ length plan.jobs → SessionsTell plan before after logs new (rounds ++ e ∷ [])
  tell_more old new logs logs_tell long tell each many =
      let now : List (List Event) = rounds ++ e ∷ [] in
      let few : length rounds < 4294967295 = let n = m.number in omega (arith, n, small) in
      let held = held_now plan rounds e round desks m small before after held_before held_after in record {
        many_before = many;
        held = held;
        logs_tell = logs_tell;
        many = each.many ∙ long;
        tell = λ j inside. tells_then plan rounds now (length rounds) refl (length_more rounds e) (same_before rounds e) few before after held_before held
            m.legal (e, joined_more rounds e) (starts rounds) j inside (tally_at old j) (tally_at new j) (tell j inside)
            (subst (λ h. NotedThen plan h before after j (tally_at old j) (tally_at new j)) m.front (each.each j (omega (arith, inside, long))));
      }
