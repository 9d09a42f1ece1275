use Rattle.std.proofs.Common.{ℕ, ◌+◌, ◌<◌, ◌≤◌, ◌++◌, List, length, take, arith, refl, sym, ap, ◌∙◌, subst}
use Rattle.std.specs.List.{All}
use Rattle.std.proofs.lemmas.List.{length-take, take_all}
use Rattle.std.proofs.lemmas.Result.{IfOk-from_err}
use Rattle.lab_plan.specs.declared.verb.Verb.{Verb}
use Rattle.lab_plan.specs.declared.place.Place.{Place}
use Rattle.lab_plan.specs.LabPlan.{no_session, any_on}
use Rattle.lab_plan.specs.SessionTables.{AreAllNeeds, IsSessionNeeds, places_of, all_places}
use Rattle.lab_plan.proofs.Places.{places_more, room_left}
use Rattle.lab_plan.proofs.Relations.{related_more, related_all}
use Rattle.lab_plan.proofs.session_table.JobTable.new.Goals as goal

pub loop-before-init : goal.loop-before-init
loop-before-init g c = record {
  needs = subst (AreAllNeeds (take 0 c.args.job.now.sessions)) (sym c.in_ok-needs.ensures.items) (refl, λ k inside. absurd (omega (arith, inside)));
  places = c.in_ok-places.ensures.items;
  room_needs = omega (arith, c.in_ok-needs.ensures.capacity);
  room_places = omega (arith, c.in_ok-places.ensures.capacity, ap (λ (l : List (ℕ × Verb)). length l) c.all_commands.ensures);
}

pub commands-commands-requires : goal.commands-commands-requires
commands-commands-requires g c = omega arith

pub of-requires : goal.of-requires
of-requires g c =
    let P : ℕ × Verb → Type 0 = λ command. command.0 < 56 in
    subst (All P) (sym c.commands-commands.ensures) (c.requires c.loop-before.before no_session (omega arith)).numbered

pub push_reserved-requires : goal.push_reserved-requires
push_reserved-requires g c =
    let before = c.loop-before.invariant in
    omega (arith, before.needs.0, length-take c.loop-before.before c.args.job.now.sessions, before.room_needs)

pub push_places-requires-clause-numbered : goal.push_places-requires-clause-numbered
push_places-requires-clause-numbered g c =
    let P : ℕ × Verb → Type 0 = λ command. command.0 < 56 in
    subst (All P) (sym c.commands-commands.ensures) (c.requires c.loop-before.before no_session (omega arith)).numbered

pub push_places-requires-clause-few : goal.push_places-requires-clause-few
push_places-requires-clause-few g c =
    subst (λ (l : List (ℕ × Verb)). length l ≤ 100000) (sym c.commands-commands.ensures) (c.requires c.loop-before.before no_session (omega arith)).few

pub named_by-requires : goal.named_by-requires
named_by-requires g c = c.requires

pub returns-in_err-needs : goal.returns-in_err-needs
returns-in_err-needs g c = IfOk-from_err c.from_residual.result _ c.from_residual.ensures.0

pub returns-in_err-places : goal.returns-in_err-places
returns-in_err-places g c = IfOk-from_err c.from_residual-in_err-places.result _ c.from_residual-in_err-places.ensures.0

pub returns : goal.returns
returns g c =
    let sessions = c.args.job.now.sessions in
    let k = c.loop-before.before in
    let done : length sessions ≤ k = omega arith in
    record {
      needs = related_all IsSessionNeeds no_session 0 sessions c.loop-before.needs.items k done c.loop-before.invariant.needs;
      places = c.loop-before.invariant.places ∙ ap all_places (take_all k sessions done);
      named = c.named_by.ensures;
    }

pub push_places-requires-clause-room : goal.push_places-requires-clause-room
push_places-requires-clause-room g c =
    let sessions = c.args.job.now.sessions in
    let k = c.loop-before.before in
    omega (
      arith,
      room_left sessions k (omega arith),
      ap (λ (l : List Place). length l) c.loop-before.invariant.places,
      ap (λ (l : List (ℕ × Verb)). length l) c.commands-commands.ensures,
      c.loop-before.invariant.room_places,
    )

pub loop-before-preserved : goal.loop-before-preserved
loop-before-preserved g c =
    let sessions = c.args.job.now.sessions in
    let k = c.loop-before.before in
    let before = c.loop-before.invariant in
    let inside : k < length sessions = omega arith in
    record {
      needs = subst (AreAllNeeds (take (k + 1) sessions)) (sym c.push_reserved.ensures.items)
          (related_more IsSessionNeeds no_session 0 sessions c.loop-before.needs.items k c.of.result inside
          (λ i. c.of.ensures i ∙ ap (any_on i) c.commands-commands.ensures) before.needs);
      places = c.push_places.ensures.places
          ∙ ap (λ l. l ++ places_of c.commands-commands.result.now) before.places
          ∙ ap (λ l. all_places (take k sessions) ++ places_of l) c.commands-commands.ensures
          ∙ sym (places_more sessions k inside);
      room_needs = omega (arith, c.push_reserved.ensures.capacity, before.room_needs);
      room_places = omega (arith, c.push_places.ensures.room, before.room_places);
    }
