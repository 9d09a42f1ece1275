use Rattle.std.proofs.Common.{◌≡◌, ◌∷◌, ◌++◌, List, [], ℕ, length, sym, ap, ◌∙◌, subst, arith}
use Rattle.std.proofs.lemmas.List.Elements.{All-same}
use Rattle.rounds.specs.Company.{first_front}
use Rattle.waiting.specs.Rounds.{joined}
use Rattle.waiting.specs.Noting.{LogView}
use Rattle.waiting.proofs.Logs.{written_back}
use Rattle.blocking.specs.Watching.{AreHeld}
use Rattle.blocking.specs.Tallying.{TallyView, FitsTally, EachThen, NotedThen, SessionsTell}
use Rattle.blocking.proofs.SessionsTell.{tell_more, all_fit}
use Rattle.blocking.proofs.keepers.SessionCountsWatcher.note.Goals as goal

pub look-requires-clause-desks : goal.look-requires-clause-desks
look-requires-clause-desks g c = c.requires.more.know

pub look-requires-clause-many : goal.look-requires-clause-many
look-requires-clause-many g c = c.requires.told.many_before ∙ sym c.requires.more.know.many

pub note-requires : goal.note-requires
note-requires g c = let m = c.requires in record { rounds = m.rounds; events = m.events; more = m.more; told = m.told.logs_tell }

pub note_tallies-requires-clause-desks : goal.note_tallies-requires-clause-desks
note_tallies-requires-clause-desks g c = c.requires.more.know

pub note_tallies-requires-clause-before : goal.note_tallies-requires-clause-before
note_tallies-requires-clause-before g c = ap length (c.held_before.ensures ∙ c.look.ensures.before) ∙ c.requires.told.held.many

pub note_tallies-requires-clause-after : goal.note_tallies-requires-clause-after
note_tallies-requires-clause-after g c = ap length c.held_after.ensures ∙ c.look.ensures.after.many

pub note_tallies-requires-clause-many : goal.note_tallies-requires-clause-many
note_tallies-requires-clause-many g c = ap length c.as_mut_slice.ensures.value ∙ c.requires.told.many

pub note_tallies-requires-clause-fit : goal.note_tallies-requires-clause-fit
note_tallies-requires-clause-fit g c =
    let m = c.requires in
    All-same (FitsTally c.args.plan.now) c.as_mut_slice.result.now c.args.self.now.tallies.items c.as_mut_slice.ensures.value
    (all_fit c.args.plan.now m.rounds c.args.self.now.tallies.items m.told.many m.told.tell)

pub returns : goal.returns
returns g c = λ rounds events more tells.
    let plan = c.args.plan.now in let desks = c.args.desks.now in
    let before : List ℕ = c.look.new.self.before.items in let after : List ℕ = c.look.new.self.after.items in
    let old : List TallyView = c.args.self.now.tallies.items in let new : List TallyView = c.note_tallies.new.tallies in
    let same : length new ≡ length old = c.note_tallies.auto.tallies ∙ ap length c.as_mut_slice.ensures.value in
    let tallies = c.args.self.now.tallies in let logs : List LogView = c.note.new.self.items in
    let was : before ≡ c.args.self.now.held.after.items = c.look.ensures.before in
    subst (λ (l : List TallyView). SessionsTell plan before after logs l (rounds ++ events ∷ [])) (sym (written_back old new tallies.len tallies.ok.0 same))
    (tell_more plan rounds events c.args.round desks more (let fits = c.ranges.round.fits in omega (arith, fits)) before after
    (subst (AreHeld plan (joined rounds)) (sym was) tells.held) c.look.ensures.after old new logs
    (c.in_ok-note.ensures rounds events more tells.logs_tell) tells.many tells.tell
    (subst (λ (z : List ℕ × List ℕ × List TallyView). EachThen (NotedThen plan (first_front desks) z.0 z.1) z.2 new)
    (λ i. (c.held_before.ensures i, c.held_after.ensures i, c.as_mut_slice.ensures.value i)) c.in_ok-note_tallies.ensures)
    (ap length was ∙ tells.held.many))
