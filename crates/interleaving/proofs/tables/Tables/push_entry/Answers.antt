use Rattle.std.proofs.Common.{◌≡◌, ◌<◌, length, arith, sym, subst}
use Rattle.std.proofs.lemmas.List.{get_or_read, length-map}
use Rattle.instrument_log.specs.InstrumentLog.{LogView, MayAppend}
use Rattle.interleaving.specs.Rooms.{log_at}
use Rattle.interleaving.proofs.LogLemmas.{log_read, pushed, fits_pushed, rooms_pushed}
use Rattle.interleaving.proofs.tables.Tables.push_entry.Goals as goal

pub push-requires-clause-may : goal.push-requires-clause-may
push-requires-clause-may g c =
    let there : c.instrument.inside.0 < length c.self.inside.plan.instruments = grind arith in
    let inside : c.instrument.inside.0 < length c.self.inside.logs.items =
    omega (arith, there, c.self.invariant.fits.logs_there, length-map c.self.inside.logs.items (λ (l : LogView). l.entries)) in
    let was : c.index_mut-log.result.now ≡ log_at c.self.inside.logs.items c.instrument.inside.0 =
    get_or_read c.self.inside.logs.items c.instrument.inside.0 _ inside c.index_mut-log.ensures.value _ in
    let read = log_read c.args.self.now c.self.inside.plan c.self.inside.edges.items c.self.inside.seats.items
    c.self.inside.logs.items c.instrument.inside.0 c.args.instrument c.index_mut-log.result.now
    c.self.view_is c.self.invariant.rooms inside c.instrument.view_is was in
    subst (λ log. MayAppend log c.args.entry) (sym read) c.requires.may

pub invariant_of-self : goal.invariant_of-self
invariant_of-self g c =
    let logs = c.self.inside.logs.items in
    let i = c.instrument.inside.0 in
    let there : i < length c.self.inside.plan.instruments = grind arith in
    let inside : i < length logs = omega (arith, there, c.self.invariant.fits.logs_there, length-map logs (λ (l : LogView). l.entries)) in
    let was : c.index_mut-log.result.now ≡ log_at logs i = get_or_read logs i _ inside c.index_mut-log.ensures.value _ in
    record {
      is_plan = c.self.invariant.is_plan;
      fits = fits_pushed c.self.inside.plan c.self.inside.edges.items c.self.inside.seats.items logs i _ c.self.invariant.fits;
      rooms =
          rooms_pushed c.self.inside.plan logs i c.index_mut-log.result.now
          c.push.new.log c.args.entry c.self.invariant.rooms inside was c.push.ensures;
    }

pub returns-clause-state : goal.returns-clause-state
returns-clause-state g c =
    let logs = c.self.inside.logs.items in
    let i = c.instrument.inside.0 in
    let there : i < length c.self.inside.plan.instruments = grind arith in
    let inside : i < length logs = omega (arith, there, c.self.invariant.fits.logs_there, length-map logs (λ (l : LogView). l.entries)) in
    let was : c.index_mut-log.result.now ≡ log_at logs i = get_or_read logs i _ inside c.index_mut-log.ensures.value _ in
    pushed c.args.self.now c.self.inside.plan c.self.inside.edges.items c.self.inside.seats.items
    logs i c.args.instrument c.index_mut-log.result.now c.push.new.log c.args.entry
    c.self.view_is c.instrument.view_is was c.push.ensures
