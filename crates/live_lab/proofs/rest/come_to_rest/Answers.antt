use Rattle.live_lab.proofs.rest.come_to_rest.Goals as goal

pub returns-clause-rests : goal.returns-clause-rests
returns-clause-rests g c = let r = c.rest.ensures.rests in record {
  events = r.alone.events;
  rests = record {
    leads = r.alone.leads;
    between = r.alone.between;
    at_rest = record { all_done = r.all_done; quiet = r.quiet; nobody_dawdles = r.nobody_dawdles; reasons = r.reasons };
  };
  deeds = r.alone.deeds;
}
