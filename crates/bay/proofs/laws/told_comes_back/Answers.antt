use Rattle.bay.specs.Pages.{entry_of}
use Rattle.bay.proofs.laws.told_comes_back.Goals as goal

pub returns : goal.returns
returns c = λ classes terms limit most head file lost now used y is enough r a position h holds told mark.
    r.back.all a.number (entry_of a) (c.told_is_kept.ensures file lost r.found is enough r.read a position h holds told mark)
