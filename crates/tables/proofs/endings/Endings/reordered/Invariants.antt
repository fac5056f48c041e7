use Rattle.tables.specs.Endings.{holds}
use Rattle.tables.proofs.endings.Endings.reordered.Given as goal

abbrev pub ghost-places : goal.ghost-places
ghost-places a = holds a.test.0.now
