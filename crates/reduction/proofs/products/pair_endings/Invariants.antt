use Rattle.automata.specs.Product.{chosen}
use Rattle.tables.specs.Endings.{holds}
use Rattle.reduction.proofs.products.pair_endings.Given as goal

abbrev pub ghost-places : goal.ghost-places
ghost-places a x = chosen a.test.0 (holds a.test.1 x.rule) (holds a.test.2 x.clause)
