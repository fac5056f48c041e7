use Rattle.std.proofs.Common.{rules, not, length, tests, unwrap_or, ap, ◌∙◌}
use Rattle.std.proofs.lemmas.Iterator.{YieldsList-from_slice}
use Rattle.std.proofs.lemmas.Iterator.Search.{position_from_yields_List}
use Rattle.automata.specs.Reduction.{class_of}
use Rattle.reduction.specs.Marks.{apart_by}
use Rattle.reduction.proofs.ClassPlaces.{class_found}
use Rattle.reduction.proofs.classes.Classes.class_of.Goals as goal

pub returns : goal.returns
returns c =
    let ks = c.as_slice-kept.result.now in
    let apart = apart_by c.args.self.now.marks.now in
    c.unwrap_or.ensures
    ∙ ap (λ o. unwrap_or o (length ks)) (position_from_yields_List (λ r. not (apart r c.args.state)) _ _ c.position.result c.position.ensures.ran (YieldsList-from_slice ks cc) (λ x b q k. search (rules, tests)))
    ∙ class_found apart ks c.args.state ∙ ap (λ rs. class_of apart rs c.args.state) c.as_slice-kept.ensures
