use Rattle.std.proofs.Common.{sym, ap, ◌∙◌}
use Rattle.reduction.proofs.ClassPlaces.{kept_beyond, kept_within, pushed}
use Rattle.reduction.proofs.classes.Classes.keep.Goals as goal

pub returns-then-class_of-len-clause-kept : goal.returns-then-class_of-len-clause-kept
returns-then-class_of-len-clause-kept c =
    let s = c.args.self.now in
    pushed c.args.state s.kept c.push.new.self c.push.result c.push.ensures c.requires
    ∙ ap (λ ks. record { items = ks; room = s.kept.room }) (sym (kept_beyond s.marks.now s.kept.items c.args.state c.class_of.result c.class_of.ensures (c.if-class_of-len.true ∙ c.len.ensures)))

pub returns-else-class_of-len-clause-kept : goal.returns-else-class_of-len-clause-kept
returns-else-class_of-len-clause-kept c =
    let s = c.args.self.now in
    ap (λ ks. record { items = ks; room = s.kept.room }) (sym (kept_within s.marks.now s.kept.items c.args.state c.class_of.result c.class_of.ensures (λ e. c.if-class_of-len.false (e ∙ sym c.len.ensures))))
