use Rattle.std.proofs.Common.{◌≡◌, ◌+◌, ◌-◌, ◌<◌, ◌++◌, length, take, Some, None, sym, ap, ◌∙◌, ap₂, arith}
use Rattle.std.proofs.lemmas.List.{length-take-le, set-get_or}
use Rattle.automata.specs.Telling.{word, first_step}
use Rattle.tables.specs.Machines.{machine_of}
use Rattle.reduction.specs.Marks.{in_round}
use Rattle.reduction.proofs.WordLoop.{kept_past, word_at, word_over, written_all, written_front, written_more}
use Rattle.reduction.proofs.words.write_word.Goals as goal

pub returns-in_default : goal.returns-in_default
returns-in_default g c =
    let m = g.A.Algebra.model c.args.alg.now in
    let M = machine_of c.args.machine.now in
    let left = c.args.round - c.loop-place.place in
    let less = c.args.round - 1 - c.loop-place.place in
    let front = take c.args.round c.args.buffer.now in
    let size = length-take-le c.args.round c.args.buffer.now c.requires.room.1 in
    rw (set-get_or c.loop-place.entry-items c.loop-place.place c.entry-item.result)
    (written_front c.args.buffer.now c.loop-place.entry-items (word m M c.args.round c.args.first c.args.second) c.args.round c.loop-place.place c.requires.room.1 (omega arith)
    (written_all front c.loop-place.entry-items (word m M c.args.round c.args.first c.args.second) (word m M left c.loop-place.p c.loop-place.q) c.loop-place.place (omega arith) c.loop-place.invariant.0
    (word_at m c.args.machine.now c.args.marks.now c.requires.told left less c.loop-place.p c.loop-place.q None (omega arith) (omega (arith, c.requires.room.0))
    (c.in_default.ensures ∙ ap₂ (first_step m M.moves (in_round c.args.marks.now less)) c.min.ensures c.max.ensures))
    c.loop-place.invariant.1))

pub loop-place-preserved : goal.loop-place-preserved
loop-place-preserved g c =
    let m = g.A.Algebra.model c.args.alg.now in
    let M = machine_of c.args.machine.now in
    let left = c.args.round - c.loop-place.place in
    let less = c.args.round - (c.loop-place.place + 1) in
    let size = length-take-le c.args.round c.args.buffer.now c.requires.room.1 in
    let within : c.loop-place.place < length c.loop-place.entry-items = omega arith in
    let earlier : c.args.round - 1 - c.loop-place.place ≡ less = omega arith in
    let step = c.in-Some.step in (
      written_more c.loop-place.entry-items (word m M c.args.round c.args.first c.args.second) (word m M less step.left step.right) c.loop-place.place step.sample within
          (ap (λ ws. take c.loop-place.place c.loop-place.entry-items ++ ws)
          (sym (word_at m c.args.machine.now c.args.marks.now c.requires.told left less c.loop-place.p c.loop-place.q (Some step) (omega arith) (omega (arith, c.requires.room.0))
          (c.in-Some.ensures ∙ ap (λ n. first_step m M.moves (in_round c.args.marks.now n) c.min.result c.max.result) earlier
          ∙ ap₂ (first_step m M.moves (in_round c.args.marks.now less)) c.min.ensures c.max.ensures)))
          ∙ c.loop-place.invariant.0),
      kept_past (take c.args.round c.args.buffer.now) c.loop-place.entry-items c.loop-place.place step.sample c.loop-place.invariant.1,
    )

pub returns : goal.returns
returns g c =
    let m = g.A.Algebra.model c.args.alg.now in
    let M = machine_of c.args.machine.now in
    let left = c.args.round - c.loop-place.place in
    let size = length-take-le c.args.round c.args.buffer.now c.requires.room.1 in
    let placed = written_front c.args.buffer.now c.loop-place.entry-items (word m M c.args.round c.args.first c.args.second) c.args.round c.loop-place.place c.requires.room.1 (omega arith)
    (written_all (take c.args.round c.args.buffer.now) c.loop-place.entry-items (word m M c.args.round c.args.first c.args.second) (word m M left c.loop-place.p c.loop-place.q) c.loop-place.place (omega arith)
    c.loop-place.invariant.0 (word_over m M left c.loop-place.p c.loop-place.q (omega arith)) c.loop-place.invariant.1) in
    (omega (arith, placed.0), placed.1)
