-- `compact::compact_accepted` meets its contract. Assumes nothing.
use borrow.Author.Rules.{rules}
use Rattle.compact_tables.specs.Tables.{tables}
use Rattle.compact.specs.Result.{OwnNumbers}
use Rattle.compact.proofs.Records.{few}
use Rattle.compact.proofs.Answers.{asked_inside, number_few, refused_short, ask-room, formulas-room, nodes-room, writes}
use Rattle.compact.proofs.compact_accepted.Goals as goal

pub reached-marks-requires : goal.reached-marks-requires
reached-marks-requires c =
    (c.requires.formulas_good, asked_inside c.requires c.ask_of-a.ensures)

pub bounds-numbers-f : goal.bounds-numbers-f
bounds-numbers-f c =
    few _ c.requires.formulas_good _ (asked_inside c.requires c.ask_of-a.ensures)

pub overflow_add-count : goal.overflow_add-count
overflow_add-count c =
    let h = number_few
    (record { ready = c.requires; asked = c.ask_of-a.ensures; marked = c.reached-marks.ensures; numbered = c.numbers_of-numbers.ensures }) in
    search rules

pub overflow_mul-count : goal.overflow_mul-count
overflow_mul-count c =
    let h = number_few
    (record { ready = c.requires; asked = c.ask_of-a.ensures; marked = c.reached-marks.ensures; numbered = c.numbers_of-numbers.ensures }) in
    search rules

pub returns-then-not-new_ask-count : goal.returns-then-not-new_ask-count
unfolding OwnNumbers
returns-then-not-new_ask-count c = (
  refused_short
      (record { ready = c.requires; asked = c.ask_of-a.ensures; marked = c.reached-marks.ensures; numbered = c.numbers_of-numbers.ensures })
      (tables c.args.new_ask.now c.args.new_formulas.now c.args.new_tree.now)
      c.if-not-new_ask-count.true-raw,
  tt,
)

pub put_ask-requires : goal.put_ask-requires
put_ask-requires c =
    ask-room
    (record { ready = c.requires; asked = c.ask_of-a.ensures; marked = c.reached-marks.ensures; numbered = c.numbers_of-numbers.ensures })
    (tables c.args.new_ask.now c.args.new_formulas.now c.args.new_tree.now)
    c.if-not-new_ask-count.false-raw

pub put_formulas-requires : goal.put_formulas-requires
put_formulas-requires c = (
  c.requires.formulas_good,
  formulas-room
      (record { ready = c.requires; asked = c.ask_of-a.ensures; marked = c.reached-marks.ensures; numbered = c.numbers_of-numbers.ensures })
      (tables c.args.new_ask.now c.args.new_formulas.now c.args.new_tree.now)
      c.if-not-new_ask-count.false-raw,
)

pub put_nodes-requires : goal.put_nodes-requires
put_nodes-requires c = (
  c.requires.nodes_good,
  nodes-room
      (record { ready = c.requires; asked = c.ask_of-a.ensures; marked = c.reached-marks.ensures; numbered = c.numbers_of-numbers.ensures })
      (tables c.args.new_ask.now c.args.new_formulas.now c.args.new_tree.now)
      c.if-not-new_ask-count.false-raw,
)

pub returns : goal.returns
returns c = (
  writes
      (record { ready = c.requires; asked = c.ask_of-a.ensures; marked = c.reached-marks.ensures; numbered = c.numbers_of-numbers.ensures })
      (tables c.args.new_ask.now c.args.new_formulas.now c.args.new_tree.now)
      c.if-not-new_ask-count.false-raw c.put_ask.ensures c.put_formulas.ensures c.put_nodes.ensures,
  tt,
)
