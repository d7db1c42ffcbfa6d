-- `pnml_read::read_opened` meets its contract. Assumes nothing.
use mathlib.Core.Path.{◌≡◌, refl}
use native.Mathlib.Omega.{arith}
use Rattle.pnml_shape.specs.Theorem.{reading}
use Rattle.pnml_read.specs.Answer.{read_answer, answer_of}
use Rattle.pnml_read.proofs.Answers.{exit, few_most, left_answer, places_answer, transitions_answer, short-answer, granted-answer}
use Rattle.pnml_read.proofs.read_opened.Goals as goal

pub read_elements-requires : goal.read_elements-requires
read_elements-requires c = record { opened = c.requires; pre_value = (refl, refl, refl) }

pub returns-in_err-read : goal.returns-in_err-read
returns-in_err-read c =
    let room = c.args.room.now in
    exit (λ r. answer_of r room ≡ read_answer (reading c.args.text.now) room) _ _ c.from_residual.ensures.1 (left_answer _ _ _ _ _ c.in_err-read.ensures _)

pub returns-then-not-few : goal.returns-then-not-few
returns-then-not-few c =
    places_answer _ _ _ _ _ c.in_ok-read.ensures _ _ c.few.ensures c.if-not-few.true-raw

pub returns-then-not-few-2 : goal.returns-then-not-few-2
returns-then-not-few-2 c =
    transitions_answer _ _ _ _ _ c.in_ok-read.ensures _ _ c.few.ensures c.if-not-few.false-raw _
    c.few-2.ensures c.if-not-few-2.true-raw

pub overflow_mul-length : goal.overflow_mul-length
overflow_mul-length c = let z = few_most _ _ c.few-2.ensures c.if-not-few-2.false-raw in omega arith

pub returns-then-room-length : goal.returns-then-room-length
returns-then-room-length c =
    short-answer _ _ _ _ _ c.in_ok-read.ensures _ _ c.few.ensures c.if-not-few.false-raw _
    c.few-2.ensures c.if-not-few-2.false-raw c.if-room-length.true

pub put_records-requires : goal.put_records-requires
put_records-requires c =
    (few_most _ _ c.few-2.ensures c.if-not-few-2.false-raw, c.if-room-length.false)

pub overflow_cast-result : goal.overflow_cast-result
overflow_cast-result c =
    let z = few_most _ _ c.few.ensures c.if-not-few.false-raw in
    omega arith

pub returns : goal.returns
returns c =
    granted-answer _ _ _ _ _ c.in_ok-read.ensures _ _ c.few.ensures c.if-not-few.false-raw _
    c.few-2.ensures c.if-not-few-2.false-raw c.if-room-length.false _ c.put_records.ensures
