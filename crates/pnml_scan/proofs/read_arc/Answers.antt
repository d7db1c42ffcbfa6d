-- `pnml_scan::read_arc` meets its contract. Assumes nothing.
use native.Mathlib.Omega.{arith}
use Rattle.pnml_scan.specs.Serving.{ArcAt}
use Rattle.pnml_scan.proofs.Exits.{exit}
use Rattle.pnml_scan.proofs.Parts.{head_at_name, head_at_index, head_of}
use Rattle.pnml_scan.proofs.Arcs.{arc_at_head, arc_at_source, arc_post, arc_pre}
use Rattle.pnml_scan.proofs.read_arc.Goals as goal

pub returns-in_err-name : goal.returns-in_err-name
returns-in_err-name c = exit (ArcAt _ _ _ _ _ _) _ _ c.from_residual.ensures.1 (arc_at_head _ _ _ (head_at_name _ _ _ c.in_err-name.ensures))

pub returns-in_err-index : goal.returns-in_err-index
returns-in_err-index c =
    exit (ArcAt _ _ _ _ _ _) _ _ c.from_residual-in_err-index.ensures.1
    (arc_at_head _ _ _ (head_at_index _ _ (omega arith) c.in_ok-name.ensures c.in_err-index.ensures))

pub returns-in_err-middle : goal.returns-in_err-middle
returns-in_err-middle c =
    exit (ArcAt _ _ _ _ _ _) _ _ c.from_residual-in_err-middle.ensures.1
    (arc_at_head _ _ _ (head_of _ _ (omega arith) c.in_ok-name.ensures c.in_ok-index.ensures c.in_err-middle.ensures))

pub returns-in_err-post : goal.returns-in_err-post
returns-in_err-post c =
    exit (ArcAt _ _ _ _ _ _) _ _ c.from_residual-in_err-post.ensures.1
    (arc_at_source _ _ _ (head_of _ _ (omega arith) c.in_ok-name.ensures c.in_ok-index.ensures c.in_ok-middle.ensures) c.pre_open.ensures
    c.in_err-post.ensures)

pub returns-then-post : goal.returns-then-post
returns-then-post c =
    arc_post _ _ _ (head_of _ _ (omega arith) c.in_ok-name.ensures c.in_ok-index.ensures c.in_ok-middle.ensures) c.pre_open.ensures
    c.in_ok-post.ensures c.if-post.true c.post_ends.ensures

pub returns : goal.returns
returns c =
    arc_pre _ _ _ (head_of _ _ (omega arith) c.in_ok-name.ensures c.in_ok-index.ensures c.in_ok-middle.ensures) c.pre_open.ensures
    c.in_ok-post.ensures c.if-post.false c.pre_ends.ensures
