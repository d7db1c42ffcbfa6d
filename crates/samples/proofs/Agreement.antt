-- The one proof over the list of starred samples: the definitions compute to what document 01 says. Assumes nothing.
use mathlib.Core.Path.{refl}
use Rattle.bitset.specs.Sets as sets
use Rattle.tables.specs.Bytes as numbers
use Rattle.tables.specs.Lists as lists
use Rattle.tables.specs.Below as below
use Rattle.tables.specs.Sizes as sizes
use Rattle.tables.specs.Faults as faults
use Rattle.net.specs.Step as step
use Rattle.net.specs.Table as table
use Rattle.net.specs.Answer as answer
use Rattle.walk.specs.State as state
use Rattle.walk.specs.Calls as calls
use lib.Count as count
use Rattle.pctl.specs.Table as formulas
use Rattle.tableau.specs.Rows as rows
use Rattle.tableau.specs.Rules as rules
use Rattle.nodes.specs.Nodes as nodes
use Rattle.nodes.specs.Links as links
use Rattle.nodes.specs.Trails as trails
use Rattle.family.specs.Family as family
use Rattle.faults.specs.Faults as judged
use Rattle.checker.specs.Outcomes as outcomes
use Rattle.texts.specs.Text as text
use Rattle.texts.specs.Line as lines
use Rattle.line.specs.Line as line
use Rattle.samples.specs.Starred.{starred, Agree}

pub agree : Agree starred
unfolding starred Agree sets.member sets.subset sets.disjoint sets.difference sets.intersection sets.union sets.within sets.collect numbers.little numbers.field lists.tab lists.up_to lists.first sizes.sized faults.scan_fault step.enabled_by step.missing_by step.occupied_by step.fired_by step.conflict_by step.enabled step.missing step.occupied step.fired step.touched step.conflict step.conflicts table.pre_at table.post_at table.action_at table.mark_at table.optional_at table.spare_at table.transitions table.net_of table.places_good table.table_sized table.record_bad answer.table_fault answer.load_fault answer.disabled answer.step_answer answer.firing state.started_at state.moved_to state.empty below.every_below state.sets_within state.transitions_good state.net_good state.state_good state.loaded calls.granted calls.load_answer calls.load_walk calls.fire_answer calls.fire_walk calls.loaded_answer calls.read_marking calls.read_count calls.read_next count.ones_in count.ones sets.passing step.next step.urgent step.urgents step.kept_after formulas.operator_at formulas.spare_at formulas.left_at formulas.right_at formulas.action_at formulas.formulas formulas.has_left formulas.has_right formulas.has_action formulas.operand_good formulas.fields_good formulas.formula_bad formulas.formulas_sized formulas.formulas_fault rows.table rows.row_of rules.fits rules.elem rules.named rules.met_by rules.condition rules.same_after rules.next_of rules.next_named rules.children_of rules.children rules.child_trail rules.carried rules.ranges rules.in_range nodes.ask_of nodes.nodes nodes.sequent_at nodes.node_at links.counts links.parent_good links.named links.children_good links.links_good trails.continues trails.trail_to trails.trail trails.on_trail family.same family.agree judged.root_good judged.fault_at outcomes.ask_good outcomes.tree_sized outcomes.ask_inside outcomes.last_fault outcomes.rest_fault outcomes.input_fault outcomes.net_for outcomes.bad outcomes.first_bad outcomes.scanned outcomes.check_outcome text.digits text.decimal line.accepted_line lines.placed_line line.line_of
agree = refl
