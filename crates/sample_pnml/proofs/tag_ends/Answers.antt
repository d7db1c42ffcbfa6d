-- `sample_pnml::tag_ends` meets its contract. Assumes nothing.
use Rattle.std.proofs.Common.{arith}
use Rattle.std.proofs.lemmas.Grind.{common_steps}
use Rattle.std.proofs.lemmas.Bool.Decides.{nat_tests}
use Rattle.sample_pnml.specs.Built.{tag_ends}
use Rattle.sample_pnml.proofs.tag_ends.Goals as goal

pub returns-then-text-i-ne60 : goal.returns-then-text-i-ne60
unfolding tag_ends
returns-then-text-i-ne60 c = grind (arith, common_steps, nat_tests)

pub returns-else-text-i-ne60 : goal.returns-else-text-i-ne60
unfolding tag_ends
returns-else-text-i-ne60 c = grind (arith, common_steps, nat_tests)

pub returns-else-text-i-eq62 : goal.returns-else-text-i-eq62
unfolding tag_ends
returns-else-text-i-eq62 c = grind (arith, common_steps, nat_tests)
